use Rattle.std.proofs.Common.{◌≡◌, ◌∙◌, ap}
use Rattle.reaudit.specs.Known.{same_nodes}
use Rattle.reaudit.specs.Nodes.{reached_by, live_by}
use Rattle.reaudit.proofs.Reaching.{reached_live}
use Rattle.reaudit.proofs.nodes.nodes_of.Goals as goal

pub returns-clause-nodes : goal.returns-clause-nodes
returns-clause-nodes c =
    let marks = c.in_ok-marks.marks.items in
    let placed = c.in_ok-placed.placed.items in
    let live : c.in_ok-live.live.items ≡ live_by marks placed = c.in_ok-live.ensures ∙ (λ i. live_by (c.as_slice.ensures.value i) (c.as_slice-2.ensures.value i)) in
    record {
      placed = c.in_ok-placed.ensures;
      reached = c.in_ok-reached.ensures ∙ ap reached_by (c.as_slice-3.ensures.value ∙ live) ∙ reached_live marks placed;
      live = live;
      in_order = c.same_nodes-in_order.ensures ∙ (λ i. same_nodes (c.rows.ensures.rows i) (c.rows-2.ensures.rows i));
      relisted = c.is_relisted-relisted.ensures;
    }
