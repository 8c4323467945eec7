use Rattle.std.proofs.Common.{[], Some, ap, option_map}
use Rattle.std.specs.Cmp.Lexicographic.{pointwise}
use Rattle.std.specs.Option.{option_eq}
use Rattle.acc_tree.specs.Frames.{frame, above_of}
use Rattle.acc_tree.specs.Seen.{seen_row}
use Rattle.acc_tree.specs.Sights.{Sight}
use Rattle.page_keys.specs.Keys.{own, root_numbers}
use Rattle.page_keys.specs.Same.{same_node, same_frame, same_own}
use Rattle.page_changes.proofs.met.unmet.Goals as goal

pub returns : goal.returns
returns c =
    λ new kids ups others here none ahead pair.
    let row = seen_row c.args.row.now in
    record {
      frame = ap (λ o. option_eq same_frame (Some (frame (above_of ups) row)) (option_map (λ (s : Sight). frame s.above s.row) o)) none;
      own = ap (λ o. option_eq same_own (Some (own row)) (option_map (λ (s : Sight). own s.row) o)) none;
      roots = ap (λ o. option_eq (pointwise same_node) (Some (root_numbers kids)) (option_map (λ (s : Sight). root_numbers s.below) o)) none;
      beneath = [];
      below = tt;
      pair = (c.under_old-above.ensures kids ups (above_of others) here pair, c.nothing.ensures);
      after = ahead;
    }
