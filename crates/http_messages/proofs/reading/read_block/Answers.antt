use Rattle.std.proofs.Common.{ℕ, List, Some, None, Bool, true, ◌≡◌, ◌-◌, ◌≤◌, length, sym, ap, ◌∙◌, subst, arith}
use Rattle.http_messages.specs.declared.blocks.TheConstants.{MOST_HEAD}
use Rattle.http_messages.specs.Blocks.{block_end, window, MayStart}
use Rattle.http_messages.specs.Reading.{Same, Grows}
use Rattle.http_messages.proofs.Marks.{end_stays, none_stays, block_within, window_resumes}
use Rattle.http_messages.proofs.ReadingLaws.{with_rest, after_same}
use Rattle.http_messages.proofs.reading.read_block.Goals as goal

pub returns-in-Some-clause-found : goal.returns-in-Some-clause-found
returns-in-Some-clause-found g c =
    let held : List ℕ = c.loop-n.held.items in
    let n = c.in-Some.n in
    let front : window held ≡ c.window.result.now = sym (c.window.ensures ∙ ap window c.as_slice.ensures.value) in
    with_rest (λ before. block_end (window before) ≡ Some n) c.args.held.now.items held _ _ c.loop-n.invariant.same (end_stays held n (ap block_end front ∙ sym c.in-Some.ensures.value))

pub returns-in-Some-clause-holds : goal.returns-in-Some-clause-holds
returns-in-Some-clause-holds g c =
    let held : List ℕ = c.loop-n.held.items in
    let front : window held ≡ c.window.result.now = sym (c.window.ensures ∙ ap window c.as_slice.ensures.value) in
    let within = block_within held c.in-Some.n (ap block_end front ∙ sym c.in-Some.ensures.value) in
    (omega (arith, within.0), within.1)

pub returns-then-len-ge-MOST_HEAD-clause-found : goal.returns-then-len-ge-MOST_HEAD-clause-found
returns-then-len-ge-MOST_HEAD-clause-found g c =
    let held : List ℕ = c.loop-n.held.items in
    let front : window held ≡ c.window.result.now = sym (c.window.ensures ∙ ap window c.as_slice.ensures.value) in
    with_rest (λ before. (block_end (window before) ≡ None) × (MOST_HEAD ≤ length before)) c.args.held.now.items held _ _ c.loop-n.invariant.same (none_stays held (ap block_end front ∙ sym c.in_default.ensures.value) (omega arith))

pub loop-n-preserved : goal.loop-n-preserved
loop-n-preserved g c =
    let i = c.loop-n.invariant in
    let now = c.in-Ok-true.ensures in
    let held : List ℕ = c.loop-n.held.items in
    let front : window held ≡ c.window.result.now = sym (c.window.ensures ∙ ap window c.as_slice.ensures.value) in
    let P : Bool → Type 0 = λ more. Grows more held c.read_more.new.held.items (g.L.Link.reads c.loop-n.link) (g.L.Link.reads c.read_more.new.link) (g.L.Link.wire c.read_more.new.link) in
    let grown : P true = subst P c.in-Ok-true.field-0-test now.grows in
    let resumes = window_resumes held grown.0 c.read_more.new.held.items grown.1 (ap block_end front ∙ sym c.in_default.ensures.value) (omega arith) in
    let Q : ℕ → Type 0 = λ k. MayStart k (window c.read_more.new.held.items) in
    let same_start : c.saturating_sub-start.result ≡ length held - 3 = omega arith in
    record {
      same = after_same Same c.args.held.now.items held c.read_more.new.held.items _ _ _ i.same now.same;
      start = omega (arith, resumes.1);
      may_start = subst Q (sym same_start) resumes.0;
      weight = omega (arith, i.weight, now.weight);
      faults = now.counted.same ∙ i.faults;
    }
