use Rattle.std.proofs.Common.{◌≡◌, ◌≤◌, ℕ, List, ◌++◌, ◌||◌, length, take, drop, string_bytes, append_assoc, refl, ◌∙◌, sym, ap, subst, arith}
use Rattle.std.proofs.lemmas.List.{length-append}
use Rattle.std.proofs.lemmas.Str.{IsUtf8-string_bytes}
use Rattle.snap_tree.specs.Trees.{Trees, count}
use Rattle.texts.specs.Words.{blank}
use Rattle.acc_tree.specs.Frames.{under}
use Rattle.acc_tree.specs.Roles.{role_at}
use Rattle.acc_tree.specs.Seen.{seen_row, seen}
use Rattle.acc_tree.specs.Tags.{html_tag}
use Rattle.acc_name.specs.declared.named.How.TheVariants as how
use Rattle.acc_name.specs.declared.named.Name.{Name}
use Rattle.acc_name.specs.declared.told.Wanted.{Wanted}
use Rattle.acc_name.specs.Captions.{weighed, kept}
use Rattle.acc_name.specs.Hosts.{caption_of, is_captioning}
use Rattle.acc_name.specs.Names.{Heard, heard, is_select, said}
use Rattle.acc_name.specs.Placing.{place_at, gap_before, settled}
use Rattle.acc_name.specs.Voices.{asked_of, asked_for, says_within, seen_at, text_in}
use Rattle.acc_name.proofs.Hearing.{Remains, says_heard, remains-start, remains-step, remains-end}
use Rattle.acc_name.proofs.Marks.{front_at, later_at, boundary_at}
use Rattle.acc_name.proofs.telling.+hear.Goals as goal

-- what stands in front of a node's text, from where the texts of the roots begin
front_from : (start before gap front so_far : List ℕ) → front ≡ before ++ gap → before ≡ start ++ so_far → front ≡ start ++ (so_far ++ gap)
front_from start before gap front so_far front_is before_is = front_is ∙ ap (λ t. t ++ gap) before_is ∙ append_assoc start so_far gap

longer : (start rest text : List ℕ) → text ≡ start ++ rest → length start ≤ length text
longer start rest text is = omega (arith, ap length is, length-append start rest)

pub loop-branch-init : goal.loop-branch-init
loop-branch-init g t c = (
  omega arith,
  remains-start (asked_of c.args.scope (g.R.References.tells c.args.references.now)) c.args.above.now c.args.wanted (string_bytes c.args.content.now) c.nothing-so_far.result (seen c.args.trees)
      c.nothing-so_far.ensures.chosen c.nothing-so_far.ensures.caption c.nothing-so_far.ensures.blank,
)

pub settle-requires-clause-start : goal.settle-requires-clause-start
settle-requires-clause-start g t c =
    let asked = asked_of c.args.scope (g.R.References.tells c.args.references.now) in
    let inner = kept (heard asked c.under-beneath.result c.below.result.caption (seen c.in-Some.branch.kids)) in
    let begun = c.as_str-start.result.now in
    let content = string_bytes c.hear.new.content in
    let so_far = c.loop-branch.invariant.1.kept.so_far in
    let gap = gap_before c.place_of-place.result (seen_row c.in-Some.branch.row.now) in
    let front_is =
    front_from begun (string_bytes c.loop-branch.content) gap c.as_str-mark.result.now so_far (c.as_str-mark.ensures.value ∙ c.in_ok-part_before.ensures)
    (c.loop-branch.invariant.1.kept.stands ∙ sym (ap (λ t. t ++ so_far) c.as_str-start.ensures.value)) in
    let content_is : content ≡ begun ++ ((so_far ++ gap) ++ inner) =
    c.in_ok-inner.ensures.content ∙ ap (λ t. t ++ inner) (sym c.as_str-mark.ensures.value ∙ front_is) ∙ append_assoc begun (so_far ++ gap) inner in
    boundary_at begun ((so_far ++ gap) ++ inner) content (length begun) c.as_str-start.utf8 (IsUtf8-string_bytes c.hear.new.content) refl content_is

pub settle-requires-clause-mark : goal.settle-requires-clause-mark
settle-requires-clause-mark g t c =
    let asked = asked_of c.args.scope (g.R.References.tells c.args.references.now) in
    let inner = heard asked c.under-beneath.result c.below.result.caption (seen c.in-Some.branch.kids) in
    let front = c.as_str-mark.result.now in
    let content_is : string_bytes c.hear.new.content ≡ front ++ kept inner =
    c.in_ok-inner.ensures.content ∙ sym (ap (λ text. text ++ kept inner) c.as_str-mark.ensures.value) in
    boundary_at front (kept inner) (string_bytes c.hear.new.content) (length front) c.as_str-mark.utf8 (IsUtf8-string_bytes c.hear.new.content) refl content_is

pub settle-requires-clause-order : goal.settle-requires-clause-order
settle-requires-clause-order g t c =
    let begun = c.as_str-start.result.now in
    let so_far = c.loop-branch.invariant.1.kept.so_far in
    let gap = gap_before c.place_of-place.result (seen_row c.in-Some.branch.row.now) in
    let front_is =
    front_from begun (string_bytes c.loop-branch.content) gap c.as_str-mark.result.now so_far (c.as_str-mark.ensures.value ∙ c.in_ok-part_before.ensures)
    (c.loop-branch.invariant.1.kept.stands ∙ sym (ap (λ t. t ++ so_far) c.as_str-start.ensures.value)) in
    longer begun (so_far ++ gap) c.as_str-mark.result.now front_is

pub settle-requires-clause-blank : goal.settle-requires-clause-blank
settle-requires-clause-blank g t c =
    let asked = asked_of c.args.scope (g.R.References.tells c.args.references.now) in
    let inner = heard asked c.under-beneath.result c.below.result.caption (seen c.in-Some.branch.kids) in
    let front = c.as_str-mark.result.now in
    let content_is : string_bytes c.hear.new.content ≡ front ++ kept inner =
    c.in_ok-inner.ensures.content ∙ sym (ap (λ text. text ++ kept inner) c.as_str-mark.ensures.value) in
    c.in_ok-inner.ensures.blank ∙ sym (ap blank (later_at front (kept inner) (string_bytes c.hear.new.content) (length front) refl content_is))

pub loop-branch-preserved : goal.loop-branch-preserved
loop-branch-preserved g t c =
    let asked = asked_of c.args.scope (g.R.References.tells c.args.references.now) in
    let above = c.args.above.now in
    let wanted = c.args.wanted in
    let row = seen_row c.in-Some.branch.row.now in
    let kids = seen c.in-Some.branch.kids in
    let after = seen c.in-Some.branch.after in
    let start = string_bytes c.args.content.now in
    let before = string_bytes c.loop-branch.content in
    let held = heard asked c.under-beneath.result c.below.result.caption kids in
    let inner = heard asked (under above row) (caption_of row) kids in
    let held_is : held ≡ inner =
    ap (λ a. heard asked a c.below.result.caption kids) c.under-beneath.ensures ∙ ap (λ (w : Wanted). heard asked (under above row) w.caption kids) c.below.ensures in
    let front = c.as_str-mark.result.now in
    let mark = length front in
    let content = string_bytes c.hear.new.content in
    let content_is : content ≡ front ++ kept inner =
    c.in_ok-inner.ensures.content ∙ sym (ap (λ text. text ++ kept held) c.as_str-mark.ensures.value) ∙ ap (λ (h : Heard). front ++ kept h) held_is in
    let chosen = text_in c.in_ok-inner.inner.chosen in
    let chosen_is : chosen ≡ asked_for (wanted.chosen || is_select (html_tag row)) inner.chosen =
    c.in_ok-inner.ensures.chosen ∙ ap (λ (w : Wanted). asked_for w.chosen held.chosen) c.below.ensures
    ∙ ap (λ (h : Heard). asked_for (wanted.chosen || is_select (html_tag row)) h.chosen) held_is in
    let caption_is : c.in_ok-inner.inner.caption ≡ weighed inner.caption = c.in_ok-inner.ensures.caption ∙ ap (λ (h : Heard). weighed h.caption) held_is in
    let told = g.R.References.tells c.args.references.now (seen_at c.in-Some.branch.row.now c.in-Some.branch.kids above) in
    let text = says_within c.args.scope c.in_ok-told.told c.role_at-role.result row c.in_ok-inner.inner (drop mark content) in
    let name_is =
    says_heard asked c.in_ok-told.told how.Inner c.role_at-role.result above row kids wanted.chosen
    (drop mark content) chosen c.in_ok-inner.inner.caption (later_at front (kept inner) content mark refl content_is) chosen_is caption_is
    ∙ ap (λ told. said c.args.scope.node c.args.scope.hidden told how.Inner c.role_at-role.result row inner) c.in_ok-told.ensures.tells
    ∙ ap (λ role. said c.args.scope.node c.args.scope.hidden told how.Inner role row inner) c.role_at-role.ensures in
    let text_is : text ≡ (said c.args.scope.node c.args.scope.hidden told how.Inner (role_at above row) row inner).text = ap (λ (n : Name). n.text) name_is in
    let place = place_at c.loop-branch.so_far.caption (is_captioning wanted.caption row) in
    let front_is : front ≡ before ++ gap_before place row =
    c.as_str-mark.ensures.value ∙ c.in_ok-part_before.ensures ∙ ap (λ p. before ++ gap_before p row) c.place_of-place.ensures in
    let now_is : string_bytes c.settle.new.content ≡ settled place (length start) row (before ++ gap_before place row) text =
    c.in_ok-so_far.ensures.content
    ∙ ap (λ s. settled c.place_of-place.result (length s) row (take mark content) text) c.as_str-start.ensures.value
    ∙ ap (λ t. settled c.place_of-place.result (length start) row t text) (front_at front (kept inner) content mark refl content_is ∙ front_is)
    ∙ ap (λ p. settled p (length start) row (before ++ gap_before place row) text) c.place_of-place.ensures in
    let remains = subst (λ (trees : Trees). Remains asked above wanted start before c.loop-branch.so_far (seen trees) (seen c.args.trees)) c.in-Some.ensures c.loop-branch.invariant.1 in
    let smaller : count c.in-Some.branch.after ≤ count c.args.trees = omega (arith, c.loop-branch.invariant.0, ap count c.in-Some.ensures) in (
      smaller,
      remains-step asked above wanted start before (string_bytes c.settle.new.content) text c.loop-branch.so_far c.in_ok-so_far.so_far row kids after (seen c.args.trees) chosen
          remains text_is (IsUtf8-string_bytes c.args.content.now) (IsUtf8-string_bytes c.loop-branch.content) c.in_ok-so_far.ensures.utf8 chosen_is now_is c.in_ok-so_far.ensures.chosen c.in_ok-so_far.ensures.caption c.in_ok-so_far.ensures.blank,
    )

pub returns-clause-blank : goal.returns-clause-blank
returns-clause-blank g t c =
    let asked = asked_of c.args.scope (g.R.References.tells c.args.references.now) in
    (remains-end asked c.args.above.now c.args.wanted (string_bytes c.args.content.now) (string_bytes c.loop-branch.content) c.loop-branch.so_far (seen c.loop-branch.rest) (seen c.args.trees)
    (ap seen c.in_default.ensures) c.loop-branch.invariant.1).blank
