-- No page that a number makes has a fault.
use Rattle.std.proofs.Common.{◌≡◌, ◌≤◌, ◌<◌, ◌^◌, ◌+◌, ◌*◌, ℕ, length, None, refl, sym, ◌∙◌, ap, subst, arith}
use Rattle.std.specs.List.{AllByRecursion}
use Rattle.snap_tree.specs.Trees.{rows_of, count}
use Rattle.snap_tree.specs.Faults.{tree_fault}
use Rattle.snap_tree.specs.Well.{AreApart, IsWell}
use Rattle.snap_tree.specs.WellRow.{IsWellRow}
use Rattle.snap_tree.proofs.Cuts.{length-rows_of}
use Rattle.snap_tree.proofs.Soundness.{sound_from_well}
use Rattle.made_pages.specs.Pages.{rows_before, made_page, page_fault}
use Rattle.made_pages.specs.declared.page.TheConstants.{PARTS}
use Rattle.made_pages.proofs.Sizes.{few_rows}
use Rattle.made_pages.proofs.Shape.{page_trees, page_rows}
use Rattle.made_pages.proofs.Numbers.{rows_numbered, apart}
use Rattle.made_pages.proofs.Each.{page_placed, rows_well}
use Rattle.made_pages.proofs.Light.{IsPlain, rows_plain, page_light, weighs_little}

page_well : (number i parts : ℕ) → parts ≤ 401 → i < 2 ^ 32 → IsWell (page_trees number i parts)
page_well number i parts few small =
    let t = page_trees number i parts in
    let rows : rows_of t ≡ rows_before number i parts = page_rows number i parts in
    let size : count t ≤ 5 + 6 * parts = omega (arith, few_rows number i parts, ap length rows, length-rows_of t) in
    let plain = subst (AllByRecursion IsPlain) (sym rows) (rows_plain number i parts) in
    record {
      rooted = refl;
      placed = page_placed number i parts;
      few = omega (arith, size, few);
      apart = subst AreApart (sym rows) (apart 1 (rows_before number i parts) (rows_numbered number i parts));
      rows_well = subst (AllByRecursion IsWellRow) (sym rows) (rows_well number i parts small (omega (arith, few)));
      light = omega (arith, size, few, weighs_little t (page_light number i parts (omega (arith, few))) plain);
    }

sound_parts : (number i parts : ℕ) → parts ≤ 401 → i < 2 ^ 32 → tree_fault (rows_before number i parts) ≡ None
sound_parts number i parts few small =
    ap tree_fault (sym (page_rows number i parts)) ∙ sound_from_well (page_trees number i parts) (page_well number i parts few small)

pub faultless : (number page : ℕ) → page < 2 ^ 32 → page_fault number page ≡ None
unfolding made_page
faultless number page small = sound_parts number page PARTS (omega arith) small
