use Rattle.std.proofs.Common.{◌≡◌, Err, Result, subst}
use Rattle.snap_tree.specs.Trees.{Document}
use Rattle.snap_json.specs.declared.fault.SnapFault.{SnapFault}
use Rattle.snap_json.specs.declared.fault.SnapFault.TheVariants.{TooLong}
use Rattle.snap_json.specs.Faults.{Gives}
use Rattle.snap_json.specs.Pages.{kept_tree}
use Rattle.snap_json.proofs.NeverTooLong.{IsNoTooLong, kept_fits}
use Rattle.snap_json.proofs.reading.read_kept.Goals as goal

differs : (r given : Result Document SnapFault) → Gives r given → IsNoTooLong given → r ≡ Err TooLong → ⊥
differs r given gives fits e = let P : Result Document SnapFault → Type 0 = λ x. Gives x given in fits.differs (subst P e gives)

pub returns-clause-never_too_long : goal.returns-clause-never_too_long
returns-clause-never_too_long c = differs c.tree_in.result (kept_tree c.args.bytes.now) c.tree_in.ensures.exact (kept_fits c.args.bytes.now)
