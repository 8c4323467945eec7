-- What a call answers, by cases or as one choice.
use Rattle.std.proofs.Common.{Result, Ok, Err, refl, sym, inl, inr}
use Rattle.snap_json.specs.declared.fault.SnapFault.{SnapFault}
use Rattle.snap_json.specs.declared.fault.SnapFault.TheVariants.{OutOfMemory}
use Rattle.snap_json.specs.Faults.{Gives, Answers}

pub answers : {A : Type 0} (answer given : Result A SnapFault) → Gives answer given → Answers answer given
answers (Ok x) given gives = inl (sym gives)
answers (Err OutOfMemory) given gives = inr refl
answers (Err fault) given gives = inl (sym gives)
