-- What a call answers, by cases or as one choice.
use Rattle.std.proofs.Common.{Result, Ok, Err, refl, sym, inl, inr}
use Rattle.case_run.specs.declared.fault.CasesFault.{CasesFault}
use Rattle.case_run.specs.declared.fault.CasesFault.TheVariants.{OutOfMemory}
use Rattle.case_run.specs.Faults.{Gives, Answers}

pub answers : {A : Type 0} (answer given : Result A CasesFault) → Gives answer given → Answers answer given
answers (Ok x) given gives = inl (sym gives)
answers (Err OutOfMemory) given gives = inr refl
answers (Err fault) given gives = inl (sym gives)
