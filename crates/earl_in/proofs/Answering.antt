-- What a call answers, by cases or as one choice.
use Rattle.std.proofs.Common.{Result, Ok, Err, refl, sym, inl, inr}
use Rattle.earl_in.specs.declared.claim.EarlFault.{EarlFault}
use Rattle.earl_in.specs.declared.claim.EarlFault.TheVariants.{OutOfMemory}
use Rattle.earl_in.specs.Reading.{Gives, Answers}

pub answers : {A : Type 0} (answer given : Result A EarlFault) → Gives answer given → Answers answer given
answers (Ok x) given gives = inl (sym gives)
answers (Err OutOfMemory) given gives = inr refl
answers (Err fault) given gives = inl (sym gives)
