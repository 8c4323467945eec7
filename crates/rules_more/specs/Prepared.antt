-- A hasher holds a message in one way at most.
use Rattle.std.specs.Prelude.{ℕ, List}
use Rattle.std.proofs.Props.{props}
use Rattle.sha2.specs.Hashers.{Holds256}
use Rattle.sha2.specs.Sha256.{Holds}
use Rattle.sha2.specs.declared.Sha256.{Sha256}

pub holds-prop : (s : Sha256) (m : List ℕ) → IsProp (Holds256 s m)
unfolding Holds
holds-prop s m = hlevel props
