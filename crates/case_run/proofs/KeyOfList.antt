-- The key of the list of cases is written as it is.
use Rattle.std.proofs.Common.{◌≡◌, codes, refl}
use Rattle.json.specs.Print.{escape, escape_byte}

pub plain_key : escape (codes "cases") ≡ codes "cases"
unfolding escape_byte
plain_key = refl
