-- How a text stands in evidence.
use Rattle.std.specs.Prelude.{ℕ, List, ◌∷◌, ◌++◌, length, nat_le, if◌then◌else◌, codes, decimal}
use Rattle.sha2.specs.Sha256.{sha256}
use Rattle.hex.specs.Hex.{encode_lower}
use Rattle.rule_core.specs.declared.evidence.TheConstants.{LONGEST}

-- the digest of some bytes under SHA-256 (FIPS 180-4)
abbrev pub digest : List ℕ → List ℕ
digest bytes = sha256 bytes

-- what stands for a text that is too long to be kept: its length in bytes, and its digest
unfoldable pub digested : List ℕ → List ℕ
digested text = codes "long " ++ decimal (length text) ++ 32 ∷ encode_lower (digest text)

-- the text itself, where it has at most 4,096 bytes
unfoldable pub brief : List ℕ → List ℕ
brief text = if nat_le (length text) LONGEST then text else digested text
