-- An object of three texts and a value, each member as a text, and what the whole text is.
use Rattle.std.specs.Prelude.{◌≡◌, ℕ, List, Option, Some}
use Rattle.json.specs.Print.{escape}
use Rattle.serde_json.specs.Data.{Data, string, object, no_members, put}
use Rattle.json_parts.specs.Parts.{value_of, part_of}
use Rattle.json_parts.specs.declared.members.Keys.{Keys}
use Rattle.json_parts.specs.declared.members.Members.{Members}

-- keys that are written as they are
pub record ArePlain (keys : Keys) : Type 0 where
  pub first : escape keys.first.now ≡ keys.first.now
  pub second : escape keys.second.now ≡ keys.second.now
  pub third : escape keys.third.now ≡ keys.third.now
  pub last : escape keys.last.now ≡ keys.last.now

-- an object that gets these members one after another
abbrev pub object_of : Keys → Members → Data → Data
object_of keys members d =
    object (put keys.last.now d (put keys.third.now (string members.third.now) (put keys.second.now (string members.second.now) (put keys.first.now (string members.first.now) no_members))))

-- Where the last member has a value nested at most 124 deep, the whole is the object of the texts and this value.
abbrev pub AreMembers : Keys → List ℕ → Members → Type 0
AreMembers keys whole members = (d : Data) → value_of 124 members.last.now ≡ Some d → part_of whole ≡ Some (object_of keys members d)
