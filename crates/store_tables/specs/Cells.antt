-- What the values of a stored row are read as. None where a value is out of range or isn't one.
use Rattle.std.specs.Prelude.{ℕ, zero, suc, pos, List, ◌==◌, nat_le, if◌then◌else◌, Option, Some, None, Result, Ok, Err}
use Rattle.sqlite_value.specs.declared.value.Value.{Value}
use Rattle.sqlite_value.specs.declared.value.Value.TheVariants.{Int, Text, Blob}
use Rattle.snap_tree.specs.Trees.{Document}
use Rattle.snap_json.specs.declared.fault.SnapFault.{SnapFault}
use Rattle.snap_json.specs.Pages.{kept_tree}
use Rattle.rule_core.specs.declared.reason.Reason.{Reason}
use Rattle.rule_core.specs.declared.verdict.Auto.{Auto}
use Rattle.rule_core.specs.declared.verdict.Auto.TheVariants.{Passed, Failed, CantTell}
use Rattle.rule_core.specs.Words.{reason_of}
use Rattle.keep_core.specs.declared.member.MemberRole.{MemberRole}
use Rattle.keep_core.specs.declared.member.MemberRole.TheVariants.{Owner, Editor, Judge, Reader}
use Rattle.keep_core.specs.Names.{is_name}

-- a number from 0 to a greatest one
abbrev pub number_in : ℕ → Value → Option ℕ
number_in most (Int (pos n)) = if nat_le n most then Some n else None
number_in most _ = None

-- this number and no other
abbrev pub place_in : ℕ → Value → Option ℕ
place_in place (Int (pos n)) = if n == place then Some n else None
place_in place _ = None

abbrev pub text_in : Value → Option (List ℕ)
text_in (Text text) = Some text
text_in _ = None

-- the name of a site, a page or a user
abbrev pub named : List ℕ → Option (List ℕ)
named text = if is_name text then Some text else None

abbrev pub role_of : ℕ → Option MemberRole
role_of zero = Some Owner
role_of (suc zero) = Some Editor
role_of (suc (suc zero)) = Some Judge
role_of (suc (suc (suc zero))) = Some Reader
role_of (suc (suc (suc (suc n)))) = None

abbrev pub role_in : Value → Option MemberRole
role_in (Int (pos n)) = role_of n
role_in _ = None

abbrev pub auto_of : ℕ → Option Auto
auto_of zero = Some Passed
auto_of (suc zero) = Some Failed
auto_of (suc (suc zero)) = Some CantTell
auto_of (suc (suc (suc n))) = None

abbrev pub auto_in : Value → Option Auto
auto_in (Int (pos n)) = auto_of n
auto_in _ = None

abbrev pub reason_in : Value → Option Reason
reason_in (Text word) = reason_of word
reason_in _ = None

abbrev pub read_back : Result Document SnapFault → Option Document
read_back (Ok tree) = Some tree
read_back (Err fault) = None

-- the tree of a snapshot
abbrev pub tree_in : Value → Option Document
tree_in (Blob bytes) = read_back (kept_tree bytes)
tree_in _ = None

-- ---- what is written for them

abbrev pub role_number : MemberRole → ℕ
role_number Owner = 0
role_number Editor = 1
role_number Judge = 2
role_number Reader = 3

abbrev pub auto_number : Auto → ℕ
auto_number Passed = 0
auto_number Failed = 1
auto_number CantTell = 2
