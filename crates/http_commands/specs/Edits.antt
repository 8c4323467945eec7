-- An edit as JSON: its op, and the members of its variant, all of them.
use Rattle.std.specs.Prelude.{ℕ, ◌^◌, List, codes, bytes_eq, nat_lt, if◌then◌else◌, Option, Some, None, option_and_then}
use Rattle.std.specs.Result.{result_ok}
use Rattle.serde_json.specs.Data.{Data}
use Rattle.serde_json.specs.Find.{get}
use Rattle.snap_tree.specs.declared.row.Facts.{Facts}
use Rattle.snap_tree.specs.declared.row.Row.{Row}
use Rattle.snap_json.specs.Fields.{number_of, text_of, facts_of}
use Rattle.snap_json.specs.Pages.{sent_rows_of}
use Rattle.snap_edit.specs.declared.edit.Edit.{Edit}
use Rattle.snap_edit.specs.declared.edit.Edit.TheVariants.{SetAttr, DropAttr, SetText, SetFacts, Insert, Remove, Move}
use Rattle.http_commands.specs.Revisions.{whole}

-- the next member, unless this one is bad
infixl 10 ◌>>=◌
abbrev ◌>>=◌ : {A B : Type 0} → Option A → (A → Option B) → Option B
member >>= next = option_and_then next member

abbrev pub in_u32 : ℕ → Option ℕ
in_u32 n = if nat_lt n (2 ^ 32) then Some n else None

-- a whole number below 2^32
abbrev pub place_of : Option Data → Option ℕ
place_of member = option_and_then (λ d. option_and_then in_u32 (whole d)) member

-- facts, which are there
abbrev pub sent_facts : Option Data → Option Facts
sent_facts None = None
sent_facts (Some d) = facts_of (Some d)

-- rows as those of a snapshot, which are there
abbrev pub sent_rows : Option Data → Option (List Row)
sent_rows member = option_and_then (λ d. result_ok (sent_rows_of d)) member

abbrev pub set_attr : Data → Option Edit
set_attr d = do
  node ← number_of (get (codes "node") d)
  name ← text_of (get (codes "name") d)
  value ← text_of (get (codes "value") d)
  Some (SetAttr node name value)

abbrev pub drop_attr : Data → Option Edit
drop_attr d = do
  node ← number_of (get (codes "node") d)
  name ← text_of (get (codes "name") d)
  Some (DropAttr node name)

abbrev pub set_text : Data → Option Edit
set_text d = do
  node ← number_of (get (codes "node") d)
  text ← text_of (get (codes "text") d)
  Some (SetText node text)

abbrev pub set_facts : Data → Option Edit
set_facts d = do
  node ← number_of (get (codes "node") d)
  facts ← sent_facts (get (codes "f") d)
  Some (SetFacts node facts)

abbrev pub insert : Data → Option Edit
insert d = do
  parent ← number_of (get (codes "parent") d)
  place ← place_of (get (codes "place") d)
  rows ← sent_rows (get (codes "rows") d)
  Some (Insert parent place rows)

abbrev pub remove : Data → Option Edit
remove d = do
  node ← number_of (get (codes "node") d)
  Some (Remove node)

abbrev pub move_to : Data → Option Edit
move_to d = do
  node ← number_of (get (codes "node") d)
  parent ← number_of (get (codes "parent") d)
  place ← place_of (get (codes "place") d)
  Some (Move node parent place)

-- the words of the variants
abbrev pub edit_named : List ℕ → Data → Option Edit
edit_named op d =
    if bytes_eq op (codes "setAttr") then set_attr d
    else if bytes_eq op (codes "dropAttr") then drop_attr d
    else if bytes_eq op (codes "setText") then set_text d
    else if bytes_eq op (codes "setFacts") then set_facts d
    else if bytes_eq op (codes "insert") then insert d
    else if bytes_eq op (codes "remove") then remove d
    else if bytes_eq op (codes "move") then move_to d
    else None

-- the edit that a value is; what is no object has no members
abbrev pub edit_of : Data → Option Edit
edit_of d = option_and_then (λ op. edit_named op d) (text_of (get (codes "op") d))
