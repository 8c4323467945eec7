-- What is held of names in the making.
use Rattle.std.specs.Prelude.{ℕ, ◌+◌, length, List, [], ◌∷◌, ◌++◌, Bool, false, if◌then◌else◌, ◌||◌, Option, Some, None, option_map, String}
use Rattle.std.specs.String.{string_bytes}
use Rattle.std.specs.declared.alloc.Global.{Global}
use Rattle.aria_tables.specs.declared.role.Role.{Role}
use Rattle.snap_tree.specs.Trees.{Trees}
use Rattle.snap_tree.specs.declared.row.NodeId.{NodeId}
use Rattle.snap_tree.specs.declared.row.Row.{Row}
use Rattle.texts.specs.Words.{blank}
use Rattle.acc_tree.specs.declared.above.Above.{Above}
use Rattle.aria_tables.specs.declared.attr.AriaAttr.TheVariants as aria
use Rattle.acc_tree.specs.declared.attributes.Attribute.TheVariants as attribute
use Rattle.acc_tree.specs.Seen.{seen_row, seen, text_at}
use Rattle.acc_tree.specs.Sights.{Sight}
use Rattle.acc_tree.specs.Tags.{html_tag}
use Rattle.acc_name.specs.declared.named.How.TheVariants as how
use Rattle.acc_name.specs.declared.named.Name.{Name}
use Rattle.acc_name.specs.declared.clauses.Said.{Said}
use Rattle.acc_name.specs.declared.heard.Aside.{Aside}
use Rattle.acc_name.specs.declared.heard.Inner.{Inner}
use Rattle.acc_name.specs.declared.told.Scope.{Scope}
use Rattle.acc_name.specs.declared.told.Told.{Told}
use Rattle.acc_name.specs.declared.told.Wanted.{Wanted}
use Rattle.acc_name.specs.declared.named.How.{How}
use Rattle.acc_name.specs.declared.named.NameSource.TheVariants as source
use Rattle.acc_name.specs.Captions.{caption_kept}
use Rattle.acc_name.specs.Hosts.{host_of, host_text, caption_of}
use Rattle.acc_name.specs.Names.{Asked, Heard, says, is_select, value_of, content_of, placeholder_of, said, told_of}

-- the bytes of a string that may be there
abbrev pub text_in : Option (String Global) → Option (List ℕ)
text_in text = option_map string_bytes text

-- what is asked of the trees below a node
abbrev pub wanted_below : Wanted → Row → Wanted
wanted_below wanted row = record { caption = caption_of row; chosen = wanted.chosen || is_select (html_tag row) }

-- what is told of a text that may be there, where it is asked for
abbrev pub asked_for : Bool → Option (List ℕ) → Option (List ℕ)
asked_for asks text = if asks then text else None

-- the first name that isn't blank, if there is one
abbrev pub first_of : List Name → Option Name
first_of [] = None
first_of (said ∷ later) = if blank said.text then first_of later else Some said

-- a content with what is said beside it
abbrev pub shown : List ℕ → Option (List ℕ) → Option (List ℕ) → Heard
shown content chosen caption = record { content = content; chosen = chosen; caption = caption }

abbrev pub asked_of : Scope → (Sight → Told) → Asked
asked_of scope told = record { node = scope.node; hidden = scope.hidden; told = told }

-- what is seen of a row with the trees below it and what is above it
abbrev pub seen_at : Row → Trees → Above → Sight
seen_at row below above = record { row = seen_row row; below = seen below; above = above }

-- what those below a node say, where this is kept of it
abbrev pub told_within : Inner → List ℕ → Heard
told_within inner text = shown text (text_in inner.chosen.now) (caption_kept inner.caption text)

-- what references say of a node that isn't asked for its content
abbrev pub labelled_of : Trees → NodeId → Row → Told
labelled_of trees node row = record (told_of trees node false row) { owned = [] }

-- which clause gave a name, and whether it is blank
abbrev pub said_by : Name → Said
said_by name = record { source = name.source; is_blank = blank name.text }

-- what a node says within a name, where this is kept of what is said below it
abbrev pub says_within : Scope → Told → Option Role → Row → Aside → List ℕ → List ℕ
says_within scope told role row inner text =
    (said scope.node scope.hidden told how.Inner role row (shown text (text_in inner.chosen) (caption_kept inner.caption text))).text

-- an element's clauses from the children's texts on, with what the elements say that it owns besides
abbrev pub from_content : How → Option Role → Row → List ℕ → List Name
from_content how role row content =
    says source.Content (content_of how role content)
    ∷ says source.Title (text_at attribute.Title row)
    ∷ says source.Placeholder (placeholder_of row)
    ∷ []

-- an element's clauses from the text of its kind on, where the elements that it owns besides say this
abbrev pub from_kind : How → Option Role → Row → List ℕ → Heard → List Name
from_kind how role row owned inner =
    says source.HostText (host_text (host_of row) row inner.caption) ∷ from_content how role row (inner.content ++ owned)

-- an element's clauses from its labels on
abbrev pub from_labels : Told → How → Option Role → Row → Heard → List Name
from_labels told how role row inner = says source.HostLabel told.labels ∷ from_kind how role row told.owned inner

-- an element's clauses from its value on
abbrev pub from_value : Told → How → Option Role → Row → Heard → List Name
from_value told how role row inner =
    says source.HostText (value_of how role row inner.chosen)
    ∷ says source.AriaLabel (text_at (attribute.Aria aria.Label) row)
    ∷ from_labels told how role row inner

-- how many bytes of text references say
abbrev pub told_length : Told → ℕ
told_length told = length told.labelled_by + length told.labels + length told.owned
