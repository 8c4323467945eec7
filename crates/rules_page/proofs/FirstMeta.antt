-- Whether a page refreshes itself, by what its `meta` elements have of their own.
use Rattle.std.specs.Prelude.{ℕ, List, [], ◌∷◌, codes, Bool, false, if◌then◌else◌, Option, Some, None, option_and_then}
use Rattle.std.specs.Option.{is_some, option_map_or}
use Rattle.snap_tree.specs.declared.row.NodeId.{NodeId}
use Rattle.snap_tree.specs.declared.row.Row.{Row}
use Rattle.snap_tree.specs.Lookups.{tagged}
use Rattle.snap_tree.specs.Rows.{value_of}
use Rattle.snap_tree.specs.Trees.{Trees}
use Rattle.acc_tree.specs.declared.attributes.Attribute.TheVariants as attribute
use Rattle.acc_tree.specs.Attributes.{attribute_name}
use Rattle.acc_tree.specs.Seen.{attr, is_keyword}
use Rattle.rule_core.specs.declared.finding.Finding.{Finding}
use Rattle.rule_core.specs.declared.verdict.Verdict.{Verdict}
use Rattle.page_keys.specs.Keys.{Own}
use Rattle.page_keys.specs.Classes.{is_meta}
use Rattle.rules_page.specs.Refresh.{seconds, is_number, refresh_time, time_verdict}

-- of a `meta`, which elements are metas
abbrev pub metas_at : Trees → NodeId → List NodeId
metas_at t n = if is_meta t n then tagged t (codes "meta") else []

-- the time of a `meta` that refreshes the page, by what it has of its own
abbrev pub time_of : Own → Option ℕ
time_of own =
    if is_keyword (codes "refresh") (value_of (attribute_name attribute.HttpEquiv) own.attrs) then option_and_then seconds (value_of (attribute_name attribute.Content) own.attrs) else None

abbrev pub refreshes_by : Option Own → Bool
refreshes_by own = option_map_or (λ o. is_some (time_of o)) own false

-- the first of these metas that refreshes the page, by what each has of its own
abbrev pub first_of : List NodeId → List (Option Own) → Option NodeId
first_of [] owns = None
first_of (m ∷ metas) [] = None
first_of (m ∷ metas) (own ∷ owns) = if refreshes_by own then Some m else first_of metas owns

-- what is said of a row, where this is the first that refreshes the page
abbrev pub said_of_first : (ℕ → Finding) → Option NodeId → Row → Option Verdict
said_of_first finds first row =
    if is_number row.id first then option_and_then (time_verdict finds (attr attribute.Content row)) (refresh_time row) else None
