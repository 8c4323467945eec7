-- Whether a page refreshes itself after a delay (HTML, "refresh state").
use Rattle.std.specs.Prelude.{◌==◌, ◌&&◌, ◌||◌, nat_lt, ℕ, List, [], ◌∷◌, codes, Bool, true, false, if◌then◌else◌, Option, Some, None, option_map, option_and_then}
use Rattle.std.specs.Char.{is_ascii_whitespace}
use Rattle.std.specs.List.{find}
use Rattle.std.specs.Option.{is_some, option_map_or}
use Rattle.snap_tree.specs.declared.row.NodeId.{NodeId}
use Rattle.snap_tree.specs.declared.row.Row.{Row}
use Rattle.snap_tree.specs.Rows.{is_html}
use Rattle.snap_tree.specs.Trees.{Trees, Document, rows_of}
use Rattle.aria_tables.specs.Numbers.{after_digits, begins_with_digit}
use Rattle.acc_tree.specs.declared.attributes.Attribute.TheVariants as attribute
use Rattle.acc_tree.specs.Seen.{attr, is_word_at, seen}
use Rattle.rule_core.specs.declared.info.RuleInfo.{RuleInfo}
use Rattle.rule_core.specs.declared.info.Class.TheVariants.{SelfOnly, Metas}
use Rattle.rule_core.specs.declared.reason.Reason.TheVariants.{Delay}
use Rattle.rule_core.specs.declared.finding.Finding.{Finding}
use Rattle.rule_core.specs.declared.verdict.Verdict.{Verdict}
use Rattle.rule_core.specs.Findings.{met, failed, verdict_of}
use Rattle.rule_core.specs.Infos.{atomic}
use Rattle.rule_sights.specs.Nodes.{said_alone}
use Rattle.rules_page.specs.Digits.{number_at_start}
use Rattle.acc_tree.specs.declared.above.Above.{Above}

-- ---- the content

abbrev pub after_white : List ℕ → List ℕ
after_white [] = []
after_white (b ∷ text) = if is_ascii_whitespace b then after_white text else b ∷ text

-- the end; or `;` (59), `,` (44) or white space, and anything
abbrev pub is_over : List ℕ → Bool
is_over [] = true
is_over (b ∷ text) = (b == 59 || b == 44) || is_ascii_whitespace b

abbrev pub is_over_after_digits : List ℕ → Bool
is_over_after_digits text = begins_with_digit text && is_over (after_digits text)

-- optionally a point (46) and digits, and then the end of the time
abbrev pub ends_time : List ℕ → Bool
ends_time [] = true
ends_time (b ∷ text) = if b == 46 then is_over_after_digits text else is_over (b ∷ text)

-- a digit or more, and then what may follow them
abbrev pub is_time : List ℕ → Bool
is_time text = begins_with_digit text && ends_time (after_digits text)

-- the time in seconds, where the content reads: the digits behind white space
abbrev pub seconds : List ℕ → Option ℕ
seconds content = if is_time (after_white content) then Some (number_at_start (after_white content)) else None

-- ---- the rule

abbrev pub asks_to_refresh : Row → Bool
asks_to_refresh row = is_html (codes "meta") row && is_word_at attribute.HttpEquiv (codes "refresh") row

-- the time of a `meta` that refreshes the page
abbrev pub refresh_time : Row → Option ℕ
refresh_time row = if asks_to_refresh row then option_and_then seconds (attr attribute.Content row) else None

abbrev pub refreshes : Row → Bool
refreshes row = is_some (refresh_time row)

-- the first `meta` that refreshes the page
abbrev pub first_refresh : List Row → Option NodeId
first_refresh rows = option_map (λ row. row.id) (find refreshes rows)

abbrev pub is_number : NodeId → Option NodeId → Bool
is_number n first = option_map_or (λ m. m.0 == n.0) first false

-- from one second to twenty hours
abbrev pub refresh_finding : ℕ → Finding
refresh_finding time = if nat_lt 0 time && nat_lt time 72001 then failed Delay else met

-- what is found of the time is given, since two rules differ by it alone
abbrev pub time_verdict : (ℕ → Finding) → Option (List ℕ) → ℕ → Option Verdict
time_verdict finds content time = option_map (verdict_of (finds time)) content

abbrev pub refresh_verdict : (ℕ → Finding) → List Row → Row → Option Verdict
refresh_verdict finds rows row =
    if is_number row.id (first_refresh rows) then option_and_then (time_verdict finds (attr attribute.Content row)) (refresh_time row) else None

-- what is said of the first that refreshes the page, by what is found of its time; the evidence is its content
abbrev pub says_of_refresh : (ℕ → Finding) → Document → NodeId → Option Verdict
says_of_refresh finds page = said_alone (refresh_verdict finds (rows_of (seen page.trees))) page

-- meta element has no refresh delay: the target is the first that refreshes the page
abbrev pub page_has_no_delay : Document → NodeId → Option Verdict
page_has_no_delay = says_of_refresh refresh_finding

-- the targets of the rule, among the rows of the page
abbrev pub page_has_no_delay_target : List Row → Above → Row → Bool
page_has_no_delay_target rows above row = is_number row.id (first_refresh rows) && refreshes row

abbrev pub page_has_no_delay_info : RuleInfo
page_has_no_delay_info = atomic 7 (codes "bc659a") Metas SelfOnly
