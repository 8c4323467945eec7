-- What a viewport allows (CSS Viewport, "parsing algorithm").
use Rattle.std.specs.Prelude.{◌==◌, ◌&&◌, ◌||◌, ◌+◌, ◌*◌, nat_lt, ℕ, List, [], ◌∷◌, ◌++◌, codes, min, length, Bool, true, false, if◌then◌else◌, Option, Some, None, option_map, option_and_then}
use Rattle.std.specs.List.{before_first, after_first, position_or_len}
use Rattle.std.specs.Option.{is_some, option_or, option_map_or}
use Rattle.std.specs.Str.{trim}
use Rattle.snap_tree.specs.declared.row.NodeId.{NodeId}
use Rattle.snap_tree.specs.declared.row.Row.{Row}
use Rattle.snap_tree.specs.Rows.{is_html}
use Rattle.texts.specs.Words.{same_folded}
use Rattle.snap_tree.specs.Trees.{Document}
use Rattle.acc_tree.specs.declared.attributes.Attribute.TheVariants as attribute
use Rattle.acc_tree.specs.Numbers.{is_digits, whole_number}
use Rattle.acc_tree.specs.Seen.{attr, is_word_at}
use Rattle.rule_core.specs.declared.info.RuleInfo.{RuleInfo}
use Rattle.rule_core.specs.declared.info.Class.TheVariants.{SelfOnly}
use Rattle.rule_core.specs.declared.reason.Reason.TheVariants.{NoZoom, SmallScale}
use Rattle.rule_core.specs.declared.finding.Finding.{Finding}
use Rattle.rule_core.specs.declared.verdict.Verdict.{Verdict}
use Rattle.rule_core.specs.Findings.{met, failed, verdict_of}
use Rattle.rule_core.specs.Infos.{atomic}
use Rattle.rule_sights.specs.Nodes.{said_alone}
use Rattle.rules_page.specs.declared.viewport.Limit.{Limit}
use Rattle.rules_page.specs.declared.viewport.Limit.TheVariants as limit
use Rattle.rules_page.specs.Digits.{digit, GREATEST}
use Rattle.acc_tree.specs.declared.above.Above.{Above}

-- ---- cutting at a byte

-- the text has this byte
abbrev pub has_byte : ℕ → List ℕ → Bool
has_byte c text = nat_lt (position_or_len (λ b. b == c) text) (length text)

-- the first piece with a byte more
abbrev pub onto : ℕ → List (List ℕ) → List (List ℕ)
onto b [] = (b ∷ []) ∷ []
onto b (piece ∷ pieces) = (b ∷ piece) ∷ pieces

-- the pieces between the bytes of this value
abbrev pub pieces : ℕ → List ℕ → List (List ℕ)
pieces c [] = [] ∷ []
pieces c (b ∷ text) = if b == c then [] ∷ pieces c text else onto b (pieces c text)

-- each piece cut once more
abbrev pub cut_again : ℕ → List (List ℕ) → List (List ℕ)
cut_again c [] = []
cut_again c (piece ∷ more) = pieces c piece ++ cut_again c more

-- the parts of a content between commas (44) and semicolons (59)
abbrev pub parts : List ℕ → List (List ℕ)
parts content = cut_again 59 (pieces 44 content)

-- ---- numbers in thousandths

-- the thousandths that the digits behind a point write; those past the third are dropped
abbrev pub fraction : List ℕ → ℕ
fraction [] = 0
fraction (a ∷ []) = 100 * digit a
fraction (a ∷ b ∷ []) = 100 * digit a + 10 * digit b
fraction (a ∷ b ∷ c ∷ digits) = 100 * digit a + 10 * digit b + digit c

abbrev pub with_fraction : ℕ → ℕ → ℕ
with_fraction thousandths whole = min (whole * 1000 + thousandths) GREATEST

abbrev pub thousandths : List ℕ → ℕ → Option ℕ
thousandths whole more = option_map (with_fraction more) (whole_number whole)

abbrev pub split_scale : List ℕ → List ℕ → Option ℕ
split_scale whole digits = if is_digits digits then thousandths whole (fraction digits) else None

-- digits, and optionally a point (46) and digits, in thousandths; any other value doesn't count
abbrev pub scale : List ℕ → Option ℕ
scale value =
    if has_byte 46 value then split_scale (before_first (λ b. b == 46) value) (after_first (λ b. b == 46) value)
    else thousandths value 0

-- ---- what a viewport keeps from being zoomed by

abbrev pub key_of : Limit → List ℕ
key_of limit.UserScalable = codes "user-scalable"
key_of limit.MaximumScale = codes "maximum-scale"

abbrev pub is_below_two : List ℕ → Bool
is_below_two value = option_map_or (λ n. nat_lt n 2000) (scale value) false

-- the value limits zooming
abbrev pub limits : Limit → List ℕ → Bool
limits limit.UserScalable value = same_folded value (codes "no")
limits limit.MaximumScale value = is_below_two value

abbrev pub pair_limits : Limit → List ℕ → List ℕ → Option Bool
pair_limits l key value = if same_folded (trim key) (key_of l) then Some (limits l (trim value)) else None

-- what a part says, where it is a pair of this key: the first `=` (61) stands between key and value
abbrev pub part_limits : Limit → List ℕ → Option Bool
part_limits l part =
    if has_byte 61 part then pair_limits l (before_first (λ b. b == 61) part) (after_first (λ b. b == 61) part) else None

-- the last pair of a key counts
abbrev pub last_limits : Limit → Option Bool → List (List ℕ) → Option Bool
last_limits l found [] = found
last_limits l found (part ∷ more) = last_limits l (option_or (part_limits l part) found) more

-- whether the content limits zooming so; none where the key isn't there
abbrev pub content_limits : Limit → List ℕ → Option Bool
content_limits l content = last_limits l None (parts content)

-- ---- the rule

abbrev pub is_limited : Option Bool → Bool
is_limited said = option_map_or (λ b. b) said false

abbrev pub viewport_finding : Option Bool → Option Bool → Finding
viewport_finding scalable scale =
    if is_limited scalable then failed NoZoom else (if is_limited scale then failed SmallScale else met)

-- a content with neither key is no target's
abbrev pub zoom_verdict : List ℕ → Option Bool → Option Bool → Option Verdict
zoom_verdict content None None = None
zoom_verdict content scalable scale = Some (verdict_of (viewport_finding scalable scale) content)

abbrev pub content_verdict : List ℕ → Option Verdict
content_verdict content =
    zoom_verdict content (content_limits limit.UserScalable content) (content_limits limit.MaximumScale content)

-- an HTML `meta` of name `viewport`
abbrev pub is_viewport : Row → Bool
is_viewport row = is_html (codes "meta") row && is_word_at attribute.Name (codes "viewport") row

abbrev pub viewport_verdict : Row → Option Verdict
viewport_verdict row = if is_viewport row then option_and_then content_verdict (attr attribute.Content row) else None

-- meta viewport allows for zoom: the evidence is the content
abbrev pub viewport_allows_zoom : Document → NodeId → Option Verdict
viewport_allows_zoom = said_alone viewport_verdict

-- the content has one of the two keys
abbrev pub has_limits : List ℕ → Bool
has_limits content = is_some (content_limits limit.UserScalable content) || is_some (content_limits limit.MaximumScale content)

-- the targets of the rule
abbrev pub viewport_allows_zoom_target : Above → Row → Bool
viewport_allows_zoom_target above row = is_viewport row && option_map_or has_limits (attr attribute.Content row) false

abbrev pub viewport_allows_zoom_info : RuleInfo
viewport_allows_zoom_info = atomic 6 (codes "b4f0c3") SelfOnly SelfOnly
