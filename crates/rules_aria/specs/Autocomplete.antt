-- What autocomplete may say, and of which fields it is asked.
use Rattle.std.specs.Prelude.{◌&&◌, ◌||◌, not, ℕ, List, [], ◌∷◌, codes, Bool, true, false, if◌then◌else◌, Option, Some, None, option_and_then}
use Rattle.snap_tree.specs.declared.row.NodeId.{NodeId}
use Rattle.snap_tree.specs.declared.row.Row.{Row}
use Rattle.snap_tree.specs.Trees.{Document}
use Rattle.texts.specs.Words.{blank, words, same_folded}
use Rattle.aria_tables.specs.declared.attr.AriaAttr.TheVariants as aria
use Rattle.aria_tables.specs.Words.{is_among}
use Rattle.acc_tree.specs.declared.above.Above.{Above}
use Rattle.acc_tree.specs.declared.attributes.Attribute.TheVariants as attribute
use Rattle.acc_tree.specs.declared.inputs.InputType.{InputType}
use Rattle.acc_tree.specs.declared.inputs.InputType.TheVariants as type
use Rattle.acc_tree.specs.declared.tags.Tag.{Tag}
use Rattle.acc_tree.specs.declared.tags.Tag.TheVariants as tag
use Rattle.acc_tree.specs.Inclusion.{included}
use Rattle.acc_tree.specs.Inputs.{input_type}
use Rattle.acc_tree.specs.Seen.{attr, has, is_word_at}
use Rattle.acc_tree.specs.Tags.{html_tag}
use Rattle.rule_core.specs.declared.info.RuleInfo.{RuleInfo}
use Rattle.rule_core.specs.declared.info.Class.TheVariants.{SelfOnly}
use Rattle.rule_core.specs.declared.reason.Reason.TheVariants.{BadTokens}
use Rattle.rule_core.specs.declared.finding.Finding.{Finding}
use Rattle.rule_core.specs.declared.verdict.Verdict.{Verdict}
use Rattle.rule_core.specs.Infos.{atomic}
use Rattle.rule_core.specs.Findings.{met, failed, verdict_of}
use Rattle.rule_sights.specs.Nodes.{said_where}
use Rattle.rules_aria.specs.Token.{begins}
use Rattle.std.specs.Option.{option_map_or}

-- ---- the tokens, in their order

-- a token that passes the test, and then what others must be
abbrev pub one : (List ℕ → Bool) → (List (List ℕ) → Bool) → List (List ℕ) → Bool
one test others [] = false
one test others (token ∷ tokens) = test token && others tokens

-- the same, where that token may be missing; no token passes the tests of two places
abbrev pub optionally : (List ℕ → Bool) → (List (List ℕ) → Bool) → List (List ℕ) → Bool
optionally test others [] = others []
optionally test others (token ∷ tokens) = if test token then others tokens else others (token ∷ tokens)

abbrev pub nothing_more : List (List ℕ) → Bool
nothing_more [] = true
nothing_more (token ∷ tokens) = false

-- ---- what a token may be; tokens compare with ASCII letters in lower case

abbrev pub begins_section : List ℕ → Bool
begins_section = begins (codes "section-")

abbrev pub is_address_kind : List ℕ → Bool
is_address_kind = is_among (codes "shipping" ∷ codes "billing" ∷ [])

abbrev pub is_contact_kind : List ℕ → Bool
is_contact_kind = is_among (codes "home" ∷ codes "work" ∷ codes "mobile" ∷ codes "fax" ∷ codes "pager" ∷ [])

abbrev pub is_webauthn : List ℕ → Bool
is_webauthn token = same_folded token (codes "webauthn")

abbrev pub is_on_or_off : List ℕ → Bool
is_on_or_off = is_among (codes "on" ∷ codes "off" ∷ [])

abbrev pub fields : List (List ℕ)
fields =
    codes "name" ∷ codes "honorific-prefix" ∷ codes "given-name" ∷ codes "additional-name" ∷
    codes "family-name" ∷ codes "honorific-suffix" ∷ codes "nickname" ∷ codes "username" ∷
    codes "new-password" ∷ codes "current-password" ∷ codes "one-time-code" ∷
    codes "organization-title" ∷ codes "organization" ∷ codes "street-address" ∷
    codes "address-line1" ∷ codes "address-line2" ∷ codes "address-line3" ∷
    codes "address-level4" ∷ codes "address-level3" ∷ codes "address-level2" ∷
    codes "address-level1" ∷ codes "country" ∷ codes "country-name" ∷ codes "postal-code" ∷
    codes "cc-name" ∷ codes "cc-given-name" ∷ codes "cc-additional-name" ∷
    codes "cc-family-name" ∷ codes "cc-number" ∷ codes "cc-exp" ∷ codes "cc-exp-month" ∷
    codes "cc-exp-year" ∷ codes "cc-csc" ∷ codes "cc-type" ∷ codes "transaction-currency" ∷
    codes "transaction-amount" ∷ codes "language" ∷ codes "bday" ∷ codes "bday-day" ∷
    codes "bday-month" ∷ codes "bday-year" ∷ codes "sex" ∷ codes "url" ∷ codes "photo" ∷ []

abbrev pub contact_fields : List (List ℕ)
contact_fields =
    codes "tel" ∷ codes "tel-country-code" ∷ codes "tel-national" ∷ codes "tel-area-code" ∷
    codes "tel-local" ∷ codes "tel-local-prefix" ∷ codes "tel-local-suffix" ∷
    codes "tel-extension" ∷ codes "email" ∷ codes "impp" ∷ []

-- ---- the whole

-- the end, before which webauthn may stand
abbrev pub ending : List (List ℕ) → Bool
ending = optionally is_webauthn nothing_more

abbrev pub a_field : List (List ℕ) → Bool
a_field = one (is_among fields) ending

-- optionally home, work, mobile, fax or pager, and then a contact field
abbrev pub a_contact_field : List (List ℕ) → Bool
a_contact_field = optionally is_contact_kind (one (is_among contact_fields) ending)

abbrev pub either_field : List (List ℕ) → Bool
either_field tokens = a_field tokens || a_contact_field tokens

-- optionally one that begins `section-`, optionally shipping or billing, and then a field
abbrev pub a_detail : List (List ℕ) → Bool
a_detail = optionally begins_section (optionally is_address_kind either_field)

-- the detail that is asked for; or the one token webauthn
abbrev pub is_accepted : List ℕ → Bool
is_accepted text = a_detail (words text) || one is_webauthn nothing_more (words text)

-- ---- the rule

-- an `input` that isn't hidden and is no button
abbrev pub takes_data : InputType → Bool
takes_data type.Hidden = false
takes_data type.Button = false
takes_data type.Submit = false
takes_data type.Reset = false
takes_data _ = true

abbrev pub is_form_field : Row → Option Tag → Bool
is_form_field row (Some tag.Select) = true
is_form_field row (Some tag.Textarea) = true
is_form_field row (Some tag.Input) = takes_data (input_type row)
is_form_field row _ = false

-- the field or a `fieldset` above it has `disabled`, or aria-disabled is `true`
abbrev pub is_disabled : Above → Row → Bool
is_disabled above row =
    (has attribute.Disabled row || above.disabled) || is_word_at (attribute.Aria aria.Disabled) (codes "true") row

-- the value isn't blank, and isn't the one token on or off
abbrev pub asks_for_data : List ℕ → Bool
asks_for_data text = not (blank text) && not (one is_on_or_off nothing_more (words text))

abbrev pub is_autocomplete_target : Above → Row → List ℕ → Bool
is_autocomplete_target above row text =
    is_form_field row (html_tag row) && (asks_for_data text && (not (is_disabled above row) && included above row))

abbrev pub autocomplete_finding : List ℕ → Finding
autocomplete_finding text = if is_accepted text then met else failed BadTokens

-- the target is an included form field that isn't disabled, with an autocomplete that asks for data; the
-- evidence is that
abbrev pub autocomplete_verdict : Above → Row → Option Verdict
autocomplete_verdict above row =
    option_and_then (λ text. if is_autocomplete_target above row text then Some (verdict_of (autocomplete_finding text) text) else None) (attr attribute.Autocomplete row)

-- autocomplete attribute has valid value
abbrev pub autocomplete_is_valid : Document → NodeId → Option Verdict
autocomplete_is_valid = said_where (has attribute.Autocomplete) autocomplete_verdict

-- the targets of the rule
abbrev pub autocomplete_is_valid_target : Above → Row → Bool
autocomplete_is_valid_target above row = option_map_or (is_autocomplete_target above row) (attr attribute.Autocomplete row) false

abbrev pub autocomplete_is_valid_info : RuleInfo
autocomplete_is_valid_info = atomic 17 (codes "73f2c2") SelfOnly SelfOnly
