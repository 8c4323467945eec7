use Rattle.std.proofs.Common.{◌≡◌, [], ◌∷◌, ◌++◌, ◌&&◌, ℕ, not, take, drop, List, Bool, true, false, Option, unwrap_or, IfOk, OnOk, IsUtf8, string_bytes, append_assoc, refl, sym, ◌∙◌, ap, subst}
use Rattle.std.proofs.lemmas.List.{take-append-drop}
use Rattle.std.proofs.lemmas.Str.{IsUtf8-string_bytes, IsUtf8-drop}
use Rattle.aria_tables.specs.declared.role.Role.{Role}
use Rattle.snap_tree.specs.declared.row.Row.{Row}
use Rattle.texts.specs.Words.{blank}
use Rattle.acc_tree.specs.declared.attributes.Attribute.TheVariants as attribute
use Rattle.acc_tree.specs.Seen.{seen_row, text_at}
use Rattle.acc_name.specs.declared.clauses.Said.{Said}
use Rattle.acc_name.specs.declared.named.How.{How}
use Rattle.acc_name.specs.declared.named.Name.{Name}
use Rattle.acc_name.specs.declared.named.NameSource.TheVariants as source
use Rattle.acc_name.specs.Names.{no_name, says, first_said, asks_content, placeholder_of}
use Rattle.acc_name.specs.Voices.{first_of, said_by, from_content}
use Rattle.acc_name.proofs.Blanks.{blank_both}
use Rattle.acc_name.proofs.Choosing.{decided_last, found_speaks, content_decides, content_passes}
use Rattle.acc_name.proofs.clauses.by_content.Goals as goal

-- the clauses after the children's texts
abbrev hints : Row → List Name
hints row = says source.Title (text_at attribute.Title row) ∷ says source.Placeholder (placeholder_of row) ∷ []

by_hint : (how : How) (role : Option Role) (row : Row) (content : List ℕ) (hint : Option Name)
    → (asks_content how role && not (blank content)) ≡ false → hint ≡ first_of (hints row) → unwrap_or hint no_name ≡ first_said (from_content how role row content)
by_hint how role row content hint passes hint_is =
    ap (λ o. unwrap_or o no_name) hint_is ∙ decided_last (hints row) ∙ content_passes how role content (hints row) passes

counted : (asks asked is_blank blank_is none none_is b : Bool) → asks ≡ asked → is_blank ≡ blank_is → none ≡ none_is → (asks && not (is_blank && none)) ≡ b → (asked && not (blank_is && none_is)) ≡ b
counted asks asked is_blank blank_is none none_is b asks_is is none_are h = cc

-- the children's texts and those of what is owned besides are one text
together : (asks b : Bool) (content owned : List ℕ) → IsUtf8 content → (asks && not (blank content && blank owned)) ≡ b → (asks && not (blank (content ++ owned))) ≡ b
together asks b content owned is h = ap (λ t. asks && not t) (blank_both content owned is) ∙ h

speaks : (asks empty : Bool) → (asks && not empty) ≡ true → empty ≡ false
speaks true true h = cc
speaks true false h = refl
speaks false empty h = cc

pub returns-then-counts-clause-text : goal.returns-then-counts-clause-text
returns-then-counts-clause-text c =
    let content = string_bytes c.args.content.now in
    let within = drop c.args.mark content in
    let utf8 = IsUtf8-drop content c.args.mark (IsUtf8-string_bytes c.args.content.now) c.requires.boundary in
    let counts = together _ true within c.args.owned.now utf8 (counted _ _ _ _ _ _ true c.asks_content.ensures c.requires.blank c.blank.ensures c.if-counts.true) in
    let is = content_decides c.args.how c.args.role (within ++ c.args.owned.now) (hints (seen_row c.args.row.now)) counts in
    c.in_ok-push_str.ensures.bytes ∙ ap (λ t. content ++ t) c.as_str.ensures
    ∙ ap (λ t. t ++ c.args.owned.now) (sym (take-append-drop c.args.mark content)) ∙ append_assoc (take c.args.mark content) within c.args.owned.now
    ∙ ap (λ (n : Name). take c.args.mark content ++ n.text) is

pub returns-then-counts-clause-decides : goal.returns-then-counts-clause-decides
returns-then-counts-clause-decides c =
    let content = string_bytes c.args.content.now in
    let within = drop c.args.mark content in
    let utf8 = IsUtf8-drop content c.args.mark (IsUtf8-string_bytes c.args.content.now) c.requires.boundary in
    let counts = together _ true within c.args.owned.now utf8 (counted _ _ _ _ _ _ true c.asks_content.ensures c.requires.blank c.blank.ensures c.if-counts.true) in
    let is = content_decides c.args.how c.args.role (within ++ c.args.owned.now) (hints (seen_row c.args.row.now)) counts in
    let held : Bool → Said = λ b. record { source = source.Content; is_blank = b } in
    ap held (sym (speaks _ _ counts)) ∙ ap said_by is

pub replaced_by-requires-clause-speaks : goal.replaced_by-requires-clause-speaks
replaced_by-requires-clause-speaks c = found_speaks (hints (seen_row c.args.row.now)) c.in_ok-hint.hint c.in_ok-hint.ensures

pub returns-clause-text : goal.returns-clause-text
returns-clause-text c =
    let content = string_bytes c.args.content.now in
    let within = drop c.args.mark content in
    let utf8 = IsUtf8-drop content c.args.mark (IsUtf8-string_bytes c.args.content.now) c.requires.boundary in
    let passes = together _ false within c.args.owned.now utf8 (counted _ _ _ _ _ _ false c.asks_content.ensures c.requires.blank c.blank.ensures c.if-counts.false) in
    let is = by_hint c.args.how c.args.role (seen_row c.args.row.now) (within ++ c.args.owned.now) c.in_ok-hint.hint passes c.in_ok-hint.ensures in
    subst (λ (n : Name). OnOk c.replaced_by.result (string_bytes c.replaced_by.new.content ≡ take c.args.mark (string_bytes c.args.content.now) ++ n.text)) is c.replaced_by.ensures.text

pub returns-clause-decides : goal.returns-clause-decides
returns-clause-decides c =
    let content = string_bytes c.args.content.now in
    let within = drop c.args.mark content in
    let utf8 = IsUtf8-drop content c.args.mark (IsUtf8-string_bytes c.args.content.now) c.requires.boundary in
    let passes = together _ false within c.args.owned.now utf8 (counted _ _ _ _ _ _ false c.asks_content.ensures c.requires.blank c.blank.ensures c.if-counts.false) in
    let is = by_hint c.args.how c.args.role (seen_row c.args.row.now) (within ++ c.args.owned.now) c.in_ok-hint.hint passes c.in_ok-hint.ensures in
    subst (λ (n : Name). IfOk c.replaced_by.result (λ s. s ≡ said_by n)) is c.replaced_by.ensures.decides
