use Rattle.std.proofs.Common.{◌≡◌, [], ◌∷◌, ◌++◌, ℕ, take, drop, List, Bool, true, false, Option, None, is_some, unwrap_or, IfOk, OnOk, string_bytes, sym, ◌∙◌, ap, subst}
use Rattle.std.proofs.lemmas.List.{take-append-drop}
use Rattle.aria_tables.specs.declared.role.Role.{Role}
use Rattle.snap_tree.specs.declared.row.Row.{Row}
use Rattle.texts.specs.Words.{blank}
use Rattle.acc_tree.specs.Seen.{seen_row}
use Rattle.acc_name.specs.declared.captions.Caption.{Caption}
use Rattle.acc_name.specs.declared.clauses.Said.{Said}
use Rattle.acc_name.specs.declared.hosts.Host.{Host}
use Rattle.acc_name.specs.declared.named.How.{How}
use Rattle.acc_name.specs.declared.named.Name.{Name}
use Rattle.acc_name.specs.declared.named.NameSource.TheVariants as source
use Rattle.acc_name.specs.Captions.{caption_kept, is_captioned}
use Rattle.acc_name.specs.Hosts.{host_of, host_text}
use Rattle.acc_name.specs.Names.{no_name, says, first_said}
use Rattle.acc_name.specs.Voices.{text_in, shown, first_of, said_by, from_content, from_kind}
use Rattle.acc_name.proofs.Choosing.{decided, undecided, found_speaks}
use Rattle.acc_name.proofs.Keeping.{captioned_decides, uncaptioned_says}
use Rattle.acc_name.proofs.clauses.by_kind.Goals as goal

held_alike : (h asked : Host) (k : Caption) (is_blank blank_is b : Bool) → h ≡ asked → is_blank ≡ blank_is → is_captioned h k is_blank ≡ b → is_captioned asked k blank_is ≡ b
held_alike h asked k is_blank blank_is b host_is is h_is = cc

by_caption : (how : How) (role : Option Role) (row : Row) (owned : List ℕ) (chosen : Option (List ℕ)) (k : Caption) (text : List ℕ)
    → is_captioned (host_of row) k (blank text) ≡ true → says source.HostText text ≡ first_said (from_kind how role row owned (shown text chosen (caption_kept k text)))
by_caption how role row owned chosen k text is = captioned_decides (host_of row) k row text (from_content how role row (text ++ owned)) is

found_native : (h : Host) (row : Row) (k : Caption) (text native : List ℕ) (found : Option Name)
    → h ≡ host_of row → native ≡ host_text h row None → found ≡ first_of (says source.HostText native ∷ []) → is_captioned (host_of row) k (blank text) ≡ false
    → found ≡ first_of (says source.HostText (host_text (host_of row) row (caption_kept k text)) ∷ [])
found_native h row k text native found host_is native_is found_is none =
    found_is ∙ ap (λ t. first_of (says source.HostText t ∷ [])) (native_is ∙ ap (λ x. host_text x row None) host_is) ∙ uncaptioned_says (host_of row) k row text none

by_native : (how : How) (role : Option Role) (row : Row) (owned : List ℕ) (chosen : Option (List ℕ)) (k : Caption) (text : List ℕ) (found : Option Name)
    → found ≡ first_of (says source.HostText (host_text (host_of row) row (caption_kept k text)) ∷ []) → is_some found ≡ true
    → unwrap_or found no_name ≡ first_said (from_kind how role row owned (shown text chosen (caption_kept k text)))
by_native how role row owned chosen k text found is some =
    decided (says source.HostText (host_text (host_of row) row (caption_kept k text)) ∷ []) (from_content how role row (text ++ owned)) found is some

by_later : (how : How) (role : Option Role) (row : Row) (owned : List ℕ) (chosen : Option (List ℕ)) (k : Caption) (text : List ℕ) (found : Option Name)
    → found ≡ first_of (says source.HostText (host_text (host_of row) row (caption_kept k text)) ∷ []) → is_some found ≡ false
    → first_said (from_content how role row (text ++ owned)) ≡ first_said (from_kind how role row owned (shown text chosen (caption_kept k text)))
by_later how role row owned chosen k text found is none =
    undecided (says source.HostText (host_text (host_of row) row (caption_kept k text)) ∷ []) (from_content how role row (text ++ owned)) found is none

pub returns-then-is_captioned-clause-text : goal.returns-then-is_captioned-clause-text
returns-then-is_captioned-clause-text c =
    let content = string_bytes c.args.content.now in
    let named = held_alike _ _ _ _ _ true c.host_of-host.ensures c.requires.blank (sym c.is_captioned.ensures ∙ c.if-is_captioned.true) in
    sym (take-append-drop c.args.mark content)
    ∙ ap (λ (n : Name). take c.args.mark content ++ n.text)
    (by_caption c.args.how c.args.role (seen_row c.args.row.now) c.args.owned.now (text_in c.args.inner.chosen.now) c.args.inner.caption (drop c.args.mark content) named)

pub returns-then-is_captioned-clause-decides : goal.returns-then-is_captioned-clause-decides
returns-then-is_captioned-clause-decides c =
    let content = string_bytes c.args.content.now in
    let named = held_alike _ _ _ _ _ true c.host_of-host.ensures c.requires.blank (sym c.is_captioned.ensures ∙ c.if-is_captioned.true) in
    let held : Bool → Said = λ b. record { source = source.HostText; is_blank = b } in
    ap held c.requires.blank
    ∙ ap said_by (by_caption c.args.how c.args.role (seen_row c.args.row.now) c.args.owned.now (text_in c.args.inner.chosen.now) c.args.inner.caption (drop c.args.mark content) named)

pub replaced_by-requires-clause-speaks : goal.replaced_by-requires-clause-speaks
replaced_by-requires-clause-speaks c = found_speaks (says source.HostText c.in_ok-text.text ∷ []) c.unless_blank-native.result c.unless_blank-native.ensures

pub returns-then-is_some-clause-text : goal.returns-then-is_some-clause-text
returns-then-is_some-clause-text c =
    let text = drop c.args.mark (string_bytes c.args.content.now) in
    let row = seen_row c.args.row.now in
    let none = held_alike _ _ _ _ _ false c.host_of-host.ensures c.requires.blank (sym c.is_captioned.ensures ∙ c.if-is_captioned.false) in
    let found = found_native _ row c.args.inner.caption text c.in_ok-text.text c.unless_blank-native.result c.host_of-host.ensures c.in_ok-text.ensures c.unless_blank-native.ensures none in
    let is =
    by_native c.args.how c.args.role row c.args.owned.now (text_in c.args.inner.chosen.now) c.args.inner.caption text c.unless_blank-native.result found (sym c.is_some.ensures ∙ c.if-is_some.true) in
    subst (λ (n : Name). OnOk c.replaced_by.result (string_bytes c.replaced_by.new.content ≡ take c.args.mark (string_bytes c.args.content.now) ++ n.text)) is c.replaced_by.ensures.text

pub returns-then-is_some-clause-decides : goal.returns-then-is_some-clause-decides
returns-then-is_some-clause-decides c =
    let text = drop c.args.mark (string_bytes c.args.content.now) in
    let row = seen_row c.args.row.now in
    let none = held_alike _ _ _ _ _ false c.host_of-host.ensures c.requires.blank (sym c.is_captioned.ensures ∙ c.if-is_captioned.false) in
    let found = found_native _ row c.args.inner.caption text c.in_ok-text.text c.unless_blank-native.result c.host_of-host.ensures c.in_ok-text.ensures c.unless_blank-native.ensures none in
    let is =
    by_native c.args.how c.args.role row c.args.owned.now (text_in c.args.inner.chosen.now) c.args.inner.caption text c.unless_blank-native.result found (sym c.is_some.ensures ∙ c.if-is_some.true) in
    subst (λ (n : Name). IfOk c.replaced_by.result (λ s. s ≡ said_by n)) is c.replaced_by.ensures.decides

pub returns-clause-text : goal.returns-clause-text
returns-clause-text c =
    let text = drop c.args.mark (string_bytes c.args.content.now) in
    let row = seen_row c.args.row.now in
    let none = held_alike _ _ _ _ _ false c.host_of-host.ensures c.requires.blank (sym c.is_captioned.ensures ∙ c.if-is_captioned.false) in
    let found = found_native _ row c.args.inner.caption text c.in_ok-text.text c.unless_blank-native.result c.host_of-host.ensures c.in_ok-text.ensures c.unless_blank-native.ensures none in
    let is =
    by_later c.args.how c.args.role row c.args.owned.now (text_in c.args.inner.chosen.now) c.args.inner.caption text c.unless_blank-native.result found (sym c.is_some.ensures ∙ c.if-is_some.false) in
    subst (λ (n : Name). OnOk c.by_content.result (string_bytes c.by_content.new.content ≡ take c.args.mark (string_bytes c.args.content.now) ++ n.text)) is c.by_content.ensures.text

pub returns-clause-decides : goal.returns-clause-decides
returns-clause-decides c =
    let text = drop c.args.mark (string_bytes c.args.content.now) in
    let row = seen_row c.args.row.now in
    let none = held_alike _ _ _ _ _ false c.host_of-host.ensures c.requires.blank (sym c.is_captioned.ensures ∙ c.if-is_captioned.false) in
    let found = found_native _ row c.args.inner.caption text c.in_ok-text.text c.unless_blank-native.result c.host_of-host.ensures c.in_ok-text.ensures c.unless_blank-native.ensures none in
    let is =
    by_later c.args.how c.args.role row c.args.owned.now (text_in c.args.inner.chosen.now) c.args.inner.caption text c.unless_blank-native.result found (sym c.is_some.ensures ∙ c.if-is_some.false) in
    subst (λ (n : Name). IfOk c.by_content.result (λ s. s ≡ said_by n)) is c.by_content.ensures.decides
