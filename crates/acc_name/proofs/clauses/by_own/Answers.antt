use Rattle.std.proofs.Common.{◌≡◌, [], ◌∷◌, ◌++◌, take, drop, List, true, false, Option, is_some, unwrap_or, IfOk, OnOk, string_bytes, sym, ◌∙◌, subst}
use Rattle.aria_tables.specs.declared.attr.AriaAttr.TheVariants as aria
use Rattle.aria_tables.specs.declared.role.Role.{Role}
use Rattle.snap_tree.specs.declared.row.Row.{Row}
use Rattle.acc_tree.specs.declared.attributes.Attribute.TheVariants as attribute
use Rattle.acc_tree.specs.Seen.{seen_row, text_at}
use Rattle.acc_name.specs.declared.named.How.{How}
use Rattle.acc_name.specs.declared.named.Name.{Name}
use Rattle.acc_name.specs.declared.named.NameSource.TheVariants as source
use Rattle.acc_name.specs.declared.told.Told.{Told}
use Rattle.acc_name.specs.Names.{Heard, no_name, says, first_said, value_of}
use Rattle.acc_name.specs.Voices.{told_within, first_of, said_by, from_labels, from_value}
use Rattle.acc_name.proofs.Choosing.{decided, undecided, found_speaks}
use Rattle.acc_name.proofs.clauses.by_own.Goals as goal

-- the value and the attribute aria-label
abbrev own : How → Option Role → Row → Heard → List Name
own how role row inner = says source.HostText (value_of how role row inner.chosen) ∷ says source.AriaLabel (text_at (attribute.Aria aria.Label) row) ∷ []

by_earlier : (told : Told) (how : How) (role : Option Role) (row : Row) (inner : Heard) (found : Option Name)
    → found ≡ first_of (own how role row inner) → is_some found ≡ true → unwrap_or found no_name ≡ first_said (from_value told how role row inner)
by_earlier told how role row inner found is some = decided (own how role row inner) (from_labels told how role row inner) found is some

by_later : (told : Told) (how : How) (role : Option Role) (row : Row) (inner : Heard) (found : Option Name)
    → found ≡ first_of (own how role row inner) → is_some found ≡ false → first_said (from_labels told how role row inner) ≡ first_said (from_value told how role row inner)
by_later told how role row inner found is none = undecided (own how role row inner) (from_labels told how role row inner) found is none

pub replaced_by-requires-clause-speaks : goal.replaced_by-requires-clause-speaks
replaced_by-requires-clause-speaks c = found_speaks (own c.args.how c.args.role (seen_row c.args.row.now) (told_within c.args.inner [])) c.in_ok-own.own c.in_ok-own.ensures

pub returns-then-is_some-clause-text : goal.returns-then-is_some-clause-text
returns-then-is_some-clause-text c =
    let inner = told_within c.args.inner (drop c.args.mark (string_bytes c.args.content.now)) in
    let is = by_earlier c.args.told.now c.args.how c.args.role (seen_row c.args.row.now) inner c.in_ok-own.own c.in_ok-own.ensures (sym c.is_some.ensures ∙ c.if-is_some.true) in
    subst (λ (n : Name). OnOk c.replaced_by.result (string_bytes c.replaced_by.new.content ≡ take c.args.mark (string_bytes c.args.content.now) ++ n.text)) is c.replaced_by.ensures.text

pub returns-then-is_some-clause-decides : goal.returns-then-is_some-clause-decides
returns-then-is_some-clause-decides c =
    let inner = told_within c.args.inner (drop c.args.mark (string_bytes c.args.content.now)) in
    let is = by_earlier c.args.told.now c.args.how c.args.role (seen_row c.args.row.now) inner c.in_ok-own.own c.in_ok-own.ensures (sym c.is_some.ensures ∙ c.if-is_some.true) in
    subst (λ (n : Name). IfOk c.replaced_by.result (λ s. s ≡ said_by n)) is c.replaced_by.ensures.decides

pub returns-clause-text : goal.returns-clause-text
returns-clause-text c =
    let inner = told_within c.args.inner (drop c.args.mark (string_bytes c.args.content.now)) in
    let is = by_later c.args.told.now c.args.how c.args.role (seen_row c.args.row.now) inner c.in_ok-own.own c.in_ok-own.ensures (sym c.is_some.ensures ∙ c.if-is_some.false) in
    subst (λ (n : Name). OnOk c.by_labels.result (string_bytes c.by_labels.new.content ≡ take c.args.mark (string_bytes c.args.content.now) ++ n.text)) is c.by_labels.ensures.text

pub returns-clause-decides : goal.returns-clause-decides
returns-clause-decides c =
    let inner = told_within c.args.inner (drop c.args.mark (string_bytes c.args.content.now)) in
    let is = by_later c.args.told.now c.args.how c.args.role (seen_row c.args.row.now) inner c.in_ok-own.own c.in_ok-own.ensures (sym c.is_some.ensures ∙ c.if-is_some.false) in
    subst (λ (n : Name). IfOk c.by_labels.result (λ s. s ≡ said_by n)) is c.by_labels.ensures.decides
