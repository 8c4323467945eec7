use Rattle.std.proofs.Common.{◌≡◌, ◌++◌, ◌||◌, List, ℕ, string_bytes, ◌∙◌, ap}
use Rattle.std.proofs.lemmas.Str.{IsUtf8-string_bytes, IsCharBoundary-start}
use Rattle.acc_tree.specs.Frames.{under}
use Rattle.acc_tree.specs.Seen.{seen_row, seen}
use Rattle.acc_tree.specs.Tags.{html_tag}
use Rattle.acc_name.specs.declared.clauses.Said.{Said}
use Rattle.acc_name.specs.declared.named.Name.{Name}
use Rattle.acc_name.specs.declared.told.Wanted.{Wanted}
use Rattle.acc_name.specs.Captions.{weighed, kept}
use Rattle.acc_name.specs.Hosts.{caption_of}
use Rattle.acc_name.specs.Names.{Heard, heard, is_select, said}
use Rattle.acc_name.specs.Voices.{asked_of, asked_for, said_by, seen_at, text_in, wanted_below}
use Rattle.acc_name.proofs.Hearing.{says_heard}
use Rattle.acc_name.proofs.telling.spoken.Goals as goal

-- a name of this text and source
name_of_parts : (name : Name) (text : List ℕ) (held : Said) → text ≡ name.text → held ≡ said_by name
    → (let made : Name = record { text = text; source = held.source } in made) ≡ name
name_of_parts name text held text_is held_is =
    let first : List ℕ → Name = λ t. record { text = t; source = held.source } in
    let second : Said → Name = λ h. record { text = name.text; source = h.source } in
    ap first text_is ∙ ap second held_is

pub say-requires-clause-boundary : goal.say-requires-clause-boundary
say-requires-clause-boundary g c = IsCharBoundary-start (string_bytes c.hear.new.content) (IsUtf8-string_bytes c.hear.new.content)

pub returns : goal.returns
returns g c =
    let asked = asked_of c.args.scope (g.R.References.tells c.args.references.now) in
    let above = c.args.sight.above in
    let row = seen_row c.args.sight.row.now in
    let below = seen c.args.sight.below in
    let held = heard asked c.under-beneath.result c.below.result.caption below in
    let inner = heard asked (under above row) (caption_of row) below in
    let wanted_is : c.below.result ≡ wanted_below c.nothing.result row = c.below.ensures in
    let held_is : held ≡ inner =
    ap (λ a. heard asked a c.below.result.caption below) c.under-beneath.ensures ∙ ap (λ (w : Wanted). heard asked (under above row) w.caption below) wanted_is in
    let content = string_bytes c.hear.new.content in
    let content_is : content ≡ kept inner =
    c.in_ok-inner.ensures.content ∙ ap (λ text. text ++ kept held) c.new-content.ensures.bytes ∙ ap kept held_is in
    let chosen = text_in c.in_ok-inner.inner.chosen in
    let chosen_is : chosen ≡ asked_for (c.nothing.result.chosen || is_select (html_tag row)) inner.chosen =
    c.in_ok-inner.ensures.chosen ∙ ap (λ (w : Wanted). asked_for w.chosen held.chosen) wanted_is
    ∙ ap (λ (h : Heard). asked_for (c.nothing.result.chosen || is_select (html_tag row)) h.chosen) held_is in
    let caption_is : c.in_ok-inner.inner.caption ≡ weighed inner.caption = c.in_ok-inner.ensures.caption ∙ ap (λ (h : Heard). weighed h.caption) held_is in
    let told = g.R.References.tells c.args.references.now (seen_at c.args.sight.row.now c.args.sight.below above) in
    let name_is =
    says_heard asked c.in_ok-told.told c.args.how c.role_at-role.result above row below c.nothing.result.chosen content chosen c.in_ok-inner.inner.caption content_is chosen_is caption_is
    ∙ ap (λ told. said c.args.scope.node c.args.scope.hidden told c.args.how c.role_at-role.result row inner) c.in_ok-told.ensures.tells
    ∙ ap (λ role. said c.args.scope.node c.args.scope.hidden told c.args.how role row inner) c.role_at-role.ensures in
    name_of_parts _ c.from_string.result c.in_ok-said.said (c.from_string.ensures ∙ c.in_ok-said.ensures.text) c.in_ok-said.ensures.decides ∙ name_is
