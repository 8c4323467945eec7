-- Requests between two others: which of them leave a page as its judges saw it.
use Rattle.std.specs.Prelude.{◌≡◌, ℕ, List, [], ◌∷◌, None, ◌⊎◌, Ok, Err}
use Rattle.desk_core.specs.declared.command.Command.{Command}
use Rattle.desk_core.specs.declared.command.Command.TheVariants as command
use Rattle.desk_core.specs.declared.command.Entry.{Entry}
use Rattle.desk_core.specs.declared.reply.Reply.{Reply}
use Rattle.desk_core.specs.declared.reply.Reply.TheVariants.{Taken}
use Rattle.desk_core.specs.Refusals.{Decision}
use Rattle.desk_core.specs.Steps.{Request}
use Rattle.desk_core.specs.Serving.{IsAccepted}

-- an import has an entry of this page
abbrev pub HasPage : List ℕ → List Entry → Type 0
HasPage page [] = ⊥
HasPage page (e ∷ entries) = (e.page ≡ page) ⊎ HasPage page entries

-- a request puts, edits, imports or drops this page, or sets its site's languages
abbrev pub Renews : List ℕ → List ℕ → Command → Type 0
Renews site page (command.PutLanguages s langs) = s ≡ site
Renews site page (command.PutPage s p rev raw) = (s ≡ site) × (p ≡ page)
Renews site page (command.DropPage s p rev) = (s ≡ site) × (p ≡ page)
Renews site page (command.Import s entries) = (s ≡ site) × HasPage page entries
Renews site page (command.EditPage s p rev edits) = (s ≡ site) × (p ≡ page)
Renews site page other = ⊥

-- none of these requests, with their replies, is accepted and renews this page
abbrev pub NoneRenews : List ℕ → List ℕ → List Request → List Reply → Type 0
NoneRenews site page (q ∷ requests) (r ∷ replies) = (IsAccepted r → Renews site page q.command → ⊥) × NoneRenews site page requests replies
NoneRenews site page requests replies = Unit {0}

-- the reply to claims of which none was added
abbrev pub TakesNone : Reply → Type 0
TakesNone (Taken added known skipped) = added ≡ 0
TakesNone other = ⊥

-- nothing is added: no claim is new, or the request is refused
abbrev pub AddsNothing : Decision → Type 0
AddsNothing (Ok d) = (d.change ≡ None) × TakesNone d.reply
AddsNothing (Err refusal) = Unit {0}
