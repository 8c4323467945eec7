-- What a parse makes of words: their matches where it takes them, and none where it fails for another cause
-- than memory.
use Rattle.std.proofs.Common.{◌≡◌, ◌∙◌, ℕ, true, true≢false, cond, List, Option, Some, None, Result, Ok, Err, IfOk, option_map, sym, ap}
use Rattle.std.specs.Prelude.{IsNone}
use Rattle.std.proofs.lemmas.Bool.{false_from_ne_true}
use Rattle.clap.specs.Words.{App, Row, matches_of, takes}
use Rattle.clap.specs.declared.error.kind.ErrorKind.{ErrorKind}
use Rattle.clap.specs.declared.error.kind.ErrorKind.TheVariants.{OutOfMemory}
use Rattle.desk_words.specs.Words.{matched}
use Rattle.desk_words.specs.declared.command.ProgramCommand.{ProgramCommand}

pub taken_so : (app : App) (words : List (List ℕ)) (rows : List Row) → takes app words ≡ true → rows ≡ matches_of app words → Some rows ≡ matched app words
taken_so app words rows takes is = ap (λ r. Some r) is ∙ sym (ap (λ b. cond b (Some (matches_of app words)) None) takes)

pub not_taken : {M E : Type 0} (rows : M → List Row) (app : App) (words : List (List ℕ)) (result : Result (Option M) E) (kind : ErrorKind) → IfOk result (λ m. IsNone m) → IfOk result (λ m. kind ≡ OutOfMemory → ⊥)
    → (takes app words ≡ true → kind ≡ OutOfMemory) → IfOk result (λ m. option_map rows m ≡ matched app words)
not_taken rows app words (Err e) kind none other passes = tt
not_taken rows app words (Ok None) kind none other passes = sym (ap (λ b. cond b (Some (matches_of app words)) None) (false_from_ne_true (takes app words) (λ t. other (passes t))))
not_taken rows app words (Ok (Some m)) kind none other passes = absurd (true≢false none)

-- ---- the commands

-- the command that is made of the matches of words
pub makes : (of : List Row → ProgramCommand) (app wanted : App) (texts words : List (List ℕ)) (rows : List Row) (command : ProgramCommand) → app ≡ wanted → texts ≡ words
    → Some rows ≡ matched app texts → command ≡ of rows → Some command ≡ option_map of (matched wanted words)
makes of app wanted texts words rows command is same read made = ap Some made ∙ ap (option_map of) (read ∙ (λ i. matched (is i) (same i)))
