-- What is known of a request in the arm of its command.
use Rattle.std.proofs.Common.{◌≡◌, ℕ, List, Option, Result, sym, subst}
use Rattle.rule_core.specs.Books.{Book}
use Rattle.keep_core.specs.declared.tables.Tables.{Tables}
use Rattle.desk_core.specs.declared.command.Command.{Command}
use Rattle.desk_core.specs.declared.command.Command.TheVariants.{Import, PutLanguages}
use Rattle.desk_core.specs.declared.command.Entry.{Entry}
use Rattle.desk_core.specs.declared.decided.Decided.{Decided}
use Rattle.desk_core.specs.declared.refusal.Refusal.{Refusal}
use Rattle.desk_core.specs.Costs.{IsOfMany, Costs}
use Rattle.desk_core.specs.Fitting.{FitsRequest}
use Rattle.desk_core.specs.Told.{Told}
use Rattle.desk_core.specs.Serving.{Decides}

module _ {book : Book} {q arm : Command} (is : q ≡ arm) where
  pub fits_at : {caller : List ℕ} → FitsRequest book (record { caller = caller; command = q }) → FitsRequest book (record { caller = caller; command = arm })
  fits_at {caller} fits = let P : Command → Type 0 = λ c. FitsRequest book (record { caller = caller; command = c }) in subst P is fits

  pub decides_at : {caller : List ℕ} {old new : Told} {result : Result Decided Refusal}
      → Decides book (record { caller = caller; command = arm }) old new result → Decides book (record { caller = caller; command = q }) old new result
  decides_at {caller} {old} {new} {result} decides =
      let P : Command → Type 0 = λ c. Decides book (record { caller = caller; command = c }) old new result in subst P (sym is) decides

  pub costs_at : {old new : Option Tables} {from to : ℕ} → Costs book arm old new from to → Costs book q old new from to
  costs_at {old} {new} {from} {to} costs = let P : Command → Type 0 = λ c. Costs book c old new from to in subst P (sym is) costs

pub import_at : {q : Command} {site : List ℕ} {entries : List Entry} → q ≡ Import site entries → IsOfMany q
import_at is = subst IsOfMany (sym is) tt

pub languages_at : {q : Command} {site : List ℕ} {langs : List (List ℕ)} → q ≡ PutLanguages site langs → IsOfMany q
languages_at is = subst IsOfMany (sym is) tt
