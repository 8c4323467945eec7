-- Lists read one after another, as a loop does, and how long they are.
use Rattle.std.proofs.Common.{◌≡◌, ℕ, suc, ◌+◌, ◌<◌, add-one, subst, drop, get_or, List, [], ◌∷◌, ◌++◌, append_assoc, length, Result, Ok, Err, refl, sym, ap, ◌∙◌}
use Rattle.std.proofs.Math.Seq.{drop-cons}
use Rattle.serde_json.specs.Data.{Data, Items, item}
use Rattle.serde_json.specs.View.{view, items_view}
use Rattle.serde_json.specs.declared.value.Value.{Value}
use Rattle.http_routes.specs.declared.fault.RequestFault.{RequestFault}
use Rattle.http_routes.specs.declared.part.Part.TheVariants.{Pages}
use Rattle.snap_json.specs.Pages.{next_place}
use Rattle.desk_core.specs.declared.command.Entry.{Entry}
use Rattle.http_commands.specs.Shapes.{◌>>=◌, in_shape}
use Rattle.http_commands.specs.Entries.{many, entry_of, entries_from}

-- what was read before, and what is still read
abbrev pub added : {A : Type 0} → List A → Result (List A) RequestFault → Result (List A) RequestFault
added front rest = rest >>= λ others. Ok (front ++ others)

pub many_view : (vs : List Value) → many (items_view vs) ≡ length vs
many_view [] = refl
many_view (v ∷ vs) = ap suc (many_view vs)

-- one more is read
added_step : {A : Type 0} (front : List A) (x : A) (rest : Result (List A) RequestFault) → added front (rest >>= λ others. Ok (x ∷ others)) ≡ added (front ++ x ∷ []) rest
added_step front x (Ok others) = ap Ok (sym (append_assoc front (x ∷ []) others))
added_step front x (Err fault) = refl

-- an entry more is read after those that were found
one_more : (found : List Entry) (place : ℕ) (d : Data) (items : Items) (e : Entry) (all : Result (List Entry) RequestFault)
    → added found (entries_from found place (item d items)) ≡ all → in_shape Pages place (entry_of found d) ≡ Ok e
    → added (found ++ e ∷ []) (entries_from (found ++ e ∷ []) (next_place place) items) ≡ all
one_more found place d items e all before meant =
    let then = λ (entry : Entry). entries_from (found ++ entry ∷ []) (next_place place) items >>= λ rest. Ok (entry ∷ rest) in
    sym (added_step found e (entries_from (found ++ e ∷ []) (next_place place) items)) ∙ sym (ap (λ r. added found (r >>= then)) meant) ∙ before

-- the same in a loop over a list's values
pub entries_turn : (pages : List Value) (i : ℕ) (v : Value) (found now : List Entry) (place next : ℕ) (e : Entry) (all : Result (List Entry) RequestFault)
    → i < length pages → v ≡ get_or pages i v → now ≡ found ++ e ∷ [] → next ≡ next_place place
    → added found (entries_from found place (items_view (drop i pages))) ≡ all → in_shape Pages place (entry_of found (view v)) ≡ Ok e
    → added now (entries_from now next (items_view (drop (i + 1) pages))) ≡ all
entries_turn pages i v found now place next e all within is now_is next_is before meant =
    let later = drop (i + 1) pages in
    let ahead : drop i pages ≡ v ∷ later = drop-cons pages i v within ∙ ap (λ w. w ∷ drop (suc i) pages) (sym is) ∙ ap (λ n. v ∷ drop n pages) (sym (add-one i)) in
    let here : added found (entries_from found place (item (view v) (items_view later))) ≡ all =
    sym (ap (λ rest. added found (entries_from found place (items_view rest))) ahead) ∙ before
    in
    let At = λ (front : List Entry) (n : ℕ). added front (entries_from front n (items_view later)) ≡ all in
    subst (λ front. At front next) (sym now_is) (subst (λ n. At (found ++ e ∷ []) n) (sym next_is) (one_more found place (view v) (items_view later) e all here meant))
