-- Two steps of a transaction, one after the other, are a step.
use Rattle.std.proofs.Common.{Result, Ok, ◌∙◌, arith}
use Rattle.std.specs.Borrow.{MutBor}
use Rattle.sqlite_trees.specs.declared.store.Store.{Ghosts}
use Rattle.sqlite.specs.Held.{Held, state}
use Rattle.sqlite.proofs.StateLemmas.{survives_then}
use Rattle.sql_rows.specs.Inside.{Steps}

pub steps_then : {S A B E : Type 0} (g : Ghosts S) (old mid new : MutBor (Held S)) (a : A) (r : Result B E)
    → Steps {A = A} {E = E} g old mid (Ok a) → Steps g mid new r → Steps g old new r
steps_then g old mid new a r first then = record {
  same_reference = then.same_reference ∙ first.same_reference;
  kept = λ clean inside.
      let earlier = first.kept (omega (arith, clean, then.survives.clean)) inside in
      let later = then.kept clean earlier.1 in (
        record {
          was_open = λ is_open. earlier.0.was_open (later.0.was_open is_open);
          committed = λ is_open. later.0.committed is_open ∙ earlier.0.committed (later.0.was_open is_open);
        },
        later.1,
      );
  survives = survives_then (state g old.now) (state g mid.now) (state g new.now) (λ _. ⊥) (λ _. ⊥) (λ _. ⊥) (λ clean db none. none) (λ clean db none. none) first.survives then.survives;
}
