-- What a map notes of the nodes that bear a word.
use Rattle.std.proofs.Common.{◌≡◌, ◌&&◌, ◌||◌, not, cond, eqb, ℕ, List, Bool, true, false, Option, Some, None, refl, sym, ap, ◌∙◌, arith}
use Rattle.std.proofs.lemmas.Bool.{false≢true}
use Rattle.std.proofs.lemmas.Slice.Eq.{bytes_eq-Decides}
use Rattle.std.specs.Map.{update}
use Rattle.std.specs.Str.{bytes_eq}
use Rattle.snap_tree.specs.declared.row.NodeId.{NodeId}
use Rattle.rules_tables.specs.declared.bearers.Bearer.{Bearer}
use Rattle.rules_tables.specs.Bearers.{Bearers, bearer_of, with_node, has_other, HasPut}

moved : (more other same : Bool) → ((more || other) || same) ≡ ((more || same) || other)
moved true other same = refl
moved false true true = refl
moved false true false = refl
moved false false true = refl
moved false false false = refl

or_false : (b : Bool) → b ≡ (b || false)
or_false true = refl
or_false false = refl

-- of two numbers the first, or the second, differs from a third where they differ and one does
differ : (f n m : ℕ) (fn fm nm : Bool) → eqb f n ≡ fn → eqb f m ≡ fm → eqb n m ≡ nm → (not fn || not fm) ≡ (not fm || not nm)
differ f n m true fm nm a b c = grind arith
differ f n m false true nm a b c = grind arith
differ f n m false false nm a b c = refl

with_more : (o : Option Bearer) (n m : NodeId) → has_other (Some (with_node o n)) m ≡ (has_other o m || not (eqb n.0 m.0))
with_more None n m = refl
with_more (Some b) n m = by_more b.more
  where
    by_more : (more : Bool) → ((more || not (eqb b.first.0 n.0)) || not (eqb b.first.0 m.0)) ≡ ((more || not (eqb b.first.0 m.0)) || not (eqb n.0 m.0))
    by_more true = refl
    by_more false = differ b.first.0 n.0 m.0 (eqb b.first.0 n.0) (eqb b.first.0 m.0) (eqb n.0 m.0) refl refl refl

other_word : (w v : List ℕ) → bytes_eq v w ≡ false → bytes_eq w v ≡ false
other_word w v e = by (bytes_eq w v) refl
  where
    by : (b : Bool) → bytes_eq w v ≡ b → b ≡ false
    by true h = absurd (false≢true (sym e ∙ (bytes_eq-Decides v w).1 (sym ((bytes_eq-Decides w v).0 h))))
    by false h = refl

-- one word has one node more
pub put_more : (old new : Bearers) (word : List ℕ) (n : NodeId) → ((w : List ℕ) → bearer_of new w ≡ update bytes_eq (bearer_of old) word (Some (with_node (bearer_of old word) n)) w) → HasPut old new word n
put_more old new word n h w m = ap (λ o. has_other o m) (h w) ∙ by_word (bytes_eq word w) refl
  where
    by_word : (b : Bool) → bytes_eq word w ≡ b → has_other (cond b (Some (with_node (bearer_of old word) n)) (bearer_of old w)) m ≡ (has_other (bearer_of old w) m || (bytes_eq w word && not (eqb n.0 m.0)))
    by_word true e =
        let same : word ≡ w = (bytes_eq-Decides word w).0 e in
        with_more (bearer_of old word) n m ∙ ap (λ v. has_other (bearer_of old v) m || not (eqb n.0 m.0)) same
        ∙ ap (λ b. has_other (bearer_of old w) m || (b && not (eqb n.0 m.0))) (sym ((bytes_eq-Decides w word).1 (sym same)))
    by_word false e = or_false (has_other (bearer_of old w) m) ∙ ap (λ b. has_other (bearer_of old w) m || (b && not (eqb n.0 m.0))) (sym (other_word w word e))

-- the node bore the word already
pub put_same : (old : Bearers) (word : List ℕ) (n : NodeId) → bearer_of old word ≡ Some (with_node (bearer_of old word) n) → HasPut old old word n
put_same old word n h w m = by_word (bytes_eq word w) refl
  where
    by_word : (b : Bool) → bytes_eq word w ≡ b → has_other (bearer_of old w) m ≡ (has_other (bearer_of old w) m || (bytes_eq w word && not (eqb n.0 m.0)))
    by_word true e =
        let same : word ≡ w = (bytes_eq-Decides word w).0 e in
        ap (λ v. has_other (bearer_of old v) m) (sym same) ∙ ap (λ o. has_other o m) h ∙ with_more (bearer_of old word) n m ∙ ap (λ v. has_other (bearer_of old v) m || not (eqb n.0 m.0)) same
        ∙ ap (λ b. has_other (bearer_of old w) m || (b && not (eqb n.0 m.0))) (sym ((bytes_eq-Decides w word).1 (sym same)))
    by_word false e = or_false (has_other (bearer_of old w) m) ∙ ap (λ b. has_other (bearer_of old w) m || (b && not (eqb n.0 m.0))) (sym (other_word w word e))

pub one_of : (a b c n : Bool) → ((a || (b && n)) || (c && n)) ≡ (a || ((b || c) && n))
one_of true b c n = refl
one_of false true true true = refl
one_of false true false true = refl
one_of false true true false = refl
one_of false true false false = refl
one_of false false c n = refl

pub or_nothing : (b : Bool) → b ≡ (b || false)
or_nothing = or_false
