-- How names compare.
use Rattle.std.proofs.Common.{◌≡◌, ℕ, ◌≤◌, List, refl, sym, ap, subst, ◌∙◌, arith}
use Rattle.std.specs.declared.cmp.Ordering.{Ordering}
use Rattle.std.specs.declared.cmp.Ordering.TheVariants.{Less, Equal, Greater}
use Rattle.std.specs.Ordering.{match_ordering, ordering_reverse, ordering_index, is_eq}
use Rattle.std.specs.Cmp.{tied_itself}
use Rattle.std.specs.Cmp.Lexicographic.{nat_list_cmp_total}
use Rattle.std.proofs.lemmas.Map.Text.{is_eq-slice_cmp}
use Rattle.std.proofs.lemmas.Slice.Eq.{bytes_eq-Decides}
use Rattle.named_rows.specs.ByName.{names_cmp}

pub same_itself : (n : List ℕ) → names_cmp n n ≡ Equal
same_itself n = tied_itself nat_list_cmp_total n

pub same_name : (m n : List ℕ) → names_cmp m n ≡ Equal → m ≡ n
same_name m n tied = (bytes_eq-Decides m n).0 (sym (is_eq-slice_cmp m n) ∙ ap is_eq tied)

pub tied_name : (m n : List ℕ) → m ≡ n → names_cmp m n ≡ Equal
tied_name m n same = ap (names_cmp m) (sym same) ∙ same_itself m

pub turned : (m n : List ℕ) (o : Ordering) → names_cmp m n ≡ o → names_cmp n m ≡ ordering_reverse o
turned m n o is = nat_list_cmp_total.antisymm n m ∙ ap ordering_reverse is

pub below_chain : (l m n : List ℕ) → names_cmp l m ≡ Less → names_cmp m n ≡ Less → names_cmp l n ≡ Less
below_chain l m n first next = nat_list_cmp_total.trans l m n first next

-- a choice by an order has what each of the three has
pub chosen : {X : Type 0} (P : X → Type 0) (o : Ordering) (a b c : X) → P a → P b → P c → P (match_ordering o a b c)
chosen P Less a b c p q r = p
chosen P Equal a b c p q r = q
chosen P Greater a b c p q r = r

-- a function of a choice by an order is the choice of the function's values
pub through : {X Y : Type 0} (f : X → Y) (o : Ordering) (a b c : X) → f (match_ordering o a b c) ≡ match_ordering o (f a) (f b) (f c)
through f Less a b c = refl
through f Equal a b c = refl
through f Greater a b c = refl

up_to_two : (o : Ordering) → ordering_index o ≤ 2
up_to_two Less = omega arith
up_to_two Equal = omega arith
up_to_two Greater = omega arith

lowest : (o : Ordering) → o ≡ Less → ordering_index o ≤ 0
lowest o is = subst (λ (p : Ordering). ordering_index p ≤ 0) (sym is) (omega arith)

raised : {m : ℕ} (n : ℕ) → m ≤ 0 → m ≤ n
raised n within = omega arith

rises_by : (a b n : List ℕ) (o : Ordering) → names_cmp a b ≡ Less → names_cmp b n ≡ o → ordering_index (names_cmp a n) ≤ ordering_index o
rises_by a b n Less below is = lowest (names_cmp a n) (below_chain a b n below is)
rises_by a b n Equal below is = raised 1 (lowest (names_cmp a n) (ap (names_cmp a) (sym (same_name b n is)) ∙ below))
rises_by a b n Greater below is = up_to_two (names_cmp a n)

-- the comparisons of names with one name rise as the names do
pub rises : (a b n : List ℕ) → names_cmp a b ≡ Less → ordering_index (names_cmp a n) ≤ ordering_index (names_cmp b n)
rises a b n below = rises_by a b n (names_cmp b n) below refl
