-- What is owned where one may follow so many times, 0 or 1.
use Rattle.std.proofs.Common.{◌≡◌, ◌≤◌, ℕ, zero, suc, List, ◌++◌, refl, sym, append-nil, arith}
use Rattle.aria_tables.specs.declared.role.Role.{Role}
use Rattle.snap_tree.specs.Trees.{Trees}
use Rattle.acc_tree.specs.Frames.{under}
use Rattle.acc_tree.specs.Owning.{owned_in, takes_nothing, taken, owned_by}
use Rattle.acc_tree.specs.Sights.{Sight}

pub follows_none : (through : List Role) (trees : Trees) (number : ℕ) (s : Sight) → number ≡ 0
    → owned_in through 0 takes_nothing (under s.above s.row) s.below ≡ owned_by through trees number s
follows_none through trees zero s e = sym (append-nil (owned_in through 0 takes_nothing (under s.above s.row) s.below))
follows_none through trees (suc number) s e = absurd (omega (arith, e))

pub follows_once : (through : List Role) (trees : Trees) (number : ℕ) (s : Sight) → number ≤ 1 → (number ≡ 0 → ⊥)
    → owned_in through 1 (taken through trees 1) (under s.above s.row) s.below ++ taken through trees 1 s.row ≡ owned_by through trees number s
follows_once through trees zero s h e = absurd (e refl)
follows_once through trees (suc zero) s h e = refl
follows_once through trees (suc (suc number)) s h e = absurd (omega (arith, h))
