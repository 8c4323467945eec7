-- The whole refresh: how it ends wherever it ends, and what it costs.
use Rattle.std.proofs.Common.{◌≡◌, ◌≢◌, ℕ, ◌==◌, Option, Some, Result, Ok, Err, IsErrAnd, false, if◌then◌else◌, inl, inr, refl, sym, ap, ◌∙◌, subst, arith}
use Rattle.std.proofs.lemmas.Bool.Decides.{nat_tests}
use Rattle.rule_core.specs.Books.{Book}
use Rattle.keep_core.specs.declared.fault.KeepFault.{KeepFault}
use Rattle.keep_core.specs.declared.change.Change.TheVariants.{SetEdition}
use Rattle.keep_core.specs.declared.tables.Tables.{Tables}
use Rattle.keep_core.specs.Keeping.{Stays, Makes}
use Rattle.desk_core.specs.State.{state_of}
use Rattle.desk_core.specs.Soundness.{IsNearlySound}
use Rattle.desk_core.specs.Refreshing.{book_edition, MayBegin, IsOnTheWay, IsFresh, Refreshes, all_judgings, refresh_judgings, CostsAtMost, AreAllFresh, AreOfNoBook, Steps}
use Rattle.desk_core.proofs.Refreshing.{ended}
use Rattle.desk_core.proofs.Rounds.{same_told}

-- before anything was changed
pub any_fault : (book : Book) {A : Type 0} (Q : KeepFault → Type 0) (old new : Option Tables) (r : Result A KeepFault) → IsErrAnd r Q → Stays old new → Refreshes book old new r
any_fault book Q old new (Err fault) is stays t told = (t, stays t told, λ may. inl refl)
any_fault book Q old new (Ok a) is stays t told = absurd is

other_test : (m n : ℕ) → m ≢ n → (m == n) ≡ false
other_test m n other = grind (arith, nat_tests)

-- where the edition is the book's
pub nothing_to_do : (book : Book) (kept : ℕ) (old read : Option Tables) → Stays old read → ((t : Tables) → read ≡ Some t → kept ≡ t.edition) → kept ≡ book_edition book
    → Refreshes book old read (let r : Result (Unit {0}) KeepFault = Ok (tt {0}) in r)
nothing_to_do book kept old read reads answers same t told =
    let is : t.edition ≡ book_edition book = sym (answers t told) ∙ same in
    (t, reads t told, λ may. record { sound = may.sound is; edition = is; same = refl; unchanged = λ _. refl })

module _ (book : Book) (kept : ℕ) (old read left : Option Tables) (reads : Stays old read) (answers : (t : Tables) → read ≡ Some t → kept ≡ t.edition) where
  -- where the edition couldn't be left
  pub not_left : {A : Type 0} (Q : KeepFault → Type 0) (r : Result A KeepFault) → IsErrAnd r Q → ((t : Tables) → left ≡ Some t → (s : Tables) × (read ≡ Some s) × (s.edition ≡ kept → t ≡ s))
      → Refreshes book old left r
  not_left Q (Ok a) is leaves t told = absurd is
  not_left Q (Err fault) is leaves t told =
      let was = leaves t told in
      (was.0, reads was.0 was.1, λ may. inl (was.2 (sym (answers was.0 was.1))))

  -- and where it was left
  module _ (leaves : (t : Tables) → left ≡ Some t → (s : Tables) × (read ≡ Some s) × (s.edition ≡ kept → t ≡ record s { edition = 0 })) where
    -- what was told before
    was_left : (m : Tables) → left ≡ Some m → (s : Tables) × (old ≡ Some s) × (kept ≡ s.edition) × (m ≡ record s { edition = 0 })
    was_left m told =
        let was = leaves m told in
        let is = answers was.0 was.1 in
        (was.0, reads was.0 was.1, is, was.2 (sym is))

    pub left_away : AreOfNoBook left
    left_away t told = ap (λ (u : Tables). u.edition) (was_left t told).3

    left_nearly : (s m : Tables) → m ≡ record s { edition = 0 } → IsNearlySound s → IsNearlySound m
    left_nearly s m is nearly = subst IsNearlySound (sym is) (record { fit = nearly.fit; sites = nearly.sites })

    module _ (other : kept ≢ book_edition book) {B : Type 0} (D : Tables → Type 0) (gone : Option Tables) where
      -- then the tables are on the way
      way : (r : Result B KeepFault) → Steps book D left gone r → (u : Tables) → gone ≡ Some u → (s : Tables) × (old ≡ Some s) × (MayBegin book s → IsOnTheWay book s u)
      way r steps u told =
          let on = steps.goes_on u told in
          let was = was_left on.0 on.1 in (
            was.0,
            was.1,
            λ may. record {
              other = λ is. other (was.2 ∙ is);
              nearly = on.2.nearly (left_nearly was.0 on.0 was.3 may.nearly);
              edition = on.2.edition ∙ ap (λ (t : Tables). t.edition) was.3;
              same = on.2.same ∙ ap state_of was.3;
            },
          )

      -- where it broke off
      pub broke_off : {C : Type 0} (Q : KeepFault → Type 0) (q : Result B KeepFault) (r : Result C KeepFault) → IsErrAnd r Q → Steps book D left gone q → Refreshes book old gone r
      broke_off Q q (Ok c) is steps t told = absurd is
      broke_off Q q (Err fault) is steps t told = let w = way q steps t told in (w.0, w.1, λ may. inr (w.2 may))

      -- what it costs then, or where the last call made what it was to make
      pub refresh_costs : (new : Option Tables) (from to : ℕ) (r : Result B KeepFault) → Steps book D left gone r → CostsAtMost (all_judgings book) left gone from to
          → ((t : Tables) → new ≡ Some t → (u : Tables) × (gone ≡ Some u)) → CostsAtMost (refresh_judgings book) old new from to
      refresh_costs new from to r steps costs back s t before now nearly =
          let end = back t now in
          let on = steps.goes_on end.0 end.1 in
          let was = was_left on.0 on.1 in
          let is : was.0 ≡ s = same_told old was.0 s was.1 before in
          let start : on.0 ≡ record s { edition = 0 } = was.3 ∙ ap (λ (v : Tables). record v { edition = 0 }) is in
          let cost = costs on.0 end.0 on.1 end.1 (left_nearly s on.0 start nearly) in
          let all : all_judgings book on.0 ≡ all_judgings book s = ap (all_judgings book) start in
          let test = other_test s.edition (book_edition book) (λ e. other (was.2 ∙ ap (λ (v : Tables). v.edition) is ∙ e)) in
          let most : refresh_judgings book s ≡ all_judgings book s = ap (λ b. if b then 0 else all_judgings book s) test in
          omega (arith, cost, all, most)

    -- the end of it, with the book's edition
    pub last_set : (other : kept ≢ book_edition book) {B C : Type 0} (b : B) (gone new : Option Tables) (edition : ℕ) (r : Result C KeepFault) → edition ≡ book_edition book
        → Steps book (AreAllFresh book) left gone (let q : Result B KeepFault = Ok b in q) → Makes (SetEdition edition) gone new r → Refreshes book old new r
    unfolding way was_left
    last_set other b gone new edition (Err fault) is steps makes t told =
        let w = way other (AreAllFresh book) gone (Ok b) steps t (makes.kept t told) in
        (w.0, w.1, λ may. inr (w.2 may))
    last_set other b gone new edition (Ok c) is steps makes t told =
        let turn = makes.made t told in
        let u = turn.0 in
        let on = steps.goes_on u turn.1 in
        let was = was_left on.0 on.1 in
        let w = way other (AreAllFresh book) gone (Ok b) steps u turn.1 in (
          was.0,
          was.1,
          λ may.
              let fresh = steps.done on.0 u on.1 turn.1 (left_nearly was.0 on.0 was.3 may.nearly) in
              let end = ended book was.0 u (w.2 may) fresh in
              subst (IsFresh book was.0) (sym (turn.2 ∙ ap (λ (n : ℕ). record u { edition = n }) is)) end,
        )
