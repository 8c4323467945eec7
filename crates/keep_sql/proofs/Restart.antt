-- Where a batch makes sound tables, and a crash could leave only sound ones before it, a store that is opened after a crash
-- tells sound ones once it is prepared.
use Rattle.std.proofs.Common.{◌≡◌, ◌⊎◌, inl, inr, length, Option, Some, None, IfSome, sym, ap, subst, ◌∙◌, arith}
use Rattle.sqlite_schema.specs.declared.schema.Schema.{Schema}
use Rattle.sqlite_catalog.proofs.ReadLemmas.{lists_once}
use Rattle.sqlite_trees.specs.Tree.{Trees}
use Rattle.sqlite_trees.specs.declared.store.Store.{Ghosts}
use Rattle.sqlite.specs.Held.{Held, state}
use Rattle.sqlite.specs.State.{State, HasCleanDisk}
use Rattle.keep_core.specs.declared.change.Change.{Change}
use Rattle.keep_core.specs.Changes.{changed}
use Rattle.keep_core.specs.declared.tables.Tables.{Tables}
use Rattle.keep_core.specs.Tables.{no_tables}
use Rattle.store_statements.specs.Schema.{old_schema, the_schema}
use Rattle.store_statements.specs.Stored.{Stored, stored}
use Rattle.store_tables.specs.Told.{tables_in}
use Rattle.store_tables.proofs.Steps.{some_same}
use Rattle.keep_sql.specs.Preparing.{HasNone, HasSix, HasAll, HasRows, IsPrepared}
use Rattle.keep_sql.specs.Keeper.{Keeper, told, told_of, held, LeftBy, Leaves, TellsChanged, LeavesTables, MadeOf, Across, IsToldOf}
use Rattle.keep_sql.specs.Restart.{AreSound, AllSound, TellsSound, AsksSound, StartsAgain}
use Rattle.keep_sql.proofs.KeepLemmas.{told_is}
use Rattle.keep_sql.proofs.PrepareLemmas.{rows_told}

-- a database with all tables isn't an older one, so its rows are read in one way
not_six : (db : Trees) → HasAll db → HasSix db → ⊥
not_six db all six = let never : 7 ≡ 6 = ap (λ (s : Schema). length s.tables) (lists_once _ the_schema old_schema all.lists six.lists) in omega (arith, never)

its_rows : (db : Trees) → HasAll db → (s : Stored) → HasRows db s → s ≡ stored db
its_rows db all s (inl (six, is)) = absurd (not_six db all six)
its_rows db all s (inr (has, is)) = is

module _ (Sound : Tables → Type 0) where
  -- ---- a batch

  batch_left : (change : Change) (old new : State) (t : Tables) → told old ≡ Some t → Sound (changed change t) → LeavesTables change old new → (db : Trees) → (old.may_leave db → AreSound Sound db)
      → HasCleanDisk new → new.may_leave db → AreSound Sound db
  batch_left change old new t now sound leaves db before clean left = by (leaves clean (told_is old t now).is_open db left)
    where
      by : old.may_leave db ⊎ TellsChanged change old db → AreSound Sound db
      by (inl earlier) = before earlier
      by (inr made) = λ s has t' is.
          let m = made.was t' (ap tables_in (sym (its_rows db made.all s has)) ∙ is) in
          subst Sound (sym (m.2 ∙ ap (changed change) (some_same m.0 t (sym m.1 ∙ now)))) sound

  module _ {S : Type 0} (g : Ghosts S) where
    -- amid a batch and after it a crash leaves only sound tables
    pub batch_sound : (change : Change) (old new : Keeper S) → AsksSound Sound g change old new → AllSound Sound (LeftBy g new.ready)
    batch_sound change old new h = by old.ready new.ready h.told_is h.before h.leaves
      where
        by : (a b : Option (Held S)) → told_of g a ≡ Some h.told → AllSound Sound (LeftBy g a) → Across g (LeavesTables change) a b → AllSound Sound (LeftBy g b)
        by None b now before leaves = absurd (let never : None ≡ Some h.told = now in cc)
        by (Some a) None now before leaves = absurd leaves
        by (Some a) (Some b) now before leaves = λ db left.
            batch_left change (state g a) (state g b) h.told now h.sound leaves db (λ earlier. before db ((told_is (state g a) h.told now).clean, earlier)) left.0 left.1

    -- ---- a store that is opened and prepared

    starts : (old new : Option (Held S)) → Sound no_tables → IfSome old (λ conn. AreSound Sound (state g conn).now.trees) → Across g IsToldOf old new → (t : Tables) → told_of g new ≡ Some t → Sound t
    starts None new empty left across t is = absurd (let never : None ≡ Some t = ap (told_of g) (sym across) ∙ is in cc)
    starts (Some a) None empty left across t is = absurd across
    starts (Some a) (Some b) empty left across t is = let now = told_is (state g b) t is in by (across now.clean now.is_open)
      where
        by : (HasNone (state g a).now.trees × (told (state g b) ≡ Some no_tables)) ⊎ ((s : Stored) × HasRows (state g a).now.trees s × (told (state g b) ≡ tables_in s)) → Sound t
        by (inl none) = subst Sound (some_same no_tables t (sym none.1 ∙ is)) empty
        by (inr had) = left had.0 had.1 t (sym had.2 ∙ is)

    prepared_of : (a : Held S) → Sound no_tables → AreSound Sound (state g a).now.trees → (db : Trees) → IsPrepared (state g a).now.trees db → AreSound Sound db
    prepared_of a empty left db made s has t is = by (rows_told (state g a).now.trees (stored db) made.1)
      where
        gives : tables_in (stored db) ≡ Some t
        gives = ap tables_in (sym (its_rows db made.0 s has)) ∙ is

        by : (HasNone (state g a).now.trees × (tables_in (stored db) ≡ Some no_tables)) ⊎ ((r : Stored) × HasRows (state g a).now.trees r × (tables_in (stored db) ≡ tables_in r)) → Sound t
        by (inl none) = subst Sound (some_same no_tables t (sym none.1 ∙ gives)) empty
        by (inr had) = left had.0 had.1 t (sym had.2 ∙ gives)

    prepared_left : (old : Option (Held S)) → Sound no_tables → IfSome old (λ conn. AreSound Sound (state g conn).now.trees) → AllSound Sound (MadeOf g old)
    prepared_left None empty left = λ db made. absurd made
    prepared_left (Some a) empty left = λ db made. prepared_of a empty left db made

    sound_of : (old : Option (Held S)) (Left : Trees → Type 0) → AllSound Sound Left → IfSome old (λ conn. Left (state g conn).now.trees) → IfSome old (λ conn. AreSound Sound (state g conn).now.trees)
    sound_of None Left sound left = tt
    sound_of (Some a) Left sound left = sound (state g a).now.trees left

    -- it tells sound tables, the empty ones among them
    pub starts_sound : (Left : Trees → Type 0) (old new : Keeper S) → AllSound Sound Left → Sound no_tables → StartsAgain g Left old new → TellsSound Sound g new
    starts_sound Left old new sound empty h t is = starts (held old) new.ready empty (sound_of (held old) Left sound h.left) h.told t is

    -- and where a crash could leave only sound ones before, it leaves only sound ones afterwards
    pub leaves_sound : (Left : Trees → Type 0) (old new : Keeper S) → AllSound Sound Left → Sound no_tables → StartsAgain g Left old new → AllSound Sound (Leaves g old) → AllSound Sound (Leaves g new)
    leaves_sound Left old new sound empty h before db left = by (h.crash db left)
      where
        by : Leaves g old db ⊎ MadeOf g (held old) db → AreSound Sound db
        by (inl earlier) = before db earlier
        by (inr made) = prepared_left (held old) empty (sound_of (held old) Left sound h.left) db made

    -- ---- the law

    pub restarts_sound : (change : Change) (old new opened ready : Keeper S) → AsksSound Sound g change old new → Sound no_tables → StartsAgain g (LeftBy g new.ready) opened ready → TellsSound Sound g ready
    restarts_sound change old new opened ready asked empty again = starts_sound (LeftBy g new.ready) opened ready (batch_sound change old new asked) empty again
