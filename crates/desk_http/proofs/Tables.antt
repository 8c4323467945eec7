-- What is told of tables, over one call after another.
use Rattle.std.proofs.Common.{◌≡◌, ◌+◌, ◌≤◌, List, [], ◌∷◌, ◌++◌, length, Option, refl, sym, ◌∙◌, subst, arith}
use Rattle.std.proofs.lemmas.List.Sums.{sum_by-append}
use Rattle.rule_core.specs.Books.{Book}
use Rattle.keep_core.specs.declared.tables.Tables.{Tables}
use Rattle.desk_core.specs.State.{state_of}
use Rattle.http_messages.specs.declared.item.Item.{Item}
use Rattle.http_replies.specs.declared.answer.Answer.{Answer}
use Rattle.desk_http.specs.Answering.{sent_judgings, sent_alone, RestsOnPages, Refuses, SparesOthers}
use Rattle.desk_http.specs.Desk.{Moment}
use Rattle.desk_http.specs.Serving.{KeepsSound, OfSound, AnsweredBy, Settles, Run, SettlesEach, SettlesAll}
use Rattle.desk_http.proofs.Runs.{runs_join, runs_one, all_get_join, all_get_one, all_front, all_back}

pub of_sound_join : (book : Book) (Q R S : Tables → Tables → Type 0) (k0 k1 k3 : Option Tables) → ((s m t : Tables) → Q s m → R m t → S s t) →
    OfSound book Q k0 k1 → OfSound book R k1 k3 → OfSound book S k0 k3
of_sound_join book Q R S k0 k1 k3 step first then t is =
    let y = then t is in
    let x = first y.0 y.1 in
    (x.0, x.1, y.2 ∙ x.2, λ sound. let a = x.3 sound in let b = y.3 a.0 in (b.0, step x.0 y.0 t a.1 b.1))

pub of_sound_weaken : (book : Book) (Q R : Tables → Tables → Type 0) (k0 k1 : Option Tables) → ((s t : Tables) → Q s t → R s t) → OfSound book Q k0 k1 → OfSound book R k0 k1
of_sound_weaken book Q R k0 k1 step first t is = let x = first t is in (x.0, x.1, x.2, λ sound. let a = x.3 sound in (a.0, step x.0 t a.1))

-- sound tables stay sound
pub keeps_sound : (book : Book) (Q : Tables → Tables → Type 0) (k0 k1 : Option Tables) → OfSound book Q k0 k1 → KeepsSound book k0 k1
keeps_sound book Q k0 k1 told t is = let x = told t is in (x.0, x.1, x.2, λ sound. (x.3 sound).0)

pub keeps_join : (book : Book) (k0 k1 k3 : Option Tables) → KeepsSound book k0 k1 → KeepsSound book k1 k3 → KeepsSound book k0 k3
keeps_join book k0 k1 k3 first then t is = let y = then t is in let x = first y.0 y.1 in (x.0, x.1, y.2 ∙ x.2, λ sound. y.3 (x.3 sound))

-- ---- runs

run_join : (book : Book) (is js : List Item) (said bs : List Answer) (m0 m1 m3 : Moment) (s m t : Tables) →
    Run book is said m0 m1 s m → Run book js bs m1 m3 m t → Run book (is ++ js) (said ++ bs) m0 m3 s t
run_join book is js said bs m0 m1 m3 s m t one two =
    let less = one.few in let more = two.few in
    record {
      most = one.most + two.most;
      runs = runs_join book (state_of s) (state_of m) (state_of t) is js said bs m0.faults m1.faults m1.faults m3.faults one.most two.most one.runs (omega arith) two.runs;
      few = omega (arith, less, more);
    }

run_one : (book : Book) (i : Item) (a : Answer) (old new : Moment) (s t : Tables) → old.faults ≤ new.faults → AnsweredBy book i.sent a old new s t →
    Run book (i ∷ []) (a ∷ []) old new s t
run_one book i a old new s t order (answered, few) = record {
  most = sent_judgings book (state_of s) i.sent;
  runs = runs_one book (state_of s) (state_of t) i a old.faults new.faults order answered;
  few = few;
}

run_none : (book : Book) (m : Moment) → OfSound book (Run book [] [] m m) m.tables m.tables
run_none book m t is = (t, is, refl, λ sound. (sound, record { most = 0; runs = (refl, omega arith, refl); few = omega arith }))

-- ---- each by itself

each_join : (book : Book) (is js : List Item) (said bs : List Answer) (m0 m1 m3 : Moment) →
    SettlesEach book is said m0 m1 → SettlesEach book js bs m1 m3 → SettlesEach book (is ++ js) (said ++ bs) m0 m3
each_join book [] js [] bs m0 m1 m3 same then = let P : Moment → Type 0 = λ m. SettlesEach book js bs m m3 in subst P same then
each_join book (i ∷ is) js (a ∷ said) bs m0 m1 m3 (mid, one, rest) then = (mid, one, each_join book is js said bs mid m1 m3 rest then)
each_join book [] js (a ∷ said) bs m0 m1 m3 all then = absurd all
each_join book (i ∷ is) js [] bs m0 m1 m3 all then = absurd all

-- the moments between them are told apart at any place
parted : (book : Book) (is js : List Item) (said bs : List Answer) (m0 m3 : Moment) → length said ≡ length is → SettlesEach book (is ++ js) (said ++ bs) m0 m3 →
    (m1 : Moment) × SettlesEach book is said m0 m1 × SettlesEach book js bs m1 m3
parted book [] js [] bs m0 m3 same all = (m0, refl, all)
parted book (i ∷ is) js (a ∷ said) bs m0 m3 same (mid, one, rest) =
    let z = parted book is js said bs mid m3 (omega (arith, same)) rest in (z.0, (mid, one, z.1), z.2)
parted book [] js (a ∷ said) bs m0 m3 same all = absurd (omega (arith, same))
parted book (i ∷ is) js [] bs m0 m3 same all = absurd (omega (arith, same))

-- ---- all that is said of items

-- nothing was answered
pub settles_none : (book : Book) (m : Moment) → SettlesAll book [] [] m m
settles_none book m =
    let same : m.faults ≤ m.faults = omega arith in
    record { told = run_none book m; each = refl; counted = λ all. omega arith; get = same; refused = λ all t is. is; others = λ all. refl }

settles_one : (book : Book) (i : Item) (a : Answer) (old new : Moment) → Settles book i.sent a old new → SettlesAll book (i ∷ []) (a ∷ []) old new
settles_one book i a old new one = record {
  told =
      of_sound_weaken book (AnsweredBy book i.sent a old new) (Run book (i ∷ []) (a ∷ []) old new) old.tables new.tables
      (λ (s t : Tables). run_one book i a old new s t one.never_falls) one.told;
  each = (new, one, refl);
  counted = λ all. let few = one.counted.untold all.0 in omega (arith, few);
  get = all_get_one book.infos i a old.faults new.faults one.never_falls one.gets;
  refused = λ all. one.refused all.0;
  others = λ all. one.others all.0;
}

-- items after those that were answered
pub settles_join : (book : Book) (is js : List Item) (said bs : List Answer) (m0 m1 m3 : Moment) →
    SettlesAll book is said m0 m1 → SettlesAll book js bs m1 m3 → SettlesAll book (is ++ js) (said ++ bs) m0 m3
settles_join book is js said bs m0 m1 m3 first then = record {
  told =
      of_sound_join book (Run book is said m0 m1) (Run book js bs m1 m3) (Run book (is ++ js) (said ++ bs) m0 m3) m0.tables m1.tables m3.tables
      (λ (s m t : Tables). run_join book is js said bs m0 m1 m3 s m t) first.told then.told;
  each = each_join book is js said bs m0 m1 m3 first.each then.each;
  counted =
      λ all.
      let few = first.counted (all_front (λ (i : Item). RestsOnPages book.infos i.sent → ⊥) is js all) in
      let more = then.counted (all_back (λ (i : Item). RestsOnPages book.infos i.sent → ⊥) is js all) in
      let both = sum_by-append (λ (i : Item). sent_alone book i.sent) is js in
      omega (arith, few, more, both);
  get = all_get_join book.infos is js said bs m0.faults m1.faults m1.faults m3.faults first.get (omega arith) then.get;
  refused = λ all t told. first.refused (all_front Refuses said bs all) t (then.refused (all_back Refuses said bs all) t told);
  others =
      λ all.
      then.others (all_back (λ (i : Item). SparesOthers book.infos i.sent) is js all)
      ∙ first.others (all_front (λ (i : Item). SparesOthers book.infos i.sent) is js all);
}

-- one item more
pub settles_more : (book : Book) (is : List Item) (said : List Answer) (i : Item) (a : Answer) (m0 m1 m3 : Moment) →
    SettlesAll book is said m0 m1 → Settles book i.sent a m1 m3 → SettlesAll book (is ++ i ∷ []) (said ++ a ∷ []) m0 m3
settles_more book is said i a m0 m1 m3 first one =
    settles_join book is (i ∷ []) said (a ∷ []) m0 m1 m3 first (settles_one book i a m1 m3 one)

-- items that were answered each by itself
each_settles : (book : Book) (is : List Item) (said : List Answer) (m0 m3 : Moment) → SettlesEach book is said m0 m3 → SettlesAll book is said m0 m3
each_settles book [] [] m0 m3 same = let P : Moment → Type 0 = λ m. SettlesAll book [] [] m0 m in subst P (sym same) (settles_none book m0)
each_settles book (i ∷ is) (a ∷ said) m0 m3 (m1, one, rest) =
    settles_join book (i ∷ []) is (a ∷ []) said m0 m1 m3 (settles_one book i a m0 m1 one) (each_settles book is said m1 m3 rest)
each_settles book [] (a ∷ said) m0 m3 all = absurd all
each_settles book (i ∷ is) [] m0 m3 all = absurd all

-- all is said of those before some moment, and of those after it
pub fronts_settle : (book : Book) (is js : List Item) (said bs : List Answer) (m0 m3 : Moment) → length said ≡ length is →
    SettlesEach book (is ++ js) (said ++ bs) m0 m3 → (m1 : Moment) × SettlesAll book is said m0 m1 × SettlesAll book js bs m1 m3
fronts_settle book is js said bs m0 m3 same all =
    let z = parted book is js said bs m0 m3 same all in (z.0, each_settles book is said m0 z.0 z.1, each_settles book js bs z.0 m3 z.2)
