-- A door that is served link by link.
use Rattle.std.proofs.Common.{◌≡◌, ℕ, ◌+◌, List, [], ◌∷◌, ◌++◌, length, Option, Some, sym, ap, ◌∙◌, subst, append_assoc, append-nil, length-append, arith}
use Rattle.std.proofs.lemmas.Grind.{flat_map-append}
use Rattle.links.specs.Wires.{Wire, IsUntouched}
use Rattle.links.specs.Doors.{Doorway, Gave, TookBack, KeepsLog, Logs}
use Rattle.rule_core.specs.declared.info.RuleInfo.{RuleInfo}
use Rattle.rule_core.specs.Books.{Book}
use Rattle.http_messages.specs.declared.item.Item.{Item}
use Rattle.http_replies.specs.declared.answer.Answer.{Answer}
use Rattle.desk_http.specs.declared.link_end.LinkEnd.{LinkEnd}
use Rattle.desk_http.specs.Linking.{Exchange, Finishes, CountsFaults}
use Rattle.desk_http.specs.Desk.{Moment, Desk, beside_door}
use Rattle.desk_http.specs.Serving.{SettlesAll, Serves, Ends}
use Rattle.desk_http.specs.Doors.{Visit, IsVisit, AreVisits, AreTold, all_items, all_said, ServesDoor, ServesOne}
use Rattle.desk_http.proofs.Moments.{desk_with}
use Rattle.desk_http.proofs.Tables.{settles_join, settles_none}

-- ---- visits

visits_more : {C : Type 0} (infos : List RuleInfo) (wire : C → Option Wire) (faults : C → ℕ) (links : List C) (link : C) (vs : List Visit) (v : Visit) →
    AreVisits infos wire faults links vs → IsVisit infos wire faults link v → AreVisits infos wire faults (links ++ link ∷ []) (vs ++ v ∷ [])
visits_more infos wire faults [] link [] v all one = (one, tt)
visits_more infos wire faults (l ∷ links) link (u ∷ vs) v (first, all) one = (first, visits_more infos wire faults links link vs v all one)
visits_more infos wire faults [] link (u ∷ vs) v all one = absurd all
visits_more infos wire faults (l ∷ links) link [] v all one = absurd all

told_parts : {C : Type 0} (wire : C → Option Wire) (links : List C) (link : C) → AreTold wire (links ++ link ∷ []) → AreTold wire links × ((w : Wire) × (wire link ≡ Some w))
told_parts wire [] link (one, all) = (tt, one)
told_parts wire (l ∷ links) link (first, all) = let rest = told_parts wire links link all in ((first, rest.0), rest.1)

items_more : (vs : List Visit) (v : Visit) → all_items (vs ++ v ∷ []) ≡ all_items vs ++ v.items
items_more vs v = flat_map-append (λ (u : Visit). u.items) vs (v ∷ []) ∙ ap (λ l. all_items vs ++ l) (append-nil v.items)

said_more : (vs : List Visit) (v : Visit) → all_said (vs ++ v ∷ []) ≡ all_said vs ++ v.said
said_more vs v = flat_map-append (λ (u : Visit). u.said) vs (v ∷ []) ∙ ap (λ l. all_said vs ++ l) (append-nil v.said)

settles_visits : (book : Book) (vs : List Visit) (v : Visit) (m0 m1 m3 : Moment) → SettlesAll book (all_items vs) (all_said vs) m0 m1 →
    SettlesAll book v.items v.said m1 m3 → SettlesAll book (all_items (vs ++ v ∷ [])) (all_said (vs ++ v ∷ [])) m0 m3
settles_visits book vs v m0 m1 m3 one two =
    let P : List Item → Type 0 = λ l. SettlesAll book l (all_said (vs ++ v ∷ [])) m0 m3 in
    let Q : List Answer → Type 0 = λ l. SettlesAll book (all_items vs ++ v.items) l m0 m3 in
    subst P (sym (items_more vs v))
    (subst Q (sym (said_more vs v)) (settles_join book (all_items vs) v.items (all_said vs) v.said m0 m1 m3 one two))

-- ---- the door

-- nothing was served yet
pub door_none : {L : Type 0} (book : Book) (desk : Desk L) → ServesDoor book desk desk
door_none book desk l is =
    (l, [], is, record { log_is = sym (append-nil l); count = omega arith }, λ told. ([], tt, settles_none book (beside_door desk)))

-- one link more was served
pub door_more : {L : Type 0} (book : Book) (wire : L → Option Wire) (broken : L → ℕ) (d0 d1 d2 d3 : Doorway) (log0 log1 log2 log3 : Option (List L))
    (m0 m1 m3 : Moment) → ServesDoor book (desk_with wire broken d0 log0 m0) (desk_with wire broken d1 log1 m1) → KeepsLog log1 log2 → Gave d1 d2 →
    ServesOne book (desk_with wire broken d2 log2 m1) (desk_with wire broken d3 log3 m3) → TookBack d2 d3 →
    ServesDoor book (desk_with wire broken d0 log0 m0) (desk_with wire broken d3 log3 m3)
door_more book wire broken d0 d1 d2 d3 log0 log1 log2 log3 m0 m1 m3 so_far keeps gave served took log is =
    let one = served log is in
    let z = so_far one.0 (keeps one.0 one.2) in
    let count : d0.allowed ≡ d1.allowed + length z.1 = z.3.count in
    let fewer = gave.allowed in
    let same = took.allowed in
    let longer = length-append z.1 (one.1 ∷ []) in
    let counted : d0.allowed ≡ d3.allowed + length (z.1 ++ one.1 ∷ []) = omega (arith, count, fewer, same, longer) in (
      z.0,
      z.1 ++ one.1 ∷ [],
      z.2,
      record {
        log_is = one.3 ∙ ap (λ l. l ++ one.1 ∷ []) z.3.log_is ∙ append_assoc z.0 z.1 (one.1 ∷ []);
        count = counted;
      },
      λ told.
          let parts = told_parts wire z.1 one.1 told in
          let before = z.4 parts.0 in
          let now = one.4 parts.1.0 parts.1.1 in (
            before.0 ++ now.0 ∷ [],
            visits_more book.infos wire broken z.1 one.1 before.0 now.0 before.1 now.1,
            settles_visits book before.0 now.0 m0 m1 m3 before.2 now.2,
          ),
    )

-- the log without a link more
pub door_keeps : {L : Type 0} (book : Book) (wire : L → Option Wire) (broken : L → ℕ) (d0 d1 d2 : Doorway) (log0 log1 log2 : Option (List L)) (m0 m1 : Moment) →
    ServesDoor book (desk_with wire broken d0 log0 m0) (desk_with wire broken d1 log1 m1) → KeepsLog log1 log2 → d2.allowed ≡ d1.allowed →
    ServesDoor book (desk_with wire broken d0 log0 m0) (desk_with wire broken d2 log2 m1)
door_keeps book wire broken d0 d1 d2 log0 log1 log2 m0 m1 so_far keeps same log is =
    let z = so_far log (keeps log is) in
    let count : d0.allowed ≡ d1.allowed + length z.1 = z.3.count in
    let counted : d0.allowed ≡ d2.allowed + length z.1 = omega (arith, count, same) in (z.0, z.1, z.2, record { log_is = z.3.log_is; count = counted }, z.4)

-- ---- one link

-- a link of which nothing was read or written yet, served to its end
link_visit : {L : Type 0} (book : Book) (wire : L → Option Wire) (broken : L → ℕ) (link : L) (e : LinkEnd) (wire0 : Option Wire) (faults0 : ℕ) (m0 m1 : Moment) →
    IsUntouched wire0 faults0 → Serves book (Ends (Finishes book.infos e)) wire0 (wire link) m0 m1 → CountsFaults e faults0 (broken link) →
    (w : Wire) → wire link ≡ Some w → (v : Visit) × IsVisit book.infos wire broken link v × SettlesAll book v.items v.said m0 m1
link_visit book wire broken link e wire0 faults0 m0 m1 untouched served counted w w_is =
    let x = served w w_is in
    let one = x.2 in
    let whole : x.0.left ≡ w.brought = untouched.none_read x.0 x.1 ∙ one.brought in
    let all : one.out ≡ w.written = sym (one.written ∙ ap (λ l. l ++ one.out) (untouched.none_written x.0 x.1)) in
    let of : List ℕ → List ℕ → Exchange = λ bytes written. record { bytes = bytes; items = one.items; said = one.said; written = written } in
    let P : List ℕ → Type 0 = λ bytes. Finishes book.infos e (of bytes one.out) in
    let Q : List ℕ → Type 0 = λ written. Finishes book.infos e (of w.brought written) in
    let R : ℕ → Type 0 = λ n. CountsFaults e n (broken link) in (
      record { wire = w; items = one.items; said = one.said; end = e },
      record { told = w_is; each = one.each; finishes = subst Q all (subst P whole one.holds); counted = subst R untouched.no_fault counted },
      one.settles,
    )

-- it was given back to the log
pub one_served : {L : Type 0} (book : Book) (wire : L → Option Wire) (broken : L → ℕ) (link : L) (e : LinkEnd) (wire0 : Option Wire) (faults0 : ℕ)
    (d0 d1 : Doorway) (log0 log1 : Option (List L)) (m0 m1 : Moment) → IsUntouched wire0 faults0 → Serves book (Ends (Finishes book.infos e)) wire0 (wire link) m0 m1 →
    CountsFaults e faults0 (broken link) → Logs link log0 log1 → ServesOne book (desk_with wire broken d0 log0 m0) (desk_with wire broken d1 log1 m1)
one_served book wire broken link e wire0 faults0 d0 d1 log0 log1 m0 m1 untouched served counted logs log is =
    let z = logs log is in (z.0, link, z.1, z.2, link_visit book wire broken link e wire0 faults0 m0 m1 untouched served counted)
