-- A link that is served item by item: what is told of it after one step more.
use Rattle.std.proofs.Common.{◌≡◌, ℕ, ◌<◌, inl, inr, List, [], ◌∷◌, ◌++◌, length, take, drop, Bool, true, false, Option, Some, Result, Ok, Err, refl, sym, ap, ◌∙◌, append_assoc, append-nil, subst}
use Rattle.std.proofs.lemmas.List.{take-append-drop}
use Rattle.streams.specs.declared.failed.Failed.{Failed}
use Rattle.streams.proofs.Told.{was_written}
use Rattle.links.specs.Wires.{Wire, extended}
use Rattle.rule_core.specs.Books.{Book}
use Rattle.http_messages.specs.declared.item.Item.{Item}
use Rattle.http_messages.specs.declared.reading.Got.TheVariants as got
use Rattle.http_messages.specs.declared.reading.ReadFault.TheVariants as read
use Rattle.http_messages.specs.Talk.{End, closed, going, gives, IsNext, Talk}
use Rattle.http_messages.specs.Reading.{Moves, Lost, Says}
use Rattle.http_replies.specs.declared.answer.Answer.{Answer}
use Rattle.http_replies.specs.Answers.{answer_bytes}
use Rattle.desk_http.specs.declared.link_end.LinkEnd.TheVariants as end
use Rattle.desk_http.specs.declared.link_end.LinkEnd.{LinkEnd}
use Rattle.desk_http.specs.Answering.{answers}
use Rattle.desk_http.specs.Linking.{Exchange, WritesAnswers, Finishes, full}
use Rattle.desk_http.specs.Desk.{Moment}
use Rattle.desk_http.specs.Serving.{Writes, ServesItem, Serves, SoFar, Ends, IsFull}
use Rattle.desk_http.proofs.Runs.{answers_more, each_more, talk_more, talk_closes, talk_ended, talk_cut}
use Rattle.desk_http.proofs.Tables.{settles_more, settles_none}

-- nothing was served yet, and nothing is held
pub begins : (book : Book) (held : List ℕ) (wire : Option Wire) (m : Moment) → held ≡ [] → Serves book (SoFar book.infos held) wire wire m m
begins book held wire m empty w is = (
  w,
  is,
  record {
    items = [];
    said = [];
    out = [];
    brought = refl;
    each = refl;
    written = sym (append-nil w.written);
    holds = (sym (ap (λ h. h ++ w.left) empty), refl);
    settles = settles_none book m;
  },
)

-- what was written so far, and more
written_more : (old mid now out more : List ℕ) → now ≡ mid ++ more → mid ≡ old ++ out → now ≡ old ++ (out ++ more)
written_more old mid now out more step first = step ∙ ap (λ l. l ++ more) first ∙ append_assoc old out more

-- ---- one item more

-- what is to be shown of it: of the bytes of the link, of what came next and of what was written
abbrev pub Step : {A : Type 0} → Book → Item → List ℕ → Result A Failed → (List ℕ → Exchange → Type 0) → Type 0
Step book i now_held result P =
    (v w : Wire) (bytes next : List ℕ) (is : List Item) (said : List Answer) (a : Answer) (out : List ℕ) → Talk bytes is (going next)
    → IsNext next (gives i (now_held ++ w.left)) → out ≡ answers book.infos is said
    → answers book.infos (is ++ i ∷ []) (said ++ a ∷ []) ≡ answers book.infos is said ++ answer_bytes book.infos a i.closes
    → Writes result v w (answer_bytes book.infos a i.closes)
    → (more : List ℕ) × (w.written ≡ v.written ++ more) × P w.left (record { bytes = bytes; items = is ++ i ∷ []; said = said ++ a ∷ []; written = out ++ more })

pub one_more : {A : Type 0} (book : Book) (i : Item) (result : Result A Failed) (held now_held : List ℕ) (wire0 wire1 wire2 wire3 : Option Wire) (m0 m1 m3 : Moment)
    (P : List ℕ → Exchange → Type 0) → Serves book (SoFar book.infos held) wire0 wire1 m0 m1 → Moves (Says (got.Came i)) held now_held wire1 wire2 →
    ServesItem book i result wire2 wire3 m1 m3 → Step book i now_held result P → Serves book P wire0 wire3 m0 m3
one_more book i result held now_held wire0 wire1 wire2 wire3 m0 m1 m3 P so_far read served step w is_w =
    let z = served.wrote w is_w in
    let y = read z.0 z.1 in
    let x = so_far y.0 y.1 in
    let one = x.2 in
    let a = served.answer in
    let Q : List ℕ → Type 0 = λ l. IsNext (held ++ y.0.left) (gives i (now_held ++ l)) in
    let more = step z.0 w x.0.left (held ++ y.0.left) one.items one.said a one.out one.holds.0 (subst Q z.3 y.4) one.holds.1 (answers_more book.infos one.items one.said i a one.each) z.4 in (
      x.0,
      x.1,
      record {
        items = one.items ++ i ∷ [];
        said = one.said ++ a ∷ [];
        out = one.out ++ more.0;
        brought = one.brought ∙ y.2 ∙ z.2;
        each = each_more one.items one.said i a one.each;
        written = written_more x.0.written z.0.written w.written one.out more.0 more.1 (sym y.3 ∙ one.written);
        holds = more.2;
        settles = settles_more book one.items one.said i a m0 m1 m3 one.settles served.settles;
      },
    )

-- the answer was written, and the connection goes on
pub goes_on : {A : Type 0} (book : Book) (i : Item) (now_held : List ℕ) (u : A) → i.closes ≡ false → Step book i now_held (Ok u) (SoFar book.infos now_held)
goes_on book i now_held u stays v w bytes next is said a out talk here outs more wrote =
    (answer_bytes book.infos a i.closes, wrote, (talk_more bytes next (now_held ++ w.left) is i talk here stays, ap (λ l. l ++ answer_bytes book.infos a i.closes) outs ∙ sym more))

-- the answer was written, and the connection is closed
pub closes : {A : Type 0} (book : Book) (i : Item) (now_held : List ℕ) (u : A) → i.closes ≡ true → Step book i now_held (Ok u) (Ends (Finishes book.infos end.Closed))
closes book i now_held u shut v w bytes next is said a out talk here outs more wrote =
    (answer_bytes book.infos a i.closes, wrote, inl (talk_closes bytes next (now_held ++ w.left) is i talk here shut, ap (λ l. l ++ answer_bytes book.infos a i.closes) outs ∙ sym more))

-- the link failed while the answer was written
pub breaks : (A : Type 0) (book : Book) (i : Item) (now_held : List ℕ) (e : Failed) → Step {A = A} book i now_held (Err e) (Ends (Finishes book.infos end.LinkFault))
breaks A book i now_held e v w bytes next is said a out talk here outs more (part, rest, whole, written) = of (last i.closes refl)
  where
    last : (c : Bool) → i.closes ≡ c → (end : End) × Talk bytes (is ++ i ∷ []) end
    last true shut = (closed, talk_closes bytes next (now_held ++ w.left) is i talk here shut)
    last false stays = (going (now_held ++ w.left), talk_more bytes next (now_held ++ w.left) is i talk here stays)

    of : (end : End) × Talk bytes (is ++ i ∷ []) end → (more : List ℕ) × (w.written ≡ v.written ++ more) × Finishes book.infos end.LinkFault (record { bytes = bytes; items = is ++ i ∷ []; said = said ++ a ∷ []; written = out ++ more })
    of (e, ends) = (part, written, inr (inr (is, i, said, a, e, refl, refl, ends, (part, rest, whole, ap (λ l. l ++ part) outs))))

-- ---- the ends

-- the connection ended, or the link failed, before another item
pub ends : (book : Book) (result : LinkEnd) (Q : List ℕ → List ℕ → Type 0) (held now_held : List ℕ) (wire0 wire1 wire2 : Option Wire) (m0 m1 : Moment) →
    ((before now : List ℕ) (x : Exchange) → Q before now → Talk x.bytes x.items (going before) → WritesAnswers book.infos x → Finishes book.infos result x) →
    Serves book (SoFar book.infos held) wire0 wire1 m0 m1 → Moves Q held now_held wire1 wire2 → Serves book (Ends (Finishes book.infos result)) wire0 wire2 m0 m1
ends book result Q held now_held wire0 wire1 wire2 m0 m1 finish so_far read w is_w =
    let y = read w is_w in
    let x = so_far y.0 y.1 in
    let one = x.2 in (
      x.0,
      x.1,
      record {
        items = one.items;
        said = one.said;
        out = one.out;
        brought = one.brought ∙ y.2;
        each = one.each;
        written = sym y.3 ∙ one.written;
        holds = finish (held ++ y.0.left) (now_held ++ w.left) (record { bytes = x.0.left; items = one.items; said = one.said; written = one.out }) y.4 one.holds.0 one.holds.1;
        settles = one.settles;
      },
    )

pub ended_between : (book : Book) (held now_held : List ℕ) (wire0 wire1 wire2 : Option Wire) (m0 m1 : Moment) →
    Serves book (SoFar book.infos held) wire0 wire1 m0 m1 → Moves (Says got.Ended) held now_held wire1 wire2 →
    Serves book (Ends (Finishes book.infos end.Ended)) wire0 wire2 m0 m1
ended_between book held now_held wire0 wire1 wire2 m0 m1 =
    ends book end.Ended (Says got.Ended) held now_held wire0 wire1 wire2 m0 m1
    (λ (before now : List ℕ) (x : Exchange) says talk outs. (talk_ended x.bytes before x.items talk says, outs))

pub ended_within : (book : Book) (held now_held : List ℕ) (wire0 wire1 wire2 : Option Wire) (m0 m1 : Moment) →
    Serves book (SoFar book.infos held) wire0 wire1 m0 m1 → Moves (Says got.Cut) held now_held wire1 wire2 →
    Serves book (Ends (Finishes book.infos end.Cut)) wire0 wire2 m0 m1
ended_within book held now_held wire0 wire1 wire2 m0 m1 =
    ends book end.Cut (Says got.Cut) held now_held wire0 wire1 wire2 m0 m1
    (λ (before now : List ℕ) (x : Exchange) says talk outs. (talk_cut x.bytes before x.items talk says, outs))

pub failed_between : (book : Book) (held now_held : List ℕ) (wire0 wire1 wire2 : Option Wire) (m0 m1 : Moment) →
    Serves book (SoFar book.infos held) wire0 wire1 m0 m1 → Moves (Lost read.Failed) held now_held wire1 wire2 →
    Serves book (Ends (Finishes book.infos end.LinkFault)) wire0 wire2 m0 m1
failed_between book held now_held wire0 wire1 wire2 m0 m1 =
    ends book end.LinkFault (Lost read.Failed) held now_held wire0 wire1 wire2 m0 m1
    (λ (before now : List ℕ) (x : Exchange) lost talk outs. inl (before, talk, outs))

-- a message couldn't be held, and the answer was written, or a front of it
abbrev Writes_full : List ℕ → LinkEnd → Wire → Wire → Type 0
Writes_full bytes end.Closed v w = w.written ≡ v.written ++ bytes
Writes_full bytes end.LinkFault v w = (part : List ℕ) × (rest : List ℕ) × (part ++ rest ≡ bytes) × (w.written ≡ v.written ++ part)
Writes_full bytes other v w = ⊥

full_written : (bytes : List ℕ) (result : LinkEnd) (old new : Option Wire) → IsFull bytes result old new → (w : Wire) → new ≡ Some w →
    (v : Wire) × (old ≡ Some v) × (v.brought ≡ w.brought) × Writes_full bytes result v w
full_written bytes end.Closed old new full w is =
    let z = was_written extended bytes old new w full is in (z.0, z.1, sym (ap (λ (x : Wire). x.brought) z.2), ap (λ (x : Wire). x.written) z.2)
full_written bytes end.LinkFault old new full w is =
    let n = full.0 in
    let z = was_written extended (take n bytes) old new w full.2 is in
    (z.0, z.1, sym (ap (λ (x : Wire). x.brought) z.2), (take n bytes, drop n bytes, take-append-drop n bytes, ap (λ (x : Wire). x.written) z.2))
full_written bytes end.Ended old new full w is = absurd full
full_written bytes end.Cut old new full w is = absurd full

full_finishes : (book : Book) (result : LinkEnd) (before bytes : List ℕ) (is : List Item) (said : List Answer) (out : List ℕ) (v w : Wire) → 0 < length before →
    Talk bytes is (going before) → out ≡ answers book.infos is said → Writes_full (full book.infos) result v w →
    (more : List ℕ) × (w.written ≡ v.written ++ more) × Finishes book.infos result (record { bytes = bytes; items = is; said = said; written = out ++ more })
full_finishes book end.Closed before bytes is said out v w some talk outs wrote =
    (full book.infos, wrote, inr ((before, some, talk), ap (λ l. l ++ full book.infos) outs))
full_finishes book end.LinkFault before bytes is said out v w some talk outs (part, rest, whole, wrote) =
    (part, wrote, inr (inl ((before, some, talk), (part, rest, whole, ap (λ l. l ++ part) outs))))
full_finishes book end.Ended before bytes is said out v w some talk outs wrote = absurd wrote
full_finishes book end.Cut before bytes is said out v w some talk outs wrote = absurd wrote

pub not_held : (book : Book) (result : LinkEnd) (held now_held : List ℕ) (wire0 wire1 wire2 wire3 : Option Wire) (m0 m1 : Moment) →
    Serves book (SoFar book.infos held) wire0 wire1 m0 m1 → Moves (Lost read.OutOfMemory) held now_held wire1 wire2 →
    IsFull (full book.infos) result wire2 wire3 → Serves book (Ends (Finishes book.infos result)) wire0 wire3 m0 m1
not_held book result held now_held wire0 wire1 wire2 wire3 m0 m1 so_far read is_full w is_w =
    let z = full_written (full book.infos) result wire2 wire3 is_full w is_w in
    let y = read z.0 z.1 in
    let x = so_far y.0 y.1 in
    let one = x.2 in
    let same : z.0.written ≡ x.0.written ++ one.out = sym y.3 ∙ one.written in
    let more = full_finishes book result (held ++ y.0.left) x.0.left one.items one.said one.out z.0 w y.4 one.holds.0 one.holds.1 z.3 in (
      x.0,
      x.1,
      record {
        items = one.items;
        said = one.said;
        out = one.out ++ more.0;
        brought = one.brought ∙ y.2 ∙ z.2;
        each = one.each;
        written = written_more x.0.written z.0.written w.written one.out more.0 more.1 same;
        holds = more.2;
        settles = one.settles;
      },
    )
