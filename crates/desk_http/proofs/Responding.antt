-- How a request is answered: by the machine's reply, or for want of memory, where nothing changed.
use Rattle.std.proofs.Common.{◌≡◌, ℕ, ◌+◌, ◌<◌, ◌≤◌, inl, inr, List, ◌++◌, take, drop, map, Bool, true, false, Option, Some, None, Result, Ok, Err, OnOk, OnErr, refl, sym, ap, ◌∙◌, subst, arith}
use Rattle.std.specs.Prelude.{sum, sum_by}
use Rattle.std.proofs.lemmas.List.{drop-map, take-append-drop}
use Rattle.std.proofs.lemmas.List.Sums.{sum-map}
use Rattle.counts.specs.Counts.{Rose}
use Rattle.streams.specs.declared.failed.Failed.{Failed}
use Rattle.streams.specs.Streams.{Wrote, WroteFront}
use Rattle.streams.proofs.Told.{was_written}
use Rattle.links.specs.Wires.{Wire, extended}
use Rattle.rule_core.specs.Books.{Book}
use Rattle.keep_core.specs.declared.tables.Tables.{Tables}
use Rattle.keep_core.specs.Keeping.{Stays}
use Rattle.desk_core.specs.declared.command.Command.{Command}
use Rattle.desk_core.specs.declared.refusal.Refusal.{Refusal}
use Rattle.desk_core.specs.declared.refusal.Refusal.TheVariants.{KeeperFault, OutOfMemory}
use Rattle.desk_core.specs.declared.reply.Reply.{Reply}
use Rattle.desk_core.specs.declared.reply.Reply.TheVariants.{Refused}
use Rattle.desk_core.specs.State.{State, state_of, site_at}
use Rattle.desk_core.specs.Steps.{Request, site_of}
use Rattle.desk_core.specs.Fitting.{FitsRequest}
use Rattle.desk_core.specs.Costs.{IsOfMany, IsOfKept, UsesFirst, Costs, command_judgings, most_judgings}
use Rattle.desk_core.specs.Runs.{Answers}
use Rattle.desk_core.specs.Serving as machine
use Rattle.http_messages.specs.declared.item.Sent.{Sent}
use Rattle.http_messages.specs.declared.item.Sent.TheVariants as sent
use Rattle.http_messages.specs.declared.item.Item.{Item}
use Rattle.http_messages.specs.declared.item.Message.{Message}
use Rattle.http_messages.specs.declared.fault.HeadFault.{HeadFault}
use Rattle.http_routes.specs.declared.fault.RequestFault.{RequestFault}
use Rattle.http_commands.specs.declared.request.Asked.{Asked}
use Rattle.http_commands.specs.Requests.{request_of}
use Rattle.http_replies.specs.declared.answer.Answer.{Answer}
use Rattle.http_replies.specs.declared.answer.Answer.TheVariants.{Misread, Misasked, Replied}
use Rattle.http_replies.specs.Made.{is_made}
use Rattle.http_replies.specs.Answers.{answer_bytes, no_memory}
use Rattle.desk_http.specs.Printed.{PrintsReply}
use Rattle.desk_http.specs.Answering.{as_request, GetsRefusal, AnswersMessage, message_judgings, sent_most, sent_alone, RestsOnPages, MessageGets, Gets, Refuses, MessageSpares}
use Rattle.desk_http.specs.Desk.{Moment}
use Rattle.desk_http.specs.Serving.{OthersRest, JudgesAtMost, MessageJudges, AnsweredBy, Settles, Responds, RespondsTo, IsEither, WritesAll, ServesItem}
use Rattle.desk_http.proofs.Moments.{told_at}
use Rattle.desk_http.proofs.Quiet.{unmade_keeps, unmade_stays}

-- no book judged
judges_none : (most : State → ℕ) (OfKept : Type 0) (alone : ℕ) (here : Moment) → JudgesAtMost most OfKept alone here here
judges_none most OfKept alone here = record { told = λ s t was is. omega arith; untold = λ none. omega arith }

-- ---- a request

-- the first book alone was used, so the counts of the others are as they were
pub others_rest : {B : Type 0} (calls : B → ℕ) (q : Command) (old new : List B) → UsesFirst q old new → (IsOfMany q → ⊥) → OthersRest (map calls old) (map calls new)
others_rest calls q old new uses none = drop-map calls 1 new ∙ (ap (map calls) (uses none) ∙ sym (drop-map calls 1 old))

-- what the books judged, counted from each
pub costs_of : {B : Type 0} (book : Book) (q : Command) (old new : Option Tables) (calls : B → ℕ) (before now : List B) →
    Costs book q old new (sum_by calls before) (sum_by calls now) → Costs book q old new (sum (map calls before)) (sum (map calls now))
costs_of book q old new calls before now costs =
    let P : ℕ → Type 0 = λ n. Costs book q old new n (sum_by calls now) in
    let Q : ℕ → Type 0 = λ n. Costs book q old new (sum (map calls before)) n in
    subst Q (sym (sum-map calls now)) (subst P (sym (sum-map calls before)) costs)

-- a reply that isn't that to a change comes with the tables kept
quiet_stays : (book : Book) (q : Request) (old new : Moment) (reply : Reply) → FitsRequest book q → machine.Serves book q (told_at old) (told_at new) reply → is_made reply ≡ false →
    Stays old.tables new.tables
quiet_stays book q old new reply fits served unmade t is =
    let s = served.told t is in
    s.1 ∙ ap Some (sym (unmade_stays book q s.0 t reply fits unmade (served.changed s.0 t s.1 is)))

-- the machine's reply was printed
replied : (book : Book) (q : Request) (closes : Bool) (old new : Moment) (reply : Reply) (bytes : List ℕ) →
    FitsRequest book q → machine.Serves book q (told_at old) (told_at new) reply → Costs book q.command old.tables new.tables (sum old.calls) (sum new.calls) → ((IsOfMany q.command → ⊥) → OthersRest old.calls new.calls) →
    bytes ≡ answer_bytes book.infos (Replied reply) closes → RespondsTo book q closes old new bytes
replied book q closes old new reply bytes fits served costs others printed = record {
  reply = reply;
  bytes_are = printed;
  told = λ t is. let s = served.told t is in (s.0, s.1, served.edition s.0 t s.1 is, λ sound. let z = s.2 sound in (z.0, (z.1, costs.told s.0 t s.1 is sound)));
  counted = record { told = costs.most; untold = costs.untold };
  never_falls = served.never_falls;
  failed = served.failed;
  refused = served.refused;
  unchanged = quiet_stays book q old new reply fits served;
  others = others;
}

-- an answer that changed nothing may be any that changes nothing
answers_full : (book : Book) (s t : State) (q : Request) (reply : Reply) (from to : ℕ) → FitsRequest book q → is_made reply ≡ false →
    Answers book s q reply t from to → Answers book s q (Refused OutOfMemory) t from to
answers_full book s t q reply from to fits unmade (inl is) = inr (unmade_keeps book s t q reply fits unmade is, inr refl)
answers_full book s t q reply from to fits unmade (inr (same, fails)) = inr (same, inr refl)

-- the want of memory is no fault of the keeper's
no_fault : (from to : ℕ) → Refused OutOfMemory ≡ Refused KeeperFault → Rose from to
no_fault from to same = cc

-- the machine's reply wasn't printed, which is none to a change
unprinted : (book : Book) (q : Request) (closes : Bool) (old new : Moment) (reply : Reply) (bytes : List ℕ) →
    FitsRequest book q → is_made reply ≡ false → machine.Serves book q (told_at old) (told_at new) reply → Costs book q.command old.tables new.tables (sum old.calls) (sum new.calls) →
    ((IsOfMany q.command → ⊥) → OthersRest old.calls new.calls) → bytes ≡ answer_bytes book.infos no_memory closes → RespondsTo book q closes old new bytes
unprinted book q closes old new reply bytes fits unmade served costs others full = record {
  reply = Refused OutOfMemory;
  bytes_are = full;
  told = λ t is.
      let s = served.told t is in (
        s.0,
        s.1,
        served.edition s.0 t s.1 is,
        λ sound.
            let z = s.2 sound in
            (z.0, (answers_full book (state_of s.0) (state_of t) q reply old.faults new.faults fits unmade z.1, costs.told s.0 t s.1 is sound)),
      );
  counted = record { told = costs.most; untold = costs.untold };
  never_falls = served.never_falls;
  failed = no_fault old.faults new.faults;
  refused = λ refusal same. quiet_stays book q old new reply fits served unmade;
  unchanged = λ none. quiet_stays book q old new reply fits served unmade;
  others = others;
}

-- the machine's reply was printed, or it wasn't
pub answered : (book : Book) (q : Request) (closes : Bool) (old new : Moment) (reply : Reply) (bytes : List ℕ) →
    FitsRequest book q → machine.Serves book q (told_at old) (told_at new) reply → Costs book q.command old.tables new.tables (sum old.calls) (sum new.calls) →
    ((IsOfMany q.command → ⊥) → OthersRest old.calls new.calls) → PrintsReply book.infos reply closes bytes → RespondsTo book q closes old new bytes
answered book q closes old new reply bytes fits served costs others (inl printed) =
    replied book q closes old new reply bytes fits served costs others printed
answered book q closes old new reply bytes fits served costs others (inr (unmade, full)) =
    unprinted book q closes old new reply bytes fits unmade served costs others full

-- there was no memory before the request was handled
pub unhandled : (book : Book) (q : Request) (closes : Bool) (here : Moment) (bytes : List ℕ) →
    bytes ≡ answer_bytes book.infos no_memory closes → RespondsTo book q closes here here bytes
unhandled book q closes here bytes full = record {
  reply = Refused OutOfMemory;
  bytes_are = full;
  told = λ t is. (t, is, refl, λ sound. (sound, (inr (refl, inr refl), omega arith)));
  counted = judges_none (λ state. most_judgings book q.command (site_at (site_of q.command) state)) (IsOfKept q.command) (command_judgings book q.command None) here;
  never_falls = omega arith;
  failed = no_fault here.faults here.faults;
  refused = λ refusal same t is. is;
  unchanged = λ unmade t is. is;
  others = λ none. refl;
}

-- what printing fails of where there was room
pub unmade : (made : Bool) (room most : ℕ) → (made ≡ true → room < most) → most ≤ room → made ≡ false
unmade true room most full is = absurd (let less = full refl in omega (arith, less, is))
unmade false room most full is = refl

-- ---- what came

-- nothing is done
stays : (book : Book) (came : Sent) (a : Answer) (here : Moment) → ((s : Tables) → AnsweredBy book came a here here s s) → Gets book.infos came a here.faults here.faults →
    Settles book came a here here
stays book came a here answers gets = record {
  told = λ t is. (t, is, refl, λ sound. (sound, answers t));
  counted = judges_none (λ state. sent_most book state came) (RestsOnPages book.infos came) (sent_alone book came) here;
  never_falls = omega arith;
  gets = gets;
  refused = λ refuses t is. is;
  unchanged = λ unmade t is. is;
  others = λ spares. refl;
}

declines : (book : Book) (refusal : Answer) (came : Sent) (closes : Bool) (here : Moment) (bytes : List ℕ) →
    ((a : Answer) → GetsRefusal refusal a → (s : Tables) → AnsweredBy book came a here here s s) →
    ((a : Answer) → GetsRefusal refusal a → Gets book.infos came a here.faults here.faults) →
    IsEither (answer_bytes book.infos refusal closes) (answer_bytes book.infos no_memory closes) bytes → Responds book came closes here here bytes
declines book refusal came closes here bytes answers gets (inl due) = record {
  answer = refusal;
  bytes_are = due;
  settles = stays book came refusal here (answers refusal (inl refl)) (gets refusal (inl refl));
}
declines book refusal came closes here bytes answers gets (inr full) = record {
  answer = no_memory;
  bytes_are = full;
  settles = stays book came no_memory here (answers no_memory (inr refl)) (gets no_memory (inr refl));
}

pub misread : (book : Book) (fault : HeadFault) (closes : Bool) (here : Moment) (bytes : List ℕ) →
    IsEither (answer_bytes book.infos (Misread fault) closes) (answer_bytes book.infos no_memory closes) bytes → Responds book (sent.Refused fault) closes here here bytes
misread book fault closes here bytes either =
    declines book (Misread fault) (sent.Refused fault) closes here bytes (λ (a : Answer) which (s : Tables). ((refl, which), omega arith)) (λ (a : Answer) which. which) either

-- what is said of a message, by the request that it makes
abbrev ByRequest : Book → Result Asked RequestFault → Answer → Moment → Moment → Tables → Tables → Type 0
ByRequest book asked answer old new s t =
    AnswersMessage book (state_of s) asked answer (state_of t) old.faults new.faults
    × (sum new.calls ≤ sum old.calls + message_judgings book (state_of s) asked)

pub misasked : (book : Book) (m : Message) (fault : RequestFault) (closes : Bool) (here : Moment) (bytes : List ℕ) → Err fault ≡ request_of book.infos m.head m.body →
    IsEither (answer_bytes book.infos (Misasked fault) closes) (answer_bytes book.infos no_memory closes) bytes → Responds book (sent.Asked m) closes here here bytes
misasked book m fault closes here bytes made either =
    declines book (Misasked fault) (sent.Asked m) closes here bytes
    (λ (a : Answer) which (s : Tables).
    let P : Result Asked RequestFault → Type 0 = λ r. ByRequest book r a here here s s in
    subst P made ((refl, which), omega arith))
    (λ (a : Answer) which.
    let P : Result Asked RequestFault → Type 0 = λ r. MessageGets r a here.faults here.faults in
    subst P made which)
    either

-- there was no memory for reading a message
pub unread : (book : Book) (m : Message) (closes : Bool) (here : Moment) (bytes : List ℕ) →
    bytes ≡ answer_bytes book.infos no_memory closes → Responds book (sent.Asked m) closes here here bytes
unread book m closes here bytes full = record {
  answer = no_memory;
  bytes_are = full;
  settles = stays book (sent.Asked m) no_memory here (λ t. of t (request_of book.infos m.head m.body)) (gets (request_of book.infos m.head m.body));
}
  where
    of : (t : Tables) (r : Result Asked RequestFault) → ByRequest book r no_memory here here t t
    of t (Ok asked) = ((Refused OutOfMemory, refl, inr (refl, inr refl)), omega arith)
    of t (Err fault) = ((refl, inr refl), omega arith)

    gets : (r : Result Asked RequestFault) → MessageGets r no_memory here.faults here.faults
    gets (Ok asked) = (Refused OutOfMemory, refl, no_fault here.faults here.faults)
    gets (Err fault) = inr refl

-- a refusal of the machine's
refused_as : (reply : Reply) (old new : Option Tables) → ((refusal : Refusal) → reply ≡ Refused refusal → Stays old new) → Refuses (Replied reply) → Stays old new
refused_as reply old new refused (refusal, same) = refused refusal same

-- the message makes a request, which was answered
pub asked_so : (book : Book) (m : Message) (asked : Asked) (closes : Bool) (old new : Moment) (bytes : List ℕ) →
    Ok asked ≡ request_of book.infos m.head m.body → RespondsTo book (as_request asked) closes old new bytes →
    Responds book (sent.Asked m) closes old new bytes
asked_so book m asked closes old new bytes made so = record {
  answer = Replied so.reply;
  bytes_are = so.bytes_are;
  settles =
      record {
        told =
            λ t is.
            let s = so.told t is in
            let P : Result Asked RequestFault → Type 0 = λ r. ByRequest book r (Replied so.reply) old new s.0 t in
            (s.0, s.1, s.2, λ sound. let z = s.3 sound in (z.0, subst P made ((so.reply, refl, z.1.0), z.1.1)));
        counted = let P : Result Asked RequestFault → Type 0 = λ r. MessageJudges book r old new in subst P made so.counted;
        never_falls = so.never_falls;
        gets = let P : Result Asked RequestFault → Type 0 = λ r. MessageGets r (Replied so.reply) old.faults new.faults in subst P made (so.reply, refl, so.failed);
        refused = refused_as so.reply old.tables new.tables so.refused;
        unchanged = so.unchanged;
        others = let P : Result Asked RequestFault → Type 0 = λ r. MessageSpares r → OthersRest old.calls new.calls in subst P made so.others;
      };
}

-- ---- what is written

wrote_all : {A : Type 0} (result : Result A Failed) (due bytes : List ℕ) (old new : Option Wire) → bytes ≡ due → OnOk result (Wrote extended bytes old new) → OnErr result (WroteFront extended bytes old new) →
    WritesAll result due old new
wrote_all (Ok u) due bytes old new same wrote broke w is =
    let z = was_written extended bytes old new w wrote is in
    (z.0, z.1, sym (ap (λ (x : Wire). x.brought) z.2), sym (ap (λ (x : Wire). x.left) z.2), ap (λ (x : Wire). x.written) z.2 ∙ ap (λ l. z.0.written ++ l) same)
wrote_all (Err e) due bytes old new same wrote broke w is =
    let n = broke.0 in
    let z = was_written extended (take n bytes) old new w broke.2 is in
    (z.0, z.1, sym (ap (λ (x : Wire). x.brought) z.2), sym (ap (λ (x : Wire). x.left) z.2), (take n bytes, drop n bytes, take-append-drop n bytes ∙ same, ap (λ (x : Wire). x.written) z.2))

-- an item was answered, and the answer written, or a front of it
pub item_served : {A : Type 0} (book : Book) (i : Item) (result : Result A Failed) (wire0 wire1 : Option Wire) (old new : Moment) (bytes : List ℕ) →
    Responds book i.sent i.closes old new bytes → OnOk result (Wrote extended bytes wire0 wire1) → OnErr result (WroteFront extended bytes wire0 wire1) →
    ServesItem book i result wire0 wire1 old new
item_served book i result wire0 wire1 old new bytes so wrote broke = record {
  answer = so.answer;
  wrote = wrote_all result (answer_bytes book.infos so.answer i.closes) bytes wire0 wire1 so.bytes_are wrote broke;
  settles = so.settles;
}
