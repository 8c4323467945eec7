-- What serving does to a link and to what is kept. A link tells its bytes or doesn't, and a keeper its tables: what is told
-- afterwards was told before.
use Rattle.std.specs.Prelude.{◌≡◌, ℕ, ◌+◌, ◌≤◌, ◌⊎◌, Bool, false, List, [], ◌∷◌, ◌++◌, length, drop, sum, sum_by, Option, Some, None, Result, Ok, Err}
use Rattle.std.specs.List.{AllByRecursion}
use Rattle.counts.specs.Counts.{Rose}
use Rattle.streams.specs.declared.failed.Failed.{Failed}
use Rattle.streams.specs.Streams.{Wrote, WroteFront}
use Rattle.links.specs.Wires.{Wire, extended}
use Rattle.rule_core.specs.declared.info.RuleInfo.{RuleInfo}
use Rattle.rule_core.specs.Books.{Book}
use Rattle.keep_core.specs.declared.tables.Tables.{Tables}
use Rattle.keep_core.specs.Keeping.{Stays}
use Rattle.desk_core.specs.declared.refusal.Refusal.{Refusal}
use Rattle.desk_core.specs.declared.refusal.Refusal.TheVariants.{KeeperFault}
use Rattle.desk_core.specs.declared.reply.Reply.{Reply}
use Rattle.desk_core.specs.declared.reply.Reply.TheVariants.{Refused}
use Rattle.desk_core.specs.State.{State, state_of, site_at}
use Rattle.desk_core.specs.Steps.{Request, site_of}
use Rattle.desk_core.specs.Costs.{IsOfMany, IsOfKept, command_judgings, most_judgings}
use Rattle.desk_core.specs.Runs.{Answers}
use Rattle.desk_core.specs.Soundness.{IsSound}
use Rattle.http_messages.specs.Talk.{going, Talk}
use Rattle.http_messages.specs.declared.item.Sent.{Sent}
use Rattle.http_messages.specs.declared.item.Item.{Item}
use Rattle.http_routes.specs.declared.fault.RequestFault.{RequestFault}
use Rattle.http_commands.specs.declared.request.Asked.{Asked}
use Rattle.http_replies.specs.declared.answer.Answer.{Answer}
use Rattle.http_replies.specs.declared.answer.Answer.TheVariants.{Replied}
use Rattle.http_replies.specs.Made.{is_made}
use Rattle.http_replies.specs.Answers.{answer_bytes}
use Rattle.desk_http.specs.Answering.{AnswersSent, sent_judgings, message_most, sent_most, message_alone, sent_alone, MessageRests, RestsOnPages, Gets, Refuses, TellsNoChange, SparesOthers, Runs, AllGet}
use Rattle.desk_http.specs.Linking.{Exchange, WritesAnswers}
use Rattle.desk_http.specs.Desk.{Moment}
use Rattle.desk_http.specs.declared.link_end.LinkEnd.{LinkEnd}
use Rattle.desk_http.specs.declared.link_end.LinkEnd.TheVariants as end

-- ---- what is kept

-- tables that were sound are sound, and the edition is as it was
abbrev pub KeepsSound : Book → Option Tables → Option Tables → Type 0
KeepsSound book old new = (t : Tables) → new ≡ Some t → (s : Tables) × (old ≡ Some s) × (t.edition ≡ s.edition) × (IsSound book s → IsSound book t)

-- tables that were sound are sound, the edition is as it was, and this holds of those before and those after
abbrev pub OfSound : Book → (Tables → Tables → Type 0) → Option Tables → Option Tables → Type 0
OfSound book Q old new =
    (t : Tables) → new ≡ Some t → (s : Tables) × (old ≡ Some s) × (t.edition ≡ s.edition) × (IsSound book s → IsSound book t × Q s t)

-- ---- one thing that came

-- how often the books judged, but the first: as often as before
abbrev pub OthersRest : List ℕ → List ℕ → Type 0
OthersRest calls now_calls = drop 1 now_calls ≡ drop 1 calls

-- it was answered so, from one moment to another, where these tables became those
abbrev pub AnsweredBy : Book → Sent → Answer → Moment → Moment → Tables → Tables → Type 0
AnsweredBy book sent answer old new s t =
    AnswersSent book (state_of s) sent answer (state_of t) old.faults new.faults
    × (sum new.calls ≤ sum old.calls + sent_judgings book (state_of s) sent)

-- The books judged so often at the most: where tables are told afterwards, by what was kept, sound or not; and where none are, unless
-- kept pages were audited anew.
pub record JudgesAtMost (most : State → ℕ) (OfKept : Type 0) (alone : ℕ) (old new : Moment) : Type 0 where
  pub told : (s t : Tables) → old.tables ≡ Some s → new.tables ≡ Some t → sum new.calls ≤ sum old.calls + most (state_of s)
  pub untold : (OfKept → ⊥) → sum new.calls ≤ sum old.calls + alone

abbrev pub MessageJudges : Book → Result Asked RequestFault → Moment → Moment → Type 0
MessageJudges book asked old new = JudgesAtMost (λ state. message_most book state asked) (MessageRests asked) (message_alone book asked) old new

abbrev pub SentJudges : Book → Sent → Moment → Moment → Type 0
SentJudges book sent old new = JudgesAtMost (λ state. sent_most book state sent) (RestsOnPages book.infos sent) (sent_alone book sent) old new

abbrev pub RequestJudges : Book → Request → Moment → Moment → Type 0
RequestJudges book request old new =
    JudgesAtMost (λ state. most_judgings book request.command (site_at (site_of request.command) state)) (IsOfKept request.command)
    (command_judgings book request.command None) old new

-- It was answered so: as the machine does where the tables were sound; and whatever is kept, a refusal is the one that is due,
-- an answer that tells of no change leaves the tables, judgings are bounded, and only what is of many pages uses other books than the first.
pub record Settles (book : Book) (sent : Sent) (answer : Answer) (old new : Moment) : Type 0 where
  pub told : OfSound book (AnsweredBy book sent answer old new) old.tables new.tables
  pub counted : SentJudges book sent old new
  pub never_falls : old.faults ≤ new.faults
  pub gets : Gets book.infos sent answer old.faults new.faults
  pub refused : Refuses answer → Stays old.tables new.tables
  pub unchanged : TellsNoChange answer → Stays old.tables new.tables
  pub others : SparesOthers book.infos sent → OthersRest old.calls new.calls

-- it was answered by these bytes
pub record Responds (book : Book) (sent : Sent) (closes : Bool) (old new : Moment) (bytes : List ℕ) : Type 0 where
  pub answer : Answer
  pub bytes_are : bytes ≡ answer_bytes book.infos answer closes
  pub settles : Settles book sent answer old new

-- the machine replied so to a request
abbrev pub RepliedBy : Book → Request → Reply → Moment → Moment → Tables → Tables → Type 0
RepliedBy book request reply old new s t =
    Answers book (state_of s) request reply (state_of t) old.faults new.faults
    × (sum new.calls ≤ sum old.calls + command_judgings book request.command (site_at (site_of request.command) (state_of s)))

-- the machine answered a request by these bytes
pub record RespondsTo (book : Book) (request : Request) (closes : Bool) (old new : Moment) (bytes : List ℕ) : Type 0 where
  pub reply : Reply
  pub bytes_are : bytes ≡ answer_bytes book.infos (Replied reply) closes
  pub told : OfSound book (RepliedBy book request reply old new) old.tables new.tables
  pub counted : RequestJudges book request old new
  pub never_falls : old.faults ≤ new.faults
  pub failed : reply ≡ Refused KeeperFault → Rose old.faults new.faults
  pub refused : (refusal : Refusal) → reply ≡ Refused refusal → Stays old.tables new.tables
  pub unchanged : is_made reply ≡ false → Stays old.tables new.tables
  pub others : (IsOfMany request.command → ⊥) → OthersRest old.calls new.calls

-- these bytes, or those for want of memory
abbrev pub IsEither : List ℕ → List ℕ → List ℕ → Type 0
IsEither due full bytes = (bytes ≡ due) ⊎ (bytes ≡ full)

-- bytes were written, or a front of them where the link failed
abbrev pub Writes : {A : Type 0} → Result A Failed → Wire → Wire → List ℕ → Type 0
Writes (Ok u) v w bytes = w.written ≡ v.written ++ bytes
Writes (Err e) v w bytes = (part : List ℕ) × (rest : List ℕ) × (part ++ rest ≡ bytes) × (w.written ≡ v.written ++ part)

-- they were written to a link, of which nothing was read meanwhile
abbrev pub WritesAll : {A : Type 0} → Result A Failed → List ℕ → Option Wire → Option Wire → Type 0
WritesAll result bytes old new =
    (w : Wire) → new ≡ Some w → (v : Wire) × (old ≡ Some v) × (v.brought ≡ w.brought) × (v.left ≡ w.left) × Writes result v w bytes

-- an item was answered over a link, of which these wires are told
pub record ServesItem {A : Type 0} (book : Book) (i : Item) (result : Result A Failed) (old_wire wire : Option Wire) (old new : Moment) : Type 0 where
  pub answer : Answer
  pub wrote : WritesAll result (answer_bytes book.infos answer i.closes) old_wire wire
  pub settles : Settles book i.sent answer old new

-- ---- all that came

-- these items were answered so, from one moment to another, where these tables became those
pub record Run (book : Book) (items : List Item) (said : List Answer) (old new : Moment) (s t : Tables) : Type 0 where
  pub most : ℕ
  pub runs : Runs book (state_of s) items said (state_of t) old.faults new.faults most
  pub few : sum new.calls ≤ sum old.calls + most

-- each of them was answered so, one after another, and between two of them nothing was done
abbrev pub SettlesEach : Book → List Item → List Answer → Moment → Moment → Type 0
SettlesEach book [] [] old new = new ≡ old
SettlesEach book (i ∷ is) (a ∷ said) old new = (mid : Moment) × Settles book i.sent a old mid × SettlesEach book is said mid new
SettlesEach book [] (a ∷ said) old new = ⊥
SettlesEach book (i ∷ is) [] old new = ⊥

-- They were answered so: as the machine does where the tables were sound; and whatever is kept, each by itself, each gets the refusal
-- that is due, where none has kept pages audited anew judgings are bounded, where all are refused the tables stay, and where none is of
-- many pages only the first book is used.
pub record SettlesAll (book : Book) (items : List Item) (said : List Answer) (old new : Moment) : Type 0 where
  pub told : OfSound book (Run book items said old new) old.tables new.tables
  pub each : SettlesEach book items said old new
  pub counted :
      AllByRecursion (λ (i : Item). RestsOnPages book.infos i.sent → ⊥) items
      → sum new.calls ≤ sum old.calls + sum_by (λ (i : Item). sent_alone book i.sent) items
  pub get : AllGet book.infos items said old.faults new.faults
  pub refused : AllByRecursion Refuses said → Stays old.tables new.tables
  pub others : AllByRecursion (λ (i : Item). SparesOthers book.infos i.sent) items → OthersRest old.calls new.calls

-- Items were answered over a link, each once. Of the bytes that it has still to give, and of what was exchanged, this holds.
pub record Served (book : Book) (P : List ℕ → Exchange → Type 0) (v w : Wire) (old new : Moment) : Type 0 where
  pub items : List Item
  pub said : List Answer
  pub out : List ℕ
  pub brought : v.brought ≡ w.brought
  pub each : length said ≡ length items
  pub written : w.written ≡ v.written ++ out
  pub holds : P w.left (record { bytes = v.left; items = items; said = said; written = out })
  pub settles : SettlesAll book items said old new

-- the same of a link of which these wires are told
abbrev pub Serves : Book → (List ℕ → Exchange → Type 0) → Option Wire → Option Wire → Moment → Moment → Type 0
Serves book P old_wire wire old new = (w : Wire) → wire ≡ Some w → (v : Wire) × (old_wire ≡ Some v) × Served book P v w old new

-- this was exchanged, whatever is left of the bytes
abbrev pub Ends : (Exchange → Type 0) → List ℕ → Exchange → Type 0
Ends Finished left x = Finished x

-- served so far: the connection goes on with what is held and what is left
abbrev pub SoFar : List RuleInfo → List ℕ → List ℕ → Exchange → Type 0
SoFar infos held left x = Talk x.bytes x.items (going (held ++ left)) × WritesAnswers infos x

-- the answer for want of memory was written, after which the link is closed; or a front of it, where the link failed
abbrev pub IsFull : List ℕ → LinkEnd → Option Wire → Option Wire → Type 0
IsFull full end.Closed old new = Wrote extended full old new
IsFull full end.LinkFault old new = WroteFront extended full old new
IsFull full other old new = ⊥
