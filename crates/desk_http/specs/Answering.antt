-- What is answered to what comes over a connection, one thing after another: to a head that is refused and to a message
-- that makes no request their refusals, and to a request what the machine answers.
use Rattle.std.specs.Prelude.{◌≡◌, ℕ, ◌+◌, ◌≤◌, ◌⊎◌, List, [], ◌∷◌, ◌++◌, false, None, Result, Ok, Err}
use Rattle.counts.specs.Counts.{Rose}
use Rattle.rule_core.specs.declared.info.RuleInfo.{RuleInfo}
use Rattle.rule_core.specs.Books.{Book}
use Rattle.desk_core.specs.declared.refusal.Refusal.{Refusal}
use Rattle.desk_core.specs.declared.refusal.Refusal.TheVariants.{KeeperFault}
use Rattle.desk_core.specs.declared.reply.Reply.{Reply}
use Rattle.desk_core.specs.declared.reply.Reply.TheVariants as reply
use Rattle.desk_core.specs.State.{State, site_at}
use Rattle.desk_core.specs.Steps.{Request, site_of}
use Rattle.desk_core.specs.Costs.{IsOfMany, IsOfKept, command_judgings, most_judgings}
use Rattle.desk_core.specs.Runs as machine
use Rattle.http_messages.specs.declared.item.Sent.{Sent}
use Rattle.http_messages.specs.declared.item.Sent.TheVariants.{Asked, Refused}
use Rattle.http_messages.specs.declared.item.Item.{Item}
use Rattle.http_routes.specs.declared.fault.RequestFault.{RequestFault}
use Rattle.http_commands.specs.declared.request.Asked as command
use Rattle.http_commands.specs.Requests.{request_of}
use Rattle.http_replies.specs.declared.answer.Answer.{Answer}
use Rattle.http_replies.specs.declared.answer.Answer.TheVariants.{Misread, Misasked, Replied}
use Rattle.http_replies.specs.Answers.{answer_bytes, no_memory, is_made_answer}

-- ---- one thing

-- the request that a caller makes
abbrev pub as_request : command.Asked → Request
as_request asked = record { caller = asked.caller; command = asked.command }

-- the answer is this refusal, or there was no memory
abbrev pub GetsRefusal : Answer → Answer → Type 0
GetsRefusal refusal answer = (answer ≡ refusal) ⊎ (answer ≡ no_memory)

-- nothing is done
abbrev pub Declines : Answer → State → Answer → State → Type 0
Declines refusal old answer new = (new ≡ old) × GetsRefusal refusal answer

abbrev pub AnswersMessage : Book → State → Result command.Asked RequestFault → Answer → State → ℕ → ℕ → Type 0
AnswersMessage book old (Err fault) answer new before now = Declines (Misasked fault) old answer new
AnswersMessage book old (Ok asked) answer new before now =
    (reply : Reply) × (answer ≡ Replied reply) × machine.Answers book old (as_request asked) reply new before now

abbrev pub AnswersSent : Book → State → Sent → Answer → State → ℕ → ℕ → Type 0
AnswersSent book old (Refused fault) answer new before now = Declines (Misread fault) old answer new
AnswersSent book old (Asked m) answer new before now = AnswersMessage book old (request_of book.infos m.head m.body) answer new before now

-- how many judgings it may cost
abbrev pub message_judgings : Book → State → Result command.Asked RequestFault → ℕ
message_judgings book state (Err fault) = 0
message_judgings book state (Ok asked) = command_judgings book asked.command (site_at (site_of asked.command) state)

abbrev pub sent_judgings : Book → State → Sent → ℕ
sent_judgings book state (Refused fault) = 0
sent_judgings book state (Asked m) = message_judgings book state (request_of book.infos m.head m.body)

-- the same of any tables, sound or not
abbrev pub message_most : Book → State → Result command.Asked RequestFault → ℕ
message_most book state (Err fault) = 0
message_most book state (Ok asked) = most_judgings book asked.command (site_at (site_of asked.command) state)

abbrev pub sent_most : Book → State → Sent → ℕ
sent_most book state (Refused fault) = 0
sent_most book state (Asked m) = message_most book state (request_of book.infos m.head m.body)

-- and of what isn't told, unless kept pages are audited anew
abbrev pub message_alone : Book → Result command.Asked RequestFault → ℕ
message_alone book (Err fault) = 0
message_alone book (Ok asked) = command_judgings book asked.command None

abbrev pub sent_alone : Book → Sent → ℕ
sent_alone book (Refused fault) = 0
sent_alone book (Asked m) = message_alone book (request_of book.infos m.head m.body)

-- it asks for kept pages to be audited anew: for edits, or for other languages
abbrev pub MessageRests : Result command.Asked RequestFault → Type 0
MessageRests (Err fault) = ⊥
MessageRests (Ok asked) = IsOfKept asked.command

abbrev pub RestsOnPages : List RuleInfo → Sent → Type 0
RestsOnPages infos (Refused fault) = ⊥
RestsOnPages infos (Asked m) = MessageRests (request_of infos m.head m.body)

-- ---- one thing, whatever is kept

-- A head that is refused and a message that makes no request get their refusals. A request gets a reply, which is the keeper's
-- fault only where its count rose.
abbrev pub MessageGets : Result command.Asked RequestFault → Answer → ℕ → ℕ → Type 0
MessageGets (Err fault) answer before now = GetsRefusal (Misasked fault) answer
MessageGets (Ok asked) answer before now = (r : Reply) × (answer ≡ Replied r) × (r ≡ reply.Refused KeeperFault → Rose before now)

abbrev pub Gets : List RuleInfo → Sent → Answer → ℕ → ℕ → Type 0
Gets infos (Refused fault) answer before now = GetsRefusal (Misread fault) answer
Gets infos (Asked m) answer before now = MessageGets (request_of infos m.head m.body) answer before now

-- the answer is a refusal
abbrev pub Refuses : Answer → Type 0
Refuses (Misread fault) = Unit {0}
Refuses (Misasked fault) = Unit {0}
Refuses (Replied r) = (refusal : Refusal) × (r ≡ reply.Refused refusal)

-- the answer is no reply to a change: a refusal, or what a get is answered
abbrev pub TellsNoChange : Answer → Type 0
TellsNoChange answer = is_made_answer answer ≡ false

-- it asks for nothing of many pages
abbrev pub MessageSpares : Result command.Asked RequestFault → Type 0
MessageSpares (Err fault) = Unit {0}
MessageSpares (Ok asked) = IsOfMany asked.command → ⊥

abbrev pub SparesOthers : List RuleInfo → Sent → Type 0
SparesOthers infos (Refused fault) = Unit {0}
SparesOthers infos (Asked m) = MessageSpares (request_of infos m.head m.body)

-- ---- one after another

-- Items are answered one after another, as the keeper's count of faults goes from one number to another. All of them may
-- cost so many judgings.
abbrev pub Runs : Book → State → List Item → List Answer → State → ℕ → ℕ → ℕ → Type 0
Runs book old [] [] new from to most = (new ≡ old) × (from ≤ to) × (most ≡ 0)
Runs book old (i ∷ is) (a ∷ said) new from to most =
    (mid : State) × (before : ℕ) × (now : ℕ) × (rest : ℕ) × (from ≤ before) × (before ≤ now) × AnswersSent book old i.sent a mid before now
    × Runs book mid is said new now to rest × (most ≡ sent_judgings book old i.sent + rest)
Runs book old [] (a ∷ said) new from to most = ⊥
Runs book old (i ∷ is) [] new from to most = ⊥

-- each gets what it gets whatever is kept, as the keeper's count of faults goes from one number to another
abbrev pub AllGet : List RuleInfo → List Item → List Answer → ℕ → ℕ → Type 0
AllGet infos [] [] from to = from ≤ to
AllGet infos (i ∷ is) (a ∷ said) from to =
    (before : ℕ) × (now : ℕ) × (from ≤ before) × (before ≤ now) × Gets infos i.sent a before now × AllGet infos is said now to
AllGet infos [] (a ∷ said) from to = ⊥
AllGet infos (i ∷ is) [] from to = ⊥

-- the bytes of the answers
abbrev pub answers : List RuleInfo → List Item → List Answer → List ℕ
answers infos [] said = []
answers infos (i ∷ is) [] = []
answers infos (i ∷ is) (a ∷ said) = answer_bytes infos a i.closes ++ answers infos is said
