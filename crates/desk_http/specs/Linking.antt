-- How the service of a link ends, by what was exchanged over it.
use Rattle.std.specs.Prelude.{◌≡◌, ℕ, ◌<◌, ◌⊎◌, true, List, [], ◌∷◌, ◌++◌, length}
use Rattle.counts.specs.Counts.{Rose}
use Rattle.rule_core.specs.declared.info.RuleInfo.{RuleInfo}
use Rattle.http_messages.specs.declared.item.Item.{Item}
use Rattle.http_messages.specs.Talk.{End, ended, cut, closed, going, Talk}
use Rattle.http_replies.specs.declared.answer.Answer.{Answer}
use Rattle.http_replies.specs.Answers.{answer_bytes, no_memory}
use Rattle.desk_http.specs.declared.link_end.LinkEnd.{LinkEnd}
use Rattle.desk_http.specs.declared.link_end.LinkEnd.TheVariants.{Ended, Cut, Closed, LinkFault}
use Rattle.desk_http.specs.Answering.{answers}

-- what was exchanged over a link: the bytes that it had still to give, the items that were answered, the answers, and what was
-- written
pub record Exchange : Type 0 where
  pub bytes : List ℕ
  pub items : List Item
  pub said : List Answer
  pub written : List ℕ

-- all that was written are the answers
abbrev pub WritesAnswers : List RuleInfo → Exchange → Type 0
WritesAnswers infos x = x.written ≡ answers infos x.items x.said

-- this was written, and a front of what was to be written next
abbrev pub Begun : List ℕ → List ℕ → List ℕ → Type 0
Begun whole next out = (part : List ℕ) × (rest : List ℕ) × (part ++ rest ≡ next) × (out ≡ whole ++ part)

-- the answer to a message that couldn't be held
abbrev pub full : List RuleInfo → List ℕ
full infos = answer_bytes infos no_memory true

-- the bytes went on with a message, which wasn't answered
abbrev pub Goes : Exchange → Type 0
Goes x = (left : List ℕ) × (0 < length left) × Talk x.bytes x.items (going left)

-- all answers were written but the last, and a front of that one
abbrev pub Partly : List RuleInfo → Exchange → Type 0
Partly infos x =
    (before : List Item) × (i : Item) × (earlier : List Answer) × (a : Answer) × (end : End) × (x.items ≡ before ++ i ∷ [])
    × (x.said ≡ earlier ++ a ∷ []) × Talk x.bytes x.items end × Begun (answers infos before earlier) (answer_bytes infos a i.closes) x.written

-- the link failed between two messages or within one, in the answer to one that couldn't be held, or in another answer
abbrev pub Breaks : List RuleInfo → Exchange → Type 0
Breaks infos x =
    ((left : List ℕ) × Talk x.bytes x.items (going left) × WritesAnswers infos x)
    ⊎ ((Goes x × Begun (answers infos x.items x.said) (full infos) x.written) ⊎ Partly infos x)

abbrev pub Finishes : List RuleInfo → LinkEnd → Exchange → Type 0
Finishes infos Ended x = Talk x.bytes x.items ended × WritesAnswers infos x
Finishes infos Cut x = Talk x.bytes x.items cut × WritesAnswers infos x
Finishes infos Closed x =
    (Talk x.bytes x.items closed × WritesAnswers infos x) ⊎ (Goes x × (x.written ≡ answers infos x.items x.said ++ full infos))
Finishes infos LinkFault x = Breaks infos x

-- how a link's count of faults stands after its service: it rose where the link failed, and else no call of it failed
abbrev pub CountsFaults : LinkEnd → ℕ → ℕ → Type 0
CountsFaults LinkFault before now = Rose before now
CountsFaults other before now = now ≡ before
