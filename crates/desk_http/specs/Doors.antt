-- What serving a door does: its log grows by the links that were served, one after the other.
use Rattle.std.specs.Prelude.{◌≡◌, ℕ, ◌+◌, List, [], ◌∷◌, ◌++◌, length, flat_map, Option, Some}
use Rattle.links.specs.Wires.{Wire}
use Rattle.links.specs.Doors.{Doorway}
use Rattle.rule_core.specs.declared.info.RuleInfo.{RuleInfo}
use Rattle.rule_core.specs.Books.{Book}
use Rattle.http_messages.specs.declared.item.Item.{Item}
use Rattle.http_replies.specs.declared.answer.Answer.{Answer}
use Rattle.desk_http.specs.declared.link_end.LinkEnd.{LinkEnd}
use Rattle.desk_http.specs.Linking.{Exchange, Finishes, CountsFaults}
use Rattle.desk_http.specs.Desk.{Desk, beside_door}
use Rattle.desk_http.specs.Serving.{SettlesAll}

-- ---- a link

-- how a link was served: what it tells afterwards, the items that were answered, the answers, and the end
pub record Visit : Type 0 where
  pub wire : Wire
  pub items : List Item
  pub said : List Answer
  pub end : LinkEnd

-- what was exchanged over it, of all bytes that it brings
abbrev pub exchange_of : Visit → Exchange
exchange_of v = record { bytes = v.wire.brought; items = v.items; said = v.said; written = v.wire.written }

-- The link in the log was served so: all bytes that it brings end so after the items, each of which has its answer, and all that was
-- written are the answers. A fault ended it only where the link counted one, and else it counted none.
pub record IsVisit {C : Type 0} (infos : List RuleInfo) (wire : C → Option Wire) (faults : C → ℕ) (link : C) (v : Visit) : Type 0 where
  pub told : wire link ≡ Some v.wire
  pub each : length v.said ≡ length v.items
  pub finishes : Finishes infos v.end (exchange_of v)
  pub counted : CountsFaults v.end 0 (faults link)

-- ---- the links of a log

abbrev pub AreVisits : {C : Type 0} → List RuleInfo → (C → Option Wire) → (C → ℕ) → List C → List Visit → Type 0
AreVisits infos wire faults [] [] = Unit {0}
AreVisits infos wire faults (link ∷ links) (v ∷ vs) = IsVisit infos wire faults link v × AreVisits infos wire faults links vs
AreVisits infos wire faults [] (v ∷ vs) = ⊥
AreVisits infos wire faults (link ∷ links) [] = ⊥

-- each of the links tells its wire
abbrev pub AreTold : {C : Type 0} → (C → Option Wire) → List C → Type 0
AreTold wire [] = Unit {0}
AreTold wire (link ∷ links) = ((w : Wire) × (wire link ≡ Some w)) × AreTold wire links

-- all items, one link after the other, and all answers
abbrev pub all_items : List Visit → List Item
all_items vs = flat_map (λ (v : Visit). v.items) vs

abbrev pub all_said : List Visit → List Answer
all_said vs = flat_map (λ (v : Visit). v.said) vs

-- ---- the door

-- the log grew by these links: as many as the number of connections still allowed went down
pub record Grows {C : Type 0} (before log more : List C) (old new : Doorway) : Type 0 where
  pub log_is : log ≡ before ++ more
  pub count : old.allowed ≡ new.allowed + length more

-- Where the log is told, it grew by links that were served. Where each of these tells its wire, all items of all of them were
-- answered one after another, from what stood beside the door to what stands there now.
abbrev pub ServesDoor : {L : Type 0} → Book → Desk L → Desk L → Type 0
ServesDoor book old new =
    (log : List _) → new.log ≡ Some log → (before : List _) × (more : List _) × (old.log ≡ Some before) × Grows before log more old.door new.door
    × (AreTold old.wire more → (vs : List Visit) × AreVisits book.infos old.wire old.broken more vs
    × SettlesAll book (all_items vs) (all_said vs) (beside_door old) (beside_door new))

-- one link was served and given back to the log
abbrev pub ServesOne : {L : Type 0} → Book → Desk L → Desk L → Type 0
ServesOne book old new =
    (log : List _) → new.log ≡ Some log → (before : List _) × (link : _) × (old.log ≡ Some before) × (log ≡ before ++ link ∷ [])
    × ((w : Wire) → old.wire link ≡ Some w
    → (v : Visit) × IsVisit book.infos old.wire old.broken link v × SettlesAll book v.items v.said (beside_door old) (beside_door new))
