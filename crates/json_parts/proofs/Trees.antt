-- What the tokens of a value have in common.
use Rattle.std.proofs.Common.{◌≡◌, Bool, true, false, ◌&&◌, List, [], ◌∷◌, ◌++◌, refl, ◌∙◌}
use Rattle.json.specs.Token.{Token}
use Rattle.json.specs.Json.{Json, null, boolean, number, string, array, object, Items, no_items, item, Members, no_members, member}
use Rattle.json.specs.Tree.{json_tokens, items_tokens, members_tokens}
use Rattle.json.specs.Align.{is_good}
use Rattle.json.specs.Print.{ends}
use Rattle.json_parts.proofs.Places.{all_good, ended, starts}

good_append : (ts us : List Token) → all_good ts ≡ true → all_good us ≡ true → all_good (ts ++ us) ≡ true
good_append [] us h k = k
good_append (t ∷ ts) us h k = joined (is_good t) (all_good ts) (all_good (ts ++ us)) h (λ e. good_append ts us e k)
  where
    joined : (b c d : Bool) → (b && c) ≡ true → (c ≡ true → d ≡ true) → (b && d) ≡ true
    joined true c d h f = f h
    joined false c d h f = h

ended_append : (b : Bool) (ts us : List Token) → ended b (ts ++ us) ≡ ended (ended b ts) us
ended_append b [] us = refl
ended_append b (t ∷ ts) us = ended_append (ends t) ts us

mutual
  pub value_good : (j : Json) → all_good (json_tokens j) ≡ true
  value_good null = refl
  value_good (boolean b) = refl
  value_good (number s) = refl
  value_good (string s) = refl
  value_good (array js) = items_good js
  value_good (object ms) = members_good ms

  items_good : (js : Items) → all_good (items_tokens js) ≡ true
  items_good no_items = refl
  items_good (item j js) = good_append (json_tokens j) (items_tokens js) (value_good j) (items_good js)

  members_good : (ms : Members) → all_good (members_tokens ms) ≡ true
  members_good no_members = refl
  members_good (member k j ms) = good_append (json_tokens j) (members_tokens ms) (value_good j) (members_good ms)

items_ended : (js : Items) (b : Bool) → ended b (items_tokens js) ≡ true
items_ended no_items b = refl
items_ended (item j js) b = ended_append b (json_tokens j) (items_tokens js) ∙ items_ended js (ended b (json_tokens j))

members_ended : (ms : Members) (b : Bool) → ended b (members_tokens ms) ≡ true
members_ended no_members b = refl
members_ended (member k j ms) b = ended_append false (json_tokens j) (members_tokens ms) ∙ members_ended ms (ended false (json_tokens j))

pub value_ended : (j : Json) (b : Bool) → ended b (json_tokens j) ≡ true
value_ended null b = refl
value_ended (boolean v) b = refl
value_ended (number s) b = refl
value_ended (string s) b = refl
value_ended (array js) b = items_ended js false
value_ended (object ms) b = members_ended ms false

pub value_starts : (j : Json) → starts (json_tokens j) ≡ true
value_starts null = refl
value_starts (boolean b) = refl
value_starts (number s) = refl
value_starts (string s) = refl
value_starts (array js) = refl
value_starts (object ms) = refl
