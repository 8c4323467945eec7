-- Items that are answered one after another, and what the bytes say of them: one more at the end.
use Rattle.std.proofs.Common.{◌≡◌, ℕ, ◌+◌, ◌≤◌, inl, inr, List, [], ◌∷◌, ◌++◌, length, true, false, refl, sym, ap, ◌∙◌, append_assoc, append-nil, arith, subst}
use Rattle.std.specs.List.{AllByRecursion}
use Rattle.rule_core.specs.declared.info.RuleInfo.{RuleInfo}
use Rattle.rule_core.specs.Books.{Book}
use Rattle.desk_core.specs.State.{State}
use Rattle.http_messages.specs.declared.item.Item.{Item}
use Rattle.http_messages.specs.Talk.{End, ended, cut, closed, going, IsNext, stops, gives, Talk}
use Rattle.http_replies.specs.declared.answer.Answer.{Answer}
use Rattle.http_replies.specs.Answers.{answer_bytes}
use Rattle.desk_http.specs.Answering.{AnswersSent, sent_judgings, Gets, AllGet, Runs, answers}

-- ---- items

-- the count may have stood lower before
runs_from : (book : Book) (s t : State) (is : List Item) (said : List Answer) (from later to most : ℕ) → from ≤ later →
    Runs book s is said t later to most → Runs book s is said t from to most
runs_from book s t [] [] from later to most order (same, up, none) = (same, omega (arith, order, up), none)
runs_from book s t (i ∷ is) (a ∷ said) from later to most order (x, start, stop, rest, begin, up, one, more, sum) =
    (x, start, stop, rest, omega (arith, order, begin), up, one, more, sum)
runs_from book s t [] (a ∷ said) from later to most order run = absurd run
runs_from book s t (i ∷ is) [] from later to most order run = absurd run

-- items after those that were answered
pub runs_join : (book : Book) (s m t : State) (is js : List Item) (said bs : List Answer) (from mid later to most rest : ℕ) →
    Runs book s is said m from mid most → mid ≤ later → Runs book m js bs t later to rest → Runs book s (is ++ js) (said ++ bs) t from to (most + rest)
runs_join book s m t [] js [] bs from mid later to most rest (same, order, none) up then =
    let P : State → Type 0 = λ x. Runs book x js bs t from to rest in
    let Q : ℕ → Type 0 = λ n. Runs book s js bs t from to n in
    let sum : rest ≡ most + rest = omega (arith, none) in
    subst Q sum (subst P same (runs_from book m t js bs from later to rest (omega (arith, order, up)) then))
runs_join book s m t (i ∷ is) js (a ∷ said) bs from mid later to most rest (x, start, stop, others, order, up, one, more, sum) first then =
    (x, start, stop, others + rest, order, up, one, runs_join book x m t is js said bs stop mid later to others rest more first then, omega (arith, sum))
runs_join book s m t [] js (a ∷ said) bs from mid later to most rest run first then = absurd run
runs_join book s m t (i ∷ is) js [] bs from mid later to most rest run first then = absurd run

-- one item
pub runs_one : (book : Book) (s t : State) (i : Item) (a : Answer) (from to : ℕ) → from ≤ to → AnswersSent book s i.sent a t from to →
    Runs book s (i ∷ []) (a ∷ []) t from to (sent_judgings book s i.sent)
runs_one book s t i a from to order answered = (t, from, to, 0, omega arith, order, answered, (refl, omega arith, refl), omega arith)

-- ---- whatever is kept

-- the count may have stood lower before
all_get_from : (infos : List RuleInfo) (is : List Item) (said : List Answer) (from later to : ℕ) → from ≤ later → AllGet infos is said later to → AllGet infos is said from to
all_get_from infos [] [] from later to order up = let le : later ≤ to = up in let less : from ≤ to = omega (arith, order, le) in less
all_get_from infos (i ∷ is) (a ∷ said) from later to order (start, stop, begin, up, one, more) = (start, stop, omega (arith, order, begin), up, one, more)
all_get_from infos [] (a ∷ said) from later to order all = absurd all
all_get_from infos (i ∷ is) [] from later to order all = absurd all

pub all_get_join : (infos : List RuleInfo) (is js : List Item) (said bs : List Answer) (from mid later to : ℕ) →
    AllGet infos is said from mid → mid ≤ later → AllGet infos js bs later to → AllGet infos (is ++ js) (said ++ bs) from to
all_get_join infos [] js [] bs from mid later to order up then = let le : from ≤ mid = order in all_get_from infos js bs from later to (omega (arith, le, up)) then
all_get_join infos (i ∷ is) js (a ∷ said) bs from mid later to (start, stop, begin, up, one, more) first then =
    (start, stop, begin, up, one, all_get_join infos is js said bs stop mid later to more first then)
all_get_join infos [] js (a ∷ said) bs from mid later to all first then = absurd all
all_get_join infos (i ∷ is) js [] bs from mid later to all first then = absurd all

pub all_get_one : (infos : List RuleInfo) (i : Item) (a : Answer) (from to : ℕ) → from ≤ to → Gets infos i.sent a from to → AllGet infos (i ∷ []) (a ∷ []) from to
all_get_one infos i a from to order one = let same : to ≤ to = omega arith in (from, to, omega arith, order, one, same)

-- what holds of each of two lists together holds of each of the one and of the other
pub all_front : {X : Type 0} (P : X → Type 0) (xs ys : List X) → AllByRecursion P (xs ++ ys) → AllByRecursion P xs
all_front P [] ys all = tt
all_front P (x ∷ xs) ys (one, all) = (one, all_front P xs ys all)

pub all_back : {X : Type 0} (P : X → Type 0) (xs ys : List X) → AllByRecursion P (xs ++ ys) → AllByRecursion P ys
all_back P [] ys all = all
all_back P (x ∷ xs) ys (one, all) = all_back P xs ys all

-- ---- bytes

-- the bytes of one answer more
pub answers_more : (infos : List RuleInfo) (is : List Item) (said : List Answer) (i : Item) (a : Answer) → length said ≡ length is →
    answers infos (is ++ i ∷ []) (said ++ a ∷ []) ≡ answers infos is said ++ answer_bytes infos a i.closes
answers_more infos [] [] i a each = append-nil _
answers_more infos (j ∷ is) (b ∷ said) i a each =
    ap (λ l. answer_bytes infos b j.closes ++ l) (answers_more infos is said i a (omega (arith, each)))
    ∙ sym (append_assoc (answer_bytes infos b j.closes) (answers infos is said) (answer_bytes infos a i.closes))
answers_more infos [] (b ∷ said) i a each = absurd (omega (arith, each))
answers_more infos (j ∷ is) [] i a each = absurd (omega (arith, each))

-- as many answers as items
pub each_more : (is : List Item) (said : List Answer) (i : Item) (a : Answer) → length said ≡ length is → length (said ++ a ∷ []) ≡ length (is ++ i ∷ [])
each_more [] [] i a each = refl
each_more (j ∷ is) (b ∷ said) i a each = let rest = each_more is said i a (omega (arith, each)) in omega (arith, rest)
each_more [] (b ∷ said) i a each = absurd (omega (arith, each))
each_more (j ∷ is) [] i a each = absurd (omega (arith, each))

-- what comes after the items that went on
pub talk_ends : (bytes next : List ℕ) (is js : List Item) (e : End) → Talk bytes is (going next) → Talk next js e → Talk bytes (is ++ js) e
talk_ends bytes next [] js e talk here = let P : List ℕ → Type 0 = λ b. Talk b js e in subst P (sym talk) here
talk_ends bytes next (j ∷ is) js e (rest, first, inl (closes, none, never)) here = absurd (cc)
talk_ends bytes next (j ∷ is) js e (rest, first, inr (stays, more)) here = (rest, first, inr (stays, talk_ends rest next is js e more here))

-- an item after which the connection goes on
pub talk_more : (bytes next rest : List ℕ) (is : List Item) (i : Item) → Talk bytes is (going next) → IsNext next (gives i rest) → i.closes ≡ false → Talk bytes (is ++ i ∷ []) (going rest)
talk_more bytes next rest is i talk here stays = talk_ends bytes next is (i ∷ []) (going rest) talk (rest, here, inr (stays, refl))

-- an item after which the connection is closed
pub talk_closes : (bytes next rest : List ℕ) (is : List Item) (i : Item) → Talk bytes is (going next) → IsNext next (gives i rest) → i.closes ≡ true → Talk bytes (is ++ i ∷ []) closed
talk_closes bytes next rest is i talk here closes = talk_ends bytes next is (i ∷ []) closed talk (rest, here, inl (closes, refl, refl))

-- no item comes any more
pub talk_ended : (bytes next : List ℕ) (is : List Item) → Talk bytes is (going next) → IsNext next (stops ended) → Talk bytes is ended
talk_ended bytes next is talk here = let P : List Item → Type 0 = λ l. Talk bytes l ended in subst P (append-nil is) (talk_ends bytes next is [] ended talk here)

pub talk_cut : (bytes next : List ℕ) (is : List Item) → Talk bytes is (going next) → IsNext next (stops cut) → Talk bytes is cut
talk_cut bytes next is talk here = let P : List Item → Type 0 = λ l. Talk bytes l cut in subst P (append-nil is) (talk_ends bytes next is [] cut talk here)
