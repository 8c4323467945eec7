-- How inputs' rows merge, one input after another, in slots that stand in document order.
use Rattle.std.proofs.Common.{◌≡◌, ◌≢◌, ℕ, zero, suc, ◌+◌, ◌<◌, ◌==◌, eqb, Bool, true, false, cond, not, ◌||◌, List, [], ◌∷◌, ◌++◌, map, filter, length, take, drop, get_or, Option, Some, None, IfSome, refl, sym, ap, ◌∙◌, append-nil, add-one, arith}
use Rattle.std.specs.List.{filter_map, list_any, cons_option, AllByRecursion}
use Rattle.std.specs.Option.{option_to_list}
use Rattle.std.proofs.Math.Seq.{drop-cons}
use Rattle.std.proofs.lemmas.List.{take_more}
use Rattle.std.proofs.lemmas.List.Folds.{list_any-append}
use Rattle.std.proofs.lemmas.Bool.Decides.{nat_tests}
use Rattle.snap_tree.specs.declared.row.NodeId.{NodeId}
use Rattle.rule_core.specs.declared.info.RuleNo.{RuleNo}
use Rattle.rule_core.specs.declared.verdict.Auto.{Auto}
use Rattle.rule_core.specs.declared.verdict.Auto.TheVariants.{Passed, Failed, CantTell}
use Rattle.judge_core.specs.declared.outcomes.OutRow.{OutRow}
use Rattle.judge_core.specs.Composites.{merge, is_passed, is_open}
use Rattle.judge_core.specs.Outcomes.{merged_row, rules_among}
use Rattle.judge_core.proofs.Lists.{filter_map-append}
use Rattle.judge_core.proofs.Merging.{one_alone}
use Rattle.judged_rows.specs.declared.composite.Slot.{Slot}
use Rattle.judged_rows.specs.Merging.{merged, with_row, head_on, after, AreOn, filled_by, slot_of, slot_row}

-- ---- one row more

abbrev by_tests : Bool → Bool → Auto
by_tests some_pass some_open = cond some_pass Passed (cond some_open CantTell Failed)

two : (a b : Bool) (y : Auto) → by_tests (a || (is_passed y || false)) (b || (is_open y || false)) ≡ merge (by_tests a b ∷ y ∷ [])
two true b y = refl
two false true Passed = refl
two false true Failed = refl
two false true CantTell = refl
two false false Passed = refl
two false false Failed = refl
two false false CantTell = refl

merge_more : (xs : List Auto) (y : Auto) → merge (xs ++ y ∷ []) ≡ merge (merge xs ∷ y ∷ [])
merge_more xs y =
    ap (λ b. by_tests b (list_any is_open (xs ++ y ∷ []))) (list_any-append is_passed xs (y ∷ []))
    ∙ ap (λ b. by_tests (list_any is_passed xs || (is_passed y || false)) b) (list_any-append is_open xs (y ∷ []))
    ∙ two (list_any is_passed xs) (list_any is_open xs) y

map_more : {X Y : Type 0} (f : X → Y) (xs : List X) (y : X) → map f (xs ++ y ∷ []) ≡ map f xs ++ f y ∷ []
map_more f [] y = refl
map_more f (x ∷ xs) y = ap (λ l. f x ∷ l) (map_more f xs y)

merged_more : (rows : List OutRow) (o : Option OutRow) → merged (rows ++ option_to_list o) ≡ with_row (merged rows) o
merged_more [] None = refl
merged_more [] (Some y) = ap (λ a. Some (record { auto = a; last = merge (y.last ∷ []) })) (one_alone y.auto) ∙ ap (λ a. Some (record { auto = y.auto; last = a })) (one_alone y.last)
merged_more (x ∷ rows) None = ap merged (append-nil (x ∷ rows))
merged_more (x ∷ rows) (Some y) =
    let all : List OutRow = x ∷ rows in
    ap (λ l. Some (record { auto = merge l; last = merge (map (λ r. r.last) (all ++ y ∷ [])) })) (map_more (λ r. r.auto) all y)
    ∙ ap (λ l. Some (record { auto = merge (map (λ r. r.auto) all ++ y.auto ∷ []); last = merge l })) (map_more (λ r. r.last) all y)
    ∙ ap (λ a. Some (record { auto = a; last = merge (map (λ r. r.last) all ++ y.last ∷ []) })) (merge_more (map (λ r. r.auto) all) y.auto)
    ∙ ap (λ a. Some (record { auto = merge (merge (map (λ r. r.auto) all) ∷ y.auto ∷ []); last = a })) (merge_more (map (λ r. r.last) all) y.last)

-- ---- one node more

pub same_number : (m n : ℕ) → eqb m n ≡ true → m ≡ n
same_number m n h = grind (arith, nat_tests)

pub same : (n : ℕ) → eqb n n ≡ true
same n = grind (arith, nat_tests)

-- rows of nodes that have one don't begin on a node that has none
not_ahead : (f : NodeId → Option OutRow) → AreOn f → (n : NodeId) → f n ≡ None → (ns : List NodeId) → (head_on n (filter_map f ns) ≡ None) × (after n (filter_map f ns) ≡ filter_map f ns)
not_ahead f on n none [] = (refl, refl)
not_ahead f on n none (m ∷ ns) = begins (f m) refl (on m) (not_ahead f on n none ns)
  where
    other : (row : OutRow) → f m ≡ Some row → row.node ≡ m → (b : Bool) → eqb row.node.0 n.0 ≡ b → b ≡ false
    other row is own false e = refl
    other row is own true e =
        let at : row.node ≡ n = ap (λ (k : ℕ). record { 0 = k }) (same_number row.node.0 n.0 e) in
        let nothing : Some row ≡ None = sym is ∙ ap f (sym own ∙ at) ∙ none in cc

    begins : (o : Option OutRow) → f m ≡ o → IfSome o (λ row. row.node ≡ m) → (head_on n (filter_map f ns) ≡ None) × (after n (filter_map f ns) ≡ filter_map f ns) →
        (head_on n (cons_option o (filter_map f ns)) ≡ None) × (after n (cons_option o (filter_map f ns)) ≡ cons_option o (filter_map f ns))
    begins None is own later = later
    begins (Some row) is own later =
        let no = other row is own (eqb row.node.0 n.0) refl in (
          ap (λ b. cond b (Some row) None) no,
          ap (λ b. cond b (filter_map f ns) (row ∷ filter_map f ns)) no,
        )

-- the leading row is that of the first node, where it has one
pub leads : (f : NodeId → Option OutRow) → AreOn f → (n : NodeId) (ns : List NodeId) → (head_on n (filter_map f (n ∷ ns)) ≡ f n) × (after n (filter_map f (n ∷ ns)) ≡ filter_map f ns)
leads f on n ns = begins (f n) refl (on n)
  where
    begins : (o : Option OutRow) → f n ≡ o → IfSome o (λ row. row.node ≡ n) → (head_on n (cons_option o (filter_map f ns)) ≡ o) × (after n (cons_option o (filter_map f ns)) ≡ filter_map f ns)
    begins None is own = not_ahead f on n is ns
    begins (Some row) is own =
        let yes : eqb row.node.0 n.0 ≡ true = ap (λ (m : NodeId). eqb m.0 n.0) own ∙ same n.0 in (
          ap (λ b. cond b (Some row) None) yes,
          ap (λ b. cond b (filter_map f ns) (row ∷ filter_map f ns)) yes,
        )

-- one slot more
pub slot_more : (f : NodeId → Option OutRow) → AreOn f → (slots : List Slot) (i : ℕ) (d : Slot) (left next : List OutRow) (filled now : List Slot) → i < length slots →
    left ≡ filter_map f (map (λ s. s.node) (drop i slots)) → filled ≡ map (filled_by f) (take i slots) → next ≡ after (get_or slots i d).node left →
    now ≡ filled ++ record { node = (get_or slots i d).node; found = with_row (get_or slots i d).found (head_on (get_or slots i d).node left) } ∷ [] →
    (next ≡ filter_map f (map (λ s. s.node) (drop (i + 1) slots))) × (now ≡ map (filled_by f) (take (i + 1) slots))
slot_more f on slots i d left next filled now within begins so_far goes more =
    let slot = get_or slots i d in
    let ns = map (λ (s : Slot). s.node) (drop (i + 1) slots) in
    let cut : drop i slots ≡ slot ∷ drop (i + 1) slots = drop-cons slots i d within ∙ ap (λ n. slot ∷ drop n slots) (sym (add-one i)) in
    let whole : left ≡ filter_map f (slot.node ∷ ns) = begins ∙ ap (λ l. filter_map f (map (λ (s : Slot). s.node) l)) cut in
    let step = leads f on slot.node ns in (
      goes ∙ ap (after slot.node) whole ∙ step.1,
      more ∙ ap (λ l. l ++ record { node = slot.node; found = with_row slot.found (head_on slot.node left) } ∷ []) so_far
          ∙ ap (λ o. map (filled_by f) (take i slots) ++ record { node = slot.node; found = with_row slot.found o } ∷ []) (ap (head_on slot.node) whole ∙ step.0)
          ∙ sym (map_more (filled_by f) (take i slots) slot) ∙ ap (map (filled_by f)) (sym (take_more slots i d within)),
    )

-- ---- one input more

map_map : {X Y Z : Type 0} (g : Y → Z) (f : X → Y) (xs : List X) → map g (map f xs) ≡ map (λ x. g (f x)) xs
map_map g f [] = refl
map_map g f (x ∷ xs) = ap (λ l. g (f x) ∷ l) (map_map g f xs)

map_same : {X Y : Type 0} (f g : X → Y) (xs : List X) → ((x : X) → f x ≡ g x) → map f xs ≡ map g xs
map_same f g [] same = refl
map_same f g (x ∷ xs) same = ap (λ y. y ∷ map f xs) (same x) ∙ ap (λ l. g x ∷ l) (map_same f g xs same)

pub map_id : {X : Type 0} (xs : List X) → map (λ x. x) xs ≡ xs
map_id [] = refl
map_id (x ∷ xs) = ap (λ l. x ∷ l) (map_id xs)

filter_map_one : (f : RuleNo → NodeId → Option OutRow) (input : RuleNo) (n : NodeId) → filter_map (λ i. f i n) (input ∷ []) ≡ option_to_list (f input n)
filter_map_one f input n = one (f input n)
  where
    one : (o : Option OutRow) → cons_option o [] ≡ option_to_list o
    one None = refl
    one (Some row) = refl

-- the slots of some inputs, filled by one more
pub slots_more : (f : RuleNo → NodeId → Option OutRow) (inputs : List RuleNo) (input : RuleNo) (nodes : List NodeId) →
    map (filled_by (f input)) (map (slot_of f inputs) nodes) ≡ map (slot_of f (inputs ++ input ∷ [])) nodes
slots_more f inputs input nodes =
    map_map (filled_by (f input)) (slot_of f inputs) nodes
    ∙ map_same _ _ nodes (λ n. ap (λ o. record { node = n; found = o }) (
    sym (merged_more (filter_map (λ i. f i n) inputs) (f input n)) ∙ ap (λ l. merged (filter_map (λ i. f i n) inputs ++ l)) (sym (filter_map_one f input n))
    ∙ ap merged (sym (filter_map-append (λ i. f i n) inputs (input ∷ [])))
    ))

pub nodes_of_slots : (f : RuleNo → NodeId → Option OutRow) (inputs : List RuleNo) (nodes : List NodeId) → map (λ s. s.node) (map (slot_of f inputs) nodes) ≡ nodes
nodes_of_slots f inputs nodes = map_map (λ (s : Slot). s.node) (slot_of f inputs) nodes ∙ map_id nodes

-- one number more
filter_more : {X : Type 0} (p : X → Bool) (xs : List X) (y : X) → filter p (xs ++ y ∷ []) ≡ filter p xs ++ cond (p y) (y ∷ []) []
filter_more p [] y = one (p y)
  where
    one : (b : Bool) → cond b (y ∷ []) [] ≡ [] ++ cond b (y ∷ []) []
    one b = refl
filter_more p (x ∷ xs) y = ap (λ l. cond (p x) (x ∷ l) l) (filter_more p xs y) ∙ chosen (p x)
  where
    chosen : (b : Bool) → cond b (x ∷ (filter p xs ++ cond (p y) (y ∷ []) [])) (filter p xs ++ cond (p y) (y ∷ []) []) ≡ cond b (x ∷ filter p xs) (filter p xs) ++ cond (p y) (y ∷ []) []
    chosen true = refl
    chosen false = refl

rule_of : ℕ → RuleNo
rule_of n = record { 0 = n }

among_more : (numbers : List ℕ) (n : ℕ) → rules_among (numbers ++ n ∷ []) ≡ rules_among numbers ++ cond (not (n == 0)) (record { 0 = n } ∷ []) []
among_more numbers n = ap (map (λ (k : ℕ). record { 0 = k })) (filter_more (λ k. not (k == 0)) numbers n) ∙ split (not (n == 0))
  where
    split : (b : Bool) →
        map {B = RuleNo} (λ (k : ℕ). record { 0 = k }) (filter (λ k. not (k == 0)) numbers ++ cond b (n ∷ []) []) ≡ rules_among numbers ++ cond b (record { 0 = n } ∷ []) []
    split true = map_more (λ (k : ℕ). record { 0 = k }) (filter (λ k. not (k == 0)) numbers) n
    split false = ap (map (λ (k : ℕ). record { 0 = k })) (append-nil (filter (λ k. not (k == 0)) numbers)) ∙ sym (append-nil (rules_among numbers))

-- what holds of each rule among some numbers holds of that of each number that isn't 0
pub all_among : (P : RuleNo → Type 0) (numbers : List ℕ) (i d : ℕ) → AllByRecursion P (rules_among numbers) → i < length numbers → get_or numbers i d ≢ 0 → P (record { 0 = get_or numbers i d })
all_among P [] i d all within some = absurd (omega (arith, within))
all_among P (n ∷ numbers) i d all within some = at i within some (n == 0) refl all (λ j. all_among P numbers j d)
  where
    at : (i : ℕ) → i < length (n ∷ numbers) → get_or (n ∷ numbers) i d ≢ 0 → (b : Bool) → eqb n 0 ≡ b →
        AllByRecursion P (map (λ k. record { 0 = k }) (cond (not b) (n ∷ filter (λ k. not (k == 0)) numbers) (filter (λ k. not (k == 0)) numbers))) →
        ((j : ℕ) → AllByRecursion P (rules_among numbers) → j < length numbers → get_or numbers j d ≢ 0 → P (record { 0 = get_or numbers j d })) →
        P (record { 0 = get_or (n ∷ numbers) i d })
    at zero within some true e all later = absurd (some (same_number n 0 e))
    at zero within some false e all later = all.0
    at (suc j) within some true e all later = later j all (omega (arith, within)) some
    at (suc j) within some false e all later = later j all.1 (omega (arith, within)) some

pub number_more : (f : RuleNo → NodeId → Option OutRow) (numbers : List ℕ) (nodes : List NodeId) (i d : ℕ) (slots now : List Slot) → i < length numbers →
    slots ≡ map (slot_of f (rules_among (take i numbers))) nodes →
    now ≡ cond (get_or numbers i d == 0) slots (map (filled_by (f (record { 0 = get_or numbers i d }))) slots) →
    now ≡ map (slot_of f (rules_among (take (i + 1) numbers))) nodes
number_more f numbers nodes i d slots now within so_far more =
    let n = get_or numbers i d in
    more ∙ ap (λ l. cond (n == 0) l (map (filled_by (f (record { 0 = n }))) l)) so_far ∙ chosen (n == 0) refl
    ∙ ap (λ l. map (slot_of f (rules_among l)) nodes) (sym (take_more numbers i d within))
  where
    chosen : (b : Bool) → eqb (get_or numbers i d) 0 ≡ b →
        cond b (map (slot_of f (rules_among (take i numbers))) nodes) (map (filled_by (f (record { 0 = get_or numbers i d }))) (map (slot_of f (rules_among (take i numbers))) nodes))
        ≡ map (slot_of f (rules_among (take i numbers ++ get_or numbers i d ∷ []))) nodes
    chosen true e = ap (λ l. map (slot_of f l) nodes) (sym (among_more (take i numbers) (get_or numbers i d) ∙ ap (λ b. rules_among (take i numbers) ++ cond (not b) (record { 0 = get_or numbers i d } ∷ []) []) e ∙ append-nil (rules_among (take i numbers))))
    chosen false e =
        slots_more f (rules_among (take i numbers)) (record { 0 = get_or numbers i d }) nodes
        ∙ ap (λ l. map (slot_of f l) nodes) (sym (among_more (take i numbers) (get_or numbers i d) ∙ ap (λ b. rules_among (take i numbers) ++ cond (not b) (record { 0 = get_or numbers i d } ∷ []) []) e))

-- ---- the rows of the slots

row_of_slot : (rule : RuleNo) (n : NodeId) (rows : List OutRow) → slot_row rule (record { node = n; found = merged rows }) ≡ merged_row rule n rows
row_of_slot rule n [] = refl
row_of_slot rule n (row ∷ rows) = refl

pub filter_map_map : {X Y Z : Type 0} (g : Y → Option Z) (f : X → Y) (xs : List X) → filter_map g (map f xs) ≡ filter_map (λ x. g (f x)) xs
filter_map_map g f [] = refl
filter_map_map g f (x ∷ xs) = ap (cons_option (g (f x))) (filter_map_map g f xs)

pub filter_map_same : {X Y : Type 0} (f g : X → Option Y) (xs : List X) → ((x : X) → f x ≡ g x) → filter_map f xs ≡ filter_map g xs
filter_map_same f g [] same = refl
filter_map_same f g (x ∷ xs) same = ap (λ o. cons_option o (filter_map f xs)) (same x) ∙ ap (cons_option (g x)) (filter_map_same f g xs same)

pub rows_of_slots : (f : RuleNo → NodeId → Option OutRow) (rule : RuleNo) (inputs : List RuleNo) (nodes : List NodeId) →
    filter_map (slot_row rule) (map (slot_of f inputs) nodes) ≡ filter_map (λ n. merged_row rule n (filter_map (λ input. f input n) inputs)) nodes
rows_of_slots f rule inputs nodes =
    filter_map_map (slot_row rule) (slot_of f inputs) nodes ∙ filter_map_same _ _ nodes (λ n. row_of_slot rule n (filter_map (λ input. f input n) inputs))
