-- Where pages agree on the keys of a node's references and on what they find, the node follows the same nodes on both,
-- and the same is told of each.
use Rattle.std.proofs.Common.{◌≡◌, ◌==◌, ◌&&◌, ◌||◌, not, List, [], ◌∷◌, map, filter, Bool, true, false, if◌then◌else◌, Option, Some, None, refl, sym, ◌∙◌, ap}
use Rattle.std.proofs.lemmas.List.{map-append}
use Rattle.std.specs.List.{AllByRecursion, list_any, flat_map, filter_map, cons_option}
use Rattle.std.specs.Option.{option_map_or}
use Rattle.aria_tables.specs.declared.attr.AriaAttr.{AriaAttr}
use Rattle.aria_tables.specs.declared.attr.AriaAttr.TheVariants as aria
use Rattle.snap_tree.specs.declared.row.NodeId.{NodeId}
use Rattle.snap_tree.specs.declared.row.Row.{Row}
use Rattle.snap_tree.specs.Rows.{has_number}
use Rattle.snap_tree.specs.Spots.{Spot, spot}
use Rattle.snap_tree.specs.Trees.{Trees}
use Rattle.acc_tree.specs.Following.{is_same, once, is_ancestor, are_apart, follows, followed}
use Rattle.acc_tree.specs.References.{found, named_by, references}
use Rattle.acc_tree.specs.Sights.{sight_of}
use Rattle.page_keys.specs.Keys.{id_key}
use Rattle.page_keys.specs.Same.{all_same}
use Rattle.page_keys.specs.Nodes.{self_keys, tree_keys, node_keys}
use Rattle.page_keys.specs.Standing.{spot_with, IsPage}
use Rattle.page_keys.proofs.Agreeing.{parts, self_parts, not_there}
use Rattle.page_keys.proofs.Trails.{Trail, trail}
use Rattle.page_keys.proofs.Again.{sight_same, itself_again}
use Rattle.page_keys.proofs.Referring.{TellsBySight, SameFound, SameReferences, found_parts, found-append, words_same}

-- ---- lists

filter_same : (p q : NodeId → Bool) (ms : List NodeId) → AllByRecursion (λ m. p m ≡ q m) ms → filter p ms ≡ filter q ms
filter_same p q [] all = refl
filter_same p q (m ∷ ms) all = let one = all.0 in let more = filter_same p q ms all.1 in λ i. if one i then m ∷ more i else more i

map_same : {A : Type 0} (f g : NodeId → A) (ms : List NodeId) → AllByRecursion (λ m. f m ≡ g m) ms → map f ms ≡ map g ms
map_same f g [] all = refl
map_same f g (m ∷ ms) all = let one = all.0 in let more = map_same f g ms all.1 in λ i. one i ∷ more i

all_kept : (P : NodeId → Type 0) (p : NodeId → Bool) (ms : List NodeId) → AllByRecursion P ms → AllByRecursion P (filter p ms)
all_kept P p [] all = tt
all_kept P p (m ∷ ms) all = by_test (p m) refl (all_kept P p ms all.1)
  where
    by_test : (b : Bool) → p m ≡ b → AllByRecursion P (filter p ms) → AllByRecursion P (filter p (m ∷ ms))
    by_test true e rest = rw e (all.0, rest)
    by_test false e rest = rw e rest

all_once : (P : NodeId → Type 0) (ms : List NodeId) → AllByRecursion P ms → AllByRecursion P (once ms)
all_once P [] all = tt
all_once P (m ∷ ms) all = (all.0, all_kept P (λ k. not (is_same m k)) (once ms) (all_once P ms all.1))

all_mapped : (P Q : NodeId → Type 0) → ((m : NodeId) → P m → Q m) → (ms : List NodeId) → AllByRecursion P ms → AllByRecursion Q ms
all_mapped P Q each [] all = tt
all_mapped P Q each (m ∷ ms) all = (each m all.0, all_mapped P Q each ms all.1)

-- pages agree on a node and on its subtree
abbrev SameAt : Trees → Trees → NodeId → Type 0
SameAt old new m = all_same old new (node_keys old m) ≡ true

each_found : (old new : Trees) (ms : List NodeId) → SameFound old new ms → AllByRecursion (SameAt old new) ms
each_found old new [] k = tt
each_found old new (m ∷ ms) k = let both = parts old new (node_keys old m) (flat_map (node_keys old) ms) k in (both.0, each_found old new ms both.1)

-- ---- what the words of one reference find

pub record SameWords (old new : Trees) (row : Row) (name : AriaAttr) : Type 0 where
  pub same : found old (named_by name row) ≡ found new (named_by name row)
  pub each : SameFound old new (found old (named_by name row))

each_words : (old new : Trees) (row : Row) (names : List AriaAttr) → all_same old new (map id_key (flat_map (λ name. named_by name row) names)) ≡ true
    → SameFound old new (found old (flat_map (λ name. named_by name row) names)) → AllByRecursion (SameWords old new row) names
each_words old new row [] k h = tt
each_words old new row (name ∷ names) k h =
    let first = named_by name row in
    let rest = flat_map (λ name. named_by name row) names in
    let keys = parts old new (map id_key first) (map id_key rest) (sym (ap (all_same old new) (map-append id_key first rest)) ∙ k) in
    let nodes = found_parts old new (found old first) (found old rest) (sym (ap (λ ms. all_same old new (flat_map (node_keys old) ms)) (found-append old first rest)) ∙ h) in
    (record { same = words_same old new first keys.0; each = nodes.0 }, each_words old new row names keys.1 nodes.1)

owned_words : (old new : Trees) (above : List Row) (row : Row) → SameReferences old new above row → SameWords old new row aria.Owns
owned_words old new above row r = (each_words old new row references r.words r.words_found).1.1.1.1.0

-- ---- who stands above whom

above_by : NodeId → Trail → Bool
above_by n [] = false
above_by n (x ∷ xs) = x.0.0 == n.0 || above_by n xs

above_is : (n : NodeId) (rows : List Row) → list_any (has_number n) rows ≡ above_by n (trail rows)
unfolding above_by
above_is n [] = refl
above_is n (row ∷ rows) = ap (λ b. row.id.0 == n.0 || b) (above_is n rows)

same_any : (n : NodeId) (a b : List Row) → trail a ≡ trail b → list_any (has_number n) a ≡ list_any (has_number n) b
same_any n a b way = above_is n a ∙ ap (above_by n) way ∙ sym (above_is n b)

ancestor_at : (t : Trees) (n m : NodeId) (o : Option Spot) → spot t m ≡ o → is_ancestor t n m ≡ option_map_or (λ s. list_any (has_number n) s.above) o false
ancestor_at t n m o e = ap (λ o. option_map_or (λ (s : Spot). list_any (has_number n) s.above) o false) e

-- whether one node is an ancestor of another is told by the frames of the other and of those above it
ancestor_same : (old new : Trees) → IsPage old → IsPage new → (n m : NodeId) → all_same old new (self_keys old m) ≡ true → is_ancestor old n m ≡ is_ancestor new n m
ancestor_same old new po pn n m k = by_spot (spot old m) refl
  where
    by_spot : (o : Option Spot) → spot old m ≡ o → is_ancestor old n m ≡ is_ancestor new n m
    by_spot None e = ancestor_at old n m None e ∙ sym (ancestor_at new n m None (not_there old new m e (self_parts old new m k).frame))
    by_spot (Some s) e =
        let z = itself_again old new po pn m s e k in
        ancestor_at old n m (Some s) e ∙ same_any n s.above z.at.above z.way ∙ sym (ancestor_at new n m (Some z.at) z.found)

-- ---- what a node follows

-- of the nodes that a row follows the same is told
pub followed_same : {A : Type 0} (f g : NodeId → A) (old new : Trees) → IsPage old → IsPage new → TellsBySight f g old new → (a b : List Row) (row : Row) (kids : Trees)
    → spot old row.id ≡ Some (spot_with row kids a) → spot new row.id ≡ Some (spot_with row kids b) → trail a ≡ trail b → SameReferences old new a row
    → map f (follows old row) ≡ map g (follows new row)
followed_same f g old new po pn each a b row kids e d way r =
    map_same f g (follows old row) (all_mapped (SameAt old new) (λ m. f m ≡ g m) (λ m k. each m (sight_same old new po pn m k)) (follows old row) (all_kept (SameAt old new) (are_apart old row.id) (once here) agreed))
    ∙ ap (map g) (filter_same (are_apart old row.id) (are_apart new row.id) (once here) (all_mapped (SameAt old new) (λ m. are_apart old row.id m ≡ are_apart new row.id m) apart (once here) agreed))
    ∙ ap (λ ms. map g (filter (are_apart new row.id) (once ms))) words.same
  where
    words : SameWords old new row aria.Owns
    words = owned_words old new a row r

    here : List NodeId
    here = found old (named_by aria.Owns row)

    agreed : AllByRecursion (SameAt old new) (once here)
    agreed = all_once (SameAt old new) here (each_found old new here words.each)

    below : (m : NodeId) → is_ancestor old m row.id ≡ is_ancestor new m row.id
    below m =
        ancestor_at old m row.id (Some (spot_with row kids a)) e ∙ same_any m a b way ∙ sym (ancestor_at new m row.id (Some (spot_with row kids b)) d)

    apart : (m : NodeId) → SameAt old new m → are_apart old row.id m ≡ are_apart new row.id m
    apart m k =
        let above = ancestor_same old new po pn row.id m (parts old new (self_keys old m) (tree_keys old m) k).0 in
        let under = below m in
        λ i. not (is_same row.id m) && (not (under i) && not (above i))

somes : {A : Type 0} → List (Option A) → List A
somes [] = []
somes (o ∷ os) = cons_option o (somes os)

somes_of : {A : Type 0} (f : NodeId → Option A) (ms : List NodeId) → filter_map f ms ≡ somes (map f ms)
unfolding somes
somes_of f [] = refl
somes_of f (m ∷ ms) = ap (cons_option (f m)) (somes_of f ms)

-- so they are seen the same
pub sights_same : (old new : Trees) → IsPage old → IsPage new → (a b : List Row) (row : Row) (kids : Trees) → spot old row.id ≡ Some (spot_with row kids a) → spot new row.id ≡ Some (spot_with row kids b) → trail a ≡ trail b → SameReferences old new a row
    → followed old row ≡ followed new row
sights_same old new po pn a b row kids e d way r =
    somes_of (sight_of old) (follows old row) ∙ ap somes (followed_same (sight_of old) (sight_of new) old new po pn (λ m h. h) a b row kids e d way r)
    ∙ sym (somes_of (sight_of new) (follows new row))
