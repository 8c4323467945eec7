-- What is the same where pages agree on what a class looks at.
use Rattle.std.proofs.Common.{◌≡◌, not, List, [], ◌∷◌, ◌++◌, map, codes, Bool, true, false, if◌then◌else◌, Option, Some, None, option_and_then, refl, sym, ◌∙◌, ap, subst}
use Rattle.std.specs.Cmp.{first_so, second_so}
use Rattle.std.specs.Option.{option_map_or, is_some}
use Rattle.snap_tree.specs.declared.row.NodeId.{NodeId}
use Rattle.snap_tree.specs.declared.row.Row.{Row}
use Rattle.snap_tree.specs.Labels.{first_with_id, labels_at as tree_labels}
use Rattle.snap_tree.specs.Lookups.{tagged}
use Rattle.snap_tree.specs.Rows.{is_html}
use Rattle.snap_tree.specs.Spots.{Spot, spot, IsSpotOf, ClimbsBy}
use Rattle.snap_tree.specs.Trees.{Trees, empty}
use Rattle.aria_tables.specs.declared.attr.AriaAttr.TheVariants as aria
use Rattle.acc_tree.specs.Frames.{Frame, frame, frame_html_tag, is_table, above_of}
use Rattle.acc_tree.specs.References.{found, named_by, reference_words}
use Rattle.acc_tree.specs.Sights.{Sight, sight_of, IsClimbed}
use Rattle.page_keys.specs.Keys.{Key, frame_key, own_key, tagged_key, root_numbers, own_at}
use Rattle.page_keys.specs.Same.{same, all_same}
use Rattle.page_keys.specs.Nodes.{frames_of, self_keys, keys_in, keys_below, tree_keys, node_keys}
use Rattle.page_keys.specs.References.{references_of, references_in, reference_keys}
use Rattle.page_keys.specs.Classes.{sub_keys, table_in, table_of, table_keys, is_root, titles, title_keys, is_meta, metas, metas_keys, whole_keys}
use Rattle.page_keys.specs.Standing.{IsPage}
use Rattle.page_keys.specs.Laws.{subtree, table_sight, root_titles, meta_owns, page_at, words_find, labelled_by, labels_at}
use Rattle.page_keys.proofs.Tests.{agree}
use Rattle.page_keys.proofs.Agreeing.{parts, self_parts, node_parts, spot_sight, no_sight, frames_agree, also_there, not_there, same_trees}
use Rattle.page_keys.proofs.Stands.{all_stand}
use Rattle.page_keys.proofs.Trails.{trail, trail_at, found_trail, same_trail, same_above}
use Rattle.page_keys.proofs.Pages.{root_of}
use Rattle.page_keys.proofs.Again.{LooksAtPages, tree_again, node_again, subtree_same, sight_same, said_same}
use Rattle.page_keys.proofs.Referring.{each_same, firsts_same, same_references, SameReferences, labelled_by_same, labels_same}

-- ---- Table

-- the frames above a node are also those above its nearest table
table_way : (old new : Trees) → IsClimbed old → IsClimbed new → (above : List Row) → ClimbsBy above old → all_same old new (frames_of above) ≡ true → (m : NodeId) → table_in (above_of above) ≡ Some m → trail_at old (Some m) ≡ trail_at new (Some m)
table_way old new co cn [] h k m e = cc
table_way old new co cn (p ∷ above) h k m e = by_tag (is_table (frame_html_tag (frame (above_of above) p))) refl e (λ climbs. table_way old new co cn above climbs (second_so (same old new (frame_key p.id)) _ k) m)
  where
    by_spot : (o : Option Spot) → spot old p.id ≡ o → IsSpotOf p above o → ClimbsBy above old
    by_spot None e is = absurd is
    by_spot (Some s) e is = let climbs : ClimbsBy s.above old = rw e at (co.climbs p.id) in subst (λ rows. ClimbsBy rows old) is.1 climbs

    by_tag : (b : Bool) → is_table (frame_html_tag (frame (above_of above) p)) ≡ b → table_in (above_of (p ∷ above)) ≡ Some m → (ClimbsBy above old → table_in (above_of above) ≡ Some m → trail_at old (Some m) ≡ trail_at new (Some m)) → trail_at old (Some m) ≡ trail_at new (Some m)
    by_tag true b e next =
        let here : Some p.id ≡ Some m = rw b at e in
        subst (λ n. trail_at old n ≡ trail_at new n) here (same_trail old new co cn (p ∷ above) h k)
    by_tag false b e next = let up : table_in (above_of above) ≡ Some m = rw b at e in next (by_spot (spot old p.id) refl h) up

as_said : (o : Option Sight) → option_and_then (λ s. table_in s.above) o ≡ option_map_or (λ s. table_in s.above) o None
as_said None = refl
as_said (Some s) = refl

table_number : LooksAtPages table_of self_keys
table_number old new po pn n k = as_said (sight_of old n) ∙ said_same (λ above row. table_in above) None old new po pn n k ∙ sym (as_said (sight_of new n))

upper : (x y : NodeId × Frame) (xs ys : List (NodeId × Frame)) → x ∷ xs ≡ y ∷ ys → xs ≡ ys
upper x y xs ys e = cc

-- a node whose subtree agrees, below an equal trail, is seen the same
seen_again : (old new : Trees) → IsPage old → IsPage new → (m : NodeId) → all_same old new (tree_keys old m) ≡ true → trail_at old (Some m) ≡ trail_at new (Some m) → sight_of old m ≡ sight_of new m
seen_again old new po pn m k way = by_spot (spot old m) refl
  where
    by_spot : (o : Option Spot) → spot old m ≡ o → sight_of old m ≡ sight_of new m
    by_spot None e = no_sight old m e ∙ sym (no_sight new m (not_there old new m e (node_parts old new m (keys_below old m) k).frame))
    by_spot (Some s) e =
        let z = tree_again old new po pn m s e k in
        let ways : trail (s.row ∷ s.above) ≡ trail (z.at.row ∷ z.at.above) = sym (found_trail old m s e) ∙ way ∙ found_trail new m z.at z.found in
        let above = same_above s.above z.at.above (upper (s.row.id, frame (above_of s.above) s.row) (z.at.row.id, frame (above_of z.at.above) z.at.row) (trail s.above) (trail z.at.above) ways) in
        spot_sight old m s e ∙ (λ i. Some (record { row = z.row i; below = z.below i; above = above i })) ∙ sym (spot_sight new m z.at z.found)

pub table_same : LooksAtPages table_sight table_keys
table_same old new po pn n k = by_table (table_of old n) refl ∙ ap (option_and_then (sight_of new)) (table_number old new po pn n both.0)
  where
    both : (all_same old new (self_keys old n) ≡ true) × (all_same old new (option_map_or (tree_keys old) (table_of old n) []) ≡ true)
    both = parts old new (self_keys old n) (option_map_or (tree_keys old) (table_of old n) []) k

    way : (m : NodeId) → table_of old n ≡ Some m → (o : Option Spot) → spot old n ≡ o → trail_at old (Some m) ≡ trail_at new (Some m)
    way m t None e = let none : table_of old n ≡ None = ap (option_and_then (λ s. table_in s.above)) (no_sight old n e) in let no : Some m ≡ None = sym t ∙ none in cc
    way m t (Some s) e =
        let climbs : ClimbsBy s.above old = rw e at (po.climbed.climbs n) in
        let here : table_in (above_of s.above) ≡ Some m = sym (ap (option_and_then (λ s. table_in s.above)) (spot_sight old n s e)) ∙ t in
        let keys : all_same old new (frames_of s.above) ≡ true =
        ap (λ o. all_same old new (option_map_or (λ (s : Spot). frames_of s.above) o [])) (sym e) ∙ (self_parts old new n both.0).above in
        table_way old new po.climbed pn.climbed s.above climbs keys m here

    by_table : (o : Option NodeId) → table_of old n ≡ o → option_and_then (sight_of old) (table_of old n) ≡ option_and_then (sight_of new) (table_of old n)
    by_table None t = ap (option_and_then (sight_of old)) t ∙ sym (ap (option_and_then (sight_of new)) t)
    by_table (Some m) t =
        let keys : all_same old new (tree_keys old m) ≡ true = ap (λ o. all_same old new (option_map_or (tree_keys old) o [])) (sym t) ∙ both.1 in
        ap (option_and_then (sight_of old)) t ∙ seen_again old new po pn m keys (way m t (spot old n) refl) ∙ sym (ap (option_and_then (sight_of new)) t)

-- ---- Title, Metas, Whole: what only the root looks at, or a `meta`

root_same : LooksAtPages is_root self_keys
root_same = said_same (λ above row. not (is_some row.parent)) false

meta_same : LooksAtPages is_meta self_keys
meta_same = said_same (λ above row. is_html (codes "meta") row) false

-- what is said where a test of the node holds, which the node itself tells
where_same : {A : Type 0} (test : Trees → NodeId → Bool) (keys : Trees → List Key) (says : Trees → NodeId → A) (else_says : A) → LooksAtPages test self_keys
    → ((old new : Trees) → IsPage old → IsPage new → (n : NodeId) → all_same old new (self_keys old n) ≡ true → test old n ≡ true → all_same old new (keys old) ≡ true → says old n ≡ says new n)
    → LooksAtPages (λ t n. if test t n then says t n else else_says) (λ t n. self_keys t n ++ (if test t n then keys t else []))
where_same test keys says else_says tests told old new po pn n k = by_test (test old n) refl
  where
    both : (all_same old new (self_keys old n) ≡ true) × (all_same old new (if test old n then keys old else []) ≡ true)
    both = parts old new (self_keys old n) (if test old n then keys old else []) k

    now : test old n ≡ test new n
    now = tests old new po pn n both.0

    by_test : (b : Bool) → test old n ≡ b → (if test old n then says old n else else_says) ≡ (if test new n then says new n else else_says)
    by_test false e = ap (λ b. if b then says old n else else_says) e ∙ sym (ap (λ b. if b then says new n else else_says) (sym now ∙ e))
    by_test true e =
        let here : all_same old new (keys old) ≡ true = ap (λ b. all_same old new (if b then keys old else [])) (sym e) ∙ both.1 in
        ap (λ b. if b then says old n else else_says) e ∙ told old new po pn n both.0 e here ∙ sym (ap (λ b. if b then says new n else else_says) (sym now ∙ e))

pub titles_same : LooksAtPages root_titles title_keys
titles_same = where_same is_root titles (λ t n. map (subtree t) (tagged t (codes "title"))) [] root_same each
  where
    each : (old new : Trees) → IsPage old → IsPage new → (n : NodeId) → all_same old new (self_keys old n) ≡ true → is_root old n ≡ true → all_same old new (titles old) ≡ true → map (subtree old) (tagged old (codes "title")) ≡ map (subtree new) (tagged new (codes "title"))
    each old new po pn n h r k =
        let which : tagged old (codes "title") ≡ tagged new (codes "title") = agree old new (tagged_key (codes "title")) (first_so (same old new (tagged_key (codes "title"))) _ k) in
        each_same (subtree old) (subtree new) old new (tree_keys old) (subtree_same old new po pn) (tagged old (codes "title")) (second_so (same old new (tagged_key (codes "title"))) _ k) ∙ ap (map (subtree new)) which

pub metas_same : LooksAtPages meta_owns metas_keys
metas_same = where_same is_meta metas (λ t n. map (own_at t) (tagged t (codes "meta"))) [] meta_same each
  where
    owns : (old new : Trees) (ms : List NodeId) → all_same old new (map own_key ms) ≡ true → map (own_at old) ms ≡ map (own_at new) ms
    owns old new [] k = refl
    owns old new (m ∷ ms) k =
        let one : own_at old m ≡ own_at new m = agree old new (own_key m) (first_so (same old new (own_key m)) _ k) in
        let more = owns old new ms (second_so (same old new (own_key m)) _ k) in
        λ i. one i ∷ more i

    each : (old new : Trees) → IsPage old → IsPage new → (n : NodeId) → all_same old new (self_keys old n) ≡ true → is_meta old n ≡ true → all_same old new (metas old) ≡ true → map (own_at old) (tagged old (codes "meta")) ≡ map (own_at new) (tagged new (codes "meta"))
    each old new po pn n h r k =
        let which : tagged old (codes "meta") ≡ tagged new (codes "meta") = agree old new (tagged_key (codes "meta")) (first_so (same old new (tagged_key (codes "meta"))) _ k) in
        owns old new (tagged old (codes "meta")) (second_so (same old new (tagged_key (codes "meta"))) _ k) ∙ ap (map (own_at new)) which

-- where a root is the other page's too, and pages agree on every node, they are equal
page_same : (old new : Trees) → IsPage old → IsPage new → (n : NodeId) → all_same old new (self_keys old n) ≡ true → is_root old n ≡ true → all_same old new (keys_in old) ≡ true → old ≡ new
page_same old new po pn n k r h = by_spot (spot old n) refl
  where
    f : same old new (frame_key n) ≡ true
    f = (self_parts old new n k).frame

    no_parent : (o : Option NodeId) → not (is_some o) ≡ true → o ≡ None
    no_parent None e = refl
    no_parent (Some m) e = cc

    by_spot : (o : Option Spot) → spot old n ≡ o → old ≡ new
    by_spot None e = let no : false ≡ true = sym (ap (λ o. option_map_or (λ (s : Sight). not (is_some s.row.parent)) o false) (no_sight old n e)) ∙ r in cc
    by_spot (Some s) e =
        let parentless = sym (ap (λ o. option_map_or (λ (s : Sight). not (is_some s.row.parent)) o false) (spot_sight old n s e)) ∙ r in
        let none : s.row.parent ≡ None = no_parent s.row.parent parentless in
        let z = also_there old new n s e f in
        let none_now : z.0.row.parent ≡ None = ap (λ (f : Frame). f.parent) (sym (frames_agree old new n s z.0 e z.1 f)) ∙ none in
        let roots : root_numbers old ≡ root_numbers new = root_of old po.one po.climbed n s e none ∙ sym (root_of new pn.one pn.climbed n z.0 z.1 none_now) in
        same_trees old new [] [] old new (all_stand old po.apart) (all_stand new pn.apart) roots h

pub whole_same : LooksAtPages page_at whole_keys
whole_same = where_same is_root keys_in (λ t n. t) empty root_same page_same

-- ---- Sub: what the references of a node find

pub sub_sight : LooksAtPages sight_of sub_keys
sub_sight old new po pn n k = sight_same old new po pn n (parts old new (node_keys old n) (reference_keys old n) k).0

-- pages agree on all that the references of a node and of those below it look at
pub referring : (old new : Trees) (n : NodeId) (s : Spot) → spot old n ≡ Some s → all_same old new (sub_keys old n) ≡ true
    → (all_same old new (references_of old s.above s.row) ≡ true) × (all_same old new (references_in old (s.row ∷ s.above) s.below) ≡ true)
referring old new n s e k =
    parts old new (references_of old s.above s.row) (references_in old (s.row ∷ s.above) s.below)
    (ap (λ o. all_same old new (option_map_or (λ (s : Spot). references_of old s.above s.row ++ references_in old (s.row ∷ s.above) s.below) o [])) (sym e)
    ∙ (parts old new (node_keys old n) (reference_keys old n) k).1)

-- what is said of a node by its row, where the references of the row say it
by_row : {A : Type 0} (f : Trees → Row → A) (stranger : A) → ((old new : Trees) → IsPage old → IsPage new → (s : Spot) → SameReferences old new s.above s.row → f old s.row ≡ f new s.row)
    → LooksAtPages (λ t n. option_map_or (λ s. f t s.row) (sight_of t n) stranger) sub_keys
by_row f stranger told old new po pn n k = by_spot (spot old n) refl
  where
    same_sight : sight_of old n ≡ sight_of new n
    same_sight = sub_sight old new po pn n k

    by_spot : (o : Option Spot) → spot old n ≡ o → option_map_or (λ s. f old s.row) (sight_of old n) stranger ≡ option_map_or (λ s. f new s.row) (sight_of new n) stranger
    by_spot None e =
        let none = no_sight old n e in
        ap (λ o. option_map_or (λ (s : Sight). f old s.row) o stranger) none ∙ sym (ap (λ o. option_map_or (λ (s : Sight). f new s.row) o stranger) (sym same_sight ∙ none))
    by_spot (Some s) e =
        let here = spot_sight old n s e in
        ap (λ o. option_map_or (λ (s : Sight). f old s.row) o stranger) here ∙ told old new po pn s (same_references old new s.above s.row (referring old new n s e k).0)
        ∙ sym (ap (λ o. option_map_or (λ (s : Sight). f new s.row) o stranger) (sym same_sight ∙ here))

pub words_same : LooksAtPages words_find sub_keys
words_same = by_row (λ t row. map (first_with_id t) (reference_words row)) [] (λ old new po pn s r. firsts_same old new (reference_words s.row) r.words)

pub labelled_same : LooksAtPages labelled_by sub_keys
labelled_same =
    by_row (λ t row. map (sight_of t) (found t (named_by aria.Labelledby row))) []
    (λ old new po pn s r. labelled_by_same (sight_of old) (sight_of new) old new po pn (λ m h. h) s.above s.row r)

pub label_sights_same : LooksAtPages labels_at sub_keys
label_sights_same old new po pn n k = by_spot (spot old n) refl
  where
    keys : (all_same old new (self_keys old n) ≡ true) × (all_same old new (tree_keys old n) ≡ true)
    keys = parts old new (self_keys old n) (tree_keys old n) (parts old new (node_keys old n) (reference_keys old n) k).0

    by_spot : (o : Option Spot) → spot old n ≡ o → labels_at old n ≡ labels_at new n
    by_spot None e =
        ap (λ o. map (sight_of old) (option_map_or (tree_labels old) o [])) e
        ∙ sym (ap (λ o. map (sight_of new) (option_map_or (tree_labels new) o [])) (not_there old new n e (self_parts old new n keys.0).frame))
    by_spot (Some s) e =
        let z = node_again old new po pn n s e keys.0 keys.1 in
        labels_same (sight_of old) (sight_of new) old new po pn (λ m h. h) n s z.at e z.found z.row z.way (same_references old new s.above s.row (referring old new n s e k).0)
