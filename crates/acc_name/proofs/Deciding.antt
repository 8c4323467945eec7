-- Each clause of names in the standard's own shape.
use Rattle.std.proofs.Common.{◌≡◌, ℕ, List, [], ◌∷◌, ◌++◌, map, filter, Bool, true, false, Option, Some, None, option_map, unwrap_or, refl, sym, ◌∙◌, ap}
use Rattle.std.proofs.lemmas.List.{append-nil, map-append}
use Rattle.std.proofs.lemmas.Str.{chars-nil}
use Rattle.std.specs.List.{find, flat_map, list_all}
use Rattle.std.specs.Char.{is_whitespace}
use Rattle.aria_tables.specs.declared.role.Role.{Role}
use Rattle.snap_tree.specs.declared.row.Body.{Body}
use Rattle.snap_tree.specs.declared.row.Body.TheVariants.{Element, Words}
use Rattle.snap_tree.specs.declared.row.NodeId.{NodeId}
use Rattle.snap_tree.specs.declared.row.Row.{Row}
use Rattle.snap_tree.specs.Trees.{Trees, empty, tree}
use Rattle.texts.specs.Words.{blank, spaced}
use Rattle.acc_tree.specs.declared.above.Above.{Above}
use Rattle.acc_tree.specs.declared.tags.Tag.{Tag}
use Rattle.acc_tree.specs.declared.tags.Tag.TheVariants as tag
use Rattle.acc_tree.specs.Frames.{under}
use Rattle.acc_tree.specs.Roles.{role_at}
use Rattle.acc_tree.specs.Sights.{Sight}
use Rattle.acc_tree.specs.Tags.{html_tag}
use Rattle.acc_name.specs.declared.hosts.CaptionKind.{CaptionKind}
use Rattle.acc_name.specs.declared.named.How.{How}
use Rattle.acc_name.specs.declared.named.How.TheVariants as how
use Rattle.acc_name.specs.Hosts.{caption_of, is_captioning}
use Rattle.acc_name.specs.Names.{Asked, Heard, untold, first_said, joined, placed, is_chosen, heard, value_of, by_body, by_clauses, is_select, is_input}
use Rattle.acc_name.specs.NameLaws.{roots_seen, nodes_seen, within, chosen_texts, children_texts, clauses, is_words, FirstDecides, FollowsOnce, TextSaysItself, ChildrenInOrder, ValuesWithin}
use Rattle.acc_name.proofs.Hearing.{joined-assoc, all_joined, spaced_joined}

-- ---- what trees say is what each of their nodes says

content_of_roots : (asked : Asked) (above : Above) (kind : Option CaptionKind) (t : Trees)
    → (heard asked above kind t).content ≡ flat_map (λ s. placed s.row (within asked s)) (roots_seen above t)
content_of_roots asked above kind empty = refl
content_of_roots asked above kind (tree row kids after) =
    ap (λ rest. placed row (within asked (record { row = row; below = kids; above = above })) ++ rest) (content_of_roots asked above kind after)

caption_of_roots : (asked : Asked) (above : Above) (kind : Option CaptionKind) (t : Trees)
    → (heard asked above kind t).caption ≡ option_map (within asked) (find (λ s. is_captioning kind s.row) (roots_seen above t))
caption_of_roots asked above kind empty = refl
caption_of_roots asked above kind (tree row kids after) = by_kind (is_captioning kind row) refl (caption_of_roots asked above kind after)
  where
    by_kind : (b : Bool) → is_captioning kind row ≡ b
        → (heard asked above kind after).caption ≡ option_map (within asked) (find (λ s. is_captioning kind s.row) (roots_seen above after))
        → (heard asked above kind (tree row kids after)).caption ≡ option_map (within asked) (find (λ s. is_captioning kind s.row) (roots_seen above (tree row kids after)))
    by_kind true e h = rw e refl
    by_kind false e h = rw e h

all_joined-append : (a b : List (List ℕ)) → all_joined (a ++ b) ≡ joined (all_joined a) (all_joined b)
all_joined-append [] b = refl
all_joined-append (t ∷ a) b = ap (joined (Some t)) (all_joined-append a b) ∙ sym (joined-assoc (Some t) (all_joined a) (all_joined b))

filter-append : {A : Type 0} (p : A → Bool) (a b : List A) → filter p (a ++ b) ≡ filter p a ++ filter p b
filter-append p [] b = refl
filter-append p (x ∷ a) b = by_test (p x) refl (filter-append p a b)
  where
    by_test : (t : Bool) → p x ≡ t → filter p (a ++ b) ≡ filter p a ++ filter p b → filter p (x ∷ a ++ b) ≡ filter p (x ∷ a) ++ filter p b
    by_test true e h = rw e (ap (λ ys. x ∷ ys) h)
    by_test false e h = rw e h

abbrev chosen_in : Asked → List Sight → List (List ℕ)
chosen_in asked nodes = map (within asked) (filter (λ s. is_chosen s.row) nodes)

chosen_in-append : (asked : Asked) (a b : List Sight) → all_joined (chosen_in asked (a ++ b)) ≡ joined (all_joined (chosen_in asked a)) (all_joined (chosen_in asked b))
chosen_in-append asked a b =
    ap (λ nodes. all_joined (map (within asked) nodes)) (filter-append (λ s. is_chosen s.row) a b)
    ∙ ap all_joined (map-append (within asked) (filter (λ s. is_chosen s.row) a) (filter (λ s. is_chosen s.row) b))
    ∙ all_joined-append (chosen_in asked a) (chosen_in asked b)

chosen_of_nodes : (asked : Asked) (above : Above) (kind : Option CaptionKind) (t : Trees)
    → (heard asked above kind t).chosen ≡ all_joined (chosen_in asked (nodes_seen above t))
chosen_of_nodes asked above kind empty = refl
chosen_of_nodes asked above kind (tree row kids after) =
    by_row (is_chosen row) refl (chosen_of_nodes asked (under above row) (caption_of row) kids) (chosen_of_nodes asked above kind after)
  where
    by_row : (b : Bool) → is_chosen row ≡ b
        → (heard asked (under above row) (caption_of row) kids).chosen ≡ all_joined (chosen_in asked (nodes_seen (under above row) kids))
        → (heard asked above kind after).chosen ≡ all_joined (chosen_in asked (nodes_seen above after))
        → (heard asked above kind (tree row kids after)).chosen ≡ all_joined (chosen_in asked (nodes_seen above (tree row kids after)))
    by_row true e below later =
        let own = Some (within asked (record { row = row; below = kids; above = above })) in
        let chosen_below = all_joined (chosen_in asked (nodes_seen (under above row) kids)) in
        let chosen_later = all_joined (chosen_in asked (nodes_seen above after)) in
        rw e (rw (below, later, chosen_in-append asked (nodes_seen (under above row) kids) (nodes_seen above after)) (joined-assoc own chosen_below chosen_later))
    by_row false e below later = rw e (rw (below, later, chosen_in-append asked (nodes_seen (under above row) kids) (nodes_seen above after)) refl)

-- ---- an element's clauses

value_same : (h : How) (role : Option Role) (row : Row) (chosen : Option (List ℕ)) → value_of h role row chosen ≡ value_of h role row (Some (unwrap_or chosen []))
value_same how.Own role row chosen = refl
value_same how.Referred role row chosen = refl
value_same how.Inner role row None = refl
value_same how.Inner role row (Some text) = refl

value_is : (asked : Asked) (h : How) (s : Sight)
    → value_of h (role_at s.above s.row) s.row (heard asked (under s.above s.row) (caption_of s.row) s.below).chosen
    ≡ value_of h (role_at s.above s.row) s.row (Some (spaced (chosen_texts asked s)))
value_is asked h s =
    value_same h (role_at s.above s.row) s.row (heard asked (under s.above s.row) (caption_of s.row) s.below).chosen
    ∙ ap (λ chosen. value_of h (role_at s.above s.row) s.row (Some (unwrap_or chosen []))) (chosen_of_nodes asked (under s.above s.row) (caption_of s.row) s.below)
    ∙ ap (λ text. value_of h (role_at s.above s.row) s.row (Some text)) (spaced_joined (chosen_texts asked s))

clauses_are : (asked : Asked) (h : How) (s : Sight)
    → by_clauses (asked.told s) h (role_at s.above s.row) s.row (heard asked (under s.above s.row) (caption_of s.row) s.below) ≡ first_said (clauses asked h s)
clauses_are asked h s =
    rw (value_is asked h s, caption_of_roots asked (under s.above s.row) (caption_of s.row) s.below, content_of_roots asked (under s.above s.row) (caption_of s.row) s.below) refl

by_element : (asked : Asked) (h : How) (s : Sight) (inner : Heard) (body : Body)
    → is_words body ≡ false → by_body (asked.told s) h (role_at s.above s.row) s.row inner body ≡ by_clauses (asked.told s) h (role_at s.above s.row) s.row inner
by_element asked h s inner (Element space tag attrs) e = refl
by_element asked h s inner (Words text) e = cc

pub first_decides : (asked : Asked) (h : How) (s : Sight) → FirstDecides asked h s
first_decides asked h s element speaks =
    rw speaks (by_element asked h s (heard asked (under s.above s.row) (caption_of s.row) s.below) s.row.body element ∙ clauses_are asked h s)

blank-nil : blank [] ≡ true
blank-nil = ap (list_all is_whitespace) chars-nil

pub follows_once : (node : NodeId) (hidden : Bool) (h : How) (s : Sight) → FollowsOnce node hidden h s
follows_once node hidden h s element speaks =
    let asked : Asked = record { node = node; hidden = hidden; told = untold } in
    first_decides asked h s element speaks ∙ rw (blank-nil, append-nil (children_texts asked s)) refl

pub text_says_itself : (asked : Asked) (h : How) (s : Sight) → TextSaysItself asked h s
text_says_itself asked h s text is speaks = rw (speaks, is) refl

pub children_in_order : (asked : Asked) (s : Sight) → ChildrenInOrder asked s
children_in_order asked s = content_of_roots asked (under s.above s.row) (caption_of s.row) s.below

select_is_no_input : (t : Option Tag) → is_select t ≡ true → is_input t ≡ false
select_is_no_input (Some tag.Input) e = cc
select_is_no_input _ e = refl

pub values_within : (asked : Asked) (s : Sight) → ValuesWithin asked s
values_within asked s = record {
  own = refl;
  referred = refl;
  input = λ input entry. rw (input, entry) refl;
  select = λ select. rw (select_is_no_input (html_tag s.row) select, select) refl;
  range = λ no_entry no_select range. rw (no_entry, no_select, range) refl;
}
