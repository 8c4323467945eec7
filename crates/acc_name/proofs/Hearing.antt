-- What trees say is put together from the left.
use Rattle.std.proofs.Common.{◌≡◌, ℕ, List, [], ◌∷◌, ◌++◌, ◌+◌, ◌<◌, ◌≤◌, ◌&&◌, ◌||◌, Bool, true, false, if◌then◌else◌, length, take, get_or, map, Option, Some, None, IsUtf8, unwrap_or, refl, sym, ◌∙◌, ap, subst, append_assoc}
use Rattle.std.proofs.Math.Bool.{or-true}
use Rattle.std.proofs.lemmas.List.{map-append, take_all, take_more}
use Rattle.std.specs.Option.{option_or}
use Rattle.aria_tables.specs.declared.role.Role.{Role}
use Rattle.snap_tree.specs.declared.row.Body.{Body}
use Rattle.snap_tree.specs.declared.row.Body.TheVariants.{Element, Words}
use Rattle.snap_tree.specs.declared.row.NodeId.{NodeId}
use Rattle.snap_tree.specs.declared.row.Row.{Row}
use Rattle.snap_tree.specs.Trees.{Trees, empty, tree}
use Rattle.texts.specs.Words.{blank, spaced}
use Rattle.acc_tree.specs.declared.above.Above.{Above}
use Rattle.acc_tree.specs.Frames.{under}
use Rattle.acc_tree.specs.Roles.{role_at}
use Rattle.acc_tree.specs.Tags.{html_tag}
use Rattle.acc_name.specs.declared.captions.Caption.{Caption}
use Rattle.acc_name.specs.declared.captions.Caption.TheVariants as caption
use Rattle.acc_name.specs.declared.heard.Aside.{Aside}
use Rattle.acc_name.specs.declared.named.How.{How}
use Rattle.acc_name.specs.declared.named.How.TheVariants as how
use Rattle.acc_name.specs.declared.told.Told.{Told}
use Rattle.acc_name.specs.declared.told.Wanted.{Wanted}
use Rattle.acc_name.specs.Captions.{captioning, weighed, caption_or, kept, caption_kept}
use Rattle.acc_name.specs.Hosts.{caption_of, is_captioning}
use Rattle.acc_name.specs.Names.{Asked, Heard, joined, heard, said, is_silent, no_name, by_body, value_of, control_text, is_select, is_chosen, placed}
use Rattle.acc_name.specs.Placing.{place_at, gap_before, settled}
use Rattle.acc_name.specs.Voices.{text_in, asked_for, shown}
use Rattle.acc_name.proofs.Keeping.{Keeps, clauses_kept, keeps-step, keeps-start, keeps-end}
use Rattle.acc_name.proofs.Marks.{utf8_behind}

-- ---- texts with a space between

pub joined-assoc : (a b c : Option (List ℕ)) → joined (joined a b) c ≡ joined a (joined b c)
joined-assoc None b c = refl
joined-assoc (Some a) None c = refl
joined-assoc (Some a) (Some b) None = refl
joined-assoc (Some a) (Some b) (Some c) = ap Some (append_assoc a (32 ∷ b) (32 ∷ c))

pub joined-none : (a : Option (List ℕ)) → joined a None ≡ a
joined-none None = refl
joined-none (Some a) = refl

abbrev pub all_joined : List (List ℕ) → Option (List ℕ)
all_joined [] = None
all_joined (text ∷ texts) = joined (Some text) (all_joined texts)

pub all_joined-push : (texts : List (List ℕ)) (text : List ℕ) → all_joined (texts ++ text ∷ []) ≡ joined (all_joined texts) (Some text)
all_joined-push [] text = refl
all_joined-push (t ∷ texts) text =
    ap (joined (Some t)) (all_joined-push texts text) ∙ sym (joined-assoc (Some t) (all_joined texts) (Some text))

pub spaced_joined : (texts : List (List ℕ)) → unwrap_or (all_joined texts) [] ≡ spaced texts
spaced_joined [] = refl
spaced_joined (t ∷ []) = refl
spaced_joined (t ∷ u ∷ texts) = by_later (all_joined texts) (spaced_joined (u ∷ texts))
  where
    by_later : (o : Option (List ℕ)) → unwrap_or (joined (Some u) o) [] ≡ spaced (u ∷ texts) → unwrap_or (joined (Some t) (joined (Some u) o)) [] ≡ t ++ 32 ∷ spaced (u ∷ texts)
    by_later None e = ap (λ x. t ++ 32 ∷ x) e
    by_later (Some v) e = ap (λ x. t ++ 32 ∷ x) e

-- a further one of those that are to come
pub joined-step : {A : Type 0} (says : A → List ℕ) (first now : Option (List ℕ)) (all later : List A) (x : A)
    → now ≡ joined first (Some (says x)) → all ≡ x ∷ later → joined now (all_joined (map says later)) ≡ joined first (all_joined (map says all))
joined-step says first now all later x is are =
    ap (λ t. joined t (all_joined (map says later))) is ∙ joined-assoc first (Some (says x)) (all_joined (map says later))
    ∙ sym (ap (λ xs. joined first (all_joined (map says xs))) are)

-- none is to come
pub joined-end : {A : Type 0} (says : A → List ℕ) (now : Option (List ℕ)) (rest all : List A)
    → rest ≡ [] → joined now (all_joined (map says rest)) ≡ all_joined (map says all) → unwrap_or now [] ≡ spaced (map says all)
joined-end says now rest all none is =
    ap (λ t. unwrap_or t []) (sym (joined-none now) ∙ sym (ap (λ xs. joined now (all_joined (map says xs))) none) ∙ is)
    ∙ spaced_joined (map says all)

-- one more of a list
pub joined-more : {A : Type 0} (says : A → List ℕ) (xs : List A) (i : ℕ) (d : A) (first now : Option (List ℕ))
    → i < length xs → first ≡ all_joined (map says (take i xs)) → now ≡ joined first (Some (says (get_or xs i d))) → now ≡ all_joined (map says (take (i + 1) xs))
joined-more says xs i d first now within so_far is =
    let x = get_or xs i d in
    is ∙ ap (λ t. joined t (Some (says x))) so_far ∙ sym (all_joined-push (map says (take i xs)) (says x))
    ∙ ap all_joined (sym (map-append says (take i xs) (x ∷ []))) ∙ sym (ap (λ ys. all_joined (map says ys)) (take_more xs i d within))

-- all of a list
pub joined-all : {A : Type 0} (says : A → List ℕ) (xs : List A) (i : ℕ) (now : Option (List ℕ))
    → length xs ≤ i → now ≡ all_joined (map says (take i xs)) → unwrap_or now [] ≡ spaced (map says xs)
joined-all says xs i now past so_far =
    ap (λ t. unwrap_or t []) so_far ∙ spaced_joined (map says (take i xs)) ∙ ap (λ ys. spaced (map says ys)) (take_all i xs past)

-- ---- what trees say

caption_or-assoc : (a b c : Caption) → caption_or (caption_or a b) c ≡ caption_or a (caption_or b c)
caption_or-assoc caption.Absent b c = refl
caption_or-assoc caption.Blank b c = refl
caption_or-assoc caption.Said b c = refl

caption_or-absent : (a : Caption) → caption_or a caption.Absent ≡ a
caption_or-absent caption.Absent = refl
caption_or-absent caption.Blank = refl
caption_or-absent caption.Said = refl

weighed-or : (a b : Option (List ℕ)) → weighed (option_or a b) ≡ caption_or (weighed a) (weighed b)
weighed-or None b = refl
weighed-or (Some a) b = by_test (blank a)
  where
    by_test : (t : Bool) → (if t then caption.Blank else caption.Said) ≡ caption_or (if t then caption.Blank else caption.Said) (weighed b)
    by_test true = refl
    by_test false = refl

weighed-captioning : (captions : Bool) (text : List ℕ) → weighed (if captions then Some text else None) ≡ captioning captions (blank text)
weighed-captioning true text = refl
weighed-captioning false text = refl

-- no root captions a node that isn't captioned
uncaptioned : (asked : Asked) (above : Above) (trees : Trees) → (heard asked above None trees).caption ≡ None
uncaptioned asked above empty = refl
uncaptioned asked above (tree row kids after) = uncaptioned asked above after

-- what a node says is the same if the chosen options are told only where they are asked for: it asks for
-- them itself if it is a select
value_asked : (h : How) (role : Option Role) (row : Row) (asks : Bool) (chosen : Option (List ℕ))
    → value_of h role row (asked_for (asks || is_select (html_tag row)) chosen) ≡ value_of h role row chosen
value_asked how.Own role row asks chosen = refl
value_asked how.Referred role row asks chosen = refl
value_asked how.Inner role row asks chosen = by_select (is_select (html_tag row)) refl
  where
    by_select : (b : Bool) → is_select (html_tag row) ≡ b → control_text role row (asked_for (asks || is_select (html_tag row)) chosen) ≡ control_text role row chosen
    by_select true e = ap (λ b. control_text role row (asked_for b chosen)) (ap (λ b. asks || b) e ∙ or-true asks)
    by_select false e = rw e refl

said_asked : (node : NodeId) (hidden : Bool) (told : Told) (h : How) (role : Option Role) (row : Row) (asks : Bool) (inner : Heard)
    → said node hidden told h role row (shown inner.content (asked_for (asks || is_select (html_tag row)) inner.chosen) inner.caption) ≡ said node hidden told h role row inner
said_asked node hidden told h role row asks inner = by_body_of row.body
  where
    by_body_of : (body : Body)
        → (if is_silent node hidden h row then no_name else by_body told h role row (shown inner.content (asked_for (asks || is_select (html_tag row)) inner.chosen) inner.caption) body)
        ≡ (if is_silent node hidden h row then no_name else by_body told h role row inner body)
    by_body_of (Element space tag attrs) = rw (value_asked h role row asks inner.chosen) refl
    by_body_of (Words text) = refl

said_kept : (node : NodeId) (hidden : Bool) (told : Told) (h : How) (role : Option Role) (row : Row) (chosen : Option (List ℕ)) (inner : Heard)
    → (caption_of row ≡ None → inner.caption ≡ None)
    → said node hidden told h role row (shown (kept inner) chosen (caption_kept (weighed inner.caption) (kept inner))) ≡ said node hidden told h role row (shown inner.content chosen inner.caption)
said_kept node hidden told h role row chosen inner none = by_body_of row.body
  where
    by_body_of : (body : Body)
        → (if is_silent node hidden h row then no_name else by_body told h role row (shown (kept inner) chosen (caption_kept (weighed inner.caption) (kept inner))) body)
        ≡ (if is_silent node hidden h row then no_name else by_body told h role row (shown inner.content chosen inner.caption) body)
    by_body_of (Element space tag attrs) = ap (λ name. if is_silent node hidden h row then no_name else name) (clauses_kept told h role row inner.content chosen inner.caption none)
    by_body_of (Words text) = refl

-- what a node says, of what is held of those below it
said_held : (node : NodeId) (hidden : Bool) (told : Told) (h : How) (role : Option Role) (row : Row) (asks : Bool)
    (text : List ℕ) (chosen : Option (List ℕ)) (c : Caption) (inner : Heard) → (caption_of row ≡ None → inner.caption ≡ None)
    → text ≡ kept inner → chosen ≡ asked_for (asks || is_select (html_tag row)) inner.chosen → c ≡ weighed inner.caption
    → said node hidden told h role row (shown text chosen (caption_kept c text)) ≡ said node hidden told h role row inner
said_held node hidden told h role row asks text chosen c inner none text_is chosen_is caption_is =
    ap (λ t. said node hidden told h role row (shown t chosen (caption_kept c t))) text_is
    ∙ ap (λ o. said node hidden told h role row (shown (kept inner) o (caption_kept c (kept inner)))) chosen_is
    ∙ ap (λ o. said node hidden told h role row (shown (kept inner) (asked_for (asks || is_select (html_tag row)) inner.chosen) (caption_kept o (kept inner)))) caption_is
    ∙ said_kept node hidden told h role row (asked_for (asks || is_select (html_tag row)) inner.chosen) inner none
    ∙ said_asked node hidden told h role row asks inner

-- .. and of those that are heard below it
pub says_heard : (asked : Asked) (told : Told) (h : How) (role : Option Role) (above : Above) (row : Row) (kids : Trees) (asks : Bool)
    (text : List ℕ) (chosen : Option (List ℕ)) (c : Caption) → (let inner = heard asked (under above row) (caption_of row) kids in
    text ≡ kept inner → chosen ≡ asked_for (asks || is_select (html_tag row)) inner.chosen → c ≡ weighed inner.caption
    → said asked.node asked.hidden told h role row (shown text chosen (caption_kept c text)) ≡ said asked.node asked.hidden told h role row inner)
says_heard asked told h role above row kids asks text chosen c text_is chosen_is caption_is =
    said_held asked.node asked.hidden told h role row asks text chosen c (heard asked (under above row) (caption_of row) kids)
    (λ none. ap (λ kind. (heard asked (under above row) kind kids).caption) none ∙ uncaptioned asked (under above row) kids) text_is chosen_is caption_is

-- what was said before some trees, with what they say, is what all of them say
pub record Remains (asked : Asked) (above : Above) (wanted : Wanted) (start written : List ℕ) (so_far : Aside) (rest all : Trees) : Type 0 where
  pub kept : Keeps start written so_far.caption so_far.is_blank (heard asked above wanted.caption rest).content (heard asked above wanted.caption rest).caption (kept (heard asked above wanted.caption all))
  pub chosen : joined (text_in so_far.chosen) (asked_for wanted.chosen (heard asked above wanted.caption rest).chosen) ≡ asked_for wanted.chosen (heard asked above wanted.caption all).chosen
  pub caption : caption_or so_far.caption (weighed (heard asked above wanted.caption rest).caption) ≡ weighed (heard asked above wanted.caption all).caption

chosen-step : (asks select : Bool) (first own below later all now : Option (List ℕ))
    → joined first (asked_for asks (joined (joined own below) later)) ≡ asked_for asks all
    → now ≡ asked_for asks (joined first (joined own (asked_for (asks || select) below)))
    → joined now (asked_for asks later) ≡ asked_for asks all
chosen-step true select first own below later all now is next = ap (λ t. joined t later) next ∙ joined-assoc first (joined own below) later ∙ is
chosen-step false select first own below later all now is next = ap (λ t. joined t None) next

-- one tree more
pub remains-step : (asked : Asked) (above : Above) (wanted : Wanted) (start before now text : List ℕ) (so_far next : Aside) (row : Row) (kids later all : Trees) (below : Option (List ℕ))
    → Remains asked above wanted start before so_far (tree row kids later) all
    → text ≡ (said asked.node asked.hidden (asked.told (record { row = row; below = kids; above = above })) how.Inner (role_at above row) row (heard asked (under above row) (caption_of row) kids)).text
    → IsUtf8 start → IsUtf8 before → IsUtf8 text
    → below ≡ asked_for (wanted.chosen || is_select (html_tag row)) (heard asked (under above row) (caption_of row) kids).chosen
    → now ≡ settled (place_at so_far.caption (is_captioning wanted.caption row)) (length start) row (before ++ gap_before (place_at so_far.caption (is_captioning wanted.caption row)) row) text
    → text_in next.chosen ≡ asked_for wanted.chosen (joined (text_in so_far.chosen) (joined (if is_chosen row then Some text else None) below))
    → next.caption ≡ caption_or so_far.caption (captioning (is_captioning wanted.caption row) (blank text))
    → next.is_blank ≡ (so_far.is_blank && blank text)
    → Remains asked above wanted start now next later all
remains-step asked above wanted start before now text so_far next row kids later all below is text_is start_is before_is utf8 below_is now_is chosen_is caption_is blank_is =
    let inner = heard asked (under above row) (caption_of row) kids in
    let rest = heard asked above wanted.caption later in
    let whole = kept (heard asked above wanted.caption all) in
    let captions = is_captioning wanted.caption row in
    let own : Option (List ℕ) = if is_chosen row then Some text else None in
    let chosen_here : (heard asked above wanted.caption (tree row kids later)).chosen ≡ joined (joined own inner.chosen) rest.chosen =
    ap (λ t. joined (joined (if is_chosen row then Some t else None) inner.chosen) rest.chosen) (sym text_is) in
    let captioned : Option (List ℕ) = if captions then Some text else None in
    let caption_here : (heard asked above wanted.caption (tree row kids later)).caption ≡ option_or captioned rest.caption =
    ap (λ t. option_or (if captions then Some t else None) rest.caption) (sym text_is) in
    let keeps =
    subst (λ (t : List ℕ). Keeps start before so_far.caption so_far.is_blank (placed row t ++ rest.content) (option_or (if captions then Some t else None) rest.caption) whole) (sym text_is) is.kept in
    let step = keeps-step row start before now text rest.content rest.caption whole so_far.caption so_far.is_blank captions keeps (utf8_behind start keeps.so_far before start_is before_is keeps.stands) utf8 now_is in
    record {
      kept =
          subst (λ (b : Bool). Keeps start now next.caption b rest.content rest.caption whole) (sym blank_is)
          (subst (λ (c : Caption). Keeps start now c (so_far.is_blank && blank text) rest.content rest.caption whole) (sym caption_is) step);
      chosen = chosen-step wanted.chosen (is_select (html_tag row)) (text_in so_far.chosen) own inner.chosen rest.chosen (heard asked above wanted.caption all).chosen (text_in next.chosen)
          (sym (ap (λ t. joined (text_in so_far.chosen) (asked_for wanted.chosen t)) chosen_here) ∙ is.chosen)
          (chosen_is ∙ ap (λ t. asked_for wanted.chosen (joined (text_in so_far.chosen) (joined own t))) below_is);
      caption =
          ap (λ c. caption_or c (weighed rest.caption)) (caption_is ∙ sym (ap (caption_or so_far.caption) (weighed-captioning captions text)))
          ∙ caption_or-assoc so_far.caption (weighed captioned) (weighed rest.caption)
          ∙ sym (ap (caption_or so_far.caption) (weighed-or captioned rest.caption))
          ∙ sym (ap (λ t. caption_or so_far.caption (weighed t)) caption_here) ∙ is.caption;
    }

-- nothing is said before the first tree
pub remains-start : (asked : Asked) (above : Above) (wanted : Wanted) (start : List ℕ) (so_far : Aside) (all : Trees)
    → so_far.chosen ≡ None → so_far.caption ≡ caption.Absent → so_far.is_blank ≡ true → Remains asked above wanted start start so_far all all
remains-start asked above wanted start so_far all chosen absent is_blank = record {
  kept = keeps-start start (heard asked above wanted.caption all).content (heard asked above wanted.caption all).caption so_far.caption so_far.is_blank absent is_blank;
  chosen = ap (λ t. joined (text_in t) (asked_for wanted.chosen (heard asked above wanted.caption all).chosen)) chosen;
  caption = ap (λ c. caption_or c (weighed (heard asked above wanted.caption all).caption)) absent;
}

-- no tree is left
pub record ToldAll (all : Heard) (asks : Bool) (start written : List ℕ) (so_far : Aside) : Type 0 where
  pub content : written ≡ start ++ kept all
  pub chosen : text_in so_far.chosen ≡ asked_for asks all.chosen
  pub caption : so_far.caption ≡ weighed all.caption
  pub blank : so_far.is_blank ≡ blank (kept all)

asked-none : (asks : Bool) → asked_for asks None ≡ None
asked-none true = refl
asked-none false = refl

pub remains-end : (asked : Asked) (above : Above) (wanted : Wanted) (start content : List ℕ) (so_far : Aside) (rest all : Trees)
    → rest ≡ empty → Remains asked above wanted start content so_far rest all → ToldAll (heard asked above wanted.caption all) wanted.chosen start content so_far
remains-end asked above wanted start content so_far rest all none is =
    let at = subst (λ (t : Trees). Remains asked above wanted start content so_far t all) none is in
    let ends = keeps-end start content (kept (heard asked above wanted.caption all)) so_far.caption so_far.is_blank at.kept in
    record {
      content = ends.0;
      chosen = sym (joined-none (text_in so_far.chosen)) ∙ sym (ap (joined (text_in so_far.chosen)) (asked-none wanted.chosen)) ∙ at.chosen;
      caption = sym (caption_or-absent so_far.caption) ∙ at.caption;
      blank = ends.1;
    }
