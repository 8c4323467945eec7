-- A node that asks nobody below it says by itself what it says of its own name.
use Rattle.std.proofs.Common.{◌≡◌, ◌||◌, ℕ, List, [], ◌++◌, Bool, true, false, if◌then◌else◌, Option, Some, None, option_map, refl, sym, ◌∙◌, ap}
use Rattle.std.specs.Option.{option_map_or, is_some}
use Rattle.aria_tables.specs.declared.role.Role.{Role}
use Rattle.snap_tree.specs.declared.row.Body.{Body}
use Rattle.snap_tree.specs.declared.row.Body.TheVariants.{Element, Words}
use Rattle.snap_tree.specs.declared.row.NodeId.{NodeId}
use Rattle.snap_tree.specs.declared.row.Row.{Row}
use Rattle.snap_tree.specs.Trees.{Trees}
use Rattle.texts.specs.Words.{cut, spaced, tidy}
use Rattle.std.proofs.lemmas.Str.{chars-nil}
use Rattle.acc_tree.specs.Frames.{under}
use Rattle.acc_tree.specs.Pages.{role}
use Rattle.acc_tree.specs.Roles.{role_at}
use Rattle.acc_tree.specs.Sights.{Sight, sight_of, row_of}
use Rattle.acc_name.specs.declared.hosts.CaptionKind.{CaptionKind}
use Rattle.acc_name.specs.declared.hosts.Host.{Host}
use Rattle.acc_name.specs.declared.hosts.Host.TheVariants as host
use Rattle.acc_name.specs.declared.named.How.{How}
use Rattle.acc_name.specs.declared.named.How.TheVariants as how
use Rattle.acc_name.specs.declared.named.Name.{Name}
use Rattle.acc_name.specs.declared.told.Told.{Told}
use Rattle.acc_name.specs.Hosts.{host_of, host_text, caption_in, caption_of}
use Rattle.acc_name.specs.Names.{Asked, Heard, no_name, nothing_heard, heard, spoken, said, is_silent, by_body, value_of, asks_content, content_of, told_of, told_by, own_text, named}
use Rattle.acc_name.specs.NameLaws.{StrangerHasNone}
use Rattle.acc_name.specs.Voices.{labelled_of}

-- ---- what needn't be heard

unheard_host : (h : Host) (row : Row) (a b : Option (List ℕ)) → caption_in h ≡ None → host_text h row a ≡ host_text h row b
unheard_host host.Alternative row a b none = refl
unheard_host host.Submit row a b none = refl
unheard_host host.Reset row a b none = refl
unheard_host host.Plain row a b none = refl
unheard_host host.Group row a b none = refl
unheard_host (host.Captioned kind) row a b none = cc
unheard_host host.Nothing row a b none = refl

unheard_content : (how : How) (role : Option Role) (a b : List ℕ) → asks_content how role ≡ false → content_of how role a ≡ content_of how role b
unheard_content how role a b unasked = rw unasked refl

unheard_value : (h : How) (role : Option Role) (row : Row) (a b : Option (List ℕ)) → asks_content h role ≡ false → value_of h role row a ≡ value_of h role row b
unheard_value how.Own role row a b unasked = refl
unheard_value how.Referred role row a b unasked = cc
unheard_value how.Inner role row a b unasked = cc

-- what a node says that asks nobody below it, nor anybody that it owns besides
pub unheard : (node : NodeId) (hidden : Bool) (told : Told) (owned : List ℕ) (h : How) (role : Option Role) (row : Row) (a b : Heard)
    → asks_content h role ≡ false → caption_of row ≡ None → said node hidden (record told { owned = owned }) h role row a ≡ said node hidden told h role row b
unheard node hidden told owned h role row a b unasked none = by_body_of row.body
  where
    by_body_of : (body : Body) → (if is_silent node hidden h row then no_name else by_body (record told { owned = owned }) h role row a body) ≡ (if is_silent node hidden h row then no_name else by_body told h role row b body)
    by_body_of (Element space tag attrs) =
        rw (unheard_value h role row a.chosen b.chosen unasked, unheard_host (host_of row) row a.caption b.caption none, unheard_content h role (a.content ++ owned) (b.content ++ told.owned) unasked) refl
    by_body_of (Words text) = refl

neither : (a b : Bool) → (a || b) ≡ false → (a ≡ false) × (b ≡ false)
neither true b h = (h, cc)
neither false b h = (refl, h)

none_there : (o : Option CaptionKind) → is_some o ≡ false → o ≡ None
none_there None h = refl
none_there (Some kind) h = cc

-- ---- a node's own text

at_sight : (t : Trees) (n : NodeId) (row : Row) (r : Option Role) (s : Sight) → sight_of t n ≡ Some s → row ≡ s.row → r ≡ role t n
    → (asks_content how.Own r || is_some (caption_of row)) ≡ false → said n false (labelled_of t n row) how.Own r row nothing_heard ≡ own_text t n
at_sight t n row r s is row_is role_is quiet =
    let asked : Asked = record { node = n; hidden = false; told = told_by t n false } in
    let below = heard asked (under s.above s.row) (caption_of s.row) s.below in
    let here : r ≡ role_at s.above s.row = role_is ∙ ap (λ o. option_map_or (λ at. role_at at.above at.row) o None) is in
    unheard n false (told_of t n false row) [] how.Own r row nothing_heard below (neither _ _ quiet).0 (none_there _ (neither _ _ quiet).1)
    ∙ ap (λ x. said n false (told_of t n false x) how.Own r x below) row_is
    ∙ ap (λ x. said n false (told_of t n false s.row) how.Own x s.row below) here
    ∙ sym (ap (λ o. option_map_or (spoken asked how.Own) o no_name) is)

pub own_alone : (t : Trees) (n : NodeId) (row : Row) (r : Option Role) → Some row ≡ row_of t n → r ≡ role t n
    → (asks_content how.Own r || is_some (caption_of row)) ≡ false → said n false (labelled_of t n row) how.Own r row nothing_heard ≡ own_text t n
own_alone t n row r is role_is quiet = by_sight (sight_of t n) refl is
  where
    by_sight : (o : Option Sight) → sight_of t n ≡ o → Some row ≡ option_map (λ s. s.row) o → said n false (labelled_of t n row) how.Own r row nothing_heard ≡ own_text t n
    by_sight None e h = cc
    by_sight (Some s) e h = let same : row ≡ s.row = cc in at_sight t n row r s e same role_is quiet

tidy-nil : tidy [] ≡ []
tidy-nil = ap (λ cs. spaced (cut [] cs)) chars-nil

-- a stranger has no name
pub stranger : (t : Trees) (n : NodeId) → StrangerHasNone t n
stranger t n none =
    ap (λ o. let own : Name = option_map_or (spoken (record { node = n; hidden = false; told = told_by t n false }) how.Own) o no_name in named own.source (tidy own.text)) none ∙ rw tidy-nil refl
