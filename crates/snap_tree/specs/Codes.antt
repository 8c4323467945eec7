-- How a page is stored as numbers and lists, by which a proof tells pages apart.
use Rattle.std.specs.Prelude.{◌≡◌, ℕ, zero, suc, List, [], ◌∷◌, ◌++◌, Bool, Option, Some, None, refl}
use Rattle.std.specs.Coded.{Coded, code_by, coded×, coded⊎, coded_ℕ, coded_bool, coded_list, coded_option}
use Rattle.std.proofs.Common.{inl, inr, ◌⊎◌, ap, ◌∙◌}
use Rattle.snap_tree.specs.declared.row.NodeId.{NodeId}
use Rattle.snap_tree.specs.declared.row.Space.{Space}
use Rattle.snap_tree.specs.declared.row.Space.TheVariants.{Html, Svg, Other}
use Rattle.snap_tree.specs.declared.row.Facts.{Facts}
use Rattle.snap_tree.specs.declared.row.Attr.{Attr}
use Rattle.snap_tree.specs.declared.row.Body.{Body}
use Rattle.snap_tree.specs.declared.row.Body.TheVariants.{Element, Words}
use Rattle.snap_tree.specs.declared.row.Row.{Row}
use Rattle.snap_tree.specs.Trees.{Trees, empty, tree, Document, document}

abbrev coded_id : Coded NodeId
coded_id = code_by ℕ coded_ℕ (λ n. n.0) (λ n. record { 0 = n }) (λ _. refl)

abbrev number : Space → ℕ
number Html = 0
number Svg = 1
number Other = 2

abbrev space : ℕ → Space
space zero = Html
space (suc zero) = Svg
space (suc (suc n)) = Other

pub space-number : (s : Space) → space (number s) ≡ s
space-number Html = refl
space-number Svg = refl
space-number Other = refl

abbrev coded_space : Coded Space
coded_space = code_by ℕ coded_ℕ number space space-number

abbrev coded_facts : Coded Facts
coded_facts = code_by (Bool × (Bool × (Bool × Bool))) (coded× coded_bool (coded× coded_bool (coded× coded_bool coded_bool)))
    (λ f. (f.rendered, (f.visible, (f.focusable, f.tabbable))))
    (λ p. record { rendered = p.0; visible = p.1.0; focusable = p.1.1.0; tabbable = p.1.1.1 }) (λ _. refl)

abbrev coded_attr : Coded Attr
coded_attr = code_by (List ℕ × List ℕ) (coded× (coded_list coded_ℕ) (coded_list coded_ℕ)) (λ a. (a.name, a.value)) (λ p. record { name = p.0; value = p.1 }) (λ _. refl)

abbrev Parts : Type 0
Parts = (Space × (List ℕ × List Attr)) ⊎ List ℕ

abbrev parts : Body → Parts
parts (Element s tag attrs) = inl (s, (tag, attrs))
parts (Words text) = inr text

abbrev body : Parts → Body
body (inl p) = Element p.0 p.1.0 p.1.1
body (inr text) = Words text

pub body-parts : (b : Body) → body (parts b) ≡ b
body-parts (Element s tag attrs) = refl
body-parts (Words text) = refl

abbrev coded_body : Coded Body
coded_body = code_by Parts (coded⊎ (coded× coded_space (coded× (coded_list coded_ℕ) (coded_list coded_attr))) (coded_list coded_ℕ)) parts body body-parts

abbrev coded_row : Coded Row
coded_row = code_by (NodeId × (Option NodeId × (Body × Facts))) (coded× coded_id (coded× (coded_option coded_id) (coded× coded_body coded_facts)))
    (λ r. (r.id, (r.parent, (r.body, r.facts))))
    (λ p. record { id = p.0; parent = p.1.0; body = p.1.1.0; facts = p.1.1.1 }) (λ _. refl)

-- trees in prefix order: a row, what is below it, what is after it; and a mark where there is none
abbrev marks : Trees → List (Option Row)
marks empty = None ∷ []
marks (tree r kids after) = Some r ∷ marks kids ++ marks after

-- what the marks say, read from the last to the first: the trees read so far, the nearest first
abbrev put : Option Row → List Trees → List Trees
put None ts = empty ∷ ts
put (Some r) [] = []
put (Some r) (kids ∷ []) = []
put (Some r) (kids ∷ after ∷ ts) = tree r kids after ∷ ts

abbrev read : List (Option Row) → List Trees → List Trees
read [] ts = ts
read (m ∷ ms) ts = put m (read ms ts)

abbrev first : List Trees → Trees
first [] = empty
first (t ∷ ts) = t

read-append : (ms ns : List (Option Row)) (ts : List Trees) → read (ms ++ ns) ts ≡ read ms (read ns ts)
read-append [] ns ts = refl
read-append (m ∷ ms) ns ts = ap (put m) (read-append ms ns ts)

pub read-marks : (t : Trees) (ts : List Trees) → read (marks t) ts ≡ t ∷ ts
read-marks empty ts = refl
read-marks (tree r kids after) ts =
    ap (put (Some r)) (read-append (marks kids) (marks after) ts ∙ ap (read (marks kids)) (read-marks after ts) ∙ read-marks kids (after ∷ ts))

abbrev pub coded_trees : Coded Trees
coded_trees = code_by (List (Option Row)) (coded_list (coded_option coded_row)) marks (λ ms. first (read ms [])) (λ t. ap first (read-marks t []))

abbrev pub coded_document : Coded Document
coded_document = code_by (List ℕ × (List (List ℕ) × Trees)) (coded× (coded_list coded_ℕ) (coded× (coded_list (coded_list coded_ℕ)) coded_trees))
    (λ d. (d.address, (d.langs, d.trees))) (λ p. document p.0 p.1.0 p.1.1) (λ _. refl)
