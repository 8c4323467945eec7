-- The tests of equality tell equality.
use Rattle.std.proofs.Common.{◌≡◌, ◌&&◌, ℕ, List, Bool, true, Option, Some, None, refl, ap, rules}
use Rattle.std.specs.Bool.{Decides}
use Rattle.std.specs.Cmp.{first_so, second_so, unsigned_Decides, booleans_Decides}
use Rattle.std.specs.Cmp.Lexicographic.{pointwise, pointwise_decides, bytes_decides}
use Rattle.std.specs.Option.{option_eq}
use Rattle.std.specs.Str.{bytes_eq}
use denote.Enum.Bare.{sameb, same_true, true_same}
use Rattle.aria_tables.specs.declared.role.Role.{Role}
use Rattle.aria_tables.specs.contracts.role.Role as role
use Rattle.snap_tree.specs.declared.row.NodeId.{NodeId}
use Rattle.snap_tree.specs.declared.row.Space.{Space}
use Rattle.snap_tree.specs.contracts.row.Space as space
use Rattle.snap_tree.specs.declared.row.Attr.{Attr}
use Rattle.snap_tree.specs.declared.row.Facts.{Facts}
use Rattle.snap_tree.specs.Labels.{first_with_id, labels_naming}
use Rattle.snap_tree.specs.Lookups.{tagged}
use Rattle.snap_tree.specs.Trees.{Trees}
use Rattle.acc_tree.specs.Frames.{Frame}
use Rattle.page_keys.specs.Keys.{Key, frame_key, own_key, kids_key, id_key, label_key, tagged_key, Own, frame_at, own_at, kids_at, Agree}
use Rattle.page_keys.specs.Same.{same_node, same_attr, same_facts, same_frame, same_own, same, TellsSame}

pub both : {P Q : Type 0} (a b : Bool) → Decides a P → Decides b Q → Decides (a && b) (P × Q)
both a b p q = (λ e. (p.0 (first_so a b e), q.0 (second_so a b e)), λ h. λ i. (p.1 h.0) i && (q.1 h.1) i)

pub options : {A : Type 0} (E : A → A → Bool) → ((a b : A) → Decides (E a b) (a ≡ b)) → (a b : Option A) → Decides (option_eq E a b) (a ≡ b)
options E each None None = (λ e. refl, λ e. refl)
options E each None (Some b) = (λ e. cc, λ e. cc)
options E each (Some a) None = (λ e. cc, λ e. cc)
options E each (Some a) (Some b) = (λ e. ap Some ((each a b).0 e), λ e. let inner : a ≡ b = cc in (each a b).1 inner)

pub nodes : (a b : NodeId) → Decides (same_node a b) (a ≡ b)
nodes a b = let each = unsigned_Decides a.0 b.0 in (λ e. ap (λ k. record { 0 = k }) (each.0 e), λ e. each.1 (ap (λ n. n.0) e))

pub attrs : (a b : Attr) → Decides (same_attr a b) (a ≡ b)
attrs a b =
    let each = both _ _ (bytes_decides a.name b.name) (bytes_decides a.value b.value) in (
      λ e. let h = each.0 e in λ i. record { name = h.0 i; value = h.1 i },
      λ e. each.1 (ap (λ x. x.name) e, ap (λ x. x.value) e),
    )

pub spaces : (a b : Space) → Decides (sameb space.the_type a b) (a ≡ b)
spaces a b = (same_true space.the_type (search rules) a b, true_same space.the_type a b)

roles : (a b : Role) → Decides (sameb role.the_type a b) (a ≡ b)
roles a b = (same_true role.the_type (search rules) a b, true_same role.the_type a b)

pub facts : (a b : Facts) → Decides (same_facts a b) (a ≡ b)
facts a b =
    let each = both _ _ (booleans_Decides a.rendered b.rendered) (both _ _ (booleans_Decides a.visible b.visible)
    (both _ _ (booleans_Decides a.focusable b.focusable) (booleans_Decides a.tabbable b.tabbable))) in (
      λ e. let h = each.0 e in λ i. record { rendered = h.0 i; visible = h.1.0 i; focusable = h.1.1.0 i; tabbable = h.1.1.1 i },
      λ e. each.1 (ap (λ f. f.rendered) e, (ap (λ f. f.visible) e, (ap (λ f. f.focusable) e, ap (λ f. f.tabbable) e))),
    )

texts : (a b : Option (List ℕ)) → Decides (option_eq bytes_eq a b) (a ≡ b)
texts = options bytes_eq bytes_decides

frames : (a b : Frame) → Decides (same_frame a b) (a ≡ b)
frames a b =
    let shape = both _ _ (options same_node nodes a.parent b.parent) (both _ _ (options (sameb space.the_type) spaces a.space b.space) (texts a.tag b.tag)) in
    let marks = both _ _ (texts a.hidden b.hidden) (both _ _ (texts a.lang b.lang) (texts a.disabled b.disabled)) in
    let each = both _ _ shape (both _ _ marks (options (sameb role.the_type) roles a.role b.role)) in (
      λ e. let h = each.0 e in λ i. record {
        parent = h.0.0 i;
        space = h.0.1.0 i;
        tag = h.0.1.1 i;
        role = h.1.1 i;
        hidden = h.1.0.0 i;
        lang = h.1.0.1.0 i;
        disabled = h.1.0.1.1 i;
      },
      λ e. each.1 ((ap (λ f. f.parent) e, (ap (λ f. f.space) e, ap (λ f. f.tag) e)), ((ap (λ f. f.hidden) e, (ap (λ f. f.lang) e, ap (λ f. f.disabled) e)), ap (λ f. f.role) e)),
    )

owns : (a b : Own) → Decides (same_own a b) (a ≡ b)
owns a b =
    let each = both _ _ (pointwise_decides attrs a.attrs b.attrs) (both _ _ (facts a.facts b.facts) (texts a.text b.text)) in (
      λ e. let h = each.0 e in λ i. record { attrs = h.0 i; facts = h.1.0 i; text = h.1.1 i },
      λ e. each.1 (ap (λ o. o.attrs) e, (ap (λ o. o.facts) e, ap (λ o. o.text) e)),
    )

pub same_tells : (old new : Trees) (key : Key) → TellsSame old new key
unfolding same
same_tells old new (frame_key n) = options same_frame frames (frame_at old n) (frame_at new n)
same_tells old new (own_key n) = options same_own owns (own_at old n) (own_at new n)
same_tells old new (kids_key n) = options (pointwise same_node) (pointwise_decides nodes) (kids_at old n) (kids_at new n)
same_tells old new (id_key id) = options same_node nodes (first_with_id old id) (first_with_id new id)
same_tells old new (label_key id) = pointwise_decides nodes (labels_naming old id) (labels_naming new id)
same_tells old new (tagged_key tag) = pointwise_decides nodes (tagged old tag) (tagged new tag)

pub agree : (old new : Trees) (key : Key) → same old new key ≡ true → Agree old new key
agree old new key e = (same_tells old new key).0 e
