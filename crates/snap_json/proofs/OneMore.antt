-- What one more member leaves of what was found of the others.
use Rattle.std.proofs.Common.{◌≡◌, ℕ, List, true, false, bytes_eq, true≢false, Option, Some, Ok, refl, sym, ap, ◌∙◌, subst}
use Rattle.std.specs.Prelude.{codes, option_map, option_and_then}
use Rattle.std.proofs.lemmas.Slice.Eq.{bytes_eq-Decides}
use Rattle.json.specs.Token.{Token}
use Rattle.serde_json.specs.Data.{Data, Items, array, Members as Object, put}
use Rattle.serde_json.specs.Find.{get_member, as_array}
use Rattle.serde_json.proofs.Views.{get_member-put, get_member-put_other}
use Rattle.std.specs.Borrow.{Bor}
use Rattle.snap_tree.specs.declared.row.NodeId.{NodeId}
use Rattle.snap_tree.specs.declared.row.Space.{Space}
use Rattle.snap_tree.specs.declared.row.Facts.{Facts}
use Rattle.snap_tree.specs.declared.row.Attr.{Attr}
use Rattle.snap_tree.specs.declared.row.Row.{Row}
use Rattle.snap_json.specs.declared.straight.Members.{Members}
use Rattle.snap_json.specs.declared.straight.PageMembers.{PageMembers}
use Rattle.snap_json.specs.Fields.{number_of, parent_of, text_of, name_of, space_of, attrs_of, facts_of}
use Rattle.snap_json.specs.Pages.{rows_of}
use Rattle.snap_json.specs.Straight.{Reads, Takes, Found, Holds, Adds, FoundRows, HoldsPage, AddsToPage}

pub differ : (q k : List ℕ) → bytes_eq q k ≡ false → q ≡ k → ⊥
differ q k e same = true≢false (sym ((bytes_eq-Decides q k).1 same) ∙ e)

pub same_key : (key name : List ℕ) → bytes_eq key name ≡ true → key ≡ name
same_key key name e = (bytes_eq-Decides key name).0 e

pub apart_from : (key q : List ℕ) → bytes_eq key q ≡ false → q ≡ key → ⊥
apart_from key q e same = differ key q e (sym same)

module _ (d : Data) (ms : Object) (k : List ℕ) where
  -- what holds of a member still holds once another was put
  kept : (P : Option Data → Type 0) (q : List ℕ) → (q ≡ k → ⊥) → P (get_member q ms) → P (get_member q (put k d ms))
  kept P q apart h = subst P (sym (get_member-put_other q k d ms apart)) h

  here : {A : Type 0} (meaning : Option Data → Option A) (x : A) → meaning (Some d) ≡ Some x → meaning (get_member k (put k d ms)) ≡ Some x
  here meaning x is = ap meaning (get_member-put k d ms) ∙ is

  found_here : {A : Type 0} (meaning : Option Data → Option A) (x : A) → meaning (Some d) ≡ Some x → Found meaning (Some x) (get_member k (put k d ms))
  found_here meaning x is = (d, get_member-put k d ms, is)

  module _ (m : Members) (h : Holds m ms) where
    id_kept : (codes "n" ≡ k → ⊥) → Found number_of m.id (get_member (codes "n") (put k d ms))
    id_kept apart = kept (λ o. Found number_of m.id o) (codes "n") apart h.id_is

    parent_kept : (codes "p" ≡ k → ⊥) → Found parent_of m.parent (get_member (codes "p") (put k d ms))
    parent_kept apart = kept (λ o. Found parent_of m.parent o) (codes "p") apart h.parent_is

    space_kept : (codes "ns" ≡ k → ⊥) → space_of (get_member (codes "ns") (put k d ms)) ≡ Some m.space
    space_kept apart = kept (λ o. space_of o ≡ Some m.space) (codes "ns") apart h.body.space_is

    tag_kept : (codes "tag" ≡ k → ⊥) → Found name_of m.tag (get_member (codes "tag") (put k d ms))
    tag_kept apart = kept (λ o. Found name_of m.tag o) (codes "tag") apart h.body.tag_is

    attrs_kept : (codes "attrs" ≡ k → ⊥) → attrs_of (get_member (codes "attrs") (put k d ms)) ≡ Some m.attrs
    attrs_kept apart = kept (λ o. attrs_of o ≡ Some m.attrs) (codes "attrs") apart h.body.attrs_are

    text_kept : (codes "text" ≡ k → ⊥) → Found text_of m.text (get_member (codes "text") (put k d ms))
    text_kept apart = kept (λ o. Found text_of m.text o) (codes "text") apart h.body.text_is

    facts_kept : (codes "f" ≡ k → ⊥) → facts_of (get_member (codes "f") (put k d ms)) ≡ Some m.facts
    facts_kept apart = kept (λ o. facts_of o ≡ Some m.facts) (codes "f") apart h.facts_are

    pub with_unasked : (codes "n" ≡ k → ⊥) → (codes "p" ≡ k → ⊥) → (codes "ns" ≡ k → ⊥) → (codes "tag" ≡ k → ⊥) → (codes "attrs" ≡ k → ⊥) → (codes "text" ≡ k → ⊥) → (codes "f" ≡ k → ⊥) → Holds m (put k d ms)
    with_unasked n p ns tag attrs text f = record {
      id_is = id_kept n;
      parent_is = parent_kept p;
      body = record { space_is = space_kept ns; tag_is = tag_kept tag; attrs_are = attrs_kept attrs; text_is = text_kept text };
      facts_are = facts_kept f;
    }

module _ (d : Data) (ms : Object) (m : Members) (h : Holds m ms) where
  pub with_id : (x : NodeId) → number_of (Some d) ≡ Some x → Holds (record { id = Some x; parent = m.parent; space = m.space; tag = m.tag; attrs = m.attrs; text = m.text; facts = m.facts }) (put (codes "n") d ms)
  with_id x is =
      let k = codes "n" in record {
        id_is = found_here d ms k number_of x is;
        parent_is = parent_kept d ms k m h (differ _ _ refl);
        body = record { space_is = space_kept d ms k m h (differ _ _ refl); tag_is = tag_kept d ms k m h (differ _ _ refl); attrs_are = attrs_kept d ms k m h (differ _ _ refl); text_is = text_kept d ms k m h (differ _ _ refl) };
        facts_are = facts_kept d ms k m h (differ _ _ refl);
      }

  pub with_parent : (x : Option NodeId) → parent_of (Some d) ≡ Some x → Holds (record { id = m.id; parent = Some x; space = m.space; tag = m.tag; attrs = m.attrs; text = m.text; facts = m.facts }) (put (codes "p") d ms)
  with_parent x is =
      let k = codes "p" in record {
        id_is = id_kept d ms k m h (differ _ _ refl);
        parent_is = found_here d ms k parent_of x is;
        body = record { space_is = space_kept d ms k m h (differ _ _ refl); tag_is = tag_kept d ms k m h (differ _ _ refl); attrs_are = attrs_kept d ms k m h (differ _ _ refl); text_is = text_kept d ms k m h (differ _ _ refl) };
        facts_are = facts_kept d ms k m h (differ _ _ refl);
      }

  pub with_space : (x : Space) → space_of (Some d) ≡ Some x → Holds (record { id = m.id; parent = m.parent; space = x; tag = m.tag; attrs = m.attrs; text = m.text; facts = m.facts }) (put (codes "ns") d ms)
  with_space x is =
      let k = codes "ns" in record {
        id_is = id_kept d ms k m h (differ _ _ refl);
        parent_is = parent_kept d ms k m h (differ _ _ refl);
        body = record { space_is = here d ms k space_of x is; tag_is = tag_kept d ms k m h (differ _ _ refl); attrs_are = attrs_kept d ms k m h (differ _ _ refl); text_is = text_kept d ms k m h (differ _ _ refl) };
        facts_are = facts_kept d ms k m h (differ _ _ refl);
      }

  pub with_tag : (x : List ℕ) → name_of (Some d) ≡ Some x → Holds (record { id = m.id; parent = m.parent; space = m.space; tag = Some x; attrs = m.attrs; text = m.text; facts = m.facts }) (put (codes "tag") d ms)
  with_tag x is =
      let k = codes "tag" in record {
        id_is = id_kept d ms k m h (differ _ _ refl);
        parent_is = parent_kept d ms k m h (differ _ _ refl);
        body = record { space_is = space_kept d ms k m h (differ _ _ refl); tag_is = found_here d ms k name_of x is; attrs_are = attrs_kept d ms k m h (differ _ _ refl); text_is = text_kept d ms k m h (differ _ _ refl) };
        facts_are = facts_kept d ms k m h (differ _ _ refl);
      }

  pub with_attrs : (x : List Attr) → attrs_of (Some d) ≡ Some x → Holds (record { id = m.id; parent = m.parent; space = m.space; tag = m.tag; attrs = x; text = m.text; facts = m.facts }) (put (codes "attrs") d ms)
  with_attrs x is =
      let k = codes "attrs" in record {
        id_is = id_kept d ms k m h (differ _ _ refl);
        parent_is = parent_kept d ms k m h (differ _ _ refl);
        body = record { space_is = space_kept d ms k m h (differ _ _ refl); tag_is = tag_kept d ms k m h (differ _ _ refl); attrs_are = here d ms k attrs_of x is; text_is = text_kept d ms k m h (differ _ _ refl) };
        facts_are = facts_kept d ms k m h (differ _ _ refl);
      }

  pub with_text : (x : List ℕ) → text_of (Some d) ≡ Some x → Holds (record { id = m.id; parent = m.parent; space = m.space; tag = m.tag; attrs = m.attrs; text = Some x; facts = m.facts }) (put (codes "text") d ms)
  with_text x is =
      let k = codes "text" in record {
        id_is = id_kept d ms k m h (differ _ _ refl);
        parent_is = parent_kept d ms k m h (differ _ _ refl);
        body = record { space_is = space_kept d ms k m h (differ _ _ refl); tag_is = tag_kept d ms k m h (differ _ _ refl); attrs_are = attrs_kept d ms k m h (differ _ _ refl); text_is = found_here d ms k text_of x is };
        facts_are = facts_kept d ms k m h (differ _ _ refl);
      }

  pub with_facts : (x : Facts) → facts_of (Some d) ≡ Some x → Holds (record { id = m.id; parent = m.parent; space = m.space; tag = m.tag; attrs = m.attrs; text = m.text; facts = x }) (put (codes "f") d ms)
  with_facts x is =
      let k = codes "f" in record {
        id_is = id_kept d ms k m h (differ _ _ refl);
        parent_is = parent_kept d ms k m h (differ _ _ refl);
        body = record { space_is = space_kept d ms k m h (differ _ _ refl); tag_is = tag_kept d ms k m h (differ _ _ refl); attrs_are = attrs_kept d ms k m h (differ _ _ refl); text_is = text_kept d ms k m h (differ _ _ refl) };
        facts_are = here d ms k facts_of x is;
      }

-- a key whose value means x
pub adds : {A : Type 0} (meaning : Option Data → Option A) (key name : List ℕ) (old new : List Token) (x : A) (before after : Members) → key ≡ name
    → ((d : Data) (ms : Object) → Holds before ms → meaning (Some d) ≡ Some x → Holds after (put name d ms)) → Takes meaning old x new → Adds key old before new after
adds meaning key name old new x before after e gives t = (t.0, t.1, λ ms h. subst (λ k. Holds after (put k t.0 ms)) (sym e) (gives t.0 ms h t.2))

-- ---- the members of a page

pub adds_to_page : (key name : List ℕ) (old new : List Token) (d : Data) (before after : PageMembers) → key ≡ name → Reads 126 old d new
    → ((ms : Object) → HoldsPage before ms → HoldsPage after (put name d ms)) → AddsToPage key old before new after
adds_to_page key name old new d before after e read gives = (d, read, λ ms h. subst (λ k. HoldsPage after (put k d ms)) (sym e) (gives ms h))

module _ (d : Data) (ms : Object) (m : PageMembers) (h : HoldsPage m ms) where
  pub with_url : (x : Bor (List ℕ)) → text_of (Some d) ≡ Some x.now → HoldsPage (record { url = Some x; rows = m.rows }) (put (codes "url") d ms)
  with_url x is = record {
    url_is = here d ms (codes "url") text_of x.now is;
    rows_are = kept d ms (codes "url") (λ o. FoundRows m.rows o) (codes "nodes") (differ _ _ refl) h.rows_are;
  }

  pub with_rows : (rows : List Row) (ds : Items) → d ≡ array ds → rows_of 1 ds ≡ Ok rows → HoldsPage (record { url = m.url; rows = Some rows }) (put (codes "nodes") d ms)
  with_rows rows ds is are = record {
    url_is = kept d ms (codes "nodes") (λ o. text_of o ≡ option_map (λ url. url.now) m.url) (codes "url") (differ _ _ refl) h.url_is;
    rows_are = (ds, ap (option_and_then as_array) (get_member-put (codes "nodes") d ms ∙ ap Some is), are);
  }

  pub with_other : (k : List ℕ) → (codes "url" ≡ k → ⊥) → (codes "nodes" ≡ k → ⊥) → HoldsPage m (put k d ms)
  with_other k url nodes = record {
    url_is = kept d ms k (λ o. text_of o ≡ option_map (λ url. url.now) m.url) (codes "url") url h.url_is;
    rows_are = kept d ms k (λ o. FoundRows m.rows o) (codes "nodes") nodes h.rows_are;
  }
