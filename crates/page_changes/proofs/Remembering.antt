-- What is remembered of ids.
use Rattle.std.proofs.Common.{◌≡◌, ℕ, List, Bool, true, false, if◌then◌else◌, Option, Some, None, IfSome, String, refl, sym, ◌∙◌, ap, subst}
use Rattle.std.proofs.lemmas.Slice.Eq.{bytes_eq-Decides}
use Rattle.std.specs.BTreeMap.{BTreeMap, get_by_text}
use Rattle.std.specs.Str.{bytes_eq}
use Rattle.std.specs.declared.alloc.Global.{Global}
use Rattle.snap_tree.specs.Trees.{Trees}
use Rattle.page_changes.specs.References.{named_same, IsMemory, Remembers}

pub remembered_right : (o : Option Bool) (b right : Bool) → Some b ≡ o → IfSome o (λ x. x ≡ right) → b ≡ right
remembered_right None b right e h = cc
remembered_right (Some x) b right e h = let is : b ≡ x = cc in is ∙ h

pub still_right : (old new : Trees) (before after : BTreeMap (String Global) Bool) (key id : List ℕ) (same : Bool) → IsMemory old new before → Remembers before after key same → key ≡ id → same ≡ named_same old new id → IsMemory old new after
still_right old new before after key id same m r e h text =
    subst (λ o. IfSome o (λ b. b ≡ named_same old new text)) (sym (r text)) (by_test (bytes_eq text key) refl)
  where
    by_test : (b : Bool) → bytes_eq text key ≡ b → IfSome (if b then Some same else get_by_text before text) (λ b. b ≡ named_same old new text)
    by_test true k = h ∙ ap (named_same old new) (sym ((bytes_eq-Decides text key).0 k ∙ e))
    by_test false k = m text
