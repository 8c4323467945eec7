-- The value of a snapshot's text.
use Rattle.std.proofs.Common.{◌≡◌, ℕ, Bool, true, false, ◌&&◌, if◌then◌else◌, List, Option, Some, None, Ok, Err, is_ok, refl, sym, ap, ◌∙◌}
use Rattle.std.proofs.lemmas.Bool.{false≢true, and_parts}
use Rattle.std.specs.Str.{is_utf8}
use Rattle.serde_json.specs.Data.{Data}
use Rattle.serde_json.specs.Read.{read}
use Rattle.json_parts.specs.Parts.{is_shallow, value_of}
use Rattle.snap_tree.specs.Trees.{Document}
use Rattle.snap_json.specs.declared.fault.SnapFault.TheVariants.{TooLong}
use Rattle.snap_json.specs.Faults.{◌>>=◌}
use Rattle.snap_json.specs.Pages.{json_of, in_json, page_in, tree_in, sent_page_of, sent_tree, built}
use Rattle.case_run.proofs.Snapped.{snapped}

pub record Valued (bytes : List ℕ) (tree : Document) : Type 0 where
  pub d : Data
  pub is : json_of bytes ≡ Some d
  pub means : snapped d ≡ Ok tree

by_value : (bytes : List ℕ) (tree : Document) (b : Bool) (o : Option Data) → json_of bytes ≡ o → ((if b then (in_json o >>= sent_page_of) else Err TooLong) >>= built) ≡ Ok tree → Valued bytes tree
by_value bytes tree false o is h = absurd (false≢true (ap is_ok h))
by_value bytes tree true None is h = absurd (false≢true (ap is_ok h))
by_value bytes tree true (Some d) is h = record { d = d; is = is; means = h }

pub valued : (bytes : List ℕ) (tree : Document) → sent_tree bytes ≡ Ok tree → Valued bytes tree
unfolding tree_in page_in
valued bytes tree h = by_value bytes tree _ (json_of bytes) refl h

pub shallow_value : (bytes : List ℕ) (d : Data) → (is_utf8 bytes && is_shallow 124 bytes) ≡ true → json_of bytes ≡ Some d → value_of 124 bytes ≡ Some d
unfolding value_of json_of
shallow_value bytes d inner h =
    ap (λ b. if b then read bytes else None) inner ∙ sym (ap (λ b. if b then read bytes else None) (and_parts (is_utf8 bytes) (is_shallow 124 bytes) inner).0) ∙ h
