-- A snapshot that is kept is never too long.
use Rattle.std.proofs.Common.{◌≡◌, ℕ, List, Option, Some, None, Result, Ok, Err}
use Rattle.std.specs.Prelude.{option_and_then, codes}
use Rattle.serde_json.specs.Data.{Data, Items, no_items, item}
use Rattle.serde_json.specs.Find.{get, as_array, as_object}
use Rattle.snap_tree.specs.declared.fault.TreeFault.{TreeFault}
use Rattle.snap_tree.specs.declared.row.Raw.{Raw}
use Rattle.snap_tree.specs.Faults.{tree_fault}
use Rattle.snap_json.specs.declared.fault.Field.{Field}
use Rattle.snap_json.specs.declared.fault.Field.TheVariants as field
use Rattle.snap_json.specs.declared.fault.SnapFault.{SnapFault}
use Rattle.snap_json.specs.declared.fault.SnapFault.TheVariants.{TooLong}
use Rattle.snap_json.specs.declared.limits.TheConstants.{KEPT}
use Rattle.snap_json.specs.Faults.{◌>>=◌, in_shape}
use Rattle.snap_json.specs.Fields.{number_of, parent_of, text_of, name_of, space_of, attrs_of, facts_of}
use Rattle.web_address.specs.Address.{address_of}
use Rattle.snap_json.specs.Pages.{body_from, body_of, row_of, next_place, rows_of, web, page_of, in_json, json_of, page_in, built_unless, tree_in, kept_tree}

-- it isn't refused as too long
pub record IsNoTooLong {A : Type 0} (given : Result A SnapFault) : Type 0 where
  pub differs : given ≡ Err TooLong → ⊥

of_ok : {A : Type 0} (x : A) → IsNoTooLong (Ok x)
of_ok x = record { differs = λ e. cc }

of_bind : {A B : Type 0} (r : Result A SnapFault) (next : A → Result B SnapFault) → IsNoTooLong r → ((x : A) → IsNoTooLong (next x)) → IsNoTooLong (r >>= next)
of_bind (Ok x) next h k = k x
of_bind (Err e) next h k = record { differs = λ same. h.differs cc }

of_shape : {A : Type 0} (place : ℕ) (f : Field) (meaning : Option A) → IsNoTooLong (in_shape place f meaning)
of_shape place f (Some x) = of_ok x
of_shape place f None = record { differs = λ e. cc }

of_body : (place : ℕ) (row : Data) (tag text : Option Data) → IsNoTooLong (body_from place row tag text)
of_body place row (Some tag) None =
    of_bind _ _ (of_shape place field.Tag (name_of (Some tag)))
    (λ t. of_bind _ _ (of_shape place field.Ns (space_of (get (codes "ns") row)))
    (λ s. of_bind _ _ (of_shape place field.Attrs (attrs_of (get (codes "attrs") row))) (λ a. of_ok _)))
of_body place row None (Some text) = of_bind _ _ (of_shape place field.Text (text_of (Some text))) (λ t. of_ok _)
of_body place row None None = record { differs = λ e. cc }
of_body place row (Some tag) (Some text) = record { differs = λ e. cc }

of_row : (place : ℕ) (row : Data) → IsNoTooLong (row_of place row)
unfolding row_of body_of
of_row place row =
    of_bind _ _ (of_shape place field.Row (as_object row))
    (λ m. of_bind _ _ (of_shape place field.N (number_of (get (codes "n") row)))
    (λ n. of_bind _ _ (of_shape place field.P (parent_of (get (codes "p") row)))
    (λ p. of_bind _ _ (of_body place row (get (codes "tag") row) (get (codes "text") row))
    (λ b. of_bind _ _ (of_shape place field.F (facts_of (get (codes "f") row))) (λ f. of_ok _)))))

of_rows : (place : ℕ) (rows : Items) → IsNoTooLong (rows_of place rows)
of_rows place no_items = of_ok _
of_rows place (item row others) =
    of_bind _ _ (of_row place row) (λ first. of_bind _ _ (of_rows (next_place place) others) (λ rest. of_ok _))

of_web : (address : Option (List ℕ)) → IsNoTooLong (web address)
of_web (Some address) = of_ok address
of_web None = record { differs = λ e. cc }

of_page : (page : Data) → IsNoTooLong (page_of KEPT page)
unfolding page_of
of_page page =
    of_bind _ _ (of_shape 0 field.Top (as_object page))
    (λ m. of_bind _ _ (of_shape 0 field.Url (text_of (get (codes "url") page)))
    (λ text. of_bind _ _ (of_shape 0 field.Nodes (option_and_then as_array (get (codes "nodes") page)))
    (λ nodes. of_bind _ _ (of_web (address_of text))
    (λ address. of_bind _ _ (of_rows 1 nodes) (λ rows. of_ok _)))))

of_json : (d : Option Data) → IsNoTooLong (in_json d)
of_json (Some d) = of_ok d
of_json None = record { differs = λ e. cc }

of_built : (fault : Option TreeFault) (raw : Raw) → IsNoTooLong (built_unless fault raw)
of_built None raw = of_ok _
of_built (Some f) raw = record { differs = λ e. cc }

pub kept_fits : (bytes : List ℕ) → IsNoTooLong (kept_tree bytes)
unfolding tree_in page_in
kept_fits bytes =
    of_bind _ _ (of_bind _ _ (of_json (json_of bytes)) of_page) (λ raw. of_built (tree_fault raw.rows) raw)
