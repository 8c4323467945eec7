-- Records of CSV, one after another.
use Rattle.std.proofs.Common.{◌≡◌, ◌≢◌, ℕ, ◌+◌, ◌<◌, ◌≤◌, List, [], ◌∷◌, ◌++◌, length, take, get_or, false, Option, None, Some, refl, sym, ap, ◌∙◌, append_assoc, append-nil, subst, arith}
use Rattle.std.specs.Io.KnownBytes.{Appends}
use Rattle.std.specs.List.{flat_map}
use Rattle.std.proofs.Math.Seq.{take-length}
use Rattle.std.proofs.lemmas.List.{take_more}
use Rattle.std.proofs.lemmas.Grind.{flat_map-append}
use Rattle.csv.specs.declared.writer.Writer.{Writer}
use Rattle.csv.specs.declared.writer.WriterBuilder.{WriterBuilder}
use Rattle.csv.specs.declared.writer.QuoteStyle.TheVariants as style
use Rattle.csv.specs.Writing.{writer_setup, fields_written, has_written, text_written, default_writer, row_text}
use Rattle.reports.specs.Table.{Fields}
use Rattle.reports.specs.Writing.{HasWritten, Adds}

is_quoted_as_needed : (setup : WriterBuilder) → setup ≡ default_writer → setup.style ≢ style.NonNumeric
is_quoted_as_needed setup is = rw is (λ e. cc e)

appended : (old new : Option (List ℕ)) (text bytes : List ℕ) → old ≡ Some text → Appends old new bytes → new ≡ Some (text ++ bytes)
appended old new text bytes is more = after new (subst (λ (o : Option (List ℕ)). Appends o new bytes) is more)
  where
    after : (n : Option (List ℕ)) → Appends (Some text) n bytes → n ≡ Some (text ++ bytes)
    after None e = absurd e
    after (Some x) e = ap Some e

-- a record more was written
pub one_record : {W : Type 0} (contents : W → Option (List ℕ)) (old new : Writer W) (text : List ℕ) (fields : Fields) → HasWritten contents old text
    → (fields_written old ≡ 0 → has_written old ≡ false → (writer_setup old).style ≢ style.NonNumeric → Appends (text_written contents old) (text_written contents new) (row_text (writer_setup old) fields))
    → fields_written new ≡ 0 → has_written new ≡ false → writer_setup new ≡ writer_setup old → HasWritten contents new (text ++ row_text default_writer fields)
one_record contents old new text fields before wrote first none setup =
    let bytes = wrote before.at_first before.shows_none (is_quoted_as_needed (writer_setup old) before.setup) in
    record {
      setup = setup ∙ before.setup;
      at_first = first;
      shows_none = none;
      text_is = appended (text_written contents old) (text_written contents new) text (row_text default_writer fields) before.text_is
          (subst (λ (s : WriterBuilder). Appends (text_written contents old) (text_written contents new) (row_text s fields)) before.setup bytes);
    }

-- nothing was written yet
pub adds_nothing : {W : Type 0} (contents : W → Option (List ℕ)) (writer : Writer W) → Adds contents writer writer []
adds_nothing contents writer text has = subst (λ (t : List ℕ). HasWritten contents writer t) (sym (append-nil text)) has

-- the bytes of one item more
pub adds_more : {W X : Type 0} (contents : W → Option (List ℕ)) (bytes : X → List ℕ) (xs : List X) (i : ℕ) (d : X) (old mid new : Writer W) → i < length xs
    → Adds contents old mid (flat_map bytes (take i xs)) → Adds contents mid new (bytes (get_or xs i d)) → Adds contents old new (flat_map bytes (take (i + 1) xs))
adds_more {X = X} contents bytes xs i d old mid new inside before step text has =
    let all : List X → List ℕ = flat_map bytes in
    let x : X = get_or xs i d in
    let one : all (take (i + 1) xs) ≡ all (take i xs) ++ bytes x =
    ap all (take_more xs i d inside) ∙ flat_map-append bytes (take i xs) (x ∷ []) ∙ ap (λ l. all (take i xs) ++ l) (append-nil (bytes x)) in
    subst (λ (t : List ℕ). HasWritten contents new t) (append_assoc text (all (take i xs)) (bytes x) ∙ ap (λ l. text ++ l) (sym one))
    (step (text ++ all (take i xs)) (before text has))

-- the same, of an item that is known
pub adds_item : {W X : Type 0} (contents : W → Option (List ℕ)) (bytes : X → List ℕ) (xs : List X) (i : ℕ) (x : X) (old mid new : Writer W) → i < length xs → x ≡ get_or xs i x
    → Adds contents old mid (flat_map bytes (take i xs)) → Adds contents mid new (bytes x) → Adds contents old new (flat_map bytes (take (i + 1) xs))
adds_item contents bytes xs i x old mid new inside at before step =
    adds_more contents bytes xs i x old mid new inside before (subst (λ y. Adds contents mid new (bytes y)) at step)

-- after a walk over all items
pub adds_all : {W X : Type 0} (contents : W → Option (List ℕ)) (bytes : X → List ℕ) (xs : List X) (i : ℕ) (old new : Writer W) (whole : List ℕ) → length xs ≤ i → i ≤ length xs
    → flat_map bytes xs ≡ whole → Adds contents old new (flat_map bytes (take i xs)) → Adds contents old new whole
adds_all contents bytes xs i old new whole end within is adds =
    let all : i ≡ length xs = omega (arith, end, within) in
    subst (Adds contents old new) (ap (λ n. flat_map bytes (take n xs)) all ∙ ap (flat_map bytes) (take-length xs) ∙ is) adds
