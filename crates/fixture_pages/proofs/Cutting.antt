-- Texts that are read from one cut to the next.
use Rattle.std.proofs.Common.{◌≡◌, ◌==◌, ◌<◌, ℕ, suc, List, [], ◌∷◌, ◌++◌, map, length, Bool, true, false, refl, sym, ap, ◌∙◌, arith}
use Rattle.std.proofs.lemmas.List.{append_assoc}
use Rattle.std.proofs.lemmas.List.Splits.{slice_split_first}
use Rattle.std.specs.List.{onto_first, join_with_byte, position_or_len}
use Rattle.snap_tree.specs.declared.row.Attr.{Attr}
use Rattle.snap_tree.specs.declared.row.Row.{Row}
use Rattle.fixture_pages.specs.Texts.{before, behind, between, spaced, named_in, named_among, attrs_in, row_in, rows_in}

-- the place of the first such byte
abbrev place : ℕ → List ℕ → ℕ
place c text = position_or_len (λ b. b == c) text

-- at the first such byte a text is cut
cut_at : (c : ℕ) (text : List ℕ) → place c text < length text → between c text ≡ before c text ∷ between c (behind c text)
cut_at c text h = slice_split_first (λ b. b == c) text 0 h

-- a text without such a byte is one part
uncut : (c : ℕ) (text : List ℕ) → place c text ≡ length text → between c text ≡ text ∷ []
uncut c [] h = refl
uncut c (b ∷ text) h = by_byte (b == c) refl (uncut c text)
  where
    by_byte : (is : Bool) → (b == c) ≡ is → (place c text ≡ length text → between c text ≡ text ∷ []) → between c (b ∷ text) ≡ (b ∷ text) ∷ []
    by_byte true e later =
        let at : place c (b ∷ text) ≡ 0 = rw e refl in
        absurd (omega arith)
    by_byte false e later =
        let at : place c (b ∷ text) ≡ suc (place c text) = rw e (omega arith) in
        let same : place c text ≡ length text = omega arith in
        rw e (ap (onto_first b) (later same))

-- a part before the parts of a text
joined : (c : ℕ) (part text : List ℕ) → join_with_byte 32 (part ∷ between c text) ≡ part ++ (32 ∷ join_with_byte 32 (between c text))
joined c part [] = refl
joined c part (b ∷ text) = by_byte (b == c) refl
  where
    by_parts : (parts : List (List ℕ)) → join_with_byte 32 (part ∷ onto_first b parts) ≡ part ++ (32 ∷ join_with_byte 32 (onto_first b parts))
    by_parts [] = refl
    by_parts (first ∷ parts) = refl

    by_byte : (is : Bool) → (b == c) ≡ is → join_with_byte 32 (part ∷ between c (b ∷ text)) ≡ part ++ (32 ∷ join_with_byte 32 (between c (b ∷ text)))
    by_byte true e = rw e refl
    by_byte false e = rw e (by_parts (between c text))

-- what is read before a cut, and then the rest

pub spaced_at : (read text : List ℕ) → place 126 text < length text → ((read ++ before 126 text) ++ (32 ∷ [])) ++ spaced (behind 126 text) ≡ read ++ spaced text
spaced_at read text h =
    let whole : spaced text ≡ before 126 text ++ (32 ∷ spaced (behind 126 text)) = ap (join_with_byte 32) (cut_at 126 text h) ∙ joined 126 (before 126 text) (behind 126 text) in
    append_assoc (read ++ before 126 text) (32 ∷ []) (spaced (behind 126 text)) ∙ append_assoc read (before 126 text) (32 ∷ spaced (behind 126 text)) ∙ ap (λ t. read ++ t) (sym whole)

pub spaced_whole : (text : List ℕ) → place 126 text ≡ length text → spaced text ≡ text
spaced_whole text h = ap (join_with_byte 32) (uncut 126 text h)

pub attrs_at : (read : List Attr) (text : List ℕ) → place 32 text < length text → (read ++ named_in (before 32 text)) ++ attrs_in (behind 32 text) ≡ read ++ attrs_in text
attrs_at read text h = append_assoc read (named_in (before 32 text)) (attrs_in (behind 32 text)) ∙ ap (λ parts. read ++ named_among parts) (sym (cut_at 32 text h))

pub attrs_whole : (text : List ℕ) → place 32 text ≡ length text → attrs_in text ≡ named_in text ++ []
attrs_whole text h = ap named_among (uncut 32 text h)

pub rows_at : (read : List Row) (text : List ℕ) → place 59 text < length text → (read ++ (row_in (before 59 text) ∷ [])) ++ rows_in (behind 59 text) ≡ read ++ rows_in text
rows_at read text h = append_assoc read (row_in (before 59 text) ∷ []) (rows_in (behind 59 text)) ∙ ap (λ parts. read ++ map row_in parts) (sym (cut_at 59 text h))

pub rows_whole : (text : List ℕ) → place 59 text ≡ length text → rows_in text ≡ row_in text ∷ []
rows_whole text h = ap (map row_in) (uncut 59 text h)
