-- What a node says of what is kept of those below it, and what is kept with one tree more.
use Rattle.std.proofs.Common.{◌≡◌, ◌&&◌, not, ℕ, List, [], ◌∷◌, ◌++◌, length, take, Bool, true, false, if◌then◌else◌, Option, Some, None, IsUtf8, refl, sym, ◌∙◌, ap, subst, append_assoc}
use Rattle.std.proofs.Math.Bool.{and-false}
use Rattle.std.proofs.lemmas.List.{append-nil}
use Rattle.std.specs.Option.{option_or}
use Rattle.aria_tables.specs.declared.attr.AriaAttr.TheVariants as aria
use Rattle.aria_tables.specs.declared.role.Role.{Role}
use Rattle.snap_tree.specs.declared.row.Row.{Row}
use Rattle.texts.specs.Words.{blank}
use Rattle.acc_tree.specs.declared.attributes.Attribute.TheVariants as attribute
use Rattle.acc_tree.specs.Seen.{text_at}
use Rattle.acc_name.specs.declared.captions.Caption.{Caption}
use Rattle.acc_name.specs.declared.captions.Caption.TheVariants as caption
use Rattle.acc_name.specs.declared.hosts.Host.{Host}
use Rattle.acc_name.specs.declared.hosts.Host.TheVariants as host
use Rattle.acc_name.specs.declared.named.How.{How}
use Rattle.acc_name.specs.declared.named.Name.{Name}
use Rattle.acc_name.specs.declared.named.NameSource.TheVariants as source
use Rattle.acc_name.specs.declared.told.Told.{Told}
use Rattle.acc_name.specs.Captions.{captioning, weighed, caption_or, kept_of, caption_kept, is_captioned}
use Rattle.acc_name.specs.Hosts.{caption_in, host_of, host_text}
use Rattle.acc_name.specs.Names.{says, first_said, value_of, placed, by_clauses}
use Rattle.acc_name.specs.Placing.{place_at, gap_before, settled}
use Rattle.acc_name.specs.Voices.{first_of, shown, from_content, from_kind}
use Rattle.acc_name.proofs.Blanks.{blank_nothing, blank_behind}
use Rattle.acc_name.proofs.Choosing.{first_alike}
use Rattle.acc_name.proofs.Marks.{front_at, gaps_placed}

-- ---- what a node says

-- a blank name is passed over
passed : (name : Name) (later : List Name) → blank name.text ≡ true → first_said (name ∷ later) ≡ first_said later
passed name later e = rw e refl

-- a blank caption says no more than none
blank_caption : (h : Host) (row : Row) (text : List ℕ) (later : List Name) → blank text ≡ true
    → first_said (says source.HostText (host_text h row (Some [])) ∷ later) ≡ first_said (says source.HostText (host_text h row (Some text)) ∷ later)
blank_caption host.Alternative row text later e = refl
blank_caption host.Submit row text later e = refl
blank_caption host.Reset row text later e = refl
blank_caption host.Plain row text later e = refl
blank_caption host.Group row text later e = refl
blank_caption (host.Captioned kind) row text later e =
    passed (says source.HostText []) later blank_nothing ∙ sym (passed (says source.HostText text) later e)
blank_caption host.Nothing row text later e = refl

-- a caption that isn't blank decides before the content does
said_caption : (h : Host) (row : Row) (text : List ℕ) (later others : List Name) → blank text ≡ false → (caption_in h ≡ None → Some text ≡ None)
    → first_said (says source.HostText (host_text h row (Some text)) ∷ later) ≡ first_said (says source.HostText (host_text h row (Some text)) ∷ others)
said_caption host.Alternative row text later others e none = let no = none refl in cc
said_caption host.Submit row text later others e none = let no = none refl in cc
said_caption host.Reset row text later others e none = let no = none refl in cc
said_caption host.Plain row text later others e none = let no = none refl in cc
said_caption host.Group row text later others e none = let no = none refl in cc
said_caption (host.Captioned kind) row text later others e none = rw e refl
said_caption host.Nothing row text later others e none = let no = none refl in cc

kind_kept : (how : How) (role : Option Role) (row : Row) (owned content : List ℕ) (chosen captioned : Option (List ℕ)) → (caption_in (host_of row) ≡ None → captioned ≡ None)
    → first_said (from_kind how role row owned (shown (kept_of captioned content) chosen (caption_kept (weighed captioned) (kept_of captioned content))))
    ≡ first_said (from_kind how role row owned (shown content chosen captioned))
kind_kept how role row owned content chosen None none = refl
kind_kept how role row owned content chosen (Some text) none = by_test (blank text) refl
  where
    by_test : (b : Bool) → blank text ≡ b
        → first_said (from_kind how role row owned (shown (if b then content else text) chosen (caption_kept (if b then caption.Blank else caption.Said) (if b then content else text))))
        ≡ first_said (from_kind how role row owned (shown content chosen (Some text)))
    by_test true e = blank_caption (host_of row) row text (from_content how role row (content ++ owned)) e
    by_test false e = said_caption (host_of row) row text (from_content how role row (text ++ owned)) (from_content how role row (content ++ owned)) e none

-- an element says the same of what is kept of those below it
pub clauses_kept : (told : Told) (how : How) (role : Option Role) (row : Row) (content : List ℕ) (chosen captioned : Option (List ℕ)) → (caption_in (host_of row) ≡ None → captioned ≡ None)
    → by_clauses told how role row (shown (kept_of captioned content) chosen (caption_kept (weighed captioned) (kept_of captioned content)))
    ≡ by_clauses told how role row (shown content chosen captioned)
clauses_kept told how role row content chosen captioned none =
    let names : List Name =
    says source.LabelledBy told.labelled_by
    ∷ says source.HostText (value_of how role row chosen)
    ∷ says source.AriaLabel (text_at (attribute.Aria aria.Label) row)
    ∷ says source.HostLabel told.labels
    ∷ [] in
    first_alike names (from_kind how role row told.owned (shown (kept_of captioned content) chosen (caption_kept (weighed captioned) (kept_of captioned content))))
    (from_kind how role row told.owned (shown content chosen captioned)) (kind_kept how role row told.owned content chosen captioned none)

-- a caption that stands in the place of the content decides
pub captioned_decides : (h : Host) (c : Caption) (row : Row) (text : List ℕ) (later : List Name)
    → is_captioned h c (blank text) ≡ true → says source.HostText text ≡ first_said (says source.HostText (host_text h row (caption_kept c text)) ∷ later)
captioned_decides (host.Captioned kind) caption.Said row text later is = by_test (blank text) refl is
  where
    by_test : (b : Bool) → blank text ≡ b → not b ≡ true → says source.HostText text ≡ first_said (says source.HostText text ∷ later)
    by_test true e is = cc
    by_test false e is = rw e refl
captioned_decides (host.Captioned kind) caption.Absent row text later is = cc
captioned_decides (host.Captioned kind) caption.Blank row text later is = cc
captioned_decides host.Alternative c row text later is = cc
captioned_decides host.Submit c row text later is = cc
captioned_decides host.Reset c row text later is = cc
captioned_decides host.Plain c row text later is = cc
captioned_decides host.Group c row text later is = cc
captioned_decides host.Nothing c row text later is = cc

-- where none does, the element's kind says what its attributes give
pub uncaptioned_says : (h : Host) (c : Caption) (row : Row) (text : List ℕ) → is_captioned h c (blank text) ≡ false
    → first_of (says source.HostText (host_text h row None) ∷ []) ≡ first_of (says source.HostText (host_text h row (caption_kept c text)) ∷ [])
uncaptioned_says (host.Captioned kind) caption.Said row text is = by_test (blank text) refl is
  where
    by_test : (b : Bool) → blank text ≡ b → not b ≡ false → first_of (says source.HostText [] ∷ []) ≡ first_of (says source.HostText text ∷ [])
    by_test true e is = rw e (rw blank_nothing refl)
    by_test false e is = cc
uncaptioned_says (host.Captioned kind) caption.Absent row text is = refl
uncaptioned_says (host.Captioned kind) caption.Blank row text is = refl
uncaptioned_says host.Alternative c row text is = refl
uncaptioned_says host.Submit c row text is = refl
uncaptioned_says host.Reset c row text is = refl
uncaptioned_says host.Plain c row text is = refl
uncaptioned_says host.Group c row text is = refl
uncaptioned_says host.Nothing c row text is = refl

-- ---- what is kept with one tree more

-- what is kept of trees with this content and caption, behind what is kept so far
abbrev pub following : Caption → List ℕ → List ℕ → Option (List ℕ) → List ℕ
following caption.Absent so_far content captioned = kept_of captioned (so_far ++ content)
following caption.Blank so_far content captioned = so_far ++ content
following caption.Said so_far content captioned = so_far

abbrev pub IfSaid : Caption → Type 0 → Type 0
IfSaid caption.Absent P = Unit {0}
IfSaid caption.Blank P = Unit {0}
IfSaid caption.Said P = P

-- what is kept so far behind the start, and what is kept in all
pub record Keeps (start written : List ℕ) (c : Caption) (is_blank : Bool) (content : List ℕ) (captioned : Option (List ℕ)) (all : List ℕ) : Type 0 where
  pub so_far : List ℕ
  pub stands : written ≡ start ++ so_far
  pub follows : following c so_far content captioned ≡ all
  pub weighs : is_blank ≡ blank so_far
  pub speaks : IfSaid c (is_blank ≡ false)

-- a text among the others
stands_among : (row : Row) (start before now text so_far : List ℕ) → before ≡ start ++ so_far → now ≡ settled (place_at caption.Blank true) (length start) row (before ++ gap_before (place_at caption.Blank true) row) text
    → now ≡ start ++ (so_far ++ placed row text)
stands_among row start before now text so_far stands now_is =
    now_is ∙ gaps_placed row before text ∙ ap (λ t. t ++ placed row text) stands ∙ append_assoc start so_far (placed row text)

pub keeps-step : (row : Row) (start before now text content : List ℕ) (captioned : Option (List ℕ)) (all : List ℕ) (c : Caption) (is_blank captions : Bool)
    → (is : Keeps start before c is_blank (placed row text ++ content) (option_or (if captions then Some text else None) captioned) all)
    → IsUtf8 is.so_far → IsUtf8 text
    → now ≡ settled (place_at c captions) (length start) row (before ++ gap_before (place_at c captions) row) text
    → Keeps start now (caption_or c (captioning captions (blank text))) (is_blank && blank text) content captioned all
keeps-step row start before now text content captioned all caption.Said is_blank captions is so_far_is text_is now_is = record {
  so_far = is.so_far;
  stands = now_is ∙ append-nil before ∙ is.stands;
  follows = is.follows;
  weighs = ap (λ b. b && blank text) is.speaks ∙ sym is.speaks ∙ is.weighs;
  speaks = ap (λ b. b && blank text) is.speaks;
}
keeps-step row start before now text content captioned all caption.Blank is_blank captions is so_far_is text_is now_is = record {
  so_far = is.so_far ++ placed row text;
  stands = stands_among row start before now text is.so_far is.stands now_is;
  follows = append_assoc is.so_far (placed row text) content ∙ is.follows;
  weighs = ap (λ b. b && blank text) is.weighs ∙ sym (blank_behind row is.so_far text so_far_is text_is);
  speaks = tt;
}
keeps-step row start before now text content captioned all caption.Absent is_blank false is so_far_is text_is now_is = record {
  so_far = is.so_far ++ placed row text;
  stands = stands_among row start before now text is.so_far is.stands now_is;
  follows = ap (kept_of captioned) (append_assoc is.so_far (placed row text) content) ∙ is.follows;
  weighs = ap (λ b. b && blank text) is.weighs ∙ sym (blank_behind row is.so_far text so_far_is text_is);
  speaks = tt;
}
keeps-step row start before now text content captioned all caption.Absent is_blank true is so_far_is text_is now_is = by_test (blank text) refl now_is is.follows
  where
    by_test : (b : Bool) → blank text ≡ b
        → now ≡ (if b then (before ++ []) ++ placed row text else take (length start) (before ++ []) ++ text)
        → (if b then is.so_far ++ (placed row text ++ content) else text) ≡ all
        → Keeps start now (if b then caption.Blank else caption.Said) (is_blank && b) content captioned all
    by_test true e now_is follows = record {
      so_far = is.so_far ++ placed row text;
      stands =
          now_is ∙ ap (λ t. t ++ placed row text) (append-nil before ∙ is.stands) ∙ append_assoc start is.so_far (placed row text);
      follows = append_assoc is.so_far (placed row text) content ∙ follows;
      weighs = ap (λ b. b && true) is.weighs ∙ sym (ap (λ b. blank is.so_far && b) e) ∙ sym (blank_behind row is.so_far text so_far_is text_is);
      speaks = tt;
    }
    by_test false e now_is follows = record {
      so_far = text;
      stands = now_is ∙ ap (λ t. t ++ text) (front_at start is.so_far (before ++ []) (length start) refl (append-nil before ∙ is.stands));
      follows = follows;
      weighs = and-false is_blank ∙ sym e;
      speaks = and-false is_blank;
    }

-- nothing is kept at first
pub keeps-start : (start content : List ℕ) (captioned : Option (List ℕ)) (c : Caption) (is_blank : Bool) → c ≡ caption.Absent → is_blank ≡ true
    → Keeps start start c is_blank content captioned (kept_of captioned content)
keeps-start start content captioned c is_blank absent is = record {
  so_far = [];
  stands = sym (append-nil start);
  follows = ap (λ c. following c [] content captioned) absent;
  weighs = is ∙ sym blank_nothing;
  speaks = subst (λ (c : Caption). IfSaid c (is_blank ≡ false)) (sym absent) tt;
}

-- nothing is still to come
pub keeps-end : (start written all : List ℕ) (c : Caption) (is_blank : Bool) → Keeps start written c is_blank [] None all
    → (written ≡ start ++ all) × (is_blank ≡ blank all)
keeps-end start written all c is_blank is =
    let same = so_far_is c is.so_far ∙ is.follows in
    (is.stands ∙ ap (λ t. start ++ t) same, is.weighs ∙ ap blank same)
  where
    so_far_is : (c : Caption) (so_far : List ℕ) → so_far ≡ following c so_far [] None
    so_far_is caption.Absent so_far = sym (append-nil so_far)
    so_far_is caption.Blank so_far = sym (append-nil so_far)
    so_far_is caption.Said so_far = refl
