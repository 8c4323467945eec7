-- A put whose body was read straight as a snapshot, without the JSON value that it is.
use Rattle.std.proofs.Common.{◌≡◌, ℕ, List, Bool, true, false, if◌then◌else◌, Option, Some, None, Result, Ok, Err, inl, inr, refl, sym, ap, ◌∙◌, subst}
use Rattle.serde_json.specs.Data.{Data}
use Rattle.serde_json.specs.Find.{as_object}
use Rattle.snap_tree.specs.declared.row.Raw.{Raw}
use Rattle.snap_json.specs.declared.fault.Field.TheVariants as field
use Rattle.snap_json.specs.declared.fault.SnapFault.{SnapFault}
use Rattle.snap_json.specs.declared.fault.SnapFault.TheVariants.{NotJson, Shape, TooLong, OutOfMemory}
use Rattle.snap_json.specs.Faults as snap
use Rattle.snap_json.specs.Pages as pages
use Rattle.http_routes.specs.declared.part.Part.TheVariants.{Body}
use Rattle.http_routes.specs.declared.fault.RequestFault.{RequestFault}
use Rattle.http_messages.specs.declared.head.Head.{Head}
use Rattle.desk_core.specs.declared.command.Command.{Command}
use Rattle.desk_core.specs.declared.command.Command.TheVariants.{PutPage}
use Rattle.http_commands.specs.declared.unasked.Unasked.{Unasked}
use Rattle.http_commands.specs.Shapes.{◌>>=◌, in_shape, in_json, unless_fault, snapshot_in, Gives}
use Rattle.http_commands.specs.Revisions.{revision_in}
use Rattle.http_commands.specs.Commands.{put_page, put_raw}

-- the value of which a page is what a definition gives
abbrev Value : Raw → (Data → Result Raw SnapFault) → Option Data → Type 0
Value raw gives o = (d : Data) × (o ≡ Some d) × (gives d ≡ Ok raw)

value_of : (raw : Raw) (gives : Data → Result Raw SnapFault) (few : Bool) (o : Option Data) → (if few then snap.◌>>=◌ (pages.in_json o) gives else Err TooLong) ≡ Ok raw → Value raw gives o
value_of raw gives true (Some d) is = (d, refl, is)
value_of raw gives true None is = let never : Err NotJson ≡ Ok raw = is in absurd cc
value_of raw gives false o is = let never : Err TooLong ≡ Ok raw = is in absurd cc

-- a page is that of an object
past_object : {A : Type 0} (o : Option A) (next : A → Result Raw SnapFault) (raw : Raw) (r : Result Raw RequestFault)
    → snap.◌>>=◌ (snap.in_shape 0 field.Top o) next ≡ Ok raw → (in_shape Body 0 o >>= (λ members. r)) ≡ r
past_object (Some members) next raw r is = refl
past_object None next raw r is = let never : Err (Shape 0 field.Top) ≡ Ok raw = is in absurd cc

snapshot_is : (d : Data) (raw : Raw) → pages.sent_page_of d ≡ Ok raw → snapshot_in d ≡ Ok raw
unfolding pages.page_of
snapshot_is d raw is = past_object (as_object d) _ raw (unless_fault (pages.sent_page_of d)) is ∙ ap unless_fault is

module _ (h : Head) (site page : List ℕ) (raw : Raw) where
  abbrev put : ℕ → Raw → Result Command RequestFault
  put rev r = Ok (PutPage site page rev r)

  put_at : (r : Result ℕ RequestFault) (d : Data) → snapshot_in d ≡ Ok raw → (r >>= (λ rev. snapshot_in d >>= put rev)) ≡ (r >>= (λ rev. put rev raw))
  put_at (Ok rev) d is = ap (λ s. s >>= put rev) is
  put_at (Err fault) d is = refl

  put_value : (body : List ℕ) → Value raw pages.sent_page_of (pages.json_of body) → put_page h body site page ≡ put_raw h site page raw
  put_value body (d, json, is) =
      ap (λ o. in_json o >>= (λ v. revision_in h >>= (λ rev. snapshot_in v >>= put rev))) json ∙ put_at (revision_in h) d (snapshot_is d raw is)

  put_straight : (body : List ℕ) → snap.Answers (Ok raw) (pages.sent_page body) → put_page h body site page ≡ put_raw h site page raw
  unfolding pages.page_in
  put_straight body (inl is) = put_value body (value_of raw pages.sent_page_of _ (pages.json_of body) (sym is))
  put_straight body (inr fails) = let never : Ok raw ≡ Err OutOfMemory = fails in absurd cc

  pub straight_given : (body : List ℕ) (result : Result Command Unasked) → snap.Answers (Ok raw) (pages.sent_page body)
      → Gives result (put_raw h site page raw) → Gives result (put_page h body site page)
  straight_given body result read gives = subst (λ given. Gives result given) (sym (put_straight body read)) gives
