-- What is kept of what trees say to the node above them. Where the first that captions it isn't blank, its
-- text names that node before their content does, and stands in the place of the content.
use Rattle.std.specs.Prelude.{not, ℕ, List, [], Bool, false, if◌then◌else◌, Option, Some, None}
use Rattle.texts.specs.Words.{blank}
use Rattle.acc_name.specs.declared.captions.Caption.{Caption}
use Rattle.acc_name.specs.declared.captions.Caption.TheVariants as caption
use Rattle.acc_name.specs.declared.hosts.Host.{Host}
use Rattle.acc_name.specs.declared.hosts.Host.TheVariants as host
use Rattle.acc_name.specs.Names.{Heard}

-- ---- what is known of a caption

-- what is known of a root, given whether it captions the node above, and whether its text is blank
abbrev pub captioning : Bool → Bool → Caption
captioning captions is_blank = if captions then (if is_blank then caption.Blank else caption.Said) else caption.Absent

-- what is known of a caption that may be there
abbrev pub weighed : Option (List ℕ) → Caption
weighed None = caption.Absent
weighed (Some text) = if blank text then caption.Blank else caption.Said

-- the first of two that is there
abbrev pub caption_or : Caption → Caption → Caption
caption_or caption.Absent later = later
caption_or caption.Blank later = caption.Blank
caption_or caption.Said later = caption.Said

-- ---- what is kept

-- the caption where it isn't blank, and else the content
abbrev pub kept_of : Option (List ℕ) → List ℕ → List ℕ
kept_of None content = content
kept_of (Some text) content = if blank text then content else text

abbrev pub kept : Heard → List ℕ
kept said = kept_of said.caption said.content

-- the caption, where this is kept: of a blank one nothing is
abbrev pub caption_kept : Caption → List ℕ → Option (List ℕ)
caption_kept caption.Absent text = None
caption_kept caption.Blank text = Some []
caption_kept caption.Said text = Some text

-- a caption that isn't blank names an element that children caption
abbrev pub is_captioned : Host → Caption → Bool → Bool
is_captioned (host.Captioned kind) caption.Said is_blank = not is_blank
is_captioned _ _ is_blank = false
