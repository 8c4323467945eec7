-- What elements say by their own kind: HTML's and SVG's native texts.
use Rattle.std.specs.Prelude.{◌&&◌, ℕ, List, [], codes, Bool, true, false, if◌then◌else◌, Option, Some, None, unwrap_or}
use Rattle.std.specs.Option.{option_map_or}
use Rattle.snap_tree.specs.declared.row.Body.{Body}
use Rattle.snap_tree.specs.declared.row.Body.TheVariants.{Element, Words}
use Rattle.snap_tree.specs.declared.row.Row.{Row}
use Rattle.snap_tree.specs.declared.row.Space.{Space}
use Rattle.snap_tree.specs.declared.row.Space.TheVariants.{Html, Svg, Other}
use Rattle.texts.specs.Words.{same_folded}
use Rattle.acc_tree.specs.declared.attributes.Attribute.TheVariants as attribute
use Rattle.acc_tree.specs.declared.inputs.InputType.{InputType}
use Rattle.acc_tree.specs.declared.inputs.InputType.TheVariants as type
use Rattle.acc_tree.specs.declared.tags.Tag.{Tag}
use Rattle.acc_tree.specs.declared.tags.Tag.TheVariants as tag
use Rattle.acc_tree.specs.Inputs.{input_type}
use Rattle.acc_tree.specs.Seen.{attr, text_at}
use Rattle.acc_tree.specs.Tags.{html_tag}
use Rattle.acc_name.specs.declared.hosts.CaptionKind.{CaptionKind}
use Rattle.acc_name.specs.declared.hosts.CaptionKind.TheVariants as caption
use Rattle.acc_name.specs.declared.hosts.Host.{Host}
use Rattle.acc_name.specs.declared.hosts.Host.TheVariants as host

-- ---- SVG

abbrev pub is_svg_space : Space → Bool
is_svg_space Html = false
is_svg_space Svg = true
is_svg_space Other = false

-- an element of SVG with this tag
abbrev pub is_svg_body : List ℕ → Body → Bool
is_svg_body word (Element space tag attrs) = is_svg_space space && same_folded word tag
is_svg_body word (Words text) = false

abbrev pub is_svg : List ℕ → Row → Bool
is_svg word row = is_svg_body word row.body

-- ---- the text of an element's kind

-- an `input` by its type
abbrev pub input_host : InputType → Host
input_host type.Image = host.Alternative
input_host type.Submit = host.Submit
input_host type.Reset = host.Reset
input_host type.Button = host.Plain
input_host _ = host.Nothing

abbrev pub tag_host : Row → Tag → Host
tag_host row tag.Img = host.Alternative
tag_host row tag.Area = host.Alternative
tag_host row tag.Input = input_host (input_type row)
tag_host row tag.Optgroup = host.Group
tag_host row tag.Fieldset = host.Captioned caption.Legend
tag_host row tag.Figure = host.Captioned caption.Figcaption
tag_host row tag.Table = host.Captioned caption.Caption
tag_host row _ = host.Nothing

-- where the text of the element's kind stands
abbrev pub host_of : Row → Host
host_of row =
    if is_svg (codes "svg") row then host.Captioned caption.SvgTitle
    else option_map_or (tag_host row) (html_tag row) host.Nothing

-- the value, be it blank; these words where it isn't there
abbrev pub value_or : List ℕ → Row → List ℕ
value_or words row = unwrap_or (attr attribute.Value row) words

-- the text itself, given that of the child that captions the element
abbrev pub host_text : Host → Row → Option (List ℕ) → List ℕ
host_text host.Alternative row captioned = text_at attribute.Alt row
host_text host.Submit row captioned = value_or (codes "Submit") row
host_text host.Reset row captioned = value_or (codes "Reset") row
host_text host.Plain row captioned = text_at attribute.Value row
host_text host.Group row captioned = text_at attribute.Label row
host_text (host.Captioned kind) row captioned = unwrap_or captioned []
host_text host.Nothing row captioned = []

-- ---- captions

abbrev pub caption_in : Host → Option CaptionKind
caption_in host.Alternative = None
caption_in host.Submit = None
caption_in host.Reset = None
caption_in host.Plain = None
caption_in host.Group = None
caption_in (host.Captioned kind) = Some kind
caption_in host.Nothing = None

-- which children caption the element
abbrev pub caption_of : Row → Option CaptionKind
caption_of row = caption_in (host_of row)

abbrev pub is_legend : Option Tag → Bool
is_legend (Some tag.Legend) = true
is_legend _ = false

abbrev pub is_figcaption : Option Tag → Bool
is_figcaption (Some tag.Figcaption) = true
is_figcaption _ = false

abbrev pub is_table_caption : Option Tag → Bool
is_table_caption (Some tag.Caption) = true
is_table_caption _ = false

-- a child that captions an element of this kind
abbrev pub captions : CaptionKind → Row → Bool
captions caption.Legend row = is_legend (html_tag row)
captions caption.Figcaption row = is_figcaption (html_tag row)
captions caption.Caption row = is_table_caption (html_tag row)
captions caption.SvgTitle row = is_svg (codes "title") row

abbrev pub is_captioning : Option CaptionKind → Row → Bool
is_captioning kind row = option_map_or (λ k. captions k row) kind false
