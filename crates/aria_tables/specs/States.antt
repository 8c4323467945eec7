-- The states and properties that a role requires. The table is this profile's: a combobox isn't asked for
-- aria-controls, and a separator for nothing.
use Rattle.std.specs.Prelude.{List, [], ◌∷◌}
use Rattle.aria_tables.specs.declared.attr.AriaAttr.{AriaAttr}
use Rattle.aria_tables.specs.declared.attr.AriaAttr.TheVariants.{Checked, Controls, Expanded, Level, Valuenow}
use Rattle.aria_tables.specs.declared.role.Role.{Role}
use Rattle.aria_tables.specs.declared.role.Role.TheVariants.{Checkbox, Combobox, Heading, Menuitemcheckbox, Menuitemradio, Meter, Radio, Scrollbar, Slider, Switch}

abbrev pub required_states : Role → List AriaAttr
required_states Checkbox = Checked ∷ []
required_states Radio = Checked ∷ []
required_states Switch = Checked ∷ []
required_states Menuitemcheckbox = Checked ∷ []
required_states Menuitemradio = Checked ∷ []
required_states Heading = Level ∷ []
required_states Slider = Valuenow ∷ []
required_states Meter = Valuenow ∷ []
required_states Scrollbar = Valuenow ∷ Controls ∷ []
required_states Combobox = Expanded ∷ []
required_states _ = []
