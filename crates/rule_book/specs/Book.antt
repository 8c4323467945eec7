-- The book of all rules, in the order of their numbers.
use Rattle.std.specs.Prelude.{List, [], ◌∷◌, filter, not, None, codes}
use Rattle.rule_core.specs.declared.info.RuleInfo.{RuleInfo}
use Rattle.rule_core.specs.declared.info.Class.TheVariants.{Whole}
use Rattle.rule_core.specs.Infos.{is_atomic}
use Rattle.rule_core.specs.Books.{Entry, infos_of}
use Rattle.rules_page.specs.PageTitle.{page_has_title, page_has_title_info}
use Rattle.rules_page.specs.TitleDescriptive.{title_is_descriptive, title_is_descriptive_info}
use Rattle.rules_page.specs.Language.{page_has_lang, page_has_lang_info}
use Rattle.rules_page.specs.LanguageKnown.{language_is_known, language_is_known_info}
use Rattle.rules_page.specs.LanguageOfParts.{language_of_part_is_known, language_of_part_is_known_info}
use Rattle.rules_page.specs.Viewport.{viewport_allows_zoom, viewport_allows_zoom_info}
use Rattle.rules_page.specs.Refresh.{page_has_no_delay, page_has_no_delay_info}
use Rattle.rules_bypass.specs.Bypass.{has_heading, has_heading_info, has_landmark, has_landmark_info, has_skip_link, has_skip_link_info, has_collapse, has_collapse_info}
use Rattle.rules_names.specs.Button.{button_has_name, button_has_name_info}
use Rattle.rules_names.specs.Link.{link_has_name, link_has_name_info}
use Rattle.rules_names.specs.Image.{image_has_name, image_has_name_info}
use Rattle.rules_names.specs.ImageButton.{image_button_has_name, image_button_has_name_info}
use Rattle.rules_names.specs.FormField.{form_field_has_name, form_field_has_name_info}
use Rattle.rules_names.specs.Iframe.{iframe_has_name, iframe_has_name_info}
use Rattle.rules_names.specs.Heading.{heading_has_name, heading_has_name_info}
use Rattle.rules_names.specs.SvgImage.{svg_image_has_name, svg_image_has_name_info}
use Rattle.rules_names.specs.HeadingDescriptive.{heading_is_descriptive, heading_is_descriptive_info}
use Rattle.rules_aria.specs.Autocomplete.{autocomplete_is_valid, autocomplete_is_valid_info}
use Rattle.rules_aria.specs.Role.{role_is_valid, role_is_valid_info}
use Rattle.rules_aria.specs.AriaAttribute.{aria_attribute_is_defined, aria_attribute_is_defined_info}
use Rattle.rules_aria.specs.AriaValue.{aria_value_is_valid, aria_value_is_valid_info}
use Rattle.rules_aria.specs.RequiredStates.{has_required_states, has_required_states_info}
use Rattle.rules_aria.specs.OwnedElements.{owns_required_elements, owns_required_elements_info}
use Rattle.rules_aria.specs.AriaHidden.{hidden_holds_no_focus, hidden_holds_no_focus_info}
use Rattle.rules_tables.specs.HeadersReferToCells.{headers_refer_to_cells, headers_refer_to_cells_info}
use Rattle.rules_tables.specs.HeaderHasCells.{header_has_cells, header_has_cells_info}

-- ACT rule cf77f2, Bypass Blocks of Repeated Content: a composite of the rules on the ways to bypass
abbrev pub blocks_can_be_bypassed_info : RuleInfo
blocks_can_be_bypassed_info =
    record { no = record { 0 = 30 }; id = codes "cf77f2"; applies = Whole; expects = Whole; inputs = 26 ∷ 27 ∷ 28 ∷ 29 ∷ [] }

-- a composite rule, of which the book itself says nothing: its outcomes are those of its inputs, merged
abbrev pub composite : RuleInfo → Entry
composite info = record { info = info; says = λ page n. None }

abbrev pub thirty : List Entry
thirty =
    record { info = page_has_title_info; says = page_has_title }
    ∷ record { info = title_is_descriptive_info; says = title_is_descriptive }
    ∷ record { info = page_has_lang_info; says = page_has_lang }
    ∷ record { info = language_is_known_info; says = language_is_known }
    ∷ record { info = language_of_part_is_known_info; says = language_of_part_is_known }
    ∷ record { info = viewport_allows_zoom_info; says = viewport_allows_zoom }
    ∷ record { info = page_has_no_delay_info; says = page_has_no_delay }
    ∷ record { info = button_has_name_info; says = button_has_name }
    ∷ record { info = link_has_name_info; says = link_has_name }
    ∷ record { info = image_has_name_info; says = image_has_name }
    ∷ record { info = image_button_has_name_info; says = image_button_has_name }
    ∷ record { info = form_field_has_name_info; says = form_field_has_name }
    ∷ record { info = iframe_has_name_info; says = iframe_has_name }
    ∷ record { info = heading_has_name_info; says = heading_has_name }
    ∷ record { info = svg_image_has_name_info; says = svg_image_has_name }
    ∷ record { info = heading_is_descriptive_info; says = heading_is_descriptive }
    ∷ record { info = autocomplete_is_valid_info; says = autocomplete_is_valid }
    ∷ record { info = role_is_valid_info; says = role_is_valid }
    ∷ record { info = aria_attribute_is_defined_info; says = aria_attribute_is_defined }
    ∷ record { info = aria_value_is_valid_info; says = aria_value_is_valid }
    ∷ record { info = has_required_states_info; says = has_required_states }
    ∷ record { info = owns_required_elements_info; says = owns_required_elements }
    ∷ record { info = hidden_holds_no_focus_info; says = hidden_holds_no_focus }
    ∷ record { info = headers_refer_to_cells_info; says = headers_refer_to_cells }
    ∷ record { info = header_has_cells_info; says = header_has_cells }
    ∷ record { info = has_heading_info; says = has_heading }
    ∷ record { info = has_landmark_info; says = has_landmark }
    ∷ record { info = has_skip_link_info; says = has_skip_link }
    ∷ record { info = has_collapse_info; says = has_collapse }
    ∷ composite blocks_can_be_bypassed_info
    ∷ []

-- the infos of the composite rules of a book
abbrev pub composites_of : List Entry → List RuleInfo
composites_of entries = filter (λ i. not (is_atomic i)) (infos_of entries)
