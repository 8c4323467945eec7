-- The book of forty: the book of thirty, and ten further rules behind it, in the order of the numbers.
use Rattle.std.specs.Prelude.{List, [], ◌∷◌, ◌++◌}
use Rattle.rule_core.specs.Books.{Entry}
use Rattle.rule_book.specs.Book.{thirty}
use Rattle.rules_more.specs.LanguagesMatch.{languages_match, languages_match_info}
use Rattle.rules_more.specs.DelayAtAll.{page_never_delays, page_never_delays_info}
use Rattle.rules_more.specs.LabelDescriptive.{label_is_descriptive, label_is_descriptive_info}
use Rattle.rules_more.specs.ImageDescriptive.{image_is_descriptive, image_is_descriptive_info}
use Rattle.rules_more.specs.Menuitem.{menuitem_has_name, menuitem_has_name_info}
use Rattle.rules_more.specs.PermittedState.{state_is_permitted, state_is_permitted_info}
use Rattle.rules_more.specs.RequiredContext.{stands_in_context, stands_in_context_info}
use Rattle.rules_more.specs.MarkedDecorative.{decorative_is_not_exposed, decorative_is_not_exposed_info}
use Rattle.rules_more.specs.Presentational.{presentational_holds_no_focus, presentational_holds_no_focus_info}
use Rattle.rules_more.specs.LabelInName.{name_has_label, name_has_label_info}

abbrev pub further : List Entry
further =
    record { info = languages_match_info; says = languages_match }
    ∷ record { info = page_never_delays_info; says = page_never_delays }
    ∷ record { info = label_is_descriptive_info; says = label_is_descriptive }
    ∷ record { info = image_is_descriptive_info; says = image_is_descriptive }
    ∷ record { info = menuitem_has_name_info; says = menuitem_has_name }
    ∷ record { info = state_is_permitted_info; says = state_is_permitted }
    ∷ record { info = stands_in_context_info; says = stands_in_context }
    ∷ record { info = decorative_is_not_exposed_info; says = decorative_is_not_exposed }
    ∷ record { info = presentational_holds_no_focus_info; says = presentational_holds_no_focus }
    ∷ record { info = name_has_label_info; says = name_has_label }
    ∷ []

abbrev pub forty : List Entry
forty = thirty ++ further
