-- Tokens of assertions, one after another.
use Rattle.std.proofs.Common.{◌≡◌, ℕ, List, [], ◌∷◌, ◌++◌, map, refl, sym, ap, ◌∙◌, append_assoc, append-nil}
use Rattle.std.specs.List.{flat_map}
use Rattle.json.specs.Token.{Token, key, begin_object, end_object, begin_array, end_array}
use Rattle.json.specs.Tree.{items_tokens}
use Rattle.json.specs.Print.{print}
use Rattle.serde_json.specs.Data.{Data}
use Rattle.serde_json.specs.View.{items_of}
use Rattle.serde_json.specs.Written.{compact_text, items_outline}
use Rattle.serde_json.proofs.Texts.{print-outline}
use Rattle.rule_core.specs.declared.info.RuleInfo.{RuleInfo}
use Rattle.keep_core.specs.declared.page.SitePage.{SitePage}
use Rattle.reports.specs.declared.term.Term.TheVariants as term
use Rattle.reports.specs.Terms.{text_of}
use Rattle.reports.specs.Writing.{tokens_of, all_tokens}
use Rattle.reports.specs.Earl.{context, assertions, earl_data}

items_tokens_of : (ds : List Data) → items_tokens (items_outline (items_of ds)) ≡ all_tokens ds ++ end_array ∷ []
items_tokens_of [] = refl
items_tokens_of (d ∷ ds) = ap (λ l. tokens_of d ++ l) (items_tokens_of ds) ∙ sym (append_assoc (tokens_of d) (all_tokens ds) (end_array ∷ []))

-- the tokens that stand before the assertions
abbrev pub front : List Token
front = begin_object ∷ key (text_of term.AtContext) ∷ (tokens_of context ++ (key (text_of term.AtGraph) ∷ begin_array ∷ []))

-- the tokens of the whole are printed as its text
pub earl_text : (infos : List RuleInfo) (pages : List SitePage) (ts : List Token) → ts ≡ ((front ++ all_tokens (assertions infos pages)) ++ end_array ∷ []) ++ end_object ∷ [] → print ts ≡ compact_text (earl_data infos pages)
unfolding earl_data
earl_text infos pages ts is =
    let whole : ts ≡ tokens_of (earl_data infos pages) = is ∙ ap (λ l. front ++ (l ++ end_object ∷ [])) (sym (items_tokens_of (assertions infos pages))) in
    ap print whole ∙ print-outline (earl_data infos pages)
