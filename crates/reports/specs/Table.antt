-- The outcomes of a site as CSV: a header, and a record for each outcome.
use Rattle.std.specs.Prelude.{ℕ, List, [], ◌∷◌, map, codes, decimal}
use Rattle.std.specs.List.{flat_map}
use Rattle.csv.specs.Writing.{row_text, default_writer}
use Rattle.rule_core.specs.declared.info.RuleInfo.{RuleInfo}
use Rattle.rule_core.specs.Words.{word_of}
use Rattle.judge_core.specs.declared.outcomes.OutRow.{OutRow}
use Rattle.keep_core.specs.declared.page.SitePage.{SitePage}
use Rattle.reports.specs.TextReport.{outcome_word, of_rule}

-- a record is the list of its fields
abbrev pub Fields : Type 0
Fields = List (List ℕ)

abbrev pub header : Fields
header =
    codes "site" ∷ codes "page" ∷ codes "rev" ∷ codes "node" ∷ codes "rule" ∷ codes "outcome" ∷ codes "automatic" ∷ codes "reason" ∷ codes "judge" ∷ []

-- the record of a rule's row on a page
abbrev pub record_of : List ℕ → SitePage → RuleInfo → OutRow → Fields
record_of site page info row =
    site
    ∷ page.head.page
    ∷ decimal page.head.rev
    ∷ decimal row.node.0
    ∷ info.id
    ∷ outcome_word row.last
    ∷ outcome_word row.auto
    ∷ word_of row.reason
    ∷ row.hand
    ∷ []

-- the records of a rule's rows, in list order
abbrev pub rule_records : List ℕ → SitePage → RuleInfo → List Fields
rule_records site page info = map (record_of site page info) (of_rule page.outcomes.rows info)

-- the records of a page, rule by rule
abbrev pub page_records : List ℕ → List RuleInfo → SitePage → List Fields
page_records site infos page = flat_map (rule_records site page) infos

-- the records of a site, page by page
abbrev pub site_records : List ℕ → List RuleInfo → List SitePage → List Fields
site_records site infos pages = flat_map (page_records site infos) pages

-- records as the crate `csv` writes them with its default settings
abbrev pub written : List Fields → List ℕ
written records = flat_map (row_text default_writer) records

-- the outcomes of a site as CSV; a row of none of the rules is passed over
unfoldable pub csv_rows : List ℕ → List RuleInfo → List SitePage → List ℕ
csv_rows site infos pages = written (header ∷ site_records site infos pages)
