-- The bodies of the replies that show a page: its tree, or its outcomes.
use Rattle.std.specs.Prelude.{ℕ, List, [], ◌∷◌, ◌++◌, map, filter, codes, decimal, Option, Some, None}
use Rattle.std.specs.Option.{option_map_or}
use Rattle.serde_json.specs.Data.{Data, string, array, object, no_members, member}
use Rattle.serde_json.specs.View.{items_of}
use Rattle.serde_json.specs.Written.{compact_text}
use Rattle.hex.specs.Hex.{encode_lower}
use Rattle.snap_tree.specs.Trees.{rows_of}
use Rattle.snap_json.specs.Written.{snapshot_text}
use Rattle.rule_core.specs.declared.info.RuleInfo.{RuleInfo}
use Rattle.rule_core.specs.Words.{word_of}
use Rattle.rule_core.specs.Brief.{digest}
use Rattle.judge_core.specs.declared.outcomes.OutRow.{OutRow}
use Rattle.reports.specs.TextReport.{outcome_word, is_inapplicable, is_known}
use Rattle.keep_core.specs.declared.page.Page.{Page}
use Rattle.keep_core.specs.declared.page.SitePage.{SitePage}
use Rattle.http_replies.specs.Words.{whole, id_of}

-- a page: its revision, and its tree as a snapshot
unfoldable pub page_text : Page → List ℕ
page_text p = codes "{\"rev\":" ++ decimal p.head.rev ++ codes ",\"snapshot\":" ++ snapshot_text p.tree.address (rows_of p.tree.trees) ++ codes "}"

unfoldable pub row_data : List RuleInfo → OutRow → Data
row_data infos row =
    object (member (codes "automatic") (string (outcome_word row.auto))
    (member (codes "by") (string row.hand)
    (member (codes "digest") (string (encode_lower (digest row.evidence)))
    (member (codes "evidence") (string row.evidence)
    (member (codes "node") (whole row.node.0)
    (member (codes "outcome") (string (outcome_word row.last))
    (member (codes "reason") (string (word_of row.reason))
    (member (codes "rule") (string (id_of infos row.rule))
    no_members))))))))

-- the ids of the rules without a row
abbrev pub inapplicable_ids : List RuleInfo → List OutRow → List Data
inapplicable_ids infos rows = map (λ info. string info.id) (filter (is_inapplicable rows) infos)

-- the rows of these rules, in list order; others are passed over
abbrev pub known_rows : List RuleInfo → List OutRow → List Data
known_rows infos rows = map (row_data infos) (filter (is_known infos) rows)

unfoldable pub outcomes_data : List RuleInfo → SitePage → Data
outcomes_data infos p =
    object (member (codes "inapplicable") (array (items_of (inapplicable_ids infos p.outcomes.rows)))
    (member (codes "outcomes") (array (items_of (known_rows infos p.outcomes.rows)))
    (member (codes "rev") (whole p.head.rev)
    no_members)))
