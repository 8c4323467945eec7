-- The body of the reply that tells the judgements of a page.
use Rattle.std.specs.Prelude.{List, map, codes}
use Rattle.serde_json.specs.Data.{Data, string, boolean, array, object, no_members, member}
use Rattle.serde_json.specs.View.{items_of}
use Rattle.hex.specs.Hex.{encode_lower}
use Rattle.rule_core.specs.declared.info.RuleInfo.{RuleInfo}
use Rattle.rule_core.specs.Brief.{digest}
use Rattle.reports.specs.TextReport.{outcome_word}
use Rattle.kept_verdicts.specs.declared.verdicts.KeptVerdict.{KeptVerdict}
use Rattle.desk_core.specs.declared.reply.PageVerdicts.{PageVerdicts}
use Rattle.http_replies.specs.Words.{whole, id_of}

-- a judgement: who judged, whether it counts, and what was said of which evidence
unfoldable pub verdict_data : List RuleInfo → KeptVerdict → Data
verdict_data infos v =
    object (member (codes "by") (string v.judgement.hand)
    (member (codes "counts") (boolean v.counts)
    (member (codes "digest") (string (encode_lower (digest v.judgement.evidence)))
    (member (codes "node") (whole v.judgement.node.0)
    (member (codes "note") (string v.judgement.note)
    (member (codes "rule") (string (id_of infos v.judgement.rule))
    (member (codes "verdict") (string (outcome_word v.judgement.verdict))
    no_members)))))))

unfoldable pub verdicts_data : List RuleInfo → PageVerdicts → Data
verdicts_data infos p =
    object (member (codes "rev") (whole p.rev)
    (member (codes "verdicts") (array (items_of (map (verdict_data infos) p.verdicts)))
    no_members))
