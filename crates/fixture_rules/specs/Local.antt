-- The book of marks is local: each of its rules looks at the node itself.
use Rattle.std.proofs.Common.{refl}
use Rattle.acc_tree.specs.declared.attributes.Attribute.{Attribute}
use Rattle.acc_tree.specs.declared.attributes.Attribute.TheVariants as attribute
use Rattle.rule_core.specs.declared.info.RuleInfo.{RuleInfo}
use Rattle.rule_core.specs.Books.{book_of}
use Rattle.rule_core.specs.Local.{IsLocal, IsLocalBook}
use Rattle.rule_sights.proofs.Resting.{kept_alone, by_applicability}
use Rattle.rule_sights.proofs.Tables.{table_local}
use Rattle.fixture_rules.specs.Marks.{mark_verdict, marked, alt_info, title_info, lang_info, marks}

mark_local : (info : RuleInfo) (name : Attribute) → IsLocal info (marked name)
mark_local info name = by_applicability info (marked name) (kept_alone info.applies (mark_verdict name))

-- of a composite rule the book itself says nothing
pub marks_local : IsLocalBook (book_of marks)
marks_local =
    table_local marks refl (
      λ is old new n versions k. refl,
      (λ is. mark_local alt_info attribute.Alt, (λ is. mark_local title_info attribute.Title, (λ is. mark_local lang_info attribute.Lang, (λ is old new n versions k. refl, tt)))),
    )
