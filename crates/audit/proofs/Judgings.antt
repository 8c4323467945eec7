-- The judgings of one rule more.
use Rattle.std.proofs.Common.{◌≡◌, ℕ, ◌+◌, ◌*◌, ◌<◌, ◌≤◌, cond, List, [], ◌∷◌, length, take, get_or, ap, ◌∙◌, arith}
use Rattle.std.proofs.Math.Nat.{mul-le-mul_right}
use Rattle.std.proofs.lemmas.List.Sums.{sum_by_more, sum_by_more_le}
use Rattle.snap_tree.specs.Trees.{Document, rows_of}
use Rattle.rule_core.specs.declared.info.RuleInfo.{RuleInfo}
use Rattle.rule_core.specs.Infos.{is_atomic}
use Rattle.rule_core.specs.Books.{Meaning}
use Rattle.judge_core.specs.Outcomes.{judgings}

joined : (all some one n : ℕ) → all ≡ some + one → all * n ≡ some * n + (0 + one) * n
joined all some one n h = ap (λ k. k * n) h ∙ omega arith

within : (all some one n : ℕ) → some + one ≤ all → some * n + (0 + one) * n ≤ all * n
within all some one n h = omega (arith, mul-le-mul_right n h)

-- after one more rule
pub judged_more : (infos : List RuleInfo) (means : Meaning) (page : Document) (i : ℕ) (d : RuleInfo) (start before now : ℕ) → i < length infos → before ≤ start + judgings (record { infos = take i infos; means = means }) page →
    now ≤ before + judgings (record { infos = get_or infos i d ∷ []; means = means }) page → now ≤ start + judgings (record { infos = take (i + 1) infos; means = means }) page
judged_more infos means page i d start before now h some one =
    omega (arith, some, one, joined _ _ _ (length (rows_of page.trees)) (sum_by_more (λ (info : RuleInfo). cond (is_atomic info) 1 0) infos i d h))

-- and so within those of all rules
pub judged_within : (infos : List RuleInfo) (means : Meaning) (page : Document) (i : ℕ) (d : RuleInfo) (start before now : ℕ) → i < length infos → before ≤ start + judgings (record { infos = take i infos; means = means }) page →
    now ≤ before + judgings (record { infos = get_or infos i d ∷ []; means = means }) page → now ≤ start + judgings (record { infos = infos; means = means }) page
judged_within infos means page i d start before now h some one =
    omega (arith, some, one, within _ _ _ (length (rows_of page.trees)) (sum_by_more_le (λ (info : RuleInfo). cond (is_atomic info) 1 0) infos i d h))
