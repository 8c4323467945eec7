-- The word that a report prints for each reason, and the reason that a word is read as.
use Rattle.std.specs.Prelude.{ℕ, List, codes, bytes_eq, Option}
use Rattle.std.specs.List.{find}
use Rattle.rule_core.specs.declared.reason.Reason.{Reason}
use Rattle.rule_core.specs.declared.reason.Reason.TheVariants.{Met, Decorative, Merged, NoTitle, EmptyTitle, JudgeTitle, NoLang, EmptyLang, UnknownLang, ThreeLetter, NoZoom, SmallScale, Delay, NoName, JudgeHeading, BadTokens, NoKnownRole, OutsideRole, UnknownAttr, LaterAttr, BadValue, DeadReference, MissingState, BadOwned, NothingOwned, FocusableInside, HeadersOutside, NoCells, LargeGrid, NoHeading, JudgeHeadingStart, NoLandmark, JudgeLandmark, NoSkipLink, JudgeSkipLink, NoCollapse, JudgeCollapse, LangMismatch, JudgeLabel, JudgeImage, NotPermitted, NoRole, NoContext, MaybeOwned, MarkedExposed, LabelMissing, JudgeLabelInName}
use Rattle.rule_core.specs.declared.reason.TheConstants.{REASONS}

abbrev pub word_of : Reason → List ℕ
word_of Met = codes "ok"
word_of Decorative = codes "decorative"
word_of Merged = codes "merged"
word_of NoTitle = codes "no-title"
word_of EmptyTitle = codes "empty-title"
word_of JudgeTitle = codes "judge-title"
word_of NoLang = codes "no-lang"
word_of EmptyLang = codes "empty-lang"
word_of UnknownLang = codes "unknown-lang"
word_of ThreeLetter = codes "three-letter"
word_of NoZoom = codes "no-zoom"
word_of SmallScale = codes "small-scale"
word_of Delay = codes "delay"
word_of NoName = codes "no-name"
word_of JudgeHeading = codes "judge-heading"
word_of BadTokens = codes "bad-tokens"
word_of NoKnownRole = codes "no-known-role"
word_of OutsideRole = codes "outside-role"
word_of UnknownAttr = codes "unknown-attr"
word_of LaterAttr = codes "later-attr"
word_of BadValue = codes "bad-value"
word_of DeadReference = codes "dead-reference"
word_of MissingState = codes "missing-state"
word_of BadOwned = codes "bad-owned"
word_of NothingOwned = codes "nothing-owned"
word_of FocusableInside = codes "focusable-inside"
word_of HeadersOutside = codes "headers-outside"
word_of NoCells = codes "no-cells"
word_of LargeGrid = codes "large-grid"
word_of NoHeading = codes "no-heading"
word_of JudgeHeadingStart = codes "judge-heading-start"
word_of NoLandmark = codes "no-landmark"
word_of JudgeLandmark = codes "judge-landmark"
word_of NoSkipLink = codes "no-skip-link"
word_of JudgeSkipLink = codes "judge-skip-link"
word_of NoCollapse = codes "no-collapse"
word_of JudgeCollapse = codes "judge-collapse"
word_of LangMismatch = codes "lang-mismatch"
word_of JudgeLabel = codes "judge-label"
word_of JudgeImage = codes "judge-image"
word_of NotPermitted = codes "not-permitted"
word_of NoRole = codes "no-role"
word_of NoContext = codes "no-context"
word_of MaybeOwned = codes "maybe-owned"
word_of MarkedExposed = codes "marked-exposed"
word_of LabelMissing = codes "label-missing"
word_of JudgeLabelInName = codes "judge-label-in-name"

-- the reason that has the word, where there is one
abbrev pub reason_of : List ℕ → Option Reason
reason_of word = find (λ reason. bytes_eq (word_of reason) word) REASONS
