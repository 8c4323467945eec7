-- Which languages are known by the primary subtag of a language tag (BCP 47), on a page whose site accepts some more.
use Rattle.std.specs.Prelude.{◌&&◌, ◌||◌, ◌==◌, ℕ, List, [], ◌∷◌, length, codes, Bool, if◌then◌else◌}
use Rattle.std.specs.Char.{is_ascii_alphabetic}
use Rattle.std.specs.List.{list_all, before_first}
use Rattle.aria_tables.specs.Words.{is_among}
use Rattle.rule_core.specs.declared.reason.Reason.TheVariants.{UnknownLang, ThreeLetter}
use Rattle.rule_core.specs.declared.finding.Finding.{Finding}
use Rattle.rule_core.specs.declared.verdict.Verdict.{Verdict}
use Rattle.rule_core.specs.Findings.{met, failed, cant_tell, verdict_of}

-- the subtags of two letters
abbrev pub languages : List (List ℕ)
languages =
    codes "aa" ∷ codes "ab" ∷ codes "ae" ∷ codes "af" ∷ codes "ak" ∷ codes "am" ∷ codes "an" ∷ codes "ar" ∷
    codes "as" ∷ codes "av" ∷ codes "ay" ∷ codes "az" ∷
    codes "ba" ∷ codes "be" ∷ codes "bg" ∷ codes "bh" ∷ codes "bi" ∷ codes "bm" ∷ codes "bn" ∷ codes "bo" ∷
    codes "br" ∷ codes "bs" ∷
    codes "ca" ∷ codes "ce" ∷ codes "ch" ∷ codes "co" ∷ codes "cr" ∷ codes "cs" ∷ codes "cu" ∷ codes "cv" ∷
    codes "cy" ∷
    codes "da" ∷ codes "de" ∷ codes "dv" ∷ codes "dz" ∷
    codes "ee" ∷ codes "el" ∷ codes "en" ∷ codes "eo" ∷ codes "es" ∷ codes "et" ∷ codes "eu" ∷
    codes "fa" ∷ codes "ff" ∷ codes "fi" ∷ codes "fj" ∷ codes "fo" ∷ codes "fr" ∷ codes "fy" ∷
    codes "ga" ∷ codes "gd" ∷ codes "gl" ∷ codes "gn" ∷ codes "gu" ∷ codes "gv" ∷
    codes "ha" ∷ codes "he" ∷ codes "hi" ∷ codes "ho" ∷ codes "hr" ∷ codes "ht" ∷ codes "hu" ∷ codes "hy" ∷
    codes "hz" ∷
    codes "ia" ∷ codes "id" ∷ codes "ie" ∷ codes "ig" ∷ codes "ii" ∷ codes "ik" ∷ codes "in" ∷ codes "io" ∷
    codes "is" ∷ codes "it" ∷ codes "iu" ∷ codes "iw" ∷
    codes "ja" ∷ codes "ji" ∷ codes "jv" ∷ codes "jw" ∷
    codes "ka" ∷ codes "kg" ∷ codes "ki" ∷ codes "kj" ∷ codes "kk" ∷ codes "kl" ∷ codes "km" ∷ codes "kn" ∷
    codes "ko" ∷ codes "kr" ∷ codes "ks" ∷ codes "ku" ∷ codes "kv" ∷ codes "kw" ∷ codes "ky" ∷
    codes "la" ∷ codes "lb" ∷ codes "lg" ∷ codes "li" ∷ codes "ln" ∷ codes "lo" ∷ codes "lt" ∷ codes "lu" ∷
    codes "lv" ∷
    codes "mg" ∷ codes "mh" ∷ codes "mi" ∷ codes "mk" ∷ codes "ml" ∷ codes "mn" ∷ codes "mo" ∷ codes "mr" ∷
    codes "ms" ∷ codes "mt" ∷ codes "my" ∷
    codes "na" ∷ codes "nb" ∷ codes "nd" ∷ codes "ne" ∷ codes "ng" ∷ codes "nl" ∷ codes "nn" ∷ codes "no" ∷
    codes "nr" ∷ codes "nv" ∷ codes "ny" ∷
    codes "oc" ∷ codes "oj" ∷ codes "om" ∷ codes "or" ∷ codes "os" ∷
    codes "pa" ∷ codes "pi" ∷ codes "pl" ∷ codes "ps" ∷ codes "pt" ∷
    codes "qu" ∷
    codes "rm" ∷ codes "rn" ∷ codes "ro" ∷ codes "ru" ∷ codes "rw" ∷
    codes "sa" ∷ codes "sc" ∷ codes "sd" ∷ codes "se" ∷ codes "sg" ∷ codes "sh" ∷ codes "si" ∷ codes "sk" ∷
    codes "sl" ∷ codes "sm" ∷ codes "sn" ∷ codes "so" ∷ codes "sq" ∷ codes "sr" ∷ codes "ss" ∷ codes "st" ∷
    codes "su" ∷ codes "sv" ∷ codes "sw" ∷
    codes "ta" ∷ codes "te" ∷ codes "tg" ∷ codes "th" ∷ codes "ti" ∷ codes "tk" ∷ codes "tl" ∷ codes "tn" ∷
    codes "to" ∷ codes "tr" ∷ codes "ts" ∷ codes "tt" ∷ codes "tw" ∷ codes "ty" ∷
    codes "ug" ∷ codes "uk" ∷ codes "ur" ∷ codes "uz" ∷
    codes "ve" ∷ codes "vi" ∷ codes "vo" ∷
    codes "wa" ∷ codes "wo" ∷
    codes "xh" ∷
    codes "yi" ∷ codes "yo" ∷
    codes "za" ∷ codes "zh" ∷ codes "zu" ∷ []

-- what stands before the first `-`, which is 45
abbrev pub primary_subtag : List ℕ → List ℕ
primary_subtag lang = before_first (λ b. b == 45) lang

abbrev pub is_three_letters : List ℕ → Bool
is_three_letters subtag = length subtag == 3 && list_all is_ascii_alphabetic subtag

-- a subtag in the table is known, and one that the site accepts; of any other of three letters a person has to tell
abbrev pub subtag_finding : List (List ℕ) → List ℕ → Finding
subtag_finding accepted subtag =
    if is_among languages subtag || is_among accepted subtag then met
    else (if is_three_letters subtag then cant_tell ThreeLetter else failed UnknownLang)

-- what is said of a language tag; the evidence is the tag
abbrev pub tag_verdict : List (List ℕ) → List ℕ → Verdict
tag_verdict accepted lang = verdict_of (subtag_finding accepted (primary_subtag lang)) lang
