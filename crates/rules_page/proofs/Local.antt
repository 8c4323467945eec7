-- Each rule on whole pages and languages has a verdict exactly where the node is a target, and is local.
use Rattle.std.proofs.Common.{◌≡◌, ◌&&◌, ◌||◌, not, ℕ, List, [], ◌∷◌, Bool, true, false, cond, Option, Some, None, option_map, option_and_then, refl, ap, ◌∙◌}
use Rattle.std.specs.Option.{is_some, option_map_or}
use Rattle.snap_tree.specs.declared.row.NodeId.{NodeId}
use Rattle.snap_tree.specs.declared.row.Row.{Row}
use Rattle.snap_tree.specs.Trees.{Trees, Document, rows_of}
use Rattle.texts.specs.Words.{blank}
use Rattle.acc_tree.specs.declared.above.Above.{Above}
use Rattle.acc_tree.specs.declared.attributes.Attribute.TheVariants as attribute
use Rattle.acc_tree.specs.Frames.{nothing_above}
use Rattle.acc_tree.specs.Seen.{seen, attr, has}
use Rattle.acc_tree.specs.Sights.{Sight, sight_of}
use Rattle.page_keys.specs.Laws.{root_titles}
use Rattle.page_keys.proofs.Pages.{page_seen}
use Rattle.rule_core.specs.declared.finding.Finding.{Finding}
use Rattle.rule_core.specs.declared.verdict.Verdict.{Verdict}
use Rattle.rule_core.specs.Findings.{verdict_of}
use Rattle.rule_core.specs.declared.info.Class.TheVariants.{SelfOnly, Sub, Title, Metas, Lang, SubLang}
use Rattle.rule_core.specs.Local.{IsLocal}
use Rattle.rule_core.proofs.Targets.{IsKept, by_classes}
use Rattle.rule_sights.specs.Targets.{is_target, JudgesRows, JudgesSights}
use Rattle.rule_sights.specs.Pages.{is_page_root}
use Rattle.rule_sights.proofs.Judging.{verdict_of_some, there_and, judged_below, judged_alone, judged_root}
use Rattle.rule_sights.specs.Nodes.{if_row}
use Rattle.rule_sights.proofs.Told.{sight_told, sub_lang_told, titles_told}
use Rattle.rule_sights.proofs.Resting.{kept, kept_with_langs, kept_as, kept_alone, kept_of_root, kept_root_langs, kept_at_root, by_applicability, by_rows}
use Rattle.rules_page.specs.declared.viewport.Limit.TheVariants as limit
use Rattle.rules_page.specs.Language.{lang_verdict, page_has_lang, page_has_lang_target, page_has_lang_info}
use Rattle.rules_page.specs.LanguageKnown.{unless_blank, language_verdict, language_is_known, language_is_known_target, language_is_known_info}
use Rattle.rules_page.specs.LanguageOfParts.{is_part_target, part_verdict, language_of_part_is_known, language_of_part_is_known_target, language_of_part_is_known_info}
use Rattle.rules_page.specs.Languages.{tag_verdict}
use Rattle.rules_page.specs.PageTitle.{page_title, title_verdict, page_has_title, page_has_title_target, page_has_title_info}
use Rattle.rules_page.specs.Refresh.{is_number, asks_to_refresh, first_refresh, refresh_finding, refresh_time, refresh_verdict, refreshes, says_of_refresh, seconds, time_verdict, page_has_no_delay, page_has_no_delay_target, page_has_no_delay_info}
use Rattle.rules_page.specs.TitleDescriptive.{asks_a_person, title_is_descriptive, title_is_descriptive_target, title_is_descriptive_info}
use Rattle.rules_page.specs.Viewport.{content_limits, content_verdict, has_limits, is_viewport, viewport_verdict, zoom_verdict, viewport_allows_zoom, viewport_allows_zoom_target, viewport_allows_zoom_info}
use Rattle.rules_page.proofs.TitleAmong.{title_among}
use Rattle.rules_page.proofs.TitleTold.{title_told}
use Rattle.rules_page.proofs.MetasTold.{metas_tell, all_told, said_by_metas, delay_in}

and_true : (b : Bool) → b && true ≡ b
and_true true = refl
and_true false = refl

-- ---- title and language

pub titles : (page : Document) (n : NodeId) → JudgesRows page_has_title page_has_title_target page n
titles page n = judged_root (λ root. Some (title_verdict (page_title (seen page.trees)))) is_page_root (λ row. and_true (is_page_root row)) page n

unless : (b : Bool) (v : Verdict) → is_some (cond b None (Some v)) ≡ not b
unless true v = refl
unless false v = refl

title_is_told : (address : List ℕ) (title : Option (List ℕ)) → is_some (option_and_then (asks_a_person address) title) ≡ option_map_or (λ text. not (blank text)) title false
title_is_told address None = refl
title_is_told address (Some text) = unless (blank text) _

pub descriptive : (page : Document) (n : NodeId) → JudgesRows title_is_descriptive (title_is_descriptive_target (page_title (seen page.trees))) page n
descriptive page n =
    judged_root (λ root. option_and_then (asks_a_person page.address) (page_title (seen page.trees))) (λ row. is_page_root row && option_map_or (λ text. not (blank text)) (page_title (seen page.trees)) false)
    (λ row. ap (λ b. is_page_root row && b) (title_is_told page.address (page_title (seen page.trees)))) page n

pub languages : (page : Document) (n : NodeId) → JudgesRows page_has_lang page_has_lang_target page n
languages page n = judged_root (λ root. Some (lang_verdict (attr attribute.Lang root))) is_page_root (λ row. and_true (is_page_root row)) page n

lang_told : (accepted : List (List ℕ)) (lang : Option (List ℕ)) → is_some (option_and_then (unless_blank accepted) lang) ≡ option_map_or (λ text. not (blank text)) lang false
lang_told accepted None = refl
lang_told accepted (Some text) = unless (blank text) (tag_verdict accepted text)

pub known : (page : Document) (n : NodeId) → JudgesRows language_is_known language_is_known_target page n
known page n =
    judged_root (language_verdict page.langs) (λ row. is_page_root row && option_map_or (λ lang. not (blank lang)) (attr attribute.Lang row) false)
    (λ row. ap (λ b. is_page_root row && b) (lang_told page.langs (attr attribute.Lang row))) page n

part_told : (accepted : List (List ℕ)) (s : Sight) → has attribute.Lang s.row && is_some (part_verdict accepted s) ≡ language_of_part_is_known_target s
part_told accepted s =
    ap (λ b. has attribute.Lang s.row && b) (verdict_of_some (attr attribute.Lang s.row) (is_part_target s) (tag_verdict accepted))
    ∙ there_and (attr attribute.Lang s.row) (is_part_target s)

pub parts : (page : Document) (n : NodeId) → JudgesSights language_of_part_is_known language_of_part_is_known_target page n
parts page n = judged_below (has attribute.Lang) (part_verdict page.langs) language_of_part_is_known_target (part_told page.langs) page n

-- ---- zooming and refreshing

zoom_told : (content : List ℕ) (a b : Option Bool) → is_some (zoom_verdict content a b) ≡ is_some a || is_some b
zoom_told content None None = refl
zoom_told content None (Some b) = refl
zoom_told content (Some a) None = refl
zoom_told content (Some a) (Some b) = refl

content_told : (content : Option (List ℕ)) → is_some (option_and_then content_verdict content) ≡ option_map_or has_limits content false
content_told None = refl
content_told (Some text) = zoom_told text (content_limits limit.UserScalable text) (content_limits limit.MaximumScale text)

said_if : (b : Bool) (o : Option Verdict) → is_some (cond b o None) ≡ b && is_some o
said_if true o = refl
said_if false o = refl

pub viewports : (page : Document) (n : NodeId) → JudgesRows viewport_allows_zoom viewport_allows_zoom_target page n
viewports page n =
    judged_alone viewport_verdict (λ row. is_viewport row && option_map_or has_limits (attr attribute.Content row) false)
    (λ row. said_if (is_viewport row) (option_and_then content_verdict (attr attribute.Content row)) ∙ ap (λ b. is_viewport row && b) (content_told (attr attribute.Content row))) page n

-- a time is read of a content, which is there
time_told : (finds : ℕ → Finding) (asks : Bool) (content : Option (List ℕ)) → is_some (option_and_then (time_verdict finds content) (cond asks (option_and_then seconds content) None)) ≡ is_some (cond asks (option_and_then seconds content) None)
time_told finds false content = refl
time_told finds true None = refl
time_told finds true (Some text) = by_time (seconds text)
  where
    by_time : (o : Option ℕ) → is_some (option_and_then (time_verdict finds (Some text)) o) ≡ is_some o
    by_time None = refl
    by_time (Some time) = refl

pub refreshing_by : (finds : ℕ → Finding) (page : Document) (n : NodeId) → JudgesRows (says_of_refresh finds) (page_has_no_delay_target (rows_of (seen page.trees))) page n
refreshing_by finds page n =
    judged_alone (refresh_verdict finds (rows_of (seen page.trees))) (λ row. is_number row.id (first_refresh (rows_of (seen page.trees))) && refreshes row)
    (λ row. said_if (is_number row.id (first_refresh (rows_of (seen page.trees)))) (option_and_then (time_verdict finds (attr attribute.Content row)) (refresh_time row))
    ∙ ap (λ b. is_number row.id (first_refresh (rows_of (seen page.trees))) && b) (time_told finds (asks_to_refresh row) (attr attribute.Content row))) page n

pub refreshing : (page : Document) (n : NodeId) → JudgesRows page_has_no_delay (page_has_no_delay_target (rows_of (seen page.trees))) page n
refreshing = refreshing_by refresh_finding

-- ---- locality

pub title_local : IsLocal page_has_title_info page_has_title
title_local =
    by_rows page_has_title_info page_has_title refl page_has_title_target (λ page n well. titles page n)
    (kept_at_root Title root_titles titles_told (λ page. Some (title_verdict (page_title (seen page.trees)))) (λ address found. Some (title_verdict (title_among found)))
    (λ page n well root. ap (λ title. Some (title_verdict title)) (title_told (seen page.trees) (page_seen page.trees well) n root)))

pub descriptive_local : IsLocal title_is_descriptive_info title_is_descriptive
descriptive_local =
    by_applicability title_is_descriptive_info title_is_descriptive
    (kept_at_root Title root_titles titles_told (λ page. option_and_then (asks_a_person page.address) (page_title (seen page.trees)))
    (λ address found. option_and_then (asks_a_person address) (title_among found))
    (λ page n well root. ap (option_and_then (asks_a_person page.address)) (title_told (seen page.trees) (page_seen page.trees well) n root)))

pub language_local : IsLocal page_has_lang_info page_has_lang
language_local = by_applicability page_has_lang_info page_has_lang (kept_of_root SelfOnly (λ root. Some (lang_verdict (attr attribute.Lang root))))

pub known_local : IsLocal language_is_known_info language_is_known
known_local =
    by_rows language_is_known_info language_is_known refl language_is_known_target (λ page n well. known page n)
    (kept_root_langs Lang refl language_verdict)

pub parts_local : IsLocal language_of_part_is_known_info language_of_part_is_known
parts_local =
    by_classes language_of_part_is_known_info language_of_part_is_known
    (kept_as Sub (λ page n. is_some (language_of_part_is_known page n)) (λ page n. is_target language_of_part_is_known_target page.trees n) (λ page n well. parts page n)
    (kept Sub sight_of sight_told (λ address o. option_map_or language_of_part_is_known_target o false)))
    (kept_with_langs SubLang sight_of refl sub_lang_told (λ accepted o. option_and_then (part_verdict accepted) (option_and_then (if_row (has attribute.Lang)) o)))

pub viewport_local : IsLocal viewport_allows_zoom_info viewport_allows_zoom
viewport_local = by_applicability viewport_allows_zoom_info viewport_allows_zoom (kept_alone SelfOnly viewport_verdict)

-- what is said of the first that refreshes the page looks at what the class Metas does
pub refresh_kept : (finds : ℕ → Finding) → IsKept Metas (says_of_refresh finds)
refresh_kept finds =
    kept_as Metas (says_of_refresh finds) (λ page n. said_by_metas finds (metas_tell (seen page.trees) n))
    (λ page n well. delay_in finds (seen page.trees) (page_seen page.trees well) n (sight_of (seen page.trees) n) refl)
    (kept Metas metas_tell all_told (λ address told. said_by_metas finds told))

pub delay_local : IsLocal page_has_no_delay_info page_has_no_delay
delay_local = by_applicability page_has_no_delay_info page_has_no_delay (refresh_kept refresh_finding)
