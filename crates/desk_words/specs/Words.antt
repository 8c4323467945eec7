-- The words of the commands. Each command is one of `clap`, without subcommands: its words are those that
-- `takes` of that crate holds of, the name first, and they mean what its `matches_of` says.
use Rattle.std.specs.Prelude.{◌≡◌, ℕ, ◌≤◌, ◌^◌, ◌-◌, List, [], true, codes, Option, Some, None, option_map, slice_get, if◌then◌else◌}
use Rattle.std.specs.List.{list_all}
use Rattle.std.specs.Option.{option_map_or}
use Rattle.std.specs.Str.{bytes_eq}
use Rattle.std.specs.Str.Parse.{digits_value, without_leading_plus}
use Rattle.clap.specs.Words.{App, Row, Rule, built, is_simple_and_free, first_of, matches_of, new_app, new_rule, one_of, takes, with_rule}
use Rattle.clap.specs.Takes.{default_passes}
use Rattle.clap.specs.declared.builder.action.ArgAction.TheVariants.{Set}
use Rattle.clap.specs.declared.builder.value_parser.ValueParser.TheVariants.{Unsigned}
use Rattle.desk_words.specs.declared.command.ProgramCommand.{ProgramCommand}
use Rattle.desk_words.specs.declared.command.ProgramCommand.TheVariants.{Audit, Serve, Generate, Cases, Show}
use Rattle.desk_words.specs.declared.command.Serving.{Serving}
use Rattle.desk_words.specs.declared.command.Generating.{Generating}
use Rattle.desk_words.specs.declared.command.Showing.{Showing}
use Rattle.desk_words.specs.declared.command.SiteForm.{SiteForm}
use Rattle.desk_words.specs.declared.command.SiteForm.TheVariants as form

-- ---- the commands of the table

-- a word with a number, which must be given at its place
abbrev pub number_place : List ℕ → ℕ → ℕ → Rule
number_place id least most = record (new_rule id) { action = Some Set; parser = Some (Unsigned least most); required = true }

-- an option with a number, which must be given
abbrev pub number_rule : List ℕ → ℕ → ℕ → Rule
number_rule id least most = record (number_place id least most) { long = Some id }

-- a word that names a site, which must be given
abbrev pub site_place : Rule
site_place = record (new_rule (codes "site")) { action = Some Set; required = true }

abbrev pub audit_app : App
audit_app = new_app (codes "audit")

abbrev pub serve_app : App
serve_app =
    with_rule (with_rule (with_rule (new_app (codes "serve")) (number_rule (codes "port") 0 65535))
    (number_rule (codes "workers") 1 (2 ^ 64 - 1))) (number_rule (codes "connections") 1 1_000_000)

abbrev pub generate_app : App
generate_app = with_rule (with_rule (new_app (codes "generate")) (number_place (codes "number") 0 1_000_000)) (number_place (codes "pages") 1 64)

abbrev pub cases_app : App
cases_app = new_app (codes "cases")

-- a command of this name that shows a site
abbrev pub show_app : List ℕ → App
show_app name = with_rule (new_app name) site_place

abbrev pub form_word : SiteForm → List ℕ
form_word form.Report = codes "report"
form_word form.Earl = codes "earl"
form_word form.Csv = codes "csv"

-- ---- what words mean

-- the number that an argument's text is
abbrev pub number_of : List ℕ → List Row → ℕ
number_of id rows = option_map_or (λ text. digits_value 10 (without_leading_plus text)) (one_of id rows) 0

abbrev pub serving_of : List Row → Serving
serving_of rows = record { port = number_of (codes "port") rows; workers = number_of (codes "workers") rows; connections = number_of (codes "connections") rows }

abbrev pub generating_of : List Row → Generating
generating_of rows = record { number = number_of (codes "number") rows; pages = number_of (codes "pages") rows }

-- the text of the word that names a site
abbrev pub site_of : List Row → List ℕ
site_of rows = option_map_or (λ text. text) (first_of (codes "site") rows) []

abbrev pub showing_of : SiteForm → List Row → Showing
showing_of form rows = record { form = form; site = site_of rows }

-- what a command makes of words, where it takes them
abbrev pub matched : App → List (List ℕ) → Option (List Row)
matched app words = if takes app words then Some (matches_of app words) else None

abbrev pub audit_in : List (List ℕ) → Option ProgramCommand
audit_in words = option_map (λ rows. Audit) (matched audit_app words)

abbrev pub serve_in : List (List ℕ) → Option ProgramCommand
serve_in words = option_map (λ rows. Serve (serving_of rows)) (matched serve_app words)

abbrev pub generate_in : List (List ℕ) → Option ProgramCommand
generate_in words = option_map (λ rows. Generate (generating_of rows)) (matched generate_app words)

abbrev pub cases_in : List (List ℕ) → Option ProgramCommand
cases_in words = option_map (λ rows. Cases) (matched cases_app words)

abbrev pub show_in : SiteForm → List (List ℕ) → Option ProgramCommand
show_in form words = option_map (λ rows. Show (showing_of form rows)) (matched (show_app (form_word form)) words)

-- a command that shows a site
abbrev pub other_in : List ℕ → List (List ℕ) → Option ProgramCommand
other_in name words =
    if bytes_eq name (codes "report") then show_in form.Report words
    else if bytes_eq name (codes "earl") then show_in form.Earl words
    else if bytes_eq name (codes "csv") then show_in form.Csv words
    else None

-- the command of this name that the words are
abbrev pub named : Option (List ℕ) → List (List ℕ) → Option ProgramCommand
named None words = None
named (Some name) words =
    if bytes_eq name (codes "audit") then audit_in words
    else if bytes_eq name (codes "serve") then serve_in words
    else if bytes_eq name (codes "generate") then generate_in words
    else if bytes_eq name (codes "cases") then cases_in words
    else other_in name words

-- the command that the words are, by the first of them
unfoldable pub command_in : List (List ℕ) → Option ProgramCommand
command_in words = named (slice_get words 0) words

-- a command that serves has one worker or more
abbrev pub HasWorkers : ProgramCommand → Type 0
HasWorkers (Serve s) = 1 ≤ s.workers
HasWorkers other = Unit {0}

-- ---- a parse

-- a command without subcommands whose arguments have no rule on one another and pass by their defaults
pub record IsPlainApp (app : App) : Type 0 where
  pub simple : is_simple_and_free app ≡ true
  pub subs : (built app).subs ≡ []
  pub defaults : list_all default_passes (built app).top.rules ≡ true
