-- Requests that fit: each part is as a route of the desk lets it through.
use Rattle.std.specs.Prelude.{◌≡◌, ℕ, ◌≤◌, List, length, Option, IsTrue, true}
use Rattle.std.specs.List.{All, AllPairs}
use Rattle.snap_tree.specs.Langs.{AreLangs}
use Rattle.rule_core.specs.declared.info.RuleNo.{RuleNo}
use Rattle.rule_core.specs.Infos.{has_atomic}
use Rattle.rule_core.specs.Books.{Book}
use Rattle.earl_in.specs.declared.claim.Claim.{Claim}
use Rattle.earl_in.specs.Reading.{Fit}
use Rattle.web_address.specs.Address.{IsWebAddress}
use Rattle.keep_core.specs.declared.limits.TheConstants.{MOST_REVISION}
use Rattle.keep_core.specs.Names.{is_name}
use Rattle.desk_core.specs.declared.command.Command.{Command}
use Rattle.desk_core.specs.declared.command.Command.TheVariants as command
use Rattle.desk_core.specs.declared.command.Entry.{Entry}
use Rattle.desk_core.specs.declared.limits.TheConstants.{MOST_NOTE, MOST_ENTRIES}
use Rattle.desk_core.specs.Steps.{Request, site_of}

-- the names of a site and of a page
pub record AreNames (s p : List ℕ) : Type 0 where
  pub site : IsTrue (is_name s)
  pub page : IsTrue (is_name p)

-- a page and the revision that the sender saw of it
pub record FitsRev (page : List ℕ) (rev : ℕ) : Type 0 where
  pub named : IsTrue (is_name page)
  pub within : rev ≤ MOST_REVISION

pub record FitsEntry (e : Entry) : Type 0 where
  pub rev : FitsRev e.page e.rev
  pub address : IsWebAddress e.raw.address

-- 1 to 64 pages with distinct names
pub record FitsEntries (entries : List Entry) : Type 0 where
  pub some : 1 ≤ length entries
  pub few : length entries ≤ MOST_ENTRIES
  pub each : All FitsEntry entries
  pub distinct : AllPairs (λ (d e : Entry). d.page ≡ e.page → ⊥) entries

-- an atomic rule of the book, and a note that isn't too long
pub record FitsJudging (book : Book) (page : List ℕ) (rule : RuleNo) (note : List ℕ) : Type 0 where
  pub named : IsTrue (is_name page)
  pub atomic : has_atomic book.infos rule.0 ≡ true
  pub short : length note ≤ MOST_NOTE

pub record FitsPut (page : List ℕ) (rev : ℕ) (address : List ℕ) : Type 0 where
  pub seen : FitsRev page rev
  pub web : IsWebAddress address

-- at most 10,000 claims, each of an atomic rule of the book
pub record FitsClaims (book : Book) (page : List ℕ) (claims : List (Option Claim)) : Type 0 where
  pub named : IsTrue (is_name page)
  pub fit : Fit book.infos claims

-- the parts of a command beside its site
abbrev pub FitsParts : Book → Command → Type 0
FitsParts book (command.PutSite site) = Unit {0}
FitsParts book (command.PutMember site user held) = IsTrue (is_name user)
FitsParts book (command.PutLanguages site langs) = AreLangs langs
FitsParts book (command.PutPage site page rev raw) = FitsPut page rev raw.address
FitsParts book (command.GetPage site page) = IsTrue (is_name page)
FitsParts book (command.DropPage site page rev) = FitsRev page rev
FitsParts book (command.Import site entries) = FitsEntries entries
FitsParts book (command.EditPage site page rev edits) = FitsRev page rev
FitsParts book (command.Judge site page rule node verdict seen note) = FitsJudging book page rule note
FitsParts book (command.TakeEarl site page claims) = FitsClaims book page claims
FitsParts book (command.GetOutcomes site page) = IsTrue (is_name page)
FitsParts book (command.GetReport site page) = IsTrue (is_name page)
FitsParts book (command.GetEarl site page) = IsTrue (is_name page)
FitsParts book (command.GetNames site page) = IsTrue (is_name page)
FitsParts book (command.SiteReport site) = Unit {0}
FitsParts book (command.SiteEarl site) = Unit {0}
FitsParts book (command.SiteCsv site) = Unit {0}
FitsParts book (command.GetVerdicts site page) = IsTrue (is_name page)
FitsParts book (command.GetMembers site) = Unit {0}
FitsParts book command.GetMemberships = Unit {0}

-- the site of a command is named by a name, where it names one
abbrev pub NamesSite : Command → Type 0
NamesSite command.GetMemberships = Unit {0}
NamesSite c = IsTrue (is_name (site_of c))

pub record FitsRequest (book : Book) (q : Request) : Type 0 where
  pub caller : IsTrue (is_name q.caller)
  pub site : NamesSite q.command
  pub parts : FitsParts book q.command
