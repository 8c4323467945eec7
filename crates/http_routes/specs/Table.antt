-- The table of routes: which place a path names, by its words and names.
use Rattle.std.specs.Prelude.{List, [], ◌∷◌, codes}
use Rattle.matchit.specs.Rows.{RowsOf}
use Rattle.matchit.specs.Router.{RouteOf}
use Rattle.segment_routes.specs.Pieces.{Piece, Word, Name, Pieces}
use Rattle.segment_routes.specs.Spelling.{rows_of}
use Rattle.http_routes.specs.declared.place.Resource.{Resource}
use Rattle.http_routes.specs.declared.place.Resource.TheVariants.{Memberships, Site, SiteReport, SiteEarl, SiteCsv, Import, Languages, Members, Member, Page, PageReport, PageEarl, PageNames, PageVerdicts, Edits, Judgements, Outcomes}

abbrev pub site : Piece
site = Name (codes "site")

abbrev pub user : Piece
user = Name (codes "user")

abbrev pub page : Piece
page = Name (codes "page")

-- /sites/{site}/..
abbrev pub in_site : Pieces → Pieces
in_site pieces = Word (codes "sites") ∷ site ∷ pieces

-- /sites/{site}/pages/{page}/..
abbrev pub in_page : Pieces → Pieces
in_page pieces = in_site (Word (codes "pages") ∷ page ∷ pieces)

-- The first row that fits a path says what the path names. A word stands before another one that comes after it by bytes and before
-- a name, and a longer path before the one that it begins with.
abbrev pub table : List (Pieces × Resource)
table =
    (Word (codes "memberships") ∷ [], Memberships)
    ∷ (in_site (Word (codes "csv") ∷ []), SiteCsv)
    ∷ (in_site (Word (codes "earl") ∷ []), SiteEarl)
    ∷ (in_site (Word (codes "import") ∷ []), Import)
    ∷ (in_site (Word (codes "languages") ∷ []), Languages)
    ∷ (in_site (Word (codes "members") ∷ user ∷ []), Member)
    ∷ (in_site (Word (codes "members") ∷ []), Members)
    ∷ (in_page (Word (codes "earl") ∷ []), PageEarl)
    ∷ (in_page (Word (codes "edits") ∷ []), Edits)
    ∷ (in_page (Word (codes "judgements") ∷ []), Judgements)
    ∷ (in_page (Word (codes "names") ∷ []), PageNames)
    ∷ (in_page (Word (codes "outcomes") ∷ []), Outcomes)
    ∷ (in_page (Word (codes "report") ∷ []), PageReport)
    ∷ (in_page (Word (codes "verdicts") ∷ []), PageVerdicts)
    ∷ (in_page [], Page)
    ∷ (in_site (Word (codes "report") ∷ []), SiteReport)
    ∷ (in_site [], Site)
    ∷ []

-- the same as `matchit` holds it
abbrev pub rows : RowsOf (RouteOf Resource)
rows = rows_of table
