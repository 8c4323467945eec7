-- The bodies of refusals: objects with the refusal's number, its name and its members, the keys in byte order.
use Rattle.std.specs.Prelude.{ℕ, List, codes, Option, Some, None}
use Rattle.std.specs.Option.{option_map_or}
use Rattle.serde_json.specs.Data.{Data, string, object, Members, no_members, member}
use Rattle.hex.specs.Hex.{encode_lower}
use Rattle.snap_tree.specs.declared.row.NodeId.{NodeId}
use Rattle.snap_tree.specs.declared.fault.TreeFault.{TreeFault}
use Rattle.snap_tree.specs.FaultText.{fault_number, fault_node}
use Rattle.snap_edit.specs.declared.fault.EditKind.{EditKind}
use Rattle.snap_edit.specs.declared.fault.EditKind.TheVariants as kind
use Rattle.snap_edit.specs.Numbers.{kind_number}
use Rattle.reports.specs.TextReport.{outcome_word}
use Rattle.desk_core.specs.declared.refusal.Refusal.{Refusal}
use Rattle.desk_core.specs.declared.refusal.Refusal.TheVariants.{NoSite, SiteExists, NotAllowed, NoPage, PageLimit, StaleRevision, TreeFault as Misgrown, EditFault, NoTarget, NotOpen, SameHand, EvidenceMoved, KeeperFault, OutOfMemory}
use Rattle.http_messages.specs.declared.fault.HeadFault.{HeadFault}
use Rattle.http_messages.specs.Faults as head
use Rattle.http_routes.specs.declared.fault.RequestFault.{RequestFault}
use Rattle.http_routes.specs.declared.fault.RequestFault.TheVariants as request
use Rattle.http_routes.specs.Faults as request_fault
use Rattle.http_replies.specs.Words.{whole, needed_word, limit_word, head_word}

-- ---- what the machine refuses

abbrev pub status : Refusal → ℕ
status NoSite = 404
status SiteExists = 409
status (NotAllowed needed) = 403
status NoPage = 404
status (PageLimit limit) = 409
status (StaleRevision current page) = 409
status (Misgrown fault page) = 422
status (EditFault index kind) = 422
status NoTarget = 404
status (NotOpen automatic) = 409
status SameHand = 403
status (EvidenceMoved current) = 409
status KeeperFault = 503
status OutOfMemory = 507

-- ---- the members of a refusal

abbrev pub plain : ℕ → List ℕ → Members
plain n word = member (codes "number") (whole n) (member (codes "refused") (string word) no_members)

-- the page of an import beside them
abbrev pub of_page : ℕ → List ℕ → Option (List ℕ) → Members
of_page n word None = plain n word
of_page n word (Some page) = member (codes "number") (whole n) (member (codes "page") (string page) (member (codes "refused") (string word) no_members))

-- the node of a fault, 0 where it has none
abbrev pub node_or_none : TreeFault → ℕ
node_or_none fault = option_map_or (λ node. node.0) (fault_node fault) 0

abbrev pub fault_members : TreeFault → Members → Members
fault_members fault rest = member (codes "fault") (whole (fault_number fault)) (member (codes "node") (whole (node_or_none fault)) rest)

-- the fault of an edited page comes with its node
abbrev pub edit_members : ℕ → EditKind → Members → Members
edit_members index (kind.Tree fault) rest =
    member (codes "fault") (whole (fault_number fault))
    (member (codes "index") (whole index)
    (member (codes "kind") (whole (kind_number (kind.Tree fault)))
    (member (codes "node") (whole (node_or_none fault)) rest)))
edit_members index other rest = member (codes "index") (whole index) (member (codes "kind") (whole (kind_number other)) rest)

abbrev pub members : Refusal → Members
members NoSite = plain 11 (codes "NoSite")
members SiteExists = plain 12 (codes "SiteExists")
members (NotAllowed needed) = member (codes "needed") (string (needed_word needed)) (plain 13 (codes "NotAllowed"))
members NoPage = plain 14 (codes "NoPage")
members (PageLimit limit) = member (codes "limit") (string (limit_word limit)) (plain 15 (codes "PageLimit"))
members (StaleRevision current page) = member (codes "current") (whole current) (of_page 16 (codes "StaleRevision") page)
members (Misgrown fault page) = fault_members fault (of_page 17 (codes "TreeFault") page)
members (EditFault index kind) = edit_members index kind (plain 18 (codes "EditFault"))
members NoTarget = plain 19 (codes "NoTarget")
members (NotOpen automatic) = member (codes "automatic") (string (outcome_word automatic)) (plain 20 (codes "NotOpen"))
members SameHand = plain 21 (codes "SameHand")
members (EvidenceMoved current) = member (codes "current") (string (encode_lower current)) (plain 22 (codes "EvidenceMoved"))
members KeeperFault = plain 23 (codes "KeeperFault")
members OutOfMemory = plain 24 (codes "OutOfMemory")

unfoldable pub refusal_data : Refusal → Data
refusal_data refusal = object (members refusal)

-- ---- what is refused before

unfoldable pub head_data : HeadFault → Data
head_data fault = object (plain (head.number fault) (head_word fault))

-- a part that is out of shape comes with its place
abbrev pub request_members : RequestFault → Members
request_members (request.BadShape part place) =
    member (codes "field") (string (request_fault.word part))
    (member (codes "number") (whole 10)
    (member (codes "place") (whole place)
    (member (codes "refused") (string (codes "BadShape"))
    no_members)))
request_members other = plain (request_fault.number other) (request_fault.name other)

unfoldable pub request_data : RequestFault → Data
request_data fault = object (request_members fault)
