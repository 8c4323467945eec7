-- What trees say depends on what references say of each of their nodes, and on nothing else of the page.
use Rattle.std.proofs.Common.{◌≡◌, Bool, Option, refl}
use Rattle.snap_tree.specs.declared.row.NodeId.{NodeId}
use Rattle.snap_tree.specs.Trees.{Trees, empty, tree}
use Rattle.acc_tree.specs.declared.above.Above.{Above}
use Rattle.acc_tree.specs.Frames.{under}
use Rattle.acc_tree.specs.Roles.{role_at}
use Rattle.acc_tree.specs.Sights.{Sight}
use Rattle.acc_name.specs.declared.hosts.CaptionKind.{CaptionKind}
use Rattle.acc_name.specs.declared.named.How.{How}
use Rattle.acc_name.specs.declared.named.How.TheVariants as how
use Rattle.acc_name.specs.declared.told.Told.{Told}
use Rattle.acc_name.specs.Hosts.{caption_of}
use Rattle.acc_name.specs.Names.{Asked, said, alone, and_then, heard, spoken}

-- references say the same of each node of these trees, where this is above them
abbrev pub TellSame : (Sight → Told) → (Sight → Told) → Above → Trees → Type 0
TellSame f g above empty = Unit {0}
TellSame f g above (tree row kids after) =
    (f (record { row = row; below = kids; above = above }) ≡ g (record { row = row; below = kids; above = above })) × (TellSame f g (under above row) kids × TellSame f g above after)

abbrev pub asked : NodeId → Bool → (Sight → Told) → Asked
asked node hidden told = record { node = node; hidden = hidden; told = told }

heard_same : (node : NodeId) (hidden : Bool) (f g : Sight → Told) (above : Above) (kind : Option CaptionKind) (t : Trees) → TellSame f g above t → heard (asked node hidden f) above kind t ≡ heard (asked node hidden g) above kind t
heard_same node hidden f g above kind empty p = refl
heard_same node hidden f g above kind (tree row kids after) p =
    let told = p.0 in
    let down = heard_same node hidden f g (under above row) (caption_of row) kids p.1.0 in
    let on = heard_same node hidden f g above kind after p.1.1 in
    λ i. and_then (alone kind row (said node hidden (told i) how.Inner (role_at above row) row (down i)).text (down i).chosen) (on i)

pub spoken_same : (node : NodeId) (hidden : Bool) (f g : Sight → Told) (how : How) (s : Sight) → f s ≡ g s → TellSame f g (under s.above s.row) s.below → spoken (asked node hidden f) how s ≡ spoken (asked node hidden g) how s
spoken_same node hidden f g how s told p =
    let inner = heard_same node hidden f g (under s.above s.row) (caption_of s.row) s.below p in
    λ i. said node hidden (told i) how (role_at s.above s.row) s.row (inner i)
