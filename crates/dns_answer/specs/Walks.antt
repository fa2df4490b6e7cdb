-- Where the path down to a name ends, what is found for the name, and the cost.
use Rattle.std.specs.Prelude.{◌≡◌, ℕ, ◌+◌, ◌-◌, ◌*◌, ◌≤◌, Bool, true, false, length}
use Rattle.std.specs.Prelude.{Option, None, Some}
use Rattle.std.specs.Option.{unwrap_or}
use Rattle.dns_spec.specs.Names.{DomainName, folded, at_or_below}
use Rattle.dns_spec.specs.Records.{ZoneContents, at, with_owner}
use Rattle.dns_spec.specs.Tree.{exists, cut_of, closest_encloser, found}
use Rattle.dns_zone.specs.Nodes.{Walk, ZoneNode, IsNode}
use Rattle.dns_answer.specs.declared.lookup.PathEnd.{PathEnd}
use Rattle.dns_answer.specs.declared.lookup.PathEnd.TheVariants as ways
use Rattle.dns_answer.specs.declared.lookup.Found.{Found}
use Rattle.dns_answer.specs.declared.lookup.Found.TheVariants as finds
use Rattle.dns_answer.specs.declared.lookup.Cuts.{Cuts}
use Rattle.dns_answer.specs.declared.lookup.Cuts.TheVariants.{End, Pass}

-- the node of a name
abbrev pub node_of : ZoneContents → DomainName → ZoneNode
node_of z n = record { zone = z; name = n }

-- the node, if there is one, else the node where the path begins
abbrev pub node_or : ZoneNode → Option ZoneNode → ZoneNode
node_or start node = unwrap_or node start

-- the node of the origin
pub record IsApex (z : ZoneContents) (apex : ZoneNode) : Type 0 where
  pub node : apex ≡ node_of z z.origin
  pub exists : IsNode z z.origin

-- a node at or below the origin at which a path may begin; `ends` says whether the path ends at cuts
pub record IsStart (z : ZoneContents) (ends : Bool) (start : ZoneNode) : Type 0 where
  pub zone : start.zone ≡ z
  pub exists : IsNode z start.name
  pub inside : at_or_below start.name z.origin ≡ true
  pub uncut : ends ≡ true → cut_of z start.name ≡ None

-- the number of labels of a name below the origin
abbrev pub labels_below : ZoneContents → DomainName → ℕ
labels_below z n = length n - length z.origin

abbrev pub ends_at_cuts : Cuts → Bool
ends_at_cuts End = true
ends_at_cuts Pass = false

-- the name exists; if paths end at cuts, the name is not at or below a cut
pub record IsThere (z : ZoneContents) (start : ZoneNode) (ends : Bool) (n : DomainName)
    (node : Option ZoneNode) : Type 0 where
  pub no_cut : ends ≡ true → cut_of z n ≡ None
  pub stands : exists z n ≡ true
  pub at_name : node_or start node ≡ node_of z (folded n)

-- the name does not exist; if paths end at cuts, the name is not at or below a cut
pub record IsMissing (z : ZoneContents) (start : ZoneNode) (ends : Bool) (n : DomainName)
    (node : Option ZoneNode) : Type 0 where
  pub no_cut : ends ≡ true → cut_of z n ≡ None
  pub missing : exists z n ≡ false
  pub encloser : closest_encloser z n ≡ Some (node_or start node).name
  pub zone : (node_or start node).zone ≡ z
  pub lower : folded (node_or start node).name ≡ (node_or start node).name

-- RFC 1034 4.3.2 step 3b: the cut at or above the name
pub record IsBelowCut (z : ZoneContents) (n : DomainName) (node : ZoneNode) : Type 0 where
  pub cut : cut_of z n ≡ Some node.name
  pub zone : node.zone ≡ z

abbrev pub WalkedTo : ZoneContents → ZoneNode → Bool → DomainName → PathEnd → Type 0
WalkedTo z start ends n (ways.Cut node) = (ends ≡ true) × IsBelowCut z n node
WalkedTo z start ends n (ways.Name node) = IsThere z start ends n node
WalkedTo z start ends n (ways.Encloser node) = IsMissing z start ends n node

-- nothing is found for the name, or the records of a node
pub record IsNothing (z : ZoneContents) (n : DomainName) : Type 0 where
  pub no_cut : cut_of z n ≡ None
  pub none : found z n ≡ None

pub record AreRecords (z : ZoneContents) (n : DomainName) (node : ZoneNode) : Type 0 where
  pub no_cut : cut_of z n ≡ None
  pub zone : node.zone ≡ z
  pub records : found z n ≡ Some (with_owner n (at node.zone node.name))

abbrev pub FoundAs : ZoneContents → ZoneNode → DomainName → Found → Type 0
FoundAs z apex n (finds.Cut node) = IsBelowCut z n node
FoundAs z apex n finds.Nothing = IsNothing z n
FoundAs z apex n (finds.Records node) = AreRecords z n (node_or apex node)

-- the walk may still visit this many nodes, with 17 comparisons for each
pub record HasNodesLeft (s : Walk) (nodes : ℕ) : Type 0 where
  pub visits : s.visits + nodes ≤ 4294967295
  pub comparisons : s.comparisons + 17 * nodes ≤ 4294967295

-- The cost of a look-up: at most `nodes` nodes, and 17 comparisons for each node and for each
-- missing child.
pub record Took (s s' : Walk) (nodes misses : ℕ) : Type 0 where
  pub zone : s'.zone ≡ s.zone
  pub from : s.visits ≤ s'.visits
  pub visits : s'.visits ≤ s.visits + nodes
  pub comparisons : s'.comparisons + 17 * s.visits ≤ s.comparisons + 17 * (s'.visits + misses)

abbrev pub missed : PathEnd → ℕ
missed (ways.Cut c) = 0
missed (ways.Name n) = 0
missed (ways.Encloser n) = 1

-- the cost of a path: one node fewer if a child was missing
pub record TookPath (s s' : Walk) (nodes misses : ℕ) : Type 0 where
  pub took : Took s s' nodes misses
  pub fewer : s'.visits + misses ≤ s.visits + nodes
