-- Which node of a world has a name, and which is at an address, as they are kept (6.1, 12).
use Rattle.std.specs.Prelude.{◌≡◌, ℕ, List, Option, Vec, bytes_eq, map}
use Rattle.std.specs.BTreeMap.{BTreeMap}
use Rattle.std.specs.Cmp.Lexicographic.{slice_cmp}
use Rattle.std.specs.Map.{lookup}
use Rattle.std.specs.Ordering.{is_eq, nat_cmp}
use Rattle.npdu.specs.Mac.{station_cmp}
use Rattle.npdu.specs.declared.mac.Station.{Station}
use Rattle.node_laws.specs.site_node.Node.{NodeState}
use Rattle.world_sites.specs.Finding.{is_there, place_of}

-- the place that is kept of each name, and of each address
pub record DirectoryState : Type 0 where
  pub names : List (List ℕ × ℕ)
  pub addresses : List (Station × ℕ)

-- a directory as its two maps have it
abbrev pub directory_of : {A : Type 0} → (names : BTreeMap (Vec ℕ A) ℕ) → (addresses : BTreeMap Station ℕ) →
    DirectoryState
directory_of names addresses = record {
  names = map (λ e. (e.0.items, e.1)) names.entries;
  addresses = addresses.entries;
}

-- the place that is kept of a name
abbrev pub named_in : DirectoryState → List ℕ → Option ℕ
named_in d name = lookup (λ n. is_eq (slice_cmp nat_cmp name n)) d.names

-- the place that is kept of an address
abbrev pub place_in : DirectoryState → Station → Option ℕ
place_in d x = lookup (λ y. is_eq (station_cmp x y)) d.addresses

-- the place of each name is that of the first node that has it
abbrev pub LeadsByName : {A : Type 0} → DirectoryState → List (NodeState A) → Type 0
LeadsByName d nodes = (name : List ℕ) → named_in d name ≡ place_of (λ n. bytes_eq n.name name) nodes

-- the place of each address is that of the first node with a place there (6.1)
abbrev pub LeadsByAddress : {A : Type 0} → DirectoryState → List (NodeState A) → Type 0
LeadsByAddress d nodes = (x : Station) → place_in d x ≡ place_of (is_there x) nodes

-- both are so
pub record Leads {A : Type 0} (d : DirectoryState) (nodes : List (NodeState A)) : Type 0 where
  pub names : LeadsByName d nodes
  pub addresses : LeadsByAddress d nodes
