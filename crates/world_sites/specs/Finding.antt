-- Which node of a world has a name, and which is at an address (6.1, 12).
use Rattle.std.specs.Prelude.{◌≡◌, ℕ, ◌+◌, if◌then◌else◌, Bool, false, List, [], ◌∷◌, Option, Some, None, bytes_eq}
use Rattle.std.specs.Prelude.{is_some}
use Rattle.std.specs.Prelude.{slice_get}
use Rattle.npdu.specs.Mac.{same_station}
use Rattle.npdu.specs.declared.mac.Station.{Station}
use Rattle.node_laws.specs.site_node.Node.{NodeState, node_places}

-- the place of the first that passes the test, where the first of the list has the place n
abbrev pub place_from : {X : Type 0} → ℕ → (X → Bool) → List X → Option ℕ
place_from n test [] = None
place_from n test (x ∷ xs) = if test x then Some n else place_from (n + 1) test xs

-- the place of the first that passes the test
abbrev pub place_of : {X : Type 0} → (X → Bool) → List X → Option ℕ
place_of test xs = place_from 0 test xs

-- one, if there is one, passes the test: for private functions alone
abbrev pub passes : {X : Type 0} → (X → Bool) → Option X → Bool
passes test None = false
passes test (Some x) = test x

-- this node is the first of a name
pub record IsNamed {A : Type 0} (name : List ℕ) (nodes : List (NodeState A)) (place : ℕ) (n : NodeState A) :
    Type 0 where
  pub named : place_of (λ m. bytes_eq m.name name) nodes ≡ Some place
  pub there : slice_get nodes place ≡ Some n

-- no node has this name
pub record IsNobody {A : Type 0} (name : List ℕ) (nodes : List (NodeState A)) : Type 0 where
  pub none : (place : ℕ) (n : NodeState A) → IsNamed name nodes place n → ⊥

-- which of a node's places is at an address
abbrev pub port_at : {A : Type 0} → Station → NodeState A → Option ℕ
port_at x n = place_of (λ y. same_station y x) (node_places n)

-- one of them is
unfoldable pub is_there : {A : Type 0} → Station → NodeState A → Bool
is_there x n = is_some (port_at x n)

-- this port of this node is at an address
pub record IsNodeAt {A : Type 0} (x : Station) (nodes : List (NodeState A)) (place port : ℕ) (n : NodeState A) :
    Type 0 where
  pub at_address : place_of (is_there x) nodes ≡ Some place
  pub there : slice_get nodes place ≡ Some n
  pub port_is : port_at x n ≡ Some port

-- no node is at an address
pub record IsNobodyAt {A : Type 0} (x : Station) (nodes : List (NodeState A)) : Type 0 where
  pub none : (place port : ℕ) (n : NodeState A) → IsNodeAt x nodes place port n → ⊥
