-- The objects of a device by its name (12).
use Rattle.std.specs.Prelude.{◌≡◌, ℕ, List, [], ◌∷◌}
use Rattle.object_model.specs.Objects.{PlainTable}
use Rattle.world_log.specs.site_node.Node.{NodeState}
use Rattle.world_log.specs.site_node.declared.part.Part.{Part}
use Rattle.world_log.specs.site_node.declared.part.Part.TheVariants.{Device}
use Rattle.world.specs.World.{WorldState}
use Rattle.world_sites.specs.Finding.{IsNamed}

-- the objects of a part, if it is a device
abbrev pub tables_of : {A : Type 0} → Part A → List (PlainTable A)
tables_of (Device d) = d.server.table ∷ []
tables_of part = []

-- the node of this name is a device with these objects
pub record HasTable {A : Type 0} (name : List ℕ) (w : WorldState A) (table : PlainTable A) : Type 0 where
  pub place : ℕ
  pub n : NodeState A
  pub named : IsNamed name w.nodes place n
  pub table_is : tables_of n.part ≡ table ∷ []

-- the node of this name
pub record HasNode {A : Type 0} (name : List ℕ) (w : WorldState A) (n : NodeState A) : Type 0 where
  pub place : ℕ
  pub named : IsNamed name w.nodes place n

-- no device has this name
pub record HasNoTable {A : Type 0} (name : List ℕ) (w : WorldState A) : Type 0 where
  pub none : (table : PlainTable A) → HasTable name w table → ⊥
