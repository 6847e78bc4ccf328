-- Two subnets with a manager each, and a foreign device at the first.
use Rattle.std.specs.Prelude.{ℕ, List, [], ◌∷◌, Some}
use Rattle.bvll.specs.declared.address.Address.{Address}
use Rattle.bbmd.specs.declared.spreading.Subnet.{Subnet}
use Rattle.bbmd_tables.specs.Tables.{TablesState}

-- a port at 127.0.0.1
abbrev pub at_port : ℕ → Address
at_port port = record { ip = 127 ∷ (0 ∷ (0 ∷ (1 ∷ []))); port = port }

-- the managers at 47808 and 47809
abbrev pub both_managers : List Address
both_managers = at_port 47808 ∷ (at_port 47809 ∷ [])

-- the tables of the first one, with a member at 47810, and a foreign device that registered at 0 for 60 seconds
abbrev pub first_tables : TablesState
first_tables = record {
  own = at_port 47808;
  members = at_port 47808 ∷ (at_port 47810 ∷ []);
  managers = both_managers;
  foreign = record { device = at_port 47824; seconds_to_live = 60; at = 0 } ∷ [];
}

-- the tables of the second one, with a member at 47811
abbrev pub second_tables : TablesState
second_tables = record {
  own = at_port 47809;
  members = at_port 47809 ∷ (at_port 47811 ∷ []);
  managers = both_managers;
  foreign = [];
}

-- both subnets
abbrev pub two_subnets : {A : Type 0} → List (Subnet A)
two_subnets = record { members = first_tables.members; manager = Some (record { tables = first_tables; moment = 0 }) }
    ∷ (record { members = second_tables.members; manager = Some (record { tables = second_tables; moment = 0 }) } ∷ [])
