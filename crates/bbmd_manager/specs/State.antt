-- What a broadcast manager knows (J.4.3, J.5.2).
use Rattle.std.specs.Prelude.{ℕ, List}
use Rattle.bvll.specs.declared.address.Address.{Address}
use Rattle.bbmd_tables.specs.Tables.{TablesState, living, new_tables}

-- what a manager knows: its tables, and the moment of the last call that was not refused, in milliseconds
pub record ManagerState : Type 0 where
  pub tables : TablesState
  pub moment : ℕ

-- a manager for whom no foreign device is registered (J.4.3)
abbrev pub new_manager : Address → List Address → List Address → ManagerState
new_manager own members managers = record { tables = new_tables own members managers; moment = 0 }

-- at a wake registrations that have ended are forgotten (J.5.2.3)
abbrev pub woken : ℕ → ManagerState → ManagerState
woken now st = record {
  tables = record st.tables { foreign = living now st.tables.foreign };
  moment = now;
}
