-- The numbers of priorities.
use Rattle.std.specs.Prelude.{ℕ}
use Rattle.npdu.specs.declared.priority.Priority.{Priority}
use Rattle.npdu.specs.declared.priority.Priority.TheVariants.{Normal, Urgent, CriticalEquipment, LifeSafety}

-- a priority in bits 1 and 0 of the control octet (6.2.2)
abbrev pub priority_number : Priority → ℕ
priority_number Normal = 0
priority_number Urgent = 1
priority_number CriticalEquipment = 2
priority_number LifeSafety = 3
