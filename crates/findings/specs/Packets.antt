-- The packets that findings name.
use Rattle.std.specs.Prelude.{◌≤◌, ℕ, List}
use Rattle.std.specs.List.{AllByRecursion}
use Rattle.findings.specs.declared.finding.Finding.{Finding}
use Rattle.findings.specs.declared.packets.Packets.{Packets}

-- each is among so many packets; their numbers count from 1, and 0 stands for none
pub record AreWithin (read : ℕ) (p : Packets) : Type 0 where
  pub first : p.first ≤ read
  pub second : p.second ≤ read
  pub third : p.third ≤ read
  pub fourth : p.fourth ≤ read

-- each packet that these findings name is among so many
abbrev pub AreIn : (read : ℕ) → List Finding → Type 0
AreIn read findings = AllByRecursion (λ f. AreWithin read f.packets) findings
