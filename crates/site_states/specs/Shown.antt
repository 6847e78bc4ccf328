-- What is printed of the station of a name.
use Rattle.std.specs.Prelude.{◌⊎◌, ℕ, List, [], ◌∷◌, codes}
use Rattle.std.specs.Fmt.{decimal}
use Rattle.std.specs.Io.KnownBytes.{Appends}
use Rattle.site_history.specs.Printed.{Known, line, refused_text, spaced}
use Rattle.site_history.specs.simulator.site_node.Node.{NodeState}
use Rattle.site_history.specs.simulator.world.Tables.{HasNode}
use Rattle.site_history.specs.simulator.world.World.{WorldState}
use Rattle.site_history.specs.simulator.world_sites.Finding.{IsNobody}
use Rattle.tags.specs.declared.fault.Fault.TheVariants.{Memory, NoSuch}

-- how each line begins, as `4002 state ahu1`
abbrev pub head_text : (moment : ℕ) → (name : List ℕ) → List ℕ
head_text moment name = spaced (decimal moment ∷ codes "state" ∷ name ∷ [])

-- something was printed of a station, which begins so
pub record PrintsState (moment : ℕ) (name : List ℕ) (old new : Known) : Type 0 where
  pub at_rest : Known
  pub rest : List ℕ
  pub head_printed : Appends old at_rest (head_text moment name)
  pub rest_printed : Appends at_rest new rest

-- a station has the name, and something was printed of it
pub record PrintsNode {A : Type 0} (name : List ℕ) (w : WorldState A) (old new : Known) : Type 0 where
  pub n : NodeState A
  pub has : HasNode name w n
  pub printed : PrintsState w.moment name old new

-- no station has it, and that is printed
pub record PrintsNobody {A : Type 0} (name : List ℕ) (w : WorldState A) (old new : Known) : Type 0 where
  pub nobody : IsNobody name w.nodes
  pub printed : Appends old new (line (refused_text NoSuch w.moment))

-- something was printed of the station of a name, or that none has it, or that there is no memory
abbrev pub PrintsShown : {A : Type 0} → List ℕ → WorldState A → Known → Known → Type 0
PrintsShown name w old new =
    PrintsNode name w old new ⊎ PrintsNobody name w old new ⊎ Appends old new (line (refused_text Memory w.moment))
