-- What an event changes of a node's ports, until it is done (6.1).
use Rattle.std.specs.Prelude.{◌≡◌, ℕ, List, [], ◌∷◌}
use Rattle.link.specs.Step.{PortSent}
use Rattle.link.specs.declared.step.Change.{Change}
use Rattle.link_site.specs.Port.{changed}
use Rattle.link_site.specs.declared.port.SitePort.{SitePort}
use Rattle.site_ports.specs.declared.draft.Draft.{Draft}

-- ports, and what was put out over them, in order
pub record PortsState (A : Type 0) : Type 0 where
  pub ports : List (SitePort A)
  pub out : List (PortSent A)

-- ports as such changes leave them at a moment, each by its own; what none is told of stays
abbrev pub left_of : {A : Type 0} → ℕ → List (SitePort A) → List (Change (SitePort A)) → List (SitePort A)
left_of now [] cs = []
left_of now (l ∷ ls) [] = l ∷ ls
left_of now (l ∷ ls) (c ∷ cs) = changed now l c ∷ left_of now ls cs

-- two lists of changes leave the same of any ports
pub record SameLeft {A : Type 0} (old new : List (Change (SitePort A))) : Type 0 where
  pub same : (now : ℕ) (ports : List (SitePort A)) → left_of now ports new ≡ left_of now ports old

-- ports as an event leaves them so far, and what it put out over them
abbrev pub drafted : {A : Type 0} → ℕ → List (SitePort A) → Draft A → PortsState A
drafted now ports d = record { ports = left_of now ports d.changes.items; out = d.out }
