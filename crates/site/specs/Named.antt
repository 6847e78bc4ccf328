-- The names of a site's stations.
use Rattle.std.specs.Prelude.{ℕ, List, map}
use Rattle.std.specs.List.{AllByRecursion}
use Rattle.site_parts.specs.declared.parts.Station.{Station}
use Rattle.site_parts.specs.Names.{IsName}
use Rattle.site.specs.Apart.{AreApart}

-- the names of stations
abbrev pub names : {A : Type 0} → List (Station A) → List (List ℕ)
names ss = map (λ s. s.name) ss

-- stations have names, no two the same
pub record AreNamed {A : Type 0} (ss : List (Station A)) : Type 0 where
  pub each : AllByRecursion IsName (names ss)
  pub apart : AreApart (names ss)
