-- What a router knows (6.6.1).
use Rattle.std.specs.Prelude.{ℕ, ◌<◌, Bool, true, false, List, []}
use Rattle.std.specs.List.{AllByRecursion}
use Rattle.npdu.specs.declared.mac.Station.{Station}
use Rattle.router.specs.declared.routes.Route.{Route}

-- the networks of its ports and its addresses there; the routes that it learned, in the order of their networks;
-- whether it has woken; and the moment of the last call that was not refused
pub record RouterState : Type 0 where
  pub ports : List Station
  pub routes : List (ℕ × Route)
  pub woken : Bool
  pub moment : ℕ

-- its network has a number (6.2.2)
abbrev pub IsNumbered : Station → Type 0
IsNumbered s = (0 < s.net) × (s.net < 65535)

abbrev pub AreNumbered : List Station → Type 0
AreNumbered ports = AllByRecursion IsNumbered ports

-- one that has not woken and knows no route but those to its own networks (6.6.2)
abbrev pub new_router : List Station → RouterState
new_router ports = record { ports = ports; routes = []; woken = false; moment = 0 }

-- the same at this moment
abbrev pub at_moment : ℕ → RouterState → RouterState
at_moment now st = record st { moment = now }

-- .. once it has woken
abbrev pub woken : ℕ → RouterState → RouterState
woken now st = record st { woken = true; moment = now }
