-- The routes that a router learns (6.6.1, 6.6.3.3).
use Rattle.std.specs.Prelude.{◌≡◌, ◌≢◌, ℕ, ◌==◌, ◌&&◌, ◌||◌, not, nat_lt, cond, Bool, true, false, List, [], ◌∷◌}
use Rattle.std.specs.Prelude.{length, Some}
use Rattle.std.specs.BTreeMap.{insert_entry, is_at}
use Rattle.std.specs.Map.{lookup}
use Rattle.std.specs.Ordering.{nat_cmp}
use Rattle.byteorder.specs.Endian.{big_number}
use Rattle.npdu.specs.declared.mac.Station.{Station}
use Rattle.profile.specs.Limits.{MAX_LEARNED_ROUTES}
use Rattle.router.specs.declared.routes.Route.{Route}

-- one of the ports is on this network
abbrev pub has_port_on : ℕ → List Station → Bool
has_port_on net [] = false
has_port_on net (s ∷ ss) = (s.net == net) || has_port_on net ss

-- a route to it may be learned: the network has a number, and is none of the router's own (6.2.2)
abbrev pub is_learnable : List Station → ℕ → Bool
is_learnable ports net = not (net == 0) && (not (net == 65535) && not (has_port_on net ports))

-- the routes behind the name of one network: the new one stands in the place of an earlier one
abbrev pub learned_one : List Station → Route → ℕ → List (ℕ × Route) → List (ℕ × Route)
learned_one ports route net routes = cond (is_learnable ports net) (insert_entry nat_cmp routes net route) routes

-- .. behind the names of all networks that contents have, two octets each, in order (6.4.2)
abbrev pub learned : List Station → Route → List ℕ → List (ℕ × Route) → List (ℕ × Route)
learned ports route [] routes = routes
learned ports route (a ∷ []) routes = routes
learned ports route (high ∷ low ∷ rest) routes =
    learned ports route rest (learned_one ports route (big_number 2 (high ∷ low ∷ [])) routes)

-- some network that they name may be learned
abbrev pub teaches : List Station → List ℕ → Bool
teaches ports [] = false
teaches ports (a ∷ []) = false
teaches ports (high ∷ low ∷ rest) = is_learnable ports (big_number 2 (high ∷ low ∷ [])) || teaches ports rest

-- a route to it may be learned, and isn't known yet (6.6.3.3)
pub record IsNews (ports : List Station) (route : Route) (net : ℕ) (routes : List (ℕ × Route)) : Type 0 where
  pub learnable : is_learnable ports net ≡ true
  pub other : lookup (is_at (nat_cmp net)) routes ≢ Some route

-- more routes than a router knows
abbrev pub is_too_many : List (ℕ × Route) → Bool
is_too_many routes = nat_lt MAX_LEARNED_ROUTES (length routes)

-- an announcement teaches something, and behind it there would be more
abbrev pub is_overfull : List Station → Route → List ℕ → List (ℕ × Route) → Bool
is_overfull ports route contents routes = teaches ports contents && is_too_many (learned ports route contents routes)

-- the first two octets are the number of a network
pub record IsFront (octets : List ℕ) (net : ℕ) (rest : List ℕ) : Type 0 where
  pub high : ℕ
  pub low : ℕ
  pub parts : octets ≡ high ∷ (low ∷ rest)
  pub number : net ≡ big_number 2 (high ∷ low ∷ [])
