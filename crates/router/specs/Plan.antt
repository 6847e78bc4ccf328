-- What a router would do, before anything changes.
use Rattle.std.specs.Prelude.{ℕ, List}
use Rattle.npdu.specs.Header.{header_of}
use Rattle.npdu.specs.declared.mac.Mac.{Mac}
use Rattle.npdu.specs.declared.mac.Target.{Target}
use Rattle.npdu.specs.declared.parcel.Parcel.{Parcel}
use Rattle.router.specs.Messages as spec
use Rattle.router.specs.Router.{RouterState, at_moment, woken}
use Rattle.router.specs.declared.heard.Heard.{Heard}
use Rattle.router.specs.declared.plan.RouterChange.{RouterChange}
use Rattle.router.specs.declared.plan.RouterChange.TheVariants.{Nothing, Learns, Wakes}
use Rattle.router.specs.declared.plan.RouterPlan.{RouterPlan}

-- an NPDU from a station on a network to one or all there, said at a moment, as a parcel
abbrev pub parcel_of : {A : Type 0} → (from : Mac) → (to : Target) → (npdu : List ℕ) → (stamp : ℕ) → Parcel A
parcel_of from to npdu stamp = record { from = from; to = to; npdu = npdu; stamp = stamp }

-- what the code heard, wherever its octets lie
abbrev pub heard_of : {A : Type 0} → Heard A → spec.Heard A
heard_of m = record {
  moment = m.moment;
  port = m.port;
  at = m.at;
  parcel = parcel_of m.from m.to m.npdu.now m.stamp;
  header = header_of m.view;
}

-- the router as a change at this moment leaves it
abbrev pub changed : {A : Type 0} → ℕ → RouterChange A → RouterState → RouterState
changed now Nothing st = at_moment now st
changed now (Learns routes) st = record st { routes = routes; moment = now }
changed now Wakes st = woken now st

-- the router as a plan that is carried out at this moment leaves it
abbrev pub left_by : {A : Type 0} → ℕ → RouterPlan A → RouterState → RouterState
left_by now plan st = changed now plan.change st

-- a plan has routes of its own, a copy of those of the router and more
abbrev pub HasRoutes : {A : Type 0} → RouterChange A → Type 0
HasRoutes Nothing = ⊥
HasRoutes (Learns routes) = Unit {0}
HasRoutes Wakes = ⊥
