-- What holds of all that a router says, in the words of what is inside messages.
use Rattle.std.specs.Prelude.{◌≡◌, ◌⊎◌, ℕ, true, false, List, Some, slice_get}
use Rattle.std.specs.List.{AllByRecursion}
use Rattle.npdu.specs.declared.mac.Station.{Station}
use Rattle.npdu.specs.declared.parcel.Parcel.{Parcel}
use Rattle.inside.specs.Inside.{HasNothingInside}
use Rattle.inside.specs.Routed.{IsRouted}
use Rattle.router.specs.Hearing.{RouterHears}
use Rattle.router.specs.Messages.{announced}
use Rattle.router.specs.Router.{RouterState}
use Rattle.router.specs.Routes.{is_learnable, is_too_many}
use Rattle.router.specs.declared.plan.PortParcel.{PortParcel}
use Rattle.router.specs.declared.routes.Route.{Route}

-- it goes out over one of these ports, from the router's address there
pub record LeavesBy {A : Type 0} (ports : List Station) (o : PortParcel A) (s : Station) : Type 0 where
  pub there : slice_get ports o.port ≡ Some s
  pub from : o.parcel.from ≡ s.mac

-- .. and is made of a parcel that was heard on a network, or has nothing inside (6.5.2)
pub record IsPassedOn {A : Type 0} (ports : List Station) (net : ℕ) (p : Parcel A) (o : PortParcel A) : Type 0 where
  pub station : Station
  pub leaves : LeavesBy ports o station
  pub inside : IsRouted net station.net p o.parcel ⊎ HasNothingInside station.net o.parcel

-- .. and has nothing inside (6.2.4)
pub record IsOwn {A : Type 0} (ports : List Station) (o : PortParcel A) : Type 0 where
  pub station : Station
  pub leaves : LeavesBy ports o station
  pub inside : HasNothingInside station.net o.parcel

-- each parcel that goes out of one heard on a port is made of that one, or has nothing inside
abbrev pub RouterPassesOn : Type 0 → Type 0
RouterPassesOn A = (now port : ℕ) (p : Parcel A) (old new : RouterState) (out : List (PortParcel A)) (at : Station) →
    slice_get old.ports port ≡ Some at → RouterHears now port p old out new →
    AllByRecursion (IsPassedOn old.ports at.net p) out

-- each that goes out at a wake has nothing inside
abbrev pub RouterAnnounces : Type 0 → Type 0
RouterAnnounces A = (now : ℕ) (st : RouterState) → AllByRecursion (IsOwn {A = A} st.ports) (announced now st)

-- what comes of a parcel is one thing: what goes out, and what the router knows then
abbrev pub HeardOnce : Type 0 → Type 0
HeardOnce A = (now port : ℕ) (p : Parcel A) (old x y : RouterState) (out other : List (PortParcel A)) →
    RouterHears now port p old out x → RouterHears now port p old other y → (out ≡ other) × (x ≡ y)

-- learned routes lead to networks that may be learned, and are no more than a router knows
pub record AreRoutes (ports : List Station) (routes : List (ℕ × Route)) : Type 0 where
  pub learnable : AllByRecursion (λ (r : ℕ × Route). is_learnable ports r.0 ≡ true) routes
  pub few : is_too_many routes ≡ false

-- whatever it hears, its ports stay, and its routes are such routes
abbrev pub RouterKeeps : Type 0 → Type 0
RouterKeeps A = (now port : ℕ) (p : Parcel A) (old new : RouterState) (out : List (PortParcel A)) →
    RouterHears now port p old out new → AreRoutes old.ports old.routes →
    (new.ports ≡ old.ports) × AreRoutes new.ports new.routes
