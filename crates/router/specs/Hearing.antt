-- What a router does with a parcel: what it says, and what it knows then (6.5, 6.6).
use Rattle.std.specs.Prelude.{◌≡◌, ◌≢◌, ◌⊎◌, ℕ, true, false, List, [], Some, None, slice_get}
use Rattle.npdu.specs.Header.{Header, NoHeader, Spells}
use Rattle.npdu.specs.declared.mac.Station.{Station}
use Rattle.npdu.specs.declared.parcel.Parcel.{Parcel}
use Rattle.router.specs.Handling.{handling}
use Rattle.router.specs.Messages.{Heard}
use Rattle.router.specs.Router.{RouterState, at_moment}
use Rattle.router.specs.Routes.{teaches}
use Rattle.router.specs.Said.{left, said, teaches_too_many}
use Rattle.router.specs.declared.handling.Handling.{Handling}
use Rattle.router.specs.declared.handling.Handling.TheVariants.{Discard, Learn}
use Rattle.router.specs.declared.plan.PortParcel.{PortParcel}

-- what is heard, where a parcel comes at this moment on a port
abbrev pub heard : {A : Type 0} → (now port : ℕ) → Parcel A → (at : Station) → Header → Heard A
heard now port p at h = record { moment = now; port = port; at = at; parcel = p; header = h }

-- what is done with it
abbrev pub handling_of : {A : Type 0} → RouterState → Heard A → Handling
handling_of st m = handling st m.port m.parcel.to m.header

-- a parcel comes on a port of the router, and spells this header
pub record IsMet {A : Type 0} (port : ℕ) (p : Parcel A) (st : RouterState) (at : Station) (h : Header) : Type 0 where
  pub there : slice_get st.ports port ≡ Some at
  pub spelled : Spells p.npdu h

-- what comes of what is heard: what goes out, and what the router knows then
pub record Comes {A : Type 0} (m : Heard A) (old : RouterState) (out : List (PortParcel A)) (new : RouterState) :
    Type 0 where
  pub fits : teaches_too_many m old (handling_of old m) ≡ false
  pub says : out ≡ said m old (handling_of old m)
  pub leaves : new ≡ left m old (handling_of old m)

-- what comes of a parcel that is met
pub record Hears {A : Type 0} (now port : ℕ) (p : Parcel A) (old : RouterState) (out : List (PortParcel A))
    (new : RouterState) : Type 0 where
  pub at : Station
  pub header : Header
  pub met : IsMet port p old at header
  pub comes : Comes (heard now port p at header) old out new

-- there is no such port, or no header: nothing goes out, and nothing is learned
pub record Drops {A : Type 0} (now port : ℕ) (p : Parcel A) (old : RouterState) (out : List (PortParcel A))
    (new : RouterState) : Type 0 where
  pub nothing : (slice_get old.ports port ≡ None) ⊎ NoHeader p.npdu
  pub silent : out ≡ []
  pub same : new ≡ at_moment now old

-- what goes out over which ports, and what a router knows then, where a parcel comes at this moment on a port
abbrev pub RouterHears : {A : Type 0} → (now port : ℕ) → Parcel A → RouterState → List (PortParcel A) → RouterState →
    Type 0
RouterHears now port p old out new = Hears now port p old out new ⊎ Drops now port p old out new

-- it isn't dropped for its header or its destination
pub record IsTaken {A : Type 0} (port : ℕ) (p : Parcel A) (st : RouterState) : Type 0 where
  pub at : Station
  pub header : Header
  pub met : IsMet port p st at header
  pub does : handling st port p.to header ≢ Discard

-- it is an announcement of a network that may be learned
pub record Teaches {A : Type 0} (port : ℕ) (p : Parcel A) (st : RouterState) : Type 0 where
  pub at : Station
  pub header : Header
  pub met : IsMet port p st at header
  pub learns : handling st port p.to header ≡ Learn
  pub news : teaches st.ports header.body ≡ true

-- it is an announcement behind which the router would know too many routes
pub record IsOverfull {A : Type 0} (port : ℕ) (p : Parcel A) (st : RouterState) : Type 0 where
  pub at : Station
  pub header : Header
  pub met : IsMet port p st at header
  pub many : teaches_too_many (heard 0 port p at header) st (handling st port p.to header) ≡ true
