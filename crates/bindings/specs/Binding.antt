-- What a client knows of devices: their bindings (6.4.4, 16.10).
use Rattle.std.specs.Prelude.{ℕ, ◌==◌, ◌||◌, nat_lt, min, Bool, List, [], ◌∷◌, map, length, if◌then◌else◌}
use Rattle.std.specs.Prelude.{Option, is_some, false}
use Rattle.std.specs.List.{find}
use Rattle.apdu.specs.declared.unconfirmed.IAm.{IAm}
use Rattle.bindings.specs.declared.bound.Bound.{Bound}
use Rattle.npdu.specs.declared.mac.Station.{Station}
use Rattle.npdu.specs.declared.mac.Way.{Way}
use Rattle.npdu.specs.declared.message.NetworkRejectReason.{NetworkRejectReason}
use Rattle.npdu.specs.declared.message.NetworkRejectReason.TheVariants.{NoRoute, UnknownMessageType, TooLong}
use Rattle.bindings.specs.declared.binding.Binding.{Binding}
use Rattle.profile.specs.Limits.{MAX_BINDINGS}

-- a binding is that of the device of this instance
abbrev pub is_of : ℕ → Binding → Bool
is_of instance b = b.instance == instance

-- the binding of the device of this instance
abbrev pub binding_of : ℕ → List Binding → Option Binding
binding_of instance bs = find (is_of instance) bs

-- a binding can be held for this instance: in the place of its binding, or behind less than all
abbrev pub has_place : ℕ → List Binding → Bool
has_place instance bs = is_some (binding_of instance bs) || nat_lt (length bs) MAX_BINDINGS

-- these bindings and this one, in the place of the one of its instance or behind all
abbrev pub put_binding : Binding → List Binding → List Binding
put_binding b [] = b ∷ []
put_binding b (x ∷ xs) = if is_of b.instance x then b ∷ xs else x ∷ put_binding b xs

-- where a device is, and how long an APDU to it may be, by its I-Am; lengths over 65535 count as that (16.10.3)
abbrev pub bound_by : Station → Way → IAm → Bound
bound_by station way i = record { station = station; way = way; max_apdu = min i.max_apdu 65535 }

-- the binding that an I-Am makes: no router refused its network since (16.10.3)
abbrev pub introduced : Station → Way → IAm → Binding
introduced station way i =
    record {
      instance = i.instance;
      bound = bound_by station way i;
      segmentation = i.segmentation;
      refused = false;
    }

-- a binding after a router said that it has no route to this network
abbrev pub marked : (net : ℕ) → Binding → Binding
marked net b = record b { refused = b.refused || (b.bound.station.net == net) }

-- the bindings after a router refused a message to this network for this reason: only a want of a route counts (6.4.4)
abbrev pub mark_refused : NetworkRejectReason → (net : ℕ) → List Binding → List Binding
mark_refused NoRoute net bs = map (marked net) bs
mark_refused UnknownMessageType net bs = bs
mark_refused TooLong net bs = bs
