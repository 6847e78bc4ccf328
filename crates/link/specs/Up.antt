-- A message as it comes up from a network (6.1).
use Rattle.std.specs.Prelude.{Option, Some, None}
use Rattle.npdu.specs.declared.parcel.Parcel.{Parcel}
use Rattle.link.specs.declared.up.Up.{Up}

-- the message, whatever memory holds it
abbrev pub parcel_of : {A : Type 0} → Up → Parcel A
parcel_of up = record { from = up.from; to = up.to; npdu = up.npdu.now; stamp = up.stamp }

-- .. where one comes up
abbrev pub parcel_if : {A : Type 0} → Option Up → Option (Parcel A)
parcel_if None = None
parcel_if (Some up) = Some (parcel_of up)
