-- Octets bring one parcel, or none.
use Rattle.std.proofs.Common.{◌≡◌, ◌∙◌, sym, ap, subst, List, ℕ, Option, Some, None}
use Rattle.bvll.proofs.Unique.{one_datagram}
use Rattle.bvll.specs.Datagram.{Datagram}
use Rattle.carry.proofs.Passed.{none_some}
use Rattle.inside.proofs.Insides.{some_same}
use Rattle.link.specs.Up.{parcel_if, parcel_of}
use Rattle.link.specs.declared.step.Sent.{Sent}
use Rattle.link.specs.declared.up.Up.{Up}
use Rattle.link_ip.specs.Hearing.{IsHeard, IsRefused, handed_up}
use Rattle.link_ip.specs.Port.{IpPortState, station_of}
use Rattle.link_ip.specs.Steps.{Hears}
use Rattle.npdu.specs.declared.mac.Mac.{Mac}
use Rattle.npdu.specs.declared.mac.Mac.TheVariants.{One, Six}
use Rattle.npdu.specs.declared.parcel.Parcel.{Parcel}
use Rattle.tags.specs.declared.fault.Fault.{Fault}
use Rattle.console.specs.Builtin.{builtin_port}
use Rattle.console.specs.Hearing.{Brings, HandsUpNothing}

module _ {A : Type 0} (own : Mac) where
  one_up : (from : Mac) (datagram : List ℕ) (up other : Option (Parcel A)) → IsHeard from own datagram 0 up → IsHeard from own datagram 0 other → up ≡ other
  one_up (One from) datagram up other h k = h ∙ sym k
  one_up (Six from) datagram up other h k =
      let same = one_datagram datagram h.datagram k.datagram h.spelled k.spelled in
      h.is ∙ ap (λ (d : Datagram). handed_up (Six from) own 0 d) same ∙ sym k.is

  pub heard_brings : (from : Mac) (datagram : List ℕ) (up : Option (Parcel A)) → IsHeard from own datagram 0 up → Brings own from datagram up
  heard_brings from datagram None h = record { none = λ p k. none_some p (one_up from datagram None (Some p) h k) }
  heard_brings from datagram (Some p) h =
      (h, record { only = λ q k. some_same p q (one_up from datagram (Some p) (Some q) h k) })

  pub refused_brings : (from : Mac) (datagram : List ℕ) (fault : Fault) → IsRefused fault from datagram → HandsUpNothing A own from datagram
  refused_brings (One from) datagram fault r = absurd r
  refused_brings (Six from) datagram fault r = record { none = λ p k. r.none.none k.datagram k.spelled }

module _ {A : Type 0} where
  -- .. what the built-in port hands up of them, in memory of its own
  pub up_brings : (from : Mac) (datagram : List ℕ) (old new : IpPortState A) (out : List (Sent A)) (came : Option Up) (up : Up) (p : Parcel A) →
      old ≡ builtin_port → came ≡ Some up → p ≡ parcel_of up → Hears 0 from datagram 0 old (record { up = parcel_if came; out = out }) new →
      Brings (station_of (builtin_port {A = A})).mac from datagram (Some p)
  up_brings from datagram old new out came up p is some same h =
      let heard = subst (λ (port : IpPortState A). IsHeard {A = A} from (station_of port).mac datagram 0 (parcel_if came)) is h.up in
      let one = subst (λ (u : Option Up). IsHeard {A = A} from (station_of (builtin_port {A = A})).mac datagram 0 (parcel_if u)) some heard in
      heard_brings (station_of (builtin_port {A = A})).mac from datagram (Some p)
      (subst (λ (q : Parcel A). IsHeard {A = A} from (station_of (builtin_port {A = A})).mac datagram 0 (Some q)) (sym same) one)

pub ruleset link_rules = (heard_brings, refused_brings)
