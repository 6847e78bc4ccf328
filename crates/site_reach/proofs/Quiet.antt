-- What goes out is no registration, but where a port registers: what a port of BACnet/IP puts out of a parcel.
use Rattle.std.proofs.Common.{◌≡◌, ⊎_elim, ap, subst, ℕ, ◌==◌, Bool, true, false, true≢false, refl, List, [], ◌∷◌}
use Rattle.bvll.specs.Datagram.{Datagram, Spells, broadcast, canonical, distribute, function, register, unicast}
use Rattle.bvll.specs.Function.{number_of}
use Rattle.carry.specs.Ports as carry
use Rattle.carry.specs.Ports.{datagram_to, down_to}
use Rattle.carry.specs.Things.{SentDatagram, Thing}
use Rattle.history.proofs.HasLaws.{has_map, map_has}
use Rattle.history.proofs.Lists.{has_cons, none_has}
use Rattle.history.specs.Lists.{Has}
use Rattle.link.specs.Step.{LinkStep}
use Rattle.link.specs.declared.step.Sent.{Sent}
use Rattle.link_ip.specs.Port.{IpPortState, port_of, station_of}
use Rattle.link_ip.specs.Saying.{is_taken, put_out_if, thing_of}
use Rattle.link_ip.specs.Steps as ip
use Rattle.npdu.specs.declared.mac.Mac.{Mac}
use Rattle.npdu.specs.declared.mac.Target.{Target}
use Rattle.npdu.specs.declared.mac.Target.TheVariants.{One, All}
use Rattle.npdu.specs.declared.parcel.Parcel.{Parcel}

-- the second octet, which is the function of a datagram (J.2)
abbrev second : List ℕ → ℕ
second [] = 0
second (a ∷ []) = 0
second (a ∷ (b ∷ rest)) = b

-- octets that spell no registration
pub record IsQuiet (octets : List ℕ) : Type 0 where
  pub other : (seconds : ℕ) → Spells octets (register seconds) → ⊥

not_five : (n : ℕ) → (n == 5) ≡ false → n ≡ 5 → ⊥
not_five n f e = true≢false (subst (λ (m : ℕ). (m == 5) ≡ false) e f)

-- a datagram of another function
pub quiet_datagram : (d : Datagram) → (number_of (function d) == 5) ≡ false → IsQuiet (canonical d)
quiet_datagram d other = record {
  other = λ seconds s. not_five (number_of (function d)) other (ap second s.parts);
}

module _ {A : Type 0} where
  -- a thing that is no registration
  abbrev QuietThing : Thing A → Type 0
  QuietThing (SentDatagram net from to octets stamp) = IsQuiet octets
  QuietThing t = Unit {0}

  only_this : (u t : Thing A) → QuietThing u → Has (u ∷ []) t → QuietThing t
  only_this u t quiet h = ⊎_elim (λ (e : u ≡ t). subst (λ (x : Thing A). QuietThing x) e quiet)
      (λ (none : Has [] t). absurd (none_has none)) (has_cons u [] h)

  down_quiet : (net : ℕ) (port : carry.Port) (to : Target) (p : Parcel A) (t : Thing A) → Has (down_to net port to p) t →
      QuietThing t
  down_quiet net port (One to) p t h =
      only_this (datagram_to net p to (unicast p.npdu)) t (quiet_datagram (unicast p.npdu) refl) h
  down_quiet net (carry.Member others) All p t h =
      let found = map_has (λ (to : Mac). datagram_to net p to (broadcast p.npdu)) others t h in
      subst (λ (x : Thing A). QuietThing x) found.2 (quiet_datagram (broadcast p.npdu) refl)
  down_quiet net (carry.Foreign manager) All p t h =
      only_this (datagram_to net p manager (distribute p.npdu)) t (quiet_datagram (distribute p.npdu) refl) h

  put_quiet : (taken : Bool) (l : IpPortState A) (p : Parcel A) (t : Thing A) → Has (put_out_if taken l p) t → QuietThing t
  put_quiet true l p t h = down_quiet l.net (port_of l.reach) p.to p t h
  put_quiet false l p t h = absurd (none_has h)

  -- what a port puts out of a parcel
  pub downs_quiet : (now : ℕ) (p : Parcel A) (old : IpPortState A) (step : LinkStep A) (new : IpPortState A) →
      ip.Downs now p old step new → (s : Sent A) → Has step.out s → IsQuiet s.octets
  downs_quiet now p old step new d s there = put_quiet (is_taken old p) old p (thing_of (station_of old) s)
      (subst (λ (ts : List (Thing A)). Has ts (thing_of (station_of old) s)) d.puts
      (has_map (λ (x : Sent A). thing_of (station_of old) x) step.out s there))
