-- Laws: a port of BACnet/IP keeps the law of a link.
use Rattle.std.proofs.Common.{◌≡◌, ⊎_elim, ◌≤◌, ◌∙◌, sym, ap, subst, refl, ℕ, Bool, true, false, List, [], ◌∷◌, length}
use Rattle.std.proofs.Common.{Option, Some, None}
use Rattle.bvll.proofs.Unique.{one_datagram}
use Rattle.bvll.specs.Datagram.{Datagram, forwarded, register}
use Rattle.bvll.specs.Datagram.{distribute, unicast, broadcast}
use Rattle.carry.proofs.Datagrams.{bears_none, datagram_reaches, datagram_stamp}
use Rattle.carry.proofs.Passed.{none_some}
use Rattle.carry.proofs.Ports.{port_puts_out}
use Rattle.carry.specs.Datagrams.{IsDatagramOf, carried_by, mac_at}
use Rattle.history.proofs.HasLaws.{has_map}
use Rattle.history.proofs.Lists.{has, has_cons, none_has}
use Rattle.history.specs.Lists.{Has}
use Rattle.inside.proofs.Insides.{some_same}
use Rattle.link.specs.Carrying.{AreKept, CarriesDown, CarriesOn, CarriesUp, HandsUpIf, PutAll, Puts, Restarts, nothing}
use Rattle.link.specs.Limits.{max_npdu_at}
use Rattle.link.specs.Step.{LinkStep}
use Rattle.link.specs.declared.step.Change.TheVariants.{Nothing}
use Rattle.link.specs.declared.step.Sent.{Sent}
use Rattle.npdu.specs.declared.mac.Mac.{Mac}
use Rattle.npdu.specs.declared.mac.Mac.TheVariants.{One, Six}
use Rattle.npdu.specs.declared.parcel.Parcel.{Parcel}
use Rattle.link_ip.specs.Hearing.{IsHeard, handed_up}
use Rattle.link_ip.specs.Port.{IpPortState, at_moment, changed, moment_of, station_of, waiting_in}
use Rattle.link_ip.specs.Saying.{is_taken, put_out_if, registration, sent, thing_of}
use Rattle.link_ip.specs.Steps.{Counts, Downs, Hears, Idles, Registers, is_due}
use Rattle.link_ip.specs.declared.port.Reach.{Reach}
use Rattle.link_ip.specs.declared.port.Reach.TheVariants.{Members, Foreign}

module _ {A : Type 0} where
  pub one_parcel : (from to : Mac) (octets : List ℕ) (stamp : ℕ) (p q : Parcel A) →
      IsDatagramOf from to octets stamp p → IsDatagramOf from to octets stamp q → p ≡ q
  one_parcel from to octets stamp p q a b =
      let same = one_datagram octets a.datagram b.datagram a.spelled b.spelled in
      some_same p q (sym a.carries ∙ ap (λ (d : Datagram). carried_by from to stamp d) same ∙ b.carries)

  pub keeps_stamp : (from to : Mac) (octets : List ℕ) (stamp : ℕ) (p : Parcel A) →
      IsDatagramOf from to octets stamp p → p.stamp ≡ stamp
  keeps_stamp from to octets stamp p is = datagram_stamp 0 stamp from to octets p is

  none_kept : (old : List (Parcel A)) → AreKept [] old
  none_kept old = record { each = λ p there. absurd (none_has there) }

  none_put : (from : Mac) (among : List (Parcel A)) → PutAll IsDatagramOf from among []
  none_put from among = record { each = λ s there. absurd (none_has there) }

  -- what is put out of a parcel carries that and nothing else
  puts_it : (taken : Bool) (port : IpPortState A) (p : Parcel A) (s : Sent A) →
      length p.npdu ≤ max_npdu_at (station_of port).mac →
      Has (put_out_if taken port p) (thing_of (station_of port) s) → Puts IsDatagramOf (station_of port).mac (p ∷ []) s
  puts_it true port p s fits there = record {
    only = (port_puts_out port.net _ (p ∷ []) p (thing_of (station_of port) s) (has 0 refl) fits there).bears;
  }
  puts_it false port p s fits there = absurd (none_has there)

  pub carries_down : (now : ℕ) (p : Parcel A) (old : IpPortState A) (step : LinkStep A) (new : IpPortState A) →
      Downs now p old step new → CarriesDown IsDatagramOf station_of moment_of waiting_in now p old step new
  carries_down now p old step new d = record {
    puts = record {
      each = λ s there. puts_it (is_taken old p) old p s d.fits
          (subst (λ ts. Has ts (thing_of (station_of old) s)) d.puts
          (has_map (thing_of (station_of old)) step.out s there));
    };
    kept = none_kept (p ∷ []);
    silent = d.silent;
    place = ap station_of d.left;
    at = ap moment_of d.left;
  }

  -- what a datagram hands up it carries
  is_carried : (from own : Mac) (stamp : ℕ) (d : Datagram) (p : Parcel A) → Some p ≡ handed_up from own stamp d →
      carried_by from own stamp d ≡ Some p
  is_carried from own stamp (distribute npdu) p e = absurd (none_some p (sym e))
  is_carried from own stamp (unicast npdu) p e = sym e
  is_carried from own stamp (broadcast npdu) p e = sym e
  is_carried from own stamp (forwarded origin npdu) p e = sym e
  is_carried from own stamp d p e = absurd (none_some p (sym e))

  is_handed_up : (from own : Mac) (octets : List ℕ) (stamp : ℕ) (up : Option (Parcel A)) →
      IsHeard from own octets stamp up →
      HandsUpIf IsDatagramOf from own octets stamp up
  is_handed_up from own octets stamp None h = tt
  is_handed_up (One from) own octets stamp (Some p) h = absurd (none_some p (sym h))
  is_handed_up (Six from) own octets stamp (Some p) h =
      let carried : IsDatagramOf (Six from) own octets stamp p = record {
        datagram = h.datagram;
        spelled = h.spelled;
        carries = is_carried (Six from) own stamp h.datagram p h.is;
      } in
      record { carried = carried; reaches = datagram_reaches 0 (Six from) own octets stamp p carried }

  pub carries_up : (now : ℕ) (from : Mac) (octets : List ℕ) (stamp : ℕ) (old : IpPortState A) (step : LinkStep A)
      (new : IpPortState A) →
      Hears now from octets stamp old step new →
      CarriesUp IsDatagramOf station_of moment_of waiting_in now from octets stamp old step new
  carries_up now from octets stamp old step new h = record {
    up = is_handed_up from (station_of old).mac octets stamp step.up h.up;
    puts = subst (λ out. PutAll IsDatagramOf (station_of old).mac [] out) (sym h.silent)
        (none_put (station_of old).mac []);
    kept = none_kept [];
    place = ap station_of h.left;
    at = ap moment_of h.left;
  }

  pub carries_on : (now : ℕ) (old : IpPortState A) (step : LinkStep A) (new : IpPortState A) →
      Idles now old step new → CarriesOn IsDatagramOf station_of moment_of waiting_in now old step new
  carries_on now old step new i = record {
    puts = subst (λ (s : LinkStep A). PutAll IsDatagramOf (station_of old).mac [] s.out) (sym i.nothing)
        (none_put (station_of old).mac []);
    kept = none_kept [];
    silent = ap (λ (s : LinkStep A). s.up) i.nothing;
    place = ap station_of i.left;
    at = ap moment_of i.left;
  }

  pub carries_counting : (count now : ℕ) (old : IpPortState A) (step : LinkStep A) (new : IpPortState A) →
      Counts count now old step new → CarriesOn IsDatagramOf station_of moment_of waiting_in now old step new
  carries_counting count now old step new i = carries_on now old step new i

  -- a registration carries nothing
  registration_puts : (port : IpPortState A) (reach : Reach A) (now : ℕ) (s : Sent A) → Has (registration reach now) s →
      Puts IsDatagramOf (station_of port).mac [] s
  registration_puts port (Members others) now s there = absurd (none_has there)
  registration_puts port (Foreign manager seconds) now s there = ⊎_elim
      (λ (one : sent (mac_at manager) (register seconds) now ≡ s). record {
        only = λ p carried. absurd (bears_none port.net now (station_of port).mac (mac_at manager)
            (register seconds) p refl
            (subst (λ (x : Sent A). IsDatagramOf (station_of port).mac x.to x.octets x.stamp p) (sym one) carried));
      })
      (λ (more : Has [] s). absurd (none_has more))
      (has_cons (sent (mac_at manager) (register seconds) now) [] there)

  pub carries_registering : (now : ℕ) (old : IpPortState A) (step : LinkStep A) (new : IpPortState A) →
      Registers now old step new → CarriesOn IsDatagramOf station_of moment_of waiting_in now old step new
  carries_registering now old step new r = record {
    puts = record { each = λ s there. registration_puts old old.reach now s (subst (λ out. Has out s) r.says there) };
    kept = none_kept [];
    silent = r.silent;
    place = ap station_of r.left;
    at = ap moment_of r.left;
  }

  pub forgets : (now : ℕ) (old : IpPortState A) →
      Restarts station_of moment_of (waiting_in {A = A}) now old (at_moment now old)
  forgets now old = record { place = refl; at = refl; none = refl }

  pub idles : (now : ℕ) (old : IpPortState A) (step : LinkStep A) (new : IpPortState A) → is_due now old ≡ false →
      Idles now old step new → (step ≡ nothing) × (new ≡ at_moment now old)
  idles now old step new none i = (i.nothing, i.left)

  pub stays : (now : ℕ) (old : IpPortState A) →
      (station_of (at_moment now old) ≡ station_of old) × (moment_of (at_moment now old) ≡ now) ×
      (waiting_in (at_moment now old) ≡ waiting_in old)
  stays now old = (refl, refl, refl)

  pub stands : (now : ℕ) (old : IpPortState A) → changed now old Nothing ≡ old
  stands now old = refl
