-- Laws: a port of either kind keeps the law of a link, by the laws of its kind.
use Rattle.std.proofs.Common.{◌≡◌, sym, ap, subst, refl, ℕ, Bool, false, List, [], ◌∷◌, ◌++◌, Option, Some, None}
use Rattle.bvll.specs.declared.address.Address.{Address}
use Rattle.carry.proofs.Passed.{none_some}
use Rattle.carry.specs.Datagrams.{IsDatagramOf, mac_at}
use Rattle.link.specs.Carrying.{CarriesDown, CarriesOn, CarriesUp, HandsUpIf, PutAll, Restarts, nothing}
use Rattle.link.specs.Step.{LinkStep}
use Rattle.link.specs.declared.step.Change.TheVariants.{Nothing}
use Rattle.link.specs.declared.step.Sent.{Sent}
use Rattle.link_bus.specs.CarryLaws as bus_laws
use Rattle.link_bus.specs.Port as bus_port
use Rattle.link_bus.specs.Port.{BusPortState}
use Rattle.link_bus.specs.Steps as bus
use Rattle.link_bus.specs.Steps.{IsOnBus}
use Rattle.link_ip.specs.CarryLaws as ip_laws
use Rattle.link_ip.specs.Hearing.{IsHeard}
use Rattle.link_ip.specs.Port as ip_port
use Rattle.link_ip.specs.Port.{IpPortState}
use Rattle.link_ip.specs.Steps as ip
use Rattle.npdu.specs.declared.mac.Mac.{Mac}
use Rattle.npdu.specs.declared.mac.Mac.TheVariants.{One, Six}
use Rattle.npdu.specs.declared.parcel.Parcel.{Parcel}
use Rattle.link_site.specs.Port.{at_moment, changed, moment_of, restarted, station_of, waiting_in}
use Rattle.link_site.specs.Steps.{Counts, Downs, Hears, Registers, Wakes, is_due}
use Rattle.link_site.specs.Things.{Carries}
use Rattle.link_site.specs.declared.port.SitePort.{SitePort}
use Rattle.link_site.specs.declared.port.SitePort.TheVariants.{Ip, Bus}

module _ {A : Type 0} where
  pub one_parcel : (from to : Mac) (octets : List ℕ) (stamp : ℕ) (p q : Parcel A) → Carries from to octets stamp p →
      Carries from to octets stamp q → p ≡ q
  one_parcel (Six from) to octets stamp p q a b = ip_laws.one_parcel (Six from) to octets stamp p q a b
  one_parcel (One from) to octets stamp p q a b = bus_laws.one_parcel (One from) to octets stamp p q a b

  pub keeps_stamp : (from to : Mac) (octets : List ℕ) (stamp : ℕ) (p : Parcel A) → Carries from to octets stamp p →
      p.stamp ≡ stamp
  keeps_stamp (Six from) to octets stamp p is = ip_laws.keeps_stamp (Six from) to octets stamp p is
  keeps_stamp (One from) to octets stamp p is = bus_laws.keeps_stamp (One from) to octets stamp p is

  -- what goes out from an address of BACnet/IP carries what a datagram does
  ip_puts : (own : Address) (among : List (Parcel A)) (out : List (Sent A)) →
      PutAll IsDatagramOf (mac_at own) among out → PutAll Carries (mac_at own) among out
  ip_puts own among out all =
      record { each = λ s there. record { only = λ p carried. (all.each s there).only p carried } }

  -- .. from one of MS/TP what a frame does
  bus_puts : (own : ℕ) (among : List (Parcel A)) (out : List (Sent A)) → PutAll IsOnBus (One own) among out →
      PutAll Carries (One own) among out
  bus_puts own among out all =
      record { each = λ s there. record { only = λ p carried. (all.each s there).only p carried } }

  ip_on : (now : ℕ) (old : IpPortState A) (step : LinkStep A) (new : IpPortState A) →
      CarriesOn IsDatagramOf ip_port.station_of ip_port.moment_of ip_port.waiting_in now old step new →
      CarriesOn Carries station_of moment_of waiting_in now (Ip old) step (Ip new)
  ip_on now old step new law = record {
    puts = ip_puts old.address [] step.out law.puts;
    kept = law.kept;
    silent = law.silent;
    place = law.place;
    at = law.at;
  }

  bus_on : (now : ℕ) (old : BusPortState A) (step : LinkStep A) (new : BusPortState A) →
      CarriesOn IsOnBus bus_port.station_of bus_port.moment_of bus_port.waiting_in now old step new →
      CarriesOn Carries station_of moment_of waiting_in now (Bus old) step (Bus new)
  bus_on now old step new law = record {
    puts = bus_puts old.node.ts (bus_port.waiting_in old) step.out law.puts;
    kept = law.kept;
    silent = law.silent;
    place = law.place;
    at = law.at;
  }

  pub carries_down : (now : ℕ) (p : Parcel A) (old : SitePort A) (step : LinkStep A) (new : SitePort A) →
      Downs now p old step new → CarriesDown Carries station_of moment_of waiting_in now p old step new
  carries_down now p (Ip old) step (Ip new) d =
      let law = ip_laws.carries_down now p old step new d in
      record {
        puts = ip_puts old.address (p ∷ []) step.out law.puts;
        kept = law.kept;
        silent = law.silent;
        place = law.place;
        at = law.at;
      }
  carries_down now p (Bus old) step (Bus new) d =
      let law = bus_laws.carries_down now p old step new d in
      record {
        puts = bus_puts old.node.ts (bus_port.waiting_in old ++ p ∷ []) step.out law.puts;
        kept = law.kept;
        silent = law.silent;
        place = law.place;
        at = law.at;
      }
  carries_down now p (Ip old) step (Bus new) d = absurd d
  carries_down now p (Bus old) step (Ip new) d = absurd d

  -- what comes up of a datagram, and of nothing else
  ip_up : (from own : Mac) (octets : List ℕ) (stamp : ℕ) (up : Option (Parcel A)) → IsHeard from own octets stamp up →
      HandsUpIf IsDatagramOf from own octets stamp up → HandsUpIf Carries from own octets stamp up
  ip_up from own octets stamp None heard up = tt
  ip_up (Six from) own octets stamp (Some p) heard up = record { carried = up.carried; reaches = up.reaches }
  ip_up (One from) own octets stamp (Some p) heard up = absurd (none_some p (sym heard))

  -- .. of a frame
  bus_up : (from : ℕ) (own : Mac) (octets : List ℕ) (stamp : ℕ) (up : Option (Parcel A)) →
      HandsUpIf IsOnBus (One from) own octets stamp up → HandsUpIf Carries (One from) own octets stamp up
  bus_up from own octets stamp None up = tt
  bus_up from own octets stamp (Some p) up = record { carried = up.carried; reaches = up.reaches }

  -- .. and nothing where it comes to a bus from an address of another kind
  bus_comes_up : (now : ℕ) (from own : Mac) (octets : List ℕ) (stamp : ℕ) (old : BusPortState A) (step : LinkStep A)
      (new : BusPortState A) → bus.Hears now from octets stamp old step new →
      HandsUpIf IsOnBus from own octets stamp step.up → HandsUpIf Carries from own octets stamp step.up
  bus_comes_up now (One from) own octets stamp old step new heard up = bus_up from own octets stamp step.up up
  bus_comes_up now (Six from) own octets stamp old step new heard up =
      subst (λ (u : Option (Parcel A)). HandsUpIf Carries (Six from) own octets stamp u)
      (sym (ap (λ (s : LinkStep A). s.up) heard.nothing)) tt

  pub carries_up : (now : ℕ) (from : Mac) (octets : List ℕ) (stamp : ℕ) (old : SitePort A) (step : LinkStep A)
      (new : SitePort A) → Hears now from octets stamp old step new →
      CarriesUp Carries station_of moment_of waiting_in now from octets stamp old step new
  carries_up now from octets stamp (Ip old) step (Ip new) h =
      let law = ip_laws.carries_up now from octets stamp old step new h in
      record {
        up = ip_up from (mac_at old.address) octets stamp step.up h.up law.up;
        puts = ip_puts old.address [] step.out law.puts;
        kept = law.kept;
        place = law.place;
        at = law.at;
      }
  carries_up now from octets stamp (Bus old) step (Bus new) h =
      let law = bus_laws.carries_up now from octets stamp old step new h in
      record {
        up = bus_comes_up now from (One old.node.ts) octets stamp old step new h law.up;
        puts = bus_puts old.node.ts (bus_port.waiting_in old) step.out law.puts;
        kept = law.kept;
        place = law.place;
        at = law.at;
      }
  carries_up now from octets stamp (Ip old) step (Bus new) h = absurd h
  carries_up now from octets stamp (Bus old) step (Ip new) h = absurd h

  pub carries_on : (now : ℕ) (old : SitePort A) (step : LinkStep A) (new : SitePort A) → Wakes now old step new →
      CarriesOn Carries station_of moment_of waiting_in now old step new
  carries_on now (Ip old) step (Ip new) w = ip_on now old step new (ip_laws.carries_on now old step new w)
  carries_on now (Bus old) step (Bus new) w = bus_on now old step new (bus_laws.carries_on now old step new w)
  carries_on now (Ip old) step (Bus new) w = absurd w
  carries_on now (Bus old) step (Ip new) w = absurd w

  pub carries_counting : (count now : ℕ) (old : SitePort A) (step : LinkStep A) (new : SitePort A) →
      Counts count now old step new → CarriesOn Carries station_of moment_of waiting_in now old step new
  carries_counting count now (Ip old) step (Ip new) c =
      ip_on now old step new (ip_laws.carries_counting count now old step new c)
  carries_counting count now (Bus old) step (Bus new) c =
      bus_on now old step new (bus_laws.carries_counting count now old step new c)
  carries_counting count now (Ip old) step (Bus new) c = absurd c
  carries_counting count now (Bus old) step (Ip new) c = absurd c

  pub carries_registering : (now : ℕ) (old : SitePort A) (step : LinkStep A) (new : SitePort A) →
      Registers now old step new → CarriesOn Carries station_of moment_of waiting_in now old step new
  carries_registering now (Ip old) step (Ip new) r =
      ip_on now old step new (ip_laws.carries_registering now old step new r)
  carries_registering now (Bus old) step (Bus new) r =
      bus_on now old step new (bus_laws.carries_registering now old step new r)
  carries_registering now (Ip old) step (Bus new) r = absurd r
  carries_registering now (Bus old) step (Ip new) r = absurd r

  pub forgets : (now : ℕ) (old : SitePort A) →
      Restarts station_of moment_of (waiting_in {A = A}) now old (restarted now old)
  forgets now (Ip old) = record { place = refl; at = refl; none = refl }
  forgets now (Bus old) = record { place = refl; at = refl; none = refl }

  pub idles : (now : ℕ) (old : SitePort A) (step : LinkStep A) (new : SitePort A) → is_due now old ≡ false →
      Wakes now old step new → (step ≡ nothing) × (new ≡ at_moment now old)
  idles now (Ip old) step (Ip new) none w = (w.nothing, ap (λ (port : IpPortState A). Ip port) w.left)
  idles now (Bus old) step (Bus new) none w =
      let idle = bus_laws.idles now old step new none w in
      (idle.0, ap (λ (port : BusPortState A). Bus port) (idle.1))
  idles now (Ip old) step (Bus new) none w = absurd w
  idles now (Bus old) step (Ip new) none w = absurd w

  pub stays : (now : ℕ) (old : SitePort A) → (station_of (at_moment now old) ≡ station_of old)
      × (moment_of (at_moment now old) ≡ now) × (waiting_in (at_moment now old) ≡ waiting_in old)
  stays now (Ip old) = (refl, refl, refl)
  stays now (Bus old) = (refl, refl, refl)

  pub stands : (now : ℕ) (old : SitePort A) → changed now old Nothing ≡ old
  stands now (Ip old) = refl
  stands now (Bus old) = refl
