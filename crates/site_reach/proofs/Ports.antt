-- What a step of a node's ports puts out is rightful, where its ports are those of the site; and they are so then.
use Rattle.std.proofs.Common.{◌≡◌, ◌∙◌, ◌⊎◌, ⊎_elim, inl, inr, refl, sym, ap, subst, ℕ, zero, suc, ◌+◌, List, [], ◌∷◌, map, Option, Some, None}
use Rattle.std.specs.Prelude.{option_to_list, slice_get}
use Rattle.std.specs.List.{AllByRecursion, flat_map}
use Rattle.bvll.specs.Datagram.{register}
use Rattle.bvll.specs.declared.address.Address.{Address}
use Rattle.carry.specs.Datagrams.{mac_at}
use Rattle.history.proofs.Lists.{has_cons, has_either, has_next, none_has}
use Rattle.history.specs.Lists.{Has}
use Rattle.link.specs.Step.{LinkStep, PortSent, over_port}
use Rattle.link.specs.declared.step.Sent.{Sent}
use Rattle.link_ip.specs.Port.{IpPortState, at_moment}
use Rattle.link_ip.specs.Saying.{registration, sent}
use Rattle.link_ip.specs.Steps as ip
use Rattle.link_ip.specs.declared.port.Reach.{Reach}
use Rattle.link_ip.specs.declared.port.Reach.TheVariants as reach
use Rattle.link_site.specs.CarryLaws.{carries_counting, carries_down, carries_on, carries_registering, carries_up}
use Rattle.link_site.specs.Port.{restarted, station_of}
use Rattle.link_site.specs.Steps as site
use Rattle.link_site.specs.declared.port.SitePort.{SitePort}
use Rattle.link_site.specs.declared.port.SitePort.TheVariants.{Ip, Bus}
use Rattle.npdu.specs.declared.mac.Mac.{Mac}
use Rattle.npdu.specs.declared.mac.Mac.TheVariants.{One, Six}
use Rattle.npdu.specs.declared.mac.Station as npdu
use Rattle.npdu.specs.declared.parcel.Parcel.{Parcel}
use Rattle.router.specs.declared.plan.PortParcel.{PortParcel}
use Rattle.site_parts.specs.declared.parts.Station.{Station}
use Rattle.site_ports.proofs.Keeping.{over_has}
use Rattle.site_ports.proofs.PortSteps.{mapped_at, mapped_set}
use Rattle.site_ports.specs.Drafts.{PortsState}
use Rattle.site_ports.specs.Ports.{CountsAt, DownsEach, HearsAt, Misses, RegistersAt, Steps, WakesFrom, places_of}
use Rattle.site_reach.proofs.Quiet.{IsQuiet, downs_quiet}
use Rattle.site_reach.specs.Tables.{IsPlaced, IsPlacedBy, IsRightful}
use Rattle.world.proofs.Standing.{all_at, all_both, all_set}
use Rattle.world_log.specs.Growing.{item_from, item_over, items_at}

two_kinds : (octet : ℕ) (octets : List ℕ) → One octet ≡ Six octets → ⊥
two_kinds octet octets e = cc e

module _ {A : Type 0} (ss : List (Station A)) (now : ℕ) where
  -- what goes out from a place is rightful where it is an item: on a bus it is none
  abbrev pub IsRightfulFrom : npdu.Station → Sent A → Type 0
  IsRightfulFrom x s = AllByRecursion (IsRightful ss) (item_from now x.net x.mac s)

  quiet_from : (net : ℕ) (mac : Mac) (s : Sent A) → IsQuiet s.octets →
      AllByRecursion (IsRightful ss) (item_from now net mac s)
  quiet_from net (Six octets) s quiet = (record { registers = λ seconds s. absurd (quiet.other seconds s) }, tt)
  quiet_from net (One octet) s quiet = tt

  pub quiet_rightful : (x : npdu.Station) (s : Sent A) → IsQuiet s.octets → IsRightfulFrom x s
  quiet_rightful x s quiet = quiet_from x.net x.mac s quiet

  -- a registration of a foreign device goes to its manager
  registration_rightful : (net : ℕ) (own : Address) (by : Reach A) (s : Sent A) → IsPlacedBy ss net own by →
      Has (registration by now) s → IsRightfulFrom (record { net = net; mac = mac_at own }) s
  registration_rightful net own (reach.Members others) s placed h = absurd (none_has h)
  registration_rightful net own (reach.Foreign manager seconds) s placed h = ⊎_elim
      (λ (e : sent (mac_at manager) (register seconds) now ≡ s).
      subst (λ (x : Sent A). IsRightfulFrom (record { net = net; mac = mac_at own }) x) e (
        record {
          registers = λ other spelled.
              record { own = own; manager = manager; from = refl; to = refl; is_foreign = placed };
        },
        tt,
      ))
      (λ (none : Has [] s). absurd (none_has none)) (has_cons (sent (mac_at manager) (register seconds) now) [] h)

  -- a port of the site stays where it is, is one of the site then, and puts out what is rightful
  record PortStays (old : SitePort A) (step : LinkStep A) (new : SitePort A) : Type 0 where
    place : station_of new ≡ station_of old
    placed : IsPlaced ss new
    puts : (s : Sent A) → Has step.out s → IsRightfulFrom (station_of old) s

  -- so it is at a step of this kind
  abbrev Stay : (SitePort A → LinkStep A → SitePort A → Type 0) → Type 0
  Stay does = (old : SitePort A) (step : LinkStep A) (new : SitePort A) → IsPlaced ss old → does old step new →
      PortStays old step new

  -- .. where a port of BACnet/IP has but its moment changed, and puts out what is rightful
  by_kind : (does : SitePort A → LinkStep A → SitePort A → Type 0) →
      ((old : SitePort A) (step : LinkStep A) (new : SitePort A) → does old step new →
      station_of new ≡ station_of old) →
      ((old : IpPortState A) (step : LinkStep A) (new : IpPortState A) → IsPlaced ss (Ip old) →
      does (Ip old) step (Ip new) →
      (new ≡ at_moment now old) × ((s : Sent A) → Has step.out s → IsRightfulFrom (station_of (Ip old)) s)) → Stay does
  by_kind does place ip (Ip old) step (Ip new) placed d =
      let left = ip old step new placed d in record {
        place = place (Ip old) step (Ip new) d;
        placed = subst (λ (l : IpPortState A). IsPlaced ss (Ip l)) (sym left.0) placed;
        puts = left.1;
      }
  by_kind does place ip (Bus old) step (Bus new) placed d =
      record { place = place (Bus old) step (Bus new) d; placed = tt; puts = λ s there. tt }
  by_kind does place ip (Ip old) step (Bus new) placed d =
      absurd (two_kinds _ _ (ap (λ (x : npdu.Station). x.mac) (place (Ip old) step (Bus new) d)))
  by_kind does place ip (Bus old) step (Ip new) placed d =
      absurd (two_kinds _ _ (sym (ap (λ (x : npdu.Station). x.mac) (place (Bus old) step (Ip new) d))))

  nothing_out : (x : npdu.Station) (out : List (Sent A)) → out ≡ [] → (s : Sent A) → Has out s → IsRightfulFrom x s
  nothing_out x out e s there = absurd (none_has (subst (λ (xs : List (Sent A)). Has xs s) e there))

  ip_idles : (old : IpPortState A) (step : LinkStep A) (new : IpPortState A) → ip.Idles now old step new →
      (new ≡ at_moment now old) × ((s : Sent A) → Has step.out s → IsRightfulFrom (station_of (Ip old)) s)
  ip_idles old step new d =
      (d.left, nothing_out (station_of (Ip old)) step.out (ap (λ (t : LinkStep A). t.out) d.nothing))

  downs_stay : (p : Parcel A) → Stay (site.Downs now p)
  downs_stay p = by_kind (site.Downs now p) (λ old step new d. (carries_down now p old step new d).place)
      (λ old step new placed d. (
        d.left,
        λ s there. quiet_rightful (station_of (Ip old)) s (downs_quiet now p old step new d s there),
      ))

  hears_stay : (from : Mac) (octets : List ℕ) (stamp : ℕ) (up : Option (Parcel A)) →
      Stay (λ l s m. site.Hears now from octets stamp l s m × (up ≡ s.up))
  hears_stay from octets stamp up = by_kind (λ l s m. site.Hears now from octets stamp l s m × (up ≡ s.up))
      (λ old step new d. (carries_up now from octets stamp old step new d.0).place)
      (λ old step new placed d. (d.0.left, nothing_out (station_of (Ip old)) step.out d.0.silent))

  wakes_stay : Stay (site.Wakes now)
  wakes_stay = by_kind (site.Wakes now) (λ old step new d. (carries_on now old step new d).place)
      (λ old step new placed d. ip_idles old step new d)

  counts_stay : (count : ℕ) → Stay (site.Counts count now)
  counts_stay count = by_kind (site.Counts count now)
      (λ old step new d. (carries_counting count now old step new d).place)
      (λ old step new placed d. ip_idles old step new d)

  registers_stay : Stay (site.Registers now)
  registers_stay = by_kind (site.Registers now) (λ old step new d. (carries_registering now old step new d).place)
      (λ old step new placed d. (
        d.left,
        λ s there. registration_rightful old.net old.address old.reach s placed
            (subst (λ (xs : List (Sent A)). Has xs s) d.says there),
      ))

  -- this goes out from one of these places, and is rightful
  pub record IsPutRightfully (places : List npdu.Station) (o : PortSent A) : Type 0 where
    pub at : npdu.Station
    pub there : slice_get places o.port ≡ Some at
    pub rightful : IsRightfulFrom at o.sent

  -- ports at these places are those of the site, and what went out over them is rightful
  pub record ArePlaced (places : List npdu.Station) (s : PortsState A) : Type 0 where
    pub are_there : places_of s.ports ≡ places
    pub placed : AllByRecursion (IsPlaced ss) s.ports
    pub puts : (o : PortSent A) → Has s.out o → IsPutRightfully places o

  module _ (places : List npdu.Station) where
    step_stays : (does : SitePort A → LinkStep A → SitePort A → Type 0) → Stay does → (port : ℕ)
        (old new : PortsState A) → ArePlaced places old → Steps does port old new ⊎ Misses port old new →
        ArePlaced places new
    step_stays does stay port old new k (inr m) = subst (λ (s : PortsState A). ArePlaced places s) (sym m.same) k
    step_stays does stay port old new k (inl s) =
        let kept = stay s.link s.step s.left (all_at (IsPlaced ss) old.ports port s.link k.placed s.there) s.made in
        let at : slice_get places port ≡ Some (station_of s.link) =
        ap (λ (xs : List npdu.Station). slice_get xs port) (sym k.are_there)
        ∙ mapped_at (λ l. station_of l) old.ports port s.link s.there in
        record {
          are_there = ap (λ (ls : List (SitePort A)). places_of ls) s.ports
              ∙ mapped_set (λ l. station_of l) old.ports port s.link s.left s.there kept.place ∙ k.are_there;
          placed = subst (λ (ls : List (SitePort A)). AllByRecursion (IsPlaced ss) ls) (sym s.ports)
              (all_set (IsPlaced ss) old.ports port s.left k.placed kept.placed);
          puts = λ o h. ⊎_elim (λ (before : Has old.out o). k.puts o before)
              (λ (fresh : Has (over_port port s.step.out) o).
              let over = over_has port s.step.out o fresh in
              subst (λ (q : PortSent A). IsPutRightfully places q) (sym over.is)
              (record { at = station_of s.link; there = at; rightful = kept.puts over.sent over.there }))
              (has_either old.out (over_port port s.step.out)
              (subst (λ (os : List (PortSent A)). Has os o) s.puts h));
        }

    -- parcels go down
    pub each_stays : (ps : List (PortParcel A)) (old new : PortsState A) → ArePlaced places old →
        DownsEach now ps old new → ArePlaced places new
    each_stays [] old new k done = subst (λ (s : PortsState A). ArePlaced places s) (sym done) k
    each_stays (o ∷ os) old new k done = each_stays os done.middle new
        (step_stays (site.Downs now o.parcel) (downs_stay o.parcel) o.port old done.middle k done.first) done.rest

    -- ports wake
    pub woken_stay : (first count : ℕ) (old new : PortsState A) → ArePlaced places old →
        WakesFrom now first count old new → ArePlaced places new
    woken_stay first zero old new k done = subst (λ (s : PortsState A). ArePlaced places s) (sym done) k
    woken_stay first (suc count) old new k done = woken_stay (first + 1) count done.middle new
        (step_stays (site.Wakes now) wakes_stay first old done.middle k (inl done.first)) done.rest

    -- octets are heard
    pub heard_stay : (port : ℕ) (from : Mac) (octets : List ℕ) (stamp : ℕ) (old : PortsState A)
        (up : Option (Parcel A)) (new : PortsState A) → ArePlaced places old →
        HearsAt now port from octets stamp old up new → ArePlaced places new
    heard_stay port from octets stamp old up new k h =
        step_stays (λ l s m. site.Hears now from octets stamp l s m × (up ≡ s.up)) (hears_stay from octets stamp up) port
        old new k (⊎_elim (λ s. inl s) (λ m. inr m.0) h)

    -- .. or counted
    pub counted_stay : (port count : ℕ) (old new : PortsState A) → ArePlaced places old →
        CountsAt count now port old new → ArePlaced places new
    counted_stay port count old new k h = step_stays (site.Counts count now) (counts_stay count) port old new k h

    -- a port registers
    pub registered_stay : (port : ℕ) (old new : PortsState A) → ArePlaced places old →
        RegistersAt now port old new → ArePlaced places new
    registered_stay port old new k h = step_stays (site.Registers now) registers_stay port old new k h

  -- ports that restart are where they were
  pub restarted_stay : (ls : List (SitePort A)) → AllByRecursion (IsPlaced ss) ls →
      AllByRecursion (IsPlaced ss) (map (λ l. restarted now l) ls)
  restarted_stay [] placed = tt
  restarted_stay (Ip l ∷ ls) placed = (placed.0, restarted_stay ls placed.1)
  restarted_stay (Bus l ∷ ls) placed = (tt, restarted_stay ls placed.1)

  -- what goes out from these places
  pub items_rightful : (places : List npdu.Station) (out : List (PortSent A)) →
      ((o : PortSent A) (x : npdu.Station) → Has out o → slice_get places o.port ≡ Some x → IsRightfulFrom x o.sent) →
      AllByRecursion (IsRightful ss) (items_at now places out)
  items_rightful places [] good = tt
  items_rightful places (o ∷ os) good = all_both (IsRightful ss) (item_over now places o) (items_at now places os)
      (by_place (slice_get places o.port) refl) (items_rightful places os (λ p x h e. good p x (has_next o os h) e))
    where
      by_place : (at : Option npdu.Station) → slice_get places o.port ≡ at →
          AllByRecursion (IsRightful ss) (flat_map (λ x. item_from now x.net x.mac o.sent) (option_to_list at))
      by_place None e = tt
      by_place (Some x) e = all_both (IsRightful ss) (item_from now x.net x.mac o.sent) []
          (good o x (record { place = 0; at_place = refl }) e) tt
