-- What a port puts out of a parcel, as what is then on its way; and its steps, whatever an event changed of it before.
use Rattle.std.proofs.Common.{◌≡◌, ◌∙◌, ◌<◌, ◌≤◌, refl, sym, ap, ◌&&◌, ℕ, Bool, true, false, List, [], ◌∷◌, ◌++◌, length, map}
use Rattle.std.proofs.Common.{Option, None}
use Rattle.std.proofs.lemmas.List.{append_assoc}
use Rattle.bvll.specs.Datagram.{Datagram, broadcast, canonical, distribute, unicast}
use Rattle.bvll.specs.declared.address.Address.{Address}
use Rattle.carry.specs.Datagrams.{mac_at}
use Rattle.carry.specs.Ports.{datagram_to, down_to}
use Rattle.carry.specs.Things.{SentDatagram, Thing}
use Rattle.link.proofs.Putting.{none_comes, none_out, none_over, one_more, one_over, over_these, put_behind}
use Rattle.link.specs.Carrying.{nothing}
use Rattle.link.specs.Limits.{is_target, max_npdu_at}
use Rattle.link.specs.Step.{LinkStep, PortSent, PutsOver, over_port, step_of}
use Rattle.link.specs.declared.step.Change.{Change}
use Rattle.link.specs.declared.step.Change.TheVariants.{Nothing, Moment, Whole}
use Rattle.link.specs.declared.step.Sent.{Sent}
use Rattle.npdu.proofs.Stations.{one_station}
use Rattle.npdu.specs.Mac.{same_mac}
use Rattle.npdu.specs.declared.mac.Mac.{Mac}
use Rattle.npdu.specs.declared.mac.Station.{Station}
use Rattle.npdu.specs.declared.mac.Target.{Target}
use Rattle.npdu.specs.declared.mac.Target.TheVariants as target
use Rattle.npdu.specs.declared.parcel.Parcel.{Parcel}
use Rattle.link_ip.specs.Hearing.{IsHeard}
use Rattle.link_ip.specs.Port.{IpPortState, at_moment, changed, port_of, station_of}
use Rattle.link_ip.specs.Saying.{datagrams, is_taken, put_out, put_out_if, registration, says, says_if, sent, thing_of, things_of}
use Rattle.link_ip.specs.Steps.{Downs, Hears, Idles, Registers}
use Rattle.link_ip.specs.declared.port.Reach.{Reach}
use Rattle.link_ip.specs.declared.port.Reach.TheVariants.{Members, Foreign}

first_true : (a b : Bool) → (a && b) ≡ true → a ≡ true
first_true true b e = refl
first_true false b e = absurd (cc e)

-- addresses with the same octets are those of one station on a network
one_mac : (a b : Mac) → same_mac a b ≡ true → a ≡ b
one_mac a b e = ap (λ (s : Station). s.mac) ((one_station (record { net = 0; mac = a }) (record { net = 0; mac = b })).same e)

module _ {A : Type 0} where
  module _ (port : IpPortState A) (p : Parcel A) (taken : is_taken port p ≡ true) where
    from_here : (to : Mac) (d : Datagram) → thing_of (station_of port) (sent to d p.stamp) ≡ datagram_to port.net p to d
    from_here to d =
        let here = one_mac p.from (station_of port).mac (first_true (same_mac p.from (station_of port).mac) (is_target (station_of port).mac p.to) taken) in
        ap (λ from. SentDatagram port.net from to (canonical d) p.stamp) (sym here)

    cells : (x y : Thing A) (xs ys : List (Thing A)) → x ≡ y → xs ≡ ys → x ∷ xs ≡ y ∷ ys
    cells x y xs ys a b = cc

    each_from_here : (others : List Address) (d : Datagram) →
        things_of (station_of port) (map (λ other. sent (mac_at other) d p.stamp) others)
        ≡ map (λ to. datagram_to port.net p to d) (map mac_at others)
    each_from_here [] d = refl
    each_from_here (other ∷ others) d = cells _ _ _ _ (from_here (mac_at other) d) (each_from_here others d)

    all_from_here : (reach : Reach A) (t : Target) →
        things_of (station_of port) (datagrams reach t p) ≡ down_to port.net (port_of reach) t p
    all_from_here reach (target.One to) = ap (λ x. x ∷ []) (from_here to (unicast p.npdu))
    all_from_here (Members others) target.All = each_from_here others (broadcast p.npdu)
    all_from_here (Foreign manager seconds) target.All =
        ap (λ x. x ∷ []) (from_here (mac_at manager) (distribute p.npdu))

  says_if_things : (taken : Bool) (port : IpPortState A) (p : Parcel A) → is_taken port p ≡ taken →
      things_of (station_of port) (says_if taken port p) ≡ put_out_if taken port p
  says_if_things true port p e = all_from_here port p e port.reach p.to
  says_if_things false port p e = refl

  -- what a port says of a parcel is then on its way
  pub says_things : (port : IpPortState A) (p : Parcel A) → things_of (station_of port) (says port p) ≡ put_out port p
  says_things port p = says_if_things (is_taken port p) port p refl

  -- .. at any moment
  same_if : (taken : Bool) (now : ℕ) (port : IpPortState A) (p : Parcel A) →
      put_out_if taken port p ≡ put_out_if taken (at_moment now port) p
  same_if true now port p = refl
  same_if false now port p = refl

  puts_it : (port : IpPortState A) (p : Parcel A) (n : ℕ) (old new : List (PortSent A)) →
      new ≡ old ++ over_port n (says port p) → things_of (station_of port) (step_of None old new).out ≡ put_out port p
  puts_it port p n old new e =
      ap (λ ss. things_of (station_of port) ss) (put_behind n old new (says port p) e) ∙ says_things port p

  pub downs_it : (now : ℕ) (port : IpPortState A) (c : Change (IpPortState A)) (p : Parcel A) (n : ℕ)
      (old new : List (PortSent A)) → length p.npdu ≤ max_npdu_at (station_of port).mac →
      new ≡ old ++ over_port n (says port p) → Downs now p (changed now port c) (step_of None old new) (at_moment now port)
  downs_it now port Nothing p n old new fits e =
      record { fits = fits; silent = refl; puts = puts_it port p n old new e; left = refl }
  downs_it now port Moment p n old new fits e = record {
    fits = fits;
    silent = refl;
    puts = puts_it port p n old new e ∙ same_if (is_taken port p) now port p;
    left = refl;
  }
  downs_it now port (Whole other) p n old new fits e = record {
    fits = fits;
    silent = refl;
    puts = puts_it port p n old new e ∙ same_if (is_taken port p) now port p;
    left = refl;
  }

  pub too_long : (now : ℕ) (port : IpPortState A) (c : Change (IpPortState A)) (p : Parcel A) →
      max_npdu_at (station_of port).mac < length p.npdu → max_npdu_at (station_of (changed now port c)).mac < length p.npdu
  too_long now port Nothing p long = long
  too_long now port Moment p long = long
  too_long now port (Whole other) p long = long

  pub hears_it : (now : ℕ) (port : IpPortState A) (c : Change (IpPortState A)) (from : Mac) (octets : List ℕ) (stamp : ℕ)
      (up : Option (Parcel A)) (out : List (PortSent A)) → IsHeard from (station_of port).mac octets stamp up →
      Hears now from octets stamp (changed now port c) (step_of up out out) (at_moment now port)
  hears_it now port Nothing from octets stamp up out h = record { up = h; silent = none_out out; left = refl }
  hears_it now port Moment from octets stamp up out h = record { up = h; silent = none_out out; left = refl }
  hears_it now port (Whole other) from octets stamp up out h = record { up = h; silent = none_out out; left = refl }

  pub idles_it : (now : ℕ) (port : IpPortState A) (c : Change (IpPortState A)) (step : LinkStep A) → step ≡ nothing →
      Idles now (changed now port c) step (at_moment now port)
  idles_it now port Nothing step e = record { nothing = e; left = refl }
  idles_it now port Moment step e = record { nothing = e; left = refl }
  idles_it now port (Whole other) step e = record { nothing = e; left = refl }

  pub wakes_it : (now : ℕ) (port : IpPortState A) (c : Change (IpPortState A)) (out : List (PortSent A)) →
      Idles now (changed now port c) (step_of None out out) (at_moment now port)
  wakes_it now port c out = idles_it now port c _ (none_comes out)

  pub counts_it : (now : ℕ) (port : IpPortState A) (c : Change (IpPortState A)) →
      Idles now (changed now port c) nothing (at_moment now port)
  counts_it now port c = idles_it now port c _ refl

  pub registers_it : (now : ℕ) (port : IpPortState A) (c : Change (IpPortState A)) (n : ℕ) (old new : List (PortSent A)) →
      new ≡ old ++ over_port n (registration port.reach now) →
      Registers now (changed now port c) (step_of None old new) (at_moment now port)
  registers_it now port Nothing n old new e = record { silent = refl; says = put_behind n old new _ e; left = refl }
  registers_it now port Moment n old new e = record { silent = refl; says = put_behind n old new _ e; left = refl }
  registers_it now port (Whole other) n old new e = record { silent = refl; says = put_behind n old new _ e; left = refl }

-- one more datagram behind those so far
pub next_put : {A : Type 0} (n : ℕ) (f : Address → Sent A) (middle new : List (PortSent A)) (other : Address)
    (rest : List Address) → new ≡ middle ++ over_port n (f other ∷ []) →
    new ++ over_port n (map f rest) ≡ middle ++ over_port n (map f (other ∷ rest))
next_put n f middle new other rest e =
    ap (λ xs. xs ++ over_port n (map f rest)) e
    ∙ append_assoc middle (over_port n (f other ∷ [])) (over_port n (map f rest))

-- .. each in its place
pub next_over : {A : Type 0} (n : ℕ) (start middle new : List (PortSent A)) (s : Sent A) → PutsOver n start middle →
    new ≡ middle ++ over_port n (s ∷ []) → PutsOver n start new
next_over n start middle new s before e = one_more n start middle new s before e

pub next_left : {A : Type 0} (n : ℕ) (f : Address → Sent A) (start middle new : List (PortSent A)) (other : Address)
    (all left rest : List Address) → middle ++ over_port n (map f left) ≡ start ++ over_port n (map f all) →
    left ≡ other ∷ rest → new ≡ middle ++ over_port n (f other ∷ []) →
    new ++ over_port n (map f rest) ≡ start ++ over_port n (map f all)
next_left n f start middle new other all left rest before is e =
    next_put n f middle new other rest e ∙ ap (λ xs. middle ++ over_port n (map f xs)) (sym is) ∙ before

pub ruleset put_rules = (none_over, one_over, over_these, next_over, next_left)

pub ruleset link_rules = (downs_it, too_long, none_over, hears_it, wakes_it, counts_it, registers_it, over_these)
