-- What a port puts out of one parcel, and what a router's port puts out of what the router passes on.
use Rattle.std.proofs.Common.{◌≡◌, ⊎_elim, inl, inr, refl, sym, subst, ◌∙◌, ℕ, ◌<◌, ◌≤◌, List, [], ◌∷◌, ◌++◌, length, true, arith}
use Rattle.std.proofs.lemmas.List.{append-nil}
use Rattle.bvll.proofs.Unique.{canonical_spells}
use Rattle.bvll.specs.Datagram.{broadcast, unicast}
use Rattle.carry.proofs.Ports.{port_puts_out}
use Rattle.carry.proofs.Routers.{router_passes_on}
use Rattle.carry.specs.Ports.{Port, datagram_to, down}
use Rattle.carry.specs.Things.{Bears, Thing, net_of}
use Rattle.carry_world.specs.PlainSteps.{SomethingPasses}
use Rattle.carry_world.specs.PlainWorld.{PlainWorld, Puts}
use Rattle.history.proofs.Lists.{has, has_either}
use Rattle.history.specs.Lists.{Has}
use Rattle.inside.specs.Inside.{HasInside, Inside}
use Rattle.inside.specs.Routed.{IsRouted}
use Rattle.npdu.specs.Mac.{is_address}
use Rattle.npdu.specs.declared.mac.Mac.{Mac}
use Rattle.npdu.specs.declared.mac.Target.TheVariants.{All, One}
use Rattle.npdu.specs.declared.parcel.Parcel.{Parcel}

module _ {A : Type 0} where
  -- one parcel is said, and this port puts it out
  pub one_put : (w v : PlainWorld A) (net : ℕ) (port : Port) (p : Parcel A) (i : Inside) → HasInside net p.from p.to p.npdu i → length p.npdu ≤ 1497 →
      v.said ≡ w.said ++ record { inside = i; stamp = p.stamp } ∷ [] → v.things ≡ w.things ++ down net port p → Puts w v net (p ∷ [])
  one_put w v net port p i inside short said things = record {
    fresh = record { inside = i; stamp = p.stamp } ∷ [];
    insides = (record { inside = inside; stamp = refl }, tt);
    said = said;
    grows = λ t there. ⊎_elim
        (λ (old : Has w.things t). inl old)
        (λ (new : Has (down net port p) t). inr (port_puts_out net port (p ∷ []) p t (has 0 refl) short new))
        (has_either w.things (down net port p) (subst (λ (l : List (Thing A)). Has l t) things there));
  }

  -- nothing is said
  pub none_put : (w v : PlainWorld A) (net : ℕ) → v.said ≡ w.said → v.things ≡ w.things → Puts w v net []
  none_put w v net said things = record {
    fresh = [];
    insides = tt;
    said = said ∙ sym (append-nil w.said);
    grows = λ t there. inl (subst (λ (l : List (Thing A)). Has l t) things there);
  }

  -- what one of the things bears is routed to another network, and a port there puts it out
  abbrev pub passed : PlainWorld A → ℕ → Port → Parcel A → PlainWorld A
  passed w net port q = record w { things = w.things ++ down net port q }

  pub routes : (w : PlainWorld A) (u : Thing A) (p q : Parcel A) (other : ℕ) (port : Port) → Has w.things u → Bears u p → is_address p.from ≡ true →
      0 < net_of u → net_of u < 65535 → IsRouted (net_of u) other p q → length q.npdu ≤ 1497 → SomethingPasses w (passed w other port q)
  routes w u p q other port there bears address low high routed short = record {
    moment = refl;
    clients = refl;
    devices = refl;
    keys = refl;
    history = refl;
    said = refl;
    grows = λ t at. ⊎_elim
        (λ (old : Has w.things t). inl old)
        (λ (new : Has (down other port q) t).
        inr (router_passes_on w.things u t p q other there bears address low high (inl routed) (port_puts_out other port (q ∷ []) q t (has 0 refl) short new)))
        (has_either w.things (down other port q) at);
  }

  -- a datagram to one station bears its parcel; so does one to all
  pub bears_one : (net : ℕ) (from to : Mac) (npdu : List ℕ) (stamp : ℕ) → length npdu ≤ 1497 →
      let p : Parcel A = record { from = from; to = One to; npdu = npdu; stamp = stamp } in
      Bears (datagram_to net p to (unicast npdu)) p
  bears_one net from to npdu stamp short =
      record { datagram = unicast npdu; spelled = canonical_spells (unicast npdu) (record { fields = tt; fits = omega (arith, short) }); carries = refl }

  pub bears_all : (net : ℕ) (from to : Mac) (npdu : List ℕ) (stamp : ℕ) → length npdu ≤ 1497 →
      let p : Parcel A = record { from = from; to = All; npdu = npdu; stamp = stamp } in
      Bears (datagram_to net p to (broadcast npdu)) p
  bears_all net from to npdu stamp short =
      record { datagram = broadcast npdu; spelled = canonical_spells (broadcast npdu) (record { fields = tt; fits = omega (arith, short) }); carries = refl }
