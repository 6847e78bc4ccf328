-- What a world is, seen by its clients and devices alone, once a node of it did something: first all that it says
-- waits, and then something passes.
use Rattle.std.proofs.Common.{◌≡◌, ◌∙◌, ⊎_elim, inl, inr, refl, sym, ap, subst, ℕ, List, [], ◌∷◌, ◌++◌, map, append-nil}
use Rattle.carry.specs.Passing.{PassesOn, PutsOut}
use Rattle.carry.specs.Things.{Thing, Waiting}
use Rattle.world.specs.carry_world.PlainSteps.{PlainStep, StepsTo, something_passes}
use Rattle.world.specs.carry_world.PlainWorld.{PlainWorld, Puts}
use Rattle.world.specs.client.Client.{ClientState}
use Rattle.world.specs.device.Device.{DeviceState}
use Rattle.history.proofs.HasLaws.{has_map, map_has}
use Rattle.history.proofs.Lists.{has, has_back, has_either, has_front, none_has}
use Rattle.history.specs.Lists.{Has}
use Rattle.inside.specs.Inside.{AreInside, Said}
use Rattle.world.specs.node_laws.Out.{Passes, SaysAmong, WaitsAmong}
use Rattle.npdu.specs.declared.mac.Station.{Station}
use Rattle.npdu.specs.declared.parcel.Parcel.{Parcel}
use Rattle.simulator.proofs.Growing.{both_grow, done, grows, waits_among}
use Rattle.simulator.proofs.Parts.{IsPart, part_at, part_none}
use Rattle.world.specs.site_node.Node.{NodeState, home_of}
use Rattle.world.specs.site_node.Part.{silence}
use Rattle.world.specs.site_node.Steps.{NodeTold}
use Rattle.world.specs.site_node.declared.part.Part.{Part}
use Rattle.world.specs.site_node.declared.part.Part.TheVariants.{Device, Client}
use Rattle.world.specs.site_node.declared.told.PartTold.{PartTold}
use Rattle.world.specs.Acting.{Acts}
use Rattle.world.specs.World.{WorldState, things_of}
use Rattle.world.specs.headline_bacnet.Refined.{ObjectSite}
use Rattle.world.specs.world_log.Growing.{told_in}
use Rattle.world.specs.world_sites.Nodes.{client_of, clients_of, device_of, devices_of}

-- nothing is said of no parcel
pub none_said : {A : Type 0} (net : ℕ) (ps : List (Parcel A)) (fresh : List Said) → ps ≡ [] → AreInside net ps fresh →
    fresh ≡ []
none_said net [] [] e inside = refl
none_said net [] (s ∷ ss) e inside = absurd inside
none_said net (p ∷ ps) fresh e inside = absurd (cc e)

-- a world by its clients and devices, with more on its way
abbrev pub plain_with : {A : Type 0} → List (Thing A) → WorldState A → PlainWorld A
plain_with extra w = record {
  moment = w.moment;
  clients = clients_of w.nodes;
  devices = devices_of w.nodes;
  keys = w.keys;
  history = w.history;
  things = things_of w ++ extra;
  said = w.said;
}

-- what is said is put out behind the same things
pub puts_from : {A : Type 0} (a b c : PlainWorld A) (net : ℕ) (ps : List (Parcel A)) → a.said ≡ b.said →
    a.things ≡ b.things → Puts a c net ps → Puts b c net ps
puts_from {A} a b c net ps said things puts = record {
  fresh = puts.fresh;
  insides = puts.insides;
  said = puts.said ∙ ap (λ (ss : List Said). ss ++ puts.fresh) said;
  grows = λ t h. ⊎_elim (λ (old : Has a.things t). inl (subst (λ (ts : List (Thing A)). Has ts t) things old))
      (λ (new : PutsOut net ps t). inr new) (puts.grows t h);
}

module _ {A : Type 0} (extra : List (Thing A)) (u v : WorldState A) (place : ℕ) (n next : NodeState A) (t : NodeTold A)
    (acts : Acts u v place n next t) where
  abbrev pub x : Station
  x = home_of n.part

  -- all on its way, and what is said, which waits
  abbrev said_there : List (Thing A)
  said_there = map (λ p. Waiting x.net p) t.told.said

  abbrev pub waiting : List (Thing A)
  waiting = (things_of u ++ extra) ++ said_there

  abbrev pub then : WorldState A
  then = done u place n next t acts.fresh

  -- a world between two: all is as in the second, but what is on its way, where all that was said still waits
  abbrev pub mid : PlainWorld A
  mid = record (plain_with extra then) { things = waiting }

  -- what is said waits, and stands behind all that was said
  pub acts_puts : Puts (plain_with extra u) mid x.net t.told.said
  acts_puts = record {
    fresh = acts.fresh;
    insides = acts.insides;
    said = refl;
    grows = λ e h. ⊎_elim (λ (old : Has (things_of u ++ extra) e). inl old) (λ (new : Has said_there e). inr (puts e new))
        (has_either (things_of u ++ extra) said_there h);
  }
    where
      puts : (e : Thing A) → Has said_there e → PutsOut x.net t.told.said e
      puts e h =
          let found = map_has (λ p. Waiting x.net p) t.told.said e h in
          subst (λ (y : Thing A). PutsOut x.net t.told.said y) found.2 (record {
            net_is = refl;
            bears = λ q is. subst (λ (r : Parcel A). Has t.told.said r) (sym is) found.1;
          })

  -- where a device did it, no client changed, and that device alone
  pub device_acts : (d left : DeviceState A) → n.part ≡ Device d →
      next.part ≡ Device left → (clients_of then.nodes ≡ clients_of u.nodes)
      × IsPart (λ (m : NodeState A). device_of m.part) u.nodes place next d left
  device_acts d left e f = (
    part_none (λ (m : NodeState A). client_of m.part) u.nodes place n next acts.there
        (ap (λ (p : Part A). client_of p) f ∙ sym (ap (λ (p : Part A). client_of p) e)),
    part_at (λ (m : NodeState A). device_of m.part) u.nodes place n next d left acts.there
        (ap (λ (p : Part A). device_of p) e) (ap (λ (p : Part A). device_of p) f),
  )

  -- where a client did it, no device changed, and that client alone
  pub client_acts : (c left : ClientState A) → n.part ≡ Client c →
      next.part ≡ Client left → (devices_of then.nodes ≡ devices_of u.nodes)
      × IsPart (λ (m : NodeState A). client_of m.part) u.nodes place next c left
  client_acts c left e f = (
    part_none (λ (m : NodeState A). device_of m.part) u.nodes place n next acts.there
        (ap (λ (p : Part A). device_of p) f ∙ sym (ap (λ (p : Part A). device_of p) e)),
    part_at (λ (m : NodeState A). client_of m.part) u.nodes place n next c left acts.there
        (ap (λ (p : Part A). client_of p) e) (ap (λ (p : Part A). client_of p) f),
  )

  -- where its part tells nothing, and the same client or device, or none, is there, nothing but that happens
  pub silent_step : (s0 : ObjectSite A) → t.told ≡ silence → client_of next.part ≡ client_of n.part →
      device_of next.part ≡ device_of n.part → PlainStep s0 (plain_with extra u) mid
  silent_step s0 silent client device = something_passes (record {
    moment = refl;
    clients = part_none (λ (m : NodeState A). client_of m.part) u.nodes place n next acts.there client;
    devices = part_none (λ (m : NodeState A). device_of m.part) u.nodes place n next acts.there device;
    keys = refl;
    history = ap (λ (p : PartTold A). told_in x u.moment u.keys p u.history) silent;
    said = ap (λ (ss : List Said). u.said ++ ss) (none_said x.net t.told.said acts.fresh none acts.insides) ∙ append-nil u.said;
    grows = λ e h. ⊎_elim (λ (old : Has (things_of u ++ extra) e). inl old)
        (λ (new : Has said_there e). absurd (none_has
        (subst (λ (ps : List (Parcel A)). Has ps (map_has (λ p. Waiting x.net p) t.told.said e new).0) none
        (map_has (λ p. Waiting x.net p) t.told.said e new).1)))
        (has_either (things_of u ++ extra) said_there h);
  })
    where
      none : t.told.said ≡ []
      none = ap (λ (p : PartTold A). p.said) silent

  -- what waited is put out, or waits on
  passes_then : (s0 : ObjectSite A) → Passes waiting n t.out next → PlainStep s0 mid (plain_with extra then)
  passes_then s0 passes = something_passes (record {
    moment = refl;
    clients = refl;
    devices = refl;
    keys = refl;
    history = refl;
    said = refl;
    grows = λ e h. ⊎_elim (λ (old : Has (things_of u ++ extra) e). inl (has_front (things_of u ++ extra) said_there old))
        (λ (new : PassesOn waiting e). inr new)
        (both_grow waiting (things_of then) extra (things_of u) extra
        (grows waiting u place n next t acts.fresh passes) (λ d there. inl there) e h);
  })

  -- whatever it puts out passes on what is among these things, what waits in it, and what it says
  abbrev pub PutsOutOf : List (Thing A) → Type 0
  PutsOutOf us = (ts : List (Thing A)) → ((e : Thing A) → Has us e → Has ts e) → WaitsAmong ts n → SaysAmong ts n t →
      Passes ts n t.out next

  -- what it did is two steps: what is said waits, and then something passes
  pub acts_lead : (s0 : ObjectSite A) (a : PlainWorld A) → PlainStep s0 a mid → PutsOutOf (things_of u ++ extra) →
      StepsTo s0 a (plain_with extra v)
  acts_lead s0 a first passes =
      let all = passes waiting (λ e h. has_front (things_of u ++ extra) said_there h)
      (λ y p waits. has_front (things_of u ++ extra) said_there
      (waits_among u extra n (has place acts.there) y p waits))
      (λ p there. has_back (things_of u ++ extra) said_there (has_map (λ q. Waiting x.net q) t.told.said p there)) in
      subst (λ (z : WorldState A). StepsTo s0 a (plain_with extra z)) (sym acts.is) (record {
        between = mid ∷ plain_with extra then ∷ [];
        steps = (first, (passes_then s0 all, tt));
        last = refl;
      })
