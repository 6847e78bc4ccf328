-- What is on its way once a node did something: it was on its way before, or passes on what was, or what was said.
use Rattle.std.proofs.Common.{◌≡◌, ◌⊎◌, ⊎_elim, inl, inr, refl, sym, ap, subst, ℕ, ◌+◌, false, List, [], ◌∷◌, ◌++◌, length, map, Option, Some, None}
use Rattle.std.specs.Prelude.{option_to_list, slice_get, slice_set}
use Rattle.std.specs.List.{flat_map}
use Rattle.buses.proofs.KnownLaws.{puts_has}
use Rattle.buses.specs.Puts.{put_on}
use Rattle.carry.specs.Passing.{PassesOn}
use Rattle.carry.specs.Things.{SentFrame, Thing, Waiting}
use Rattle.history.proofs.HasLaws.{flat_has, has_map, map_has}
use Rattle.history.proofs.Lists.{has, has_back, has_cons, has_either, has_front, has_next, none_has}
use Rattle.history.specs.Lists.{Has}
use Rattle.inside.specs.Inside.{Said}
use Rattle.link.specs.Step.{PortSent}
use Rattle.link.specs.declared.step.Sent.{Sent}
use Rattle.world.specs.link_site.Port.{station_of, waiting_in}
use Rattle.world.specs.link_site.Things as site
use Rattle.world.specs.link_site.Things.{thing_at}
use Rattle.world.specs.node_laws.Out.{Passes, WaitsAmong}
use Rattle.npdu.specs.declared.mac.Mac.{Mac}
use Rattle.npdu.specs.declared.mac.Mac.TheVariants.{One, Six}
use Rattle.npdu.specs.declared.mac.Station.{Station}
use Rattle.world.specs.site_node.Node.{NodeState, home_of, node_places}
use Rattle.world.specs.site_node.Steps.{NodeTold}
use Rattle.world.proofs.site_ports.Keeping.{set_has}
use Rattle.traffic.specs.declared.frame.FramePut.{FramePut}
use Rattle.traffic.specs.declared.item.Item.{Item}
use Rattle.world.specs.World.{WorldState, frames_on, thing_of, things_of, waits_in}
use Rattle.world.specs.world_log.Growing.{frame_from, frame_over, frames_at, frames_behind, item_from, item_over, items_at, told_in}

option_has : {X : Type 0} (o : Option X) (x : X) → Has (option_to_list o) x → o ≡ Some x
option_has None x h = absurd (none_has h)
option_has {X} (Some y) x h = ⊎_elim (λ (e : y ≡ x). ap (λ (z : X). Some z) e) (λ (none : Has [] x). absurd (none_has none))
    (has_cons y [] h)

-- what comes of one of a list is among what comes of all
has_flat : {X Y : Type 0} (f : X → List Y) (xs : List X) (x : X) (y : Y) → Has xs x → Has (f x) y → Has (flat_map f xs) y
has_flat f [] x y there h = absurd (none_has there)
has_flat {X} f (z ∷ zs) x y there h = ⊎_elim
    (λ (e : z ≡ x). has_front (f z) (flat_map f zs) (subst (λ (u : X). Has (f u) y) (sym e) h))
    (λ (later : Has zs x). has_back (f z) (flat_map f zs) (has_flat f zs x y later h)) (has_cons z zs there)

-- a frame as a thing on its way
abbrev frame_thing : {A : Type 0} → FramePut A → Thing A
frame_thing f = SentFrame f.net f.octets f.stamp

-- a world in which a node did this, and what is inside what it said is that
abbrev pub done : {A : Type 0} → (u : WorldState A) → (place : ℕ) → (n next : NodeState A) → NodeTold A → List Said →
    WorldState A
done u place n next t fresh = record u {
  nodes = slice_set u.nodes place next;
  items = u.items ++ items_at u.moment (node_places n) t.out;
  buses = put_on u.moment (length u.items) (frames_at (node_places n) t.out) u.buses;
  history = told_in (home_of n.part) u.moment u.keys t.told u.history;
  said = u.said ++ fresh;
}

-- all that waits in the nodes of a world
abbrev waiting_on : {A : Type 0} → List (NodeState A) → List (Thing A)
waiting_on ns = flat_map (λ n. waits_in n.ports) ns

-- all that waits in a node is on its way
pub waits_among : {A : Type 0} (w : WorldState A) (extra : List (Thing A)) (n : NodeState A) → Has w.nodes n →
    WaitsAmong (things_of w ++ extra) n
waits_among {A} w extra n among x p waits =
    subst (λ (y : Station). Has (things_of w ++ extra) (Waiting y.net p)) waits.place (has_front (things_of w) extra
    (has_back (map (λ i. thing_of i) w.items) (frames_on w.buses.buses ++ waiting_on w.nodes)
    (has_back (frames_on w.buses.buses) (waiting_on w.nodes)
    (has_flat (λ (m : NodeState A). waits_in m.ports) w.nodes n (Waiting (station_of waits.port).net p) among
    (has_flat (λ m. map (λ q. Waiting (station_of m).net q) (waiting_in m)) n.ports waits.port
    (Waiting (station_of waits.port).net p) waits.there
    (has_map (λ q. Waiting (station_of waits.port).net q) (waiting_in waits.port) p waits.waits))))))

module _ {A : Type 0} (ts : List (Thing A)) where
  item_is : (now net : ℕ) (from : Mac) (s : Sent A) (i : Item A) → PassesOn ts (thing_at net from s.to s.octets s.stamp) →
      Has (item_from now net from s) i → PassesOn ts (thing_of i)
  item_is now net (Six octets) s i passes h = ⊎_elim
      (λ (e : record {
        net = net;
        from = Six octets;
        to = s.to;
        octets = s.octets;
        stamp = s.stamp;
        put_out = now;
        is_delivered = false;
      } ≡ i). subst (λ (j : Item A). PassesOn ts (thing_of j)) e passes)
      (λ (none : Has [] i). absurd (none_has none)) (has_cons _ [] h)
  item_is now net (One octet) s i passes h = absurd (none_has h)

  frame_is : (behind net : ℕ) (from : Mac) (s : Sent A) (f : FramePut A) →
      PassesOn ts (thing_at net from s.to s.octets s.stamp) → Has (frame_from behind net from s) f →
      PassesOn ts (frame_thing f)
  frame_is behind net (One octet) s f passes h = ⊎_elim
      (λ (e : record { net = net; sender = octet; octets = s.octets; stamp = s.stamp; behind = behind } ≡ f).
      subst (λ (g : FramePut A). PassesOn ts (frame_thing g)) e passes)
      (λ (none : Has [] f). absurd (none_has none)) (has_cons _ [] h)
  frame_is behind net (Six octets) s f passes h = absurd (none_has h)

  -- all that goes out over ports at these places passes on what is inside these things
  abbrev OutPasses : List Station → List (PortSent A) → Type 0
  OutPasses places out = (o : PortSent A) (x : Station) → Has out o → slice_get places o.port ≡ Some x →
      PassesOn ts (site.thing_of x o.sent)

  -- so does each item, and each frame
  items_pass : (now : ℕ) (places : List Station) (out : List (PortSent A)) (i : Item A) → OutPasses places out →
      Has (items_at now places out) i → PassesOn ts (thing_of i)
  items_pass now places out i passes h =
      let o = flat_has (item_over now places) out i h in
      let x = flat_has (λ x. item_from now x.net x.mac o.0.sent) (option_to_list (slice_get places o.0.port)) i o.2 in
      item_is now x.0.net x.0.mac o.0.sent i (passes o.0 x.0 o.1 (option_has (slice_get places o.0.port) x.0 x.1)) x.2

  frames_pass : (behind : ℕ) (places : List Station) (out : List (PortSent A)) (f : FramePut A) →
      OutPasses places out → Has (frames_behind behind places out) f → PassesOn ts (frame_thing f)
  frames_pass behind places [] f passes h = absurd (none_has h)
  frames_pass behind places (o ∷ os) f passes h =
      let later : ℕ = behind + length (item_over 0 places o) in
      ⊎_elim
      (λ (here : Has (frame_over behind places o) f).
      let x = flat_has (λ x. frame_from behind x.net x.mac o.sent) (option_to_list (slice_get places o.port)) f here in
      frame_is behind x.0.net x.0.mac o.sent f
      (passes o x.0 (has 0 refl) (option_has (slice_get places o.port) x.0 x.1)) x.2)
      (λ (there : Has (frames_behind later places os) f).
      frames_pass later places os f (λ q x among at. passes q x (has_next o os among) at) there)
      (has_either (frame_over behind places o) (frames_behind later places os) h)

  -- what waits does, where all that waits in these ports is so
  waits_pass : (n next : NodeState A) (out : List (PortSent A)) (t : Thing A) → Passes ts n out next →
      Has (waits_in next.ports) t → PassesOn ts t
  waits_pass n next out t passes h =
      let port = flat_has (λ l. map (λ p. Waiting (station_of l).net p) (waiting_in l)) next.ports t h in
      let waits = map_has (λ p. Waiting (station_of port.0).net p) (waiting_in port.0) t port.2 in
      subst (λ (u : Thing A). PassesOn ts u) waits.2 (passes.waits (station_of port.0) waits.0
      (record { port = port.0; there = port.1; place = refl; waits = waits.1 }))

  -- a thing was among these, or passes on what is inside those
  abbrev pub OldOr : List (Thing A) → Thing A → Type 0
  OldOr us t = Has us t ⊎ PassesOn ts t

  -- so it is of two lists where it is of each
  pub both_grow : (xs ys us vs : List (Thing A)) → ((t : Thing A) → Has xs t → OldOr us t) →
      ((t : Thing A) → Has ys t → OldOr vs t) → (t : Thing A) → Has (xs ++ ys) t → OldOr (us ++ vs) t
  both_grow xs ys us vs f g t h = ⊎_elim
      (λ (x : Has xs t). ⊎_elim (λ (old : Has us t). inl (has_front us vs old)) (λ (new : PassesOn ts t). inr new) (f t x))
      (λ (y : Has ys t). ⊎_elim (λ (old : Has vs t). inl (has_back us vs old)) (λ (new : PassesOn ts t). inr new) (g t y))
      (has_either xs ys h)

  module _ (w : WorldState A) (place : ℕ) (n next : NodeState A) (told : NodeTold A) (fresh : List Said)
      (passes : Passes ts n told.out next) where
    abbrev v : WorldState A
    v = done w place n next told fresh

    item_grows : (t : Thing A) → Has (map (λ i. thing_of i) v.items) t → OldOr (map (λ i. thing_of i) w.items) t
    item_grows t h =
        let found = map_has (λ i. thing_of i) v.items t h in
        ⊎_elim
        (λ (old : Has w.items found.0). inl (subst (λ (u : Thing A). Has (map (λ i. thing_of i) w.items) u) found.2
        (has_map (λ i. thing_of i) w.items found.0 old)))
        (λ (put : Has (items_at w.moment (node_places n) told.out) found.0). inr (subst (λ (u : Thing A). PassesOn ts u)
        found.2 (items_pass w.moment (node_places n) told.out found.0 passes.puts put)))
        (has_either w.items (items_at w.moment (node_places n) told.out) found.1)

    frame_grows : (t : Thing A) → Has (frames_on v.buses.buses) t → OldOr (frames_on w.buses.buses) t
    frame_grows t h = ⊎_elim (λ (old : Has (frames_on w.buses.buses) t). inl old)
        (λ (put : _). inr (subst (λ (u : Thing A). PassesOn ts u) (sym put.is)
        (frames_pass 0 (node_places n) told.out put.frame passes.puts put.there)))
        (puts_has SentFrame w.moment (length w.items) (frames_at (node_places n) told.out) w.buses t h)

    wait_grows : (t : Thing A) → Has (waiting_on v.nodes) t → OldOr (waiting_on w.nodes) t
    wait_grows t h =
        let one = flat_has (λ (m : NodeState A). waits_in m.ports) v.nodes t h in
        ⊎_elim
        (λ (is : next ≡ one.0). inr (waits_pass n next told.out t passes
        (subst (λ (m : NodeState A). Has (waits_in m.ports) t) (sym is) one.2)))
        (λ (old : Has w.nodes one.0). inl (has_flat (λ (m : NodeState A). waits_in m.ports) w.nodes one.0 t old one.2))
        (set_has w.nodes place next one.0 one.1)

    -- all that is on its way then was before, or passes on what is inside these things
    pub grows : (t : Thing A) → Has (things_of v) t → OldOr (things_of w) t
    grows = both_grow (map (λ i. thing_of i) v.items) (frames_on v.buses.buses ++ waiting_on v.nodes)
        (map (λ i. thing_of i) w.items) (frames_on w.buses.buses ++ waiting_on w.nodes) item_grows
        (both_grow (frames_on v.buses.buses) (waiting_on v.nodes) (frames_on w.buses.buses) (waiting_on w.nodes) frame_grows
        wait_grows)
