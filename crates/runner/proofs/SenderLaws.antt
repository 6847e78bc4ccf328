-- Who sent the items of a world stays known as it goes on: items come behind those that are there.
use Rattle.std.proofs.Common.{◌≡◌, ◌∙◌, inl, inr, refl, sym, ap, subst, ℕ, zero, suc, ◌-◌, ◌≤◌, true, List, [], ◌∷◌, ◌++◌, drop, map, Some, arith}
use Rattle.std.proofs.lemmas.List.{append_assoc, append-nil, map-append}
use Rattle.std.proofs.lemmas.Option.{none-some, same_Some}
use Rattle.std.specs.Prelude.{slice_get, slice_set}
use Rattle.bus_traffic.specs.declared.hearing.HeardFrame.{HeardFrame}
use Rattle.npdu.specs.declared.mac.Mac.{Mac}
use Rattle.runner.specs.Strays.{TakesStray}
use Rattle.senders.proofs.SendersLaws.{known_behind, known_on}
use Rattle.senders.specs.Senders.{AreKnown, Grows, SendersState, senders_of}
use Rattle.simulator.specs.world.Acting.{Acts}
use Rattle.simulator.proofs.LedLaws.{as_whole}
use Rattle.simulator.specs.world.Hearing.{Hears, IsTold, TakesEach}
use Rattle.simulator.specs.world.Keeping.{Forgets}
use Rattle.simulator.specs.world.Step.{Happens, Steps}
use Rattle.simulator.specs.world.Straying.{Strays}
use Rattle.simulator.specs.world.World.{WorldState}
use Rattle.simulator.specs.world.site_events.declared.event.Event.{Event}
use Rattle.simulator.specs.world.site_events.declared.event.Event.TheVariants as event
use Rattle.simulator.specs.world.declared.happening.Happening.{Happening}
use Rattle.simulator.specs.world.declared.happening.Happening.TheVariants as happening
use Rattle.simulator.specs.world.declared.listener.Listener.{Listener}
use Rattle.simulator.specs.site_node.Node.{NodeState}
use Rattle.simulator.specs.site_node.Steps.{NodeTold}
use Rattle.traffic.specs.declared.item.Item.{Item}
use Rattle.wire.specs.Datagrams.{Datagram}

-- behind nothing stands nothing
drop_none : {X : Type 0} (n : ℕ) (xs : List X) → xs ≡ [] → drop n xs ≡ []
drop_none zero xs none = none
drop_none (suc n) [] none = refl
drop_none (suc n) (x ∷ xs) none = absurd (cc none)

grows_none : (xs : List Mac) → Grows xs xs
grows_none xs = record { more = []; is = sym (append-nil xs) }

grows_to : (xs ys : List Mac) → ys ≡ xs → Grows xs ys
grows_to xs ys same = subst (λ (l : List Mac). Grows xs l) (sym same) (grows_none xs)

grows_then : (xs ys zs : List Mac) → Grows xs ys → Grows ys zs → Grows xs zs
grows_then xs ys zs first then = record {
  more = first.more ++ then.more;
  is = then.is ∙ ap (λ (l : List Mac). l ++ then.more) first.is ∙ append_assoc xs first.more then.more;
}

-- .. and those behind the first so many
grows_behind : (f : ℕ) (xs ys : List Mac) → Grows xs ys → Grows (drop f xs) (drop f ys)
grows_behind zero xs ys g = g
grows_behind (suc f) [] ys g = record { more = drop (suc f) ys; is = refl }
grows_behind (suc f) (x ∷ xs) ys g = subst (λ (l : List Mac). Grows (drop f xs) (drop (suc f) l)) (sym g.is)
    (grows_behind f xs (xs ++ g.more) (record { more = g.more; is = refl }))

module _ {A : Type 0} where
  -- the mark that an item was delivered changes no sender
  marked : (items : List (Item A)) (n : ℕ) (i : Item A) → slice_get items n ≡ Some i →
      senders_of (slice_set items n (record i { is_delivered = true })) ≡ senders_of items
  marked [] n i there = absurd (none-some i there)
  marked (x ∷ xs) zero i there = ap (λ (y : Item A). y.from ∷ senders_of xs) (sym (same_Some x i there))
  marked (x ∷ xs) (suc n) i there = ap (λ (l : List Mac). x.from ∷ l) (marked xs n i there)

  abbrev GrowsTo : (w v : WorldState A) → Type 0
  GrowsTo w v = Grows (senders_of w.items) (senders_of v.items)

  -- items that stand behind others
  behind : (w v : WorldState A) (items more : List (Item A)) → senders_of items ≡ senders_of w.items →
      v.items ≡ items ++ more → GrowsTo w v
  behind w v items more same is = record {
    more = senders_of more;
    is = ap (λ (l : List (Item A)). senders_of l) is ∙ map-append (λ (i : Item A). i.from) items more
        ∙ ap (λ (l : List Mac). l ++ senders_of more) same;
  }

  same_items : (w v : WorldState A) → v ≡ w → GrowsTo w v
  same_items w v is = grows_to (senders_of w.items) (senders_of v.items) (ap (λ (x : WorldState A). senders_of x.items) is)

  -- what a node puts out
  acts_grow : (w v : WorldState A) (place : ℕ) (n next : NodeState A) (t : NodeTold A) → Acts w v place n next t →
      GrowsTo w v
  acts_grow w v place n next t acts = behind w v w.items _ refl (ap (λ (x : WorldState A). x.items) acts.is)

  heard_each : (l : Listener) (fs : List (HeardFrame A)) (w v : WorldState A) → TakesEach l fs w v → GrowsTo w v
  heard_each l [] w v h = same_items w v h
  heard_each l (f ∷ fs) w v h = grows_then (senders_of w.items) (senders_of h.middle.items) (senders_of v.items)
      (acts_grow w h.middle l.place h.first.n h.first.next h.first.told h.first.acts) (heard_each l fs h.middle v h.rest)

  told_any : (l : Listener) (count : ℕ) (w v : WorldState A) → IsTold l count w v → GrowsTo w v
  told_any l zero w v h = same_items w v h
  told_any l (suc n) w v h = acts_grow w v l.place h.n h.next h.told h.acts

  hears : (network place : ℕ) (octets : List ℕ) (w v : WorldState A) → Hears network place octets w v → GrowsTo w v
  hears network place octets w v h =
      let all = h.settles.does.first in
      let kept = h.settles.does.middle in
      grows_then (senders_of w.items) (senders_of kept.items) (senders_of v.items)
      (grows_then (senders_of w.items) (senders_of all.middle.items) (senders_of kept.items)
      (heard_each h.listener h.at.hearing.frames w all.middle all.first)
      (told_any h.listener h.settles.rest all.middle kept all.rest))
      (grows_to (senders_of kept.items) (senders_of v.items)
      (ap (λ (x : WorldState A). senders_of x.items) h.settles.does.rest.is))

  happens_grow : (h : Happening A) (w v : WorldState A) → Happens h w v → GrowsTo w v
  happens_grow (happening.Issue client instance q) w v h =
      behind w v w.items _ refl (ap (λ (x : WorldState A). x.items) h.acts.is)
  happens_grow (happening.WhoIs client limits) w v h = acts_grow w v client h.n h.next h.told h.acts
  happens_grow (happening.Tick n) w v h = grows_to (senders_of w.items) (senders_of v.items)
      (ap (λ (x : WorldState A). senders_of x.items) h.is)
  happens_grow (happening.Wake node) w v h = acts_grow w v node h.n h.next h.told h.acts
  happens_grow (happening.Deliver number) w v h =
      behind w v (slice_set w.items number (record (h.item) { is_delivered = true })) _
      (marked w.items number h.item h.there) (ap (λ (x : WorldState A). x.items) h.acts.is)
  happens_grow (happening.Restart node) w v h =
      behind w v w.items _ refl (ap (λ (x : WorldState A). x.items) h.acts.is)
  happens_grow (happening.Hear network node octets) w v h = hears network node octets w v h
  happens_grow (happening.Register node) w v h = acts_grow w v node h.n h.next h.told h.acts

  steps_grow : (e : Event A) (w v : WorldState A) → Steps e w v → GrowsTo w v
  steps_grow (event.Issue client instance q) w v h = happens_grow (happening.Issue h.place instance q) w v h.holds
  steps_grow (event.WhoIs client limits) w v h = happens_grow (happening.WhoIs h.place limits) w v h.holds
  steps_grow (event.Tick n) w v h = happens_grow (happening.Tick n) w v h
  steps_grow (event.Wake station) w v h = happens_grow (happening.Wake h.place) w v h.holds
  steps_grow (event.Deliver number) w v h = happens_grow (happening.Deliver number) w v h
  steps_grow (event.Restart station) w v h = happens_grow (happening.Restart h.place) w v h.holds
  steps_grow (event.Hear network station octets) w v h = happens_grow (happening.Hear network h.place octets) w v h.holds
  steps_grow (event.Register station) w v h = happens_grow (happening.Register h.place) w v h.holds

  strays_grow : (i : Item A) (w v : WorldState A) → Strays i w v → GrowsTo w v
  strays_grow i w v h = acts_grow w v h.place h.n h.next h.told h.acts

  -- those that are kept
  kept_senders : (f : ℕ) (items : List (Item A)) → drop f (senders_of items) ≡ senders_of (drop f items)
  kept_senders zero items = refl
  kept_senders (suc f) [] = refl
  kept_senders (suc f) (i ∷ is) = kept_senders f is

  -- who sent those of a world that are kept
  abbrev pub senders_kept : WorldState A → List Mac
  senders_kept w = senders_of (drop w.first_item w.items)

  kept_grow : (w v : WorldState A) → v.first_item ≡ w.first_item → GrowsTo w v → Grows (senders_kept w) (senders_kept v)
  kept_grow w v same grows =
      subst (λ (f : ℕ). Grows (senders_kept w) (senders_of (drop f v.items))) (sym same)
      (subst (λ (xs : List Mac). Grows xs (senders_of (drop w.first_item v.items))) (kept_senders w.first_item w.items)
      (subst (λ (ys : List Mac). Grows (drop w.first_item (senders_of w.items)) ys) (kept_senders w.first_item v.items)
      (grows_behind w.first_item (senders_of w.items) (senders_of v.items) grows)))

  -- an event
  pub known_after : (s : SendersState) (e : Event A) (w v : WorldState A) → AreKnown s (senders_kept w) →
      Steps e w v → AreKnown s (senders_kept v)
  known_after s e w v known steps = known_on s (senders_kept w) (senders_kept v)
      (kept_grow w v (as_whole e w v steps).first_item (steps_grow e w v steps)) known

  -- a stray
  pub known_after_stray : (s : SendersState) (d : Datagram) (w v : WorldState A) → AreKnown s (senders_kept w) →
      TakesStray d w v → AreKnown s (senders_kept v)
  known_after_stray s d w v known takes = known_on s (senders_kept w) (senders_kept v)
      (kept_grow w v (ap (λ (x : WorldState A). x.first_item) takes.strays.acts.is) (strays_grow _ w v takes.strays))
      known

  -- .. and where something is forgotten
  fewer_kept : (f g : ℕ) (items : List (Item A)) → f ≤ g → drop (g - f) (drop f items) ≡ drop g items
  fewer_kept zero g items le = ap (λ (n : ℕ). drop n items) (let same : g - 0 ≡ g = omega arith in same)
  fewer_kept (suc f) zero items le = absurd (omega (arith, le))
  fewer_kept (suc f) (suc g) [] le = drop_none (suc g - suc f) (drop (suc f) []) refl
  fewer_kept (suc f) (suc g) (i ∷ is) le =
      ap (λ (n : ℕ). drop n (drop f is)) (let same : suc g - suc f ≡ g - f = omega arith in same)
      ∙ fewer_kept f g is (omega (arith, le))

  pub known_forgotten : (s : SendersState) (w v : WorldState A) → AreKnown s (senders_kept w) → Forgets w v →
      AreKnown (record s { seen = s.seen - (v.first_item - w.first_item) }) (senders_kept v)
  known_forgotten s w v known f =
      let n = v.first_item - w.first_item in
      subst (λ (xs : List Mac). AreKnown (record s { seen = s.seen - n }) xs)
      (kept_senders n (drop w.first_item w.items)
      ∙ ap (λ (is : List (Item A)). senders_of is)
      (fewer_kept w.first_item v.first_item w.items f.first_item ∙ sym f.left))
      (known_behind s (senders_kept w) n known)

  -- .. by the numbers of the first that were kept before and are kept then
  pub known_forgotten_so : (s t : SendersState) (before after less : ℕ) (w v : WorldState A) →
      before ≡ w.first_item → after ≡ v.first_item → less ≡ after - before →
      t ≡ record s { seen = s.seen - less } → AreKnown s (senders_kept w) → Forgets w v → AreKnown t (senders_kept v)
  known_forgotten_so s t before after less w v at_before at_after by is known f =
      subst (λ (x : SendersState). AreKnown x (senders_kept v))
      (sym (is ∙ ap (λ (n : ℕ). record s { seen = s.seen - n }) (by ∙ ap (λ (n : ℕ). n - before) at_after
      ∙ ap (λ (n : ℕ). v.first_item - n) at_before)))
      (known_forgotten s w v known f)

-- nothing was seen
pub none_seen : (senders : List Mac) → AreKnown (record { known = []; seen = 0 }) senders
none_seen [] = record { seen = omega arith; known = tt }
none_seen (m ∷ ms) = record { seen = omega arith; known = tt }
