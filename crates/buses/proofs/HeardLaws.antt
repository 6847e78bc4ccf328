-- What an ear hears is known on its bus, and young.
use Rattle.std.proofs.Common.{◌≡◌, ℕ, zero, suc, inl, inr, ◌+◌, ◌≤◌, Bool, true, false, List, [], ◌∷◌, map, refl, ap, sym, subst, ◌∙◌}
use Rattle.std.specs.Prelude.{Option, Some, None, Result, Ok, Err, drop, slice_get, if◌then◌else◌}
use Rattle.std.proofs.lemmas.Bool.{leb-true}
use Rattle.history.specs.Lists.{Has}
use Rattle.history.proofs.Lists.{has, has_back, has_cons, has_front, has_next, none_has}
use Rattle.profile.specs.Ages.{is_heard_in_time}
use Rattle.profile.specs.Times.{LIFE_MS}
use Rattle.tags.specs.declared.fault.Fault.{Fault}
use Rattle.tags.specs.declared.fault.Fault.TheVariants.{Expired}
use Rattle.bus_traffic.specs.Bus.{BusState, IsHearing}
use Rattle.bus_traffic.specs.Ears.{kept_at}
use Rattle.bus_traffic.specs.Hearing.{Hears, over, refuses, accepts}
use Rattle.bus_traffic.specs.Sendings.{judged_by, known_of}
use Rattle.bus_traffic.specs.declared.ear.Ear.{Ear}
use Rattle.bus_traffic.specs.declared.hearing.Ending.{Ending}
use Rattle.bus_traffic.specs.declared.hearing.HeardFrame.{HeardFrame}
use Rattle.bus_traffic.specs.declared.hearing.Hearing.{Hearing}
use Rattle.bus_traffic.specs.declared.sending.Known.{Known}
use Rattle.bus_traffic.proofs.RememberLaws.{known_next}
use Rattle.bus_traffic.proofs.YoungestLaws.{same, other, same_is}
use Rattle.buses.proofs.FindingLaws.{net_of}
use Rattle.buses.specs.Finding.{IsEarOf}
use Rattle.buses.specs.Laws.{all_known, known_as}

-- each frame that is heard was judged so
pub each_judged : {A : Type 0} (judge : List ℕ → Result ℕ Fault) (kept octets : List ℕ) (fs : List (HeardFrame A))
    (end : Ending A) (g : HeardFrame A) → Hears A judge kept octets fs end → Has fs g → judge g.octets ≡ Ok g.stamp
each_judged judge _ _ _ _ g (over kept octets after e) there = absurd (none_has there)
each_judged judge _ _ _ _ g (refuses kept octets whole after used fault e j) there = absurd (none_has there)
each_judged judge _ _ _ _ g (accepts kept octets after f fs end e j h) there = elim (has_cons f fs there) [
  | inl is ↦ subst (λ k. judge k.octets ≡ Ok k.stamp) is j
  | inr behind ↦ each_judged judge after (drop f.used octets) fs end g h behind
]

young_by : (now stamp at : ℕ) (t : Bool) → is_heard_in_time at now ≡ t
    → (if t then Ok at else Err Expired) ≡ Ok stamp → (at ≡ stamp) × (now ≤ at + LIFE_MS)
young_by now stamp at true e j = ((cc), leb-true now (at + LIFE_MS) e)
young_by now stamp at false e j = absurd (cc)

-- what a frame that is heard was known by
pub judged_so : (now stamp : ℕ) (known : Option ℕ) → judged_by now known ≡ Ok stamp
    → (known ≡ Some stamp) × (now ≤ stamp + LIFE_MS)
judged_so now stamp None j = absurd (cc)
judged_so now stamp (Some at) j = let y = young_by now stamp at (is_heard_in_time at now) refl j in
    (ap (λ n. Some n) y.0, subst (λ n. now ≤ n + LIFE_MS) y.0 y.1)

-- what is known of octets is known of a frame that was put out
pub known_has : {A X : Type 0} (h : List ℕ → ℕ → X) (octets : List ℕ) (stamp : ℕ) (ks : List (Known A))
    → known_of octets ks ≡ Some stamp → Has (map (λ k. h k.octets k.stamp) ks) (h octets stamp)
known_has h octets stamp [] e = absurd (cc)
known_has h octets stamp (k ∷ ks) e = elim (same_is k.octets octets) [
  | same b is ↦ has 0 (ap (λ z. Some z) (ap (λ o. h o k.stamp) is ∙ ap (λ n. h octets n)
      (some_same k.stamp stamp (sym (ap (λ t. if t then Some k.stamp else known_of octets ks) b) ∙ e))))
  | other b n ↦ has_next (h k.octets k.stamp) (map (λ k. h k.octets k.stamp) ks)
      (known_has h octets stamp ks (sym (known_next octets k ks b) ∙ e))
]
  where
    some_same : (a b : ℕ) → Some a ≡ Some b → a ≡ b
    some_same a b e = cc

-- what stands in one of them stands in all that comes of each
pub known_among : {A X : Type 0} (f : ℕ → List ℕ → ℕ → X) (bs : List (BusState A)) (i : ℕ) (b : BusState A) (x : X)
    → slice_get bs i ≡ Some b → Has (known_as f b) x → Has (all_known f bs) x
known_among f [] i b x e there = absurd (cc)
known_among {A} f (c ∷ bs) zero b x e there =
    let same : c ≡ b = cc in has_front (known_as f c) (all_known f bs) (subst (λ (o : BusState A). Has (known_as f o) x) (sym same) there)
known_among f (c ∷ bs) (suc i) b x e there =
    has_back (known_as f c) (all_known f bs) (known_among f bs i b x e there)

-- a frame that the ear of a station hears is known on its network, and young
pub heard_is_known : {A X : Type 0} (f : ℕ → List ℕ → ℕ → X) (now net address : ℕ) (octets : List ℕ)
    (bs : List (BusState A)) (i : ℕ) (b : BusState A) (j : ℕ) (e : Ear) (h : Hearing A) (g : HeardFrame A)
    → IsEarOf net address bs i b j e → IsHearing now octets e b h → Has h.frames g
    → Has (all_known f bs) (f net g.octets g.stamp) × (now ≤ g.stamp + LIFE_MS)
heard_is_known {A} {X} f now net address octets bs i b j e h g is hears there =
    let so = judged_so now g.stamp (known_of g.octets b.known)
    (each_judged (λ whole. judged_by now (known_of whole b.known)) (kept_at now octets e) octets h.frames h.ending g
    hears there) in (
      known_among f bs i b (f net g.octets g.stamp) is.bus_there
          (subst (λ n. Has (known_as f b) (f n g.octets g.stamp)) (net_of net address bs i b j e is)
          (known_has (f b.net) g.octets g.stamp b.known so.0)),
      so.1,
    )
