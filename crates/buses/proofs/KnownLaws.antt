-- What is known on the buses was known before, or was put out.
use Rattle.std.proofs.Common.{suc, zero, ◌≡◌, ◌⊎◌, ℕ, max, Bool, true, false, List, [], ◌∷◌, ◌++◌, map, refl, ap, sym, subst, ◌∙◌, arith, inl, inr}
use Rattle.std.specs.Prelude.{Some, slice_get, slice_set, ◌==◌, if◌then◌else◌}
use Rattle.std.specs.List.{flat_map}
use Rattle.std.proofs.Math.Seq.{map-set_same}
use Rattle.std.proofs.lemmas.Bool.{eqb-true, cases_lt}
use Rattle.std.proofs.lemmas.List.Folds.{flat_map-map}
use Rattle.std.proofs.lemmas.Option.{get_or_from_slice_get}
use Rattle.history.specs.Lists.{Has}
use Rattle.history.proofs.Lists.{has, has_back, has_cons, has_either, has_front, has_next, none_has}
use Rattle.bus_traffic.specs.Bus.{BusState, heard_on, put_out}
use Rattle.bus_traffic.specs.Sendings.{aged, known_by, learned}
use Rattle.bus_traffic.specs.declared.ear.Ear.{Ear}
use Rattle.bus_traffic.specs.declared.sending.Known.{Known}
use Rattle.bus_traffic.specs.declared.sending.Sending.{Sending}
use Rattle.bus_traffic.proofs.Places.{learned_first}
use Rattle.bus_traffic.proofs.RememberLaws.{learned_next}
use Rattle.bus_traffic.proofs.YoungestLaws.{same, other, same_is}
use Rattle.traffic.specs.declared.frame.FramePut.{FramePut}
use Rattle.buses.proofs.Places.{put_first, put_next}
use Rattle.buses.specs.Finding.{HasEarAt}
use Rattle.buses.specs.Hearing.{anew_at, anew_on, ears_anew, heard_at}
use Rattle.buses.specs.Laws.{IsPutAs, PutsAreKnown, all_known, as_known, known_as}
use Rattle.buses.specs.Puts.{BusesState, put_at, put_on, put_one, sending_of}

-- the later of two moments is one of them
one_of : (a b : ℕ) → (max a b ≡ a) ⊎ (max a b ≡ b)
one_of a b = elim (cases_lt a b) [
  | inl lt ↦ let m : max a b ≡ b = omega (arith, lt) in inr m
  | inr le ↦ let m : max a b ≡ a = omega (arith, le) in inl m
]

-- what is known of a frame, as a thing
abbrev thing_of : {A X : Type 0} → (List ℕ → ℕ → X) → Known A → X
thing_of h k = h k.octets k.stamp

-- what was learned was known, or is what is new
learned_has : {A X : Type 0} (h : List ℕ → ℕ → X) (new : Known A) (ks : List (Known A)) (x : X)
    → Has (map (thing_of h) (learned new ks)) x → Has (map (thing_of h) ks) x ⊎ (x ≡ h new.octets new.stamp)
learned_has h new [] x there = elim (has_cons (thing_of h new) [] there) [
  | inl is ↦ inr (sym is)
  | inr none ↦ absurd (none_has none)
]
learned_has {A} {X} h new (k ∷ ks) x there = elim (same_is k.octets new.octets) [
  | same b e ↦ elim (has_cons (thing_of h (aged new.stamp k)) (map (thing_of h) ks)
      (subst (λ ls. Has (map (thing_of h) ls) x) (learned_first new k ks b) there)) [
        | inl is ↦ elim (one_of k.stamp new.stamp) [
          | inl old ↦ inl (has 0 (ap (λ z. Some z) (sym (ap (λ n. h k.octets n) old) ∙ is)))
          | inr young ↦ inr (sym is ∙ ap (λ n. h k.octets n) young ∙ ap (λ o. h o new.stamp) e)
        ]
        | inr behind ↦ inl (has_next (thing_of h k) (map (thing_of h) ks) behind)
      ]
  | other b n ↦ elim (has_cons (thing_of h k) (map (thing_of h) (learned new ks))
      (subst (λ ls. Has (map (thing_of h) ls) x) (learned_next new k ks b) there)) [
        | inl is ↦ inl (has 0 (ap (λ z. Some z) is))
        | inr behind ↦ elim (learned_has h new ks x behind) [
          | inl known ↦ inl (has_next (thing_of h k) (map (thing_of h) ks) known)
          | inr is ↦ inr is
        ]
      ]
]

put_by : {A X : Type 0} (f : ℕ → List ℕ → ℕ → X) (now net : ℕ) (s : Sending A) (b : BusState A)
    (bs : List (BusState A)) (x : X) (t : Bool) → (b.net == net) ≡ t
    → (Has (all_known f (put_at now net s bs)) x → Has (all_known f bs) x ⊎ (x ≡ f net s.octets s.stamp))
    → Has (all_known f (put_at now net s (b ∷ bs))) x
    → Has (all_known f (b ∷ bs)) x ⊎ (x ≡ f net s.octets s.stamp)
put_by f now net s b bs x true e rest there = elim (has_either (known_as f (put_out now s b)) (all_known f bs)
    (subst (λ cs. Has (all_known f cs) x) (put_first now net s b bs e) there)) [
      | inl here ↦ elim (learned_has (f b.net) (known_by s) b.known x here) [
        | inl known ↦ inl (has_front (known_as f b) (all_known f bs) known)
        | inr is ↦ inr (is ∙ ap (λ n. f n s.octets s.stamp) (eqb-true b.net net e))
      ]
      | inr behind ↦ inl (has_back (known_as f b) (all_known f bs) behind)
    ]
put_by f now net s b bs x false e rest there = elim (has_either (known_as f b) (all_known f (put_at now net s bs))
    (subst (λ cs. Has (all_known f cs) x) (put_next now net s b bs e) there)) [
      | inl here ↦ inl (has_front (known_as f b) (all_known f bs) here)
      | inr behind ↦ elim (rest behind) [
        | inl known ↦ inl (has_back (known_as f b) (all_known f bs) known)
        | inr is ↦ inr is
      ]
    ]

-- what is known once a frame was put out was known, or is this frame
pub put_has : {A X : Type 0} (f : ℕ → List ℕ → ℕ → X) (now net : ℕ) (s : Sending A) (bs : List (BusState A)) (x : X)
    → Has (all_known f (put_at now net s bs)) x → Has (all_known f bs) x ⊎ (x ≡ f net s.octets s.stamp)
put_has f now net s [] x there = inl there
put_has f now net s (b ∷ bs) x there = put_by f now net s b bs x (b.net == net) refl
    (λ h. put_has f now net s bs x h) there

-- .. so is it once frames were put out
pub puts_has : {A X : Type 0} (f : ℕ → List ℕ → ℕ → X) (now items : ℕ) (fs : List (FramePut A)) (b : BusesState A)
    (x : X) → Has (all_known f (put_on now items fs b).buses) x → Has (all_known f b.buses) x ⊎ IsPutAs f fs x
puts_has f now items [] b x there = inl there
puts_has f now items (p ∷ ps) b x there = elim (puts_has f now items ps (put_one now items p b) x there) [
  | inl known ↦ elim (put_has f now p.net (sending_of items b.frames p) b.buses x known) [
    | inl before ↦ inl before
    | inr is ↦ inr (record { frame = p; there = has 0 refl; is = is })
  ]
  | inr put ↦ inr (record { frame = put.frame; there = has_next p ps put.there; is = put.is })
]

pub puts_are_known : {A : Type 0} → PutsAreKnown A
puts_are_known now items fs b x there = puts_has as_known now items fs b x there

-- buses on each of which the same is known
same_known : {A X : Type 0} (f : ℕ → List ℕ → ℕ → X) (bs cs : List (BusState A))
    → map (known_as f) bs ≡ map (known_as f) cs → all_known f bs ≡ all_known f cs
same_known f bs cs e = sym (flat_map-map (λ x. x) (known_as f) bs) ∙ ap (λ xs. flat_map (λ x. x) xs) e
    ∙ flat_map-map (λ x. x) (known_as f) cs

-- an ear that has heard octets leaves what is known
pub heard_known : {A X : Type 0} (f : ℕ → List ℕ → ℕ → X) (now i j : ℕ) (octets kept : List ℕ) (e : Ear)
    (b : BusState A) (all : BusesState A) → slice_get all.buses i ≡ Some b
    → all_known f (heard_at now i j octets kept e b all).buses ≡ all_known f all.buses
heard_known f now i j octets kept e b all there =
    same_known f (slice_set all.buses i (heard_on now j octets kept e b)) all.buses
    (map-set_same (known_as f) all.buses i (heard_on now j octets kept e b) b
    (ap (λ o. known_as f o) (sym (get_or_from_slice_get all.buses i b b there))))

anew_known : {A X : Type 0} (f : ℕ → List ℕ → ℕ → X) (now address : ℕ) (b : BusState A) (t : Bool)
    → known_as f (if t then anew_on now address b else b) ≡ known_as f b
anew_known f now address b true = refl
anew_known f now address b false = refl

each_anew : {A X : Type 0} (f : ℕ → List ℕ → ℕ → X) (now net address : ℕ) (bs : List (BusState A))
    → all_known f (map (anew_at now net address) bs) ≡ all_known f bs
each_anew f now net address [] = refl
each_anew f now net address (b ∷ bs) =
    ap (λ xs. xs ++ all_known f (map (anew_at now net address) bs)) (anew_known f now address b (b.net == net))
    ∙ ap (λ xs. known_as f b ++ xs) (each_anew f now net address bs)

-- ears that are made anew leave what is known
pub ears_anew_known : {A X : Type 0} (f : ℕ → List ℕ → ℕ → X) (now net address : ℕ) (all : BusesState A)
    → all_known f (ears_anew now net address all).buses ≡ all_known f all.buses
ears_anew_known f now net address all = each_anew f now net address all.buses

-- what is put out takes no ear away
put_stays : {A : Type 0} (now net : ℕ) (s : Sending A) (bs : List (BusState A)) (i j : ℕ) → HasEarAt i j bs
    → HasEarAt i j (put_at now net s bs)
put_stays now net s [] i j h = h
put_stays {A} now net s (b ∷ bs) zero j h = by_test (b.net == net)
  where
    first : b ≡ h.bus
    first = some_same b h.bus h.bus_there
      where
        some_same : (x y : BusState A) → Some x ≡ Some y → x ≡ y
        some_same x y e = cc

    by_test : (t : Bool) → HasEarAt zero j (if t then put_out now s b ∷ bs else b ∷ put_at now net s bs)
    by_test true = record {
      bus = put_out now s b;
      ear = h.ear;
      bus_there = refl;
      ear_there = ap (λ (o : BusState A). slice_get o.ears j) first ∙ h.ear_there;
    }
    by_test false = record {
      bus = b;
      ear = h.ear;
      bus_there = refl;
      ear_there = ap (λ (o : BusState A). slice_get o.ears j) first ∙ h.ear_there;
    }
put_stays {A} now net s (b ∷ bs) (suc i) j h = by_test (b.net == net)
    (put_stays now net s bs i j (record {
      bus = h.bus;
      ear = h.ear;
      bus_there = h.bus_there;
      ear_there = h.ear_there;
    }))
  where
    by_test : (t : Bool) → HasEarAt i j (put_at now net s bs)
        → HasEarAt (suc i) j (if t then put_out now s b ∷ bs else b ∷ put_at now net s bs)
    by_test true rest = record { bus = h.bus; ear = h.ear; bus_there = h.bus_there; ear_there = h.ear_there }
    by_test false rest =
        record { bus = rest.bus; ear = rest.ear; bus_there = rest.bus_there; ear_there = rest.ear_there }

pub ears_stay : {A : Type 0} (now items : ℕ) (fs : List (FramePut A)) (b : BusesState A) (i j : ℕ)
    → HasEarAt i j b.buses → HasEarAt i j (put_on now items fs b).buses
ears_stay now items [] b i j h = h
ears_stay now items (f ∷ fs) b i j h =
    ears_stay now items fs (put_one now items f b) i j (put_stays now f.net (sending_of items b.frames f) b.buses i j h)
