-- What is known of frames, as what is on its way: where it comes from, and what is judged and heard by it.
use Rattle.std.proofs.Common.{◌≡◌, ◌∙◌, ◌⊎◌, inl, inr, refl, sym, ap, subst, arith, ℕ, ◌+◌, ◌≤◌, max, true, false, List, [], ◌∷◌}
use Rattle.std.specs.Prelude.{Result, Some, Ok, Err, if◌then◌else◌}
use Rattle.std.proofs.lemmas.Bool.{cases_lt, le-leb, lt-leb}
use Rattle.history.proofs.Lists.{has, has_cons, has_next, none_has}
use Rattle.history.specs.Lists.{Has}
use Rattle.profile.specs.Ages.{is_heard_in_time}
use Rattle.profile.specs.Times.{LIFE_MS}
use Rattle.tags.specs.declared.fault.Fault.{Fault}
use Rattle.tags.specs.declared.fault.Fault.TheVariants.{Expired, Forged}
use Rattle.bus_traffic.proofs.Places.{learned_first}
use Rattle.bus_traffic.proofs.RememberLaws.{known_next, learned_next}
use Rattle.bus_traffic.proofs.YoungestLaws.{other, same, same_is}
use Rattle.bus_traffic.specs.Bus.{BusState, IsHearing, heard_on, joined, put_out, restarted}
use Rattle.bus_traffic.specs.Hearing.{Hears, over, refuses, accepts}
use Rattle.bus_traffic.specs.Sendings.{aged, judged_by, known_by, known_of, learned}
use Rattle.bus_traffic.specs.declared.ear.Ear.{Ear}
use Rattle.bus_traffic.specs.declared.hearing.Ending.{Ending}
use Rattle.bus_traffic.specs.declared.hearing.HeardFrame.{HeardFrame}
use Rattle.bus_traffic.specs.declared.hearing.Hearing.{Hearing}
use Rattle.bus_traffic.specs.declared.sending.Known.{Known}
use Rattle.bus_traffic.specs.declared.sending.Sending.{Sending}

-- what is known where this is known too was known, or is this
abbrev pub IsOldOr : {A : Type 0} → (new : Known A) → List (Known A) → Known A → Type 0
IsOldOr new ks x = Has ks x ⊎ ((x.octets ≡ new.octets) × (x.stamp ≡ new.stamp))

behind : {A : Type 0} (new k : Known A) (ks : List (Known A)) (x : Known A) → IsOldOr new ks x → IsOldOr new (k ∷ ks) x
behind new k ks x (inl h) = inl (has_next k ks h)
behind new k ks x (inr e) = inr e

aged_is : {A : Type 0} (new k : Known A) (ks : List (Known A)) (x : Known A) → k.octets ≡ new.octets
    → aged new.stamp k ≡ x → IsOldOr new (k ∷ ks) x
aged_is new k ks x e is = elim (cases_lt k.stamp new.stamp) [
  | inl lt ↦ let m : max k.stamp new.stamp ≡ new.stamp = omega (arith, lt) in
      inr (ap (λ z. z.octets) (sym is) ∙ e, ap (λ z. z.stamp) (sym is) ∙ m)
  | inr le ↦ let m : max k.stamp new.stamp ≡ k.stamp = omega (arith, le) in
      inl (has 0 (ap (λ z. Some z) (ap (λ n. record { octets = k.octets; stamp = n }) (sym m) ∙ is)))
]

pub learned_has : {A : Type 0} (new : Known A) (ks : List (Known A)) (x : Known A) → Has (learned new ks) x
    → IsOldOr new ks x
learned_has new [] x h = elim (has_cons new [] h) [
  | inl is ↦ inr (ap (λ z. z.octets) (sym is), ap (λ z. z.stamp) (sym is))
  | inr none ↦ absurd (none_has none)
]
learned_has new (k ∷ ks) x h = elim (same_is k.octets new.octets) [
  | same b e ↦ elim (has_cons (aged new.stamp k) ks (subst (λ all. Has all x) (learned_first new k ks b) h)) [
    | inl is ↦ aged_is new k ks x e is
    | inr later ↦ inl (has_next k ks later)
  ]
  | other b differs ↦ elim (has_cons k (learned new ks) (subst (λ all. Has all x) (learned_next new k ks b) h)) [
    | inl is ↦ inl (has 0 (ap (λ z. Some z) is))
    | inr later ↦ behind new k ks x (learned_has new ks x later)
  ]
]

-- .. where a frame is put out
pub put_out_has : {A : Type 0} (now : ℕ) (s : Sending A) (b : BusState A) (x : Known A)
    → Has (put_out now s b).known x → Has b.known x ⊎ ((x.octets ≡ s.octets) × (x.stamp ≡ s.stamp))
put_out_has now s b x h = learned_has (known_by s) b.known x h

-- nothing is known by what is heard, nor by a restart or an ear that comes
pub heard_knows : {A : Type 0} (now place : ℕ) (octets kept : List ℕ) (e : Ear) (b : BusState A)
    → (heard_on now place octets kept e b).known ≡ b.known
heard_knows now place octets kept e b = refl

pub restart_knows : {A : Type 0} (now place : ℕ) (e : Ear) (b : BusState A) → (restarted now place e b).known ≡ b.known
restart_knows now place e b = refl

pub join_knows : {A : Type 0} (now address : ℕ) (b : BusState A) → (joined now address b).known ≡ b.known
join_knows now address b = refl

-- a frame of these octets is known with this stamp, and is young enough to be heard
pub record IsKnown {A : Type 0} (now : ℕ) (octets : List ℕ) (stamp : ℕ) (known : List (Known A)) : Type 0 where
  pub is : Known A
  pub there : Has known is
  pub octets_are : is.octets ≡ octets
  pub stamp_is : is.stamp ≡ stamp
  pub age : now ≤ stamp + LIFE_MS

known_later : {A : Type 0} (now : ℕ) (octets : List ℕ) (stamp : ℕ) (k : Known A) (ks : List (Known A))
    → IsKnown now octets stamp ks → IsKnown now octets stamp (k ∷ ks)
known_later now octets stamp k ks i = record {
  is = i.is;
  there = has_next k ks i.there;
  octets_are = i.octets_are;
  stamp_is = i.stamp_is;
  age = i.age;
}

err_ok : (f : Fault) (n : ℕ) → Err f ≡ Ok n → ⊥
err_ok f n e = cc

ok_same : (a b : ℕ) (r : Result ℕ Fault) → r ≡ Ok a → r ≡ Ok b → a ≡ b
ok_same a b r e q = cc

-- a stamp that a frame is judged to have is the one of which it is judged, and young enough
judged_stamp : (now stamp judged : ℕ) → judged_by now (Some stamp) ≡ Ok judged → (stamp ≡ judged) × (now ≤ judged + LIFE_MS)
judged_stamp now stamp judged e = elim (cases_lt (stamp + LIFE_MS) now) [
  | inl lt ↦ let old : is_heard_in_time stamp now ≡ false = lt-leb now (stamp + LIFE_MS) lt in
      absurd (err_ok Expired judged (subst (λ b. (if b then Ok stamp else Err Expired) ≡ Ok judged) old e))
  | inr le ↦ let young : is_heard_in_time stamp now ≡ true = le-leb now (stamp + LIFE_MS) le in
      let is = ok_same stamp judged (Ok stamp) refl
      (subst (λ b. (if b then Ok stamp else Err Expired) ≡ Ok judged) young e) in
      (is, subst (λ n. now ≤ n + LIFE_MS) is le)
]

pub judged_is_known : {A : Type 0} (now : ℕ) (octets : List ℕ) (stamp : ℕ) (known : List (Known A))
    → judged_by now (known_of octets known) ≡ Ok stamp → IsKnown now octets stamp known
judged_is_known now octets stamp [] e = absurd (err_ok Forged stamp e)
judged_is_known now octets stamp (k ∷ ks) e = elim (same_is k.octets octets) [
  | same b q ↦
      let here = judged_stamp now k.stamp stamp
      (subst (λ c. judged_by now (if c then Some k.stamp else known_of octets ks) ≡ Ok stamp) b e) in
      record { is = k; there = has 0 refl; octets_are = q; stamp_is = here.0; age = here.1 }
  | other b differs ↦ known_later now octets stamp k ks
      (judged_is_known now octets stamp ks (subst (λ r. judged_by now r ≡ Ok stamp) (known_next octets k ks b) e))
]

-- each frame that is heard was accepted by the judge
pub heard_is_accepted : (A : Type 0) (judge : List ℕ → Result ℕ Fault) (kept octets : List ℕ) (fs : List (HeardFrame A))
    (end : Ending A) → Hears A judge kept octets fs end → (f : HeardFrame A) → Has fs f → judge f.octets ≡ Ok f.stamp
heard_is_accepted A judge _ _ _ _ (over kept octets after ends) f there = absurd (none_has there)
heard_is_accepted A judge _ _ _ _ (refuses kept octets whole after used fault ends not) f there = absurd (none_has there)
heard_is_accepted A judge _ _ _ _ (accepts kept octets after g fs end ends ok more) f there =
    elim (has_cons g fs there) [
      | inl is ↦ subst (λ x. judge x.octets ≡ Ok x.stamp) is ok
      | inr later ↦ heard_is_accepted A judge after _ fs end more f later
    ]

-- .. so each is known
pub heard_is_known : {A : Type 0} (now : ℕ) (octets : List ℕ) (e : Ear) (b : BusState A) (h : Hearing A)
    → IsHearing now octets e b h → (f : HeardFrame A) → Has h.frames f → IsKnown now f.octets f.stamp b.known
heard_is_known {A} now octets e b h hears f there = judged_is_known now f.octets f.stamp b.known
    (heard_is_accepted A (λ whole. judged_by now (known_of whole b.known)) _ octets h.frames h.ending hears f there)
