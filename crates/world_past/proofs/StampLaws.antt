-- What is known of frames, where that of old ones may be forgotten: how they are judged, and what becomes known.
use Rattle.std.proofs.Common.{◌≡◌, ◌∙◌, ◌⊎◌, inl, inr, refl, sym, ap, subst, arith, ℕ, ◌+◌, ◌≤◌, max, Bool, true, false, List}
use Rattle.std.specs.Prelude.{Option, Result, Some, None, Ok, Err, if◌then◌else◌}
use Rattle.std.proofs.lemmas.Bool.{leb-false, leb-true, lt-leb}
use Rattle.bus_traffic.proofs.ForgettingLaws.{still_old}
use Rattle.bus_traffic.proofs.RememberLaws.{known_other, known_same}
use Rattle.bus_traffic.proofs.YoungestLaws.{other, same, same_is}
use Rattle.bus_traffic.specs.Sendings.{judged_by, known_of, later_of, learned}
use Rattle.bus_traffic.specs.declared.sending.Known.{Known}
use Rattle.profile.specs.Ages.{is_heard_in_time}
use Rattle.profile.specs.Times.{LIFE_MS}
use Rattle.tags.specs.declared.fault.Fault.{Fault}
use Rattle.tags.specs.declared.fault.Fault.TheVariants.{Expired, Forged}
use Rattle.bus_traffic.specs.Forgetting.{IsOld, IsOldOrUnknown, KeepsKnown, KeepsStamp}

-- old is old or unknown
weaker : (now : ℕ) (o : Option ℕ) → IsOld now o → IsOldOrUnknown now o
weaker now None h = absurd h
weaker now (Some s) h = h

old_later : (now later : ℕ) (o : Option ℕ) → now ≤ later → IsOld now o → IsOld later o
old_later now later None le h = absurd h
old_later now later (Some s) le h = still_old s now later le h

unknown_later : (now later : ℕ) (o : Option ℕ) → now ≤ later → IsOldOrUnknown now o → IsOldOrUnknown later o
unknown_later now later None le h = tt
unknown_later now later (Some s) le h = still_old s now later le h

pub stamp_later : (now later : ℕ) (a k : Option ℕ) → now ≤ later → KeepsStamp now a k → KeepsStamp later a k
stamp_later now later a k le (inl e) = inl e
stamp_later now later a k le (inr o) = inr (old_later now later a le o.0, unknown_later now later k le o.1)

pub stamp_on : (now : ℕ) (a b c : Option ℕ) → KeepsStamp now a b → KeepsStamp now b c → KeepsStamp now a c
stamp_on now a b c (inl e) (inl f) = inl (f ∙ e)
stamp_on now a b c (inl e) (inr o) = inr (subst (λ (x : Option ℕ). IsOld now x) e o.0, o.1)
stamp_on now a b c (inr o) (inl f) = inr (o.0, subst (λ (x : Option ℕ). IsOldOrUnknown now x) (sym f) o.1)
stamp_on now a b c (inr o) (inr p) = inr (o.0, p.1)

-- how an old one is judged
judged_old : (now s : ℕ) → is_heard_in_time s now ≡ false → judged_by now (Some s) ≡ Err Expired
judged_old now s e = ap (λ (b : Bool). if b then Ok s else Err Expired) e

ok_err : (f : Fault) (s : ℕ) → Err f ≡ Ok s → ⊥
ok_err f s e = cc

never_ok : (now s : ℕ) (k : Option ℕ) → IsOldOrUnknown now k → judged_by now k ≡ Ok s → ⊥
never_ok now s None h e = ok_err Forged s e
never_ok now s (Some c) h e = ok_err Expired s (sym (judged_old now c h) ∙ e)

-- what is accepted by what is kept is accepted by all, with the same stamp
pub judges_on : (now s : ℕ) (a k : Option ℕ) → KeepsStamp now a k → judged_by now k ≡ Ok s → judged_by now a ≡ Ok s
judges_on now s a k (inl e) ok = sym (ap (λ (o : Option ℕ). judged_by now o) e) ∙ ok
judges_on now s a k (inr o) ok = absurd (never_ok now s k o.1 ok)

-- a frame that is refused of what is kept with this fault is refused by this answer too, if under another name
pub record RefusesToo (answer : Result ℕ Fault) (fault : Fault) : Type 0 where
  pub whole : Fault
  pub refused : answer ≡ Err whole
  pub named : (whole ≡ fault) ⊎ ((fault ≡ Forged) × (whole ≡ Expired))

err_same : (f g : Fault) → (the : Result ℕ Fault) → the ≡ Err f → the ≡ Err g → f ≡ g
err_same f g the e q = cc

old_named : (now : ℕ) (k : Option ℕ) (fault : Fault) → IsOldOrUnknown now k → judged_by now k ≡ Err fault →
    (Expired ≡ fault) ⊎ ((fault ≡ Forged) × (Expired ≡ Expired))
old_named now None fault h e = inr (err_same fault Forged (Err Forged) e refl, refl)
old_named now (Some s) fault h e = inl (err_same Expired fault (judged_by now (Some s)) (judged_old now s h) e)

old_refuses : (now : ℕ) (a : Option ℕ) → IsOld now a → judged_by now a ≡ Err Expired
old_refuses now None h = absurd h
old_refuses now (Some s) h = judged_old now s h

pub judges_not : (now : ℕ) (a k : Option ℕ) (fault : Fault) → KeepsStamp now a k → judged_by now k ≡ Err fault →
    RefusesToo (judged_by now a) fault
judges_not now a k fault (inl e) err = record {
  whole = fault;
  refused = sym (ap (λ (o : Option ℕ). judged_by now o) e) ∙ err;
  named = inl refl;
}
judges_not now a k fault (inr o) err = record {
  whole = Expired;
  refused = old_refuses now a o.0;
  named = old_named now k fault o.1 err;
}

-- the later of a young moment and an old one is the young one; of two old ones it is old
later_young : (now s c : ℕ) → is_heard_in_time s now ≡ true → is_heard_in_time c now ≡ false → max s c ≡ s
later_young now s c young old =
    let le = leb-true now (s + LIFE_MS) young in
    let lt = leb-false now (c + LIFE_MS) old in omega (arith, le, lt)

later_old : (now s c : ℕ) → is_heard_in_time s now ≡ false → is_heard_in_time c now ≡ false →
    is_heard_in_time (max s c) now ≡ false
later_old now s c old too =
    let le = leb-false now (s + LIFE_MS) old in
    let lt = leb-false now (c + LIFE_MS) too in lt-leb now (max s c + LIFE_MS) (omega (arith, le, lt))

-- what is known of a frame that is put out once more
young_is : (now s : ℕ) (o : Option ℕ) → is_heard_in_time s now ≡ true → IsOldOrUnknown now o → later_of s o ≡ s
young_is now s None young h = refl
young_is now s (Some c) young h = later_young now s c young h

old_is : (now s : ℕ) (o : Option ℕ) → is_heard_in_time s now ≡ false → IsOldOrUnknown now o →
    is_heard_in_time (later_of s o) now ≡ false
old_is now s None old h = old
old_is now s (Some c) old h = later_old now s c old h

again_by : (now s : ℕ) (a k : Option ℕ) (b : Bool) → is_heard_in_time s now ≡ b → IsOld now a → IsOldOrUnknown now k →
    KeepsStamp now (Some (later_of s a)) (Some (later_of s k))
again_by now s a k true young o p =
    inl (ap (λ (n : ℕ). Some n) (young_is now s k young p ∙ sym (young_is now s a young (weaker now a o))))
again_by now s a k false old o p = inr (old_is now s a old (weaker now a o), old_is now s k old p)

pub again : (now s : ℕ) (a k : Option ℕ) → KeepsStamp now a k →
    KeepsStamp now (Some (later_of s a)) (Some (later_of s k))
again now s a k (inl e) = inl (ap (λ (o : Option ℕ). Some (later_of s o)) e)
again now s a k (inr o) = again_by now s a k (is_heard_in_time s now) refl o.0 o.1

-- what is learned is kept
pub known_more : {A : Type 0} (now : ℕ) (new : Known A) (all kept : List (Known A)) → KeepsKnown now all kept →
    KeepsKnown now (learned new all) (learned new kept)
known_more now new all kept p octets = elim (same_is new.octets octets) [
  | same b e ↦ subst (λ (o : Option ℕ). KeepsStamp now o (known_of octets (learned new kept)))
      (sym (known_same octets new all e))
      (subst (λ (o : Option ℕ). KeepsStamp now (Some (later_of new.stamp (known_of octets all))) o)
      (sym (known_same octets new kept e))
      (again now new.stamp (known_of octets all) (known_of octets kept) (p octets)))
  | other b n ↦ subst (λ (o : Option ℕ). KeepsStamp now o (known_of octets (learned new kept)))
      (sym (known_other octets new all n))
      (subst (λ (o : Option ℕ). KeepsStamp now (known_of octets all) o) (sym (known_other octets new kept n))
      (p octets))
]
