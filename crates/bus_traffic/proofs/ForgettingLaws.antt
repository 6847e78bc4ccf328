-- What a bus has left where it forgets is kept of it, and each frame is known once.
use Rattle.std.proofs.Common.{◌≡◌, ◌∙◌, inl, inr, refl, sym, ap, subst, arith, ℕ, ◌+◌, ◌*◌, ◌≤◌, ◌<◌, Bool, true, false, List, [], ◌∷◌, length}
use Rattle.std.specs.Prelude.{◌&&◌, ◌⊎◌, Option, Some, None, bytes_eq, cond}
use Rattle.std.proofs.lemmas.Bool.{leb-false, lt-leb}
use Rattle.profile.specs.Ages.{is_heard_in_time}
use Rattle.profile.specs.Times.{LIFE_MS}
use Rattle.bus_traffic.proofs.Places.{learned_first}
use Rattle.bus_traffic.proofs.RememberLaws.{known_first, known_next, known_other, learned_next}
use Rattle.bus_traffic.proofs.YoungestLaws.{other, same, same_is}
use Rattle.bus_traffic.specs.Bus.{BusState}
use Rattle.bus_traffic.specs.Forgetting.{ForgetsKnown, ForgetsOn, KeepsKnown, KeepsStamp}
use Rattle.bus_traffic.specs.Sendings.{AreKnownOnce, are_known_once, is_unknown, is_young, known_of, learned, young, young_known}
use Rattle.bus_traffic.specs.declared.sending.Known.{Known}
use Rattle.bus_traffic.specs.declared.sending.Recent.{Recent}

-- what is too old stays so
pub still_old : (stamp now later : ℕ) → now ≤ later → is_heard_in_time stamp now ≡ false →
    is_heard_in_time stamp later ≡ false
still_old stamp now later le e =
    let past = leb-false now (stamp + LIFE_MS) e in lt-leb later (stamp + LIFE_MS) (omega (arith, le, past))

-- what may still be heard later may be heard now
both_young : {A : Type 0} (now later : ℕ) (r : Recent A) (rs : List (Recent A)) → now ≤ later →
    young later (young now rs) ≡ young later rs → (b : Bool) → is_young now r.sending ≡ b →
    young later (young now (r ∷ rs)) ≡ young later (r ∷ rs)
both_young now later r rs le rest true e =
    ap (λ (b : Bool). young later (cond b (r ∷ young now rs) (young now rs))) e
    ∙ ap (λ (ys : List (Recent _)). cond (is_young later r.sending) (r ∷ ys) ys) rest
both_young now later r rs le rest false e =
    ap (λ (b : Bool). young later (cond b (r ∷ young now rs) (young now rs))) e ∙ rest
    ∙ sym (ap (λ (b : Bool). cond b (r ∷ young later rs) (young later rs)) (still_old r.sending.stamp now later le e))

pub young_twice : {A : Type 0} (now later : ℕ) (rs : List (Recent A)) → now ≤ later →
    young later (young now rs) ≡ young later rs
young_twice now later [] le = refl
young_twice now later (r ∷ rs) le =
    both_young now later r rs le (young_twice now later rs le) (is_young now r.sending) refl

-- each frame is known once, one after another
abbrev pub Once : {A : Type 0} → List (Known A) → Type 0
Once [] = Unit {0}
Once (k ∷ ks) = (known_of k.octets ks ≡ None) × Once ks

both_true : (o : Option ℕ) (b : Bool) → (is_unknown o && b) ≡ true → (o ≡ None) × (b ≡ true)
both_true None b e = (refl, e)
both_true (Some s) b e = absurd (cc e)

pub once_of : {A : Type 0} (ks : List (Known A)) → AreKnownOnce ks → Once ks
once_of [] e = tt
once_of (k ∷ ks) e =
    let both = both_true (known_of k.octets ks) (are_known_once ks) e in (both.0, once_of ks both.1)

pub of_once : {A : Type 0} (ks : List (Known A)) → Once ks → AreKnownOnce ks
of_once [] once = refl
of_once (k ∷ ks) once = ap (λ (o : Option ℕ). is_unknown o && are_known_once ks) once.0 ∙ of_once ks once.1

-- so it stays where a frame is put out
learned_once : {A : Type 0} (new : Known A) (ks : List (Known A)) → Once ks → Once (learned new ks)
learned_once new [] once = (refl, tt)
learned_once new (k ∷ ks) once = elim (same_is k.octets new.octets) [
  | same b e ↦ subst (λ (all : List (Known _)). Once all) (sym (learned_first new k ks b)) (once.0, once.1)
  | other b n ↦ subst (λ (all : List (Known _)). Once all) (sym (learned_next new k ks b))
      (known_other k.octets new ks (λ e. n (sym e)) ∙ once.0, learned_once new ks once.1)
]

pub known_once : {A : Type 0} (new : Known A) (ks : List (Known A)) → AreKnownOnce ks → AreKnownOnce (learned new ks)
known_once new ks once = of_once (learned new ks) (learned_once new ks (once_of ks once))

-- what is known of a frame
abbrev is_kept : {A : Type 0} → (now : ℕ) → Known A → Bool
is_kept now k = is_heard_in_time k.stamp now

-- nothing becomes known where something is forgotten
none_by : {A : Type 0} (now : ℕ) (octets : List ℕ) (k : Known A) (ks : List (Known A)) (b : Bool) →
    bytes_eq k.octets octets ≡ false → known_of octets (young_known now ks) ≡ None →
    known_of octets (cond b (k ∷ young_known now ks) (young_known now ks)) ≡ None
none_by now octets k ks true apart rest = known_next octets k (young_known now ks) apart ∙ rest
none_by now octets k ks false apart rest = rest

none_left : {A : Type 0} (now : ℕ) (octets : List ℕ) (ks : List (Known A)) → known_of octets ks ≡ None →
    known_of octets (young_known now ks) ≡ None
none_left now octets [] e = refl
none_left now octets (k ∷ ks) e = elim (same_is k.octets octets) [
  | same b is ↦ absurd (let no_one : Some k.stamp ≡ None = sym (known_first octets k ks b) ∙ e in cc no_one)
  | other b n ↦ none_by now octets k ks (is_kept now k) b
      (none_left now octets ks (sym (known_next octets k ks b) ∙ e))
]

left_by : {A : Type 0} (now : ℕ) (k : Known A) (ks : List (Known A)) (b : Bool) → known_of k.octets ks ≡ None →
    Once (young_known now ks) → Once (cond b (k ∷ young_known now ks) (young_known now ks))
left_by now k ks true none rest = (none_left now k.octets ks none, rest)
left_by now k ks false none rest = rest

left_once : {A : Type 0} (now : ℕ) (ks : List (Known A)) → Once ks → Once (young_known now ks)
left_once now [] once = tt
left_once now (k ∷ ks) once = left_by now k ks (is_kept now k) once.0 (left_once now ks once.1)

pub still_once : {A : Type 0} (now : ℕ) (ks : List (Known A)) → AreKnownOnce ks → AreKnownOnce (young_known now ks)
still_once now ks once = of_once (young_known now ks) (left_once now ks (once_of ks once))

module _ {A : Type 0} (now : ℕ) (octets : List ℕ) (k : Known A) (ks : List (Known A)) where
  -- the first is of these octets
  here_by : (b : Bool) → bytes_eq k.octets octets ≡ true → known_of octets ks ≡ None → is_kept now k ≡ b →
      KeepsStamp now (known_of octets (k ∷ ks)) (known_of octets (cond b (k ∷ young_known now ks) (young_known now ks)))
  here_by true e once young =
      inl (known_first octets k (young_known now ks) e ∙ sym (known_first octets k ks e))
  here_by false e once old =
      subst (λ (o : Option ℕ). KeepsStamp now o (known_of octets (young_known now ks)))
      (sym (known_first octets k ks e))
      (subst (λ (o : Option ℕ). KeepsStamp now (Some k.stamp) o) (sym (none_left now octets ks once)) (inr (old, tt)))

  -- .. of others
  there_by : (b : Bool) → bytes_eq k.octets octets ≡ false →
      KeepsStamp now (known_of octets ks) (known_of octets (young_known now ks)) →
      KeepsStamp now (known_of octets (k ∷ ks)) (known_of octets (cond b (k ∷ young_known now ks) (young_known now ks)))
  there_by true e rest =
      subst (λ (o : Option ℕ). KeepsStamp now o (known_of octets (k ∷ young_known now ks)))
      (sym (known_next octets k ks e))
      (subst (λ (o : Option ℕ). KeepsStamp now (known_of octets ks) o)
      (sym (known_next octets k (young_known now ks) e)) rest)
  there_by false e rest =
      subst (λ (o : Option ℕ). KeepsStamp now o (known_of octets (young_known now ks)))
      (sym (known_next octets k ks e)) rest

stamps_of : {A : Type 0} (now : ℕ) (ks : List (Known A)) → Once ks → (octets : List ℕ) →
    KeepsStamp now (known_of octets ks) (known_of octets (young_known now ks))
stamps_of now [] once octets = inl refl
stamps_of now (k ∷ ks) once octets = elim (same_is k.octets octets) [
  | same b e ↦ here_by now octets k ks (is_kept now k) b
      (subst (λ (xs : List ℕ). known_of xs ks ≡ None) e once.0) refl
  | other b n ↦ there_by now octets k ks (is_kept now k) b (stamps_of now ks once.1 octets)
]

-- what is known of young frames is kept where that of others is forgotten
pub stamps_kept : {A : Type 0} (now : ℕ) (ks : List (Known A)) → AreKnownOnce ks → KeepsKnown now ks (young_known now ks)
stamps_kept now ks once octets = stamps_of now ks (once_of ks once) octets

-- all that is known is kept
pub known_same : {A : Type 0} (now : ℕ) (ks js : List (Known A)) → js ≡ ks → KeepsKnown now ks js
known_same now ks js e octets = inl (ap (λ (l : List (Known _)). known_of octets l) e)

module _ {A : Type 0} (now : ℕ) (old new : BusState A) where
  known_left : AreKnownOnce old.known →
      ((new.known ≡ old.known) × (length old.known < 2 * length old.recent + 16))
      ⊎ (new.known ≡ young_known now old.known) → KeepsKnown now old.known new.known
  known_left once (inl e) = known_same now old.known new.known e.0
  known_left once (inr e) =
      subst (λ (ks : List (Known A)). KeepsKnown now old.known ks) (sym e) (stamps_kept now old.known once)

  -- a bus forgets so
  pub forgets_so : AreKnownOnce old.known → ForgetsKnown now old new → ForgetsOn now old new
  forgets_so once f = record {
    known = f;
    keeps = record {
      net = f.net;
      ears = f.ears;
      known = known_left once f.known;
      recent = ap (λ (rs : List (Recent A)). young now rs) f.recent;
    };
  }

-- for the calls
pub known_after : {A : Type 0} (new : Known A) (ks js : List (Known A)) → js ≡ learned new ks → AreKnownOnce ks →
    AreKnownOnce js
known_after new ks js e once = subst (λ (all : List (Known _)). AreKnownOnce all) (sym e) (known_once new ks once)

pub known_still : {A : Type 0} (now : ℕ) (ks js : List (Known A)) → js ≡ young_known now ks → AreKnownOnce ks →
    AreKnownOnce js
known_still now ks js e once = subst (λ (all : List (Known _)). AreKnownOnce all) (sym e) (still_once now ks once)
