-- The last issues are known where all other keys are forgotten.
use Rattle.std.proofs.Common.{◌≡◌, ◌∙◌, ◌⊎◌, inl, inr, refl, sym, ap, ℕ, suc, Bool, true, false, cond, List, [], ◌∷◌, length, Option, Some, None}
use Rattle.std.proofs.lemmas.Bool.{and_parts, eq-eqb, eqb-true}
use Rattle.std.specs.Prelude.{◌==◌, if◌then◌else◌}
use Rattle.history.specs.Lists.{first_of}
use Rattle.npdu.proofs.Stations.{one_station}
use Rattle.npdu.specs.Mac.{same_station}
use Rattle.npdu.specs.declared.mac.Station.{Station}
use Rattle.world.specs.carry_world.PlainWorld.{Key, last_key, last_key_from}
use Rattle.world_past.proofs.ItemLaws.{true_false}
use Rattle.world_past.proofs.KeyLaws.{under}
use Rattle.world_past.specs.Forgetting.{is_last, keys_from, keys_kept, newest_of}
use Rattle.world.specs.world_log.Issues.{KeepsKeys}

either_way : (b : Bool) → (b ≡ true) ⊎ (b ≡ false)
either_way true = inl refl
either_way false = inr refl

-- this is the last of these keys, if there are any
abbrev IsNewest : Key → List Key → Type 0
IsNewest newest [] = Unit {0}
IsNewest newest (k ∷ []) = k ≡ newest
IsNewest newest (k ∷ x ∷ xs) = IsNewest newest (x ∷ xs)

newest_is : (k : Key) (ks : List Key) → IsNewest (newest_of k ks) (k ∷ ks)
newest_is k [] = refl
newest_is k (x ∷ xs) = newest_is x xs

some_none : (n : ℕ) → Some n ≡ None → ⊥
some_none n e = cc

both_none : (b : Bool) (n : ℕ) (o : Option ℕ) → b ≡ true → first_of o (cond b (Some n) None) ≡ None → ⊥
both_none b n None t e = some_none n (sym (ap (λ (c : Bool). cond c (Some n) None) t) ∙ e)
both_none b n (Some m) t e = some_none m e

rest_none : (o p : Option ℕ) → first_of o p ≡ None → o ≡ None
rest_none None p e = refl
rest_none (Some m) p e = absurd (some_none m e)

-- it has a last issue
newest_last : (newest : Key) (n : ℕ) (client : Station) (id : ℕ) (k : Key) (ks : List Key) →
    IsNewest newest (k ∷ ks) → under client id newest ≡ true → last_key_from n client id (k ∷ ks) ≡ None → ⊥
newest_last newest n client id k [] is t e =
    both_none (under client id k) n None (ap (λ (x : Key). under client id x) is ∙ t) e
newest_last newest n client id k (x ∷ xs) is t e = newest_last newest (suc n) client id x xs is t
    (rest_none (last_key_from (suc n) client id (x ∷ xs)) (cond (under client id k) (Some n) None) e)

chosen : (b : Bool) (k newest : Key) → k ≡ newest → (if b then k else newest) ≡ k
chosen true k newest e = refl
chosen false k newest e = sym e

module _ (all : List Key) (newest : Key) where
  -- the last issues are known
  abbrev AreLast : ℕ → List Key → Type 0
  AreLast n ks = (client : Station) (id m : ℕ) → last_key_from n client id ks ≡ Some m → last_key client id all ≡ Some m

  abbrev kept_at : ℕ → Key → Key
  kept_at n k = if is_last n (last_key k.client k.invoke_id all) then k else newest

  module _ (n : ℕ) (k x : Key) (xs : List Key) (last : AreLast n (k ∷ x ∷ xs)) (is : IsNewest newest (x ∷ xs))
      (client : Station) (id : ℕ) where
    -- no key of an issue that has none behind it is forgotten
    not_under : last_key_from (suc n) client id (x ∷ xs) ≡ None →
        is_last n (last_key k.client k.invoke_id all) ≡ false → under client id k ≡ true → ⊥
    not_under none other t =
        let p = and_parts (same_station k.client client) (k.invoke_id == id) t in
        let station = one_station k.client client in
        let same : k.client ≡ client = station.same p.0 in
        let number : k.invoke_id ≡ id = eqb-true k.invoke_id id p.1 in
        let at = last client id n
        (ap (λ (o : Option ℕ). first_of o (cond (under client id k) (Some n) None)) none
        ∙ ap (λ (b : Bool). cond b (Some n) None) t) in
        true_false (is_last n (last_key k.client k.invoke_id all))
        (ap (λ (s : Station). is_last n (last_key s k.invoke_id all)) same
        ∙ ap (λ (i : ℕ). is_last n (last_key client i all)) number ∙ ap (λ (o : Option ℕ). is_last n o) at
        ∙ eq-eqb n n refl) other

    under_false : (y : Key) → (under client id y ≡ true → ⊥) →
        (under client id y ≡ true) ⊎ (under client id y ≡ false) → under client id y ≡ false
    under_false y not (inl t) = absurd (not t)
    under_false y not (inr f) = f

    by_choice : (b : Bool) → is_last n (last_key k.client k.invoke_id all) ≡ b →
        last_key_from (suc n) client id (x ∷ xs) ≡ None → under client id (kept_at n k) ≡ under client id k
    by_choice true e none = ap (λ (b : Bool). under client id (if b then k else newest)) e
    by_choice false e none = ap (λ (b : Bool). under client id (if b then k else newest)) e
        ∙ under_false newest (λ t. newest_last newest (suc n) client id x xs is t none)
        (either_way (under client id newest))
        ∙ sym (under_false k (λ t. not_under none e t) (either_way (under client id k)))

    by_rest : (o : Option ℕ) → last_key_from (suc n) client id (x ∷ xs) ≡ o →
        first_of o (cond (under client id (kept_at n k)) (Some n) None)
        ≡ first_of o (cond (under client id k) (Some n) None)
    by_rest (Some m) e = refl
    by_rest None e = ap (λ (b : Bool). cond b (Some n) None)
        (by_choice (is_last n (last_key k.client k.invoke_id all)) refl e)

  same_from : (n : ℕ) (ks : List Key) → AreLast n ks → IsNewest newest ks → (client : Station) (id : ℕ) →
      last_key_from n client id (keys_from n all newest ks) ≡ last_key_from n client id ks
  same_from n [] last is client id = refl
  same_from n (k ∷ []) last is client id = ap (λ (y : Key). first_of None (cond (under client id y) (Some n) None))
      (chosen (is_last n (last_key k.client k.invoke_id all)) k newest is)
  same_from n (k ∷ x ∷ xs) last is client id =
      ap (λ (o : Option ℕ). first_of o (cond (under client id (kept_at n k)) (Some n) None))
      (same_from (suc n) (x ∷ xs) (λ c i m e. last c i m
      (ap (λ (o : Option ℕ). first_of o (cond (under c i k) (Some n) None)) e)) is client id)
      ∙ by_rest n k x xs last is client id (last_key_from (suc n) client id (x ∷ xs)) refl

  long_from : (n : ℕ) (ks : List Key) → length (keys_from n all newest ks) ≡ length ks
  long_from n [] = refl
  long_from n (k ∷ ks) = ap (λ (m : ℕ). suc m) (long_from (suc n) ks)

pub keys_less : (ks : List Key) → KeepsKeys ks (keys_kept ks)
keys_less [] = record { count = refl; last = λ client id. refl }
keys_less (k ∷ ks) = record {
  count = long_from (k ∷ ks) (newest_of k ks) 0 (k ∷ ks);
  last = λ client id. same_from (k ∷ ks) (newest_of k ks) 0 (k ∷ ks) (λ c i m e. e) (newest_is k ks) client id;
}
