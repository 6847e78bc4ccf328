-- The last issue of a client under an invoke ID among more of them, and among others in the place of some.
use Rattle.std.proofs.Common.{◌≡◌, ◌∙◌, refl, sym, ap, subst, arith, ℕ, zero, suc, ◌+◌, Bool, true, false, List, [], ◌∷◌, ◌++◌, Option, Some, None, length}
use Rattle.std.proofs.lemmas.Bool.{eqb-true}
use Rattle.std.proofs.lemmas.List.{length-append, length-replicate}
use Rattle.std.specs.Prelude.{◌&&◌, ◌==◌, cond, replicate}
use Rattle.carry_ends.specs.carry_world.PlainWorld.{Key, last_key, last_key_from}
use Rattle.history.specs.Lists.{first_of}
use Rattle.npdu.proofs.Stations.{one_station}
use Rattle.npdu.specs.Mac.{same_station}
use Rattle.npdu.specs.declared.mac.Station.{Station}
use Rattle.world_log.specs.Issues.{KeepsKeys}

abbrev pub under : Station → ℕ → Key → Bool
under c id k = same_station k.client c && (k.invoke_id == id)

-- an issue behind which there is none under its invoke ID is the last
pub last_in : (n : ℕ) (c : Station) (id : ℕ) (ks : List Key) (k : Key) (more : List Key) →
    ((m : ℕ) → last_key_from m c id more ≡ None) → under c id k ≡ true →
    last_key_from n c id (ks ++ k ∷ more) ≡ Some (n + length ks)
last_in n c id [] k more none e =
    let here : n ≡ n + 0 = omega arith in
    ap (λ (o : Option ℕ). first_of o (cond (under c id k) (Some n) None)) (none (suc n))
    ∙ ap (λ (b : Bool). first_of None (cond b (Some n) None)) e ∙ ap (λ (m : ℕ). Some m) here
last_in n c id (x ∷ ks) k more none e =
    let later : suc n + length ks ≡ n + suc (length ks) = omega arith in
    ap (λ (o : Option ℕ). first_of o (cond (under c id x) (Some n) None)) (last_in (suc n) c id ks k more none e)
    ∙ ap (λ (m : ℕ). Some m) later

other_last : (n : ℕ) (c : Station) (id : ℕ) (ks : List Key) (k : Key) → under c id k ≡ false →
    last_key_from n c id (ks ++ k ∷ []) ≡ last_key_from n c id ks
other_last n c id [] k e = ap (λ (b : Bool). first_of None (cond b (Some n) None)) e
other_last n c id (x ∷ ks) k e =
    ap (λ (o : Option ℕ). first_of o (cond (under c id x) (Some n) None)) (other_last (suc n) c id ks k e)

-- .. one more
pub last_more : (c : Station) (id : ℕ) (ks : List Key) (k : Key) →
    last_key c id (ks ++ k ∷ []) ≡ cond (under c id k) (Some (length ks)) (last_key c id ks)
last_more c id ks k = by (under c id k) refl
  where
    by : (b : Bool) → under c id k ≡ b →
        last_key c id (ks ++ k ∷ []) ≡ cond (under c id k) (Some (length ks)) (last_key c id ks)
    by true e =
        let count : 0 + length ks ≡ length ks = omega arith in
        last_in 0 c id ks k [] (λ m. refl) e ∙ ap (λ (m : ℕ). Some m) count
        ∙ sym (ap (λ (b : Bool). cond b (Some (length ks)) (last_key c id ks)) e)
    by false e = other_last 0 c id ks k e ∙ sym (ap (λ (b : Bool). cond b (Some (length ks)) (last_key c id ks)) e)

first_none : (o : Option ℕ) (b : Bool) (n : ℕ) → first_of o (cond b (Some n) None) ≡ None → (o ≡ None) × (b ≡ false)
first_none (Some x) b n e = absurd (cc e)
first_none None true n e = absurd (cc e)
first_none None false n e = (refl, refl)

-- where none is under an invoke ID, none is, whatever number the first has
pub none_any : (n m : ℕ) (c : Station) (id : ℕ) (ks : List Key) → last_key_from n c id ks ≡ None →
    last_key_from m c id ks ≡ None
none_any n m c id [] e = refl
none_any n m c id (k ∷ ks) e =
    let p = first_none (last_key_from (suc n) c id ks) (under c id k) n e in
    ap (λ (o : Option ℕ). first_of o (cond (under c id k) (Some m) None)) (none_any (suc n) (suc m) c id ks p.0)
    ∙ ap (λ (b : Bool). first_of None (cond b (Some m) None)) p.1

-- an issue under the invoke ID of this one is among these
pub record Occurs (k : Key) (ks : List Key) : Type 0 where
  pub some : (n : ℕ) → last_key_from n k.client k.invoke_id ks ≡ None → ⊥

both_true : (a b : Bool) → (a && b) ≡ true → (a ≡ true) × (b ≡ true)
both_true true b e = (refl, e)
both_true false b e = absurd (cc e)

same_under : (n : ℕ) (c : Station) (id : ℕ) (k : Key) (ks : List Key) → under c id k ≡ true →
    last_key_from n c id ks ≡ None → last_key_from n k.client k.invoke_id ks ≡ None
same_under n c id k ks e none =
    let p = both_true (same_station k.client c) (k.invoke_id == id) e in
    ap (λ (x : Station). last_key_from n x k.invoke_id ks) ((one_station k.client c).same p.0)
    ∙ ap (λ (i : ℕ). last_key_from n c i ks) (eqb-true k.invoke_id id p.1) ∙ none

first_stays : (o : Option ℕ) (b : Bool) (n : ℕ) → (b ≡ true → o ≡ None → ⊥) → first_of o (cond b (Some n) None) ≡ o
first_stays (Some x) b n h = refl
first_stays None true n h = absurd (h refl refl)
first_stays None false n h = refl

-- issues that a later one of their key replaced are of no account
pub replaced : (count n : ℕ) (c : Station) (id : ℕ) (k : Key) (ks : List Key) → Occurs k ks →
    last_key_from n c id (replicate count k ++ ks) ≡ last_key_from (n + count) c id ks
replaced zero n c id k ks occurs = ap (λ (m : ℕ). last_key_from m c id ks) (let e : n ≡ n + 0 = omega arith in e)
replaced (suc count) n c id k ks occurs =
    let later : suc n + count ≡ n + suc count = omega arith in
    ap (λ (o : Option ℕ). first_of o (cond (under c id k) (Some n) None)) (replaced count (suc n) c id k ks occurs)
    ∙ first_stays (last_key_from (suc n + count) c id ks) (under c id k) n
    (λ e none. occurs.some (suc n + count) (same_under (suc n + count) c id k ks e none))
    ∙ ap (λ (m : ℕ). last_key_from m c id ks) later

-- what is the same behind is the same behind more
pub behind_same : (c : Station) (id : ℕ) (front xs ys : List Key) →
    ((m : ℕ) → last_key_from m c id xs ≡ last_key_from m c id ys) → (n : ℕ) →
    last_key_from n c id (front ++ xs) ≡ last_key_from n c id (front ++ ys)
behind_same c id [] xs ys same n = same n
behind_same c id (k ∷ front) xs ys same n =
    ap (λ (o : Option ℕ). first_of o (cond (under c id k) (Some n) None)) (behind_same c id front xs ys same (suc n))

-- an issue is among those that it stands in
some_first : (o p : Option ℕ) → first_of o p ≡ None → (p ≡ None → ⊥) → ⊥
some_first (Some x) p e h = absurd (cc e)
some_first None p e h = h e

pub occurs_in : (front : List Key) (k : Key) (ks : List Key) → under k.client k.invoke_id k ≡ true →
    Occurs k (front ++ k ∷ ks)
occurs_in front k ks self = record { some = λ n e. in_it front n e }
  where
    in_it : (xs : List Key) (n : ℕ) → last_key_from n k.client k.invoke_id (xs ++ k ∷ ks) ≡ None → ⊥
    in_it [] n e = some_first (last_key_from (suc n) k.client k.invoke_id ks)
        (cond (under k.client k.invoke_id k) (Some n) None) e
        (λ f. absurd (cc (sym (ap (λ (b : Bool). cond b (Some n) None) self) ∙ f)))
    in_it (x ∷ xs) n e = in_it xs (suc n)
        ((first_none (last_key_from (suc n) k.client k.invoke_id (xs ++ k ∷ ks)) (under k.client k.invoke_id x) n e).0)

-- so others may stand in their place
pub refilled : (front : List Key) (count : ℕ) (k z : Key) (ks : List Key) → Occurs k ks → Occurs z ks →
    KeepsKeys (front ++ (replicate count k ++ ks)) (front ++ (replicate count z ++ ks))
refilled front count k z ks occurs other = record {
  count = length-append front (replicate count z ++ ks)
      ∙ ap (λ (n : ℕ). length front + n) (as_many z ∙ sym (as_many k))
      ∙ sym (length-append front (replicate count k ++ ks));
  last = λ c id. behind_same c id front (replicate count z ++ ks) (replicate count k ++ ks)
      (λ m. replaced count m c id z ks other ∙ sym (replaced count m c id k ks occurs)) 0;
}
  where
    as_many : (x : Key) → length (replicate count x ++ ks) ≡ count + length ks
    as_many x = length-append (replicate count x) ks ∙ ap (λ (n : ℕ). n + length ks) (length-replicate count x)

pub keeps_same : (ks : List Key) → KeepsKeys ks ks
keeps_same ks = record { count = refl; last = λ c id. refl }

pub keeps_on : (xs ys zs : List Key) → KeepsKeys xs ys → KeepsKeys ys zs → KeepsKeys xs zs
keeps_on xs ys zs p q = record { count = q.count ∙ p.count; last = λ c id. q.last c id ∙ p.last c id }
