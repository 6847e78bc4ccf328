-- Frames that are settled are passed over, and stay settled.
use Rattle.std.proofs.Common.{◌≡◌, ◌∙◌, ◌⊎◌, inl, inr, refl, sym, ap, subst, ℕ, zero, suc, ◌-◌, ◌≤◌, ◌==◌, ◌&&◌, ◌||◌, not, Bool, true, false, List, [], ◌∷◌, ◌++◌, length, take, drop, arith}
use Rattle.std.specs.Prelude.{Some, slice_get, slice_set}
use Rattle.std.specs.List.{filter, list_all}
use Rattle.std.proofs.lemmas.List.{length-append, take-append-le}
use Rattle.std.proofs.Math.Seq.{take-append_seam}
use Rattle.bus_traffic.proofs.RememberLaws.{delivered_next}
use Rattle.bus_traffic.proofs.TurnLaws.{keeps_turns}
use Rattle.bus_traffic.proofs.Waits.{not_due}
use Rattle.bus_traffic.specs.Sendings.{delivered, is_due_at, is_heard_at, is_young, young}
use Rattle.bus_traffic.specs.Settling.{ArePassed, AreSettled, is_done, is_done_at}
use Rattle.bus_traffic.specs.declared.ear.Ear.{Ear}
use Rattle.bus_traffic.specs.declared.sending.Recent.{Recent}

first_of : (a b : Bool) → (a && b) ≡ true → a ≡ true
first_of true b e = refl
first_of false b e = e

rest_of : (a b : Bool) → (a && b) ≡ true → b ≡ true
rest_of true b e = e
rest_of false b e = absurd (cc e)

both_of : (a b : Bool) → a ≡ true → b ≡ true → (a && b) ≡ true
both_of true b e f = f
both_of false b e f = e

waits_not : (young same heard : Bool) → (heard || same) ≡ true → (young && (not same && not heard)) ≡ false
waits_not false same heard e = refl
waits_not true true heard e = refl
waits_not true false true e = refl
waits_not true false false e = absurd (cc e)

-- what all ears pass, the ear at a place does
at_ear : (p : Ear → Bool) (ears : List Ear) (place : ℕ) (ear : Ear) → list_all p ears ≡ true →
    slice_get ears place ≡ Some ear → p ear ≡ true
at_ear p [] place ear all there = absurd (cc there)
at_ear p (e ∷ es) zero ear all there =
    let same : e ≡ ear = cc there in subst (λ x. p x ≡ true) same (first_of (p e) (list_all p es) all)
at_ear p (e ∷ es) (suc place) ear all there = at_ear p es place ear (rest_of (p e) (list_all p es) all) there

-- .. so a frame that is settled isn't due there
not_due_there : {A : Type 0} (now : ℕ) (octets : List ℕ) (ears : List Ear) (place : ℕ) (ear : Ear) (r : Recent A) →
    slice_get ears place ≡ Some ear → is_done ears r ≡ true → is_due_at now ear.address octets r ≡ false
not_due_there now octets ears place ear r there done = sym (not_due now ear.address octets r
    (waits_not (is_young now r.sending) (ear.address == r.sending.sender) (is_heard_at ear.address r)
    (at_ear (λ e. is_done_at r e) ears place ear done there)))

passed_in : {A : Type 0} (now : ℕ) (octets : List ℕ) (ears : List Ear) (place : ℕ) (ear : Ear) (rs : List (Recent A))
    (count : ℕ) → slice_get ears place ≡ Some ear → list_all (λ r. is_done ears r) (take count rs) ≡ true →
    ArePassed now ear.address octets rs count
passed_in now octets ears place ear rs zero there done = refl
passed_in now octets ears place ear [] (suc count) there done = refl
passed_in now octets ears place ear (r ∷ rs) (suc count) there done =
    ap (λ xs. r ∷ xs) (passed_in now octets ears place ear rs count there
    (rest_of (is_done ears r) (list_all (λ r. is_done ears r) (take count rs)) done))
    ∙ sym (delivered_next now ear.address octets r rs (not_due_there now octets ears place ear r there
    (first_of (is_done ears r) (list_all (λ r. is_done ears r) (take count rs)) done)))

-- what is delivered at an ear is none of the frames that are settled
pub are_passed : {A : Type 0} (now : ℕ) (octets : List ℕ) (ears : List Ear) (place : ℕ) (ear : Ear)
    (rs : List (Recent A)) (count : ℕ) → slice_get ears place ≡ Some ear → AreSettled ears rs count →
    ArePassed now ear.address octets rs count
are_passed now octets ears place ear rs count there s = passed_in now octets ears place ear rs count there s.done

short : {X : Type 0} (n : ℕ) (xs : List X) → n ≤ length xs → length (take n xs) ≡ n
short zero xs le = refl
short (suc n) [] le = absurd (omega (arith, le))
short (suc n) (x ∷ xs) le = ap suc (short n xs (omega (arith, le)))

front_of : {X : Type 0} (n : ℕ) (xs ys : List X) → n ≤ length xs → take n (take n xs ++ ys) ≡ take n xs
front_of n xs ys le =
    ap (λ k. take k (take n xs ++ ys)) (sym (short n xs le)) ∙ take-append_seam (take n xs) ys

-- they are settled once it is delivered
pub settled_delivered : {A : Type 0} (now address : ℕ) (octets : List ℕ) (ears : List Ear) (rs : List (Recent A))
    (count : ℕ) → AreSettled ears rs count → ArePassed now address octets rs count →
    AreSettled ears (delivered now address octets rs) count
settled_delivered now address octets ears rs count s passed = record {
  within = subst (λ n. count ≤ n) (sym ((keeps_turns now address octets rs).long)) s.within;
  done = ap (λ xs. list_all (λ r. is_done ears r) xs) (ap (λ xs. take count xs) (sym passed)
      ∙ front_of count rs (delivered now address octets (drop count rs)) s.within) ∙ s.done;
}

done_still : {A : Type 0} (r : Recent A) (ears : List Ear) (place : ℕ) (old new : Ear) →
    slice_get ears place ≡ Some old → new.address ≡ old.address → is_done (slice_set ears place new) r ≡ is_done ears r
done_still r [] place old new there same = refl
done_still r (e ∷ es) zero old new there same =
    let is : old ≡ e = cc there in
    ap (λ (a : ℕ). (is_heard_at a r || (a == r.sending.sender)) && is_done es r) (same ∙ ap (λ (x : Ear). x.address) is)
done_still r (e ∷ es) (suc place) old new there same =
    ap (λ b. is_done_at r e && b) (done_still r es place old new there same)

all_still : {A : Type 0} (rs : List (Recent A)) (ears : List Ear) (place : ℕ) (old new : Ear) →
    slice_get ears place ≡ Some old → new.address ≡ old.address →
    list_all (λ r. is_done (slice_set ears place new) r) rs ≡ list_all (λ r. is_done ears r) rs
all_still [] ears place old new there same = refl
all_still (r ∷ rs) ears place old new there same =
    ap (λ b. b && list_all (λ r. is_done (slice_set ears place new) r) rs) (done_still r ears place old new there same)
    ∙ ap (λ b. is_done ears r && b) (all_still rs ears place old new there same)

-- .. and where an ear changes, but for its address
pub settled_still : {A : Type 0} (ears : List Ear) (rs : List (Recent A)) (count place : ℕ) (old new : Ear) →
    AreSettled ears rs count → slice_get ears place ≡ Some old → new.address ≡ old.address →
    AreSettled (slice_set ears place new) rs count
settled_still ears rs count place old new s there same = record {
  within = s.within;
  done = all_still (take count rs) ears place old new there same ∙ s.done;
}

fewer_by : {X : Type 0} (p : X → Bool) (x : X) (xs : List X) (b : Bool) → p x ≡ b →
    length (filter p xs) ≤ length xs → length (filter p (x ∷ xs)) ≤ suc (length xs)
fewer_by p x xs true e le = rw (e) (omega (arith, le))
fewer_by p x xs false e le = rw (e) (omega (arith, le))

fewer : {X : Type 0} (p : X → Bool) (xs : List X) → length (filter p xs) ≤ length xs
fewer p [] = omega arith
fewer p (x ∷ xs) = fewer_by p x xs (p x) refl (fewer p xs)

none_taken : {X : Type 0} (n : ℕ) → take {A = X} n [] ≡ []
none_taken zero = refl
none_taken (suc n) = refl

or_none_by : (n d : ℕ) → (suc n - d ≡ suc (n - d)) ⊎ (suc n - d ≡ 0) →
    (suc (suc n) - suc d ≡ suc (suc n - suc d)) ⊎ (suc (suc n) - suc d ≡ 0)
or_none_by n d (inl e) = inl (omega (arith, e))
or_none_by n d (inr e) = inr (omega (arith, e))

left_or_none : (n d : ℕ) → (suc n - d ≡ suc (n - d)) ⊎ (suc n - d ≡ 0)
left_or_none n zero = inl (omega arith)
left_or_none zero (suc d) = inr (omega arith)
left_or_none (suc n) (suc d) = or_none_by n d (left_or_none n d)

taken : {X : Type 0} (q : X → Bool) (x : X) (xs : List X) (n d : ℕ) → q x ≡ true →
    list_all q (take (n - d) xs) ≡ true → (suc n - d ≡ suc (n - d)) ⊎ (suc n - d ≡ 0) →
    list_all q (take (suc n - d) (x ∷ xs)) ≡ true
taken q x xs n d first rest (inl e) =
    ap (λ m. list_all q (take m (x ∷ xs))) e ∙ both_of (q x) (list_all q (take (n - d) xs)) first rest
taken q x xs n d first rest (inr e) = ap (λ m. list_all q (take m (x ∷ xs))) e

front_by : {X : Type 0} (p q : X → Bool) (x : X) (xs : List X) (n : ℕ) (b : Bool) → p x ≡ b → q x ≡ true →
    list_all q (take (n - (length xs - length (filter p xs))) (filter p xs)) ≡ true →
    list_all q (take (suc n - (suc (length xs) - length (filter p (x ∷ xs)))) (filter p (x ∷ xs))) ≡ true
front_by p q x xs n true e first rest =
    let same : suc n - (suc (length xs) - suc (length (filter p xs))) ≡ suc n - (length xs - length (filter p xs)) =
    omega arith in
    rw (e) (ap (λ m. list_all q (take m (x ∷ filter p xs))) same
    ∙ taken q x (filter p xs) n (length xs - length (filter p xs)) first rest
    (left_or_none n (length xs - length (filter p xs))))
front_by p q x xs n false e first rest =
    let le = fewer p xs in
    let less : suc n - (suc (length xs) - length (filter p xs)) ≡ n - (length xs - length (filter p xs)) =
    omega (arith, le) in
    rw (e) (ap (λ m. list_all q (take m (filter p xs))) less ∙ rest)

-- what all of so many in front pass, all of so many less do in front of those that a test leaves, as it doesn't leave
kept_front : {X : Type 0} (p q : X → Bool) (xs : List X) (count : ℕ) → list_all q (take count xs) ≡ true →
    list_all q (take (count - (length xs - length (filter p xs))) (filter p xs)) ≡ true
kept_front p q [] count all = ap (λ xs. list_all q xs) (none_taken (count - (0 - 0)))
kept_front p q (x ∷ xs) zero all =
    let none : 0 - (suc (length xs) - length (filter p (x ∷ xs))) ≡ 0 = omega arith in
    ap (λ n. list_all q (take n (filter p (x ∷ xs)))) none
kept_front p q (x ∷ xs) (suc n) all = front_by p q x xs n (p x) refl (first_of (q x) (list_all q (take n xs)) all)
    (kept_front p q xs n (rest_of (q x) (list_all q (take n xs)) all))

-- so many less are settled still, as are forgotten, where a frame is put out behind them
pub settled_put : {A : Type 0} (now : ℕ) (new : Recent A) (ears : List Ear) (rs after : List (Recent A))
    (count before kept left : ℕ) → AreSettled ears rs count → after ≡ young now rs ++ new ∷ [] → before ≡ length rs →
    kept ≡ length after - 1 → left ≡ count - (before - kept) → AreSettled ears after left
settled_put now new ears rs after count before kept left s is of_rs of_after of_count =
    let le = fewer (λ r. is_young now r.sending) rs in
    let within = s.within in
    let long = ap (λ xs. length xs) is ∙ length-append (young now rs) (new ∷ []) in
    let few : left ≤ length (young now rs) = omega (arith, le, within, long, of_rs, of_after, of_count) in
    let less : left ≡ count - (length rs - length (young now rs)) =
    omega (arith, le, within, long, of_rs, of_after, of_count) in
    record {
      within = omega (arith, few, long);
      done = ap (λ xs. list_all (λ r. is_done ears r) (take left xs)) is
          ∙ ap (λ xs. list_all (λ r. is_done ears r) xs) (take-append-le left (young now rs) (new ∷ []) few)
          ∙ ap (λ n. list_all (λ r. is_done ears r) (take n (young now rs))) less
          ∙ kept_front (λ r. is_young now r.sending) (λ r. is_done ears r) rs count s.done;
    }
