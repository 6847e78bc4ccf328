-- Buses of which one is changed at its place.
use Rattle.std.proofs.Common.{◌≡◌, ℕ, zero, suc, ◌+◌, ◌<◌, ◌≤◌, true, false, List, [], ◌∷◌, ◌++◌, length, map, take, drop, refl, ap, sym, subst, ◌∙◌, arith}
use Rattle.std.specs.Prelude.{get_or, slice_set, ◌==◌, if◌then◌else◌}
use Rattle.std.specs.List.{AllByRecursion}
use Rattle.std.proofs.Math.Seq.{map-set_same}
use Rattle.std.proofs.lemmas.List.{map-append, set-get_or, take_more_set}
use Rattle.std.proofs.lemmas.List.Edits.{map_over_more}
use Rattle.bus_traffic.specs.Bus.{BusState, HasRoom, bus_of, put_out}
use Rattle.bus_traffic.specs.declared.bus.Bus.{Bus}
use Rattle.bus_traffic.specs.declared.sending.Sending.{Sending}
use Rattle.buses.specs.Puts.{BusesState, put_at}

abbrev pub of_both : {A : Type 0} → List (BusState A) → (frames : ℕ) → BusesState A
of_both bs frames = record { buses = bs; frames = frames }

-- what holds of all holds of the one at a place
pub all_at : {X : Type 0} (P : X → Type 0) (xs : List X) (i : ℕ) (x : X) → AllByRecursion P xs → i < length xs
    → get_or xs i x ≡ x → P x
all_at P [] i x h lt e = absurd (omega arith)
all_at P (y ∷ ys) zero x h lt e = subst P e h.0
all_at P (y ∷ ys) (suc i) x h lt e = all_at P ys i x h.1 (omega arith) e

-- what holds of each holds where one that it holds of is put in place
pub all_set : {X : Type 0} (P : X → Type 0) (xs : List X) (i : ℕ) (y : X) → AllByRecursion P xs → P y
    → AllByRecursion P (slice_set xs i y)
all_set P [] i y h p = h
all_set P (x ∷ xs) zero y h p = (p, h.1)
all_set P (x ∷ xs) (suc i) y h p = (h.0, all_set P xs i y h.1 p)

-- what holds of each where another thing does
pub all_if : {X : Type 0} (P Q : X → Type 0) (xs : List X) → ((x : X) → P x → Q x) → AllByRecursion P xs
    → AllByRecursion Q xs
all_if P Q [] on h = tt
all_if P Q (x ∷ xs) on h = (on x h.0, all_if P Q xs on h.1)

all_more : {X : Type 0} (P : X → Type 0) (xs : List X) (y : X) → AllByRecursion P xs → P y
    → AllByRecursion P (xs ++ y ∷ [])
all_more P [] y h p = (p, tt)
all_more P (x ∷ xs) y h p = (h.0, all_more P xs y h.1 p)

pub less_room : {A : Type 0} (n : ℕ) (b : Bus A) → HasRoom (n + 1) b → HasRoom n b
less_room n b h = let k = h.known in let r = h.recent in
    record { known = omega (arith, k); recent = omega (arith, r) }

-- one more has room
pub one_has_room : {A : Type 0} (count i : ℕ) (xs : List (Bus A)) (y : Bus A) → i < length xs
    → AllByRecursion (λ o. HasRoom count o) (take i xs) → HasRoom count y
    → AllByRecursion (λ o. HasRoom count o) (take (i + 1) (slice_set xs i y))
one_has_room count i xs y lt h p = subst (λ ys. AllByRecursion (λ o. HasRoom count o) ys) (sym (take_more_set xs i y lt))
    (all_more (λ o. HasRoom count o) (take i xs) y h p)

-- one is replaced in which the same is known
pub same_set : {A : Type 0} (xs : List (Bus A)) (i : ℕ) (x y : Bus A) → get_or xs i x ≡ x → bus_of y ≡ bus_of x
    → map (λ o. bus_of o) (slice_set xs i y) ≡ map (λ o. bus_of o) xs
same_set xs i x y e same = map-set_same (λ o. bus_of o) xs i y x (same ∙ ap (λ o. bus_of o) (sym e))

pub put_first : {A : Type 0} (now net : ℕ) (s : Sending A) (b : BusState A) (bs : List (BusState A)) → (b.net == net) ≡ true
    → put_at now net s (b ∷ bs) ≡ put_out now s b ∷ bs
put_first now net s b bs e = ap (λ t. if t then put_out now s b ∷ bs else b ∷ put_at now net s bs) e

pub put_next : {A : Type 0} (now net : ℕ) (s : Sending A) (b : BusState A) (bs : List (BusState A)) → (b.net == net) ≡ false
    → put_at now net s (b ∷ bs) ≡ b ∷ put_at now net s bs
put_next now net s b bs e = ap (λ t. if t then put_out now s b ∷ bs else b ∷ put_at now net s bs) e

abbrev pub AreOther : {A : Type 0} → (net : ℕ) → List (Bus A) → Type 0
AreOther net bs = AllByRecursion (λ b. (b.net == net) ≡ false) bs

other_suc : {A : Type 0} (net i : ℕ) (xs : List (Bus A)) (x : Bus A) → i < length xs → get_or xs i x ≡ x
    → (x.net == net) ≡ false → AreOther net (take i xs) → AreOther net (take (suc i) xs)
other_suc net i [] x lt e f h = absurd (omega arith)
other_suc net zero (y ∷ ys) x lt e f h = (ap (λ o. o.net == net) e ∙ f, tt)
other_suc net (suc i) (y ∷ ys) x lt e f h = (h.0, other_suc net i ys x (omega arith) e f h.1)

-- one more has another number
pub other_more : {A : Type 0} (net i : ℕ) (xs : List (Bus A)) (x : Bus A) → i < length xs → get_or xs i x ≡ x
    → (x.net == net) ≡ false → AreOther net (take i xs) → AreOther net (take (i + 1) xs)
other_more net i xs x lt e f h = let more : suc i ≡ i + 1 = omega arith in
    subst (λ n. AreOther net (take n xs)) more (other_suc net i xs x lt e f h)

-- the first of the number is put in place
pub put_here : {A : Type 0} (now net : ℕ) (s : Sending A) (xs : List (Bus A)) (i : ℕ) (x y : Bus A) → i < length xs
    → get_or xs i x ≡ x → (x.net == net) ≡ true → AreOther net (take i xs) → bus_of y ≡ put_out now s (bus_of x)
    → map (λ o. bus_of o) (slice_set xs i y) ≡ put_at now net s (map (λ o. bus_of o) xs)
put_here now net s [] i x y lt e t h same = absurd (omega arith)
put_here now net s (z ∷ zs) zero x y lt e t h same =
    ap (λ o. o ∷ map (λ o. bus_of o) zs) (same ∙ ap (λ o. put_out now s (bus_of o)) (sym e))
    ∙ sym (put_first now net s (bus_of z) (map (λ o. bus_of o) zs) (ap (λ o. o.net == net) e ∙ t))
put_here now net s (z ∷ zs) (suc i) x y lt e t h same =
    ap (λ os. bus_of z ∷ os) (put_here now net s zs i x y (omega arith) e t h.1 same)
    ∙ sym (put_next now net s (bus_of z) (map (λ o. bus_of o) zs) h.0)

-- where none has the number all stays
pub put_nowhere : {A : Type 0} (now net n : ℕ) (s : Sending A) (xs : List (Bus A)) → length xs ≤ n → AreOther net (take n xs)
    → map (λ o. bus_of o) xs ≡ put_at now net s (map (λ o. bus_of o) xs)
put_nowhere now net n s [] le h = refl
put_nowhere now net zero s (z ∷ zs) le h = absurd (omega arith)
put_nowhere now net (suc n) s (z ∷ zs) le h =
    ap (λ os. bus_of z ∷ os) (put_nowhere now net n s zs (omega arith) h.1)
    ∙ sym (put_next now net s (bus_of z) (map (λ o. bus_of o) zs) h.0)

pub less_room_each : {A : Type 0} (n : ℕ) (xs : List (Bus A)) → AllByRecursion (λ o. HasRoom (n + 1) o) xs
    → AllByRecursion (λ o. HasRoom n o) xs
less_room_each n xs h = all_if (λ o. HasRoom (n + 1) o) (λ o. HasRoom n o) xs (λ b r. less_room n b r) h

-- there is room for the others where one is put out
pub room_left : {A : Type 0} (n i : ℕ) (xs : List (Bus A)) (x y : Bus A) → i < length xs → get_or xs i x ≡ x
    → (HasRoom (n + 1) x → HasRoom n y) → AllByRecursion (λ o. HasRoom (n + 1) o) xs
    → AllByRecursion (λ o. HasRoom n o) (slice_set xs i y)
room_left n i xs x y lt e on h = all_set (λ o. HasRoom n o) xs i y (less_room_each n xs h)
    (on (all_at (λ o. HasRoom (n + 1) o) xs i x h lt e))

-- .. and as much room as before where one keeps its own
pub room_kept : {A : Type 0} (n i : ℕ) (xs : List (Bus A)) (x y : Bus A) → i < length xs → get_or xs i x ≡ x
    → (HasRoom n x → HasRoom n y) → AllByRecursion (λ o. HasRoom n o) xs
    → AllByRecursion (λ o. HasRoom n o) (slice_set xs i y)
room_kept n i xs x y lt e on h = all_set (λ o. HasRoom n o) xs i y h
    (on (all_at (λ o. HasRoom n o) xs i x h lt e))

-- what holds of so many as there are holds of all
pub all_taken : {A : Type 0} (count n : ℕ) (xs : List (Bus A)) → length xs ≤ n
    → AllByRecursion (λ o. HasRoom count o) (take n xs) → AllByRecursion (λ o. HasRoom count o) xs
all_taken count n [] le h = tt
all_taken count zero (x ∷ xs) le h = absurd (omega arith)
all_taken count (suc n) (x ∷ xs) le h = (h.0, all_taken count n xs (omega arith) h.1)

-- a list of which the first are mapped, and one more
pub more_mapped : {X : Type 0} (f : X → X) (xs ys : List X) (i : ℕ) (x y : X) → i < length xs
    → ys ≡ map f (take i xs) ++ drop i xs → x ≡ get_or ys i x → y ≡ f x
    → slice_set ys i y ≡ map f (take (i + 1) xs) ++ drop (i + 1) xs
more_mapped f xs ys i x y lt e at is = ap (λ z. slice_set ys i z) is ∙ map_over_more f xs ys i x lt e at

-- .. that stays as it is
pub more_stays : {X : Type 0} (f : X → X) (xs ys : List X) (i : ℕ) (x : X) → i < length xs
    → ys ≡ map f (take i xs) ++ drop i xs → x ≡ get_or ys i x → f x ≡ x
    → ys ≡ map f (take (i + 1) xs) ++ drop (i + 1) xs
more_stays f xs ys i x lt e at is =
    sym (ap (λ z. slice_set ys i z) at ∙ set-get_or ys i x) ∙ more_mapped f xs ys i x x lt e at (sym is)

pub length_set : {X : Type 0} (xs : List X) (i : ℕ) (y : X) → length (slice_set xs i y) ≡ length xs
length_set [] i y = refl
length_set (x ∷ xs) zero y = refl
length_set (x ∷ xs) (suc i) y = ap suc (length_set xs i y)

pub fewer_room : {A : Type 0} (m n : ℕ) (xs : List (Bus A)) → m ≤ n → AllByRecursion (λ o. HasRoom n o) xs
    → AllByRecursion (λ o. HasRoom m o) xs
fewer_room m n xs le h = all_if (λ o. HasRoom n o) (λ o. HasRoom m o) xs (λ b r. let k = r.known in let q = r.recent in
    record { known = omega (arith, le, k); recent = omega (arith, le, q) }) h

-- buses of which the same is kept, and as many frames
pub same_buses : {A : Type 0} (frames : ℕ) (bs cs : List (BusState A)) → bs ≡ cs
    → of_both bs frames ≡ of_both cs frames
same_buses frames bs cs e = ap (λ os. of_both os frames) e

-- what stands at a place is one
pub same_there : {X : Type 0} (xs : List X) (i : ℕ) (x y : X) → i < length xs → x ≡ get_or xs i x → y ≡ get_or xs i y
    → x ≡ y
same_there [] i x y lt a b = absurd (omega arith)
same_there (z ∷ zs) zero x y lt a b = a ∙ sym b
same_there (z ∷ zs) (suc i) x y lt a b = same_there zs i x y (omega arith) a b

-- one copy more
pub copy_further : {A : Type 0} (xs more copies new : List (Bus A)) (one copy : Bus A) → xs ++ one ∷ [] ≡ more
    → new ≡ copies ++ copy ∷ [] → bus_of copy ≡ bus_of one → map (λ o. bus_of o) copies ≡ map (λ o. bus_of o) xs
    → map (λ o. bus_of o) new ≡ map (λ o. bus_of o) more
copy_further {A} xs more copies new one copy is put same so_far =
    ap (λ (bs : List (Bus A)). map (λ o. bus_of o) bs) put
    ∙ map-append (λ (o : Bus A). bus_of o) copies (copy ∷ [])
    ∙ ap (λ (bs : List (BusState A)). bs ++ bus_of copy ∷ []) so_far
    ∙ ap (λ (b : BusState A). map (λ o. bus_of o) xs ++ b ∷ []) same
    ∙ sym (map-append (λ (o : Bus A). bus_of o) xs (one ∷ []))
    ∙ ap (λ (bs : List (Bus A)). map (λ o. bus_of o) bs) is
