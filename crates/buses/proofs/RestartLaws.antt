-- Ears that are made anew, one after another.
use Rattle.std.proofs.Common.{◌≡◌, ℕ, zero, suc, arith, ◌+◌, ◌<◌, true, false, List, [], ◌∷◌, ◌++◌, length, map, take, drop, refl, ap, sym, ◌∙◌}
use Rattle.std.specs.Prelude.{get_or, slice_set, ◌==◌, if◌then◌else◌}
use Rattle.std.proofs.lemmas.List.{map-set}
use Rattle.bus_traffic.specs.Bus.{BusState, bus_of, restarted}
use Rattle.bus_traffic.specs.Ears.{ear_anew}
use Rattle.bus_traffic.specs.declared.bus.Bus.{Bus}
use Rattle.bus_traffic.specs.declared.ear.Ear.{Ear}
use Rattle.buses.proofs.Places.{more_mapped, more_stays}
use Rattle.buses.specs.Hearing.{anew_at, anew_of, anew_on}

-- a bus with these ears
abbrev pub with_ears : {A : Type 0} → BusState A → List Ear → BusState A
with_ears b es = record { net = b.net; ears = es; known = b.known; recent = b.recent }

-- a bus of which the first ears are made anew
abbrev pub partly_on : {A : Type 0} → (now address count : ℕ) → BusState A → BusState A
partly_on now address count b =
    with_ears b (map (anew_of now address) (take count b.ears) ++ drop count b.ears)

-- buses of which the first have such ears made anew
abbrev pub partly_at : {A : Type 0} → (now net address count : ℕ) → List (BusState A) → List (BusState A)
partly_at now net address count bs = map (anew_at now net address) (take count bs) ++ drop count bs

is_anew : (now address : ℕ) (e : Ear) → (e.address == address) ≡ true → anew_of now address e ≡ ear_anew e.address now
is_anew now address e t = ap (λ b. if b then ear_anew e.address now else e) t

is_same : (now address : ℕ) (e : Ear) → (e.address == address) ≡ false → anew_of now address e ≡ e
is_same now address e t = ap (λ b. if b then ear_anew e.address now else e) t

-- a list of which the first are mapped is as long
pub mapped_length : {X : Type 0} (f : X → X) (i : ℕ) (xs : List X) → length (map f (take i xs) ++ drop i xs) ≡ length xs
mapped_length f zero xs = refl
mapped_length f (suc i) [] = refl
mapped_length f (suc i) (x ∷ xs) = ap suc (mapped_length f i xs)

-- one more is made anew
pub one_restarts : {A : Type 0} (now address i : ℕ) (start b c : BusState A) (e : Ear)
    → b ≡ partly_on now address i start → i < length start.ears → e ≡ get_or b.ears i e
    → (e.address == address) ≡ true → c ≡ restarted now i e b → c ≡ partly_on now address (i + 1) start
one_restarts now address i start b c e is lt at t r =
    r ∙ ap (λ o. with_ears o (slice_set b.ears i (ear_anew e.address now))) is
    ∙ ap (λ es. with_ears start es) (more_mapped (anew_of now address) start.ears b.ears i e (ear_anew e.address now) lt
    (ap (λ o. o.ears) is) at (sym (is_anew now address e t)))

-- it has as many ears
pub ears_stay : {A : Type 0} (now address i : ℕ) (start b : BusState A) → b ≡ partly_on now address i start
    → length b.ears ≡ length start.ears
ears_stay now address i start b is = ap (λ o. length o.ears) is ∙ mapped_length (anew_of now address) i start.ears

-- .. or stays
pub one_listens_on : {A : Type 0} (now address i : ℕ) (start b : BusState A) (e : Ear)
    → b ≡ partly_on now address i start → i < length start.ears → e ≡ get_or b.ears i e
    → (e.address == address) ≡ false → b ≡ partly_on now address (i + 1) start
one_listens_on now address i start b e is lt at t =
    is ∙ ap (λ es. with_ears start es) (sym (ap (λ o. o.ears) is)
    ∙ more_stays (anew_of now address) start.ears b.ears i e lt (ap (λ o. o.ears) is) at (is_same now address e t))

on_one : {A : Type 0} (now net address : ℕ) (b : BusState A) → (b.net == net) ≡ true
    → anew_at now net address b ≡ anew_on now address b
on_one now net address b t = ap (λ o. if o then anew_on now address b else b) t

on_none : {A : Type 0} (now net address : ℕ) (b : BusState A) → (b.net == net) ≡ false → anew_at now net address b ≡ b
on_none now net address b t = ap (λ o. if o then anew_on now address b else b) t

image_of : {A : Type 0} (bs : List (Bus A)) (i : ℕ) (x : Bus A) → i < length bs → x ≡ get_or bs i x
    → bus_of x ≡ get_or (map (λ o. bus_of o) bs) i (bus_of x)
image_of [] i x lt at = absurd (omega arith)
image_of (b ∷ bs) zero x lt at = ap (λ o. bus_of o) at
image_of (b ∷ bs) (suc i) x lt at = image_of bs i x (omega arith) at

-- the ears of one more bus are made anew
pub bus_restarts : {A : Type 0} (now net address i : ℕ) (start : List (BusState A)) (bs : List (Bus A)) (x y : Bus A)
    → map (λ o. bus_of o) bs ≡ partly_at now net address i start → i < length start → i < length bs
    → x ≡ get_or bs i x → (x.net == net) ≡ true → bus_of y ≡ anew_on now address (bus_of x)
    → map (λ o. bus_of o) (slice_set bs i y) ≡ partly_at now net address (i + 1) start
bus_restarts now net address i start bs x y is lt within at t anew =
    map-set (λ o. bus_of o) bs i y
    ∙ more_mapped (anew_at now net address) start (map (λ o. bus_of o) bs) i (bus_of x) (bus_of y) lt is
    (image_of bs i x within at) (anew ∙ sym (on_one now net address (bus_of x) t))

-- .. or stay
pub bus_stays : {A : Type 0} (now net address i : ℕ) (start : List (BusState A)) (bs : List (Bus A)) (x : Bus A)
    → map (λ o. bus_of o) bs ≡ partly_at now net address i start → i < length start → i < length bs
    → x ≡ get_or bs i x → (x.net == net) ≡ false
    → map (λ o. bus_of o) bs ≡ partly_at now net address (i + 1) start
bus_stays now net address i start bs x is lt within at t =
    more_stays (anew_at now net address) start (map (λ o. bus_of o) bs) i (bus_of x) lt is
    (image_of bs i x within at) (on_none now net address (bus_of x) t)
