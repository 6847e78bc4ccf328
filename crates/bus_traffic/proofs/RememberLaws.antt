-- A bus remembers all that was ever put out on it.
use Rattle.std.proofs.Common.{◌≡◌, ◌≢◌, ℕ, ◌+◌, ◌≤◌, max, Bool, true, false, List, [], ◌∷◌, ◌++◌, map, refl, sym, ap, arith, ◌∙◌}
use Rattle.std.specs.Prelude.{Option, Some, None, bytes_eq, cond, if◌then◌else◌}
use Rattle.std.specs.List.{filter}
use Rattle.std.proofs.lemmas.Bool.{le-leb, leb-true}
use Rattle.std.proofs.lemmas.List.{append-nil, map-append}
use Rattle.std.proofs.lemmas.List.Elements.{filter-append}
use Rattle.std.proofs.lemmas.Slice.Eq.{bytes_eq-Decides}
use Rattle.profile.specs.Ages.{is_heard_in_time}
use Rattle.profile.specs.Times.{LIFE_MS}
use Rattle.bus_traffic.proofs.Places.{delivered_first, learned_first}
use Rattle.bus_traffic.proofs.YoungestLaws.{same, other, same_is, equals_first, equals_other}
use Rattle.bus_traffic.specs.Bus.{BusState, bus_anew, heard_on, joined, restarted}
use Rattle.bus_traffic.specs.Laws.{JudgesByAll, Remembers, RemembersMore, RemembersStill}
use Rattle.bus_traffic.specs.Sendings.{aged, delivered, equals, followed, is_due_at, is_young, judged_by, known_by, known_of, later_of, learned, marked, unheard, young, youngest}
use Rattle.bus_traffic.specs.declared.sending.Known.{Known}
use Rattle.bus_traffic.specs.declared.sending.Recent.{Recent}
use Rattle.bus_traffic.specs.declared.sending.Sending.{Sending}

-- the later of two moments and another doesn't depend on their order
later_both : (a b : ℕ) (r : Option ℕ) → max a (later_of b r) ≡ max b (later_of a r)
later_both a b None = omega arith
later_both a b (Some c) = omega arith

youngest_last : {A : Type 0} (xs : List (Sending A)) (s : Sending A)
    → youngest (xs ++ s ∷ []) ≡ Some (later_of s.stamp (youngest xs))
youngest_last [] s = refl
youngest_last (x ∷ xs) s = ap (λ r. Some (later_of x.stamp r)) (youngest_last xs s)
    ∙ ap (λ n. Some n) (later_both x.stamp s.stamp (youngest xs))

pub known_first : {A : Type 0} (octets : List ℕ) (k : Known A) (ks : List (Known A)) → bytes_eq k.octets octets ≡ true
    → known_of octets (k ∷ ks) ≡ Some k.stamp
known_first octets k ks e = ap (λ b. if b then Some k.stamp else known_of octets ks) e

pub known_next : {A : Type 0} (octets : List ℕ) (k : Known A) (ks : List (Known A)) → bytes_eq k.octets octets ≡ false
    → known_of octets (k ∷ ks) ≡ known_of octets ks
known_next octets k ks e = ap (λ b. if b then Some k.stamp else known_of octets ks) e

pub learned_next : {A : Type 0} (new k : Known A) (ks : List (Known A)) → bytes_eq k.octets new.octets ≡ false
    → learned new (k ∷ ks) ≡ k ∷ learned new ks
learned_next new k ks e = ap (λ b. if b then aged new.stamp k ∷ ks else k ∷ learned new ks) e

are_same : (xs ys : List ℕ) → xs ≡ ys → bytes_eq xs ys ≡ true
are_same xs ys e = (bytes_eq-Decides xs ys).1 e

not_same : (xs ys : List ℕ) → xs ≢ ys → bytes_eq xs ys ≡ false
not_same xs ys n = elim (same_is xs ys) [
  | same b e ↦ absurd (n e)
  | other b m ↦ b
]

-- what is known of the octets that are put out
pub known_same : {A : Type 0} (octets : List ℕ) (new : Known A) (ks : List (Known A)) → new.octets ≡ octets
    → known_of octets (learned new ks) ≡ Some (later_of new.stamp (known_of octets ks))
known_same octets new [] e = known_first octets new [] (are_same new.octets octets e)
known_same octets new (k ∷ ks) e = elim (same_is k.octets new.octets) [
  | same b q ↦ let here : bytes_eq k.octets octets ≡ true = are_same k.octets octets (q ∙ e) in
      let m : max k.stamp new.stamp ≡ max new.stamp k.stamp = omega arith in
      ap (λ xs. known_of octets xs) (learned_first new k ks b)
      ∙ known_first octets (aged new.stamp k) ks here ∙ ap (λ n. Some n) m
      ∙ sym (ap (λ r. Some (later_of new.stamp r)) (known_first octets k ks here))
  | other b n ↦ let later : bytes_eq k.octets octets ≡ false = not_same k.octets octets (λ q. n (q ∙ sym e)) in
      ap (λ xs. known_of octets xs) (learned_next new k ks b)
      ∙ known_next octets k (learned new ks) later ∙ known_same octets new ks e
      ∙ sym (ap (λ r. Some (later_of new.stamp r)) (known_next octets k ks later))
]

-- .. and of others
pub known_other : {A : Type 0} (octets : List ℕ) (new : Known A) (ks : List (Known A)) → new.octets ≢ octets
    → known_of octets (learned new ks) ≡ known_of octets ks
known_other octets new [] n = known_next octets new [] (not_same new.octets octets n)
known_other octets new (k ∷ ks) n = elim (same_is k.octets new.octets) [
  | same b q ↦ let later : bytes_eq k.octets octets ≡ false = not_same k.octets octets (λ p. n (sym q ∙ p)) in
      ap (λ xs. known_of octets xs) (learned_first new k ks b)
      ∙ known_next octets (aged new.stamp k) ks later ∙ sym (known_next octets k ks later)
  | other b m ↦ ap (λ xs. known_of octets xs) (learned_next new k ks b)
      ∙ ap (λ r. if bytes_eq k.octets octets then Some k.stamp else r) (known_other octets new ks n)
]

equals_last : {A : Type 0} (octets : List ℕ) (all : List (Sending A)) (s : Sending A)
    → equals octets (all ++ s ∷ []) ≡ equals octets all ++ equals octets (s ∷ [])
equals_last octets all s = filter-append (λ x. bytes_eq x.octets octets) all (s ∷ [])

known_more : {A : Type 0} (octets : List ℕ) (all : List (Sending A)) (s : Sending A) (ks : List (Known A))
    → known_of octets ks ≡ youngest (equals octets all)
    → known_of octets (learned (known_by s) ks) ≡ youngest (equals octets (all ++ s ∷ []))
known_more octets all s ks known = elim (same_is s.octets octets) [
  | same b e ↦ known_same octets (known_by s) ks e ∙ ap (λ r. Some (later_of s.stamp r)) known
      ∙ sym (youngest_last (equals octets all) s)
      ∙ sym (ap (λ xs. youngest xs) (equals_last octets all s
      ∙ ap (λ xs. equals octets all ++ xs) (equals_first octets s [] b)))
  | other b n ↦ known_other octets (known_by s) ks n ∙ known
      ∙ sym (ap (λ xs. youngest xs) (equals_last octets all s
      ∙ ap (λ xs. equals octets all ++ xs) (equals_other octets s [] b) ∙ append-nil (equals octets all)))
]

-- what passes one test of those that pass a weaker one
twice_by : {X : Type 0} (p q : X → Bool) → ((x : X) → p x ≡ true → q x ≡ true) → (x : X) (xs : List X)
    → filter p (filter q xs) ≡ filter p xs → (b : Bool) → q x ≡ b → filter p (filter q (x ∷ xs)) ≡ filter p (x ∷ xs)
twice_by p q weaker x xs rest true e = ap (λ b. filter p (cond b (x ∷ filter q xs) (filter q xs))) e
    ∙ ap (λ ys. cond (p x) (x ∷ ys) ys) rest
twice_by p q weaker x xs rest false e = ap (λ b. filter p (cond b (x ∷ filter q xs) (filter q xs))) e ∙ rest
    ∙ sym (ap (λ b. cond b (x ∷ filter p xs) (filter p xs)) (fails (p x) refl))
  where
    fails : (b : Bool) → p x ≡ b → p x ≡ false
    fails true f = absurd (cc (e, weaker x f))
    fails false f = f

twice : {X : Type 0} (p q : X → Bool) → ((x : X) → p x ≡ true → q x ≡ true) → (xs : List X)
    → filter p (filter q xs) ≡ filter p xs
twice p q weaker [] = refl
twice p q weaker (x ∷ xs) = twice_by p q weaker x xs (twice p q weaker xs) (q x) refl

young_before : (stamp now later : ℕ) → now ≤ later → is_heard_in_time stamp later ≡ true
    → is_heard_in_time stamp now ≡ true
young_before stamp now later le e = let in_time : later ≤ stamp + LIFE_MS = leb-true later (stamp + LIFE_MS) e in
    le-leb now (stamp + LIFE_MS) (omega (arith, le, in_time))

-- the frames of those that may still be heard are the frames that may still be heard
map_if : {X Y : Type 0} (f : X → Y) (x : X) (xs : List X) (b : Bool) → map f (cond b (x ∷ xs) xs) ≡ cond b (f x ∷ map f xs) (map f xs)
map_if f x xs true = refl
map_if f x xs false = refl

young_sendings : {A : Type 0} (later : ℕ) (rs : List (Recent A))
    → map (λ r. r.sending) (young later rs) ≡ filter (is_young later) (map (λ r. r.sending) rs)
young_sendings later [] = refl
young_sendings later (r ∷ rs) = map_if (λ r. r.sending) r (young later rs) (is_young later r.sending)
    ∙ ap (λ ys. cond (is_young later r.sending) (r.sending ∷ ys) ys) (young_sendings later rs)

recent_more : {A : Type 0} (now later : ℕ) (all : List (Sending A)) (s : Sending A) (rs : List (Recent A)) → now ≤ later
    → map (λ r. r.sending) (young later rs) ≡ filter (is_young later) all
    → map (λ r. r.sending) (young later (followed now s rs)) ≡ filter (is_young later) (all ++ s ∷ [])
recent_more now later all s rs le recent =
    ap (λ xs. map (λ r. r.sending) xs) (filter-append (λ r. is_young later r.sending) (young now rs) (unheard s ∷ [])
    ∙ ap (λ xs. xs ++ young later (unheard s ∷ [])) (twice (λ r. is_young later r.sending)
    (λ r. is_young now r.sending) (λ r e. young_before r.sending.stamp now later le e) rs))
    ∙ map-append (λ r. r.sending) (young later rs) (young later (unheard s ∷ []))
    ∙ ap (λ xs. xs ++ map (λ r. r.sending) (young later (unheard s ∷ []))) recent
    ∙ ap (λ xs. filter (is_young later) all ++ xs) (young_sendings later (unheard s ∷ []))
    ∙ sym (filter-append (is_young later) all (s ∷ []))

pub delivered_next : {A : Type 0} (now address : ℕ) (octets : List ℕ) (r : Recent A) (rs : List (Recent A))
    → is_due_at now address octets r ≡ false
    → delivered now address octets (r ∷ rs) ≡ r ∷ delivered now address octets rs
delivered_next now address octets r rs e =
    ap (λ b. if b then marked address r ∷ rs else r ∷ delivered now address octets rs) e

-- a delivery changes marks alone
delivered_by : {A : Type 0} (now address : ℕ) (octets : List ℕ) (r : Recent A) (rs : List (Recent A)) (b : Bool)
    → is_due_at now address octets r ≡ b
    → map (λ r. r.sending) (delivered now address octets rs) ≡ map (λ r. r.sending) rs
    → map (λ r. r.sending) (delivered now address octets (r ∷ rs)) ≡ map (λ r. r.sending) (r ∷ rs)
delivered_by now address octets r rs true e rest =
    ap (λ xs. map (λ r. r.sending) xs) (delivered_first now address octets r rs e)
delivered_by now address octets r rs false e rest =
    ap (λ xs. map (λ r. r.sending) xs) (delivered_next now address octets r rs e) ∙ ap (λ ys. r.sending ∷ ys) rest

delivered_sendings : {A : Type 0} (now address : ℕ) (octets : List ℕ) (rs : List (Recent A))
    → map (λ r. r.sending) (delivered now address octets rs) ≡ map (λ r. r.sending) rs
delivered_sendings now address octets [] = refl
delivered_sendings now address octets (r ∷ rs) = delivered_by now address octets r rs
    (is_due_at now address octets r) refl (delivered_sendings now address octets rs)

pub remembers_nothing : {A : Type 0} (now net : ℕ) → Remembers {A = A} now [] (bus_anew net)
remembers_nothing now net = record { known = λ octets. refl; recent = λ later le. refl }

pub remembers_more : {A : Type 0} → RemembersMore A
remembers_more old now all s b le r = record {
  known = λ octets. known_more octets all s b.known (r.known octets);
  recent = λ later after. recent_more now later all s b.recent after (r.recent later (omega (arith, le, after)));
}

remembers_at : {A : Type 0} (old now : ℕ) (all : List (Sending A)) (b c : BusState A) → old ≤ now
    → c.known ≡ b.known → map (λ r. r.sending) c.recent ≡ map (λ r. r.sending) b.recent → Remembers old all b
    → Remembers now all c
remembers_at old now all b c le ks rs r = record {
  known = λ octets. ap (λ xs. known_of octets xs) ks ∙ r.known octets;
  recent = λ later after. young_sendings later c.recent ∙ ap (λ xs. filter (is_young later) xs) rs
      ∙ sym (young_sendings later b.recent) ∙ r.recent later (omega (arith, le, after));
}

pub remembers_still : {A : Type 0} → RemembersStill A
remembers_still old now place address octets kept e all b le r = (
  remembers_at old now all b (heard_on now place octets kept e b) le refl
      (delivered_sendings now e.address octets b.recent) r,
  remembers_at old now all b (restarted now place e b) le refl refl r,
  remembers_at old now all b (joined now address b) le refl refl r,
)

pub judges_by_all : {A : Type 0} → JudgesByAll A
judges_by_all old now octets all b r = ap (λ x. judged_by now x) (r.known octets)
