-- Steps of ports, one after another.
use Rattle.std.proofs.Common.{◌≡◌, ◌∙◌, ◌⊎◌, ◌≤◌, ◌+◌, ◌-◌, refl, sym, ap, subst, arith, ℕ, zero, suc, List, [], ◌∷◌, ◌++◌, map, Some, None, length, inl, inr}
use Rattle.std.specs.Prelude.{◌↔◌, false, Option, slice_get, slice_index_or, slice_set, ◌<◌, take, drop}
use Rattle.history.specs.Lists.{Has}
use Rattle.link.specs.Limits.{max_npdu_at}
use Rattle.link_site.specs.CarryLaws.{carries_counting, carries_down, carries_on, carries_registering, carries_up, forgets}
use Rattle.link_site.specs.Port.{moment_of, restarted, station_of}
use Rattle.link_site.specs.Steps as site
use Rattle.link_site.specs.declared.port.SitePort.{SitePort}
use Rattle.npdu.specs.declared.mac.Mac.{Mac}
use Rattle.npdu.specs.declared.mac.Station.{Station}
use Rattle.npdu.specs.declared.parcel.Parcel.{Parcel}
use Rattle.router.specs.declared.plan.PortParcel.{PortParcel}
use Rattle.tags.specs.declared.fault.Fault.{Fault}
use Rattle.tags.specs.declared.fault.Fault.TheVariants.{Memory, TooLong}
use Rattle.site_ports.specs.Drafts.{PortsState}
use Rattle.link.specs.Step.{LinkStep}
use Rattle.site_ports.specs.Ports.{AreBefore, CountsAt, DownsEach, DownsOne, HearsAt, IsOneTooLong, Misses, NothingIsDue}
use Rattle.site_ports.specs.Ports.{RegistersAt, Steps, WakesAll, WakesFrom, over, places_of}

some_same : {X : Type 0} (x y : X) → Some x ≡ Some y → x ≡ y
some_same x y e = cc

cells : {X : Type 0} (x y : X) (xs ys : List X) → x ≡ y → xs ≡ ys → x ∷ xs ≡ y ∷ ys
cells x y xs ys a b = cc

cons_same : {X : Type 0} (x y : X) (xs ys : List X) → x ∷ xs ≡ y ∷ ys → (x ≡ y) × (xs ≡ ys)
cons_same x y xs ys e = (cc, cc)

-- another in the place of one that is alike leaves what all are like
pub mapped_set : {X Y : Type 0} (f : X → Y) (xs : List X) (i : ℕ) (x z : X) → slice_get xs i ≡ Some x → f z ≡ f x →
    map f (slice_set xs i z) ≡ map f xs
mapped_set f [] i x z e g = refl
mapped_set f (y ∷ ys) zero x z e g = ap (λ (v : _). v ∷ map f ys) (g ∙ ap f (sym (some_same y x e)))
mapped_set f (y ∷ ys) (suc i) x z e g = ap (λ (vs : List _). f y ∷ vs) (mapped_set f ys i x z e g)

pub mapped_at : {X Y : Type 0} (f : X → Y) (xs : List X) (i : ℕ) (x : X) → slice_get xs i ≡ Some x →
    slice_get (map f xs) i ≡ Some (f x)
mapped_at f [] i x e = absurd (cc e)
mapped_at f (y ∷ ys) zero x e = ap (λ z. Some (f z)) (some_same y x e)
mapped_at f (y ∷ ys) (suc i) x e = mapped_at f ys i x e

-- a port at this moment in the place of one keeps the order
pub still_before : {A : Type 0} (now : ℕ) (ls : List (SitePort A)) (i : ℕ) (m : SitePort A) → AreBefore now ls →
    moment_of m ≤ now → AreBefore now (slice_set ls i m)
still_before now [] i m before le = tt
still_before now (l ∷ ls) zero m before le = (le, before.1)
still_before now (l ∷ ls) (suc i) m before le = (before.0, still_before now ls i m (before.1) le)

-- each port is before it
pub before_at : {A : Type 0} (now : ℕ) (ls : List (SitePort A)) (i : ℕ) (l : SitePort A) → AreBefore now ls →
    slice_get ls i ≡ Some l → moment_of l ≤ now
before_at now [] i l before e = absurd (cc e)
before_at now (k ∷ ls) zero l before e = subst (λ (m : _). moment_of m ≤ now) (some_same k l e) (before.0)
before_at now (k ∷ ls) (suc i) l before e = before_at now ls i l (before.1) e

-- a step of the ports keeps the order and the places, where its port comes to this moment and stays where it is
pub steps_before : {A : Type 0} (does : SitePort A → LinkStep A → SitePort A → Type 0) (now port : ℕ)
    (old new : PortsState A) → AreBefore now old.ports → (s : Steps does port old new) → moment_of s.left ≡ now →
    AreBefore now new.ports
steps_before does now port old new before s at =
    subst (λ (xs : List (SitePort _)). AreBefore now xs) (sym s.ports)
    (still_before now old.ports port s.left before (omega (arith, at)))

pub steps_stay : {A : Type 0} (does : SitePort A → LinkStep A → SitePort A → Type 0) (port : ℕ)
    (old new : PortsState A) → (s : Steps does port old new) → station_of s.left ≡ station_of s.link →
    places_of new.ports ≡ places_of old.ports
steps_stay does port old new s place =
    ap (λ (xs : List (SitePort _)). places_of xs) s.ports
    ∙ mapped_set (λ m. station_of m) old.ports port s.link s.left s.there place

module _ {A : Type 0} where
  misses_before : (now port : ℕ) (old new : PortsState A) → AreBefore now old.ports → Misses port old new →
      AreBefore now new.ports
  misses_before now port old new before m = subst (λ (s : PortsState A). AreBefore now s.ports) (sym m.same) before

  misses_stay : (port : ℕ) (old new : PortsState A) → Misses port old new → places_of new.ports ≡ places_of old.ports
  misses_stay port old new m = ap (λ (s : PortsState A). places_of s.ports) m.same

  pub downs_before : (now port : ℕ) (p : Parcel A) (old new : PortsState A) → AreBefore now old.ports →
      DownsOne now port p old new → AreBefore now new.ports
  downs_before now port p old new before (inl s) = steps_before (site.Downs now p) now port old new before s
      (carries_down now p s.link s.step s.left s.made).at
  downs_before now port p old new before (inr m) = misses_before now port old new before m

  pub downs_stay : (now port : ℕ) (p : Parcel A) (old new : PortsState A) → DownsOne now port p old new →
      places_of new.ports ≡ places_of old.ports
  downs_stay now port p old new (inl s) = steps_stay (site.Downs now p) port old new s
      (carries_down now p s.link s.step s.left s.made).place
  downs_stay now port p old new (inr m) = misses_stay port old new m

  pub hears_before : (now port : ℕ) (from : Mac) (octets : List ℕ) (stamp : ℕ) (old : PortsState A)
      (up : Option (Parcel A)) (new : PortsState A) → AreBefore now old.ports →
      HearsAt now port from octets stamp old up new → AreBefore now new.ports
  hears_before now port from octets stamp old up new before (inl s) =
      steps_before (λ l t m. site.Hears now from octets stamp l t m × (up ≡ t.up)) now port old new before s
      (carries_up now from octets stamp s.link s.step s.left (s.made.0)).at
  hears_before now port from octets stamp old up new before (inr m) = misses_before now port old new before (m.0)

  pub hears_stay : (now port : ℕ) (from : Mac) (octets : List ℕ) (stamp : ℕ) (old : PortsState A)
      (up : Option (Parcel A)) (new : PortsState A) → HearsAt now port from octets stamp old up new →
      places_of new.ports ≡ places_of old.ports
  hears_stay now port from octets stamp old up new (inl s) =
      steps_stay (λ l t m. site.Hears now from octets stamp l t m × (up ≡ t.up)) port old new s
      (carries_up now from octets stamp s.link s.step s.left (s.made.0)).place
  hears_stay now port from octets stamp old up new (inr m) = misses_stay port old new (m.0)

  pub counts_before : (count now port : ℕ) (old new : PortsState A) → AreBefore now old.ports →
      CountsAt count now port old new → AreBefore now new.ports
  counts_before count now port old new before (inl s) = steps_before (site.Counts count now) now port old new before s
      (carries_counting count now s.link s.step s.left s.made).at
  counts_before count now port old new before (inr m) = misses_before now port old new before m

  pub counts_stay : (count now port : ℕ) (old new : PortsState A) → CountsAt count now port old new →
      places_of new.ports ≡ places_of old.ports
  counts_stay count now port old new (inl s) = steps_stay (site.Counts count now) port old new s
      (carries_counting count now s.link s.step s.left s.made).place
  counts_stay count now port old new (inr m) = misses_stay port old new m

  pub registers_before : (now port : ℕ) (old new : PortsState A) → AreBefore now old.ports →
      RegistersAt now port old new → AreBefore now new.ports
  registers_before now port old new before (inl s) = steps_before (site.Registers now) now port old new before s
      (carries_registering now s.link s.step s.left s.made).at
  registers_before now port old new before (inr m) = misses_before now port old new before m

  pub wakes_before : (now port : ℕ) (old new : PortsState A) → AreBefore now old.ports →
      Steps (site.Wakes now) port old new → AreBefore now new.ports
  wakes_before now port old new before s = steps_before (site.Wakes now) now port old new before s
      (carries_on now s.link s.step s.left s.made).at

  -- what is too long for the port that hears it is so among its places
  pub long_one : (ports : List (SitePort A)) (port : ℕ) (l : SitePort A) (p : Parcel A) → slice_get ports port ≡ Some l →
      max_npdu_at (station_of l).mac < length p.npdu → IsOneTooLong (places_of ports) (over port (p ∷ []))
  long_one ports port l p there long = record {
    one = record { port = port; parcel = p };
    there = record { place = 0; at_place = refl };
    place = station_of l;
    at_port = mapped_at (λ m. station_of m) ports port l there;
    long = long;
  }

  -- what the rest leads to, all lead to
  pub down_step : (now : ℕ) (all behind rest : List (PortParcel A)) (o : PortParcel A) (start middle new : PortsState A) →
      behind ≡ o ∷ rest →
      ((end : PortsState A) → DownsEach now behind middle end → DownsEach now all start end) →
      DownsOne now o.port o.parcel middle new → (end : PortsState A) → DownsEach now rest new end →
      DownsEach now all start end
  down_step now all behind rest o start middle new e so_far one end done =
      so_far end (subst (λ (b : List (PortParcel A)). DownsEach now b middle end) {y = behind} (sym e)
      (record { middle = new; first = one; rest = done }))

  -- the rest is some of all
  pub rest_of_all : (all behind rest : List (PortParcel A)) (o : PortParcel A) → behind ≡ o ∷ rest →
      ((q : PortParcel A) → Has behind q → Has all q) → (q : PortParcel A) → Has rest q → Has all q
  rest_of_all all behind rest o e some q h = some q (subst (λ (b : List (PortParcel A)). Has b q) {y = behind} (sym e)
      (record { place = suc h.place; at_place = h.at_place }))

  -- why one is refused is why all are
  pub refused_of_all : (places now_are : List Station) (all behind rest : List (PortParcel A)) (o : PortParcel A)
      (fault : Fault) → behind ≡ o ∷ rest → ((q : PortParcel A) → Has behind q → Has all q) → now_are ≡ places →
      (fault ≡ Memory) ⊎ ((fault ≡ TooLong) × IsOneTooLong now_are (over o.port (o.parcel ∷ []))) →
      (fault ≡ Memory) ⊎ ((fault ≡ TooLong) × IsOneTooLong places all)
  refused_of_all places now_are all behind rest o fault e some same (inl memory) = inl memory
  refused_of_all places now_are all behind rest o fault e some same (inr long) = inr (
    long.0,
    record {
      one = long.1.one;
      there = some long.1.one (subst (λ (b : List (PortParcel A)). Has b long.1.one) {y = behind} (sym e)
          (front long.1.there.place long.1.there.at_place));
      place = long.1.place;
      at_port = ap (λ xs. slice_get xs long.1.one.port) (sym same) ∙ long.1.at_port;
      long = long.1.long;
    },
  )
    where
      front : (n : ℕ) → slice_get (over o.port (o.parcel ∷ [])) n ≡ Some long.1.one → Has (o ∷ rest) long.1.one
      front zero e = record { place = zero; at_place = e }
      front (suc n) e = absurd (cc e)

  pub wake_begin : (now count : ℕ) (start : PortsState A) → length start.ports ≡ count → (end : PortsState A) →
      WakesFrom now 0 (count - 0) start end → WakesAll now start end
  wake_begin now count start e end done =
      let all : count - 0 ≡ length start.ports = omega (arith, e) in
      subst (λ (n : ℕ). WakesFrom now 0 n start end) {x = count - 0} all done

  -- what the ports from the next one on lead to, all lead to
  pub wake_step : (now first : ℕ) (count : ℕ) (start middle new : PortsState A) → first < count →
      ((end : PortsState A) → WakesFrom now first (count - first) middle end → WakesAll now start end) →
      Steps (site.Wakes now) first middle new → (end : PortsState A) →
      WakesFrom now (first + 1) (count - (first + 1)) new end → WakesAll now start end
  wake_step now first count start middle new lt so_far one end done =
      let more : count - first ≡ suc (count - (first + 1)) = omega (arith, lt) in
      so_far end (subst (λ (n : ℕ). WakesFrom now first n middle end) {y = count - first} (sym more)
      (record { middle = new; first = one; rest = done }))

  -- none is left
  pub wake_end : (now first count : ℕ) (start middle : PortsState A) → count ≤ first →
      ((end : PortsState A) → WakesFrom now first (count - first) middle end → WakesAll now start end) →
      WakesAll now start middle
  wake_end now first count start middle le so_far =
      let none : count - first ≡ zero = omega (arith, le) in
      so_far middle (subst (λ (n : ℕ). WakesFrom now first n middle middle) {y = count - first} (sym none) refl)

  -- nothing is due at the rest exactly where nothing is at all
  pub due_next : (now : ℕ) (left rest : List (SitePort A)) (l : SitePort A) (X : Type 0) → left ≡ l ∷ rest →
      site.is_due now l ≡ false → (NothingIsDue now left ↔ X) → NothingIsDue now rest ↔ X
  due_next now left rest l X e none so_far = (
    λ r. so_far.0 (subst (λ (ls : List (SitePort A)). NothingIsDue now ls) {y = left} (sym e) (none, r)),
    λ x. (subst (λ (ls : List (SitePort A)). NothingIsDue now ls) {x = left} e (so_far.1 x)).1,
  )

  -- as many ports restart, one after another
  restarted_so : (now : ℕ) (ls now_are : List (SitePort A)) (i : ℕ) (l : SitePort A) → i < length now_are →
      now_are ≡ map (λ p. restarted now p) (take i ls) ++ drop i ls → l ≡ restarted now (slice_index_or now_are i l) →
      slice_set now_are i l ≡ map (λ p. restarted now p) (take (suc i) ls) ++ drop (suc i) ls
  restarted_so now [] now_are zero l lt e is = absurd (omega (arith, lt, ap length e))
  restarted_so now [] now_are (suc i) l lt e is = absurd (omega (arith, lt, ap length e))
  restarted_so now (x ∷ xs) [] i l lt e is = absurd (omega (arith, lt))
  restarted_so now (x ∷ xs) (y ∷ ys) zero l lt e is =
      let p = cons_same y x ys xs e in cells l (restarted now x) ys xs (is ∙ ap (λ q. restarted now q) (p.0)) (p.1)
  restarted_so now (x ∷ xs) (y ∷ ys) (suc i) l lt e is =
      let p = cons_same y (restarted now x) ys (map (λ q. restarted now q) (take i xs) ++ drop i xs) e in
      cells y (restarted now x) (slice_set ys i l) (map (λ q. restarted now q) (take (suc i) xs) ++ drop (suc i) xs) (p.0)
      (restarted_so now xs ys i l (omega (arith, lt)) (p.1) is)

  pub restarted_next : (now : ℕ) (ls now_are : List (SitePort A)) (i : ℕ) (l : SitePort A) → i < length now_are →
      now_are ≡ map (λ p. restarted now p) (take i ls) ++ drop i ls → l ≡ restarted now (slice_index_or now_are i l) →
      slice_set now_are i l ≡ map (λ p. restarted now p) (take (i + 1) ls) ++ drop (i + 1) ls
  restarted_next now ls now_are i l lt e is =
      let next : suc i ≡ i + 1 = omega arith in
      subst (λ (n : ℕ). slice_set now_are i l ≡ map (λ p. restarted now p) (take n ls) ++ drop n ls) next
      (restarted_so now ls now_are i l lt e is)

  pub restarted_before : (now : ℕ) (l : SitePort A) → moment_of (restarted now l) ≤ now
  restarted_before now l = omega (arith, (forgets now l).at)

pub ruleset due_rules = (due_next)

pub ruleset restart_rules = (still_before, before_at, restarted_next, restarted_before)
