-- What goes out over the ports of a node, and what waits in them. `Good` is what the layer above knows of each parcel on a
-- network, as that what it has inside was said at its stamp.
use Rattle.std.proofs.Common.{◌≡◌, ◌∙◌, ◌⊎◌, ⊎_elim, inl, inr, refl, sym, ap, subst, arith, ◌≤◌, ℕ, zero, suc, ◌+◌, List, [], ◌∷◌, ◌++◌, map, Option, Some}
use Rattle.std.specs.Prelude.{slice_get, slice_set}
use Rattle.history.proofs.Lists.{has, has_either, has_next, has_split}
use Rattle.history.specs.Lists.{Has}
use Rattle.link.specs.Carrying.{CarriesOn, HandsUp, HandsUpIf}
use Rattle.link.specs.Step.{LinkStep, PortSent, over_port}
use Rattle.link.specs.declared.step.Sent.{Sent}
use Rattle.link_site.specs.CarryLaws.{carries_counting, carries_down, carries_on, carries_registering, carries_up}
use Rattle.link_site.specs.Port.{moment_of, station_of, waiting_in}
use Rattle.link_site.specs.Steps as site
use Rattle.link_site.specs.Things.{Carries}
use Rattle.link_site.specs.declared.port.SitePort.{SitePort}
use Rattle.npdu.specs.declared.mac.Mac.{Mac}
use Rattle.npdu.specs.declared.mac.Station.{Station}
use Rattle.npdu.specs.declared.parcel.Parcel.{Parcel}
use Rattle.router.specs.declared.plan.PortParcel.{PortParcel}
use Rattle.site_ports.proofs.PortSteps.{mapped_at, mapped_set}
use Rattle.site_ports.specs.Drafts.{PortsState}
use Rattle.site_ports.specs.Ports.{CountsAt, DownsEach, DownsOne, HearsAt, RegistersAt, Steps, WakesFrom, places_of}

some_same : {X : Type 0} (x y : X) → Some x ≡ Some y → x ≡ y
some_same x y e = cc

set_get : {X : Type 0} (xs : List X) (i k : ℕ) (z y : X) → slice_get (slice_set xs i z) k ≡ Some y →
    (z ≡ y) ⊎ Has xs y
set_get [] i k z y e = absurd (cc e)
set_get (x ∷ xs) zero zero z y e = inl (some_same z y e)
set_get (x ∷ xs) zero (suc k) z y e = inr (has (suc k) e)
set_get (x ∷ xs) (suc i) zero z y e = inr (has zero e)
set_get (x ∷ xs) (suc i) (suc k) z y e =
    ⊎_elim (λ a. inl a) (λ (h : Has xs y). inr (has_next x xs h)) (set_get xs i k z y e)

-- what stands in a list in which one was put in a place is that, or stood there before
pub set_has : {X : Type 0} (xs : List X) (i : ℕ) (z y : X) → Has (slice_set xs i z) y → (z ≡ y) ⊎ Has xs y
set_has xs i z y h = set_get xs i h.place z y h.at_place

-- what goes out over a port is this of what is put out
pub record IsOver {A : Type 0} (port : ℕ) (ss : List (Sent A)) (o : PortSent A) : Type 0 where
  pub sent : Sent A
  pub there : Has ss sent
  pub is : o ≡ record { port = port; sent = sent }

over_get : {A : Type 0} (port : ℕ) (ss : List (Sent A)) (k : ℕ) (o : PortSent A) →
    slice_get (over_port port ss) k ≡ Some o → IsOver port ss o
over_get port [] k o e = absurd (cc e)
over_get port (s ∷ ss) zero o e =
    record { sent = s; there = has zero refl; is = sym (some_same (record { port = port; sent = s }) o e) }
over_get port (s ∷ ss) (suc k) o e =
    let rest = over_get port ss k o e in
    record { sent = rest.sent; there = has_next s ss rest.there; is = rest.is }

pub over_has : {A : Type 0} (port : ℕ) (ss : List (Sent A)) (o : PortSent A) → Has (over_port port ss) o →
    IsOver port ss o
over_has port ss o h = over_get port ss h.place o h.at_place

module _ {A : Type 0} (Good : Station → Parcel A → Type 0) where
  -- all that waits in a port is good
  abbrev pub IsGood : SitePort A → Type 0
  IsGood l = (p : Parcel A) → Has (waiting_in l) p → Good (station_of l) p

  -- what goes out over one of these ports carries what is good
  pub record PutIsGood (places : List Station) (o : PortSent A) : Type 0 where
    pub good : (x : Station) → slice_get places o.port ≡ Some x → (p : Parcel A) →
        Carries x.mac o.sent.to o.sent.octets o.sent.stamp p → Good x p

  -- ports that stand at these places and saw no later moment, and all that waits in them and goes out over them is good
  pub record Keeps (now : ℕ) (places : List Station) (s : PortsState A) : Type 0 where
    pub places_are : places_of s.ports ≡ places
    pub before : (l : SitePort A) → Has s.ports l → moment_of l ≤ now
    pub waits : (l : SitePort A) → Has s.ports l → IsGood l
    pub puts : (o : PortSent A) → Has s.out o → PutIsGood places o

  -- what a port at this place puts out is good
  abbrev SentIsGood : Station → List (Sent A) → Type 0
  SentIsGood x ss = (s : Sent A) → Has ss s → (p : Parcel A) → Carries x.mac s.to s.octets s.stamp p → Good x p

  over_good : (places : List Station) (port : ℕ) (x : Station) (ss : List (Sent A)) → slice_get places port ≡ Some x →
      SentIsGood x ss → (o : PortSent A) → IsOver port ss o → PutIsGood places o
  over_good places port x ss at sent o over = record {
    good = λ y is p c.
        let there = subst (λ (q : PortSent A). slice_get places q.port ≡ Some y) over.is is in
        let same : x ≡ y = some_same x y (sym at ∙ there) in
        let carried = subst (λ (q : PortSent A). Carries y.mac q.sent.to q.sent.octets q.sent.stamp p) over.is c in
        subst (λ (z : Station). Good z p) same (sent over.sent over.there p
        (subst (λ (z : Station). Carries z.mac over.sent.to over.sent.octets over.sent.stamp p) (sym same) carried));
  }

  -- a port is where it is among these places
  at_place : (now : ℕ) (places : List Station) (s : PortsState A) (port : ℕ) (l : SitePort A) → Keeps now places s →
      slice_get s.ports port ≡ Some l → slice_get places port ≡ Some (station_of l)
  at_place now places s port l k there =
      ap (λ (xs : List Station). slice_get xs port) (sym k.places_are)
      ∙ mapped_at (λ m. station_of m) s.ports port l there

  -- a step of one port, of which all that waits then and all that it puts out is good
  step_keeps : (now : ℕ) (does : SitePort A → LinkStep A → SitePort A → Type 0) (places : List Station) (port : ℕ)
      (old new : PortsState A) → Keeps now places old → (steps : Steps does port old new) →
      station_of steps.left ≡ station_of steps.link → moment_of steps.left ≡ now →
      ((p : Parcel A) → Has (waiting_in steps.left) p → Good (station_of steps.link) p) →
      SentIsGood (station_of steps.link) steps.step.out → Keeps now places new
  step_keeps now does places port old new k steps place at_now kept sent =
      let at = at_place now places old port steps.link k steps.there in
      record {
        places_are = ap (λ (xs : List (SitePort A)). places_of xs) steps.ports
            ∙ mapped_set (λ m. station_of m) old.ports port steps.link steps.left steps.there place ∙ k.places_are;
        before = λ l h. ⊎_elim
            (λ (e : steps.left ≡ l). subst (λ (m : SitePort A). moment_of m ≤ now) e (omega (arith, at_now)))
            (λ (there : Has old.ports l). k.before l there)
            (set_has old.ports port steps.left l (subst (λ (xs : List (SitePort A)). Has xs l) steps.ports h));
        waits = λ l h. ⊎_elim
            (λ (e : steps.left ≡ l). subst (λ (m : SitePort A). IsGood m) e
            (λ p there. subst (λ (x : Station). Good x p) (sym place) (kept p there)))
            (λ (there : Has old.ports l). k.waits l there)
            (set_has old.ports port steps.left l (subst (λ (xs : List (SitePort A)). Has xs l) steps.ports h));
        puts = λ o h. ⊎_elim (λ (there : Has old.out o). k.puts o there)
            (λ (fresh : Has (over_port port steps.step.out) o).
            over_good places port (station_of steps.link) steps.step.out at sent o (over_has port steps.step.out o fresh))
            (has_either old.out (over_port port steps.step.out)
            (subst (λ (xs : List (PortSent A)). Has xs o) steps.puts h));
      }

  -- nothing changes
  same_keeps : (now : ℕ) (places : List Station) (old new : PortsState A) → Keeps now places old → new ≡ old →
      Keeps now places new
  same_keeps now places old new k same = subst (λ (s : PortsState A). Keeps now places s) (sym same) k

  either_good : (l : SitePort A) (q : Parcel A) → IsGood l → Good (station_of l) q → (p : Parcel A) →
      Has (waiting_in l ++ q ∷ []) p → Good (station_of l) p
  either_good l q good said p there = ⊎_elim (λ (waits : Has (waiting_in l) p). good p waits)
      (λ (e : q ≡ p). subst (λ (x : Parcel A). Good (station_of l) x) e said) (has_split (waiting_in l) q there)

  -- what goes down over one of these ports is good
  abbrev pub SaidIsGood : List Station → PortParcel A → Type 0
  SaidIsGood places o = (x : Station) → slice_get places o.port ≡ Some x → Good x o.parcel

  -- .. all of it is
  abbrev pub AreGood : List Station → List (PortParcel A) → Type 0
  AreGood places said = (o : PortParcel A) → Has said o → SaidIsGood places o

  -- where all that waits and the one parcel that goes down is good, so is all that goes out, and what waits then
  one_keeps : (places : List Station) (now : ℕ) (o : PortParcel A) (old new : PortsState A) → Keeps now places old →
      SaidIsGood places o → DownsOne now o.port o.parcel old new → Keeps now places new
  one_keeps places now o old new k said (inl steps) =
      let does = carries_down now o.parcel steps.link steps.step steps.left steps.made in
      let good = k.waits steps.link (has o.port steps.there) in
      let one = said (station_of steps.link) (at_place now places old o.port steps.link k steps.there) in
      step_keeps now (site.Downs now o.parcel) places o.port old new k steps does.place does.at
      (λ p there. either_good steps.link o.parcel good one p (does.kept.each p there))
      (λ s there p c. either_good steps.link o.parcel good one p ((does.puts.each s there).only p c))
  one_keeps places now o old new k said (inr misses) = same_keeps now places old new k misses.same

  -- where all that waits and all that goes down is good, so is all that goes out, and what waits then
  pub each_keeps : (places : List Station) (now : ℕ) (said : List (PortParcel A)) (old new : PortsState A) →
      Keeps now places old → AreGood places said → DownsEach now said old new → Keeps now places new
  each_keeps places now [] old new k all done = same_keeps now places old new k done
  each_keeps places now (o ∷ os) old new k all done =
      each_keeps places now os done.middle new (one_keeps places now o old done.middle k (all o (has 0 refl)) done.first)
      (λ q there. all q (has_next o os there)) done.rest

  -- where all that waits is good, so is all that goes out where the ports wake
  pub wakes_keep : (places : List Station) (now first count : ℕ) (old new : PortsState A) → Keeps now places old →
      WakesFrom now first count old new → Keeps now places new
  wakes_keep places now first zero old new k done = same_keeps now places old new k done
  wakes_keep places now first (suc count) old new k done =
      let steps = done.first in
      let does = carries_on now steps.link steps.step steps.left steps.made in
      let good = k.waits steps.link (has first steps.there) in
      wakes_keep places now (first + 1) count done.middle new
      (step_keeps now (site.Wakes now) places first old done.middle k steps does.place does.at
      (λ p there. good p (does.kept.each p there)) (λ s there p c. good p ((does.puts.each s there).only p c)))
      done.rest

  -- where all that waits is good, so is all that goes out where octets are heard, and what waits then
  pub heard_keeps : (places : List Station) (now port : ℕ) (from : Mac) (octets : List ℕ) (stamp : ℕ)
      (old : PortsState A) (up : Option (Parcel A)) (new : PortsState A) → Keeps now places old →
      HearsAt now port from octets stamp old up new → Keeps now places new
  heard_keeps places now port from octets stamp old up new k (inl steps) =
      let does = carries_up now from octets stamp steps.link steps.step steps.left (steps.made.0) in
      let good = k.waits steps.link (has port steps.there) in
      step_keeps now (λ l s m. site.Hears now from octets stamp l s m × (up ≡ s.up)) places port old new k steps
      does.place does.at (λ p there. good p (does.kept.each p there))
      (λ s there p c. good p ((does.puts.each s there).only p c))
  heard_keeps places now port from octets stamp old up new k (inr misses) =
      same_keeps now places old new k (misses.0.same)

  -- .. at any other step of a port
  on_keeps : (does : SitePort A → LinkStep A → SitePort A → Type 0) (now : ℕ)
      (law : (old : SitePort A) (step : LinkStep A) (new : SitePort A) → does old step new →
      CarriesOn Carries station_of moment_of waiting_in now old step new) (places : List Station) (port : ℕ)
      (old new : PortsState A) → Keeps now places old → Steps does port old new → Keeps now places new
  on_keeps does now law places port old new k steps =
      let done = law steps.link steps.step steps.left steps.made in
      let good = k.waits steps.link (has port steps.there) in
      step_keeps now does places port old new k steps done.place done.at
      (λ p there. good p (done.kept.each p there)) (λ s there p c. good p ((done.puts.each s there).only p c))

  pub registers_keep : (places : List Station) (now port : ℕ) (old new : PortsState A) → Keeps now places old →
      RegistersAt now port old new → Keeps now places new
  registers_keep places now port old new k (inl steps) =
      on_keeps (site.Registers now) now (λ l s m d. carries_registering now l s m d) places port old new k steps
  registers_keep places now port old new k (inr misses) = same_keeps now places old new k misses.same

  pub counts_keep : (places : List Station) (count now port : ℕ) (old new : PortsState A) → Keeps now places old →
      CountsAt count now port old new → Keeps now places new
  counts_keep places count now port old new k (inl steps) =
      on_keeps (site.Counts count now) now (λ l s m d. carries_counting count now l s m d) places port old new k steps
  counts_keep places count now port old new k (inr misses) = same_keeps now places old new k misses.same

-- what comes up of octets that are heard is what they carry, for the port that heard them
pub record ComesUp {A : Type 0} (places : List Station) (port : ℕ) (from : Mac) (octets : List ℕ) (stamp : ℕ)
    (p : Parcel A) : Type 0 where
  pub place : Station
  pub at_port : slice_get places port ≡ Some place
  pub handed : HandsUp Carries from place.mac octets stamp p

pub heard_comes_up : {A : Type 0} (places : List Station) (now port : ℕ) (from : Mac) (octets : List ℕ) (stamp : ℕ)
    (old new : PortsState A) (p : Parcel A) → places_of old.ports ≡ places →
    HearsAt now port from octets stamp old (Some p) new → ComesUp places port from octets stamp p
heard_comes_up {A} places now port from octets stamp old new p are (inl steps) =
    let does = carries_up now from octets stamp steps.link steps.step steps.left (steps.made.0) in
    record {
      place = station_of steps.link;
      at_port = ap (λ (xs : List Station). slice_get xs port) (sym are)
          ∙ mapped_at (λ m. station_of m) old.ports port steps.link steps.there;
      handed = subst (λ (u : Option (Parcel A)). HandsUpIf Carries from (station_of steps.link).mac octets stamp u)
          (sym (steps.made.1)) does.up;
    }
heard_comes_up places now port from octets stamp old new p are (inr misses) = absurd (cc (misses.1))
