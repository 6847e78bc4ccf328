-- What an ear hears in what is kept it hears in the whole.
use Rattle.std.proofs.Common.{◌≡◌, ◌∙◌, ◌⊎◌, inl, inr, refl, sym, ap, subst, ℕ, zero, suc, List, [], ◌∷◌, length}
use Rattle.std.specs.Prelude.{Result, Ok, Err, slice_get}
use Rattle.bus_traffic.specs.Bus.{BusState}
use Rattle.bus_traffic.specs.Ears.{kept_at}
use Rattle.bus_traffic.specs.Finding.{is_of, place_of}
use Rattle.bus_traffic.specs.Hearing.{Hears, accepts, over, refuses}
use Rattle.bus_traffic.specs.Sendings.{judged_by, known_of}
use Rattle.bus_traffic.specs.declared.ear.Ear.{Ear}
use Rattle.bus_traffic.specs.declared.hearing.Ending.{Ending}
use Rattle.bus_traffic.specs.declared.hearing.Ending.TheVariants.{Over, Refused}
use Rattle.bus_traffic.specs.declared.hearing.HeardFrame.{HeardFrame}
use Rattle.buses.specs.Hearing.{HearsAt, heard_at}
use Rattle.buses.specs.declared.buses.EarHearing.{EarHearing}
use Rattle.tags.specs.declared.fault.Fault.{Fault}
use Rattle.tags.specs.declared.fault.Fault.TheVariants.{Expired, Forged}
use Rattle.world.specs.Hearing as hearing
use Rattle.world.specs.Hearing.{IsTold, IsToldOf, Listens, Settles, Takes, TakesAll, TakesEach}
use Rattle.world.specs.World.{WorldState}
use Rattle.world.specs.declared.listener.Listener.{Listener}
use Rattle.world.specs.site_ports.Ports.{Then}
use Rattle.world.specs.world_log.Growing.{WorldHistory}
use Rattle.world_past.proofs.BusLaws.{buses_heard, numbered}
use Rattle.world_past.proofs.EachLaws.{each_get}
use Rattle.world_past.proofs.KeepingLaws as keeping
use Rattle.world_past.proofs.KeepingLaws.{acts_keep, over_is}
use Rattle.world_past.proofs.StampLaws.{RefusesToo, judges_not, judges_on}
use Rattle.world.specs.Keeping.{Keeps}
use Rattle.bus_traffic.specs.Forgetting.{KeepsBus, KeepsEach}

-- octets end so in the whole where they end so in what is kept
abbrev pub EndsAs : {A : Type 0} → (kept whole : Ending A) → Type 0
EndsAs kept whole = (whole ≡ kept) ⊎ ((kept ≡ Refused Forged) × (whole ≡ Refused Expired))

-- the same frames are heard, up to such an end
pub record HearsToo (A : Type 0) (judge : List ℕ → Result ℕ Fault) (kept octets : List ℕ) (fs : List (HeardFrame A))
    (end : Ending A) : Type 0 where
  pub ending : Ending A
  pub hears : Hears A judge kept octets fs ending
  pub ends : EndsAs end ending

refused_as : {A : Type 0} (whole fault : Fault) → (whole ≡ fault) ⊎ ((fault ≡ Forged) × (whole ≡ Expired)) →
    EndsAs {A = A} (Refused fault) (Refused whole)
refused_as whole fault (inl e) = inl (ap (λ (f : Fault). Refused f) e)
refused_as whole fault (inr e) = inr (ap (λ (f : Fault). Refused f) e.0, ap (λ (f : Fault). Refused f) e.1)

module _ (A : Type 0) (some all : List ℕ → Result ℕ Fault)
    (on : (octets : List ℕ) (stamp : ℕ) → some octets ≡ Ok stamp → all octets ≡ Ok stamp)
    (not : (octets : List ℕ) (fault : Fault) → some octets ≡ Err fault → RefusesToo (all octets) fault) where
  hears_too : (kept octets : List ℕ) (fs : List (HeardFrame A)) (end : Ending A) → Hears A some kept octets fs end →
      HearsToo A all kept octets fs end
  hears_too _ _ _ _ (over kept octets after ends) = record {
    ending = Over (length octets) after;
    hears = over kept octets after ends;
    ends = inl refl;
  }
  hears_too _ _ _ _ (refuses kept octets whole after used fault ends e) = let r = not whole fault e in record {
    ending = Refused r.whole;
    hears = refuses kept octets whole after used r.whole ends r.refused;
    ends = refused_as r.whole fault r.named;
  }
  hears_too _ _ _ _ (accepts kept octets after f fs end ends ok more) =
      let r = hears_too after _ fs end more in record {
        ending = r.ending;
        hears = accepts kept octets after f fs r.ending ends (on f.octets f.stamp ok) r.hears;
        ends = r.ends;
      }

-- what an ear makes of octets, but for how they end
abbrev pub ended : {A : Type 0} → Ending A → EarHearing A → EarHearing A
ended end h = record { bus = h.bus; ear = h.ear; hearing = record { frames = h.hearing.frames; ending = end } }

-- the ear at an address hears the same frames, up to such an end
pub record HearsThere {A : Type 0} (now net address : ℕ) (octets : List ℕ) (buses : List (BusState A))
    (h : EarHearing A) : Type 0 where
  pub ending : Ending A
  pub heard : HearsAt now net address octets buses (ended ending h)
  pub ends : EndsAs h.hearing.ending ending

pub heard_there : {A : Type 0} (now net address : ℕ) (octets : List ℕ) (bs cs : List (BusState A)) (h : EarHearing A) →
    KeepsEach (KeepsBus now) bs cs → HearsAt now net address octets cs h →
    HearsThere now net address octets bs h
heard_there {A} now net address octets bs cs h p x =
    let k = each_get (KeepsBus now) bs cs h.bus x.bus p x.found.bus_there in
    let one = k.keeps in
    let r = hears_too A (λ whole. judged_by now (known_of whole x.bus.known))
    (λ whole. judged_by now (known_of whole k.one.known))
    (λ o s ok. judges_on now s (known_of o k.one.known) (known_of o x.bus.known) (one.known o) ok)
    (λ o fault err. judges_not now (known_of o k.one.known) (known_of o x.bus.known) fault (one.known o) err)
    (kept_at now octets x.ear) octets h.hearing.frames h.hearing.ending x.hears in record {
      ending = r.ending;
      heard = record {
        bus = k.one;
        ear = x.ear;
        found = record {
          numbered = sym (numbered now net bs cs p) ∙ x.found.numbered;
          bus_there = k.there;
          addressed = sym (ap (λ (es : List Ear). place_of (is_of address) es) one.ears) ∙ x.found.addressed;
          ear_there = sym (ap (λ (es : List Ear). slice_get es h.ear) one.ears) ∙ x.found.ear_there;
        };
        hears = r.hears;
      };
      ends = r.ends;
    }

module _ {A : Type 0} (past : WorldHistory A) where
  -- a node hears a frame
  pub take_over : (w k m : WorldState A) → Keeps past w k → (l : Listener) (f : HeardFrame A) →
      Takes l f (keeping.over w k) m → Then (Takes l f w) (λ v. Keeps past v m)
  take_over w k m p l f s = let a = acts_keep past w k p m l.place s.n s.next s.told s.acts in record {
    middle = a.middle;
    first = record { n = s.n; stands = s.stands; next = s.next; told = s.told; hears = s.hears; acts = a.first };
    rest = a.rest;
  }

  -- frames are heard one after another
  pub each_keeps : (l : Listener) (fs : List (HeardFrame A)) (w k m : WorldState A) → Keeps past w k →
      TakesEach l fs k m → Then (TakesEach l fs w) (λ v. Keeps past v m)
  each_keeps l [] w k m p e = record {
    middle = w;
    first = refl;
    rest = subst (λ (x : WorldState A). Keeps past w x) (sym e) p;
  }
  each_keeps l (f ∷ fs) w k m p t =
      let a = take_over w k t.middle p l f
      (subst (λ (x : WorldState A). Takes l f x t.middle) (over_is past w k p) t.first) in
      let b = each_keeps l fs a.middle t.middle m a.rest t.rest in record {
        middle = b.middle;
        first = record { middle = a.middle; first = a.first; rest = b.first };
        rest = b.rest;
      }

  -- a port is told of octets
  told_over : (w k m : WorldState A) → Keeps past w k → (l : Listener) (count : ℕ) →
      IsToldOf l count (keeping.over w k) m → Then (IsToldOf l count w) (λ v. Keeps past v m)
  told_over w k m p l count s = let a = acts_keep past w k p m l.place s.n s.next s.told s.acts in record {
    middle = a.middle;
    first = record { n = s.n; stands = s.stands; next = s.next; told = s.told; counts = s.counts; acts = a.first };
    rest = a.rest;
  }

  told_keeps : (l : Listener) (count : ℕ) (w k m : WorldState A) → Keeps past w k → IsTold l count k m →
      Then (IsTold l count w) (λ v. Keeps past v m)
  told_keeps l zero w k m p e = record {
    middle = w;
    first = refl;
    rest = subst (λ (x : WorldState A). Keeps past w x) (sym e) p;
  }
  told_keeps l (suc n) w k m p t = told_over w k m p l (suc n)
      (subst (λ (x : WorldState A). IsToldOf l (suc n) x m) (over_is past w k p) t)

  all_keeps : (l : Listener) (fs : List (HeardFrame A)) (rest : ℕ) (w k m : WorldState A) → Keeps past w k →
      TakesAll l fs rest k m → Then (TakesAll l fs rest w) (λ v. Keeps past v m)
  all_keeps l fs rest w k m p t =
      let a = each_keeps l fs w k t.middle p t.first in
      let b = told_keeps l rest a.middle t.middle m a.rest t.rest in record {
        middle = b.middle;
        first = record { middle = a.middle; first = a.first; rest = b.first };
        rest = b.rest;
      }

  -- an ear keeps what is left of the octets
  ear_over : (w k m : WorldState A) → Keeps past w k → (bus_place ear_place : ℕ) (octets kept : List ℕ) →
      hearing.Keeps bus_place ear_place octets kept (keeping.over w k) m →
      Then (hearing.Keeps bus_place ear_place octets kept w) (λ v. Keeps past v m)
  ear_over w k m p bus_place ear_place octets kept s =
      let b = each_get (KeepsBus w.moment) w.buses.buses k.buses.buses bus_place s.bus p.buses.each s.bus_there in
      let one = b.keeps in
      let v : WorldState A = record w {
        buses = heard_at w.moment bus_place ear_place octets kept s.ear b.one w.buses;
      } in record {
        middle = v;
        first = record {
          bus = b.one;
          ear = s.ear;
          bus_there = b.there;
          ear_there = sym (ap (λ (es : List Ear). slice_get es ear_place) one.ears) ∙ s.ear_there;
          is = refl;
        };
        rest = subst (λ (x : WorldState A). Keeps past v x) (sym s.is) (record {
          site = refl;
          moment = refl;
          nodes = refl;
          items = p.items;
          buses = buses_heard w.moment bus_place ear_place octets kept s.ear b.one s.bus w.buses k.buses one p.buses;
          keys = p.keys;
          history = p.history;
          first_entry = p.first_entry;
          gone = p.gone;
          said = p.said;
          first_said = p.first_said;
        });
      }

  ear_keeps : (w k m : WorldState A) → Keeps past w k → (bus_place ear_place : ℕ) (octets kept : List ℕ) →
      hearing.Keeps bus_place ear_place octets kept k m →
      Then (hearing.Keeps bus_place ear_place octets kept w) (λ v. Keeps past v m)
  ear_keeps w k m p bus_place ear_place octets kept s = ear_over w k m p bus_place ear_place octets kept
      (subst (λ (x : WorldState A). hearing.Keeps bus_place ear_place octets kept x m) (over_is past w k p) s)

  is_over : (end whole : Ending A) (rest : ℕ) (kept : List ℕ) → end ≡ Over rest kept → EndsAs end whole →
      whole ≡ Over rest kept
  is_over end whole rest kept e (inl same) = same ∙ e
  is_over end whole rest kept e (inr other) =
      absurd (let none = sym other.0 ∙ e in cc none)

  -- octets are heard
  pub hear_over : (w k m : WorldState A) → Keeps past w k → (network place : ℕ) (octets : List ℕ) →
      hearing.Hears network place octets (keeping.over w k) m →
      Then (hearing.Hears network place octets w) (λ v. Keeps past v m)
  hear_over w k m p network place octets s =
      let there = heard_there w.moment network s.listener.mac octets w.buses.buses k.buses.buses s.at p.buses.each
      s.heard in
      let y = s.settles in
      let a = all_keeps s.listener s.at.hearing.frames y.rest w (keeping.over w k) y.does.middle
      (subst (λ (x : WorldState A). Keeps past w x) (over_is past w k p) p) y.does.first in
      let b = ear_keeps a.middle y.does.middle m a.rest s.at.bus s.at.ear octets y.kept y.does.rest in record {
        middle = b.middle;
        first = record {
          listener = s.listener;
          at = ended there.ending s.at;
          listens = record {
            n = s.listens.n;
            there = s.listens.there;
            at = s.listens.at;
            with = s.listens.with;
          };
          heard = there.heard;
          settles = record {
            rest = y.rest;
            kept = y.kept;
            over = is_over s.at.hearing.ending there.ending y.rest y.kept y.over there.ends;
            does = record { middle = a.middle; first = a.first; rest = b.first };
          };
        };
        rest = b.rest;
      }
