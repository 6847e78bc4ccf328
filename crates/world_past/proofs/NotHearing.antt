-- What an ear refuses in what is kept it refuses in the whole.
use Rattle.std.proofs.Common.{◌≡◌, ◌∙◌, inl, inr, refl, sym, ap, subst, ℕ, List, [], ◌∷◌}
use Rattle.std.specs.Prelude.{slice_get}
use Rattle.bus_traffic.specs.Bus.{BusState}
use Rattle.bus_traffic.specs.Finding.{is_of, place_of}
use Rattle.bus_traffic.specs.declared.ear.Ear.{Ear}
use Rattle.bus_traffic.specs.declared.hearing.Ending.{Ending}
use Rattle.bus_traffic.specs.declared.hearing.Ending.TheVariants.{Refused}
use Rattle.bus_traffic.specs.declared.hearing.HeardFrame.{HeardFrame}
use Rattle.buses.specs.Finding.{HasEarOf}
use Rattle.tags.specs.declared.fault.Fault.{Fault}
use Rattle.tags.specs.declared.fault.Fault.TheVariants.{Expired, Forged}
use Rattle.world.specs.Hearing.{HasListener, HasNoListener, Listens, RefusesFrame, RefusesHeard, RefusesOctets, RefusesOne, Takes, TakesEach}
use Rattle.world.specs.World.{WorldState}
use Rattle.world.specs.declared.happening.Happening.TheVariants as happening
use Rattle.world.specs.declared.listener.Listener.{Listener}
use Rattle.world.specs.site_ports.Ports.{Then}
use Rattle.world.specs.world_log.Growing.{WorldHistory}
use Rattle.world_past.proofs.BusLaws.{numbered}
use Rattle.world_past.proofs.EachLaws.{each_back, each_get}
use Rattle.world_past.proofs.HearLaws.{EndsAs, HearsThere, each_keeps, ended, heard_there, take_over}
use Rattle.world_past.proofs.KeepingLaws.{over, over_is}
use Rattle.world.specs.Keeping.{Keeps}
use Rattle.bus_traffic.specs.Forgetting.{KeepsBus, KeepsEach}
use Rattle.world_past.specs.Refusing.{RefusesIt}

-- an ear of the whole is one of what is kept, and the other way round
kept_ear : {A : Type 0} (now net address : ℕ) (bs cs : List (BusState A)) → KeepsEach (KeepsBus now) bs cs →
    HasEarOf net address cs → HasEarOf net address bs
kept_ear now net address bs cs p x =
    let k = each_get (KeepsBus now) bs cs x.bus_place x.bus p x.found.bus_there in
    let one = k.keeps in record {
      bus_place = x.bus_place;
      bus = k.one;
      ear_place = x.ear_place;
      ear = x.ear;
      found = record {
        numbered = sym (numbered now net bs cs p) ∙ x.found.numbered;
        bus_there = k.there;
        addressed = sym (ap (λ (es : List Ear). place_of (is_of address) es) one.ears) ∙ x.found.addressed;
        ear_there = sym (ap (λ (es : List Ear). slice_get es x.ear_place) one.ears) ∙ x.found.ear_there;
      };
    }

whole_ear : {A : Type 0} (now net address : ℕ) (bs cs : List (BusState A)) → KeepsEach (KeepsBus now) bs cs →
    HasEarOf net address bs → HasEarOf net address cs
whole_ear now net address bs cs p x =
    let k = each_get (λ c b. KeepsBus now b c) cs bs x.bus_place x.bus (each_back (KeepsBus now) bs cs p)
    x.found.bus_there in
    let one = k.keeps in record {
      bus_place = x.bus_place;
      bus = k.one;
      ear_place = x.ear_place;
      ear = x.ear;
      found = record {
        numbered = numbered now net bs cs p ∙ x.found.numbered;
        bus_there = k.there;
        addressed = ap (λ (es : List Ear). place_of (is_of address) es) one.ears ∙ x.found.addressed;
        ear_there = ap (λ (es : List Ear). slice_get es x.ear_place) one.ears ∙ x.found.ear_there;
      };
    }

-- who listens
listens_over : {A : Type 0} (network place : ℕ) (w k : WorldState A) (l : Listener) →
    Listens network place (over w k) l → Listens network place w l
listens_over network place w k l s = record { n = s.n; there = s.there; at = s.at; with = s.with }

listens_back : {A : Type 0} (network place : ℕ) (w k : WorldState A) (l : Listener) →
    Listens network place w l → Listens network place (over w k) l
listens_back network place w k l s = record { n = s.n; there = s.there; at = s.at; with = s.with }

module _ {A : Type 0} (past : WorldHistory A) where
  pub listener_over : (w k : WorldState A) → Keeps past w k → (network place : ℕ) →
      HasListener network place (over w k) → HasListener network place w
  listener_over w k p network place h = record {
    listener = h.listener;
    listens = listens_over network place w k h.listener h.listens;
    ear = kept_ear w.moment network h.listener.mac w.buses.buses k.buses.buses p.buses.each h.ear;
  }

  pub none_over : (w k : WorldState A) → Keeps past w k → (network place : ℕ) →
      HasNoListener network place (over w k) → HasNoListener network place w
  none_over w k p network place nobody = record {
    none = λ h. nobody.none (record {
      listener = h.listener;
      listens = listens_back network place w k h.listener h.listens;
      ear = whole_ear w.moment network h.listener.mac w.buses.buses k.buses.buses p.buses.each h.ear;
    });
  }

  frame_over : (w k : WorldState A) (l : Listener) (fault : Fault) (f : HeardFrame A) →
      RefusesFrame l fault f (over w k) → RefusesFrame l fault f w
  frame_over w k l fault f r = record { n = r.n; there = r.there; refuses = r.refuses }

  -- a node refuses a frame, once those before it were heard
  one_refused : (w k : WorldState A) → Keeps past w k → (l : Listener) (fault : Fault) (fs : List (HeardFrame A)) →
      RefusesOne l fault fs k → RefusesOne l fault fs w
  one_refused w k p l fault [] r = absurd r
  one_refused w k p l fault (f ∷ fs) (inl r) = inl (frame_over w k l fault f
      (subst (λ (x : WorldState A). RefusesFrame l fault f x) (over_is past w k p) r))
  one_refused w k p l fault (f ∷ fs) (inr t) =
      let a = take_over past w k t.middle p l f
      (subst (λ (x : WorldState A). Takes l f x t.middle) (over_is past w k p) t.first) in
      inr (record { middle = a.middle; first = a.first; rest = one_refused a.middle t.middle a.rest l fault fs t.rest })

refused_same : {A : Type 0} (f g : Fault) (end : Ending A) → end ≡ Refused f → end ≡ Refused g → f ≡ g
refused_same f g end e q = cc

module _ {A : Type 0} (past : WorldHistory A) (w k : WorldState A) (p : Keeps past w k) (network place : ℕ)
    (octets : List ℕ) (fault : Fault) (r : RefusesOctets network place octets (over w k) fault) where
  over_keeps : Keeps past w (over w k)
  over_keeps = subst (λ (x : WorldState A). Keeps past w x) (over_is past w k p) p

  found : HearsThere w.moment network r.listener.mac octets w.buses.buses r.at
  found = heard_there w.moment network r.listener.mac octets w.buses.buses k.buses.buses r.at p.buses.each r.heard

  -- the whole refuses the octets with this fault
  so : (whole : Fault) → RefusesHeard r.listener (ended found.ending r.at) w whole →
      RefusesOctets network place octets w whole
  so whole why = record {
    listener = r.listener;
    at = ended found.ending r.at;
    listens = listens_over network place w k r.listener r.listens;
    heard = found.heard;
    why = why;
  }

  ends_so : r.at.hearing.ending ≡ Refused fault →
      Then (TakesEach r.listener r.at.hearing.frames w) (λ u. Unit {0}) →
      EndsAs r.at.hearing.ending found.ending → RefusesIt (happening.Hear network place octets) w fault
  ends_so e t (inl same) = record {
    whole = fault;
    refused = inr (inr (so fault (inr (same ∙ e, t))));
    named = inl refl;
  }
  ends_so e t (inr other) = record {
    whole = Expired;
    refused = inr (inr (so Expired (inr (other.1, t))));
    named = inr (record {
      forged = refused_same fault Forged r.at.hearing.ending e other.0;
      expired = refl;
    });
  }

  octets_by : RefusesHeard r.listener r.at (over w k) fault → RefusesIt (happening.Hear network place octets) w fault
  octets_by (inl one) = record {
    whole = fault;
    refused = inr (inr (so fault (inl
        (one_refused past w (over w k) over_keeps r.listener fault r.at.hearing.frames one))));
    named = inl refl;
  }
  octets_by (inr end) =
      let t = end.1 in
      let a = each_keeps past r.listener r.at.hearing.frames w (over w k) t.middle over_keeps t.first in
      ends_so end.0 (record { middle = a.middle; first = a.first; rest = tt }) found.ends

  pub octets_over : RefusesIt (happening.Hear network place octets) w fault
  octets_over = octets_by r.why
