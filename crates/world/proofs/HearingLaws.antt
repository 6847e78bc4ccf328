-- Who hears on a bus, and what comes of what is heard, one thing after another.
use Rattle.std.proofs.Common.{◌≡◌, ◌∙◌, ◌⊎◌, inl, inr, refl, sym, ap, subst, arith, ◌≤◌, ◌<◌, ◌-◌, ℕ, zero, suc, List, [], ◌∷◌, drop, length, take, Some, None}
use Rattle.std.specs.Prelude.{slice_get, slice_index_or, slice_set}
use Rattle.bus_traffic.specs.Bus.{BusState}
use Rattle.bus_traffic.specs.declared.hearing.HeardFrame.{HeardFrame}
use Rattle.buses.proofs.KnownLaws.{ears_stay}
use Rattle.buses.specs.Finding.{HasEarAt, HasEarOf, HasNoEarOf, IsEarOf}
use Rattle.buses.specs.Hearing.{HearsAt}
use Rattle.buses.specs.Puts.{BusesState}
use Rattle.buses.specs.declared.buses.EarHearing.{EarHearing}
use Rattle.world_log.specs.node_laws.Stands as node
use Rattle.npdu.specs.declared.mac.Mac.TheVariants.{One}
use Rattle.npdu.specs.declared.mac.Station.{Station}
use Rattle.world_log.specs.site_node.Node.{NodeState, node_places}
use Rattle.world_log.specs.site_node.Plan.{left_by}
use Rattle.world_log.specs.site_node.Refusals.{FrameIsRefused}
use Rattle.world_log.specs.site_node.Steps.{NodeCounts, NodeHearsFrame}
use Rattle.world_log.specs.site_node.declared.plan.PartPlan.{PartPlan}
use Rattle.world_log.specs.site_ports.Ports.{Then}
use Rattle.world_log.specs.site_ports.declared.draft.Draft.{Draft}
use Rattle.tags.specs.declared.fault.Fault.{Fault}
use Rattle.tags.specs.declared.fault.Fault.TheVariants.{Memory, NoSuch}
use Rattle.world.proofs.EventLaws.{the_one}
use Rattle.world.proofs.Standing.{some_same}
use Rattle.world.specs.Acting.{Acts}
use Rattle.world.specs.Doing.{IsDone, told_of}
use Rattle.world.specs.Hearing.{HasListener, HasNoListener, IsOne, IsTold, IsToldOf, Listens, RefusesFrame, RefusesHeard, RefusesOne, Takes, TakesAll, TakesEach}
use Rattle.world.specs.Refusals.{HappeningIsRefused, Of}
use Rattle.world.specs.World.{WorldState}
use Rattle.world.specs.declared.happening.Happening.TheVariants as happening
use Rattle.world.specs.declared.listener.Listener.{Listener}
use Rattle.world_log.specs.Growing.{frames_at}
use Rattle.world_log.specs.declared.log.Cause.TheVariants as cause
use Rattle.world_sites.specs.Listening.{HearsWith, HearsWithNone}

-- what is heard with is one port and one address
same_mac : (network : ℕ) (xs : List Station) (p q a b : ℕ) → HearsWith network xs p a → HearsWith network xs q b → a ≡ b
same_mac network xs p q a b g h =
    let same : p ≡ q = some_same p q (sym g.numbered ∙ h.numbered) in
    let is : slice_get xs q ≡ Some (record { net = network; mac = One a }) =
    ap (λ (k : ℕ). slice_get xs k) (sym same) ∙ g.at in
    octet_is (some_same (with_octet a) (with_octet b) (sym is ∙ h.at))
  where
    with_octet : ℕ → Station
    with_octet mac = record { net = network; mac = One mac }

    one_is : One a ≡ One b → a ≡ b
    one_is q = cc q

    octet_is : with_octet a ≡ with_octet b → a ≡ b
    octet_is e = one_is (ap (λ (x : Station). x.mac) e)

module _ {A : Type 0} (w : WorldState A) (network place : ℕ) where
  -- all that listen at a place have one address
  one_listener : (l m : Listener) → Listens network place w l → Listens network place w m → l.mac ≡ m.mac
  one_listener l m g h =
      let is : g.n ≡ h.n = some_same g.n h.n (sym g.there ∙ h.there) in
      same_mac network (node_places h.n) l.port m.port l.mac m.mac
      (subst (λ (n : NodeState A). HearsWith network (node_places n) l.port l.mac) is g.with) h.with

  -- where that has no ear nobody has
  pub no_ear : (l : Listener) → Listens network place w l → HasNoEarOf network l.mac w.buses.buses →
      HasNoListener network place w
  no_ear l listens none = record {
    none = λ h. let same = one_listener h.listener l h.listens listens in
        none.none h.ear.bus_place h.ear.bus h.ear.ear_place h.ear.ear
        (subst (λ (mac : ℕ). IsEarOf network mac w.buses.buses h.ear.bus_place h.ear.bus h.ear.ear_place h.ear.ear) same
        h.ear.found);
  }

  -- where no node is there, or it hears with none of its ports, nobody listens
  pub no_node : slice_get w.nodes place ≡ None → HasNoListener network place w
  no_node none = record {
    none = λ h. let no : None ≡ Some h.listens.n = sym none ∙ h.listens.there in absurd (cc no);
  }

  pub none_hears : (n : NodeState A) → slice_get w.nodes place ≡ Some n → HearsWithNone network (node_places n) →
      HasNoListener network place w
  none_hears n there none = record {
    none = λ h. none.none h.listener.port h.listener.mac (subst (λ (m : NodeState A).
        HearsWith network (node_places m) h.listener.port h.listener.mac)
        (some_same h.listens.n n (sym h.listens.there ∙ there)) h.listens.with);
  }

  pub listens_so : (n : NodeState A) (port mac : ℕ) → slice_get w.nodes place ≡ Some n →
      HearsWith network (node_places n) port mac →
      Listens network place w (record { place = place; port = port; mac = mac })
  listens_so n port mac there with = record { n = n; there = there; at = refl; with = with }

pub there_within : {X : Type 0} (xs : List X) (n : ℕ) (x : X) → slice_get xs n ≡ Some x → n < length xs
there_within [] n x e = absurd (cc e)
there_within (y ∷ ys) zero x e = omega arith
there_within (y ∷ ys) (suc n) x e = let rest = there_within ys n x e in omega (arith, rest)

pub ruleset listener_rules = (no_node, none_hears, listens_so, there_within)

set_length : {X : Type 0} (xs : List X) (n : ℕ) (x : X) → length (slice_set xs n x) ≡ length xs
set_length [] n x = refl
set_length (y ∷ ys) zero x = refl
set_length (y ∷ ys) (suc n) x = ap (λ (m : ℕ). suc m) (set_length ys n x)

module _ {A : Type 0} (w v : WorldState A) where
  acts_ears : (place : ℕ) (n next : NodeState A) (t : _) (i j : ℕ) → Acts w v place n next t →
      HasEarAt i j w.buses.buses → HasEarAt i j v.buses.buses
  acts_ears place n next t i j acts ear = subst (λ (b : BusesState A). HasEarAt i j b.buses)
      (sym (ap (λ (z : WorldState A). z.buses) acts.is))
      (ears_stay w.moment (length w.items) (frames_at (node_places n) t.out) w.buses i j ear)

  -- who is there stays there
  pub takes_stays : (l : Listener) (f : HeardFrame A) → Takes l f w v → l.place < length w.nodes →
      l.place < length v.nodes
  takes_stays l f t lt =
      let same = ap (λ (z : WorldState A). length z.nodes) t.acts.is ∙ set_length w.nodes l.place t.next in
      omega (arith, lt, same)

  told_ears : (l : Listener) (count i j : ℕ) → IsTold l count w v → HasEarAt i j w.buses.buses →
      HasEarAt i j v.buses.buses
  told_ears l zero i j same ear = subst (λ (z : WorldState A). HasEarAt i j z.buses.buses) (sym same) ear
  told_ears l (suc n) i j t ear = acts_ears l.place t.n t.next t.told i j t.acts ear

each_ears : {A : Type 0} (l : Listener) (fs : List (HeardFrame A)) (w v : WorldState A) (i j : ℕ) → TakesEach l fs w v →
    HasEarAt i j w.buses.buses → HasEarAt i j v.buses.buses
each_ears l [] w v i j same ear = subst (λ (z : WorldState _). HasEarAt i j z.buses.buses) (sym same) ear
each_ears l (f ∷ fs) w v i j t ear = each_ears l fs t.middle v i j t.rest
    (acts_ears w t.middle l.place t.first.n t.first.next t.first.told i j t.first.acts ear)

-- an ear is there still, once all was heard
pub all_ears : {A : Type 0} (l : Listener) (fs : List (HeardFrame A)) (rest : ℕ) (w v : WorldState A) (i j : ℕ) →
    TakesAll l fs rest w v → HasEarAt i j w.buses.buses → HasEarAt i j v.buses.buses
all_ears l fs rest w v i j t ear =
    told_ears t.middle v l rest i j t.rest (each_ears l fs w t.middle i j t.first ear)

-- all of a list
take_whole : {X : Type 0} (xs : List X) → take (length xs) xs ≡ xs
take_whole [] = refl
take_whole (x ∷ xs) = ap (λ (ys : List _). x ∷ ys) (take_whole xs)

the_rest : {X : Type 0} (xs : List X) → take (suc (length xs) - 1) xs ≡ xs
the_rest {X} xs = let less : suc (length xs) - 1 ≡ length xs = omega arith in
    ap (λ (n : ℕ). take n xs) less ∙ take_whole xs

module _ {A : Type 0} (l : Listener) (start u v : WorldState A) (f : HeardFrame A) (all : List (HeardFrame A)) where
  -- what comes of those that are left comes of all, once the first was heard
  pub each_next : (left : List (HeardFrame A)) → 1 ≤ length left → f ≡ slice_index_or left 0 f → Takes l f u v →
      ((z : WorldState A) → TakesEach l left u z → TakesEach l all start z) → (z : WorldState A) →
      TakesEach l (take (length left - 1) (drop 1 left)) v z → TakesEach l all start z
  each_next [] some is t whole z rest = absurd (omega (arith, some))
  each_next (h ∷ hs) some is t whole z rest = whole z (record {
    middle = v;
    first = subst (λ (k : HeardFrame A). Takes l k u v) is t;
    rest = subst (λ (ks : List (HeardFrame A)). TakesEach l ks v z) (the_rest hs) rest;
  })

  pub each_refuses : (left : List (HeardFrame A)) → 1 ≤ length left → f ≡ slice_index_or left 0 f → Takes l f u v →
      ((fault : Fault) → RefusesOne l fault left u → RefusesOne l fault all start) → (fault : Fault) →
      RefusesOne l fault (take (length left - 1) (drop 1 left)) v → RefusesOne l fault all start
  each_refuses [] some is t whole fault later = absurd (omega (arith, some))
  each_refuses (h ∷ hs) some is t whole fault later = whole fault (inr (record {
    middle = v;
    first = subst (λ (k : HeardFrame A). Takes l k u v) is t;
    rest = subst (λ (ks : List (HeardFrame A)). RefusesOne l fault ks v) (the_rest hs) later;
  }))

  -- .. or it is refused
  pub first_refused : (left : List (HeardFrame A)) → 1 ≤ length left → f ≡ slice_index_or left 0 f →
      ((fault : Fault) → RefusesOne l fault left u → RefusesOne l fault all start) → (fault : Fault) →
      (fault ≡ Memory) ⊎ RefusesFrame l fault f u → (fault ≡ Memory) ⊎ RefusesOne l fault all start
  first_refused [] some is whole fault why = absurd (omega (arith, some))
  first_refused (h ∷ hs) some is whole fault (inl m) = inl m
  first_refused (h ∷ hs) some is whole fault (inr r) =
      inr (whole fault (inl (subst (λ (k : HeardFrame A). RefusesFrame l fault k u) is r)))

-- one thing at most
pub one_frame : {A : Type 0} (l : Listener) (f : HeardFrame A) (fs : List (HeardFrame A)) (rest : ℕ) (w v : WorldState A) →
    IsOne (f ∷ fs) rest → Takes l f w v → TakesAll l (f ∷ fs) rest w v
one_frame l f [] zero w v one t = record { middle = v; first = record { middle = v; first = t; rest = refl }; rest = refl }
one_frame l f [] (suc n) w v one t = absurd (cc one)
one_frame l f (g ∷ fs) rest w v one t = absurd one

pub one_first : {A : Type 0} (l : Listener) (fs : List (HeardFrame A)) (f : HeardFrame A) (rest : ℕ)
    (w v : WorldState A) → 1 ≤ length fs → f ≡ slice_index_or fs 0 f → IsOne fs rest → Takes l f w v →
    TakesAll l fs rest w v
one_first l [] f rest w v some is one t = absurd (omega (arith, some))
one_first {A} l (g ∷ fs) f rest w v some is one t =
    one_frame l g fs rest w v one (subst (λ (h : HeardFrame A). Takes l h w v) is t)

pub no_frame : {A : Type 0} (l : Listener) (rest : ℕ) (w v : WorldState A) → IsTold l rest w v → TakesAll l [] rest w v
no_frame l rest w v t = record { middle = w; first = refl; rest = t }

module _ {A : Type 0} (l : Listener) (w v : WorldState A) (now : ℕ) (e : now ≡ w.moment) (n : NodeState A)
    (there : slice_get w.nodes l.place ≡ Some n) (stands : node.Stands w.moment n) (plan : PartPlan A) (draft : Draft A)
    (done : Of l.place w (IsDone w v l.place plan draft cause.Nothing)) where
  -- a node heard a frame
  pub takes_done : (f : HeardFrame A) →
      NodeHearsFrame now l.port f.used (One l.mac) f.octets f.stamp n (told_of plan draft)
      (left_by now plan draft.changes.items n) → Takes l f w v
  takes_done f heard = record {
    n = n;
    stands = stands;
    next = left_by w.moment plan draft.changes.items n;
    told = told_of plan draft;
    hears = subst (λ (m : ℕ). NodeHearsFrame m l.port f.used (One l.mac) f.octets f.stamp n (told_of plan draft)
        (left_by m plan draft.changes.items n)) e heard;
    acts = the_one l.place w (IsDone w v l.place plan draft cause.Nothing) n there done;
  }

  -- .. or its port was told of octets
  pub told_done : (count : ℕ) → 1 ≤ count →
      NodeCounts now l.port count n (told_of plan draft) (left_by now plan draft.changes.items n) → IsTold l count w v
  told_done zero some counts = absurd (omega (arith, some))
  told_done (suc k) some counts = record {
    n = n;
    stands = stands;
    next = left_by w.moment plan draft.changes.items n;
    told = told_of plan draft;
    counts = subst (λ (m : ℕ). NodeCounts m l.port (suc k) n (told_of plan draft)
        (left_by m plan draft.changes.items n)) e counts;
    acts = the_one l.place w (IsDone w v l.place plan draft cause.Nothing) n there done;
  }

-- a node refuses a frame
pub frame_refused : {A : Type 0} (l : Listener) (w : WorldState A) (now : ℕ) (n : NodeState A) (f : HeardFrame A)
    (fault : Fault) → now ≡ w.moment → slice_get w.nodes l.place ≡ Some n →
    (fault ≡ Memory) ⊎ FrameIsRefused now l.port f.used (One l.mac) f.octets f.stamp n fault →
    (fault ≡ Memory) ⊎ RefusesFrame l fault f w
frame_refused l w now n f fault e there (inl m) = inl m
frame_refused l w now n f fault e there (inr r) = inr (record {
  n = n;
  there = there;
  refuses = subst (λ (m : ℕ). FrameIsRefused m l.port f.used (One l.mac) f.octets f.stamp n fault) e r;
})

module _ {A : Type 0} (w : WorldState A) (network place : ℕ) (octets : List ℕ) (l : Listener)
    (listens : Listens network place w l) (fault : Fault) where
  -- why an ear hears nothing: it isn't there, or memory is wanted
  pub hearing_refused : ((fault ≡ NoSuch) × HasNoEarOf network l.mac w.buses.buses)
      ⊎ ((fault ≡ Memory) × HasEarOf network l.mac w.buses.buses) →
      HappeningIsRefused (happening.Hear network place octets) w fault
  hearing_refused (inl n) = inr (inl (n.0, no_ear w network place l listens (n.1)))
  hearing_refused (inr m) = inl (m.0, record { listener = l; listens = listens; ear = m.1 })

  -- why what it hears is refused
  pub octets_refused : (at : EarHearing A) → HearsAt w.moment network l.mac octets w.buses.buses at →
      (fault ≡ Memory) ⊎ RefusesHeard l at w fault → HappeningIsRefused (happening.Hear network place octets) w fault
  octets_refused at heard (inl m) = inl (
    m,
    record {
      listener = l;
      listens = listens;
      ear = record { bus_place = at.bus; bus = heard.bus; ear_place = at.ear; ear = heard.ear; found = heard.found };
    },
  )
  octets_refused at heard (inr why) = inr (inr (record {
    listener = l;
    at = at;
    listens = listens;
    heard = heard;
    why = why;
  }))

-- nothing was heard before
pub nothing_before : {A : Type 0} (l : Listener) (fs : List (HeardFrame A)) (w : WorldState A) (fault : Fault) → fs ≡ [] →
    (fault ≡ Memory) ⊎ (RefusesOne l fault fs w ⊎ ((fault ≡ fault) × Then (TakesEach l fs w) (λ u. Unit {0})))
nothing_before {A} l fs w fault none = inr (inr (
  refl,
  subst (λ (gs : List (HeardFrame A)).
      Then (TakesEach l gs w) (λ u. Unit {0})) (sym none) (record { middle = w; first = refl; rest = tt }),
))

-- the ear that hears is there
pub ear_found : {A : Type 0} (now net address : ℕ) (octets : List ℕ) (buses : List (BusState A)) (at : EarHearing A) →
    HearsAt now net address octets buses at → HasEarAt at.bus at.ear buses
ear_found now net address octets buses at h = record {
  bus = h.bus;
  ear = h.ear;
  bus_there = h.found.bus_there;
  ear_there = h.found.ear_there;
}

pub ruleset taking_rules = (takes_stays)

pub ruleset one_rules = (one_frame, no_frame)
