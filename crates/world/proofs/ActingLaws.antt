-- What a node did is what it planned, and all grew by what came of it.
use Rattle.std.proofs.Common.{◌≡◌, ◌∙◌, refl, sym, ap, subst, arith, ℕ, zero, suc, ◌<◌, ◌≤◌, List, [], ◌∷◌, ◌++◌, length, take, Option, Some, None, Result, Ok, Err, OnOk, OnErr}
use Rattle.world_log.proofs.LogLaws.{goes_on_further, goes_on_same}
use Rattle.std.proofs.Math.Nat.{min-eq_left}
use Rattle.std.specs.List.{AllByRecursion}
use Rattle.std.specs.Prelude.{slice_get, slice_set}
use Rattle.buses.specs.Puts.{BusesState, put_on}
use Rattle.world_log.specs.carry_said.Said.{HasInsides, IsSaying, IsSayingEach}
use Rattle.history.specs.declared.Entry.{Entry}
use Rattle.inside.specs.Inside.{AreInside, Said}
use Rattle.link.specs.Step.{PortSent}
use Rattle.world_log.specs.node_laws.Stands.{Stands, Stays}
use Rattle.npdu.specs.declared.mac.Station.{Station}
use Rattle.npdu.specs.declared.parcel.Parcel.{Parcel}
use Rattle.world_log.specs.site_node.Node.{NodeState, home_of, node_places}
use Rattle.world_log.specs.site_node.Part.{told_by}
use Rattle.world_log.specs.site_node.Plan.{left_by}
use Rattle.world_log.specs.site_node.Steps.{NodeTold}
use Rattle.world_log.specs.site_node.declared.plan.PartPlan.{PartPlan}
use Rattle.world_log.specs.site_node.declared.told.PartTold.{PartTold}
use Rattle.site_parts.specs.declared.parts.Parts.{Parts}
use Rattle.world_log.specs.site_ports.declared.draft.Draft.{Draft}
use Rattle.traffic.specs.declared.frame.FramePut.{FramePut}
use Rattle.traffic.specs.declared.item.Item.{Item}
use Rattle.world.proofs.Standing.{set_same, some_same, steady_set}
use Rattle.world.specs.Acting.{Acts, IsSaidBy}
use Rattle.world.specs.Doing.{IsDone, Logs, MayBeDone, caused_in, told_of}
use Rattle.world.specs.Laws.{AreSteady, IsSteady}
use Rattle.world.specs.Refusals.{Of}
use Rattle.world.specs.World.{WorldState}
use Rattle.world_log.specs.Growing.{WorldHistory, frames_at, items_at, told_in}
use Rattle.world_log.specs.Kept.{all_said, said_of}
use Rattle.world_log.specs.Log.{GoesOn, IsReadyFor, LogState, Says, Tells, caused, cut_to, put_in}
use Rattle.world_log.specs.carry_world.PlainWorld.{Key}
use Rattle.world_log.specs.declared.log.Cause.{Cause}
use Rattle.world_log.specs.declared.log.Cause.TheVariants as cause
use Rattle.world_log.specs.declared.log.WorldLog.{WorldLog}
use Rattle.world_log.specs.declared.saying.SaidMessage.{SaidMessage}

-- what is written down leaves items, and what is put out what is written down
caused_put : {A : Type 0} (c : Cause A) (now : ℕ) (places : List Station) (out : List (PortSent A)) (l : LogState A) →
    caused c (put_in now places out l) ≡ put_in now places out (caused c l)
caused_put cause.Nothing now places out l = refl
caused_put (cause.Issue key entry) now places out l = refl
caused_put (cause.Restart entry) now places out l = refl

-- all was put out, written down and told
pub logs_so : {A : Type 0} (now : ℕ) (n : NodeState A) (plan : PartPlan A) (out : List (PortSent A)) (x : Station)
    (told : PartTold A) (c : Cause A) (l0 l1 l2 l3 : LogState A) → x ≡ home_of n.part → l1 ≡ l0 →
    l2 ≡ put_in now (node_places n) out l1 → told ≡ told_by plan → Tells x now told (caused c l2) l3 →
    Logs now n (record { told = told_by plan; out = out }) (caused c l0) l3
logs_so {A} now n plan out x told c l0 l1 l2 l3 at begun grown is tells =
    let put : caused c l2 ≡ put_in now (node_places n) out (caused c l0) =
    ap (λ (l : LogState A). caused c l) (grown ∙ ap (λ (l : LogState A). put_in now (node_places n) out l) begun)
    ∙ caused_put c now (node_places n) out l0 in
    let behind = subst (λ (l : LogState A). Tells x now told l l3) put tells in
    let here = subst (λ (y : Station). Tells y now told (put_in now (node_places n) out (caused c l0)) l3) at behind in
    let t = subst (λ (u : PartTold A). Tells (home_of n.part) now u (put_in now (node_places n) out (caused c l0)) l3)
    is here in record {
      first_item = t.first_item;
      items = t.items;
      keys = t.keys;
      first_entry = t.first_entry;
      history = t.history;
      first_said = t.first_said;
      says = t.says;
    }

-- there is room still for the key of what is written down
pub still_ready : {A : Type 0} (c : Cause A) (l m : WorldLog A) → m.keys ≡ l.keys → IsReadyFor c l → IsReadyFor c m
still_ready cause.Nothing l m e ready = tt
still_ready (cause.Issue key entry) l m e ready = ap (λ k. k.ready) e ∙ ready
still_ready (cause.Restart entry) l m e ready = tt

-- a log goes on from what it is, and from what is the same
pub goes_on_equal : {A : Type 0} (a b : LogState A) → b ≡ a → GoesOn a b
goes_on_equal {A} a b e = subst (λ (l : LogState A). GoesOn a l) (sym e) (goes_on_same a)

pub goes_on_from : {A : Type 0} (a b c : LogState A) → b ≡ a → GoesOn b c → GoesOn a c
goes_on_from {A} a b c e on = subst (λ (l : LogState A). GoesOn l c) e on

-- what a node planned to say has something inside
pub told_insides : {A : Type 0} (now : ℕ) (n : NodeState A) (plan : PartPlan A) (draft : Draft A) (x : Station)
    (told : PartTold A) → MayBeDone now plan draft n → x ≡ home_of n.part → told ≡ told_by plan →
    HasInsides x.net told.said
told_insides {A} now n plan draft x told may at is =
    subst (λ (u : PartTold A). HasInsides x.net u.said) (sym is)
    (subst (λ (y : Station). HasInsides y.net (told_by plan).said) (sym at) may.own.insides)

-- what was to go out on the buses went out, behind so many items
pub puts_so : {A : Type 0} (now n m : ℕ) (fs gs : List (FramePut A)) (b0 b1 b2 : BusesState A) → b1 ≡ b0 → n ≡ m →
    fs ≡ gs → b2 ≡ put_on now n fs b1 → b2 ≡ put_on now m gs b0
puts_so {A} now n m fs gs b0 b1 b2 same count frames put =
    put ∙ ap (λ (b : BusesState A). put_on now n fs b) same ∙ ap (λ (k : ℕ). put_on now k fs b0) count
    ∙ ap (λ (hs : List (FramePut A)). put_on now m hs b0) frames

pub ruleset doing_rules = (goes_on_equal, goes_on_same, logs_so, still_ready, told_insides, puts_so)

-- what a log goes on from is what is left where it is cut back
pub undone : {A : Type 0} (count : ℕ) (old mid new : LogState A) → count ≡ length old.items → old.first_item ≤ count →
    GoesOn old mid → new ≡ cut_to count mid → new ≡ old
undone {A} count old mid new at first on cut =
    let same : mid.first_item ≡ old.first_item = ap (λ (l : LogState A). l.first_item) on in
    let le : mid.first_item ≤ length old.items = omega (arith, same, at, first) in
    cut ∙ ap (λ (n : ℕ). cut_to n mid) at
    ∙ ap (λ (n : ℕ). record mid { first_item = n; items = take (length old.items) mid.items }) (min-eq_left le) ∙ on

pub ruleset undoing_rules = (undone)

-- what is inside a node's own parcels was said by it
said_by_it : {A : Type 0} (x : Station) (now : ℕ) (ps : List (Parcel A)) (ss : List Said) → AreInside x.net ps ss →
    AllByRecursion (IsSaying x now) ps → AllByRecursion (IsSaidBy x now) ss
said_by_it x now [] [] a own = tt
said_by_it x now [] (s ∷ ss) a own = absurd a
said_by_it x now (p ∷ ps) [] a own = absurd a
said_by_it x now (p ∷ ps) (s ∷ ss) a own = (
  record { source = own.0.source s.inside a.0.inside; stamp = a.0.stamp ∙ own.0.stamp },
  said_by_it x now ps ss a.1 own.1,
)

-- a world as it is seen
abbrev pub seen : {A : Type 0} → Parts A → ℕ → List (NodeState A) → LogState A → BusesState A → WorldState A
seen site moment nodes l buses = record {
  site = site;
  moment = moment;
  nodes = nodes;
  first_item = l.first_item;
  items = l.items;
  buses = buses;
  keys = l.keys;
  first_entry = l.first_entry;
  history = l.history;
  first_said = l.first_said;
  said = all_said l.said;
}

-- what is written down leaves nodes, items, buses and what was said
caused_seen : {A : Type 0} (c : Cause A) (site : Parts A) (moment : ℕ) (ns : List (NodeState A)) (l : LogState A)
    (b : BusesState A) → seen site moment ns (caused c l) b ≡ caused_in c (seen site moment ns l b)
caused_seen cause.Nothing site moment ns l b = refl
caused_seen (cause.Issue key entry) site moment ns l b = refl
caused_seen (cause.Restart entry) site moment ns l b = refl

caused_items : {A : Type 0} (c : Cause A) (l : LogState A) → (caused c l).items ≡ l.items
caused_items cause.Nothing l = refl
caused_items (cause.Issue key entry) l = refl
caused_items (cause.Restart entry) l = refl

module _ {A : Type 0} (site : Parts A) (moment : ℕ) (ns : List (NodeState A)) (l0 l1 : LogState A)
    (b0 b1 : BusesState A) (place : ℕ) (n next : NodeState A) (plan : PartPlan A) (draft : Draft A) (c : Cause A)
    (there : slice_get ns place ≡ Some n) where
  abbrev after : List (NodeState A)
  after = slice_set ns place (left_by moment plan draft.changes.items n)

  abbrev items : List (Item A)
  items = (caused c l0).items ++ items_at moment (node_places n) draft.out

  abbrev buses : BusesState A
  buses = put_on moment (length (caused c l0).items) (frames_at (node_places n) draft.out) b0

  abbrev history : WorldHistory A
  history = told_in (home_of n.part) moment (caused c l0).keys (told_by plan) (caused c l0).history

  counts : put_on moment (length l0.items) (frames_at (node_places n) draft.out) b0 ≡ buses
  counts = ap (λ (is : List (Item A)). put_on moment (length is) (frames_at (node_places n) draft.out) b0)
      (sym (caused_items c l0))

  -- the world, with these of what it keeps
  abbrev left_with : (first_item : ℕ) → List (Item A) → BusesState A → List Key → (first_entry : ℕ) → WorldHistory A →
      (first_said : ℕ) → List Said → WorldState A
  left_with first_item is b ks first_entry h first_said ss = record {
    site = site;
    moment = moment;
    nodes = after;
    first_item = first_item;
    items = is;
    buses = b;
    keys = ks;
    first_entry = first_entry;
    history = h;
    first_said = first_said;
    said = ss;
  }

  -- the node at a place did so
  pub done_so : MayBeDone moment plan draft n → next ≡ left_by moment plan draft.changes.items n →
      Logs moment n (told_of plan draft) (caused c l0) l1 →
      b1 ≡ put_on moment (length l0.items) (frames_at (node_places n) draft.out) b0 →
      IsDone (seen site moment ns l0 b0) (seen site moment (slice_set ns place next) l1 b1) place plan draft c n
  done_so may left logs puts =
      subst (λ (w : WorldState A). Acts w (seen site moment (slice_set ns place next) l1 b1) place n
      (left_by moment plan draft.changes.items n) (told_of plan draft)) (caused_seen c site moment ns l0 b0) (record {
        there = there;
        fresh = logs.says.fresh;
        insides = logs.says.inside;
        sayer = said_by_it (home_of n.part) moment (told_by plan).said logs.says.fresh logs.says.inside may.own.each;
        is =
            let l = caused c l0 in
            let was = all_said l1.said in
            ap (λ (x : NodeState A). seen site moment (slice_set ns place x) l1 b1) left
            ∙ ap (λ (k : ℕ). left_with k l1.items b1 l1.keys l1.first_entry l1.history l1.first_said was) logs.first_item
            ∙ ap (λ (is : List (Item A)).
            left_with l.first_item is b1 l1.keys l1.first_entry l1.history l1.first_said was) logs.items
            ∙ ap (λ (b : BusesState A).
            left_with l.first_item items b l1.keys l1.first_entry l1.history l1.first_said was) (puts ∙ counts)
            ∙ ap (λ (ks : List Key).
            left_with l.first_item items buses ks l1.first_entry l1.history l1.first_said was) logs.keys
            ∙ ap (λ (k : ℕ). left_with l.first_item items buses l.keys k l1.history l1.first_said was) logs.first_entry
            ∙ ap (λ (h : WorldHistory A).
            left_with l.first_item items buses l.keys l.first_entry h l1.first_said was) logs.history
            ∙ ap (λ (k : ℕ). left_with l.first_item items buses l.keys l.first_entry history k was) logs.first_said
            ∙ ap (λ (ss : List Said).
            left_with l.first_item items buses l.keys l.first_entry history l.first_said ss) logs.says.behind;
      })

-- what may be done of the node at a place may be done of this one
pub may_here_of : {A : Type 0} (site : Parts A) (moment : ℕ) (ns : List (NodeState A)) (l : LogState A)
    (b : BusesState A) (place : ℕ) (n : NodeState A) (plan : PartPlan A) (draft : Draft A) →
    slice_get ns place ≡ Some n → (w : WorldState A) → seen site moment ns l b ≡ w →
    Of place w (MayBeDone w.moment plan draft) → MayBeDone moment plan draft n
may_here_of {A} site moment ns l b place n plan draft there w view of =
    let at = subst (λ (z : WorldState A). Of place z (MayBeDone z.moment plan draft)) (sym view) of in
    subst (λ (m : NodeState A). MayBeDone moment plan draft m) (some_same at.n n (sym at.there ∙ there)) at.is

module _ {A R E : Type 0} (r : Result R E) (site : Parts A) (moment : ℕ) (ns : List (NodeState A)) (l0 l1 : LogState A)
    (b0 b1 : BusesState A) (place : ℕ) (n x : NodeState A) (plan : PartPlan A) (draft : Draft A) (c : Cause A)
    (there : slice_get ns place ≡ Some n) (w : WorldState A) (view : seen site moment ns l0 b0 ≡ w) where
  -- the nodes are steady, whether it was done or refused
  pub steady_act : MayBeDone moment plan draft n → OnOk r (x ≡ left_by moment plan draft.changes.items n) →
      OnErr r (x ≡ n) → OnOk r (Logs moment n (told_of plan draft) (caused c l0) l1) → OnErr r (l1 ≡ l0) →
      AreSteady site moment ns l0.items → AreSteady site moment (slice_set ns place x) l1.items
  steady_act may left same logs kept steady = by_result r left same logs kept
    where
      by_result : (q : Result R E) → OnOk q (x ≡ left_by moment plan draft.changes.items n) → OnErr q (x ≡ n) →
          OnOk q (Logs moment n (told_of plan draft) (caused c l0) l1) → OnErr q (l1 ≡ l0) →
          AreSteady site moment (slice_set ns place x) l1.items
      by_result (Ok u) left same logs kept = steady_set site moment ns l0.items l1.items place n x draft.out there steady
          (subst (λ (y : NodeState A). Stays moment n y) (sym left) may.stays)
          (logs.items ∙ ap (λ (is : List (Item A)). is ++ items_at moment (node_places n) draft.out) (caused_items c l0))
      by_result (Err e) left same logs kept =
          subst (λ (xs : List (NodeState A)). AreSteady site moment xs l1.items)
          (sym (ap (λ (y : NodeState A). slice_set ns place y) same ∙ set_same ns place n there))
          (subst (λ (is : List (Item A)). AreSteady site moment ns is) (sym (ap (λ (l : LogState A). l.items) kept)) steady)

  -- no node has moved
  pub moved_not : MayBeDone moment plan draft n → OnOk r (x ≡ left_by moment plan draft.changes.items n) →
      OnErr r (x ≡ n) → (x.name ≡ n.name) × (node_places x ≡ node_places n)
  moved_not may left same = by_result r left same
    where
      by_result : (q : Result R E) → OnOk q (x ≡ left_by moment plan draft.changes.items n) → OnErr q (x ≡ n) →
          (x.name ≡ n.name) × (node_places x ≡ node_places n)
      by_result (Ok u) left same = (
        ap (λ (y : NodeState A). y.name) left ∙ may.stays.name,
        ap (λ (y : NodeState A). node_places y) left ∙ may.stays.same,
      )
      by_result (Err e) left same =
          (ap (λ (y : NodeState A). y.name) same, ap (λ (y : NodeState A). node_places y) same)

  -- it was done, or nothing has changed
  pub done_act : MayBeDone moment plan draft n → OnOk r (x ≡ left_by moment plan draft.changes.items n) →
      OnOk r (Logs moment n (told_of plan draft) (caused c l0) l1) →
      OnOk r (b1 ≡ put_on moment (length l0.items) (frames_at (node_places n) draft.out) b0) →
      OnOk r (Of place w (IsDone w (seen site moment (slice_set ns place x) l1 b1) place plan draft c))
  done_act may left logs puts = by_result r left logs puts
    where
      by_result : (q : Result R E) → OnOk q (x ≡ left_by moment plan draft.changes.items n) →
          OnOk q (Logs moment n (told_of plan draft) (caused c l0) l1) →
          OnOk q (b1 ≡ put_on moment (length l0.items) (frames_at (node_places n) draft.out) b0) →
          OnOk q (Of place w (IsDone w (seen site moment (slice_set ns place x) l1 b1) place plan draft c))
      by_result (Ok u) left logs puts = subst (λ (z : WorldState A). Of place z
          (IsDone z (seen site moment (slice_set ns place x) l1 b1) place plan draft c)) view (record {
            n = n;
            there = there;
            is = done_so site moment ns l0 l1 b0 b1 place n x plan draft c there may left logs puts;
          })
      by_result (Err e) left logs puts = tt

  pub unchanged_act : OnErr r (x ≡ n) → OnErr r (l1 ≡ l0) → OnErr r (b1 ≡ b0) →
      OnErr r (seen site moment (slice_set ns place x) l1 b1 ≡ w)
  unchanged_act same kept quiet = by_result r same kept quiet
    where
      by_result : (q : Result R E) → OnErr q (x ≡ n) → OnErr q (l1 ≡ l0) → OnErr q (b1 ≡ b0) →
          OnErr q (seen site moment (slice_set ns place x) l1 b1 ≡ w)
      by_result (Ok u) same kept quiet = tt
      by_result (Err e) same kept quiet =
          ap (λ (y : NodeState A). seen site moment (slice_set ns place y) l1 b1) same
          ∙ ap (λ (xs : List (NodeState A)). seen site moment xs l1 b1) (set_same ns place n there)
          ∙ ap (λ (l : LogState A). seen site moment ns l b1) kept
          ∙ ap (λ (b : BusesState A). seen site moment ns l0 b) quiet ∙ view

-- what holds holds where it is refused
pub on_err : {X E P : Type 0} (r : Result X E) → P → OnErr r P
on_err (Ok x) p = tt
on_err (Err e) p = p
