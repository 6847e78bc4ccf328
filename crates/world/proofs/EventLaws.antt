-- What an event leaves, put together of the node that was found, of what it planned, and of what was done.
use Rattle.std.proofs.Common.{◌≡◌, ◌∙◌, ◌⊎◌, inl, inr, refl, sym, ap, subst, arith, ℕ, zero, suc, ◌<◌, true, false, List, [], ◌∷◌, ◌++◌, length, Option, Some, None, Result, Ok, Err, append-nil}
use Rattle.std.proofs.lemmas.Option.{slice_get_read}
use Rattle.std.specs.Prelude.{IfErr, IfOk, OnOk, slice_get, slice_index_or, slice_set}
use Rattle.apdu.specs.declared.unconfirmed.Limits.{Limits}
use Rattle.bus_traffic.specs.declared.hearing.HeardFrame.{HeardFrame}
use Rattle.buses.specs.Puts.{BusesState, put_on}
use Rattle.history.specs.declared.Entry.{Entry}
use Rattle.history.specs.declared.Entry.TheVariants.{Issue}
use Rattle.world_log.proofs.node_laws.Saying.{says_at_asking, says_at_counting, says_at_frame, says_at_hearing, says_at_issue, says_at_registering, says_at_restart, says_at_wake}
use Rattle.world_log.proofs.node_laws.Staying.{stays_at_asking, stays_at_counting, stays_at_frame, stays_at_hearing, stays_at_issue, stays_at_registering, stays_at_restart, stays_at_wake}
use Rattle.world_log.specs.node_laws.Says.{IsItsOwn}
use Rattle.world_log.specs.node_laws.Stands as node
use Rattle.world_log.specs.node_laws.Stands.{Stays}
use Rattle.npdu.specs.declared.mac.Mac.{Mac}
use Rattle.npdu.specs.declared.mac.Mac.TheVariants.{One}
use Rattle.npdu.specs.declared.mac.Station.{Station}
use Rattle.object_model.specs.Objects.{PlainTable}
use Rattle.primitives.specs.declared.plain_data.Reply.{Reply}
use Rattle.primitives.specs.declared.plain_data.Request.{Request}
use Rattle.world_log.specs.site_node.Node.{NodeState, home_of, node_places}
use Rattle.world_log.specs.site_node.Part.{IsClient, IsDevice, IsNoDevice, IsPlanned, PartIssues, PartRestarts, silence, told_by}
use Rattle.world_log.specs.site_node.Plan.{left_by}
use Rattle.world_log.specs.site_node.Refusals.{HearingIsRefused}
use Rattle.world_log.specs.site_node.Steps.{IsNotForeign, IsQuiet, NodeAsks, NodeCounts, NodeHears, NodeHearsFrame, NodeIssues, NodeRegisters, NodeRestarts, NodeWakes, nothing_told}
use Rattle.world_log.specs.site_node.declared.part.Part.{Part}
use Rattle.world_log.specs.site_node.declared.part.Part.TheVariants.{Device, Client, Router, Manager}
use Rattle.world_log.specs.site_node.declared.plan.PartPlan.{PartPlan}
use Rattle.world_log.specs.site_node.declared.told.PartTold.{PartTold}
use Rattle.site_parts.specs.declared.parts.Parts.{Parts}
use Rattle.world_log.specs.site_ports.declared.draft.Draft.{Draft}
use Rattle.tags.specs.declared.fault.Fault.{Fault}
use Rattle.tags.specs.declared.fault.Fault.TheVariants.{Memory, NoSuch}
use Rattle.traffic.specs.Seeking.{is_young}
use Rattle.traffic.specs.declared.item.Item.{Item}
use Rattle.world.proofs.ActingLaws.{seen}
use Rattle.world.proofs.Standing.{some_same}
use Rattle.world.specs.Acting.{Acts}
use Rattle.world.specs.Doing.{HasRested, IsDone, MayBeDone, caused_in, told_of}
use Rattle.world.specs.Refusals.{HappeningIsRefused, HasDue, IsForeign, Of, RefusesAt}
use Rattle.world.specs.Step.{Asks, Delivers, IsMarked, Issues, Registers, Restarts, Wakes, addressee_of, deafened, delivered, issued, restart_entry, restarted}
use Rattle.world.specs.World.{WorldState}
use Rattle.world.specs.declared.happening.Happening.TheVariants as happening
use Rattle.world_log.specs.Growing.{WorldHistory, frames_at, items_at, told_in}
use Rattle.world_log.specs.Log.{LogState}
use Rattle.world_log.specs.carry_world.headline_bacnet.Refined.{ObjectSite}
use Rattle.world_log.specs.declared.key.Key as kept
use Rattle.world_log.specs.declared.log.Cause.{Cause}
use Rattle.world_log.specs.declared.log.Cause.TheVariants as cause
use Rattle.world_sites.specs.Finding.{IsNodeAt}
use Rattle.world_sites.specs.Nodes.{IsOfSite}
use Rattle.world_sites.specs.Opening.{object_site}

-- what holds of the node at a place holds of this one
pub the_one : {A : Type 0} (place : ℕ) (w : WorldState A) (P : NodeState A → Type 0) (n : NodeState A) →
    slice_get w.nodes place ≡ Some n → Of place w P → P n
the_one {A} place w P n e of = subst (λ (m : NodeState A). P m) (some_same of.n n (sym of.there ∙ e)) of.is

-- a place where there is one is before the end
pub before_end : {X : Type 0} (xs : List X) (n : ℕ) (x : X) → slice_get xs n ≡ Some x → n < length xs
before_end [] n x e = absurd (cc e)
before_end (y ∷ ys) zero x e = omega arith
before_end (y ∷ ys) (suc n) x e = let rest = before_end ys n x e in omega (arith, rest)

pub is_there : {X : Type 0} (xs : List X) (n : ℕ) → n < length xs → None ≡ slice_get xs n → ⊥
is_there [] n lt e = absurd (omega (arith, lt))
is_there (y ∷ ys) zero lt e = cc e
is_there (y ∷ ys) (suc n) lt e = is_there ys n (omega (arith, lt)) e

module _ {A : Type 0} (w : WorldState A) (place now : ℕ) (e : now ≡ w.moment) (n : NodeState A)
    (there : slice_get w.nodes place ≡ Some n) (plan : PartPlan A) (draft : Draft A)
    (stands : node.Stands w.moment n) (planned : IsPlanned now n.part plan) where
  stands_now : node.Stands now n
  stands_now = subst (λ (m : ℕ). node.Stands m n) (sym e) stands

  -- what it planned may be done, once it stays and what it says is its own
  may : IsItsOwn now n (told_of plan draft) → Stays now n (left_by now plan draft.changes.items n) →
      Of place w (MayBeDone w.moment plan draft)
  may own stays = record {
    n = n;
    there = there;
    is = subst (λ (m : ℕ). MayBeDone m plan draft n) e (record { planned = planned; own = own; stays = stays });
  }

  pub may_wake : NodeWakes now n (told_of plan draft) (left_by now plan draft.changes.items n) →
      Of place w (MayBeDone w.moment plan draft)
  may_wake h = may (says_at_wake A now n _ _ h) (stays_at_wake A now n _ _ stands_now h)

  pub may_ask : (limits : Option Limits) →
      NodeAsks now limits n (told_of plan draft) (left_by now plan draft.changes.items n) →
      Of place w (MayBeDone w.moment plan draft)
  may_ask limits h = may (says_at_asking A now limits n _ _ h) (stays_at_asking A now limits n _ _ stands_now h)

  pub may_issue : (instance : ℕ) (request : Request A) (id : ℕ) →
      NodeIssues now instance request id n (told_of plan draft) (left_by now plan draft.changes.items n) →
      Of place w (MayBeDone w.moment plan draft)
  may_issue instance request id h = may (says_at_issue A now instance request id n _ _ h)
      (stays_at_issue A now instance request id n _ _ stands_now h)

  pub may_register : NodeRegisters now n (told_of plan draft) (left_by now plan draft.changes.items n) →
      Of place w (MayBeDone w.moment plan draft)
  may_register h = may (says_at_registering A now n _ _ h) (stays_at_registering A now n _ _ stands_now h)

  pub may_restart : (opening : PlainTable A) →
      NodeRestarts now opening n (told_of plan draft) (left_by now plan draft.changes.items n) →
      Of place w (MayBeDone w.moment plan draft)
  may_restart opening h = may (says_at_restart A now opening n _ _ h)
      (stays_at_restart A now opening n _ _ stands_now h)

  pub may_hear : (port : ℕ) (from : Mac) (octets : List ℕ) (stamp : ℕ) →
      NodeHears now port from octets stamp n (told_of plan draft) (left_by now plan draft.changes.items n) →
      Of place w (MayBeDone w.moment plan draft)
  may_hear port from octets stamp h = may (says_at_hearing A now port from octets stamp n _ _ h)
      (stays_at_hearing A now port from octets stamp n _ _ stands_now h)

  pub may_take : (port count : ℕ) (from : Mac) (octets : List ℕ) (stamp : ℕ) →
      NodeHearsFrame now port count from octets stamp n (told_of plan draft)
      (left_by now plan draft.changes.items n) → Of place w (MayBeDone w.moment plan draft)
  may_take port count from octets stamp h = may (says_at_frame A now port count from octets stamp n _ _ h)
      (stays_at_frame A now port count from octets stamp n _ _ stands_now h)

  pub may_count : (port count : ℕ) →
      NodeCounts now port count n (told_of plan draft) (left_by now plan draft.changes.items n) →
      Of place w (MayBeDone w.moment plan draft)
  may_count port count h = may (says_at_counting A now port count n _ _ h)
      (stays_at_counting A now port count n _ _ stands_now h)

pub ruleset may_rules = (may_wake, may_ask, may_issue, may_register, may_restart, may_hear, may_take, may_count)

module _ {A : Type 0} (w v : WorldState A) (place now : ℕ) (e : now ≡ w.moment) (n : NodeState A)
    (there : slice_get w.nodes place ≡ Some n) (plan : PartPlan A) (draft : Draft A) where
  abbrev left_at : ℕ → NodeState A
  left_at m = left_by m plan draft.changes.items n

  -- the node woke
  pub wakes_done : NodeWakes now n (told_of plan draft) (left_at now) →
      Of place w (IsDone w v place plan draft cause.Nothing) → Wakes place w v
  wakes_done h done = record {
    n = n;
    next = left_at w.moment;
    told = told_of plan draft;
    wakes = subst (λ (m : ℕ). NodeWakes m n (told_of plan draft) (left_at m)) e h;
    acts = the_one place w (IsDone w v place plan draft cause.Nothing) n there done;
  }

  -- .. asked
  pub asks_done : (limits : Option Limits) → NodeAsks now limits n (told_of plan draft) (left_at now) →
      Of place w (IsDone w v place plan draft cause.Nothing) → Asks place limits w v
  asks_done limits h done = record {
    n = n;
    next = left_at w.moment;
    told = told_of plan draft;
    asks = subst (λ (m : ℕ). NodeAsks m limits n (told_of plan draft) (left_at m)) e h;
    acts = the_one place w (IsDone w v place plan draft cause.Nothing) n there done;
  }

  -- .. registered
  pub registers_done : NodeRegisters now n (told_of plan draft) (left_at now) →
      Of place w (IsDone w v place plan draft cause.Nothing) → Registers place w v
  registers_done h done = record {
    n = n;
    next = left_at w.moment;
    told = told_of plan draft;
    registers = subst (λ (m : ℕ). NodeRegisters m n (told_of plan draft) (left_at m)) e h;
    acts = the_one place w (IsDone w v place plan draft cause.Nothing) n there done;
  }

  -- .. issued
  pub issues_done : (instance : ℕ) (request : Request A) (id : ℕ) (client : Station)
      (entry : Entry Station (Request A) (Reply A)) → client ≡ home_of n.part →
      entry ≡ Issue (length w.keys) client instance request w.moment →
      NodeIssues now instance request id n (told_of plan draft) (left_at now) →
      Of place w (IsDone w v place plan draft (cause.Issue (record { client = client; invoke_id = id }) entry)) →
      Issues place instance request w v
  issues_done instance request id client entry at is h done = record {
    n = n;
    next = left_at w.moment;
    told = told_of plan draft;
    id = id;
    issues = subst (λ (m : ℕ). NodeIssues m instance request id n (told_of plan draft) (left_at m)) e h;
    acts = subst (λ (x : Station).
        Acts (issued x id instance request w) v place n (left_at w.moment) (told_of plan draft)) at
        (subst (λ (i : Entry Station (Request A) (Reply A)).
        Acts (caused_in (cause.Issue (record { client = client; invoke_id = id }) i) w) v place n (left_at w.moment)
        (told_of plan draft)) is (the_one place w
        (IsDone w v place plan draft (cause.Issue (record { client = client; invoke_id = id }) entry)) n there done));
  }

-- a wake at which nothing is due
pub rests_done : {A : Type 0} (w v : WorldState A) (place : ℕ) (n : NodeState A) →
    slice_get w.nodes place ≡ Some n → Of place w (HasRested w v place) → Wakes place w v
rests_done {A} w v place n there rested =
    let h = the_one place w (HasRested w v place) n there rested in record {
      n = n;
      next = h.next;
      told = nothing_told;
      wakes = h.wakes;
      acts = record {
        there = there;
        fresh = [];
        insides = tt;
        sayer = tt;
        is = h.is
            ∙ ap (λ (is : List (Item A)). record w { nodes = slice_set w.nodes place h.next; items = is })
            (sym (append-nil w.items))
            ∙ ap (λ (ss : List _).
            record w { nodes = slice_set w.nodes place h.next; items = w.items ++ []; said = ss })
            (sym (append-nil w.said));
      };
    }

pub rests_at : {A : Type 0} (w : WorldState A) (place now : ℕ) (n : NodeState A) → slice_get w.nodes place ≡ Some n →
    now ≡ w.moment → IsQuiet now n → Of place w (IsQuiet w.moment)
rests_at w place now n there same quiet = record {
  n = n;
  there = there;
  is = subst (λ (m : ℕ). IsQuiet m n) same quiet;
}

get_front : {X : Type 0} (xs ys : List X) (n : ℕ) (x : X) → slice_get xs n ≡ Some x → slice_get (xs ++ ys) n ≡ Some x
get_front [] ys n x e = absurd (cc e)
get_front (z ∷ zs) ys zero x e = e
get_front (z ∷ zs) ys (suc n) x e = get_front zs ys n x e

set_front : {X : Type 0} (xs ys : List X) (n : ℕ) (x z : X) → slice_get xs n ≡ Some x →
    slice_set (xs ++ ys) n z ≡ slice_set xs n z ++ ys
set_front [] ys n x z e = absurd (cc e)
set_front (y ∷ zs) ys zero x z e = refl
set_front (y ∷ zs) ys (suc n) x z e = ap (λ (us : List _). y ∷ us) (set_front zs ys n x z e)

set_length : {X : Type 0} (xs : List X) (n : ℕ) (x : X) → length (slice_set xs n x) ≡ length xs
set_length [] n x = refl
set_length (y ∷ ys) zero x = refl
set_length (y ∷ ys) (suc n) x = ap (λ (m : ℕ). suc m) (set_length ys n x)

module _ {A : Type 0} (w u v : WorldState A) (number place port now : ℕ) (e : now ≡ w.moment) (item : Item A)
    (there : slice_get w.items number ≡ Some item) (n : NodeState A)
    (at : IsNodeAt (addressee_of item) w.nodes place port n) (plan : PartPlan A) (draft : Draft A)
    (done : Of place w (IsDone w u place plan draft cause.Nothing)) where
  acted : Acts w u place n (left_by w.moment plan draft.changes.items n) (told_of plan draft)
  acted = the_one place w (IsDone w u place plan draft cause.Nothing) n at.there done

  abbrev fresh : List (Item A)
  fresh = items_at w.moment (node_places n) draft.out

  items_then : u.items ≡ w.items ++ fresh
  items_then = ap (λ (z : WorldState A). z.items) acted.is

  still : slice_get u.items number ≡ Some item
  still = ap (λ (is : List (Item A)). slice_get is number) items_then ∙ get_front w.items fresh number item there

  -- it is there to be marked
  pub item_within : number < length u.items
  item_within = before_end u.items number item still

  -- it was handed to its addressee, and is marked
  pub delivers_done : is_young w.moment item ≡ true →
      NodeHears now port item.from item.octets item.stamp n (told_of plan draft)
      (left_by now plan draft.changes.items n) → IsMarked number u v → Delivers number w v
  delivers_done young heard marked =
      let same : marked.item ≡ item = some_same marked.item item (sym marked.there ∙ still) in record {
        item = item;
        place = place;
        port = port;
        n = n;
        next = left_by w.moment plan draft.changes.items n;
        told = told_of plan draft;
        there = there;
        addressee = at;
        young = young;
        hears = subst (λ (m : ℕ). NodeHears m port item.from item.octets item.stamp n (told_of plan draft)
            (left_by m plan draft.changes.items n)) e heard;
        acts = record {
          there = acted.there;
          fresh = acted.fresh;
          insides = acted.insides;
          sayer = acted.sayer;
          is = marked.is ∙ ap (λ (i : Item A). delivered number i u) same
              ∙ ap (λ (z : WorldState A). delivered number item z) acted.is
              ∙ ap (λ (is : List (Item A)). record w {
                nodes = slice_set w.nodes place (left_by w.moment plan draft.changes.items n);
                items = is;
                buses = put_on w.moment (length w.items) (frames_at (node_places n) draft.out) w.buses;
                history = told_in (home_of n.part) w.moment w.keys (told_by plan) w.history;
                said = w.said ++ acted.fresh;
              }) (set_front w.items fresh number item (record item { is_delivered = true }) there)
              ∙ ap (λ (k : ℕ). record w {
                nodes = slice_set w.nodes place (left_by w.moment plan draft.changes.items n);
                items = slice_set w.items number (record item { is_delivered = true }) ++ fresh;
                buses = put_on w.moment k (frames_at (node_places n) draft.out) w.buses;
                history = told_in (home_of n.part) w.moment w.keys (told_by plan) w.history;
                said = w.said ++ acted.fresh;
              }) (sym (set_length w.items number (record item { is_delivered = true })));
        };
      }

-- a restart tells nothing
restart_tells : {A : Type 0} (now : ℕ) (opening : PlainTable A) (p q : Part A) (t : PartTold A) →
    PartRestarts now opening p t q → t ≡ silence
restart_tells now opening (Device d) q t h = h.0
restart_tells now opening (Client c) q t h = absurd h
restart_tells now opening (Router r) q t h = absurd h
restart_tells now opening (Manager net m) q t h = absurd h

-- a device restarted, and its ears were made anew
pub restarts_done : {A : Type 0} (w u v : WorldState A) (place now : ℕ) → now ≡ w.moment → (n : NodeState A) →
    slice_get w.nodes place ≡ Some n → (plan : PartPlan A) (draft : Draft A) (opening : PlainTable A) (home : Station)
    (entry : Entry Station (Request A) (Reply A)) → home ≡ home_of n.part → restart_entry now n.part ≡ entry ∷ [] →
    opening ≡ (object_site w.site).opening (home_of n.part) →
    NodeRestarts now opening n (told_of plan draft) (left_by now plan draft.changes.items n) →
    Of place w (IsDone w u place plan draft (cause.Restart entry)) →
    v ≡ record u { buses = deafened u.moment home u.buses } → Restarts place w v
restarts_done {A} w u v place now e n there plan draft opening home entry at is opens h done deaf =
    let acted = the_one place w (IsDone w u place plan draft (cause.Restart entry)) n there done in
    let here : NodeRestarts w.moment ((object_site w.site).opening (home_of n.part)) n (told_of plan draft)
    (left_by w.moment plan draft.changes.items n) =
    subst (λ (o : PlainTable A).
    NodeRestarts w.moment o n (told_of plan draft) (left_by w.moment plan draft.changes.items n)) opens
    (subst (λ (m : ℕ). NodeRestarts m opening n (told_of plan draft) (left_by m plan draft.changes.items n)) e h) in
    let wrote : w.history ++ entry ∷ [] ≡ w.history ++ restart_entry w.moment n.part =
    ap (λ (l : WorldHistory A). w.history ++ l) (sym is)
    ∙ ap (λ (m : ℕ). w.history ++ restart_entry m n.part) e in record {
      n = n;
      next = left_by w.moment plan draft.changes.items n;
      told = told_of plan draft;
      restarts = here;
      acts = record {
        there = acted.there;
        fresh = acted.fresh;
        insides = acted.insides;
        sayer = acted.sayer;
        is = deaf ∙ ap (λ (z : WorldState A). record z { buses = deafened z.moment home z.buses }) acted.is
            ∙ ap (λ (o : List _). record w {
              nodes = slice_set w.nodes place (left_by w.moment plan draft.changes.items n);
              items = w.items ++ items_at w.moment (node_places n) draft.out;
              buses = deafened w.moment home (put_on w.moment (length w.items) (frames_at (node_places n) o) w.buses);
              history = told_in (home_of n.part) w.moment w.keys (told_by plan) (w.history ++ entry ∷ []);
              said = w.said ++ acted.fresh;
            }) here.silent
            ∙ ap (λ (x : Station). record w {
              nodes = slice_set w.nodes place (left_by w.moment plan draft.changes.items n);
              items = w.items ++ items_at w.moment (node_places n) draft.out;
              buses = deafened w.moment x w.buses;
              history = told_in (home_of n.part) w.moment w.keys (told_by plan) (w.history ++ entry ∷ []);
              said = w.said ++ acted.fresh;
            }) at
            ∙ ap (λ (o : List _). record w {
              nodes = slice_set w.nodes place (left_by w.moment plan draft.changes.items n);
              items = w.items ++ items_at w.moment (node_places n) draft.out;
              buses = put_on w.moment (length w.items) (frames_at (node_places n) o)
                  (deafened w.moment (home_of n.part) w.buses);
              history = told_in (home_of n.part) w.moment w.keys (told_by plan) (w.history ++ entry ∷ []);
              said = w.said ++ acted.fresh;
            }) (sym here.silent)
            ∙ ap (λ (l : WorldHistory A). record w {
              nodes = slice_set w.nodes place (left_by w.moment plan draft.changes.items n);
              items = w.items ++ items_at w.moment (node_places n) draft.out;
              buses = put_on w.moment (length w.items) (frames_at (node_places n) draft.out)
                  (deafened w.moment (home_of n.part) w.buses);
              history = told_in (home_of n.part) w.moment w.keys (told_by plan) l;
              said = w.said ++ acted.fresh;
            }) wrote;
      };
    }

-- a part that issues is a client's
issuer_is_client : {A : Type 0} (now instance : ℕ) (request : Request A) (p q : Part A) (id : ℕ) (t : PartTold A) →
    PartIssues now instance request p id t q → IsClient p
issuer_is_client now instance request (Client c) q id t h = tt
issuer_is_client now instance request (Device d) q id t h = absurd h
issuer_is_client now instance request (Router r) q id t h = absurd h
issuer_is_client now instance request (Manager net m) q id t h = absurd h

-- memory is wanted for an issue: a client alone issues
pub issue_wants_memory : {A : Type 0} (w : WorldState A) (place instance : ℕ) (request : Request A) (n next : NodeState A)
    (plan : PartPlan A) (draft : Draft A) (now id : ℕ) (fault : Fault) → slice_get w.nodes place ≡ Some n →
    NodeIssues now instance request id n (told_of plan draft) next → fault ≡ Memory →
    HappeningIsRefused (happening.Issue place instance request) w fault
issue_wants_memory w place instance request n next plan draft now id fault there h memory = inl (
  memory,
  record {
    n = n;
    there = there;
    is = issuer_is_client now instance request n.part next.part id (told_by plan) h.issues;
  },
)

pub at_moment : {A : Type 0} (w : WorldState A) (now : ℕ) (P : ℕ → Type 0) → now ≡ w.moment → P now → P w.moment
at_moment w now P e p = subst (λ (m : ℕ). P m) e p

-- what follows of a result
pub err_map : {X E : Type 0} {P Q : E → Type 0} (r : Result X E) → ((e : E) → P e → Q e) → IfErr r P → IfErr r Q
err_map (Ok x) f h = tt
err_map (Err e) f h = f e h

pub ok_map : {X E : Type 0} {P Q : Type 0} (r : Result X E) → (P → Q) → OnOk r P → OnOk r Q
ok_map (Ok x) f h = f h
ok_map (Err e) f h = tt

pub if_ok_map : {X E : Type 0} {P Q : X → Type 0} (r : Result X E) → ((x : X) → P x → Q x) → IfOk r P → IfOk r Q
if_ok_map (Ok x) f h = f x h
if_ok_map (Err e) f h = tt

-- a device of the site has an instance there
never_none : {A : Type 0} (site : ObjectSite A) (p : Part A) (x : Station) → x ≡ home_of p → IsDevice p →
    IsOfSite site p → site.instance_of x ≡ None → ⊥
never_none site (Device d) x at is of none = cc (ap (λ (y : Station). site.instance_of y) at, of, none)
never_none site (Client c) x at is of none = is
never_none site (Router r) x at is of none = is
never_none site (Manager net m) x at is of none = is

-- .. so that its objects are refused for want of memory alone
pub only_memory : {A : Type 0} (site : ObjectSite A) (p : Part A) (x : Station) (fault : Fault) → x ≡ home_of p →
    IsDevice p → IsOfSite site p → (fault ≡ Memory) ⊎ ((fault ≡ NoSuch) × (site.instance_of x ≡ None)) →
    fault ≡ Memory
only_memory site p x fault at is of (inl m) = m
only_memory site p x fault at is of (inr n) = absurd (never_none site p x at is of n.1)

-- why a restart is refused where its device is there
pub restart_refused : {A : Type 0} (w : WorldState A) (place : ℕ) (n : NodeState A) (fault : Fault) →
    slice_get w.nodes place ≡ Some n → IsDevice n.part → (fault ≡ NoSuch) × IsNoDevice n.part →
    HappeningIsRefused (happening.Restart place) w fault
restart_refused w place n fault there device why = inr (inr (record { n = n; there = there; is = why }))

module _ {A : Type 0} (number : ℕ) (w : WorldState A) (item : Item A) (place port : ℕ) (n : NodeState A)
    (there : slice_get w.items number ≡ Some item) (at : IsNodeAt (addressee_of item) w.nodes place port n)
    (young : is_young w.moment item ≡ true) where
  -- why the delivery of an item is refused that may still be heard
  pub delivery_refused : (now : ℕ) (fault : Fault) → now ≡ w.moment →
      (fault ≡ Memory) ⊎ HearingIsRefused now port item.from item.octets item.stamp n fault →
      HappeningIsRefused (happening.Deliver number) w fault
  delivery_refused now fault e (inl m) = inl (
    m,
    record {
      goes = record { item = item; place = place; port = port; n = n; there = there; addressee = at };
      young = young;
    },
  )
  delivery_refused now fault e (inr r) = inr (inr (inr (record {
    goes = record { item = item; place = place; port = port; n = n; there = there; addressee = at };
    young = young;
    refuses = subst (λ (m : ℕ). HearingIsRefused m port item.from item.octets item.stamp n fault) e r;
  })))

-- what is read at a place where there is one
pub read_there : {X : Type 0} (xs : List X) (n : ℕ) (one x : X) → slice_get xs n ≡ Some one → x ≡ slice_index_or xs n x →
    slice_get xs n ≡ Some x
read_there xs n one x there read = slice_get_read xs (length xs) n x refl (before_end xs n one there) read

module _ {A : Type 0} (site : Parts A) (moment : ℕ) (ns : List (NodeState A)) (l : LogState A) (b : BusesState A)
    (place : ℕ) (n : NodeState A) where
  -- nothing is due of this one
  pub the_quiet : slice_get ns place ≡ Some n → (w : WorldState A) → seen site moment ns l b ≡ w →
      Of place w (IsQuiet w.moment) → IsQuiet moment n
  the_quiet there w view of =
      let at = subst (λ (z : WorldState A). Of place z (IsQuiet z.moment)) (sym view) of in
      subst (λ (m : NodeState A). IsQuiet moment m) (some_same at.n n (sym at.there ∙ there)) at.is

  -- it woke so
  pub rested_so : (next : NodeState A) → slice_get ns place ≡ Some n → (w : WorldState A) →
      seen site moment ns l b ≡ w → NodeWakes moment n nothing_told next →
      Of place w (HasRested w (seen site moment (slice_set ns place next) l b) place)
  rested_so next there w view wakes = subst (λ (z : WorldState A). Of place z
      (HasRested z (seen site moment (slice_set ns place next) l b) place)) view (record {
        n = n;
        there = there;
        is = record { next = next; wakes = wakes; is = refl };
      })
