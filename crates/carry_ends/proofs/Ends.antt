-- No issue of a world is forgotten, and a wake ends what is overdue.
use Rattle.std.proofs.Common.{◌≡◌, ◌∙◌, refl, sym, ap, subst, inl, inr, ⊎_elim, arith, ℕ, zero, suc, List, [], ◌∷◌, map, Option, Some}
use Rattle.std.specs.Prelude.{◌≤◌, ◌+◌, slice_get, slice_set}
use Rattle.carry.specs.Things.{Thing}
use Rattle.carry_ends.proofs.Issuers.{IsThere, IssuersAreThere, fresh_there, steps_there}
use Rattle.carry_ends.proofs.Waking.{left_in_time}
use Rattle.carry_ends.specs.Ends.{IsOpen, IssuesAreAccountedFor, OpenAreUnclosed, WakesEnd}
use Rattle.carry_world.proofs.carry_said.headline_site.Reached.{kept_at, reached_by}
use Rattle.carry_world.proofs.carry_said.headline_site.headline_client.Places.{all_at, has_seen}
use Rattle.carry_world.specs.carry_said.client.Client.{ClientState}
use Rattle.carry_world.specs.carry_said.headline_site.AllStations.{AllStations}
use Rattle.carry_world.specs.carry_said.headline_site.Laws.{IsReached}
use Rattle.carry_world.specs.carry_said.headline_site.headline.Protocol.{IsSite}
use Rattle.carry_world.specs.carry_said.headline_site.headline.Stations.{Client, Transaction}
use Rattle.carry_world.specs.carry_said.headline_site.headline_bacnet.Laws.{object_laws}
use Rattle.carry_world.specs.carry_said.headline_site.headline_bacnet.Protocol.{bacnet}
use Rattle.carry_world.specs.carry_said.headline_site.headline_bacnet.Refined.{ObjectCore, ObjectSite}
use Rattle.carry_world.specs.carry_said.headline_site.headline_bacnet.Stations.{longest_of}
use Rattle.carry_world.specs.carry_said.headline_site.headline_client.Laws.{IsClient, awake}
use Rattle.carry_world.specs.carry_said.headline_site.headline_client.Safe.{safe_client, safe_transaction, station_of}
use Rattle.carry_world.proofs.Kept.{Inv}
use Rattle.carry_world.proofs.Keys.{last_same}
use Rattle.carry_world.proofs.Seeing.{Seen, all_seen, fresh_seen, kept_of}
use Rattle.carry_world.specs.Laws.{Always, IsFresh}
use Rattle.carry_world.specs.PlainSteps.{ClientWakes, StepsTo, client_wakes}
use Rattle.carry_world.specs.PlainWorld.{PlainWorld}
use Rattle.headline_ends.proofs.Ends as core
use Rattle.headline_ends.specs.Ends as core_ends
use Rattle.headline_ends.specs.Ends.{IsClosed}
use Rattle.history.proofs.Lists.{has, has_next}
use Rattle.history.specs.Book.{last_issue}
use Rattle.history.specs.Lists.{Has}
use Rattle.history.specs.declared.Entry.{Entry}
use Rattle.history.specs.declared.Entry.TheVariants.{Issue}
use Rattle.inside.specs.Inside.{Said}
use Rattle.npdu.specs.declared.mac.Station.{Station}
use Rattle.primitives.specs.declared.plain_data.Reply.{Reply}
use Rattle.primitives.specs.declared.plain_data.Request.{Request}
use Rattle.profile.specs.Times.{DEADLINE_MS}

-- what is seen through a function is that of one of the list
record Before {X Y : Type 0} (f : X → Y) (xs : List X) (y : Y) : Type 0 where
  x : X
  there : Has xs x
  is : f x ≡ y

before : {X Y : Type 0} (f : X → Y) (xs : List X) (place : ℕ) (y : Y) → slice_get (map f xs) place ≡ Some y → Before f xs y
before f [] place y e = absurd (cc e)
before {X} {Y} f (x ∷ xs) zero y e = record { x = x; there = has 0 refl; is = same_some (f x) y e }
  where
    same_some : (a b : Y) → Some a ≡ Some b → a ≡ b
    same_some a b e = cc e
before f (x ∷ xs) (suc place) y e = let k = before f xs place y e in record { x = k.x; there = has_next x xs k.there; is = k.is }

module _ {A : Type 0} where
  -- what is there of a client in the core is there of the client
  of_client : (w : AllStations A) (c : ClientState A) → IsClient longest_of w.core c → (t : Transaction Station (Request A)) →
      Has (w.core.clients (station_of c)).transactions t → Before (safe_transaction longest_of) c.machine.open_ones t
  of_client w c is t there =
      let k : Has (safe_client longest_of c).transactions t =
      subst (λ (z : Client Station (Request A)). Has z.transactions t) is.seen there in
      before (safe_transaction longest_of) c.machine.open_ones k.place t k.at_place

  module _ (s : ObjectSite A) (w : AllStations A) (ts : List (Thing A)) (l : List Said) (inv : Inv s w ts l) (site : IsSite (bacnet A) s) where
    reached : IsReached s w.core
    reached = reached_by s w.core inv.refined

    core_accounted : core_ends.IssuesAreAccountedFor (bacnet A) w.core
    core_accounted = subst (λ (k : ObjectCore A). core_ends.IssuesAreAccountedFor (bacnet A) k) (sym reached.same)
        (core.all_accounted (bacnet A) s (object_laws A) site reached.happenings reached.honest)

    client_at : (place : ℕ) (c : ClientState A) → slice_get w.clients place ≡ Some c → IsClient longest_of w.core c
    client_at place c there = all_at (λ z. IsClient longest_of w.core z) w.clients place c inv.stands.clients there

    -- an issue that is open in the core is open at its client
    opened : (i : ℕ) (x : Station) (request : Request A) (moment : ℕ) → IsThere w.clients x →
        core_ends.IsOpen (bacnet A) w.core i x request moment → IsOpen (kept_of w ts l) i x request moment
    opened i x request moment is k =
        let it = of_client w is.client (client_at is.place is.client is.there) k.transaction
        (subst (λ (z : Station). Has (w.core.clients z).transactions k.transaction) (sym is.station) k.there) in
        record {
          place = is.place;
          client = is.client;
          there = is.there;
          station = is.station;
          transaction = it.x;
          has = it.there;
          asked = ap (λ (t : Transaction Station (Request A)). t.request) it.is ∙ k.request;
          at = ap (λ (t : Transaction Station (Request A)). t.moment) it.is ∙ k.at;
          last = last_same x it.x.invoke_id w.core.book.issues
              ∙ ap (λ (t : Transaction Station (Request A)). last_of x t.invoke_id) it.is ∙ k.last;
        }
      where
        last_of : Station → ℕ → Option ℕ
        last_of z id = last_issue (bacnet A).same z id w.core.book.issues

    accounted_at : IssuersAreThere (kept_of w ts l) → IssuesAreAccountedFor (kept_of w ts l)
    accounted_at all i x instance request moment there = ⊎_elim
        (λ (closed : core_ends.IsClosed w.core.book.history i). inl closed)
        (λ (still : core_ends.IsOpen (bacnet A) w.core i x request moment).
        inr (opened i x request moment (all i x instance request moment there) still))
        (core_accounted i x instance request moment there)

    unclosed_at : OpenAreUnclosed (kept_of w ts l)
    unclosed_at place c o there has_it =
        let is = client_at place c there in
        let k = core.all_unclosed (bacnet A) s w.core (kept_at s w.core site reached) (station_of c) (safe_transaction longest_of o)
        (subst (λ (z : Client Station (Request A)). Has z.transactions (safe_transaction longest_of o)) (sym is.seen)
        (has_seen (safe_transaction longest_of) c.machine.open_ones o has_it)) in
        record {
          i = k.i;
          instance = k.instance;
          issue = k.issue;
          last = last_same (station_of c) o.invoke_id w.core.book.issues ∙ k.last;
          none = k.none;
        }

    -- where a client is as a wake left it, none of its issues is both open and overdue
    ended_at : (place : ℕ) (c : ClientState A) (now : ℕ) → slice_get w.clients place ≡ Some (awake now c) → (i instance : ℕ) (request : Request A)
        (moment : ℕ) → Has w.core.book.history (Issue i (station_of c) instance request moment) → moment + DEADLINE_MS ≤ now →
        IsClosed w.core.book.history i
    ended_at place c now there i instance request moment issued late = ⊎_elim
        (λ (closed : core_ends.IsClosed w.core.book.history i). closed)
        (λ (still : core_ends.IsOpen (bacnet A) w.core i (station_of c) request moment).
        let it = of_client w (awake now c) (client_at place (awake now c) there) still.transaction still.there in
        let in_time = left_in_time now c.machine.open_ones it.x it.there in
        let at : it.x.at ≡ moment = ap (λ (t : Transaction Station (Request A)). t.moment) it.is ∙ still.at in
        absurd (omega (arith, in_time, at, late)))
        (core_accounted i (station_of c) instance request moment issued)

  seen_of : (s : ObjectSite A) (w v : PlainWorld A) → IsFresh s w → StepsTo s w v → Seen s v
  seen_of s w v fresh to =
      subst (λ (z : PlainWorld A). Seen s z) (sym to.last) (all_seen s to.between w (fresh_seen s w fresh) to.steps)

  there_of : (s : ObjectSite A) (w v : PlainWorld A) → IsFresh s w → StepsTo s w v → IssuersAreThere v
  there_of s w v fresh to =
      subst (λ (z : PlainWorld A). IssuersAreThere z) (sym to.last) (steps_there s to.between w to.steps (fresh_there s w fresh))

  pub all_accounted : Always A (λ s w. IssuesAreAccountedFor w)
  all_accounted s w v site fresh to =
      let seen = seen_of s w v fresh to in
      subst (λ (z : PlainWorld A). IssuesAreAccountedFor z) (sym seen.is)
      (accounted_at s seen.world v.things v.said seen.inv site (subst (λ (z : PlainWorld A). IssuersAreThere z) seen.is (there_of s w v fresh to)))

  pub all_unclosed : Always A (λ s w. OpenAreUnclosed w)
  all_unclosed s w v site fresh to =
      let seen = seen_of s w v fresh to in
      subst (λ (z : PlainWorld A). OpenAreUnclosed z) (sym seen.is) (unclosed_at s seen.world v.things v.said seen.inv site)

  -- what is put at a place is there
  put_at : (cs : List (ClientState A)) (place : ℕ) (c next : ClientState A) → slice_get cs place ≡ Some c → slice_get (slice_set cs place next) place ≡ Some next
  put_at [] place c next e = absurd (cc e)
  put_at (y ∷ ys) zero c next e = refl
  put_at (y ∷ ys) (suc place) c next e = put_at ys place c next e

  woken_well : (s : ObjectSite A) (v u : PlainWorld A) → IsSite (bacnet A) s → Seen s u → (k : ClientWakes v u) → (i instance : ℕ) (request : Request A)
      (moment : ℕ) → Has u.history (Issue i (station_of k.c) instance request moment) → moment + DEADLINE_MS ≤ v.moment → IsClosed u.history i
  woken_well s v u site seen k i instance request moment issued late =
      let history_is : u.history ≡ seen.world.core.book.history = ap (λ (z : PlainWorld A). z.history) seen.is in
      let clients_are : u.clients ≡ seen.world.clients = ap (λ (z : PlainWorld A). z.clients) seen.is in
      let there : slice_get seen.world.clients k.place ≡ Some (awake v.moment k.c) =
      ap (λ (l : List (ClientState A)). slice_get l k.place) (sym clients_are ∙ k.clients)
      ∙ put_at v.clients k.place k.c (awake v.moment k.c) k.there in
      subst (λ (h : List (Entry Station (Request A) (Reply A))). IsClosed h i) (sym history_is)
      (ended_at s seen.world u.things u.said seen.inv site k.place k.c v.moment there i instance request moment
      (subst (λ (h : List (Entry Station (Request A) (Reply A))). Has h (Issue i (station_of k.c) instance request moment)) history_is issued) late)

  pub wakes_end : WakesEnd A
  wakes_end s w v u site fresh to k =
      woken_well s v u site (all_seen s (u ∷ []) v (seen_of s w v fresh to) (client_wakes k, tt)) k
