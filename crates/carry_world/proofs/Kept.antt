-- Each step keeps what holds of an internetwork.
use Rattle.std.proofs.Common.{◌≡◌, ◌⊎◌, ⊎_elim, refl, sym, subst, ℕ, ◌≤◌, ◌+◌, List, [], ◌∷◌, Some}
use Rattle.std.specs.Prelude.{slice_get}
use Rattle.std.specs.List.{AllByRecursion}
use Rattle.apdu.specs.Apdu.{PlainApdu}
use Rattle.carry.proofs.Passed.{carried_still, passed_on_is_carried, put_out_is_carried}
use Rattle.carry.specs.Passing.{PassesOn, PutsOut}
use Rattle.carry.specs.Things.{AreCarried, Thing}
use Rattle.carry_said.specs.client.Client.{ClientState}
use Rattle.carry_said.specs.client.ClientTold as client
use Rattle.carry_said.specs.device.Device.{DeviceState}
use Rattle.carry_said.specs.device.DeviceTold as device
use Rattle.carry_said.specs.headline_site.headline.Happenings.{start}
use Rattle.history.proofs.Lists.{has, has_cons, has_either, has_next, none_has}
use Rattle.history.specs.Lists.{Has}
use Rattle.profile.specs.Times.{LIFE_MS}
use Rattle.inside.specs.Inside.{AreInside, HasInside, IsInsideOf, Said}
use Rattle.npdu.specs.declared.mac.Mac.{Mac}
use Rattle.npdu.specs.declared.mac.Station.{Station}
use Rattle.npdu.specs.declared.parcel.Parcel.{Parcel}
use Rattle.carry_said.proofs.headline_site.headline_bacnet.Refining.{refined_none, refined_then}
use Rattle.carry_said.specs.headline_site.headline_bacnet.Network.{BringsWhatWasSaid}
use Rattle.carry_said.specs.headline_site.headline_bacnet.Protocol.{bacnet}
use Rattle.carry_said.specs.headline_site.headline_bacnet.Refined.{ObjectSite, Refined, ObjectCore}
use Rattle.carry_said.proofs.Hearing as hearing_said
use Rattle.carry_said.proofs.Hearing.{heard_was_said, said_still}
use Rattle.carry_said.proofs.Clients.{client_says}
use Rattle.carry_said.proofs.Devices.{device_says}
use Rattle.carry_said.specs.Said.{CarriesSaid, IsSaid}
use Rattle.carry_said.proofs.headline_site.Contracts.{client_hearing_goes, device_hearing_goes}
use Rattle.carry_said.proofs.headline_site.Steps.{begins_well, step_goes}
use Rattle.carry_said.specs.headline_site.Fair.{Stands}
use Rattle.carry_said.specs.headline_site.Laws.{Goes}
use Rattle.carry_said.specs.headline_site.AllStations.{AllStations, device_does, now, step, with_client}
use Rattle.carry_said.proofs.headline_site.headline_client.Laws.{hearing}
use Rattle.carry_said.proofs.headline_site.headline_client.Places.{all_at}
use Rattle.carry_said.specs.headline_site.headline_client.Heard.{said_in}
use Rattle.carry_said.specs.headline_site.headline_client.Laws.{IsClient}
use Rattle.carry_said.specs.headline_site.headline_client.Safe as client_safe
use Rattle.carry_said.specs.headline_site.headline_client.Safe.{safe_client}
use Rattle.carry_said.specs.headline_site.headline_client.Told.{acts}
use Rattle.carry_said.proofs.headline_site.headline_device.Doing.{hearing_is_done}
use Rattle.carry_said.specs.headline_site.headline_device.Devices as devices
use Rattle.carry_said.specs.headline_site.headline_device.Devices.{IsDevice, deed_in, left_of_deed}
use Rattle.unitdata.specs.Hearing.{Brings, Heard, says}
use Rattle.carry_world.specs.Internetwork.{Adds, Internetwork, IsBegun, IsDelivered, IsSized}
use Rattle.carry_world.specs.Laws.{IsHeardAsSaid}
use Rattle.carry_world.specs.InternetworkSteps.{AreSteps, ClientStep, DeviceStep, OwnStep, PassingStep, Step, acts_itself, client_hears, device_hears, last_of, passes_on}
use Rattle.carry_world.proofs.Events.{event_carries}
use Rattle.carry_world.proofs.Lists.{all_set}
use Rattle.carry_said.proofs.headline_site.headline_bacnet.Refining.{refined_stays}
use Rattle.carry_said.specs.headline_site.headline_bacnet.Stations.{longest_of}
use Rattle.carry_said.proofs.headline_site.headline_device.Itself.{itself_hearing}
use Rattle.carry_world.proofs.Sizes.{sized_itself, step_sized}

nothing_in : {X : Type 0} (xs : List X) (x : X) → xs ≡ [] → Has xs x → ⊥
nothing_in {X} xs x e there = none_has (subst (λ (l : List X). Has l x) e there)

-- an entry of what parcels say is that of one of them
said_by : {A : Type 0} (net : ℕ) (ps : List (Parcel A)) (ss : List Said) (s : Said) → AreInside net ps ss → Has ss s →
    (p : Parcel A) × Has ps p × IsInsideOf net p s
said_by net ps [] s all there = absurd (none_has there)
said_by net [] (r ∷ ss) s all there = absurd all
said_by net (p ∷ ps) (r ∷ ss) s all there = ⊎_elim
    (λ (same : r ≡ s). (p, has 0 refl, subst (λ (z : Said). IsInsideOf net p z) same all.0))
    (λ (more : Has ss s). let found = said_by net ps ss s all.1 more in (found.0, has_next p ps found.1, found.2))
    (has_cons r ss there)

module _ {A : Type 0} (s : ObjectSite A) where
  -- what always holds of stations, of what they sent, and of what they said
  pub record Inv (w : AllStations A) (ts : List (Thing A)) (l : List Said) : Type 0 where
    pub stands : Stands longest_of s w
    pub refined : Refined s (start (bacnet A) s) w.core
    pub carried : AreCarried l ts
    pub in_book : (e : Said) → Has l e → IsSaid longest_of w.core.book e.inside e.stamp
    pub sized : AllByRecursion IsSized w.devices

  module _ (n : Internetwork A) (inv : Inv n.world n.things n.said) where
    -- what is delivered carries what was said
    delivered_carries : (net : ℕ) (mac : Mac) (p : Parcel A) → IsDelivered n net mac p → CarriesSaid longest_of n.world.core.book net p
    delivered_carries net mac p is = record {
      said = λ i has. inv.in_book (record { inside = i; stamp = p.stamp })
          ((inv.carried is.thing is.there).carries p i is.bears (subst (λ k. HasInside k p.from p.to p.npdu i) (sym is.on) has));
    }

    pub heard_as_said : (x : Station) (p : Parcel A) (h : Heard) (a : PlainApdu) → IsDelivered n x.net x.mac p → Brings x.net p.from p.to p.npdu h →
        h.content ≡ says a → IsHeardAsSaid (now n.world) n.said x p h a
    heard_as_said x p h a is brings content =
        let b = heard_was_said n.said x.net p h a (record {
          among = λ i has. (inv.carried is.thing is.there).carries p i is.bears (subst (λ k. HasInside k p.from p.to p.npdu i) (sym is.on) has);
        }) brings content in
        record {
          said = b.said;
          there = b.there;
          has = b.has;
          source = b.source;
          covers = b.covers x.mac is.reaches;
          spelled = b.spelled;
          young = subst (λ k. now n.world ≤ k + LIFE_MS) (sym b.stamp) is.young;
        }

    pub device_brings : (place : ℕ) (d : DeviceState A) (p : Parcel A) → slice_get n.world.devices place ≡ Some d → IsDelivered n d.net d.mac p →
        BringsWhatWasSaid d.server.max_apdu n.world.core.book (devices.station_of d) p.from p.to p.npdu
    device_brings place d p there is =
        hearing_said.device_hears longest_of n.world.core d p (delivered_carries d.net d.mac p is) is.reaches is.young
        (all_at IsSized n.world.devices place d inv.sized there).size

    pub client_brings : (place : ℕ) (c : ClientState A) (p : Parcel A) → slice_get n.world.clients place ≡ Some c → IsDelivered n c.net c.mac p →
        BringsWhatWasSaid (longest_of (client_safe.station_of c)) n.world.core.book (client_safe.station_of c) p.from p.to p.npdu
    client_brings place c p there is =
        hearing_said.client_hears longest_of n.world.core.book c p (delivered_carries c.net c.mac p is) is.reaches is.young

    -- a station goes on, and says this
    says_goes : (v : Internetwork A) (w : AllStations A) (net : ℕ) (ps : List (Parcel A)) → v.world ≡ w → Goes longest_of s n.world w →
        AllByRecursion IsSized w.devices → Adds n v net ps → ((p : Parcel A) → Has ps p → CarriesSaid longest_of w.core.book net p) →
        Inv v.world v.things v.said
    says_goes v w net ps is goes sized adds carries =
        subst (λ (u : AllStations A). Inv u v.things v.said) (sym is) (subst (λ (l : List Said). Inv w v.things l) (sym adds.said) (record {
          stands = goes.stands;
          refined = refined_then (bacnet A) s (start (bacnet A) s) n.world.core w.core inv.refined goes.refined;
          carried = λ t there. ⊎_elim
              (λ (was : Has n.things t). carried_still n.said adds.fresh t (inv.carried t was))
              (λ (out : PutsOut net ps t). put_out_is_carried n.said adds.fresh net ps t adds.insides out)
              (adds.grows t there);
          in_book = λ e there. ⊎_elim
              (λ (was : Has n.said e). said_still longest_of n.world.core.book w.core.book e.inside e.stamp (refined_stays
              (bacnet A) s n.world.core w.core goes.refined) (inv.in_book e was))
              (λ (new : Has adds.fresh e). fresh_said e new)
              (has_either n.said adds.fresh there);
          sized = sized;
        }))
      where
        fresh_said : (e : Said) → Has adds.fresh e → IsSaid longest_of w.core.book e.inside e.stamp
        fresh_said e new =
            let of = said_by net ps adds.fresh e adds.insides new in
            subst (λ k. IsSaid longest_of w.core.book e.inside k) (sym of.2.stamp) ((carries of.0 of.1).said e.inside of.2.inside)

    -- a device hears
    device_goes : (v : Internetwork A) → DeviceStep n v → Inv v.world v.things v.said
    device_goes v k =
        let w = n.world in
        let said = device_brings k.place k.d k.p k.there k.delivered in
        let goes = device_hearing_goes longest_of s w k.place k.d k.left k.p.from k.p.to k.p.npdu k.told inv.stands k.there said k.hears in
        let deed = deed_in w.core.book.moment k.p.from k.p.to k.p.npdu k.d k.told k.left k.hears in
        let is : IsDevice s w.core k.d = all_at (λ z. IsDevice s w.core z) w.devices k.place k.d inv.stands.devices k.there in
        let done = hearing_is_done s w.core k.d k.left k.p.from k.p.to k.p.npdu k.told is said k.hears in
        let one = all_at IsSized w.devices k.place k.d inv.sized k.there in
        let left_sized : IsSized (left_of_deed k.d deed) = subst (λ (z : DeviceState A). IsSized z) goes.1 (sized_itself k.d k.left
        (itself_hearing w.core.book.moment k.p.from k.p.to k.p.npdu k.d k.left k.told k.hears) one) in
        says_goes v (device_does k.place deed k.d w) k.d.net k.told.said k.world goes.0
        (all_set IsSized w.devices k.place (left_of_deed k.d deed) inv.sized left_sized) k.adds
        (λ q there. device_says longest_of w.core k.d deed q one.numbers (subst (λ (z : device.DeviceTold A). Has z.said q) done.told_is there))

    -- a client hears
    client_goes : (v : Internetwork A) → ClientStep n v → Inv v.world v.things v.said
    client_goes v k =
        let w = n.world in
        let said = client_brings k.place k.c k.p k.there k.delivered in
        let goes = client_hearing_goes longest_of s w k.place k.c k.next k.p.from k.p.to k.p.npdu k.told inv.stands k.there said k.hears in
        let is : IsClient longest_of w.core k.c = all_at (λ z. IsClient longest_of w.core z) w.clients k.place k.c inv.stands.clients k.there in
        let done = hearing longest_of s w.core k.p.from k.p.to k.p.npdu k.c k.told k.next is said k.hears in
        let says = said_in w.core.book.moment k.p.from k.p.to k.p.npdu k.c k.told k.next k.hears in
        says_goes v (with_client k.place k.next (acts longest_of (client_safe.station_of k.c) says k.told.outcomes
        (safe_client longest_of k.next) w.core) w) k.c.net k.told.said k.world goes inv.sized k.adds
        (λ q there. client_says longest_of w.core k.c says k.told.outcomes (safe_client longest_of k.next) q done.written (subst (λ (l : List
        (Parcel A)). Has l q) done.parcels_are there))

    -- a station does something by itself
    own_goes : (v : Internetwork A) → OwnStep s n v → Inv v.world v.things v.said
    own_goes v k =
        says_goes v (step longest_of s n.world k.event) k.net k.ps k.world (step_goes longest_of s n.world k.event inv.stands k.fair)
        (step_sized s n.world inv.sized k.event) k.adds
        (λ q there. event_carries s n.world inv.stands inv.sized k.event k.fair k.net k.ps k.says q there)

    -- something is passed on
    passing_goes : (v : Internetwork A) → PassingStep n v → Inv v.world v.things v.said
    passing_goes v k =
        subst (λ (u : AllStations A). Inv u v.things v.said) (sym k.world) (subst (λ (l : List Said). Inv n.world v.things l) (sym k.said) (record {
          stands = inv.stands;
          refined = inv.refined;
          carried = λ t there. ⊎_elim
              (λ (was : Has n.things t). inv.carried t was)
              (λ (passed : PassesOn n.things t). passed_on_is_carried n.said n.things t inv.carried passed)
              (k.grows t there);
          in_book = inv.in_book;
          sized = inv.sized;
        }))

    pub one_goes : (v : Internetwork A) → Step s n v → Inv v.world v.things v.said
    one_goes v (device_hears k) = device_goes v k
    one_goes v (client_hears k) = client_goes v k
    one_goes v (acts_itself k) = own_goes v k
    one_goes v (passes_on k) = passing_goes v k

  -- all steps
  pub all_go : (vs : List (Internetwork A)) (n : Internetwork A) → Inv n.world n.things n.said → AreSteps s vs n →
      Inv (last_of vs n).world (last_of vs n).things (last_of vs n).said
  all_go [] n inv steps = inv
  all_go (v ∷ vs) n inv steps = all_go vs v (one_goes n inv v steps.0) steps.1

  -- the start
  pub begins : (n : Internetwork A) → IsBegun s n → Inv n.world n.things n.said
  begins n begun = record {
    stands = begins_well longest_of s n.world begun.world;
    refined = subst (λ (k : ObjectCore A). Refined s (start (bacnet A) s) k) (sym begun.world.core) (refined_none (bacnet A) s (start (bacnet A) s));
    carried = λ t there. absurd (nothing_in n.things t begun.nothing there);
    in_book = λ e there. absurd (nothing_in n.said e begun.silent there);
    sized = begun.sized;
  }
