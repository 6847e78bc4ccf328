-- A router that is on the device's network by BACnet/IP passes a request on: it puts out one item, for the device.
use Rattle.std.proofs.Common.{◌≡◌, ◌≢◌, ◌∙◌, refl, sym, ap, subst, arith, ℕ, suc, ◌+◌, ◌≤◌, true, List, length, Option, Some}
use Rattle.std.specs.Prelude.{◌&&◌, nat_lt, slice_get}
use Rattle.std.proofs.lemmas.Bool.{and_parts}
use Rattle.bindings.specs.declared.binding.Binding.{Binding}
use Rattle.carry_answered.specs.Answered.{GoInOne}
use Rattle.npdu.specs.Mac.{is_address}
use Rattle.npdu.specs.declared.mac.Mac.{Mac}
use Rattle.npdu.specs.declared.mac.Station.{Station}
use Rattle.npdu.specs.declared.mac.Way.{Way}
use Rattle.npdu.specs.declared.parcel.Parcel.{Parcel}
use Rattle.unitdata.specs.Hearing.{way_to}
use Rattle.unitdata.specs.Saying.{Spoken, is_named, is_spelled, npdu_to, parcel_to}
use Rattle.world.specs.Laws.{Stands}
use Rattle.primitives.specs.declared.plain_data.Request.{Request}
use Rattle.world.specs.Step.{Delivers as Delivery, Issues}
use Rattle.world.specs.World.{WorldState}
use Rattle.world.specs.client.Client.{ClientState}
use Rattle.world.specs.device.Device.{DeviceState}
use Rattle.world.specs.site_node.Node.{home_of}
use Rattle.world.specs.site_node.declared.part.Part.TheVariants.{Client, Device}
use Rattle.world_answered.specs.Exchange.{Asks, IsByIp, IsOnIp, PutsOut, Routes, RoutersPutOut, Waits}
use Rattle.std.proofs.Math.Nat.{max-le, min-le_left}
use Rattle.std.specs.Prelude.{min}
use Rattle.std.proofs.lemmas.Bool.{leb-true}
use Rattle.apdu.specs.Sizes.{apdu_taken}
use Rattle.apdu.specs.declared.sizes.MaxApdu.{MaxApdu}
use Rattle.apdu.specs.declared.sizes.MaxApdu.TheVariants.{UpTo50, UpTo128, UpTo206, UpTo480, UpTo1024, UpTo1476, Reserved}
use Rattle.bindings.specs.Limits as limit
use Rattle.bindings.specs.Accepts.{PlainAccepts}
use Rattle.bindings.specs.declared.bound.Bound.{Bound}
use Rattle.world.specs.headline_bacnet.services.Asked.{request_octets}
use Rattle.npdu.specs.declared.mac.Mac.TheVariants.{Six}
use Rattle.npdu.specs.Mac.{mac_octets}
use Rattle.world_answered.proofs.Hearing.{at_work, from_address, router_goes_down, router_here}
use Rattle.world_answered.proofs.Issuing.{IsSaidOut, issue_out, plain_issue, spoken}
use Rattle.world_answered.proofs.Passing.{passes_once, six_long}
use Rattle.world_answered.proofs.Places.{length_set, some_same}
use Rattle.world_answered.proofs.Putting.{away_way, is_for, on_ip, puts_one}
use Rattle.world_answered.proofs.Steady.{HasWaited, has_waited, steady_issue}

-- a client takes APDUs of 1,476 octets at most, and says none that is longer
taken_most : (m : MaxApdu) → apdu_taken m ≤ 1476
taken_most UpTo50 = omega arith
taken_most UpTo128 = omega arith
taken_most UpTo206 = omega arith
taken_most UpTo480 = omega arith
taken_most UpTo1024 = omega arith
taken_most UpTo1476 = omega arith
taken_most (Reserved n) = omega arith

limit_most : (accepts : PlainAccepts) (to : Bound) → limit.apdu_limit accepts to ≤ 1476
limit_most accepts to =
    let one = min-le_left (apdu_taken accepts.max_apdu) to.max_apdu in
    let most = taken_most accepts.max_apdu in
    max-le (let e : 50 ≤ 1476 = omega arith in e)
    (let e : min (apdu_taken accepts.max_apdu) to.max_apdu ≤ 1476 = omega (arith, one, most) in e)

four_more : (n : ℕ) → suc (suc (suc (suc n))) ≡ n + 4
four_more n = omega arith

module _ {A : Type 0} (w : WorldState A) (stands : Stands w) (name : List ℕ) (instance : ℕ) (request : Request A) (router : Mac)
    (d : DeviceState A) (asked : WorldState A) (asks : Asks name instance request router d w asked) (two : asks.c.net ≢ d.net)
    (v : WorldState A) (passes : Routes Waits (length w.items) d.net asked v) (by_ip : IsByIp d.net passes.r)
    (device_on : IsOnIp d.mac) where
  abbrev place : ℕ
  place = asks.issues.place

  abbrev i : Issues place instance request w asked
  i = asks.issues.holds

  abbrev c : ClientState A
  c = asks.c

  abbrev to_router : WorldState A
  to_router = passes.comes.then

  abbrev dl1 : Delivery (length w.items) to_router v
  dl1 = passes.comes.delivers

  waits1 : HasWaited asked to_router
  waits1 = has_waited asked to_router passes.comes.between

  stands1 : Stands to_router
  stands1 = waits1.stands (steady_issue place instance request w asked stands i)

  -- each item is the first of those that the event before put out
  there1 : slice_get asked.items (length w.items) ≡ Some dl1.item
  there1 = ap (λ (z : WorldState A). slice_get z.items (length w.items)) (sym waits1.is) ∙ dl1.there

  -- the binding by which it is issued is that one
  abbrev issued_by : Binding
  issued_by = (plain_issue w asked place instance request asks.sound i c asks.client).issues.binding

  same_binding : asks.bound.binding ≡ issued_by
  same_binding = some_same asks.bound.binding issued_by
      (sym asks.bound.held ∙ (plain_issue w asked place instance request asks.sound i c asks.client).issues.held)

  whole : GoInOne c issued_by d request
  whole = subst (λ (b : Binding). GoInOne c b d request) same_binding asks.whole

  -- what it says, and the item that goes out of it
  abbrev asks_so : Spoken
  asks_so = spoken w asked place instance request asks.sound i c asks.client

  way_is : asks_so.way ≡ way_to c.net router (home_of (Device d))
  way_is = ap (λ (b : Binding). b.bound.way) (sym same_binding) ∙ asks.bound.way

  destination : asks_so.way.destination ≡ Some (home_of (Device d))
  destination = ap (λ (y : Way). y.destination) way_is ∙ away_way c.net router (home_of (Device d)) two

  out : IsSaidOut w.moment (home_of (Client c)) asks_so i.told.told.said dl1.item
  out = issue_out w asked place instance request asks.sound i c asks.client stands dl1.item there1 whole.asked

  abbrev p : Parcel A
  p = parcel_to w.moment c.mac asks_so

  abbrev home : Station
  home = home_of (Client c)

  named : is_named (home_of (Device d)) ≡ true
  named = subst (λ (o : Option Station). is_spelled o ≡ true) destination out.spelled

  device_six : (octets : List ℕ) × (d.mac ≡ Six octets)
  device_six = on_ip d.mac device_on

  client_long : length (mac_octets c.mac) ≡ 6
  client_long = six_long c.mac out.item.address out.item.six
      (subst (λ (m : Mac). is_address m ≡ true) out.item.from (from_address to_router v (length w.items) dl1 stands1))

  device_long : length (mac_octets d.mac) ≡ 6
  device_long = six_long d.mac device_six.0 device_six.1
      (and_parts (nat_lt 0 d.net && nat_lt d.net 65535) (is_address d.mac) named).1

  apdu_short : length asks_so.apdu ≤ 1476
  apdu_short =
      let long : length asks_so.apdu ≡ length (request_octets request) + 4 = four_more (length (request_octets request)) in
      let most = limit_most c.machine.accepts issued_by.bound in
      let fits = leb-true (length (request_octets request) + 4) (limit.apdu_limit c.machine.accepts issued_by.bound) whole.asked in
      omega (arith, long, most, fits)

  passed : PutsOut (home_of (Device d)) asked v
  passed =
      let goes = router_goes_down to_router v (length w.items) dl1 stands1 home p asks_so.way.to out.item refl passes.r passes.router in
      let once = passes_once to_router.moment dl1.port passes.r home asks_so.way.to p asks_so.expects_reply (home_of (Device d)) asks_so.apdu named
      (ap (λ (o : Option Station). npdu_to asks_so.expects_reply o asks_so.apdu) destination)
      (router_here to_router v (length w.items) dl1 stands1 home p asks_so.way.to out.item refl passes.r passes.router)
      out.item.short apdu_short client_long device_six.0 device_six.1 device_long passes.port passes.there passes.on
      (λ s has_it same. on_ip s.mac (by_ip.only s has_it same)) goes.middle goes.end goes.places_are goes.silent goes.downs goes.left
      goes.hears goes.goes_down in
      puts_one asked v (at_work to_router v (length w.items) dl1 stands1 home p asks_so.way.to out.item refl).items _ once.i (home_of (Device d))
      (length_set to_router.items (length w.items) _ ∙ ap (λ (z : WorldState A). length z.items) waits1.is) goes.items once.one
      (is_for once.i (home_of (Device d)) d.mac once.goes.0 once.goes.1)

pub routers_put_out : {A : Type 0} → RoutersPutOut A
routers_put_out name instance request router d w asked v stands asks two routes by_ip device_on =
    passed w stands name instance request router d asked asks two v routes by_ip device_on
