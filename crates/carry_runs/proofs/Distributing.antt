-- The run through a broadcast manager: it passes a Who-Is on to a device, which says who it is.
use Rattle.std.proofs.Common.{◌≡◌, ⊎_elim, inl, inr, refl, subst, ◌≤◌, [], ◌∷◌, ◌++◌, length, true, false, None, Some, arith}
use Rattle.apdu.specs.Unconfirmed.{i_am_octets}
use Rattle.apdu.specs.declared.sizes.MaxApdu.TheVariants.{UpTo1476}
use Rattle.bbmd_manager.specs.Manager.{IsHeard}
use Rattle.bvll.proofs.Unique as bvll
use Rattle.bvll.specs.Datagram.{canonical, distribute, forwarded}
use Rattle.carry.proofs.Managers.{manager_passes_on}
use Rattle.carry.specs.Datagrams.{mac_at}
use Rattle.carry.specs.Passing.{PassesOn}
use Rattle.carry.specs.Ports.{Foreign, Member, down}
use Rattle.carry.specs.Things.{SentDatagram, Thing}
use Rattle.carry_runs.proofs.Fresh.{is_fresh}
use Rattle.carry_runs.proofs.Parcels.{announcing_spells, tells_who, tells_who_short, to_all, who_is_spells}
use Rattle.carry_runs.proofs.Puts.{one_put}
use Rattle.carry_runs.specs.Crossing.{begun, i_am_apdu, said_by, who_is_apdu}
use Rattle.carry_runs.specs.Distributing.{IsForwarded, asks_all, foreigner, forwards, manager, own, wanderer}
use Rattle.carry_world.specs.PlainSteps.{PlainStep, client_asks, device_hears, something_passes}
use Rattle.carry_world.specs.PlainWorld.{PlainWorld}
use Rattle.client.specs.Client.{new_client}
use Rattle.device.specs.Device.{DeviceState, new_device}
use Rattle.device.specs.Hearing.{says_who}
use Rattle.headline_site_runs.specs.Small.{device, i_am, objects, site}
use Rattle.history.proofs.Lists.{has, has_cons, has_either, none_has}
use Rattle.history.specs.Lists.{Has}
use Rattle.inside.specs.declared.reach.Reach.TheVariants as reach
use Rattle.unitdata.proofs.InsideLaws.{announced_is_inside}
use Rattle.unitdata.specs.Hearing.{says}
use Rattle.unitdata.specs.Saying.{announcing_npdu, global_npdu}

asks_short : (A : Type 0) → length (asks_all A).npdu ≤ 1000
unfolding announcing_npdu global_npdu
asks_short A = omega arith

-- the manager hears the Who-Is, and says this
manager_hears : (A : Type 0) → IsHeard 0 wanderer (canonical (distribute (asks_all A).npdu)) manager manager (forwards A ∷ [])
unfolding announcing_npdu global_npdu
manager_hears A = record {
  found = Some (distribute (asks_all A).npdu);
  means = bvll.canonical_spells (distribute (asks_all A).npdu) (record { fields = tt; fits = omega (arith, asks_short A) });
  fits = refl;
  says = refl;
  leaves = refl;
}

module _ (A : Type 0) where
  abbrev server : DeviceState A
  server = new_device objects device

  abbrev asked : Thing A
  asked = SentDatagram 1 foreigner.mac (mac_at own) (canonical (distribute (asks_all A).npdu)) 0

  abbrev passed : Thing A
  passed = SentDatagram 1 (mac_at own) device.mac (forwards A).octets 0

  -- the world after each step
  abbrev w1 : PlainWorld A
  w1 = record (begun A foreigner) { things = asked ∷ []; said = said_by foreigner reach.All who_is_apdu ∷ [] }

  abbrev w2 : PlainWorld A
  w2 = record w1 { things = w1.things ++ passed ∷ [] }

  abbrev w3 : PlainWorld A
  w3 = record w2 {
    things = w2.things ++ down 1 (Member (mac_at own ∷ [])) (tells_who A);
    said = w2.said ++ said_by device reach.All i_am_apdu ∷ [];
  }

  -- the client asks through its manager
  asks_who : PlainStep (site A) (begun A foreigner) w1
  asks_who = client_asks (record {
    place = 0;
    c = new_client foreigner true UpTo1476;
    limits = None;
    there = refl;
    moment = refl;
    clients = refl;
    devices = refl;
    keys = refl;
    history = refl;
    puts = one_put (begun A foreigner) w1 1 (Foreign (mac_at own)) (asks_all A) _ (announced_is_inside 1 foreigner.mac _ 8 [])
        (omega (arith, asks_short A)) refl refl;
  })

  -- the manager passes it on
  manager_passes : PassesOn w1.things passed
  manager_passes =
      manager_passes_on A w1.things 1 0 0 wanderer (canonical (distribute (asks_all A).npdu)) manager manager (forwards A ∷ []) (forwards A)
      (record { ip = refl; port = omega arith }) (has 0 refl) (manager_hears A) (has 0 refl)

  is_passed : PlainStep (site A) w1 w2
  is_passed = something_passes (record {
    moment = refl;
    clients = refl;
    devices = refl;
    keys = refl;
    history = refl;
    said = refl;
    grows = λ t at. ⊎_elim
        (λ (old : Has w1.things t). inl old)
        (λ (new : Has (passed ∷ []) t).
        inr (⊎_elim (λ (e : passed ≡ t). subst (λ (z : Thing A). PassesOn w1.things z) e manager_passes)
        (λ (more : Has [] t). absurd (none_has more)) (has_cons passed [] new)))
        (has_either w1.things (passed ∷ []) at);
  })

  -- the device says who it is
  says_who_it_is : PlainStep (site A) w2 w3
  says_who_it_is = device_hears (record {
    place = 0;
    d = server;
    left = server;
    p = asks_all A;
    told = says_who 0 server;
    there = refl;
    delivered = record {
      thing = passed;
      there = has 1 refl;
      on = refl;
      bears = record {
        datagram = forwarded wanderer (asks_all A).npdu;
        spelled = bvll.canonical_spells (forwarded wanderer (asks_all A).npdu)
            (record { fields = record { ip = refl; port = omega arith }; fits = omega (arith, asks_short A) });
        carries = refl;
      };
      reaches = tt;
      young = omega arith;
    };
    hears =
        inl (record {
          heard = record { station = foreigner; way = record { to = foreigner.mac; destination = None }; alone = false; content = says who_is_apdu };
          brings = record {
            header = to_all who_is_apdu;
            spelled = announcing_spells 8 [];
            here = refl;
            sent = refl;
            way = refl;
            alone = refl;
            said = who_is_spells;
          };
          does = (inl (record { limits = None; who_is = refl; spelled = refl; covered = tt }, refl), refl);
        });
    moment = refl;
    clients = refl;
    devices = refl;
    keys = refl;
    history = refl;
    puts = one_put w2 w3 1 (Member (mac_at own ∷ [])) (tells_who A) _ (announced_is_inside 1 device.mac _ 0 (i_am_octets i_am)) (tells_who_short A) refl refl;
  })

pub is_forwarded : {A : Type 0} → IsForwarded A
is_forwarded {A} = record {
  fresh = is_fresh A foreigner;
  world = w3 A;
  steps = record { between = w1 A ∷ w2 A ∷ w3 A ∷ []; steps = (asks_who A, (is_passed A, (says_who_it_is A, tt))); last = refl };
  heard = manager_hears A;
  passed = has 1 refl;
  said = refl;
}
