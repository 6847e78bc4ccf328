-- A foreign device of BACnet/IP that asks who is there, the broadcast manager at which it is registered, and a device
-- on that manager's subnet (J.4.5, J.5).
use Rattle.std.specs.Prelude.{◌≡◌, [], ◌∷◌, None}
use Rattle.bbmd_manager.specs.Manager.{IsHeard}
use Rattle.bbmd_manager.specs.State.{ManagerState}
use Rattle.bbmd_manager.specs.declared.saying.Outgoing.{Outgoing}
use Rattle.bvll.specs.Datagram.{canonical, distribute, forwarded}
use Rattle.bvll.specs.declared.address.Address.{Address}
use Rattle.carry.specs.Datagrams.{mac_at}
use Rattle.carry.specs.Things.{SentDatagram}
use Rattle.carry_runs.specs.Crossing.{begun, i_am_apdu, said_by, who_is_apdu}
use Rattle.carry_world.specs.Laws.{IsFresh}
use Rattle.carry_world.specs.PlainSteps.{StepsTo}
use Rattle.carry_world.specs.PlainWorld.{PlainWorld}
use Rattle.client.specs.Saying.{who_is_parcel}
use Rattle.headline_site_runs.specs.Small.{device, site}
use Rattle.history.specs.Lists.{Has}
use Rattle.inside.specs.declared.reach.Reach.TheVariants as reach
use Rattle.npdu.specs.declared.mac.Station.{Station}
use Rattle.npdu.specs.declared.parcel.Parcel.{Parcel}

-- the addresses of the manager, of the device and of the client
abbrev pub own : Address
own = record { ip = 127 ∷ 0 ∷ 0 ∷ 1 ∷ []; port = 47808 }

abbrev pub member : Address
member = record { ip = 127 ∷ 0 ∷ 0 ∷ 1 ∷ []; port = 47817 }

abbrev pub wanderer : Address
wanderer = record { ip = 127 ∷ 0 ∷ 0 ∷ 1 ∷ []; port = 47874 }

-- the client
abbrev pub foreigner : Station
foreigner = record { net = 1; mac = mac_at wanderer }

-- the manager serves it, and no others
abbrev pub manager : ManagerState
manager =
    record {
      tables = record {
        own = own;
        members = own ∷ member ∷ [];
        managers = own ∷ [];
        foreign = record { device = wanderer; seconds_to_live = 60; at = 0 } ∷ [];
      };
      moment = 0;
    }

-- the client's Who-Is, and what the manager says of it to the device (J.2.5, J.2.10)
abbrev pub asks_all : (A : Type 0) → Parcel A
asks_all A = who_is_parcel 0 foreigner.mac None

abbrev pub forwards : (A : Type 0) → Outgoing A
forwards A = record { to = member; octets = canonical (forwarded wanderer (asks_all A).npdu) }

-- steps lead from a fresh world to one in which the manager, by its contract, passed the broadcast on to the device,
-- and the device said who it is
pub record IsForwarded (A : Type 0) : Type 0 where
  pub fresh : IsFresh (site A) (begun A foreigner)
  pub world : PlainWorld A
  pub steps : StepsTo (site A) (begun A foreigner) world
  pub heard : IsHeard 0 wanderer (canonical (distribute (asks_all A).npdu)) manager manager (forwards A ∷ [])
  pub passed : Has world.things (SentDatagram 1 (mac_at own) device.mac (forwards A).octets 0)
  pub said : world.said ≡ said_by foreigner reach.All who_is_apdu ∷ said_by device reach.All i_am_apdu ∷ []
