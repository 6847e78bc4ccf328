-- The runs begin in fresh worlds.
use Rattle.std.proofs.Common.{refl, arith, true}
use Rattle.apdu.specs.declared.sizes.MaxApdu.TheVariants.{UpTo1476}
use Rattle.carry_runs.specs.Crossing.{begun}
use Rattle.carry_world.specs.Laws.{IsFresh}
use Rattle.headline_site_runs.specs.Small.{device, objects, site}
use Rattle.npdu.specs.declared.mac.Station.{Station}

pub is_fresh : (A : Type 0) (station : Station) → IsFresh (site A) (begun A station)
is_fresh A station = record {
  moment = refl;
  keys = refl;
  history = refl;
  things = refl;
  said = refl;
  clients = (record { address = station; segmented = true; max_apdu = UpTo1476; code = omega arith; is = refl }, tt);
  devices = (record { objects = objects; address = device; instance = refl; opening = refl; link = refl; is = refl }, tt);
  clients_apart = (tt, tt);
  devices_apart = (tt, tt);
  numbers = (record { instance = omega arith; vendor = omega arith }, tt);
}
