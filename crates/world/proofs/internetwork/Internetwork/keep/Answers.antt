use Rattle.std.proofs.Common.{◌∙◌, ap}
use Rattle.std.specs.Prelude.{slice_get}
use Rattle.buses.specs.Hearing.{heard_at}
use Rattle.buses.specs.Puts.{BusesState}
use Rattle.world.proofs.ActingLaws.{seen}
use Rattle.world.proofs.internetwork.Internetwork.keep.Goals as goal
use Rattle.world.specs.World.{WorldState}
use Rattle.world_log.specs.Log.{log_of}

-- the ear is as its bus says, and nothing else has changed
pub returns : goal.returns
returns g c = record {
  bus = c.requires.bus;
  ear = c.requires.ear;
  bus_there = c.requires.bus_there;
  ear_there = c.requires.ear_there;
  is = ap (λ (bs : BusesState _).
      seen c.self.inside.site c.self.inside.moment c.self.inside.nodes.items (log_of c.self.inside.log) bs)
      (c.hear.ensures.heard c.requires.bus c.requires.ear
      (ap (λ (w : WorldState _). slice_get w.buses.buses c.args.bus) c.self.view_is ∙ c.requires.bus_there)
      c.requires.ear_there)
      ∙ ap (λ (w : WorldState _). record w {
        buses = heard_at w.moment c.args.bus c.args.ear c.args.octets.now c.args.cut c.requires.ear c.requires.bus
            w.buses;
      }) c.self.view_is;
}
