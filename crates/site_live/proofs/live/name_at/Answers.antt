use Rattle.std.proofs.Common.{refl, length, subst, sym, ◌<◌}
use Rattle.std.proofs.lemmas.Option.{slice_get_read}
use Rattle.site_live.proofs.LapLaws.{named_there}
use Rattle.site_live.proofs.live.name_at.Goals as goal

pub returns : goal.returns
returns g c = record {
  named = named_there c.from_slice.result c.name.result.now c.args.place c.index-nodes-place.result c.nodes.result.now
      c.args.world.now c.from_slice.ensures c.name.ensures
      (slice_get_read c.nodes.result.now (length c.nodes.result.now) c.args.place c.index-nodes-place.result refl
      (subst (λ ns. c.args.place < length ns) (sym c.nodes.ensures) c.requires.there) c.index-nodes-place.is)
      c.nodes.ensures;
}
