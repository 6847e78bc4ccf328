use Rattle.std.proofs.Common.{◌∙◌}
use Rattle.world_sites.proofs.FitLaws.{these_numbered}
use Rattle.world_sites.proofs.relays.put_router.Goals as goal

-- its ports are on networks with numbers
pub router_over-requires : goal.router_over-requires
router_over-requires g c = record {
  numbers = these_numbered c.args.all.now c.args.links.now c.as_slice.result.now
      (c.as_slice.ensures.value ∙ c.in_ok-ports.ensures) c.requires.numbers;
}
