use Rattle.world.proofs.HearingLaws.{all_ears}
use Rattle.world.proofs.internetwork.Internetwork.settle.Goals as goal

-- the ear is there still
pub keep-requires : goal.keep-requires
keep-requires g c =
    all_ears c.args.listener c.as_slice.result.now c.in-Over.rest c.args.self.now c.settle_over.new.self
    c.args.at.bus c.args.at.ear c.in_ok-settle_over-in-Over.ensures.takes c.requires.ear
