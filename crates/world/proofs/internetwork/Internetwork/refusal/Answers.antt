use Rattle.std.proofs.Common.{sym}
use Rattle.std.proofs.lemmas.Bool.{eqb-true}
use Rattle.std.proofs.lemmas.List.{nil_from_length}
use Rattle.world.proofs.HearingLaws.{nothing_before}
use Rattle.world.proofs.internetwork.Internetwork.refusal.Goals as goal

-- nothing was heard before
pub returns-then-is_empty : goal.returns-then-is_empty
returns-then-is_empty g c =
    nothing_before c.args.listener c.args.frames.now c.args.self.now c.args.fault
    (nil_from_length c.args.frames.now (eqb-true _ _ (sym c.if-is_empty.ensures)))
