use Rattle.std.proofs.Common.{◌≡◌, ◌<◌, true, ◌≤◌, ◌-◌, ◌++◌, length, drop}
use Rattle.mstp_frame.specs.Feeding.{LeadsTo}
use Rattle.mstp_frame.specs.Front.{frame_in, kept_in, IsReady}
use Rattle.mstp_frame.proofs.buffer.Buffer.take_all.Given as goal

abbrev pub invariant-loop-used : goal.invariant-loop-used
invariant-loop-used l = (l.self.is_whole ≡ true → 0 < l.used) × (l.used ≤ length l.piece) × IsReady l.self ×
    LeadsTo (kept_in l.fn.self ++ l.piece) (frame_in l.self) (kept_in l.self ++ drop l.used l.piece)

abbrev pub decreases-loop-used : goal.decreases-loop-used
decreases-loop-used l = length l.piece - l.used
