use Rattle.std.proofs.Common.{◌≡◌, drop}
use Rattle.due_times.specs.Until.{Until}
use Rattle.server_tsm.specs.Waking.{is_quiet}
use Rattle.server_tsm.proofs.server.ServerTsm.next_due.Given as goal

-- nothing was due so far
abbrev pub invariant-loop-place : goal.invariant-loop-place
invariant-loop-place g l =
    Until l.due (λ now. is_quiet now (drop l.place l.self.records) ≡ is_quiet now l.self.records)
