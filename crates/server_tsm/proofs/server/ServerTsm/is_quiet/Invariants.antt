use Rattle.std.proofs.Common.{◌≡◌, drop}
use Rattle.server_tsm.specs.Waking.{is_quiet}
use Rattle.server_tsm.proofs.server.ServerTsm.is_quiet.Given as goal

-- nothing was due so far
abbrev pub invariant-loop-place : goal.invariant-loop-place
invariant-loop-place g l = is_quiet l.now (drop l.place l.self.records) ≡ is_quiet l.now l.self.records
