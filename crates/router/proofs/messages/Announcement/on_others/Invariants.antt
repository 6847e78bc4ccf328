use Rattle.std.proofs.Common.{◌≡◌, ◌++◌, drop}
use Rattle.router.specs.Messages.{said_on_others, said_there}
use Rattle.router.specs.Sending.{of_others_from}
use Rattle.router.proofs.messages.Announcement.on_others.Given as goal

-- what is said so far, with that of the rest, is all
abbrev pub invariant-loop-number : goal.invariant-loop-number
invariant-loop-number g l =
    l.out ++ of_others_from (said_there l.self.stamp l.self.message l.self.contents.now) l.number l.port (drop l.number l.ports)
    ≡ said_on_others l.self.stamp l.self.message l.self.contents.now l.port l.ports
