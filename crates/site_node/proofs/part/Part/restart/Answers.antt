use Rattle.std.proofs.Common.{sym}
use Rattle.site_node.proofs.Nodes.{stays_so}
use Rattle.site_node.proofs.part.Part.restart.Goals as goal

pub returns-in_default : goal.returns-in_default
returns-in_default g c = sym (stays_so c.args.now c.args.opening c.args.self.now c.in_default.not-Device)
