use Rattle.std.proofs.Common.{subst, ℕ, List}
use Rattle.std.specs.Fmt.{HasWritten}
use Rattle.site_trace.specs.Lines.{frame_text}
use Rattle.site_trace.proofs.lines.FrameLineDisplay.fmt.Goals as goal

pub returns-clause-writes : goal.returns-clause-writes
returns-clause-writes g c = unfold frame_text in λ plain ok. subst
    (λ (o : List ℕ). HasWritten {W = g.row.W.Denot} g.W.Write.write_str_gives c.args.f.now
    (frame_text c.args.self.now.stations.now c.args.self.now.net (record c.args.self.now.sending.now { octets = o })
    c.args.self.now.moment) c.write.new.self) c.as_slice.ensures (c.write.ensures.writes plain ok)
