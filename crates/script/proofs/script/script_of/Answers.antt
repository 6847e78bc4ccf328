use Rattle.std.proofs.Common.{option_map, rules}
use Rattle.script.proofs.LineLaws.{bad_but_memory, first_bad, read_on, sound_all}
use Rattle.script.proofs.script.script_of.Goals as goal

pub loop-left-preserved : goal.loop-left-preserved
loop-left-preserved g c =
    read_on c.args.text.now c.loop-left.steps c.put_line.new.steps c.loop-left.number c.in-Some.here.now c.cut_line.result.0.now
    (option_map (λ r. r.now) c.cut_line.result.1) (rw c.in-Some.is at c.loop-left.invariant) c.cut_line.ensures.parts c.cut_line.ensures.less c.in-Ok.ensures.put

pub returns-in-Err-clause-refused : goal.returns-in-Err-clause-refused
returns-in-Err-clause-refused g c =
    first_bad c.args.text.now c.loop-left.steps c.loop-left.number c.in-Some.here.now c.cut_line.result.0.now (option_map (λ r. r.now) c.cut_line.result.1)
    (rw c.in-Some.is at c.loop-left.invariant) c.cut_line.ensures.parts
    (bad_but_memory _ c.cut_line.result.0.now c.in-Err.unread c.in-Err.ensures.refused (search rules))

pub returns-clause-sound : goal.returns-clause-sound
returns-clause-sound g c = sound_all c.loop-left.steps c.loop-left.invariant.fit
