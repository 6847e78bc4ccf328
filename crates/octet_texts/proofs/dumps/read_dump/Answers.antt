use Rattle.std.proofs.Common.{◌∷◌, [], arith, length, rules, subst, sym}
use Rattle.std.proofs.lemmas.Iterator.Consumers.{YieldsList-end, YieldsList-turn}
use Rattle.std.proofs.lemmas.Iterator.Splits.{YieldsList-from_lines}
use Rattle.std.proofs.lemmas.List.{length-append}
use Rattle.std.specs.Str.Lines.{lines}
use Rattle.octet_texts.specs.Dumps.{NoDumpLine, OnlyDump, ReadsLine, SaysDump}
use Rattle.octet_texts.proofs.DumpLaws.{lines_end, next_faulty, next_read, nothing_read, only_all, read_all}
use Rattle.octet_texts.proofs.dumps.read_dump.Goals as goal

pub loop-line-preserved : goal.loop-line-preserved
loop-line-preserved g c =
    let road = YieldsList-from_lines {s = c.into_iter-line-iterator.result} c.args.text.now (cc) in
    let turn = YieldsList-turn road c.loop-line.yielded c.loop-line.line-iterator c.loop-line.yielded_by c.next.result c.next.new.self c.in-Some.line c.in-Some.is c.next.ensures.steps in
    let one = length-append c.loop-line.yielded (c.in-Some.line ∷ []) in
    next_read (lines c.args.text.now) (length c.loop-line.yielded) _ c.in-Some.line.now c.loop-line.octets.items _ c.loop-line.invariant turn (omega (arith, one))
    (subst (λ x. ReadsLine x c.loop-line.octets.items c.push_line.new.octets.items) c.as_bytes.ensures.value
    (c.in_ok-push_line.ensures.line c.if-not-branch.false))

pub returns-then-not-branch-clause-faulty : goal.returns-then-not-branch-clause-faulty
returns-then-not-branch-clause-faulty g c =
    let road = YieldsList-from_lines {s = c.into_iter-line-iterator.result} c.args.text.now (cc) in
    let turn = YieldsList-turn road c.loop-line.yielded c.loop-line.line-iterator c.loop-line.yielded_by c.next.result c.next.new.self c.in-Some.line c.in-Some.is c.next.ensures.steps in
    next_faulty c.args.text.now c.in-Some.line.now c.loop-line.octets.items (length c.loop-line.yielded) c.loop-line.invariant turn
    (subst (λ x. NoDumpLine (length c.loop-line.octets.items) x) c.as_bytes.ensures.value
    (c.in_ok-push_line.ensures.other c.if-not-branch.true))

pub returns-then-is_empty-clause-faulty : goal.returns-then-is_empty-clause-faulty
returns-then-is_empty-clause-faulty g c =
    let road = YieldsList-from_lines {s = c.into_iter-line-iterator.result} c.args.text.now (cc) in
    let ends = YieldsList-end road c.loop-line.yielded c.loop-line.line-iterator c.loop-line.yielded_by c.next.result c.next.new.self c.in-None.is c.next.ensures.steps in
    nothing_read c.args.text.now c.loop-line.octets.items
    (lines_end (lines c.args.text.now) (length c.loop-line.yielded) c.loop-line.octets.items c.loop-line.invariant ends.1)
    (search rules)

pub returns-clause-read : goal.returns-clause-read
returns-clause-read g c =
    let road = YieldsList-from_lines {s = c.into_iter-line-iterator.result} c.args.text.now (cc) in
    let ends = YieldsList-end road c.loop-line.yielded c.loop-line.line-iterator c.loop-line.yielded_by c.next.result c.next.new.self c.in-None.is c.next.ensures.steps in
    let all = read_all c.args.text.now c.loop-line.octets.items
    (lines_end (lines c.args.text.now) (length c.loop-line.yielded) c.loop-line.octets.items c.loop-line.invariant ends.1)
    (search rules) in subst (λ x. SaysDump c.args.text.now x) (sym c.from_vec.ensures) all

pub returns-clause-only : goal.returns-clause-only
returns-clause-only g c =
    let road = YieldsList-from_lines {s = c.into_iter-line-iterator.result} c.args.text.now (cc) in
    let ends = YieldsList-end road c.loop-line.yielded c.loop-line.line-iterator c.loop-line.yielded_by c.next.result c.next.new.self c.in-None.is c.next.ensures.steps in
    let all = only_all c.args.text.now c.loop-line.octets.items
    (lines_end (lines c.args.text.now) (length c.loop-line.yielded) c.loop-line.octets.items c.loop-line.invariant ends.1) in
    subst (λ x. OnlyDump c.args.text.now x) (sym c.from_vec.ensures) all
