use Rattle.std.specs.Prelude.{IfErr}
use Rattle.std.proofs.Common.{rules, sym, ◌∙◌}
use Rattle.bvll.specs.Refusal.{Refuses}
use Rattle.bvll.proofs.Refusals.{refusal, spelled_if}
use Rattle.bvll.proofs.Unique.{only_datagram}
use Rattle.bvll.proofs.datagram.Bvll.read.Goals as goal

pub returns-in_err-function-clause-refused : goal.returns-in_err-function-clause-refused
returns-in_err-function-clause-refused c =
    let fault : IfErr c.from_residual.result (λ e. Refuses e c.args.octets.now) = search rules in
    refusal c.from_residual.result c.args.octets.now fault

pub returns-clause-refused : goal.returns-clause-refused
returns-clause-refused c =
    let fault : IfErr c.from_contents.result (λ e. Refuses e c.args.octets.now) = search rules in
    refusal c.from_contents.result c.args.octets.now fault

pub returns-clause-read : goal.returns-clause-read
returns-clause-read c =
    let found = c.in_ok-function in
    spelled_if found.function found.whole c.args.octets.now found.contents.now c.from_contents.result c.in_ok-function.ensures.read
    (sym c.from.ensures ∙ c.if-from-octets.false) c.in_ok-function.ensures.fits c.from_contents.ensures.read

pub returns-clause-only : goal.returns-clause-only
returns-clause-only c =
    let found = c.in_ok-function in
    only_datagram c.args.octets.now c.from_contents.result
    (spelled_if found.function found.whole c.args.octets.now found.contents.now c.from_contents.result c.in_ok-function.ensures.read
    (sym c.from.ensures ∙ c.if-from-octets.false) c.in_ok-function.ensures.fits c.from_contents.ensures.read)
