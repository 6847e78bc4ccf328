use Rattle.tags.specs.Tag.{plain_tag}
use Rattle.console.proofs.ExplainLaws.{tag_before}
use Rattle.console.proofs.explain.print_tags.Goals as goal

pub loop-tag-preserved : goal.loop-tag-preserved
loop-tag-preserved g c =
    let taken = rw c.in-Some.is at c.in_ok-tag.ensures.read in
    λ new after. c.loop-tag.invariant new
    (tag_before c.args.spelling c.args.rows.now c.loop-tag.position c.behind-position.result c.loop-tag.reader c.next.new.self
    (plain_tag c.in-Some.tag) c.parameter-parameter.result _ _ new c.parameter-parameter.ensures c.behind-position.ensures
    taken c.in_ok-print_tag.ensures after)
