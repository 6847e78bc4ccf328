use Rattle.tags.specs.Tag.{plain_tag}
use Rattle.console.proofs.ExplainLaws.{words_before}
use Rattle.console.proofs.summary.print_gist.Goals as goal

pub loop-tag-preserved : goal.loop-tag-preserved
loop-tag-preserved g c =
    let taken = rw c.in-Some.is at c.next_tag.ensures.read in
    λ new after. c.loop-tag.invariant new
    (words_before c.args.rows.now c.loop-tag.position c.behind-position.result c.loop-tag.reader c.next_tag.new.reader
    (plain_tag c.in-Some.tag) c.parameter-parameter.result _ _ new c.parameter-parameter.ensures c.behind-position.ensures
    taken c.in_ok-write.ensures.bytes after)
