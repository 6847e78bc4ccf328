use Rattle.std.proofs.Common.{rules, ◌∙◌, append-nil, sym}
use Rattle.node_laws.specs.site_node.Node.{node_places}
use Rattle.world_log.proofs.PutLaws.{frames_further, items_further, still_first, take_on}
use Rattle.world_log.proofs.putting.put_out.Goals as goal

-- one more
pub loop-sent-preserved : goal.loop-sent-preserved
loop-sent-preserved g c =
    let places = node_places c.args.node.now in (
      items_further c.args.now places c.in-Some.sent c.loop-sent.sent-iterator.rest.items c.next.new.self.rest.items
          c.in-Some.ensures.steps.0 c.loop-sent.items.items c.put_over.new.items.items c.in_ok-put_over.ensures.items _
          c.loop-sent.invariant.0,
      frames_further c.args.now places c.in-Some.sent c.loop-sent.sent-iterator.rest.items c.next.new.self.rest.items
          c.in-Some.ensures.steps.0 c.loop-sent.items.items c.put_over.new.items.items c.in_ok-put_over.ensures.items
          c.len-first.result c.loop-sent.invariant.3 c.loop-sent.frames.items c.put_over.new.frames.items _
          c.in_ok-put_over.ensures.frames c.loop-sent.invariant.1,
      take_on c.args.items.now.items c.loop-sent.items.items c.put_over.new.items.items c.loop-sent.invariant.2
          c.in_ok-put_over.ensures.on,
      still_first c.args.now places c.in-Some.sent c.loop-sent.sent-iterator.rest.items c.next.new.self.rest.items
          c.in-Some.ensures.steps.0 c.loop-sent.items.items c.put_over.new.items.items c.in_ok-put_over.ensures.items
          c.len-first.result c.loop-sent.invariant.3,
      c.in_ok-put_over.ensures.first ∙ c.loop-sent.invariant.4,
    )
