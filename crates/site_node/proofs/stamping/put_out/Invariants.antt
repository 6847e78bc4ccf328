use Rattle.std.proofs.Common.{◌≡◌, ◌++◌, map}
use Rattle.site_node.specs.Stamping.{stamped}
use Rattle.site_node.proofs.stamping.put_out.Given as goal

abbrev pub invariant-loop-one : goal.invariant-loop-one
invariant-loop-one g l =
    l.out ++ map (stamped l.stamp l.now) l.one-iterator.rest.items ≡ l.fn.out ++ map (stamped l.stamp l.now) l.fn.said
