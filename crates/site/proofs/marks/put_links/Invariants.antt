use Rattle.std.proofs.Common.{◌≡◌, ◌++◌}
use Rattle.std.specs.Prelude.{map, drop}
use Rattle.site.specs.Marks.{mark_of}
use Rattle.site.proofs.marks.put_links.Given as goal

abbrev pub invariant-loop-link : goal.invariant-loop-link
invariant-loop-link g l = l.all.items ++ map mark_of (drop l.link-index l.links) ≡ l.fn.all.items ++ map mark_of l.links
