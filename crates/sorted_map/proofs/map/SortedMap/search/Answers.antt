use Rattle.std.proofs.Common.{rules}
use Rattle.std.proofs.lemmas.Fn.{always_returns_same}
use Rattle.sorted_map.proofs.Sorted.{searched}
use Rattle.sorted_map.proofs.map.SortedMap.search.Goals as goal

-- each entry is compared by its key
pub returns : goal.returns
returns g c =
    let facts = c.binary_search_by.ensures in
    let compared = facts.position (λ e. g.K.Ord.cmp e.0 c.args.key) (always_returns_same _ _ _ (λ a r f called. (search rules, search rules))) in
    rw (← c.self.view_is, ← c.deref.ensures.value)
    (searched g.met.K.Ord.total c.deref.result.now c.args.key (rw c.deref.ensures.value c.self.invariant) c.binary_search_by.result facts.bound compared)
