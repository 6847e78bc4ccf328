use Rattle.std.proofs.Common.{◌≡◌, sym, subst, ℕ, List, true, get_or}
use Rattle.site_tree.specs.Tree.{IsBetween, leads}
use Rattle.site_tree.proofs.TreeLaws.{between_step}
use Rattle.site_tree.proofs.tree.join.Goals as goal

pub loop-place-preserved : goal.loop-place-preserved
loop-place-preserved g c = λ first ns there b.
    subst (λ (xs : List ℕ). IsBetween first ns c.args.stations.now xs) (sym c.remove.ensures.items)
    (between_step first ns c.args.stations.now c.loop-place.apart.items c.in-Some.place there
    (subst (λ (xs : List ℕ). leads c.args.stations.now xs (get_or xs c.in-Some.place 0) ≡ true) c.as_slice.ensures.value c.in-Some.ensures.some.1)
    (c.loop-place.invariant first ns there b))
