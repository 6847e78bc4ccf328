use Rattle.std.proofs.Common.{◌∙◌, sym, subst, ℕ, List, ◌∷◌}
use Rattle.site_tree.specs.Tree.{IsBetween, numbers}
use Rattle.site_tree.proofs.TreeLaws.{between_numbers, all_come, none_apart}
use Rattle.site_tree.proofs.tree.is_joined_to.Goals as goal

pub returns : goal.returns
returns g c =
    let b = c.join.ensures.between c.args.first (c.args.first ∷ numbers c.args.others.now) c.requires.there
    (subst (λ (xs : List ℕ). IsBetween c.args.first (c.args.first ∷ numbers c.args.others.now) c.args.stations.now xs)
    (sym c.in_ok-apart.ensures) (between_numbers c.args.first c.args.others.now c.args.stations.now)) in (
      λ t. all_come c.args.first (numbers c.args.others.now) c.args.stations.now _ b (sym c.as_slice.ensures.value ∙ c.is_none.ensures.0 t),
      λ j. c.is_none.ensures.1 (c.as_slice.ensures.value ∙ none_apart c.args.first (numbers c.args.others.now) c.args.stations.now _ b c.join.ensures.ended j),
    )
