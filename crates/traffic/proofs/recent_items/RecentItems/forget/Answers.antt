use Rattle.std.proofs.Common.{rules, subst, ◌≡◌, ◌+◌, ◌-◌, ◌≤◌, ◌++◌, List, drop, false, length, max, take}
use Rattle.std.specs.List.{AllByRecursion}
use Rattle.traffic.proofs.RecentLaws.{forgotten, left_latest}
use Rattle.traffic.proofs.recent_items.RecentItems.forget.Goals as goal
use Rattle.traffic.specs.Recent.{KeepsRecent, RecentState, behind_blanks}
use Rattle.traffic.specs.Seeking.{is_young}
use Rattle.traffic.specs.declared.item.Item.{Item}

-- those that are too old are forgotten
pub returns-clause-keeps : goal.returns-clause-keeps
returns-clause-keeps g c =
    let first = c.self.inside.first in
    let kept = c.self.inside.kept.items in
    let n = c.old_count-old.result in
    let new = c.truncate.new.self.items in
    let cut : new ≡ take (length kept - n) (drop n kept ++ take n kept) = search rules in
    subst (λ (s : RecentState _). KeepsRecent c.args.now s.items (behind_blanks (first + n) new)) c.self.view_is
    (forgotten c.args.now first kept new n
    (subst (λ (is : List (Item _)). n ≤ length is) c.as_slice-2.ensures.value c.old_count-old.ensures.within) cut
    (subst (λ (is : List (Item _)). AllByRecursion (λ i. is_young c.args.now i ≡ false) (take n is))
    c.as_slice-2.ensures.value c.old_count-old.ensures.old))

-- .. but for the last so many
pub returns-clause-latest : goal.returns-clause-latest
returns-clause-latest g c =
    let first = c.self.inside.first in
    let kept = c.self.inside.kept.items in
    let n = c.old_count-old.result in
    let new = c.truncate.new.self.items in
    let cut : new ≡ take (length kept - n) (drop n kept ++ take n kept) = search rules in
    subst (λ (s : RecentState _).
    first + n ≤ max s.first (length (behind_blanks (first + n) new) - c.args.latest)) c.self.view_is
    (left_latest c.args.now first kept new n
    (subst (λ (is : List (Item _)). n ≤ length is) c.as_slice-2.ensures.value c.old_count-old.ensures.within) cut
    c.most_old-most.result c.args.latest c.old_count-old.ensures.most
    (subst (λ (is : List (Item _)). c.most_old-most.result ≤ length is - c.args.latest)
    c.as_slice.ensures.value c.most_old-most.ensures.latest))
