use Rattle.std.proofs.Common.{◌≡◌, sym, subst, ◌<◌, ◌/◌, List, ℕ, arith, rules}
use Rattle.std.specs.Prelude.{Some, slice_get}
use Rattle.due_times.specs.Times.{AreFloors}
use Rattle.due_times.proofs.Floors.{none_in_block}
use Rattle.due_times.proofs.times.DueTimes.first_due.Goals as goal

-- its block has no moment that has come
pub loop-place-preserved-then-moment_at-now : goal.loop-place-preserved-then-moment_at-now
loop-place-preserved-then-moment_at-now g c =
    let there : slice_get c.self.inside.floors.items (c.loop-place.place / 16) ≡ Some c.moment_at.result = search rules in
    let late : c.args.now < c.moment_at.result = search rules in
    let floors : AreFloors c.self.inside.floors.items c.args.self.now = rw (← c.self.view_is) c.self.invariant in (
      omega (arith, c.loop-place.invariant.0),
      none_in_block c.self.inside.floors.items c.args.self.now c.args.from c.loop-place.place c.moment_at.result c.args.now
          floors there late c.loop-place.invariant.1,
    )
