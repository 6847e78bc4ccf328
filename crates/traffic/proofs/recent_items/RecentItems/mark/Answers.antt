use Rattle.std.proofs.Common.{refl, sym, subst, arith, ◌-◌, ◌<◌, length, true}
use Rattle.std.proofs.lemmas.Option.{slice_get_read}
use Rattle.std.specs.Prelude.{slice_set}
use Rattle.traffic.proofs.RecentLaws.{long, marked_kept, state}
use Rattle.traffic.proofs.recent_items.RecentItems.mark.Goals as goal
use Rattle.traffic.specs.Recent.{IsMarkedIn, RecentState, behind_blanks}

-- one that is kept is marked where it stands
pub returns-then-number-self : goal.returns-then-number-self
returns-then-number-self g c =
    let first = c.self.inside.first in
    let kept = c.self.inside.kept.items in
    let item = c.index_mut.result.now in
    let within = subst (λ (s : RecentState _). c.args.number < length s.items) (sym c.self.view_is) c.requires in
    let le = c.if-number-self.true in
    subst (λ (s : RecentState _). IsMarkedIn c.args.number s (state first
    (behind_blanks first (slice_set kept (c.args.number - first) (record item { is_delivered = true }))))) c.self.view_is
    (marked_kept first kept (slice_set kept (c.args.number - first) (record item { is_delivered = true }))
    c.args.number item le (slice_get_read kept (length kept) (c.args.number - first) item refl
    (omega (arith, within, le, long first kept)) c.index_mut.ensures.value) refl)
