use Rattle.std.proofs.Common.{◌∙◌, sym, ap, ℕ, List}
use Rattle.std.specs.Prelude.{remove}
use Rattle.client_tsm.proofs.Committing.{set_then}
use Rattle.client_tsm.specs.Client.{ClientTsmState, changed_at, committed, gathers, renews, sends_on}
use Rattle.client_tsm.specs.Waking.{all_left}
use Rattle.client_tsm.specs.declared.plan.ClientTsmChange.{ClientTsmChange}
use Rattle.client_tsm.specs.declared.plan.ClientTsmChange.TheVariants.{Gathers}
use Rattle.client_tsm.proofs.client.ClientTsm.commit.Goals.{in-Stays, in-Opens+in_ok-open-in-Opens, in-Sends, in-Gathers+in_ok-gather_at-in-Gathers, in-Renews, in-Ends, in-Wakes}
use Rattle.client_tsm.proofs.client.ClientTsm.commit.Goals as goal

pub returns-clause-done : goal.returns-clause-done
returns-clause-done g c = ap (λ (s : ClientTsmState _). record s { moment = c.args.now }) c.self-2.view_is
    ∙ elim c.match-change.branch [
      | in-Stays w ↦ ap (λ (s : ClientTsmState _). record s { moment = c.args.now }) w.self-is
          ∙ ap (λ (x : ClientTsmChange _). committed c.args.now x c.args.self.now) (sym w.in-Stays.is)
      | in-Opens+in_ok-open-in-Opens w ↦ ap (λ (s : ClientTsmState _). record s { moment = c.args.now }) (w.self-is ∙ w.in_ok-open-in-Opens.ensures.opened)
          ∙ ap (λ (x : ClientTsmChange _). committed c.args.now x c.args.self.now) (sym w.in-Opens.is)
      | in-Sends w ↦ set_then c.args.now _ c.args.self.now c.match-change.self w.send_on_at.new.open_ones.items
          (changed_at w.in-Sends.place (sends_on c.args.now w.in-Sends.sending)) w.self.view_is w.send_on_at.ensures w.self-is
          ∙ ap (λ (x : ClientTsmChange _). committed c.args.now x c.args.self.now) (sym w.in-Sends.is)
      | in-Gathers+in_ok-gather_at-in-Gathers w ↦ set_then c.args.now _ c.args.self.now c.match-change.self w.gather_at.new.open_ones.items
          (changed_at w.in-Gathers.place (gathers c.args.now w.in-Gathers.segment w.as_slice.result.now)) w.self-in-Gathers.view_is
          w.in_ok-gather_at-in-Gathers.ensures.gathered w.self-is
          ∙ ap (λ (octets : List ℕ). committed c.args.now (Gathers w.in-Gathers.place w.in-Gathers.segment octets) c.args.self.now) w.as_slice.ensures
          ∙ ap (λ (x : ClientTsmChange _). committed c.args.now x c.args.self.now) (sym w.in-Gathers.is)
      | in-Renews w ↦ set_then c.args.now _ c.args.self.now c.match-change.self w.renew_at.new.open_ones.items
          (changed_at w.in-Renews.place (renews c.args.now)) w.self-in-Renews.view_is w.renew_at.ensures w.self-is
          ∙ ap (λ (x : ClientTsmChange _). committed c.args.now x c.args.self.now) (sym w.in-Renews.is)
      | in-Ends w ↦ set_then c.args.now _ c.args.self.now c.match-change.self w.end_at.new.open_ones.items
          (λ os. remove os w.in-Ends.place) w.self-in-Ends.view_is w.end_at.ensures w.self-is
          ∙ ap (λ (x : ClientTsmChange _). committed c.args.now x c.args.self.now) (sym w.in-Ends.is)
      | in-Wakes w ↦ set_then c.args.now _ c.args.self.now c.match-change.self w.wake_all.new.open_ones.items
          (all_left c.args.now) w.self-in-Wakes.view_is w.wake_all.ensures w.self-is
          ∙ ap (λ (x : ClientTsmChange _). committed c.args.now x c.args.self.now) (sym w.in-Wakes.is)
    ]
