use Rattle.std.proofs.Common.{◌≡◌, ◌∙◌, ap, subst, true, List}
use Rattle.client_tsm.proofs.client.ClientTsm.next_due.Goals as goal
use Rattle.client_tsm.specs.Client.{ClientTsmState}
use Rattle.client_tsm.specs.Open.{Open}
use Rattle.client_tsm.specs.Waking.{is_quiet}
use Rattle.due_times.specs.Until.{Until}

-- nothing is due of any of its transactions
pub returns : goal.returns
returns g c = subst (λ (os : List (Open _)). Until c.next_due_of.result (λ now. is_quiet now os ≡ true))
    (c.as_slice.ensures.value ∙ ap (λ (s : ClientTsmState _). s.open_ones) c.self.view_is) c.next_due_of.ensures
