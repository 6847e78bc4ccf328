-- Which changes of a client were planned (5.4.1, 5.4.4).
use Rattle.std.specs.Prelude.{◌≡◌, ℕ, None}
use Rattle.bindings.specs.declared.bound.Bound.{Bound}
use Rattle.npdu.specs.declared.mac.Station.{Station}
use Rattle.primitives.specs.declared.plain_data.Request.{Request}
use Rattle.client_tsm.specs.Client.{ClientTsmState}
use Rattle.client_tsm.specs.Hearing.{Heard}
use Rattle.client_tsm.specs.Issuing.{issued, refusal}
use Rattle.client_tsm.specs.Steps.{IsPlan}
use Rattle.client_tsm.specs.Waking.{woken}
use Rattle.client_tsm.specs.declared.plan.ClientTsmChange.{ClientTsmChange}
use Rattle.client_tsm.specs.declared.plan.ClientTsmPlan.{ClientTsmPlan}

-- a change was planned at this moment for a client as it is: for what it hears, for an issue that isn't refused, or for
-- a wake (5.4.1, 5.4.4)
pub data IsPlanned {A : Type 0} (now : ℕ) (st : ClientTsmState A) (change : ClientTsmChange A) : Type 0 where
  for_heard : (from : Station) (h : Heard A) (plan : ClientTsmPlan A) → IsPlan now from h st plan →
      change ≡ plan.change → IsPlanned now st change
  for_issue : (request : Request A) (to : Bound) → refusal now request to st ≡ None →
      change ≡ (issued now request to st).change → IsPlanned now st change
  for_wake : change ≡ (woken now st.open_ones).change → IsPlanned now st change
