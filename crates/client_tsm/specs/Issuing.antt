-- What a client does at an issue (5.4.1, 5.4.4.1).
use Rattle.std.specs.Prelude.{ℕ, Bool, true, false, [], length, Option, Some, None}
use Rattle.primitives.specs.declared.plain_data.Request.{Request}
use Rattle.services.specs.Asked.{request_octets}
use Rattle.tags.specs.declared.fault.Fault.{Fault}
use Rattle.tags.specs.declared.fault.Fault.TheVariants.{TooLong, NoInvokeId}
use Rattle.client_tsm.specs.Asking.{asked_by}
use Rattle.client_tsm.specs.Client.{ClientTsmState, may_issue}
use Rattle.bindings.specs.Limits.{apdu_limit, begun, is_too_long}
use Rattle.client_tsm.specs.Open.{Open}
use Rattle.client_tsm.specs.declared.plan.ClientTsmChange.TheVariants.{Opens}
use Rattle.client_tsm.specs.declared.plan.ClientTsmPlan.{ClientTsmPlan}
use Rattle.bindings.specs.declared.bound.Bound.{Bound}

-- too long before no free invoke ID
abbrev pub refusal_if : (is_too_long may_issue : Bool) → Option Fault
refusal_if true may_issue = Some TooLong
refusal_if false false = Some NoInvokeId
refusal_if false true = None

-- why an issue is refused, the first that holds
abbrev pub refusal : {A : Type 0} → ℕ → Request A → Bound → ClientTsmState A → Option Fault
refusal now request to st =
    refusal_if (is_too_long st.accepts.segmented (apdu_limit st.accepts to) (length (request_octets request)))
    (may_issue now st)

-- the transaction that is opened, under the next invoke ID (5.4.4.1)
abbrev pub opened : {A : Type 0} → ℕ → Request A → Bound → ClientTsmState A → Open A
opened now request to st =
    record {
      invoke_id = st.next;
      station = to.station;
      way = to.way;
      request = request;
      max_apdu = apdu_limit st.accepts to;
      accepts = st.accepts;
      at = now;
      sent = now;
      repeats = 0;
      sending = begun now (apdu_limit st.accepts to) (length (request_octets request));
      gathering = None;
    }

-- it is opened, and says its request from the beginning (5.4.4.1, SendConfirmedUnsegmented, SendConfirmedSegmented)
abbrev pub opening : {A : Type 0} → Open A → ClientTsmPlan A
opening o = record { said = asked_by o.sending o; told = []; change = Opens o }

-- what is said and left at an issue
abbrev pub issued : {A : Type 0} → ℕ → Request A → Bound → ClientTsmState A → ClientTsmPlan A
issued now request to st = opening (opened now request to st)
