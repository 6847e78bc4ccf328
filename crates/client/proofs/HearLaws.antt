-- What a message is to a client.
use Rattle.std.proofs.Common.{◌≡◌, ◌≢◌, refl, sym, subst, inl, inr, ℕ, true, List}
use Rattle.apdu.specs.Apdu.{apdu_of, HasNamedNumbers}
use Rattle.apdu.specs.Unconfirmed.{NoIAm}
use Rattle.apdu.specs.declared.apdu.Apdu.{Apdu}
use Rattle.apdu.specs.declared.unconfirmed.IAm.{IAm}
use Rattle.client_tsm.specs.Client.{committed}
use Rattle.client_tsm.specs.Hearing.{heard_of}
use Rattle.client_tsm.specs.Steps.{IsPlan, told_of_plan}
use Rattle.client_tsm.specs.declared.plan.ClientTsmPlan.{ClientTsmPlan}
use Rattle.npdu.specs.declared.mac.Station.{Station}
use Rattle.npdu.specs.declared.mac.Way.{Way}
use Rattle.bindings.specs.Binding.{has_place, introduced, mark_refused, put_binding}
use Rattle.npdu.specs.declared.rejected.Rejected.{Rejected}
use Rattle.unitdata.specs.Hearing.{Brings, Heard, HeardContent, refuses}
use Rattle.client.specs.Client.{ClientState}
use Rattle.client.specs.Hearing.{ClientHears, Does, IsIAm, IsNoIAm, Learnt, Transacts, silence}
use Rattle.client.specs.Plan.{left_by, told_by}
use Rattle.client.specs.declared.plan.ClientPlan.{ClientPlan}
use Rattle.npdu.specs.declared.mac.Mac.{Mac}
use Rattle.npdu.specs.declared.mac.Target.{Target}
use Rattle.client.specs.Saying.{told_of}
use Rattle.unitdata.proofs.HearLaws.{something}
use Rattle.client.specs.ClientTold.{ClientTold}

pub other_service : (service : ℕ) (octets : List ℕ) → service ≢ 0 → IsNoIAm service octets
other_service service octets other = record { none = λ i is. other is.i_am }

pub no_i_am : (service : ℕ) (octets : List ℕ) → NoIAm octets → IsNoIAm service octets
no_i_am service octets lacks = record { none = λ i is. lacks.none i is.spelled }

pub ruleset i_am_rules = (other_service, no_i_am)

pub bound : {A : Type 0} (station : Station) (way : Way) (service : ℕ) (octets : List ℕ) (i : IAm) (old new : ClientState A) (told : ClientTold A) →
    IsIAm service octets i → has_place i.instance old.bindings ≡ true → told ≡ silence →
    new ≡ record old { bindings = put_binding (introduced station way i) old.bindings } → Learnt station way service octets old told new
bound station way service octets i old new told is place silent left =
    record {
      bindings = put_binding (introduced station way i) old.bindings;
      learns = inl (record { i_am = i; is = is; place = place; bound = refl });
      holds = record { silent = silent; left = left };
    }

pub ignored : {A : Type 0} (station : Station) (way : Way) (service : ℕ) (octets : List ℕ) (old : ClientState A) (told : ClientTold A) →
    IsNoIAm service octets → told ≡ silence → Learnt station way service octets old told old
ignored station way service octets old told other silent =
    record {
      bindings = old.bindings;
      learns = inr (record { other = other; same = refl });
      holds = record { silent = silent; left = refl };
    }

pub ruleset learn_rules = (bound, ignored)

pub transacted : {A : Type 0} (now : ℕ) (from : Station) (a : Apdu) (old new : ClientState A) (plan : ClientTsmPlan A) (told : ClientTold A) →
    HasNamedNumbers a → IsPlan now from (heard_of a) old.machine plan → told ≡ told_of now old.mac (told_of_plan plan) →
    new ≡ record old { machine = committed now plan.change old.machine } → Transacts now from (apdu_of a) old told new
transacted now from a old new plan told named planned said left =
    record {
      apdu = a;
      named = named;
      is = refl;
      tsm_told = told_of_plan plan;
      left = committed now plan.change old.machine;
      step = record { plan = plan; planned = planned; told_is = refl; left_is = refl };
      told_is = said;
      new_is = left;
    }

-- a router refused a message
pub marked_by : {A : Type 0} (now : ℕ) (from : Mac) (to : Target) (npdu : List ℕ) (heard : Heard) (r : Rejected) (c : ClientState A) →
    Brings c.net from to npdu heard → heard.content ≡ refuses r →
    ClientHears now from to npdu c silence (record c { bindings = mark_refused r.reason r.net c.bindings })
marked_by now from to npdu heard r c brings refused = inl (record {
  heard = heard;
  brings = brings;
  does = subst
      (λ (content : HeardContent). Does now heard.station heard.way content c silence (record c { bindings = mark_refused r.reason r.net c.bindings }))
      (sym refused) (record { silent = refl; left = refl });
})

-- what is told and left is what was planned
pub carried_out : {A : Type 0} (now : ℕ) (from : Mac) (to : Target) (npdu : List ℕ) (old new : ClientState A) (plan : ClientPlan A) (told : ClientTold A) →
    ClientHears now from to npdu old (told_by plan) (left_by now plan old) → told ≡ told_by plan → new ≡ left_by now plan old →
    ClientHears now from to npdu old told new
carried_out now from to npdu old new plan told hears said left =
    subst (λ (t : ClientTold _). ClientHears now from to npdu old t new) (sym said)
    (subst (λ (d : ClientState _). ClientHears now from to npdu old (told_by plan) d) (sym left) hears)

pub ruleset heard_rules = (something)

pub ruleset carry_rules = (carried_out)

pub ruleset transact_rules = (transacted)
