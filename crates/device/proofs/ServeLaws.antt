-- A plan of the server is one of its device.
use Rattle.std.proofs.Common.{◌≡◌, refl, sym, ap, subst, inl, ℕ, List}
use Rattle.apdu.specs.Apdu.{apdu_of, HasNamedNumbers}
use Rattle.apdu.specs.declared.apdu.Apdu.{Apdu}
use Rattle.npdu.specs.declared.mac.Mac.{Mac}
use Rattle.npdu.specs.declared.mac.Target.{Target}
use Rattle.npdu.specs.declared.parcel.Parcel.{Parcel}
use Rattle.npdu.specs.declared.rejected.Rejected.{Rejected}
use Rattle.server_tsm.specs.server_answers.Plan.{ServerPlan}
use Rattle.server_tsm.specs.server_answers.declared.asked.Origin.{Origin}
use Rattle.server_tsm.specs.Hearing.{heard_of}
use Rattle.server_tsm.specs.Server.{committed}
use Rattle.server_tsm.specs.Steps.{IsPlan, told_of_plan}
use Rattle.unitdata.proofs.HearLaws.{something}
use Rattle.unitdata.specs.Hearing.{Brings, Heard, HeardContent, refuses}
use Rattle.device.specs.Device.{DeviceState}
use Rattle.device.specs.Hearing.{DeviceHears, Does, Serves, origin_of, silence}
use Rattle.device.specs.Plan.{left_by, told_by}
use Rattle.device.specs.Saying.{parcels_of}
use Rattle.device.specs.declared.plan.DevicePlan.{DevicePlan}
use Rattle.device.specs.DeviceTold.{DeviceTold}

pub served : {A : Type 0} (now : ℕ) (from : Origin) (apdu : Apdu) (old : DeviceState A) (plan : ServerPlan A) (said : List (Parcel A)) →
    HasNamedNumbers apdu → IsPlan now from (heard_of apdu) old.server plan → said ≡ parcels_of now old.mac plan.said →
    Serves now from (apdu_of apdu) old (record { said = said; executed = plan.executed }) (record old { server = committed now plan.change old.server })
served now from apdu old plan said named planned parcels = record {
  apdu = apdu;
  named = named;
  is = refl;
  server_told = told_of_plan plan;
  left = committed now plan.change old.server;
  step = record { plan = plan; planned = planned; told_is = refl; left_is = refl };
  told_is = ap (λ (s : List (Parcel _)). record { said = s; executed = plan.executed }) parcels;
  new_is = refl;
}

-- that a router refused a message is nothing to a device
pub ignored : {A : Type 0} (now : ℕ) (from : Mac) (to : Target) (npdu : List ℕ) (heard : Heard) (rejected : Rejected) (d : DeviceState A)
    (told : DeviceTold A) → Brings d.net from to npdu heard → heard.content ≡ refuses rejected → told ≡ silence → DeviceHears now from to npdu d told d
ignored now from to npdu heard rejected d told brings refused silent = inl (record {
  heard = heard;
  brings = brings;
  does = subst (λ (c : HeardContent). Does now (origin_of heard) c d told d) (sym refused) (silent, refl);
})

-- what is told and left is what was planned
pub carried_out : {A : Type 0} (now : ℕ) (from : Mac) (to : Target) (npdu : List ℕ) (old new : DeviceState A) (plan : DevicePlan A) (told : DeviceTold A) →
    DeviceHears now from to npdu old (told_by plan) (left_by now plan old) → told ≡ told_by plan → new ≡ left_by now plan old →
    DeviceHears now from to npdu old told new
carried_out now from to npdu old new plan told hears said left =
    subst (λ (t : DeviceTold _). DeviceHears now from to npdu old t new) (sym said)
    (subst (λ (d : DeviceState _). DeviceHears now from to npdu old (told_by plan) d) (sym left) hears)

pub ruleset serve_rules = (served)

pub ruleset heard_rules = (something)

pub ruleset carry_rules = (carried_out)
