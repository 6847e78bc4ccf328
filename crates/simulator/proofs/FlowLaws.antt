-- What is left of a flow, and how time passes.
use Rattle.std.proofs.Common.{◌≡◌, inl, inr, arith, ap, ℕ, suc, ◌+◌, ◌-◌, ◌*◌, ◌^◌, ◌<◌, ◌≤◌, Option, Some, None}
use Rattle.std.proofs.Math.Nat.{mul-le-mul_right, suc-mul}
use Rattle.bus_traffic.specs.Telling.{IsBehind}
use Rattle.bus_traffic.specs.declared.telling.Telling.{Telling}
use Rattle.simulator.proofs.LedLaws.{happens_so}
use Rattle.simulator.specs.Flows.{IsLess, left_to_tell, ticks_of}
use Rattle.simulator.specs.declared.flow.Flow.{Flow}
use Rattle.world.specs.Step.{Steps}
use Rattle.world.specs.World.{WorldState}
use Rattle.world.specs.site_events.declared.event.Event.{Event}
use Rattle.world.specs.site_events.declared.event.Event.TheVariants as event
use Rattle.world.specs.declared.happening.Happening.TheVariants as happening

-- less than this is less than more
pub less_more : {A : Type 0} (n k : ℕ) (f : Flow) (o : Option (Event A)) → IsLess (n + 2 ^ 64) f o →
    IsLess (n + (2 ^ 64 + k)) f o
less_more n k f None less = tt
less_more n k f (Some e) less = omega (arith, less)

times_less : (a b m : ℕ) → a + 1 ≤ b → a * m + m ≤ b * m
times_less a b m le =
    let next : suc a ≤ b = omega (arith, le) in
    let grows : suc a * m ≤ b * m = mul-le-mul_right m next in
    let one_more : suc a * m ≡ a * m + m = suc-mul a m in
    omega (arith, grows, one_more)

-- once a frame was told at an ear, less is left
pub told_less : (told : Telling) (frames frame ear : ℕ) → IsBehind told frame ear → frame < frames → ear < 2 ^ 64 →
    left_to_tell (record { frames = frame; ear = ear + 1 }) frames < left_to_tell told frames
told_less told frames frame ear (inl lt) ahead most =
    let more = times_less (frames - frame) (frames - told.frames) (2 ^ 64) (omega (arith, lt, ahead)) in
    omega (arith, more, most)
told_less told frames frame ear (inr at) ahead most =
    let same : frames - told.frames ≡ frames - frame = ap (λ (n : ℕ). frames - n) (at.0) in
    let times : (frames - told.frames) * 2 ^ 64 ≡ (frames - frame) * 2 ^ 64 = ap (λ (n : ℕ). n * 2 ^ 64) same in
    let le = at.1 in omega (arith, times, le, most)

-- no event but a tick changes the moment
pub steps_pass : {A : Type 0} (e : Event A) (w v : WorldState A) → Steps e w v → v.moment ≡ w.moment + ticks_of e
steps_pass (event.Issue client instance request) w v d =
    (happens_so (happening.Issue d.place instance request) w v d.holds).moment
steps_pass (event.WhoIs client limits) w v d = (happens_so (happening.WhoIs d.place limits) w v d.holds).moment
steps_pass (event.Tick n) w v d = (happens_so (happening.Tick n) w v d).moment
steps_pass (event.Wake name) w v d = (happens_so (happening.Wake d.place) w v d.holds).moment
steps_pass (event.Deliver number) w v d = (happens_so (happening.Deliver number) w v d).moment
steps_pass (event.Restart name) w v d = (happens_so (happening.Restart d.place) w v d.holds).moment
steps_pass (event.Hear network name octets) w v d =
    (happens_so (happening.Hear network d.place octets) w v d.holds).moment
steps_pass (event.Register name) w v d = (happens_so (happening.Register d.place) w v d.holds).moment

pub ruleset flow_rules = (told_less)
