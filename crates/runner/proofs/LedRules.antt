-- What keeps a world kept of one that events alone led to, and what is so of it.
use Rattle.std.proofs.Common.{◌≡◌, ◌∙◌, ◌+◌, ◌++◌, refl, ap, subst, sym, arith, Bool, true, false, List, [], ◌∷◌, drop, length}
use Rattle.runner.proofs.NotWire.{event_not_wire}
use Rattle.runner.specs.Runner.{RunnerState}
use Rattle.runner.specs.Turns.{HasMade}
use Rattle.senders.specs.Senders.{AreKnown, SendersState, senders_of}
use Rattle.simulator.proofs.HeardLaws.{has_brought}
use Rattle.simulator.specs.Laws.{IsLed}
use Rattle.simulator.specs.world.Keeping.{Forgets, handed_out}
use Rattle.simulator.specs.world.Laws.{Stands}
use Rattle.simulator.specs.world.Resting.{RestsIfQuiet}
use Rattle.simulator.specs.world.Step.{IsSoundEvent, Steps}
use Rattle.simulator.specs.world.World.{WorldState}
use Rattle.simulator.specs.world.site_events.declared.event.Event.{Event}
use Rattle.simulator.specs.world_log.Growing.{WorldHistory}
use Rattle.world_kept.proofs.KeptLaws.{events_bring, events_keep, forgetting_keeps, handing_out_keeps, kept_is_legal}
use Rattle.world_kept.specs.Kept.{EndsLegal, IsKept, IsLegalOf}

-- the history of one of which nothing was handed out is legal
pub kept_is_whole : {A : Type 0} (w : WorldState A) (h : WorldHistory A) → h ≡ w.history → w.first_entry ≡ 0 →
    IsKept w → IsLegalOf h w
kept_is_whole w h same none kept =
    let p = kept.behind.keeps in
    let first = kept.behind.led.whole.first_entry in
    let count = p.first_entry in
    let past : kept.past ≡ [] = none_long kept.past (omega (arith, none, first, count)) in
    subst (λ (x : WorldHistory _). IsLegalOf x w)
    (ap (λ (x : WorldHistory _). x ++ w.history) past ∙ sym same) (kept_is_legal kept.past w kept.behind)
  where
    none_long : {X : Type 0} (xs : List X) → length xs ≡ 0 → xs ≡ []
    none_long [] e = refl
    none_long (x ∷ xs) e = absurd (omega (arith, e))

-- the history of one that is kept so ends a legal one
pub kept_ends_legal : {A : Type 0} (w : WorldState A) (h : WorldHistory A) → h ≡ w.history → IsKept w → EndsLegal h w
kept_ends_legal w h same kept = subst (λ (x : WorldHistory _). EndsLegal x w) (sym same)
    (record { before = kept.past; legal = kept_is_legal kept.past w kept.behind })

-- the step of an event was made, with what it brought
pub made_so : {A : Type 0} (e : Event A) (old : RunnerState A) (v : WorldState A) → Stands old.world →
    IsSoundEvent e → Steps e old.world v → RestsIfQuiet e old.world v →
    (old.is_led ≡ true → old.is_whole ≡ true → IsLed old.world) → (old.strayed ≡ false) →
    HasMade e old (record old { world = v })
made_so e old v stands sound steps rests led strayed = record {
  steps = steps;
  rests = rests;
  brought = λ is whole. has_brought e old.world v stands (led is whole);
  brings = events_bring e old.world sound stands;
  rest = ap (λ (b : Bool). record old { world = v; strayed = b }) strayed;
}

-- .. and is kept still
pub kept_on : {A : Type 0} (e : Event A) (w v : WorldState A) → Stands w → IsSoundEvent e → Steps e w v → IsKept w →
    IsKept v
kept_on e w v stands sound steps kept = record {
  past = kept.past;
  behind = events_keep e kept.past w v (events_bring e w sound stands) kept.behind steps;
}

pub kept_handed : {A : Type 0} (w v : WorldState A) → v ≡ handed_out w → IsKept w → IsKept v
kept_handed w v is kept = subst (λ (x : WorldState _). IsKept x) (sym is)
    (record { past = kept.past ++ w.history; behind = handing_out_keeps kept.past w kept.behind })

pub kept_forgotten : {A : Type 0} (w v : WorldState A) → Forgets w v → IsKept w → IsKept v
kept_forgotten w v f kept =
    record { past = kept.past; behind = forgetting_keeps kept.past w v kept.behind f }

pub known_handed : {A : Type 0} (s : SendersState) (w v : WorldState A) → v ≡ handed_out w →
    AreKnown s (senders_of (drop w.first_item w.items)) → AreKnown s (senders_of (drop v.first_item v.items))
known_handed s w v handed known =
    subst (λ (x : WorldState _). AreKnown s (senders_of (drop x.first_item x.items))) (sym handed) known

pub ruleset make_rules = (event_not_wire)
