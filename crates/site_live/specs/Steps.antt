-- What a line of a script asks of a live run.
use Rattle.std.specs.Prelude.{◌≡◌, ◌⊎◌, ◌<◌, ℕ, List, [], ◌∷◌, ◌++◌, Option, None, Some, ◌||◌, nat_lt}
use Rattle.std.specs.Prelude.{if◌then◌else◌}
use Rattle.expectations.specs.declared.expectation.Expectation.TheVariants as expected
use Rattle.profile.specs.Times.{MAX_TICK_MS}
use Rattle.runner.specs.world.site_events.declared.event.Event.{Event}
use Rattle.runner.specs.world.site_events.declared.event.Event.TheVariants as event
use Rattle.script.specs.Lines.{SaysSteps}
use Rattle.script.specs.declared.step.Step.{Step}
use Rattle.script.specs.declared.step.Step.TheVariants as step
use Rattle.site_history.specs.Printed.{or_else}

-- a step as a live run takes it: the events that it makes of itself, faults of the network, what a property reads, and
-- what a station is at, a script can't ask for
abbrev pub IsLive : {A : Type 0} → Step A → Step A → Type 0
IsLive (step.Happens (event.Issue client instance request)) s = s ≡ step.Happens (event.Issue client instance request)
IsLive (step.Happens (event.WhoIs client limits)) s = s ≡ step.Happens (event.WhoIs client limits)
IsLive (step.Happens (event.Register station)) s = s ≡ step.Happens (event.Register station)
IsLive (step.Happens (event.Restart station)) s = s ≡ step.Happens (event.Restart station)
IsLive (step.Happens (event.Tick n)) s = s ≡ step.Flow n
IsLive (step.Flow n) s = s ≡ step.Flow n
IsLive (step.Happens (event.Wake station)) s = ⊥
IsLive (step.Happens (event.Deliver number)) s = ⊥
IsLive (step.Happens (event.Hear network station octets)) s = ⊥
IsLive (step.Disturbs f) s = ⊥
IsLive (step.Shows name) s = ⊥
IsLive (step.Expects (expected.Closed i o within)) s = s ≡ step.Expects (expected.Closed i o within)
IsLive (step.Expects (expected.Executed i times)) s = s ≡ step.Expects (expected.Executed i times)
IsLive (step.Expects expected.NoneRefused) s = s ≡ step.Expects expected.NoneRefused
IsLive (step.Expects (expected.Reads station object property v)) s = ⊥

-- a mark of a step that expects something (for private functions alone)
unfoldable pub mark_of : {A : Type 0} → Step A → Option ℕ
mark_of (step.Expects e) = Some 0
mark_of (step.Happens e) = None
mark_of (step.Flow n) = None
mark_of (step.Disturbs f) = None
mark_of (step.Shows name) = None

-- .. where one of the steps does
abbrev pub mark_in : {A : Type 0} → List (Step A) → Option ℕ
mark_in [] = None
mark_in (s ∷ ss) = or_else (mark_in ss) (mark_of s)

-- so is each of these steps, in their order
abbrev pub AreLive : {A : Type 0} → List (Step A) → List (Step A) → Type 0
AreLive [] [] = Unit {0}
AreLive [] (s ∷ ss) = ⊥
AreLive (l ∷ ls) [] = ⊥
AreLive (l ∷ ls) (s ∷ ss) = IsLive l s × AreLive ls ss

-- the text is a script that asks for these steps
pub record SaysLive {A : Type 0} (script : List ℕ) (steps : List (Step A)) : Type 0 where
  pub said : List (Step A)
  pub says : SaysSteps script said
  pub live : AreLive said steps

-- an event that a live run makes only where its script asks for it: a request, a Who-Is or a restart (5.4.4, 16.4,
-- 16.10). Time passes, stations wake, hear and register besides
abbrev pub asked_by : {A : Type 0} → Event A → List (Step A)
asked_by (event.Issue client instance request) = step.Happens (event.Issue client instance request) ∷ []
asked_by (event.WhoIs client limits) = step.Happens (event.WhoIs client limits) ∷ []
asked_by (event.Restart name) = step.Happens (event.Restart name) ∷ []
asked_by e = []

-- .. if there is one
abbrev pub asked_in : {A : Type 0} → Option (Event A) → List (Step A)
asked_in (Some e) = asked_by e
asked_in None = []

-- so many milliseconds don't pass for a step: fewer than 1, or more than 60000
abbrev pub IsNoTime : ℕ → Type 0
IsNoTime n = (n < 1) ⊎ (MAX_TICK_MS < n)

-- .. which a live run refuses only where its script asks for them
abbrev pub refused_at : {A : Type 0} → ℕ → List (Step A)
refused_at n = if nat_lt n 1 || nat_lt MAX_TICK_MS n then step.Flow n ∷ [] else []

-- a step that a live run takes or refuses only where its script asks for it
abbrev pub asked_at : {A : Type 0} → Step A → List (Step A)
asked_at (step.Happens e) = asked_by e
asked_at (step.Flow n) = refused_at n
asked_at (step.Disturbs f) = []
asked_at (step.Expects e) = []
asked_at (step.Shows name) = []

-- those among steps, in their order
abbrev pub asked_of : {A : Type 0} → List (Step A) → List (Step A)
asked_of [] = []
asked_of (s ∷ ss) = asked_at s ++ asked_of ss
