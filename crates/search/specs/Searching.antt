-- What is told of a search.
use Rattle.std.specs.List.{AllByRecursion}
use Rattle.search.specs.declared.searching.Outcome.{Outcome}
use Rattle.search.specs.declared.searching.Outcome.TheVariants.{Found, NoneWithin}
use Rattle.simulator.specs.world.Step.{IsSoundEvent}

-- events that were found are sound
abbrev pub IsSoundOutcome : {A : Type 0} → Outcome A → Type 0
IsSoundOutcome (Found events) = AllByRecursion IsSoundEvent events
IsSoundOutcome (NoneWithin depth) = Unit {0}
