-- A storm in a world that forgets: what was counted of it, and what comes of each event. For private functions alone.
use Rattle.std.specs.Prelude.{◌≡◌, ◌⊎◌, ◌-◌, ℕ, List, [], ◌∷◌, drop, length}
use Rattle.std.specs.Io.KnownBytes.{Appends}
use Rattle.site_run.specs.simulator.world.Keeping.{Forgets, handed_out}
use Rattle.site_run.specs.simulator.world.Laws.{Stands}
use Rattle.site_run.specs.simulator.world.Refusals.{Comes}
use Rattle.site_run.specs.simulator.world.Step.{IsSoundEvent}
use Rattle.site_run.specs.simulator.world.World.{WorldState}
use Rattle.site_run.specs.simulator.world.site_events.declared.event.Event.{Event}
use Rattle.site_storm.specs.Counting.{count_text, messages_in, messages_with, no_messages, no_outcomes, outcomes_in}
use Rattle.site_storm.specs.Counting.{outcomes_with}
use Rattle.site_storm.specs.Lines.{Known, event_text, events_text, line}
use Rattle.site_storm.specs.Waits.{WaitsState, all_waits, no_waits}
use Rattle.site_storm.specs.declared.counts.Counts.{Counts}
use Rattle.site_storm.specs.declared.counts.MessageCounts.{MessageCounts}
use Rattle.site_storm.specs.declared.counts.OutcomeCounts.{OutcomeCounts}
use Rattle.storm.specs.world_log.Kept.{all_said}
use Rattle.storm.specs.world_log.declared.saying.SaidMessage.{SaidMessage}
use Rattle.words.specs.printing.declared.spelling.Spelling.TheVariants.{Numbers}

-- a world that forgets. outcomes, waits: of the entries that it handed out. messages: of those that it forgot, and of
-- the first so many that it keeps
pub record CountedState (A : Type 0) : Type 0 where
  pub world : WorldState A
  pub outcomes : OutcomeCounts
  pub waits : WaitsState
  pub messages : MessageCounts
  pub seen : ℕ

-- nothing is counted of a world yet
abbrev pub begun : {A : Type 0} → WorldState A → CountedState A
begun w = record { world = w; outcomes = no_outcomes; waits = no_waits; messages = no_messages; seen = 0 }

-- all entries that are kept are handed out, and counted
abbrev pub entries_counted : {A : Type 0} → CountedState A → CountedState A
entries_counted c = record {
  world = handed_out c.world;
  outcomes = outcomes_with c.outcomes (outcomes_in c.world.history);
  waits = all_waits c.world.history c.waits;
  messages = c.messages;
  seen = c.seen;
}

-- all messages that are kept are counted
pub record CountsMessages {A : Type 0} (old new : CountedState A) : Type 0 where
  pub messages : List (SaidMessage A)
  pub said : all_said messages ≡ drop old.seen old.world.said
  pub is : new ≡ record old {
    messages = messages_with old.messages (messages_in messages);
    seen = length old.world.said;
  }

-- what can no longer matter is forgotten
pub record ForgetsIn {A : Type 0} (old new : CountedState A) : Type 0 where
  pub forgets : Forgets old.world new.world
  pub is : new ≡ record old {
    world = new.world;
    seen = old.seen - (new.world.first_said - old.world.first_said);
  }

-- all is counted that is kept, and what can no longer matter is forgotten
pub record LetsGo {A : Type 0} (old new : CountedState A) : Type 0 where
  pub counted : CountedState A
  pub messages : CountsMessages (entries_counted old) counted
  pub forgets : ForgetsIn counted new

-- an event was made in it, or refused
pub record Makes {A : Type 0} (e : Event A) (old new : CountedState A) : Type 0 where
  pub stands : Stands old.world
  pub comes : Comes e old.world new.world
  pub is : new ≡ record old { world = new.world }

-- .. and behind it all is counted, or not yet
pub record MakesOne {A : Type 0} (e : Event A) (old new : CountedState A) : Type 0 where
  pub sound : IsSoundEvent e
  pub made : CountedState A
  pub makes : Makes e old made
  pub lets_go : (new ≡ made) ⊎ LetsGo made new

-- .. and its line is put down
pub record RagesOnceCounted {A : Type 0} (old new : CountedState A) (lines_old lines_new : Known) : Type 0 where
  pub event : Event A
  pub one : MakesOne event old new
  pub put_down : Appends lines_old lines_new (line (event_text Numbers event))

-- one, and then others
pub record Then {A : Type 0} (First Rest : CountedState A → Type 0) : Type 0 where
  pub middle : CountedState A
  pub first : First middle
  pub rest : Rest middle

-- so were these, one after another
abbrev pub MakesAll : {A : Type 0} → List (Event A) → (old new : CountedState A) → Type 0
MakesAll [] old new = new ≡ old
MakesAll (e ∷ es) old new = Then (λ c. MakesOne e old c) (λ c. MakesAll es c new)

-- so many were, and their lines are put down
pub record RagesCounted {A : Type 0} (steps : ℕ) (old new : CountedState A) (lines_old lines_new : Known) :
    Type 0 where
  pub events : List (Event A)
  pub many : length events ≡ steps
  pub makes : MakesAll events old new
  pub put_down : Appends lines_old lines_new (events_text Numbers events)

-- these are the counts, with what the world has by itself
pub record HasCounts {A : Type 0} (c : CountedState A) (counts : Counts) : Type 0 where
  pub outcomes : counts.outcomes ≡ c.outcomes
  pub messages : counts.messages ≡ c.messages
  pub datagrams : counts.datagrams ≡ length c.world.items
  pub frames : counts.frames ≡ c.world.buses.frames
  pub moment : counts.moment ≡ c.world.moment
  pub wait : counts.wait ≡ c.waits.greatest

-- .. and are printed, once all is counted
pub record PrintsCounted {A : Type 0} (steps : ℕ) (old : CountedState A) (lines_old lines_new before after : Known) :
    Type 0 where
  pub at_end : CountedState A
  pub rages : RagesCounted steps old at_end lines_old lines_new
  pub left : CountedState A
  pub lets_go : LetsGo at_end left
  pub counts : Counts
  pub has : HasCounts left counts
  pub printed : Appends before after (line (count_text counts))
