-- What there was of all.
use Rattle.std.specs.Prelude.{◌≡◌, ℕ, ◌+◌, ◌-◌, ◌/◌, ◌==◌, Bool, true, false, if◌then◌else◌, List, [], ◌∷◌, ◌++◌, codes}
use Rattle.std.specs.Prelude.{length}
use Rattle.std.specs.Fmt.{decimal}
use Rattle.apdu.specs.PduType.{type_number}
use Rattle.apdu.specs.declared.pdu_type.PduType.{PduType}
use Rattle.apdu.specs.declared.pdu_type.PduType.TheVariants.{ConfirmedRequest, UnconfirmedRequest, SimpleAck}
use Rattle.apdu.specs.declared.pdu_type.PduType.TheVariants.{ComplexAck, SegmentAck, Error, Reject, Abort}
use Rattle.storm.specs.world_log.Growing.{WorldHistory}
use Rattle.storm.specs.world_log.Kept.{all_said, apdu_in}
use Rattle.storm.specs.world_log.declared.saying.SaidMessage.{SaidMessage}
use Rattle.history.specs.declared.End.{End}
use Rattle.history.specs.declared.End.TheVariants as why
use Rattle.history.specs.declared.Entry.TheVariants as entry
use Rattle.site_run.specs.simulator.world.World.{WorldState}
use Rattle.site_storm.specs.Lines.{spaced}
use Rattle.site_storm.specs.Waits.{WorldEntry, greatest_wait}
use Rattle.site_storm.specs.declared.counts.Counts.{Counts}
use Rattle.site_storm.specs.declared.counts.Kind.{Kind}
use Rattle.site_storm.specs.declared.counts.Kind.TheVariants as kind
use Rattle.site_storm.specs.declared.counts.MessageCounts.{MessageCounts}
use Rattle.site_storm.specs.declared.counts.OutcomeCounts.{OutcomeCounts}

-- the end is of this kind
abbrev pub is_end : Kind → End → Bool
is_end kind.TimedOut why.TimedOut = true
is_end kind.Aborted (why.Aborted reason) = true
is_end kind.Rejected (why.Rejected reason) = true
is_end k w = false

-- the entry is of this kind
abbrev pub is_of : {A : Type 0} → Kind → WorldEntry A → Bool
is_of kind.Issue (entry.Issue number client instance request moment) = true
is_of kind.Executed (entry.Executed number reply moment) = true
is_of kind.Answered (entry.Answered number reply moment) = true
is_of kind.Restarted (entry.Restarted instance moment) = true
is_of k (entry.Ended number w moment) = is_end k w
is_of k e = false

-- how many entries are of this kind
abbrev pub count : {A : Type 0} → Kind → WorldHistory A → ℕ
count k [] = 0
count k (e ∷ es) = (if is_of k e then 1 else 0) + count k es

-- how many entries of each kind a history has
abbrev pub outcomes_in : {A : Type 0} → WorldHistory A → OutcomeCounts
outcomes_in h = record {
  issues = count kind.Issue h;
  answered = count kind.Answered h;
  timed_out = count kind.TimedOut h;
  aborted = count kind.Aborted h;
  rejected = count kind.Rejected h;
  executed = count kind.Executed h;
  restarts = count kind.Restarted h;
}

-- the counts of no entry, and counts with others
abbrev pub no_outcomes : OutcomeCounts
no_outcomes = record {
  issues = 0;
  answered = 0;
  timed_out = 0;
  aborted = 0;
  rejected = 0;
  executed = 0;
  restarts = 0;
}

abbrev pub outcomes_with : (a b : OutcomeCounts) → OutcomeCounts
outcomes_with a b = record {
  issues = a.issues + b.issues;
  answered = a.answered + b.answered;
  timed_out = a.timed_out + b.timed_out;
  aborted = a.aborted + b.aborted;
  rejected = a.rejected + b.rejected;
  executed = a.executed + b.executed;
  restarts = a.restarts + b.restarts;
}

-- the APDU is of this type, by its first octet (20.1.2 to 20.1.9)
abbrev pub is_apdu : PduType → List ℕ → Bool
is_apdu t [] = false
is_apdu t (o ∷ os) = o / 16 == type_number t

-- how many messages are of this type
abbrev pub count_said : {A : Type 0} → PduType → List (SaidMessage A) → ℕ
count_said t [] = 0
count_said t (m ∷ ms) = (if is_apdu t (apdu_in m) then 1 else 0) + count_said t ms

-- how many messages are of each type
abbrev pub messages_in : {A : Type 0} → List (SaidMessage A) → MessageCounts
messages_in ms = record {
  confirmed = count_said ConfirmedRequest ms;
  unconfirmed = count_said UnconfirmedRequest ms;
  simple_ack = count_said SimpleAck ms;
  complex_ack = count_said ComplexAck ms;
  segment_ack = count_said SegmentAck ms;
  error = count_said Error ms;
  reject = count_said Reject ms;
  abort = count_said Abort ms;
}

-- the counts of no message, and counts with others
abbrev pub no_messages : MessageCounts
no_messages = record {
  confirmed = 0;
  unconfirmed = 0;
  simple_ack = 0;
  complex_ack = 0;
  segment_ack = 0;
  error = 0;
  reject = 0;
  abort = 0;
}

abbrev pub messages_with : (a b : MessageCounts) → MessageCounts
messages_with a b = record {
  confirmed = a.confirmed + b.confirmed;
  unconfirmed = a.unconfirmed + b.unconfirmed;
  simple_ack = a.simple_ack + b.simple_ack;
  complex_ack = a.complex_ack + b.complex_ack;
  segment_ack = a.segment_ack + b.segment_ack;
  error = a.error + b.error;
  reject = a.reject + b.reject;
  abort = a.abort + b.abort;
}

-- the counts are those of all that there was in a world
pub record AreCounts {A : Type 0} (w : WorldState A) (c : Counts) : Type 0 where
  pub messages : List (SaidMessage A)
  pub said : all_said messages ≡ w.said
  pub outcomes : c.outcomes ≡ outcomes_in w.history
  pub types : c.messages ≡ messages_in messages
  pub datagrams : c.datagrams ≡ length w.items
  pub frames : c.frames ≡ w.buses.frames
  pub moment : c.moment ≡ w.moment
  pub wait : c.wait ≡ greatest_wait w.history

-- how requests ended; those that are open are the rest, and executions that no client was told of are those without
-- answer
abbrev pub outcomes_text : OutcomeCounts → List ℕ
outcomes_text n =
    spaced (codes "issues" ∷ decimal n.issues ∷ codes "answered" ∷ decimal n.answered
    ∷ codes "timedout" ∷ decimal n.timed_out ∷ codes "aborted" ∷ decimal n.aborted
    ∷ codes "rejected" ∷ decimal n.rejected
    ∷ codes "open" ∷ decimal (n.issues - n.answered - n.timed_out - n.aborted - n.rejected)
    ∷ codes "executed" ∷ decimal n.executed ∷ codes "untold" ∷ decimal (n.executed - n.answered)
    ∷ codes "restarts" ∷ decimal n.restarts ∷ [])

-- how many requests and acknowledgements were said, behind a space (20.1.2 to 20.1.5)
abbrev pub requests_text : MessageCounts → List ℕ
requests_text n =
    spaced ([] ∷ codes "confirmed" ∷ decimal n.confirmed ∷ codes "unconfirmed" ∷ decimal n.unconfirmed
    ∷ codes "simpleack" ∷ decimal n.simple_ack ∷ codes "complexack" ∷ decimal n.complex_ack ∷ [])

-- how many of the other messages were, behind a space (20.1.6 to 20.1.9)
abbrev pub refusals_text : MessageCounts → List ℕ
refusals_text n =
    spaced ([] ∷ codes "segmentack" ∷ decimal n.segment_ack ∷ codes "error" ∷ decimal n.error
    ∷ codes "reject" ∷ decimal n.reject ∷ codes "abort" ∷ decimal n.abort ∷ [])

-- what there was beside them, behind a space
abbrev pub traffic_text : Counts → List ℕ
traffic_text c =
    spaced ([] ∷ codes "datagrams" ∷ decimal c.datagrams ∷ codes "frames" ∷ decimal c.frames
    ∷ codes "ms" ∷ decimal c.moment ∷ codes "wait" ∷ decimal c.wait ∷ [])

-- the counts in one line
unfoldable pub count_text : Counts → List ℕ
count_text c =
    outcomes_text c.outcomes ++ (requests_text c.messages ++ (refusals_text c.messages ++ traffic_text c))
