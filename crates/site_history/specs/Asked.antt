-- What was asked for, as a script asks for it, and what stands of it behind a refusal.
use Rattle.std.specs.Prelude.{ℕ, List, [], ◌∷◌, ◌++◌, Option, None, Some, codes, flat_map}
use Rattle.std.specs.Fmt.{decimal}
use Rattle.apdu.specs.declared.unconfirmed.Limits.{Limits}
use Rattle.faulty_flow.specs.simulator.world.site_events.declared.event.Event.{Event}
use Rattle.faulty_flow.specs.simulator.world.site_events.declared.event.Event.TheVariants as event
use Rattle.site_history.specs.Printed.{line, refused_text}
use Rattle.site_trace.specs.Lines.{spaced}
use Rattle.tags.specs.declared.fault.Fault.{Fault}
use Rattle.tags.specs.declared.fault.Fault.TheVariants.{Expired, Forged, Memory, NoInvokeId, NoRoute, NoSuch, TableFull}
use Rattle.tags.specs.declared.fault.Fault.TheVariants.{TooLong, Unbound}
use Rattle.words.specs.printing.Printed.{octets_text, request_text}
use Rattle.words.specs.printing.declared.spelling.Spelling.{Spelling}
use Rattle.words.specs.printing.declared.spelling.Spelling.TheVariants.{Names, Numbers}

-- a client asks who is there, within limits or without (16.10)
abbrev pub who_is_text : List ℕ → Option Limits → List ℕ
who_is_text client None = spaced (codes "whois" ∷ client ∷ [])
who_is_text client (Some l) = spaced (codes "whois" ∷ client ∷ decimal l.low ∷ decimal l.high ∷ [])

-- an event, as a script asks for it, with the standard's numbers or its names
unfoldable pub event_text : {A : Type 0} → Spelling → Event A → List ℕ
event_text s (event.Issue client instance request) =
    spaced (codes "issue" ∷ client ∷ decimal instance ∷ request_text s request ∷ [])
event_text s (event.WhoIs client limits) = who_is_text client limits
event_text s (event.Tick n) = spaced (codes "tick" ∷ decimal n ∷ [])
event_text s (event.Wake station) = spaced (codes "wake" ∷ station ∷ [])
event_text s (event.Deliver number) = spaced (codes "deliver" ∷ decimal number ∷ [])
event_text s (event.Restart station) = spaced (codes "restart" ∷ station ∷ [])
event_text s (event.Hear network station octets) =
    spaced (codes "hear" ∷ decimal network ∷ station ∷ octets_text octets ∷ [])
event_text s (event.Register station) = spaced (codes "register" ∷ station ∷ [])

-- events, each on a line
abbrev pub events_text : {A : Type 0} → Spelling → List (Event A) → List ℕ
events_text s events = flat_map (λ e. line (event_text s e)) events

-- what is not there, where an event is refused for that
abbrev pub missing_text : {A : Type 0} → Event A → List ℕ
missing_text (event.Issue client instance request) = codes ": no client has this name"
missing_text (event.WhoIs client limits) = codes ": no client has this name"
missing_text (event.Tick n) = codes ": 1 to 60000 ms pass at once, and none after the greatest moment"
missing_text (event.Wake station) = codes ": no station has this name"
missing_text (event.Deliver number) = codes ": no datagram has this number, or nobody is at its address"
missing_text (event.Restart station) = codes ": no device has this name"
missing_text (event.Hear network station octets) = codes ": no station of this name is on this network"
missing_text (event.Register station) = codes ": no foreign device has this name"

-- the plain cause of a refusal, where there is one; what is missing stands for itself
abbrev pub cause_text : (missing : List ℕ) → Fault → List ℕ
cause_text missing Memory = codes ": there is no memory for it"
cause_text missing TooLong = codes ": it is too long to be sent"
cause_text missing NoInvokeId = codes ": the next invoke ID is in use"
cause_text missing Unbound = codes ": no I-Am of this device was heard yet"
cause_text missing NoRoute = codes ": a router said that it has no route to this device"
cause_text missing TableFull = codes ": there is no place left for it"
cause_text missing Expired = codes ": it is too old to be heard"
cause_text missing Forged = codes ": nobody sent this"
cause_text missing NoSuch = missing
cause_text missing fault = []

-- the number of the script's line, before what it asks for
abbrev pub line_text : Option ℕ → List ℕ
line_text None = []
line_text (Some n) = codes "line " ++ (decimal n ++ codes " ")

-- what is told of an event behind its refusal: as a script asks for it, and what is not there where that is the cause
pub record Asked : Type 0 where
  pub text : List ℕ
  pub missing : List ℕ

-- that of an event, with the number of the script's line
abbrev pub asked_in_line : {A : Type 0} → (script_line : Option ℕ) → Event A → Asked
asked_in_line l e = record { text = line_text l ++ event_text Names e; missing = missing_text e }

-- with the standard's names, that is told; with its numbers, nothing
abbrev pub told_of : {A : Type 0} → Spelling → (script_line : Option ℕ) → Event A → Option Asked
told_of Numbers l e = None
told_of Names l e = Some (asked_in_line l e)

-- a refusal, and behind it what is told of the event
abbrev pub refused_asked_text : Option Asked → Fault → ℕ → List ℕ
refused_asked_text None fault moment = refused_text fault moment
refused_asked_text (Some a) fault moment =
    refused_text fault moment ++ (codes " " ++ (a.text ++ cause_text a.missing fault))

-- so many milliseconds are refused; with names, the script's line stands behind it, how many they are, and why
abbrev pub refused_time_text : Spelling → (script_line : Option ℕ) → (n : ℕ) → Fault → ℕ → List ℕ
refused_time_text Numbers l n fault moment = refused_text fault moment
refused_time_text Names l n fault moment =
    refused_text fault moment ++ (codes " " ++ (line_text l ++ (decimal n ++ time_text fault)))
  where
    time_text : Fault → List ℕ
    time_text Memory = codes " ms: there is no memory for them"
    time_text f = codes " ms: 1 to 60000 ms pass in a step"
