-- The lines that are printed of a run at a site.
use Rattle.std.specs.Prelude.{ℕ, ◌==◌, List, [], ◌∷◌, Option, None, Some, codes, flat_map, if◌then◌else◌}
use Rattle.std.specs.Fmt.{decimal}
use Rattle.history.specs.declared.End.{End}
use Rattle.history.specs.declared.End.TheVariants as why
use Rattle.history.specs.declared.Entry.{Entry}
use Rattle.history.specs.declared.Entry.TheVariants as entry
use Rattle.npdu.specs.declared.mac.Station as npdu
use Rattle.faulty_flow.specs.simulator.world_log.Growing.{WorldHistory}
use Rattle.primitives.specs.declared.plain_data.Reply.{Reply}
use Rattle.primitives.specs.declared.plain_data.Request.{Request}
use Rattle.site_parts.specs.declared.parts.Station.{Station}
use Rattle.tags.specs.Fault.{name_of, number_of}
use Rattle.tags.specs.declared.fault.Fault.{Fault}
use Rattle.words.specs.printing.Printed.{named_text, reply_to_text, request_text}
use Rattle.words.specs.printing.names.Tables.{abort_reasons, reject_reasons}
use Rattle.words.specs.printing.declared.spelling.Spelling.{Spelling}
use Rattle.words.specs.printing.declared.spelling.Spelling.TheVariants.{Names, Numbers}
pub use Rattle.site_trace.specs.Lines.{line, spaced}
use Rattle.site_trace.specs.Naming.{device_of, name_at, name_found}
use Rattle.site_history.specs.declared.counting.Counts.{Counts}

-- what a writer holds, as far as its type tells
abbrev pub Known : Type 0
Known = Option (List ℕ)

-- why a request ended with no answer (20.1.8, 20.1.9)
abbrev pub why_text : Spelling → End → List ℕ
why_text s why.TimedOut = codes "timedout"
why_text s (why.Rejected reason) = spaced (codes "rejected" ∷ named_text s reject_reasons reason ∷ [])
why_text s (why.Aborted reason) = spaced (codes "aborted" ∷ named_text s abort_reasons reason ∷ [])

-- the request that an entry issues under a number
abbrev pub request_in : {A : Type 0} → ℕ → Entry npdu.Station (Request A) (Reply A) → Option (Request A)
request_in n (entry.Issue number client instance request moment) = if number == n then Some request else None
request_in n e = None

-- the one that there is, or else the other
abbrev pub or_else : {X : Type 0} → Option X → Option X → Option X
or_else None y = y
or_else (Some x) y = Some x

-- the request that was issued under a number
abbrev pub request_of : {A : Type 0} → ℕ → WorldHistory A → Option (Request A)
request_of n [] = None
request_of n (e ∷ es) = or_else (request_of n es) (request_in n e)

-- .. where names are printed: an Enumerated has one if the property that is read is known
abbrev pub asked_of : {A : Type 0} → Spelling → ℕ → WorldHistory A → Option (Request A)
asked_of Numbers n h = None
asked_of Names n h = request_of n h

-- an entry of a history of a site with these stations, with the standard's numbers or its names
unfoldable pub entry_text : {A : Type 0} → Spelling → List (Station A) → WorldHistory A →
    Entry npdu.Station (Request A) (Reply A) → List ℕ
entry_text s stations h (entry.Issue number client instance request moment) =
    spaced (decimal moment ∷ codes "issue" ∷ decimal number ∷ name_at stations client ∷ decimal instance
    ∷ request_text s request ∷ [])
entry_text s stations h (entry.Executed number reply moment) =
    spaced (decimal moment ∷ codes "executed" ∷ decimal number ∷ reply_to_text s (asked_of s number h) reply ∷ [])
entry_text s stations h (entry.Answered number reply moment) =
    spaced (decimal moment ∷ codes "answered" ∷ decimal number ∷ reply_to_text s (asked_of s number h) reply ∷ [])
entry_text s stations h (entry.Ended number w moment) =
    spaced (decimal moment ∷ codes "ended" ∷ decimal number ∷ why_text s w ∷ [])
entry_text s stations h (entry.Restarted instance moment) =
    spaced (decimal moment ∷ codes "restarted" ∷ name_found (device_of instance stations) ∷ [])

-- a refusal
unfoldable pub refused_text : Fault → ℕ → List ℕ
refused_text fault moment = spaced (decimal moment ∷ codes "refused" ∷ decimal (number_of fault) ∷ name_of fault ∷ [])

-- what there was of all
unfoldable pub end_text : Counts → ℕ → List ℕ
end_text n moment =
    spaced (codes "end" ∷ decimal moment ∷ codes "issued" ∷ decimal n.issued ∷ codes "executed" ∷ decimal n.executed
    ∷ codes "answered" ∷ decimal n.answered ∷ codes "ended" ∷ decimal n.ended ∷ [])

-- entries of a history, each on a line
abbrev pub entries_text : {A : Type 0} → Spelling → List (Station A) → (history entries : WorldHistory A) → List ℕ
entries_text s stations h entries = flat_map (λ e. line (entry_text s stations h e)) entries
