-- What is printed of a turn of a live run.
use Rattle.std.specs.Prelude.{ℕ, true, false, Bool, List, [], ◌∷◌, ◌++◌, Option, Result, Ok, Err, codes, drop}
use Rattle.std.specs.Fmt.{decimal}
use Rattle.runner.specs.Runner.{RunnerState}
use Rattle.runner.specs.declared.turned.Turned.{Turned}
use Rattle.site_history.specs.Asked.{Asked, refused_asked_text}
use Rattle.site_history.specs.Printed.{entries_text, line, spaced}
use Rattle.tags.specs.declared.fault.Fault.{Fault}
use Rattle.words.specs.printing.declared.spelling.Spelling.{Spelling}

-- a datagram was heard that nobody of the site sent
abbrev pub stray_text : (strayed : Bool) → (moment : ℕ) → List ℕ
stray_text true moment = line (spaced (decimal moment ∷ codes "stray" ∷ []))
stray_text false moment = []

-- a turn was refused, or not all could be sent; what is told of its event stands behind that
abbrev pub answer_text : Option Asked → Result Turned Fault → (moment : ℕ) → List ℕ
answer_text asked (Ok turned) moment = []
answer_text asked (Err fault) moment = line (refused_asked_text asked fault moment)

-- a turn, before which the history had so many entries: that a stray was heard, what is new in the history, and its
-- refusal, each on a line
abbrev pub turn_text : {A : Type 0} → Spelling → Option Asked → Result Turned Fault → (entries : ℕ) →
    RunnerState A → List ℕ
turn_text s asked result entries r =
    stray_text r.strayed r.world.moment
    ++ (entries_text s r.world.site.stations r.world.history (drop entries r.world.history)
    ++ answer_text asked result r.world.moment)
