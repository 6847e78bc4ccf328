-- The lines of a script that ask for events.
use Rattle.std.specs.Prelude.{ℕ, eqb, if◌then◌else◌, List, [], ◌∷◌}
use Rattle.std.specs.List.{ends_with}
pub use Rattle.site_run.specs.site_history.Asked.{event_text, events_text}
pub use Rattle.site_run.specs.site_history.Printed.{Known, line, spaced}

-- the end that the last line of a script lacks: none where it has one, or where there is no line
abbrev pub end_missing : List ℕ → List ℕ
end_missing [] = []
end_missing (c ∷ cs) = if ends_with eqb (c ∷ cs) (10 ∷ []) then [] else 10 ∷ []
