-- A storm that was counted, and of which no line was kept.
use Rattle.std.proofs.Common.{◌≡◌, refl, sym, ℕ, Bool, false, List, ◌++◌, Option, Some, None, subst}
use Rattle.std.specs.Prelude.{option_map, string_bytes}
use Rattle.std.specs.Global.{Global}
use Rattle.command_line.specs.Storming.{IsCountedAlone, IsWrittenIfNamed, PrintsOrCounts, PrintsTexts}
use Rattle.command_line.specs.Words.{spelling_of}
use Rattle.command_order.specs.declared.storming.Storming.{Storming}
use Rattle.site_search.specs.site_storm.Lines.{Known, end_missing, events_text}
use Rattle.site_search.specs.site_storm.Storming.{CountsStorm}
use Rattle.words.specs.printing.declared.spelling.Spelling.TheVariants.{Numbers}

-- its lines weren't kept: they are those of its events, behind those of the given script
pub prints_unkept : (writes : List ℕ → List ℕ → Type 0) (s : Storming) (site script : List ℕ) (n : ℕ)
    (old new : Known) → IsCountedAlone s → CountsStorm Global site script n None None old new →
    PrintsTexts writes s site script n old new
prints_unkept writes s site script n old new alone counts =
    let rages = counts.run.storms.rages in
    let first : List ℕ = script ++ end_missing script in
    let last : List ℕ = first ++ events_text Numbers rages.events in
    let kept : CountsStorm Global site script n (Some first) (Some last) old new = record {
      fresh = counts.fresh;
      steps = counts.steps;
      opened = counts.opened;
      run = record {
        left = counts.run.left;
        storms = record {
          begun = counts.run.storms.begun;
          at_storm = counts.run.storms.at_storm;
          taken = counts.run.storms.taken;
          rages = record {
            events = rages.events;
            many = rages.many;
            sound = rages.sound;
            printed = rages.printed;
            put_down = refl;
          };
        };
        printed = counts.run.printed;
        legal = counts.run.legal;
      };
    } in
    record {
      lines = last;
      printed = subst (λ (b : Bool). PrintsOrCounts b (spelling_of s.is_named false) site script n (Some first)
          (Some last) old new) (sym alone.counted) kept;
      written = subst (λ (f : Option _). IsWrittenIfNamed writes (option_map string_bytes f) last)
          (sym alone.unwritten) tt;
    }

pub ruleset storm_laws = (prints_unkept)
