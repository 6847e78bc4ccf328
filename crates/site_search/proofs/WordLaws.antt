-- An entry has words with the standard's numbers, or with its names.
use Rattle.std.proofs.Common.{inl, inr, ℕ, List}
use Rattle.history.specs.declared.Entry.{Entry}
use Rattle.site_storm.specs.site_run.simulator.world_log.Growing.{WorldHistory}
use Rattle.npdu.specs.declared.mac.Station as npdu
use Rattle.primitives.specs.declared.plain_data.Reply.{Reply}
use Rattle.primitives.specs.declared.plain_data.Request.{Request}
use Rattle.site_parts.specs.declared.parts.Station.{Station}
use Rattle.site_storm.specs.site_run.site_history.Printed.{entry_text}
use Rattle.site_storm.specs.words.printing.declared.spelling.Spelling.TheVariants.{Numbers, Names}
use Rattle.site_search.specs.Words.{HasWords, SaysWords, behind_moment}

pub in_numbers : {A : Type 0} (words : List ℕ) (stations : List (Station A)) (h : WorldHistory A)
    (e : Entry npdu.Station (Request A) (Reply A)) →
    HasWords words (behind_moment (entry_text Numbers stations h e)) → SaysWords words stations h e
in_numbers words stations h e has = record { form = inl has }

pub in_names : {A : Type 0} (words : List ℕ) (stations : List (Station A)) (h : WorldHistory A)
    (e : Entry npdu.Station (Request A) (Reply A)) →
    HasWords words (behind_moment (entry_text Names stations h e)) → SaysWords words stations h e
in_names words stations h e has = record { form = inr has }

pub ruleset word_laws = (in_numbers, in_names)
