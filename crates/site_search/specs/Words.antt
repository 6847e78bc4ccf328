-- Which entry of a history is searched for.
use Rattle.std.specs.Prelude.{◌≡◌, ◌⊎◌, ◌≤◌, ℕ, ◌==◌, List, [], ◌∷◌, ◌++◌, Some, if◌then◌else◌, slice_get}
use Rattle.site_storm.specs.site_run.simulator.world_log.Growing.{WorldHistory}
use Rattle.history.specs.declared.Entry.{Entry}
use Rattle.npdu.specs.declared.mac.Station as npdu
use Rattle.primitives.specs.declared.plain_data.Reply.{Reply}
use Rattle.primitives.specs.declared.plain_data.Request.{Request}
use Rattle.site_storm.specs.site_run.simulator.world.World.{WorldState}
use Rattle.site_parts.specs.declared.parts.Station.{Station}
use Rattle.site_storm.specs.site_run.site_history.Printed.{entry_text}
use Rattle.site_storm.specs.words.printing.declared.spelling.Spelling.TheVariants.{Numbers, Names}

-- what stands behind the first blank of a line
unfoldable pub behind_moment : List ℕ → List ℕ
behind_moment [] = []
behind_moment (c ∷ cs) = if c == 32 then cs else behind_moment cs

-- nothing stands here, or a blank first
abbrev pub IsWordEnd : List ℕ → Type 0
IsWordEnd [] = Unit {0}
IsWordEnd (c ∷ cs) = c ≡ 32

-- a text has these words, or begins with them
pub record HasWords (words text : List ℕ) : Type 0 where
  pub rest : List ℕ
  pub text_is : text ≡ words ++ rest
  pub whole : IsWordEnd rest

-- at a site with these stations an entry of a history has these words behind its moment, with the standard's numbers or
-- its names
pub record SaysWords {A : Type 0} (words : List ℕ) (stations : List (Station A)) (history : WorldHistory A)
    (entry : Entry npdu.Station (Request A) (Reply A)) : Type 0 where
  pub form : HasWords words (behind_moment (entry_text Numbers stations history entry)) ⊎
      HasWords words (behind_moment (entry_text Names stations history entry))

-- at this place of a history or behind it an entry has these words
pub record HasEntry {A : Type 0} (words : List ℕ) (stations : List (Station A)) (first : ℕ)
    (history : WorldHistory A) : Type 0 where
  pub place : ℕ
  pub entry : Entry npdu.Station (Request A) (Reply A)
  pub behind : first ≤ place
  pub there : slice_get history place ≡ Some entry
  pub says : SaysWords words stations history entry

-- one of the entries behind so many has
abbrev pub HasNewEntry : {A : Type 0} → (words : List ℕ) → (entries : ℕ) → WorldState A → Type 0
HasNewEntry words entries w = HasEntry words w.site.stations entries w.history
