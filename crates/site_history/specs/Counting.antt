-- What the last line counts.
use Rattle.std.specs.Prelude.{ℕ, ◌+◌, Bool, true, false, if◌then◌else◌, List, [], ◌∷◌}
use Rattle.history.specs.declared.Entry.{Entry}
use Rattle.history.specs.declared.Entry.TheVariants as entry
use Rattle.npdu.specs.declared.mac.Station.{Station}
use Rattle.primitives.specs.declared.plain_data.Reply.{Reply}
use Rattle.primitives.specs.declared.plain_data.Request.{Request}
use Rattle.site_history.specs.declared.counting.Counts.{Counts}
use Rattle.site_history.specs.declared.counting.Kind.{Kind}
use Rattle.site_history.specs.declared.counting.Kind.TheVariants.{Issue, Executed, Answered, Ended}

-- the entry is of this kind
abbrev pub is_of : {A : Type 0} → Kind → Entry Station (Request A) (Reply A) → Bool
is_of Issue (entry.Issue number client instance request moment) = true
is_of Executed (entry.Executed number reply moment) = true
is_of Answered (entry.Answered number reply moment) = true
is_of Ended (entry.Ended number why moment) = true
is_of kind e = false

-- how many entries are of this kind
abbrev pub count : {A : Type 0} → Kind → List (Entry Station (Request A) (Reply A)) → ℕ
count kind [] = 0
count kind (e ∷ es) = (if is_of kind e then 1 else 0) + count kind es

-- how many entries of each kind a history has
abbrev pub counts_of : {A : Type 0} → List (Entry Station (Request A) (Reply A)) → Counts
counts_of h = record {
  issued = count Issue h;
  executed = count Executed h;
  answered = count Answered h;
  ended = count Ended h;
}

-- the counts of no entry
abbrev pub none_counted : Counts
none_counted = record { issued = 0; executed = 0; answered = 0; ended = 0 }

-- these counts with those of more entries
abbrev pub counted_on : {A : Type 0} → Counts → List (Entry Station (Request A) (Reply A)) → Counts
counted_on c h = record {
  issued = c.issued + count Issue h;
  executed = c.executed + count Executed h;
  answered = c.answered + count Answered h;
  ended = c.ended + count Ended h;
}
