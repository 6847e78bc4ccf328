-- Nothing is heard: the request is said four times, and ends at 12000.
use Rattle.std.proofs.Common.{◌≡◌, refl, ℕ, List, [], ◌∷◌, arith}
use Rattle.history.specs.declared.End.TheVariants.{TimedOut}
use Rattle.history.specs.declared.Entry.TheVariants.{Issue, Ended}
use Rattle.headline.specs.Happenings.{Happening, Ticks, Issues, Client_asks, Client_becomes, Closes, Announces, Whole, Fails, after_all}
use Rattle.history.proofs.Lists.{has}
use Rattle.headline.specs.Honest.{AreHonest}
use Rattle.headline_runs.specs.Small.{small, site}
use Rattle.headline_runs.proofs.Site.{i_am, client, open_five, asks_five, client_hears, client_issues}

abbrev silence : List (Happening ℕ ℕ ℕ ℕ)
silence =
    Announces 9 10 ∷ Client_becomes 0 client ∷ Issues 0 9 10 5 100 100 ∷ Client_asks 0 open_five Whole ∷
    Ticks 3000 ∷ Client_asks 0 open_five Whole ∷ Ticks 3000 ∷ Client_asks 0 open_five Whole ∷
    Ticks 3000 ∷ Client_asks 0 open_five Whole ∷ Ticks 3000 ∷ Closes 0 [] open_five [] (Fails TimedOut) ∷ []

pub history_of_silence : (after_all small site silence).book.history ≡ Issue 0 0 10 5 0 ∷ Ended 0 TimedOut 12000 ∷ []
history_of_silence = refl

pub said_in_silence : (after_all small site silence).book.said ≡ i_am ∷ asks_five 0 ∷ asks_five 3000 ∷ asks_five 6000 ∷ asks_five 9000 ∷ []
said_in_silence = refl

pub silence_is_honest : AreHonest small site silence
silence_is_honest = (
  refl,
  (
    client_hears,
    (
      client_issues 5 100 100,
      (
        record { there = has 0 refl; early = omega arith },
        (
          tt,
          (
            record { there = has 0 refl; early = omega arith },
            (
              tt,
              (
                record { there = has 0 refl; early = omega arith },
                (tt, (record { there = has 0 refl; early = omega arith }, (tt, (record { place = refl; may = tt }, tt)))),
              ),
            ),
          ),
        ),
      ),
    ),
  ),
)
