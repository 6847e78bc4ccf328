-- Nobody answers: the request is said four times, and ends at 12000.
use Rattle.std.proofs.Common.{◌≡◌, refl, List, [], ◌∷◌, arith}
use Rattle.history.proofs.Lists.{has}
use Rattle.history.specs.declared.End.TheVariants.{TimedOut}
use Rattle.history.specs.declared.Entry.TheVariants.{Issue, Ended}
use Rattle.tags.specs.Canonical as canonical
use Rattle.tags.specs.Number as number
use Rattle.services.specs.Asked.{request_octets, service_asked}
use Rattle.client_tsm.specs.Client.{never_given}
use Rattle.headline_site.specs.Fair.{AreFair}
use Rattle.headline_site.specs.AllStations.{Event, Passes, Issues, Client_learns, Client_wakes, Announces, steps}
use Rattle.headline_site_runs.specs.Small.{begun, client, i_am, own, reads_name, says_i_am, site, to_device}

abbrev silence : (A : Type 0) → List (Event A)
silence A =
    Announces 0 ∷ Client_learns 0 says_i_am to_device i_am ∷ Issues 0 10 reads_name ∷
    Passes 3000 ∷ Client_wakes 0 ∷ Passes 3000 ∷ Client_wakes 0 ∷ Passes 3000 ∷ Client_wakes 0 ∷
    Passes 3000 ∷ Client_wakes 0 ∷ []

pub history_of_silence : (A : Type 0) → (steps own (site A) (silence A) (begun A)).core.book.history
    ≡ Issue 0 client 10 reads_name 0 ∷ Ended 0 TimedOut 12000 ∷ []
unfolding request_octets service_asked never_given canonical.shortest number.width
history_of_silence A = refl

pub silence_is_fair : (A : Type 0) → AreFair own (site A) (silence A) (begun A)
unfolding request_octets service_asked never_given canonical.shortest number.width
silence_is_fair A = (
  tt,
  (
    record { heard = record { was_said = has 0 refl; covers = tt; young = omega arith }; body = refl; back = refl },
    ((((omega arith, omega arith), omega arith, tt), refl), (tt, (tt, (tt, (tt, (tt, (tt, (tt, (tt, tt))))))))),
  ),
)
