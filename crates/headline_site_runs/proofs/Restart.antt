-- The device restarts once it executed the request: it executes nothing for a while, and the request ends at 12000.
use Rattle.std.proofs.Common.{◌≡◌, refl, false, List, [], ◌∷◌, Some, None, Ok, arith}
use Rattle.client_tsm.specs.Client.{never_given}
use Rattle.history.proofs.Lists.{has}
use Rattle.history.specs.declared.End.TheVariants.{TimedOut}
use Rattle.history.specs.declared.Entry.TheVariants.{Issue, Executed, Ended, Restarted}
use Rattle.server_answers.specs.Answering.{answer_of}
use Rattle.services.proofs.CanonicalBody.{request_spelled}
use Rattle.services.specs.Asked.{left_by, replied, request_octets, service_asked}
use Rattle.tags.specs.Canonical as canonical
use Rattle.tags.specs.Number as number
use Rattle.headline_site.specs.Fair.{AreFair}
use Rattle.headline_site.specs.AllStations.{Event, Passes, Issues, Client_learns, Client_wakes, Device_hears, Announces, Restarts, steps}
use Rattle.headline_site_runs.specs.Small.{begun, client, i_am, own, reads_name, says_i_am, site, to_client, to_device}
use Rattle.headline_site_runs.specs.Heard.{asks, name_read, request}

abbrev restart : (A : Type 0) → List (Event A)
restart A =
    Announces 0 ∷ Client_learns 0 says_i_am to_device i_am ∷ Issues 0 10 reads_name ∷
    Device_hears 0 (asks A 0) to_client false (request A) (Some (Ok reads_name)) ∷ Restarts 0 ∷
    Passes 3000 ∷ Client_wakes 0 ∷ Device_hears 0 (asks A 3000) to_client false (request A) None ∷
    Passes 9000 ∷ Client_wakes 0 ∷ []

pub history_of_restart : (A : Type 0) → (steps own (site A) (restart A) (begun A)).core.book.history
    ≡ Issue 0 client 10 reads_name 0 ∷ Executed 0 (name_read A) 0 ∷ Restarted 10 0 ∷ Ended 0 TimedOut 12000 ∷ []
unfolding request_octets service_asked never_given replied left_by answer_of canonical.shortest number.width
history_of_restart A = refl

pub restart_is_fair : (A : Type 0) → AreFair own (site A) (restart A) (begun A)
unfolding request_octets service_asked never_given replied left_by answer_of canonical.shortest number.width
restart_is_fair A = (
  tt,
  (
    record { heard = record { was_said = has 0 refl; covers = tt; young = omega arith }; body = refl; back = refl },
    (
      (((omega arith, omega arith), omega arith, tt), refl),
      (
        record {
          heard = record { was_said = has 1 refl; covers = refl; young = omega arith };
          body = refl;
          named = tt;
          back = refl;
          means =
              request_spelled reads_name ((omega arith, omega arith), omega arith, tt);
        },
        (
          tt,
          (
            tt,
            (
              tt,
              (
                record {
                  heard = record { was_said = has 3 refl; covers = refl; young = omega arith };
                  body = refl;
                  named = tt;
                  back = refl;
                  means =
                      refl;
                },
                (tt, (tt, tt)),
              ),
            ),
          ),
        ),
      ),
    ),
  ),
)
