-- The answer is lost, and the request said again: it is executed once, at 0, and answered at 3000.
use Rattle.std.proofs.Common.{◌≡◌, refl, false, List, [], ◌∷◌, Some, None, Ok, arith}
use Rattle.client_tsm.specs.Client.{never_given}
use Rattle.history.proofs.Lists.{has}
use Rattle.history.specs.declared.Entry.TheVariants.{Issue, Executed, Answered}
use Rattle.server_answers.specs.Answering.{answer_of}
use Rattle.services.proofs.CanonicalBody.{request_spelled}
use Rattle.services.proofs.Contents.{reply_is_meant}
use Rattle.services.specs.Asked.{left_by, replied, request_octets, service_asked}
use Rattle.tags.specs.Canonical as canonical
use Rattle.tags.specs.Number as number
use Rattle.headline_site.specs.Fair.{AreFair}
use Rattle.headline_site.specs.AllStations.{Event, Passes, Issues, Client_hears, Client_learns, Client_wakes, Device_hears, Announces, steps}
use Rattle.headline_site_runs.specs.Small.{begun, client, i_am, own, reads_name, says_i_am, site, to_client, to_device}
use Rattle.headline_site_runs.specs.Heard.{answer, asks, name_read, request, tells}

abbrev lost : (A : Type 0) → List (Event A)
lost A =
    Announces 0 ∷ Client_learns 0 says_i_am to_device i_am ∷ Issues 0 10 reads_name ∷
    Device_hears 0 (asks A 0) to_client false (request A) (Some (Ok reads_name)) ∷
    Passes 3000 ∷ Client_wakes 0 ∷ Device_hears 0 (asks A 3000) to_client false (request A) None ∷
    Client_hears 0 (tells A 3000) (answer A) (Some (name_read A)) ∷ []

pub history_of_lost : (A : Type 0) → (steps own (site A) (lost A) (begun A)).core.book.history
    ≡ Issue 0 client 10 reads_name 0 ∷ Executed 0 (name_read A) 0 ∷ Answered 0 (name_read A) 3000 ∷ []
unfolding request_octets service_asked never_given replied left_by answer_of canonical.shortest number.width
history_of_lost A = refl

pub lost_is_fair : (A : Type 0) → AreFair own (site A) (lost A) (begun A)
unfolding request_octets service_asked never_given replied left_by answer_of canonical.shortest number.width
lost_is_fair A = (
  tt,
  (
    record { heard = record { was_said = has 0 refl; covers = tt; young = omega arith }; body = refl; back = refl },
    (
      (((omega arith, omega arith), omega arith, tt), refl),
      (
        record {
          heard = record { was_said = has 1 refl; covers = refl; young = omega arith };
          body = refl;
          named = tt;
          back = refl;
          means =
              request_spelled reads_name ((omega arith, omega arith), omega arith, tt);
        },
        (
          tt,
          (
            tt,
            (
              record {
                heard = record { was_said = has 3 refl; covers = refl; young = omega arith };
                body = refl;
                named = tt;
                back = refl;
                means =
                    refl;
              },
              (
                record {
                  heard = record { was_said = has 4 refl; covers = refl; young = omega arith };
                  body = refl;
                  named = tt;
                  means =
                      reply_is_meant reads_name (name_read A) ((omega arith, omega arith), omega arith, tt) (omega arith, tt) tt;
                },
                tt,
              ),
            ),
          ),
        ),
      ),
    ),
  ),
)
