-- The answer comes in two segments, the first of which is lost and said again: it is whole at 2000.
use Rattle.std.proofs.Common.{◌≡◌, refl, true, false, List, [], ◌∷◌, Some, None, Ok, arith}
use Rattle.client_tsm.specs.Client.{never_given}
use Rattle.history.proofs.Lists.{has}
use Rattle.history.specs.declared.Entry.TheVariants.{Issue, Executed, Answered}
use Rattle.segments.specs.Sender.{has_ended, hears, wakes, window_of}
use Rattle.segments.specs.Receiver.{joins, step_of}
use Rattle.server_answers.specs.Answering.{answer_of}
use Rattle.services.proofs.CanonicalBody.{request_spelled}
use Rattle.services.proofs.Contents.{reply_is_meant}
use Rattle.services.specs.Asked.{left_by, replied, request_octets, service_asked}
use Rattle.tags.specs.Canonical as canonical
use Rattle.tags.specs.Number as number
use Rattle.headline_site.specs.Fair.{AreFair}
use Rattle.headline_site.specs.AllStations.{Event, Passes, Issues, Client_hears, Client_learns, Device_hears, Device_wakes, Announces, steps}
use Rattle.headline_site_runs.specs.Small.{client, i_am, own, reads_name, says_i_am, to_client, to_device}
use Rattle.headline_site_runs.specs.Long.{acks, first_ack, long_asks, long_begun, long_read, long_request, long_site, part_answer, part_tells}

abbrev segmented : (A : Type 0) → List (Event A)
segmented A =
    Announces 0 ∷ Client_learns 0 says_i_am to_device i_am ∷ Issues 0 10 reads_name ∷
    Device_hears 0 (long_asks A 0) to_client false (long_request A) (Some (Ok reads_name)) ∷
    Passes 2000 ∷ Device_wakes 0 ∷ Client_hears 0 (part_tells A 0 true 2000) (part_answer A 0 true) None ∷
    Device_hears 0 (acks 2000) to_client false first_ack None ∷
    Client_hears 0 (part_tells A 1 false 2000) (part_answer A 1 false) (Some (long_read A)) ∷ []

pub history_of_segmented : (A : Type 0) →
    (steps own (long_site A) (segmented A) (long_begun A)).core.book.history
    ≡ Issue 0 client 10 reads_name 0 ∷ Executed 0 (long_read A) 0 ∷ Answered 0 (long_read A) 2000 ∷ []
unfolding request_octets service_asked never_given replied left_by answer_of canonical.shortest number.width has_ended hears wakes window_of joins step_of
history_of_segmented A = refl

pub segmented_is_fair : (A : Type 0) → AreFair own (long_site A) (segmented A) (long_begun A)
unfolding request_octets service_asked never_given replied left_by answer_of canonical.shortest number.width has_ended hears wakes window_of joins step_of
segmented_is_fair A = (
  tt,
  (
    record { heard = record { was_said = has 0 refl; covers = tt; young = omega arith }; body = refl; back = refl },
    (
      (((omega arith, omega arith), omega arith, tt), refl),
      (
        record {
          heard = record { was_said = has 1 refl; covers = refl; young = omega arith };
          body = refl;
          named = tt;
          back = refl;
          means =
              request_spelled reads_name ((omega arith, omega arith), omega arith, tt);
        },
        (
          tt,
          (
            tt,
            (
              record { heard = record { was_said = has 3 refl; covers = refl; young = omega arith }; body = refl; named = tt; means = refl },
              (
                record { heard = record { was_said = has 4 refl; covers = refl; young = omega arith }; body = refl; named = tt; back = refl; means = refl },
                (
                  record {
                    heard = record { was_said = has 5 refl; covers = refl; young = omega arith };
                    body = refl;
                    named = tt;
                    means =
                        reply_is_meant reads_name (long_read A) ((omega arith, omega arith), omega arith, tt) (omega arith, tt) tt;
                  },
                  tt,
                ),
              ),
            ),
          ),
        ),
      ),
    ),
  ),
)
