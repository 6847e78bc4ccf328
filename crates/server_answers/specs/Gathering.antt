-- The segments of a request, so far (5.4.5.2, SEGMENTED_REQUEST).
use Rattle.std.specs.Prelude.{ℕ, ◌&&◌, not, Bool, List, Option, Some, None}
use Rattle.std.specs.List.{find}
use Rattle.std.specs.Ordering.{is_eq}
use Rattle.apdu.specs.declared.apdu.Segment.{Segment}
use Rattle.profile.specs.Ages as age
use Rattle.remembered.specs.Records.{asker_cmp, some_if}
use Rattle.remembered.specs.declared.record.Asker.{Asker}
use Rattle.segments.specs.Receiver.{ReceiverState, granted_window, joins, nothing_joined}
use Rattle.server_answers.specs.declared.asked.Asked.{Asked}
use Rattle.server_answers.specs.declared.gathering.RequestGathering.{RequestGathering}

-- a segment of the request came not too long ago (5.4.5.2, Timeout)
abbrev pub gathers_still : {A : Type 0} → ℕ → RequestGathering A → Bool
gathers_still now a = age.gathers_still a.at now

-- the request is this asker's
abbrev pub is_for : {A : Type 0} → Asker → RequestGathering A → Bool
is_for asker a = is_eq (asker_cmp a.asked.asker asker)

-- a request is still gathered; where one is excepted, it is another asker's
abbrev pub is_kept : {A : Type 0} → ℕ → Option Asker → RequestGathering A → Bool
is_kept now None a = gathers_still now a
is_kept now (Some asker) a = gathers_still now a && not (is_for asker a)

-- what is still gathered
abbrev pub still : {A : Type 0} → ℕ → Option (RequestGathering A) → Option (RequestGathering A)
still now None = None
still now (Some a) = some_if (gathers_still now a) a

-- what came of a request of this asker, unless it is too old (5.4.5.2)
abbrev pub gathering_of : {A : Type 0} → ℕ → Asker → List (RequestGathering A) → Option (RequestGathering A)
gathering_of now asker xs = still now (find (is_for asker) xs)

-- what a segment joins: what came so far, or nothing, of the window that is granted (5.4.5.1, 5.4.5.2)
abbrev pub receiver_of : {A : Type 0} → Option (RequestGathering A) → Segment → ReceiverState
receiver_of None segment = nothing_joined (granted_window segment.window)
receiver_of (Some a) segment = a.receiver

-- a request, of who asks so, once a segment with these octets joined what came so far (5.4.5.2)
abbrev pub gathered_with : {A : Type 0} → ℕ → Asked → Segment → List ℕ → ReceiverState → RequestGathering A
gathered_with now asked segment octets j =
    record {
      asked = asked;
      receiver = (joins now segment.sequence_number segment.more_follows octets j).state;
      at = now;
    }
