-- What sends a request from its beginning on cuts it in such pieces.
use Rattle.std.proofs.Common.{ℕ, Bool, true, false}
use Rattle.bindings.specs.Limits.{begins_if, begun, goes_whole, request_chunk}
use Rattle.headline_bacnet.proofs.Sending.{wakes_cut}
use Rattle.segments.specs.Sender.{nothing_sent}
use Rattle.headline_client.specs.Kept.{CutsIn}

begins_cut : (b : Bool) (now max_apdu length : ℕ) → CutsIn (request_chunk max_apdu) (begins_if b now max_apdu length)
begins_cut true now max_apdu length = tt
begins_cut false now max_apdu length = wakes_cut now (nothing_sent length (request_chunk max_apdu))

-- from its beginning on
pub begun_cut : (now max_apdu length : ℕ) → CutsIn (request_chunk max_apdu) (begun now max_apdu length)
begun_cut now max_apdu length = begins_cut (goes_whole max_apdu length) now max_apdu length
