-- What holds of each client from its start on, and safety doesn't see.
use Rattle.std.specs.Prelude.{◌≡◌, ◌≤◌, ◌<◌, ℕ, length, Option, Some, None}
use Rattle.std.specs.List.{AllByRecursion}
use Rattle.apdu.specs.Sizes.{apdu_code}
use Rattle.client.specs.Client.{ClientState}
use Rattle.bindings.specs.declared.binding.Binding.{Binding}
use Rattle.bindings.specs.Limits.{request_chunk}
use Rattle.client.specs.client_tsm.Open.{Open}
use Rattle.headline_bacnet.specs.Bodies.{led_to}
use Rattle.segments.specs.Sender.{SenderState}
use Rattle.profile.specs.Limits.{MAX_SEGMENTS_ACCEPTED}
use Rattle.segments.specs.Pieces.{piece_count}
use Rattle.headline_bacnet.specs.services.Asked.{request_octets}

-- what goes on sending a request cuts it in pieces of so many octets (5.2.1)
abbrev pub CutsIn : ℕ → Option SenderState → Type 0
CutsIn chunk None = Unit {0}
CutsIn chunk (Some c) = c.chunk ≡ chunk

-- the way of a transaction leads to its device; its request goes in few enough pieces, which stay the same (5.4.4.1);
-- the code of the APDUs that it takes has four bits (20.1.2.5)
pub record IsKept {A : Type 0} (net : ℕ) (o : Open A) : Type 0 where
  pub leads : led_to net o.way ≡ o.station
  pub wide : 50 ≤ o.max_apdu
  pub few : piece_count (request_chunk o.max_apdu) (length (request_octets o.request)) ≤ MAX_SEGMENTS_ACCEPTED
  pub cut : CutsIn (request_chunk o.max_apdu) o.sending
  pub code : apdu_code o.accepts.max_apdu < 16

-- the way of a binding leads to its device (16.10.3)
abbrev pub Leads : ℕ → Binding → Type 0
Leads net b = led_to net b.bound.way ≡ b.bound.station

-- a client is well kept where all its transactions and bindings are, and so is the size of the APDUs that it takes
-- (20.1.2.5)
pub record IsWellKept {A : Type 0} (c : ClientState A) : Type 0 where
  pub transactions : AllByRecursion (IsKept c.net) c.machine.open_ones
  pub bindings : AllByRecursion (Leads c.net) c.bindings
  pub code : apdu_code c.machine.accepts.max_apdu < 16
