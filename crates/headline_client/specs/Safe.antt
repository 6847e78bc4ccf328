-- What safety sees of a client: its transactions without their repeats and windows, its invoke IDs and its bindings.
use Rattle.std.specs.Prelude.{ℕ, List, [], map, Option, Some, None}
use Rattle.apdu.specs.Sizes.{apdu_code}
use Rattle.apdu.specs.declared.sizes.MaxApdu.{MaxApdu}
use Rattle.client.specs.Client.{ClientState}
use Rattle.bindings.specs.declared.binding.Binding.{Binding}
use Rattle.bindings.specs.Accepts.{PlainAccepts}
use Rattle.client.specs.client_tsm.Client.{ClientTsmState}
use Rattle.bindings.specs.Limits.{request_chunk}
use Rattle.client.specs.client_tsm.Open.{Open, got_of}
use Rattle.client.specs.client_tsm.declared.gathering.Gathering.{Gathering}
use Rattle.headline.specs.Stations as safe
use Rattle.npdu.specs.declared.mac.Station.{Station}
use Rattle.headline_bacnet.specs.Bodies.{limits_of}
use Rattle.primitives.specs.declared.plain_data.Request.{Request}
use Rattle.headline_bacnet.specs.server_answers.Limits.{answer_chunk}

-- how many segments of an answer came, one after another from the first on
abbrev pub pieces_of : {A : Type 0} → Option (Gathering A) → ℕ
pieces_of None = 0
pieces_of (Some g) = g.receiver.next

-- how many octets of an answer go in a segment from a device whose own greatest APDU is this, to a client that takes
-- that
abbrev pub room_from : MaxApdu → PlainAccepts → ℕ
room_from own accepts =
    answer_chunk own (limits_of accepts.segmented accepts.max_segments (apdu_code accepts.max_apdu))

-- a transaction. own: the greatest APDU of each station (12.11)
abbrev pub safe_transaction : {A : Type 0} → (own : Station → MaxApdu) → Open A → safe.Transaction Station (Request A)
safe_transaction own o =
    record {
      invoke_id = o.invoke_id;
      device = o.station;
      request = o.request;
      chunk = request_chunk o.max_apdu;
      room = room_from (own o.station) o.accepts;
      moment = o.at;
      pieces = pieces_of o.gathering;
      got = got_of o.gathering;
    }

-- a binding
abbrev pub safe_binding : Binding → safe.Binding Station
safe_binding b = record { instance = b.instance; station = b.bound.station }

-- a client of transactions with its bindings
abbrev pub safe_with : {A : Type 0} → (own : Station → MaxApdu) → List Binding → ClientTsmState A →
    safe.Client Station (Request A)
safe_with own bindings st =
    record {
      next = st.next;
      free_from = st.free_from;
      transactions = map (safe_transaction own) st.open_ones;
      bindings = map safe_binding bindings;
    }

-- a client
abbrev pub safe_client : {A : Type 0} → (own : Station → MaxApdu) → ClientState A → safe.Client Station (Request A)
safe_client own c = safe_with own c.bindings c.machine

-- the station that a client is
abbrev pub station_of : {A : Type 0} → ClientState A → Station
station_of c = record { net = c.net; mac = c.mac }
