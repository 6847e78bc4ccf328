-- What a client's steps say and tell, in the words of the book.
use Rattle.std.specs.Prelude.{ℕ, List, [], ◌∷◌, ◌++◌, length, map}
use Rattle.apdu.specs.Numbers.{abort_number, reject_number}
use Rattle.apdu.specs.declared.sizes.MaxApdu.{MaxApdu}
use Rattle.client.specs.client_tsm.Client.{ClientTsmState}
use Rattle.bindings.specs.Limits.{apdu_limit, request_chunk}
use Rattle.client.specs.client_tsm.Said.{said_apdu, said_way}
use Rattle.client.specs.client_tsm.declared.plan.Outcome.{Outcome}
use Rattle.client.specs.client_tsm.declared.plan.Outcome.TheVariants as outcome
use Rattle.client.specs.client_tsm.declared.plan.TransactionOutcome.{TransactionOutcome}
use Rattle.bindings.specs.declared.bound.Bound.{Bound}
use Rattle.client.specs.client_tsm.declared.said.ClientSaid.{ClientSaid}
use Rattle.headline.specs.Happenings as core
use Rattle.headline.specs.Happenings.{Core, Gives, Fails, closing, issue_of, put}
use Rattle.headline.specs.Stations.{Client}
use Rattle.history.specs.Book.{Issued, Message, Unicast, last_issue}
use Rattle.history.specs.declared.End.TheVariants.{TimedOut, Aborted, Rejected}
use Rattle.history.specs.declared.Entry.{Entry}
use Rattle.npdu.specs.Mac.{same_station}
use Rattle.npdu.specs.declared.mac.Station.{Station}
use Rattle.headline_bacnet.specs.Bodies.{body_of, led_to}
use Rattle.object_model.specs.Objects.{PlainTable}
use Rattle.primitives.specs.declared.plain_data.Reply.{Reply}
use Rattle.primitives.specs.declared.plain_data.Request.{Request}
use Rattle.headline_client.specs.Safe.{room_from}

-- to a station, this says so much of requests and replies. own: the greatest APDU of each station (12.11)
abbrev pub message_to : {A : Type 0} → (own : Station → MaxApdu) → Station → ℕ → ClientSaid A → Station →
    Message Station
message_to own c now s to =
    record { from = c; to = Unicast to; body = body_of (own to) (said_apdu s); stamp = now }

-- what a client says at a moment goes to the station to which its way leads
abbrev pub message_of : {A : Type 0} → (own : Station → MaxApdu) → Station → ℕ → ClientSaid A → Message Station
message_of own c now s = message_to own c now s (led_to c.net (said_way s))

-- how a transaction closes (5.4.4)
abbrev pub outcome_of : {A : Type 0} → Outcome A → core.Outcome (Reply A)
outcome_of (outcome.Answered reply) = Gives reply
outcome_of (outcome.Aborted reason) = Fails (Aborted (abort_number reason))
outcome_of (outcome.Rejected reason) = Fails (Rejected (reject_number reason))
outcome_of outcome.TimedOut = Fails TimedOut

-- the history after a client told of these transactions: each is of its last issue under that invoke ID
abbrev pub told_of : {A : Type 0} → Station → ℕ → List (Issued Station (Request A)) → List (TransactionOutcome A) →
    List (Entry Station (Request A) (Reply A)) → List (Entry Station (Request A) (Reply A))
told_of c now issues [] h = h
told_of c now issues (t ∷ ts) h =
    told_of c now issues ts
    (core.told (closing (outcome_of t.outcome) now) (last_issue same_station c t.invoke_id issues) h)

-- a client says and tells this now, and is that then
abbrev pub acts : {A : Type 0} → (own : Station → MaxApdu) → Station → List (ClientSaid A) →
    List (TransactionOutcome A) → Client Station (Request A) → Core Station (Request A) (Reply A) (PlainTable A) →
    Core Station (Request A) (Reply A) (PlainTable A)
acts own c says tells next w =
    record w {
      book = record w.book {
        said = w.book.said ++ map (message_of own c w.book.moment) says;
        history = told_of c w.book.moment w.book.issues tells w.book.history;
      };
      clients = put same_station w.clients c next;
    }

-- the row of a request that a client issues now to where the device of an instance is bound
abbrev pub row_of : {A : Type 0} → (own : Station → MaxApdu) → Station → ℕ → (instance : ℕ) → Request A → Bound →
    ClientTsmState A → Issued Station (Request A)
row_of own c now instance request to st =
    record {
      client = c;
      invoke_id = st.next;
      device = to.station;
      instance = instance;
      request = request;
      chunk = request_chunk (apdu_limit st.accepts to);
      room = room_from (own to.station) st.accepts;
      moment = now;
    }

-- a client issues a request with this row, says this, and is that then
abbrev pub issues : {A : Type 0} → (own : Station → MaxApdu) → Station → Issued Station (Request A) →
    List (ClientSaid A) → Client Station (Request A) → Core Station (Request A) (Reply A) (PlainTable A) →
    Core Station (Request A) (Reply A) (PlainTable A)
issues own c row says next w =
    record w {
      book = record w.book {
        issues = w.book.issues ++ row ∷ [];
        said = w.book.said ++ map (message_of own c w.book.moment) says;
        history = w.book.history ++ issue_of (length w.book.issues) row ∷ [];
      };
      clients = put same_station w.clients c next;
    }
