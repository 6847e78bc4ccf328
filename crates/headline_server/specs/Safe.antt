-- What the promise sees of a server of transactions: all but how its answers are said.
use Rattle.std.specs.Prelude.{map, Option, Some, None}
use Rattle.apdu.specs.declared.sizes.MaxApdu.{MaxApdu}
use Rattle.headline.specs.Stations.{Record, Gathering, Device}
use Rattle.history.specs.Book.{Answer, Simple, Complex, Failed}
use Rattle.npdu.specs.declared.mac.Station.{Station}
use Rattle.headline_bacnet.specs.Bodies.{head_of}
use Rattle.object_model.specs.Objects.{PlainTable}
use Rattle.server_tsm.specs.remembered.declared.record.Record as remembered
use Rattle.server_tsm.specs.remembered.declared.record.RememberedAnswer.{RememberedAnswer}
use Rattle.server_tsm.specs.remembered.declared.record.RememberedAnswer.TheVariants as kept
use Rattle.server_tsm.specs.Server.{ServerTsmState}
use Rattle.headline_bacnet.specs.server_answers.declared.gathering.RequestGathering as gathered

-- an answer that is remembered, or none where an Abort stands in its place (5.4.5.3)
abbrev pub safe_answer : {A : Type 0} → RememberedAnswer A → Option Answer
safe_answer kept.Simple = Some Simple
safe_answer (kept.Complex octets) = Some (Complex octets)
safe_answer (kept.Error contents) = Some (Failed contents)
safe_answer (kept.Abort reason) = None

-- what is remembered of a request, without its way and what goes on sending it (5.4.5.3)
abbrev pub safe_record : {A : Type 0} → remembered.Record A → Record Station
safe_record r =
    record {
      client = r.asker.station;
      invoke_id = r.asker.invoke_id;
      answer = safe_answer r.answer;
      room = r.chunk;
      moment = r.at;
    }

-- the segments of a request so far, without its window and what is due (5.4.5.2)
abbrev pub safe_gathering : {A : Type 0} → MaxApdu → gathered.RequestGathering A → Gathering Station
safe_gathering own a =
    record {
      client = a.asked.asker.station;
      invoke_id = a.asked.asker.invoke_id;
      head = head_of own a.asked.limits a.asked.service;
      pieces = a.receiver.next;
      got = a.receiver.octets;
      last = a.at;
    }

-- a server of transactions as safety sees it (5.4.5)
abbrev pub safe_device : {A : Type 0} → ServerTsmState A → Device Station (PlainTable A)
safe_device st =
    record {
      records = map safe_record st.records;
      gatherings = map (safe_gathering st.max_apdu) st.gatherings;
      table = st.table;
      deaf_until = st.quiet_until;
    }
