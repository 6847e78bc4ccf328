-- What is read of what a client said says what it said.
use Rattle.std.proofs.Common.{refl, false}
use Rattle.apdu.specs.Apdu.{confirmed, segment_ack}
use Rattle.apdu.specs.Sizes.{apdu_code}
use Rattle.client.specs.client_tsm.declared.said.ClientSaid.TheVariants as said
use Rattle.headline_bacnet.proofs.Reading.{read_again}
use Rattle.headline_client.specs.Laws.{SaidIsHeard}

pub said_is_heard : {A : Type 0} → SaidIsHeard A
said_is_heard own (said.Request way accepts segment invoke service octets) a can s =
    read_again own (confirmed segment accepts.segmented accepts.max_segments (apdu_code accepts.max_apdu) invoke service octets) a _ can tt refl s
said_is_heard own (said.SegmentAck way negative invoke number window) a can s =
    read_again own (segment_ack negative false invoke number window) a _ tt tt refl s
