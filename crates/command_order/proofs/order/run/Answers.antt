use Rattle.command_order.proofs.CommandLaws.{adds, adds_last}
use Rattle.command_order.proofs.order.run.Goals as goal

pub returns : goal.returns
returns c =
    let pcap = c.written_capture.ensures in
    let capture = adds c.in_ok-arg.ensures pcap.own c.in_ok-live.ensures pcap.rule in
    let json = adds c.in_ok-arg-2.ensures c.json.ensures.own capture c.json.ensures.rule in
    adds_last c.arg-3.result _ _ c.arg-3.ensures c.names.ensures.own json c.names.ensures.rule
