use Rattle.std.proofs.Common.{ap, ◌∙◌, ◌++◌, ◌∷◌, [], arith}
use Rattle.mstp_frame.specs.Front.{octets_in}
use Rattle.mstp_frame.proofs.Taking.{appended, second_ready}
use Rattle.mstp_frame.proofs.buffer.Buffer.take_second.Goals as goal

pub returns-then-octet : goal.returns-then-octet
returns-then-octet c =
    let old = c.args.self.now in
    λ rest. appended old c.append.new.self (c.args.octet ∷ rest) 1 c.requires.kept c.append.ensures.is_whole c.append.ensures.octets (omega arith) (omega arith)
    (second_ready old c.append.new.self c.requires.ready c.requires.kept c.requires.one c.append.ensures.is_whole c.append.ensures.len
    (c.append.ensures.octets ∙ ap (λ o. octets_in old ++ o ∷ []) c.if-octet.true))
