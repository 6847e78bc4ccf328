use Rattle.mstp_frame.specs.Frame.{frame_of}
use Rattle.mstp_frame.proofs.Spellings.{canonical_spells, spelled_if}
use Rattle.mstp_frame.proofs.frame.write_frame.Goals as goal

pub returns-clause-spelled : goal.returns-clause-spelled
returns-clause-spelled g c =
    spelled_if _ _ _ c.put_frame-put.result c.all_or_none.result c.all_or_none.ensures.all c.put_frame-put.ensures.sound
    (canonical_spells (frame_of c.args.frame.now))
