use Rattle.std.proofs.Common.{◌≡◌, ◌∙◌, sym, ap, arith}
use Rattle.std.proofs.lemmas.Grind.{common_steps}
use Rattle.std.specs.Prelude.{Some}
use Rattle.remembered.proofs.Keeping.{newest_listed, and_get}
use Rattle.remembered.specs.Records.{newest}
use Rattle.remembered.specs.Keeping.{get, key_of}
use Rattle.remembered.proofs.slab_records.SlabRecordsRecords.find.Goals as goal

pub returns : goal.returns
returns g c =
    let found = c.self.invariant.found c.args.asker in
    let got : c.get.result ≡ get c.self.inside.keys c.args.asker = c.get.ensures.value in
    let key : Some c.in_ok-key.key ≡ key_of c.self.inside.held.slots c.args.asker c.self.inside.order.items = grind (arith, common_steps, found, got) in
    record {
      found = c.get-2.ensures ∙ ap (and_get c.self.inside.held.slots) {x = Some c.in_ok-key.key} key
          ∙ sym (newest_listed c.self.inside.held.slots c.args.asker c.self.inside.order.items) ∙ ap (newest c.args.asker) c.self.view_is;
    }
