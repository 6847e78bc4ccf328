use Rattle.std.proofs.Common.{◌≡◌, ◌∙◌, sym, ap, arith}
use Rattle.std.proofs.lemmas.Grind.{common_steps}
use Rattle.std.specs.Prelude.{Some, None, slice_get, option_copied}
use Rattle.remembered.proofs.Keeping.{listed_at, and_get}
use Rattle.remembered.proofs.slab_records.SlabRecordsRecords.at.Goals as goal

pub returns-in_err-key : goal.returns-in_err-key
returns-in_err-key g c =
    let key : None ≡ slice_get c.self.inside.order.items c.args.place = grind (arith, common_steps) in
    let none : option_copied c.from_residual.result ≡ None = grind (arith, common_steps) in
    record {
      there = none ∙ ap (and_get c.self.inside.held.slots) {x = None} key
          ∙ sym (listed_at c.self.inside.held.slots c.self.inside.order.items c.args.place c.self.invariant.filled)
          ∙ ap (λ rs. slice_get rs c.args.place) c.self.view_is;
    }

pub returns : goal.returns
returns g c =
    let key : Some c.in_ok-key.key ≡ slice_get c.self.inside.order.items c.args.place = grind (arith, common_steps) in
    record {
      there = c.get.ensures ∙ ap (and_get c.self.inside.held.slots) {x = Some c.in_ok-key.key} key
          ∙ sym (listed_at c.self.inside.held.slots c.self.inside.order.items c.args.place c.self.invariant.filled)
          ∙ ap (λ rs. slice_get rs c.args.place) c.self.view_is;
    }
