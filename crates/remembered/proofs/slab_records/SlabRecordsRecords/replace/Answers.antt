use Rattle.std.proofs.Common.{◌≡◌, ◌∙◌, sym, ap, arith}
use Rattle.std.proofs.lemmas.Grind.{common_steps}
use Rattle.std.specs.Option.{option_copied_mut}
use Rattle.std.specs.Prelude.{Some, None, slice_set}
use Rattle.remembered.proofs.Keeping.{kept_sent, listed_sent, not_sent, newest_listed, and_get, updated_set}
use Rattle.remembered.specs.Records.{newest, said_again, said_on}
use Rattle.remembered.specs.Keeping.{at, get, key_of, listed}
use Rattle.remembered.proofs.slab_records.SlabRecordsRecords.replace.Goals as goal

pub invariant_of-self : goal.invariant_of-self
invariant_of-self g c = c.self.invariant

pub returns-in_default : goal.returns-in_default
returns-in_default g c =
    record {
      replaced =
          let got : c.get.result ≡ get c.self.inside.keys c.args.asker = c.get.ensures.value in
          let key : key_of c.self.inside.held.slots c.args.asker c.self.inside.order.items ≡ None =
          sym (c.self.invariant.found c.args.asker) ∙ grind (arith, common_steps, got) in
          let none : newest c.args.asker (listed c.self.inside.held.slots c.self.inside.order.items) ≡ None =
          newest_listed c.self.inside.held.slots c.args.asker c.self.inside.order.items ∙ ap (and_get c.self.inside.held.slots) key in
          sym c.self.view_is ∙ sym (not_sent c.args.asker c.args.way c.args.sending (listed c.self.inside.held.slots c.self.inside.order.items) none)
          ∙ ap (said_again c.args.asker c.args.way c.args.sending) c.self.view_is;
    }

pub returns-in_default-get_mut : goal.returns-in_default-get_mut
returns-in_default-get_mut g c =
    record {
      replaced =
          let key : key_of c.self.inside.held.slots c.args.asker c.self.inside.order.items ≡ Some c.in-Some.key =
          sym (c.self.invariant.found c.args.asker) ∙ sym c.in-Some.ensures.value in
          let gone : at c.self.inside.held.slots c.in-Some.key ≡ None =
          sym c.get_mut.ensures.value ∙ ap (λ r. option_copied_mut r) c.in_default-get_mut.is in
          let none : newest c.args.asker (listed c.self.inside.held.slots c.self.inside.order.items) ≡ None =
          newest_listed c.self.inside.held.slots c.args.asker c.self.inside.order.items ∙ ap (and_get c.self.inside.held.slots) key ∙ gone in
          sym (not_sent c.args.asker c.args.way c.args.sending (listed c.self.inside.held.slots c.self.inside.order.items) none)
          ∙ ap (said_again c.args.asker c.args.way c.args.sending) c.self.view_is;
    }

pub invariant_of-self-2 : goal.invariant_of-self-2
invariant_of-self-2 g c =
    let held = c.self.inside.held.slots in
    let entry = c.in-Some-get_mut.entry.now in
    let there : at held c.in-Some.key ≡ Some entry = sym c.get_mut.ensures.value ∙ ap (λ r. option_copied_mut r) c.in-Some-get_mut.is in
    kept_sent held (slice_set held c.in-Some.key (Some (said_on c.args.way c.args.sending entry))) c.self.inside.keys c.self.inside.order.items c.in-Some.key
    c.args.way c.args.sending entry c.self.invariant there (updated_set held c.in-Some.key entry (said_on c.args.way c.args.sending entry) there)

pub returns : goal.returns
returns g c =
    record {
      replaced =
          let held = c.self.inside.held.slots in
          let entry = c.in-Some-get_mut.entry.now in
          let there : at held c.in-Some.key ≡ Some entry = sym c.get_mut.ensures.value ∙ ap (λ r. option_copied_mut r) c.in-Some-get_mut.is in
          listed_sent held (slice_set held c.in-Some.key (Some (said_on c.args.way c.args.sending entry))) c.args.asker c.in-Some.key c.args.way c.args.sending
          entry there (updated_set held c.in-Some.key entry (said_on c.args.way c.args.sending entry) there)
          c.self.inside.order.items c.self.invariant.apart c.self.invariant.filled
          (sym (c.self.invariant.found c.args.asker) ∙ sym c.in-Some.ensures.value)
          ∙ ap (said_again c.args.asker c.args.way c.args.sending) c.self.view_is;
    }
