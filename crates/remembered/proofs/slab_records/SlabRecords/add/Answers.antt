use Rattle.std.proofs.Common.{◌≡◌, ◌∙◌, ap, arith, ◌++◌, ◌∷◌, [], List}
use Rattle.std.specs.Prelude.{None}
use Rattle.std.proofs.lemmas.Grind.{common_steps}
use Rattle.remembered.proofs.Keeping.{kept_pushed, listed_pushed}
use Rattle.remembered.specs.Keeping.{listed, at}
use Rattle.remembered.proofs.slab_records.SlabRecords.add.Goals as goal

pub invariant_of-self-2 : goal.invariant_of-self-2
invariant_of-self-2 g c =
    let held = c.self.inside.held.slots in
    let ks = c.self.inside.order.items in
    let slots : c.reserve.new.self.slots ≡ held = grind (arith, common_steps, c.in_ok-reserve.ensures.rest_kept) in
    let order : c.push_back.new.self.items ≡ ks ++ c.vacant_key-key.result ∷ [] = grind (arith, common_steps) in
    let key : c.insert_reserved.result ≡ c.vacant_key-key.result = grind (arith, common_steps) in
    let none : at held c.vacant_key-key.result ≡ None = grind (arith, common_steps, c.insert_reserved.ensures.was_vacant) in
    rw (order) (kept_pushed held c.insert_reserved.new.self.slots c.self.inside.keys c.insert.new.self ks c.vacant_key-key.result c.args.entry c.self.invariant
    none
    (record {
      changed = grind (arith, common_steps, c.insert_reserved.ensures.updates.changed);
      others =
          λ j e. grind (arith, common_steps, c.insert_reserved.ensures.updates.others j);
    })
    c.in_ok-insert.ensures.set)

pub returns-clause-added : goal.returns-clause-added
returns-clause-added g c =
    let held = c.self.inside.held.slots in
    let ks = c.self.inside.order.items in
    let slots : c.reserve.new.self.slots ≡ held = grind (arith, common_steps, c.in_ok-reserve.ensures.rest_kept) in
    let order : c.push_back.new.self.items ≡ ks ++ c.vacant_key-key.result ∷ [] = grind (arith, common_steps) in
    let key : c.insert_reserved.result ≡ c.vacant_key-key.result = grind (arith, common_steps) in
    let none : at held c.vacant_key-key.result ≡ None = grind (arith, common_steps, c.insert_reserved.ensures.was_vacant) in
    ap (listed c.insert_reserved.new.self.slots) order
    ∙ listed_pushed held c.insert_reserved.new.self.slots c.self.inside.keys ks c.vacant_key-key.result c.args.entry c.self.invariant none
    (record {
      changed = grind (arith, common_steps, c.insert_reserved.ensures.updates.changed);
      others =
          λ j e. grind (arith, common_steps, c.insert_reserved.ensures.updates.others j);
    })
    ∙ ap (λ (rs : List _). rs ++ c.args.entry ∷ []) c.self.view_is
