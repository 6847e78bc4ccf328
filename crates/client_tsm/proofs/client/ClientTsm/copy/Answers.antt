use Rattle.std.proofs.Common.{◌∙◌, sym, ap, List, [], ◌∷◌, ◌++◌}
use Rattle.std.proofs.lemmas.List.{take_all}
use Rattle.client_tsm.proofs.Places.{taken_next}
use Rattle.client_tsm.specs.Open.{Open}
use Rattle.client_tsm.proofs.client.ClientTsm.copy.Goals as goal

pub loop-transaction-preserved : goal.loop-transaction-preserved
loop-transaction-preserved g c =
    c.in_ok-push.ensures.items
    ∙ ap (λ (o : Open _). c.loop-transaction.open_ones.items ++ o ∷ []) c.in_ok-copy.ensures
    ∙ ap (λ (os : List (Open _)). os ++ c.transaction-item.result ∷ []) c.loop-transaction.invariant
    ∙ sym (taken_next c.deref-transaction-items.result.now c.loop-transaction.transaction-index c.transaction-item.result c.loop-transaction-test.true
    c.transaction-item.is)

pub returns : goal.returns
returns g c =
    ap (λ (os : List (Open _)). record {
      accepts = c.self.inside.accepts;
      next = c.self.inside.next;
      free_from = c.self.inside.free_from;
      open_ones =
          os;
      moment = c.self.inside.moment;
    })
    (c.loop-transaction.invariant ∙ take_all c.loop-transaction.transaction-index c.deref-transaction-items.result.now c.loop-transaction-test.false
    ∙ c.deref-transaction-items.ensures.value)
    ∙ c.self.view_is
