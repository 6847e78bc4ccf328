-- The client after a change of its open transactions, whose moment is set last.
use Rattle.std.proofs.Common.{◌≡◌, ◌∙◌, ap, ℕ, List}
use Rattle.client_tsm.specs.Client.{ClientTsmState, with_open}
use Rattle.client_tsm.specs.Open.{Open}

pub set_then : {A : Type 0} (now : ℕ) (inside st mid : ClientTsmState A) (new : List (Open A)) (f : List (Open A) → List (Open A)) → inside ≡ st →
    new ≡ f inside.open_ones → mid ≡ record inside { open_ones = new } → record mid { moment = now } ≡ with_open now (f st.open_ones) st
set_then now inside st mid new f same changed is =
    ap (λ (s : ClientTsmState _). record s { moment = now }) is
    ∙ ap (λ (os : List (Open _)). with_open now os inside) changed
    ∙ ap (λ (s : ClientTsmState _). with_open now (f s.open_ones) s) same
