-- What says nothing to a client comes to nothing.
use Rattle.std.proofs.Common.{◌≡◌, refl, subst, sym, None}
use Rattle.client_tsm.specs.Hearing.{Message, Taking, asked_told, nothing, quiet}
use Rattle.client_tsm.specs.Steps.{IsFinished}
use Rattle.client_tsm.specs.declared.plan.ClientTsmChange.TheVariants.{Stays}
use Rattle.client_tsm.specs.declared.plan.ClientTsmPlan.{ClientTsmPlan}

pub nothing_told : {A : Type 0} (t : Taking A) (m : Message A) (plan : ClientTsmPlan A) → m ≡ nothing → plan ≡ quiet Stays →
    IsFinished (asked_told t m) plan
nothing_told {A} t m plan none is =
    subst (λ (x : Message A). IsFinished (asked_told t x) plan) (sym none) (record { found = None; means = refl; is = is })
