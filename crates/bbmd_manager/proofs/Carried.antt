-- To whom an NPDU is carried on.
use Rattle.std.proofs.Common.{◌≡◌, ℕ, Bool, true, false, List, [], refl}
use Rattle.std.specs.Prelude.{unwrap_or}
use Rattle.bvll.specs.declared.address.Address.{Address}
use Rattle.bvll.specs.Datagram as bvll
use Rattle.bbmd_tables.specs.Tables.{all_but, listed}
use Rattle.bbmd_manager.specs.State.{ManagerState}
use Rattle.bbmd_manager.specs.Manager.{carried_to, distributed, from_one}

pub carried_from_one : (b : Bool) (to : List Address) (origin : Address) (npdu : List ℕ) →
    unwrap_or (listed b to) [] ≡ carried_to (from_one b (record { to = to; what = bvll.forwarded origin npdu }))
carried_from_one true to origin npdu = refl
carried_from_one false to origin npdu = refl

pub carried_distributed : (b : Bool) (now : ℕ) (from : Address) (st : ManagerState) (npdu : List ℕ) →
    unwrap_or (listed b (all_but now from st.tables)) [] ≡ carried_to (distributed b now from st npdu)
carried_distributed true now from st npdu = refl
carried_distributed false now from st npdu = refl

pub ruleset carried_rules = (carried_from_one, carried_distributed)
