-- What a server's link carries stays as it is.
use Rattle.std.proofs.Common.{◌≡◌, refl, ℕ}
use Rattle.server_tsm.specs.Server.{ServerTsmState, committed}
use Rattle.server_tsm.specs.server_answers.Plan.{ServerChange, Stays, Says, Gathers, GivesUp, Executes, Wakes}

pub same_size : {A : Type 0} (now : ℕ) (change : ServerChange A) (st : ServerTsmState A) → (committed now change st).max_apdu ≡ st.max_apdu
same_size now Stays st = refl
same_size now (Says saying) st = refl
same_size now (Gathers asked segment octets) st = refl
same_size now (GivesUp asker) st = refl
same_size now (Executes request r) st = refl
same_size now (Wakes sayings) st = refl

pub ruleset size_rules = (same_size)
