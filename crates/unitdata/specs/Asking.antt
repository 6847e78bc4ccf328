-- Whether an unconfirmed request asks who a device is (16.10.2).
use Rattle.std.specs.Prelude.{◌≡◌, ℕ, List, Option}
use Rattle.apdu.specs.Unconfirmed.{Covers, SpellsWhoIs, service_number}
use Rattle.apdu.specs.declared.unconfirmed.Limits.{Limits}
use Rattle.apdu.specs.declared.unconfirmed.UnconfirmedService.TheVariants.{WhoIs}

-- an unconfirmed request is a Who-Is that asks for the device of this instance (16.10.2)
pub record AsksWho (instance service : ℕ) (octets : List ℕ) : Type 0 where
  pub limits : Option Limits
  pub who_is : service ≡ service_number WhoIs
  pub spelled : SpellsWhoIs octets limits
  pub covered : Covers limits instance

-- an unconfirmed request is no Who-Is, or none that asks for the device of this instance
pub record AsksOther (instance service : ℕ) (octets : List ℕ) : Type 0 where
  pub none : AsksWho instance service octets → ⊥
