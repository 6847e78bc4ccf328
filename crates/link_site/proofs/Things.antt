-- What octets carry is what is then on its way bears.
use Rattle.std.proofs.Common.{◌≡◌, refl, ℕ, List}
use Rattle.npdu.specs.declared.mac.Mac.{Mac}
use Rattle.npdu.specs.declared.mac.Mac.TheVariants.{One, Six}
use Rattle.npdu.specs.declared.parcel.Parcel.{Parcel}
use Rattle.link_site.specs.Laws.{CarriedIsBorne, IsOnItsNetwork}

pub carried_is_borne : (A : Type 0) → CarriedIsBorne A
carried_is_borne A net (Six from) to octets stamp p = (λ carried. carried, λ borne. borne)
carried_is_borne A net (One from) to octets stamp p = (λ carried. carried, λ borne. borne)

pub is_on_its_network : (A : Type 0) → IsOnItsNetwork A
is_on_its_network A net (Six from) to octets stamp = refl
is_on_its_network A net (One from) to octets stamp = refl
