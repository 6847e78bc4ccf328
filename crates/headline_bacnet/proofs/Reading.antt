-- What is read of the shortest octets of an APDU says what it says.
use Rattle.std.proofs.Common.{subst}
use Rattle.apdu.proofs.ApduLaws.{one_apdu}
use Rattle.apdu.proofs.CanonicalLaws.{canonical_spells}
use Rattle.apdu.specs.Apdu.{PlainApdu, Spells}
use Rattle.apdu.specs.ApduWriting.{CanBeWritten, HasNumbers, canonical}
use Rattle.apdu.specs.declared.sizes.MaxApdu.{MaxApdu}
use Rattle.headline_bacnet.specs.Bodies.{Says}
use Rattle.history.specs.Book.{Body}

-- what an APDU says, where its shortest octets are read
pub read_again : (own : MaxApdu) (y a : PlainApdu) (body : Body) → CanBeWritten y → HasNumbers y → Says own y body → Spells (canonical y) a → Says own a body
read_again own y a body can has says s = subst (λ (z : PlainApdu). Says own z body) (one_apdu (canonical y) y a (canonical_spells y can has) s) says
