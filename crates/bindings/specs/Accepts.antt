-- What a client takes of an answer (20.1.2.3 to 20.1.2.5).
use Rattle.std.specs.Prelude.{Bool, true, false}
use Rattle.apdu.specs.declared.sizes.MaxApdu.{MaxApdu}
use Rattle.apdu.specs.declared.sizes.MaxSegments.{MaxSegments}
use Rattle.apdu.specs.declared.sizes.MaxSegments.TheVariants.{SixtyFour, Unspecified}

-- whether an answer may come in segments, how many it may have, and how many octets an APDU may have
pub record PlainAccepts : Type 0 where
  pub segmented : Bool
  pub max_segments : MaxSegments
  pub max_apdu : MaxApdu

-- a client takes 64 segments, or none at all
abbrev pub accepts_of : Bool → MaxApdu → PlainAccepts
accepts_of true max_apdu = record { segmented = true; max_segments = SixtyFour; max_apdu = max_apdu }
accepts_of false max_apdu = record { segmented = false; max_segments = Unspecified; max_apdu = max_apdu }
