-- What is asked of the network: that what it brings to a station was said (6.1).
use Rattle.std.specs.Prelude.{◌≡◌, ℕ, List}
use Rattle.apdu.specs.Apdu.{PlainApdu}
use Rattle.apdu.specs.declared.sizes.MaxApdu.{MaxApdu}
use Rattle.headline.specs.Honest.{IsHeard}
use Rattle.history.specs.Book.{Book, Message}
use Rattle.npdu.specs.declared.mac.Mac.{Mac}
use Rattle.npdu.specs.declared.mac.Station.{Station}
use Rattle.npdu.specs.declared.mac.Target.{Target}
use Rattle.primitives.specs.declared.plain_data.Reply.{Reply}
use Rattle.primitives.specs.declared.plain_data.Request.{Request}
use Rattle.unitdata.specs.Hearing.{Brings, Heard, says}
use Rattle.headline_bacnet.specs.Bodies.{Says}

-- an APDU that a station hears was said to it by the station that it comes from (6.1). own: the greatest APDU of the
-- hearer (12.11)
pub record WasSaid {A : Type 0} (own : MaxApdu) (b : Book Station (Request A) (Reply A)) (hearer from : Station)
    (apdu : PlainApdu) : Type 0 where
  pub message : Message Station
  pub heard : IsHeard b hearer message
  pub from_is : message.from ≡ from
  pub body : Says own apdu message.body

-- whatever APDU an NPDU brings to a station was said to it (6.1, 6.5.2)
abbrev pub BringsWhatWasSaid : {A : Type 0} → (own : MaxApdu) → Book Station (Request A) (Reply A) →
    (hearer : Station) → Mac → Target → List ℕ → Type 0
BringsWhatWasSaid own b hearer from to npdu = (h : Heard) (apdu : PlainApdu) → Brings hearer.net from to npdu h →
    h.content ≡ says apdu → WasSaid own b hearer h.station apdu
