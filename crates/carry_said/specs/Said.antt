-- What is inside a message was said: it stands in the book.
use Rattle.std.specs.Prelude.{◌≡◌, ℕ, List}
use Rattle.std.specs.List.{AllByRecursion}
use Rattle.apdu.specs.Apdu.{PlainApdu, Spells}
use Rattle.apdu.specs.declared.sizes.MaxApdu.{MaxApdu}
use Rattle.headline.specs.Honest as honest
use Rattle.headline_site.specs.headline_bacnet.Bodies.{Says}
use Rattle.history.specs.Book.{Book, Message}
use Rattle.history.specs.Lists.{Has}
use Rattle.inside.specs.Inside as inside
use Rattle.inside.specs.Inside.{AreInside, Covers, HasInside, Inside, Reaches, Said}
use Rattle.npdu.specs.declared.mac.Mac.{Mac}
use Rattle.npdu.specs.declared.mac.Station.{Station}
use Rattle.npdu.specs.declared.parcel.Parcel.{Parcel}
use Rattle.primitives.specs.declared.plain_data.Reply.{Reply}
use Rattle.primitives.specs.declared.plain_data.Request.{Request}
use Rattle.unitdata.specs.Hearing.{Heard}

-- the book of all that was said by the stations of a site
abbrev pub ObjectBook : Type 0 → Type 0
ObjectBook A = Book Station (Request A) (Reply A)

-- this was said at the moment of this stamp, by whom it comes from: a message of the book is for each station that it
-- is for, and says to it what the APDU does (6.3, 20.1). own: the greatest APDU of each station (12.11)
pub record IsSaid {A : Type 0} (own : Station → MaxApdu) (b : ObjectBook A) (i : Inside) (stamp : ℕ) : Type 0 where
  pub message : Message Station
  pub there : Has b.said message
  pub stamp_is : message.stamp ≡ stamp
  pub sayer : message.from ≡ i.source
  pub covers : (x : Station) → Covers i.reach x → honest.Covers message.to x
  pub says : (x : Station) (a : PlainApdu) → Covers i.reach x → Spells i.apdu a → Says (own x) a message.body

-- whatever is inside a parcel on a network was said, when the parcel was
pub record CarriesSaid {A : Type 0} (own : Station → MaxApdu) (b : ObjectBook A) (net : ℕ) (p : Parcel A) :
    Type 0 where
  pub said : (i : Inside) → HasInside net p.from p.to p.npdu i → IsSaid own b i p.stamp

-- there is something inside a parcel on a network, so that what it says can be told octet for octet
pub record HasSomething {A : Type 0} (net : ℕ) (p : Parcel A) : Type 0 where
  pub inside : Inside
  pub has : HasInside net p.from p.to p.npdu inside

-- there is something inside each of these
pub record HasInsides {A : Type 0} (net : ℕ) (ps : List (Parcel A)) : Type 0 where
  pub said : List inside.Said
  pub are : AreInside net ps said

-- a station says something in this parcel at this moment: it is the source of whatever is inside (6.2.2)
pub record IsSaying {A : Type 0} (x : Station) (now : ℕ) (p : Parcel A) : Type 0 where
  pub something : HasSomething x.net p
  pub source : (i : Inside) → HasInside x.net p.from p.to p.npdu i → i.source ≡ x
  pub stamp : p.stamp ≡ now

-- it says something in each of these
pub record IsSayingEach {A : Type 0} (x : Station) (now : ℕ) (ps : List (Parcel A)) : Type 0 where
  pub insides : HasInsides x.net ps
  pub each : AllByRecursion (IsSaying x now) ps

-- whatever is inside a parcel on a network is among what was said, with its stamp
pub record IsAmong {A : Type 0} (l : List Said) (net : ℕ) (p : Parcel A) : Type 0 where
  pub among : (i : Inside) → HasInside net p.from p.to p.npdu i → Has l (record { inside = i; stamp = p.stamp })

-- an APDU that a station hears of a parcel was said, octet for octet, by the station that is named as its source, for
-- each station that the parcel reaches, when the parcel was (6.2, 6.3)
pub record WasSaid {A : Type 0} (l : List Said) (net : ℕ) (p : Parcel A) (h : Heard) (a : PlainApdu) : Type 0 where
  pub said : Said
  pub there : Has l said
  pub stamp : said.stamp ≡ p.stamp
  pub has : HasInside net p.from p.to p.npdu said.inside
  pub source : said.inside.source ≡ h.station
  pub spelled : Spells said.inside.apdu a
  pub covers : (mac : Mac) → Reaches p.to mac → Covers said.inside.reach (record { net = net; mac = mac })
