-- What the code hears, seen without where its octets lie.
use Rattle.apdu.specs.Apdu.{apdu_of, HasNamedNumbers}
use Rattle.unitdata.specs.Hearing as plain
use Rattle.unitdata.specs.declared.hearing.HeardContent.{HeardContent}
use Rattle.unitdata.specs.declared.hearing.HeardContent.TheVariants.{Apdu, Rejected}
use Rattle.unitdata.specs.declared.hearing.Heard.{Heard}

-- the content of a message
abbrev pub content_of : HeardContent → plain.HeardContent
content_of (Apdu apdu) = plain.says (apdu_of apdu)
content_of (Rejected rejected) = plain.refuses rejected

-- the whole message
abbrev pub heard_of : Heard → plain.Heard
heard_of h = record { station = h.station; way = h.way; alone = h.alone; content = content_of h.content }

-- the numbers of an APDU go by their names where they have one (18, 20.1.2.5)
abbrev pub IsNamed : HeardContent → Type 0
IsNamed (Apdu apdu) = HasNamedNumbers apdu
IsNamed (Rejected rejected) = Unit {0}
