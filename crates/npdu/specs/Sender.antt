-- Who says a message (6.2.2).
use Rattle.std.specs.Prelude.{ℕ, Option, Some, None}
use Rattle.npdu.specs.Header.{PlainSource}
use Rattle.npdu.specs.Mac.{mac_of, station_at}
use Rattle.npdu.specs.declared.mac.Mac.{Mac}
use Rattle.npdu.specs.declared.mac.Station.{Station}

-- who says a message: the station that SNET and SADR name, else the one on this network that sent it (6.2.2)
abbrev pub sender : ℕ → Mac → Option PlainSource → Option Station
sender net from None = station_at net (Some from)
sender net from (Some s) = station_at s.net (mac_of s.mac)
