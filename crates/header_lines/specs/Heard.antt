-- What the code prints, seen without where its octets lie.
use Rattle.std.specs.Prelude.{Option, option_map}
use Rattle.npdu.specs.Header.{PlainDestination, PlainSource, destination_of, source_of}
use Rattle.npdu.specs.declared.view.Destination.{Destination}
use Rattle.npdu.specs.declared.view.Source.{Source}

-- a destination of a header
abbrev pub way_of : Option Destination → Option PlainDestination
way_of way = option_map destination_of way

-- a source of a header
abbrev pub sender_of : Option Source → Option PlainSource
sender_of source = option_map source_of source
