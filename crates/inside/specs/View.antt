-- What the code finds inside a message, wherever its octets lie.
use Rattle.inside.specs.Inside.{Inside}
use Rattle.inside.specs.declared.view.InsideView.{InsideView}

-- the same, with the octets of its APDU
abbrev pub inside_in : InsideView → Inside
inside_in v = record { source = v.source; reach = v.reach; apdu = v.apdu.now }
