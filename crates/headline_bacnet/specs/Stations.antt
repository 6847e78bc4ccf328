-- The longest APDU of each station: that of the kind of link that its address is of.
use Rattle.apdu.specs.declared.sizes.MaxApdu.{MaxApdu}
use Rattle.npdu.specs.declared.mac.Mac.{Mac}
use Rattle.npdu.specs.declared.mac.Mac.TheVariants.{One, Six}
use Rattle.npdu.specs.declared.mac.Station.{Station}
use Rattle.profile.specs.declared.link_kind.LinkKind.{LinkKind}
use Rattle.profile.specs.declared.link_kind.LinkKind.TheVariants.{BacnetIp, MsTp}
use Rattle.unitdata.specs.Sizes.{longest_apdu}

-- an address of one octet is of MS/TP, one of six of BACnet/IP (Table 6-2)
abbrev pub kind_of : Mac → LinkKind
kind_of (One octet) = MsTp
kind_of (Six octets) = BacnetIp

-- the longest APDU that a station takes: 480 octets on MS/TP, 1476 on BACnet/IP (9, J.1, 12.11)
abbrev pub longest_of : Station → MaxApdu
longest_of x = longest_apdu (kind_of x.mac)
