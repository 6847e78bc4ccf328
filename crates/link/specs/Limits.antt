-- What a network carries, by the kind of its addresses.
use Rattle.std.specs.Prelude.{ℕ, nat_lt, Bool, true, false}
use Rattle.npdu.specs.declared.mac.Mac.{Mac}
use Rattle.npdu.specs.declared.mac.Mac.TheVariants.{One, Six}
use Rattle.npdu.specs.declared.mac.Target.{Target}
use Rattle.npdu.specs.declared.mac.Target.TheVariants as target
use Rattle.profile.specs.LinkKind.{max_npdu}
use Rattle.profile.specs.declared.link_kind.LinkKind.TheVariants.{BacnetIp, MsTp}

-- the octets of an NPDU at most: addresses of MS/TP have one octet, those of BACnet/IP six (Table 6-2, 9, J)
abbrev pub max_npdu_at : Mac → ℕ
max_npdu_at (One octet) = max_npdu MsTp
max_npdu_at (Six octets) = max_npdu BacnetIp

-- a target on a network with such an address: all, or an address of its kind; masters of MS/TP are 0 to 127 (9.1)
abbrev pub is_target : Mac → Target → Bool
is_target mac target.All = true
is_target (Six own) (target.One (Six octets)) = true
is_target (One own) (target.One (One octet)) = nat_lt octet 128
is_target mac (target.One other) = false
