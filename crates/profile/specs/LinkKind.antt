-- How long a message may be on each kind of link (9, J).
use Rattle.std.specs.Prelude.{ℕ}
use Rattle.profile.specs.Limits.{MAX_FRAME_DATA_OCTETS}
use Rattle.profile.specs.declared.link_kind.LinkKind.{LinkKind}
use Rattle.profile.specs.declared.link_kind.LinkKind.TheVariants.{BacnetIp, MsTp}

-- the longest APDU that a station on this kind of link takes, in octets (9, J)
abbrev pub max_apdu : LinkKind → ℕ
max_apdu BacnetIp = 1476
max_apdu MsTp = 480

-- the longest NPDU on this kind of link, in octets (9, J)
abbrev pub max_npdu : LinkKind → ℕ
max_npdu BacnetIp = 1497
max_npdu MsTp = MAX_FRAME_DATA_OCTETS
