-- The longest APDU of each kind of link (9, J.1).
use Rattle.std.specs.Prelude.{◌≡◌}
use Rattle.apdu.specs.Sizes.{apdu_taken}
use Rattle.apdu.specs.declared.sizes.MaxApdu.{MaxApdu}
use Rattle.apdu.specs.declared.sizes.MaxApdu.TheVariants.{UpTo480, UpTo1476}
use Rattle.profile.specs.LinkKind.{max_apdu}
use Rattle.profile.specs.declared.link_kind.LinkKind.{LinkKind}
use Rattle.profile.specs.declared.link_kind.LinkKind.TheVariants.{BacnetIp, MsTp}

-- what a station on such a link says of the longest APDU that it takes (9, J.1, 20.1.2.5)
abbrev pub longest_apdu : LinkKind → MaxApdu
longest_apdu BacnetIp = UpTo1476
longest_apdu MsTp = UpTo480

-- it has as many octets as the link carries (9, J.1)
abbrev pub LongestIsOfLink : Type 0
LongestIsOfLink = (k : LinkKind) → apdu_taken (longest_apdu k) ≡ max_apdu k
