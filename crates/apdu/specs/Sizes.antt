-- The codes of what a requester can take (20.1.2.4, 20.1.2.5).
use Rattle.std.specs.Prelude.{◌≡◌, ℕ, ◌<◌}
use Rattle.apdu.specs.declared.sizes.MaxSegments.{MaxSegments}
use Rattle.apdu.specs.declared.sizes.MaxSegments.TheVariants.{Unspecified, Two, Four, Eight, Sixteen, ThirtyTwo}
use Rattle.apdu.specs.declared.sizes.MaxSegments.TheVariants.{SixtyFour, More}
use Rattle.apdu.specs.declared.sizes.MaxApdu.{MaxApdu}
use Rattle.apdu.specs.declared.sizes.MaxApdu.TheVariants.{UpTo50, UpTo128, UpTo206, UpTo480, UpTo1024, UpTo1476}
use Rattle.apdu.specs.declared.sizes.MaxApdu.TheVariants.{Reserved}

-- bits 6 to 4 of a request's second octet (20.1.2.4)
abbrev pub segments_code : MaxSegments → ℕ
segments_code Unspecified = 0
segments_code Two = 1
segments_code Four = 2
segments_code Eight = 3
segments_code Sixteen = 4
segments_code ThirtyTwo = 5
segments_code SixtyFour = 6
segments_code More = 7

-- how many segments are sent at most; this product sends no more than 64 (20.1.2.4)
abbrev pub segments_taken : MaxSegments → ℕ
segments_taken Two = 2
segments_taken Four = 4
segments_taken Eight = 8
segments_taken Sixteen = 16
segments_taken ThirtyTwo = 32
segments_taken m = 64

-- bits 3 to 0 of a request's second octet (20.1.2.5)
abbrev pub apdu_code : MaxApdu → ℕ
apdu_code UpTo50 = 0
apdu_code UpTo128 = 1
apdu_code UpTo206 = 2
apdu_code UpTo480 = 3
apdu_code UpTo1024 = 4
apdu_code UpTo1476 = 5
apdu_code (Reserved n) = n

-- how many octets are sent at most, the least of all for a reserved code (20.1.2.5)
abbrev pub apdu_taken : MaxApdu → ℕ
apdu_taken UpTo128 = 128
apdu_taken UpTo206 = 206
apdu_taken UpTo480 = 480
apdu_taken UpTo1024 = 1024
apdu_taken UpTo1476 = 1476
apdu_taken m = 50

-- a size stands under its name where it has one (20.1.2.5)
abbrev pub IsNamedSize : MaxApdu → Type 0
IsNamedSize (Reserved n) = 5 < n
IsNamedSize m = Unit {0}

-- numbers of segments of one code are one (20.1.2.4)
abbrev pub OneCount : Type 0
OneCount = (m n : MaxSegments) → segments_code m ≡ segments_code n → m ≡ n

-- sizes of one code that stand under their names are one (20.1.2.5)
abbrev pub OneSize : Type 0
OneSize = (m n : MaxApdu) → apdu_code m ≡ apdu_code n → IsNamedSize m → IsNamedSize n → m ≡ n
