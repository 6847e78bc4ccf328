-- Laws: what is put out as the octets of a frame is that frame and no other.
use Rattle.std.proofs.Common.{◌≡◌, ◌∙◌, refl, sym, ap, arith, ℕ, ◌-◌, List, [], ◌∷◌, ◌++◌, length, take, length-append}
use Rattle.std.proofs.lemmas.List.{take_at}
use Rattle.mstp_frame.proofs.Spellings.{frame_is}
use Rattle.mstp_frame.specs.Frame.{PlainFrame, Spells, canonical, checked}
use Rattle.mstp_frame.specs.Front.{frame_at}

before_two : (xs ys : List ℕ) → length ys ≡ 2 → take (length (xs ++ ys) - 2) (xs ++ ys) ≡ xs
before_two xs ys two =
    let long : length (xs ++ ys) - 2 ≡ length xs = omega (arith, length-append xs ys, two) in
    ap (λ n. take n (xs ++ ys)) long ∙ take_at xs ys (length xs) refl

-- data are what stands before their two check octets
checked_data : (contents : List ℕ) → take (length (checked contents) - 2) (checked contents) ≡ contents
checked_data [] = refl
checked_data (octet ∷ more) = before_two (octet ∷ more) _ refl

-- the fields of a frame stand in its canonical octets, whatever they are
canonical_at : (f : PlainFrame) → frame_at (canonical f) ≡ f
canonical_at f =
    let long : length (canonical f) - 10 ≡ length (checked f.contents) - 2 = omega arith in
    ap (λ c. record { frame_type = f.frame_type; destination = f.destination; source = f.source; contents = c })
    (ap (λ n. take n (checked f.contents)) long ∙ checked_data f.contents)

-- canonical octets spell no other frame (9.3)
pub canonical_once : (f g : PlainFrame) → Spells (canonical f) g → f ≡ g
canonical_once f g s = sym (canonical_at f) ∙ frame_is (canonical f) g s
