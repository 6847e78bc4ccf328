-- Octets spell one frame, and a frame has one spelling.
use Rattle.std.proofs.Common.{◌≡◌, ℕ, zero, suc, ◌-◌, ◌<◌, List, [], ◌∷◌, ◌++◌, length, take, drop, slice_index, refl, ap, sym, arith, ◌∙◌, length-append}
use Rattle.std.specs.Prelude.{Result, Ok, Err, OnOk, IsOk}
use Rattle.std.proofs.lemmas.Bool.{false≢true}
use Rattle.std.proofs.lemmas.List.{take_at}
use Rattle.tags.specs.Number.{AreOctets}
use Rattle.tags.proofs.OctetLists.{AreOctets-rest, AreOctets-after}
use Rattle.mstp_frame.specs.Remainder.{header_remainder, data_remainder}
use Rattle.mstp_frame.specs.Frame.{PlainFrame, header, checked, canonical, Spells, SpellsData, IsSound}
use Rattle.mstp_frame.specs.Front.{frame_at}
use Rattle.mstp_frame.proofs.Checks.{header_checks, header_check_is, data_checks, data_check_is}

AreOctets-cons : (octet : ℕ) (octets : List ℕ) → octet < 256 → AreOctets octets → AreOctets (octet ∷ octets)
AreOctets-cons octet octets lt fits zero = lt
AreOctets-cons octet octets lt fits (suc i) = fits i

AreOctets-append : (xs ys : List ℕ) → AreOctets xs → AreOctets ys → AreOctets (xs ++ ys)
AreOctets-append [] ys fits_xs fits_ys = fits_ys
AreOctets-append (x ∷ xs) ys fits_xs fits_ys = AreOctets-cons x (xs ++ ys) (fits_xs 0) (AreOctets-append xs ys (AreOctets-rest x xs fits_xs) fits_ys)

two_octets : (a b : ℕ) → a < 256 → b < 256 → AreOctets (a ∷ b ∷ [])
two_octets a b la lb = AreOctets-cons a (b ∷ []) la (AreOctets-cons b [] lb (λ i. omega arith))

checked_spells : (contents : List ℕ) → SpellsData (checked contents) contents
checked_spells [] = refl
checked_spells (octet ∷ more) = record { low = _; high = _; parts = refl; check = data_checks (octet ∷ more) }

checked_octets : (contents : List ℕ) → AreOctets contents → AreOctets (checked contents)
checked_octets [] fits = fits
checked_octets (octet ∷ more) fits = AreOctets-append (octet ∷ more) _ fits (two_octets _ _ (omega arith) (omega arith))

eight_octets : (f : PlainFrame) (check : ℕ) (behind : List ℕ) → IsSound f → check < 256 → AreOctets behind →
    AreOctets (0x55 ∷ 0xFF ∷ (header f ++ check ∷ behind))
eight_octets f check behind sound lt fits zero = omega arith
eight_octets f check behind sound lt fits (suc zero) = omega arith
eight_octets f check behind sound lt fits (suc (suc zero)) = sound.frame_type
eight_octets f check behind sound lt fits (suc (suc (suc zero))) = sound.destination
eight_octets f check behind sound lt fits (suc (suc (suc (suc zero)))) = sound.source
eight_octets f check behind sound lt fits (suc (suc (suc (suc (suc zero))))) = omega arith
eight_octets f check behind sound lt fits (suc (suc (suc (suc (suc (suc zero)))))) = omega arith
eight_octets f check behind sound lt fits (suc (suc (suc (suc (suc (suc (suc zero))))))) = lt
eight_octets f check behind sound lt fits (suc (suc (suc (suc (suc (suc (suc (suc i)))))))) = fits i

pub canonical_spells : (f : PlainFrame) → IsSound f → Spells (canonical f) f
canonical_spells f sound = record {
  check = 255 - header_remainder (header f);
  behind = checked f.contents;
  parts = refl;
  header = header_checks (header f);
  contents = checked_spells f.contents;
  size = sound.size;
  are_octets = eight_octets f (255 - header_remainder (header f)) (checked f.contents) sound (omega arith) (checked_octets f.contents sound.contents);
}

checked_is : (octets contents : List ℕ) → AreOctets octets → SpellsData octets contents → octets ≡ checked contents
checked_is octets [] fits e = e
checked_is octets (octet ∷ more) fits s =
    let last : AreOctets (s.low ∷ s.high ∷ []) = AreOctets-after octets (octet ∷ more) (s.low ∷ s.high ∷ []) s.parts fits in
    let check : data_remainder ((octet ∷ more) ++ s.low ∷ s.high ∷ []) ≡ 0xF0B8 = ap data_remainder (sym s.parts) ∙ s.check in
    s.parts ∙ ap (λ behind. (octet ∷ more) ++ behind) (data_check_is (octet ∷ more) s.low s.high (last 0) (last 1) check)

pub one_spelling : (octets : List ℕ) (f : PlainFrame) → Spells octets f → octets ≡ canonical f
one_spelling octets f s =
    let at_check : slice_index octets 7 ≡ s.check = ap (λ o. slice_index o 7) s.parts in
    let check : s.check ≡ 255 - header_remainder (header f) = header_check_is (header f) s.check (omega (arith, at_check, s.are_octets 7)) s.header in
    let fits : AreOctets s.behind = AreOctets-after octets (0x55 ∷ 0xFF ∷ (header f ++ s.check ∷ [])) s.behind s.parts s.are_octets in
    s.parts ∙ ap (λ c. 0x55 ∷ 0xFF ∷ (header f ++ c ∷ s.behind)) check
    ∙ ap (λ b. 0x55 ∷ 0xFF ∷ (header f ++ (255 - header_remainder (header f)) ∷ b)) (checked_is s.behind f.contents fits s.contents)

-- the data among what stands behind the header
contents_at : (octets contents : List ℕ) → SpellsData octets contents → take (length octets - 2) octets ≡ contents
contents_at octets [] e = ap (λ o. take (length o - 2) o) e
contents_at octets (octet ∷ more) s =
    let long : length octets - 2 ≡ length (octet ∷ more) = omega (arith, ap length s.parts, length-append (octet ∷ more) (s.low ∷ s.high ∷ [])) in
    ap (λ n. take n octets) long ∙ ap (take (length (octet ∷ more))) s.parts ∙ take_at (octet ∷ more) (s.low ∷ s.high ∷ []) (length (octet ∷ more)) refl

same_frame : (f : PlainFrame) (frame_type destination source : ℕ) (contents : List ℕ) → frame_type ≡ f.frame_type → destination ≡ f.destination →
    source ≡ f.source → contents ≡ f.contents
    → record { frame_type = frame_type; destination = destination; source = source; contents = contents } ≡ f
same_frame f frame_type destination source contents a b c d = rw (a, b, c, d) refl

pub frame_is : (octets : List ℕ) (f : PlainFrame) → Spells octets f → frame_at octets ≡ f
frame_is octets f s =
    let behind : drop 8 octets ≡ s.behind = ap (drop 8) s.parts in
    let long : length octets - 10 ≡ length s.behind - 2 = omega (arith, ap length s.parts) in
    same_frame f _ _ _ _ (ap (λ o. slice_index o 2) s.parts) (ap (λ o. slice_index o 3) s.parts) (ap (λ o. slice_index o 4) s.parts)
    (ap (take (length octets - 10)) behind ∙ ap (λ n. take n s.behind) long ∙ contents_at s.behind f.contents s.contents)

pub one_frame : (octets : List ℕ) (f g : PlainFrame) → Spells octets f → Spells octets g → f ≡ g
one_frame octets f g s t = sym (frame_is octets f s) ∙ frame_is octets g t

-- what holds of all that was put holds where all was put
pub spelled_if : {A B E F : Type 0} (P Q X : Type 0) (put : Result A E) (all : Result B F) → OnOk all (IsOk put × X) → OnOk put P → (P → Q) → OnOk all Q
spelled_if P Q X (Ok a) (Ok b) h p f = f p
spelled_if P Q X (Err e) (Ok b) h p f = absurd (false≢true h.0)
spelled_if P Q X put (Err e) h p f = tt
