-- The causes of the four refusals exclude each other.
use Rattle.std.proofs.Common.{◌≡◌, ℕ, ◌+◌, List, ◌++◌, length, refl, ap, sym, arith, ◌∙◌, length-append}
use Rattle.tags.specs.declared.fault.Fault.TheVariants.{Short, BadTag, BadLength, BadVersion}
use Rattle.bvll.specs.Function.{number_of}
use Rattle.bvll.specs.Laws.{RefusedOnce}
use Rattle.bvll.specs.Refusal.{IsOtherVersion, IsUnknown, IsCut, IsMisfit}
use Rattle.bvll.proofs.Refusals.{number_of-le, length-some}

version_unknown : (octets : List ℕ) → IsOtherVersion octets → IsUnknown octets → ⊥
version_unknown octets r s =
    let e = sym r.front ∙ s.front in
    let first : r.first ≡ 0x81 = cc in
    r.other first

version_cut : (octets : List ℕ) → IsOtherVersion octets → IsCut octets → ⊥
version_cut octets r s =
    let e = ap (λ (x : List ℕ). x ++ s.more) (sym r.front) ∙ s.completed in
    let first : r.first ≡ 0x81 = cc in
    r.other first

version_misfit : (octets : List ℕ) → IsOtherVersion octets → IsMisfit octets → ⊥
version_misfit octets r s =
    let e = sym r.front ∙ s.front in
    let first : r.first ≡ 0x81 = cc in
    r.other first

unknown_cut : (octets : List ℕ) → IsUnknown octets → IsCut octets → ⊥
unknown_cut octets r s =
    let e = ap (λ (x : List ℕ). x ++ s.more) (sym r.front) ∙ s.completed in
    let number : r.number ≡ number_of s.function = cc in
    omega (arith, r.unknown, number_of-le s.function)

unknown_misfit : (octets : List ℕ) → IsUnknown octets → IsMisfit octets → ⊥
unknown_misfit octets r s =
    let e = sym r.front ∙ s.front in
    let number : r.number ≡ number_of s.function = cc in
    omega (arith, r.unknown, number_of-le s.function)

cut_misfit : (octets : List ℕ) → IsCut octets → IsMisfit octets → ⊥
cut_misfit octets r s =
    let short : length octets + length r.more ≡ 4 = sym (length-append octets r.more) ∙ ap length r.completed in
    let long : length octets ≡ 4 + length s.rest = ap length s.front ∙ omega arith in
    omega (arith, length-some r.more r.some)

pub refused_once : RefusedOnce
refused_once octets BadVersion BadVersion r s = refl
refused_once octets BadVersion BadTag r s = absurd (version_unknown octets r s)
refused_once octets BadVersion Short r s = absurd (version_cut octets r s)
refused_once octets BadVersion BadLength r s = absurd (version_misfit octets r s)
refused_once octets BadTag BadVersion r s = absurd (version_unknown octets s r)
refused_once octets BadTag BadTag r s = refl
refused_once octets BadTag Short r s = absurd (unknown_cut octets r s)
refused_once octets BadTag BadLength r s = absurd (unknown_misfit octets r s)
refused_once octets Short BadVersion r s = absurd (version_cut octets s r)
refused_once octets Short BadTag r s = absurd (unknown_cut octets s r)
refused_once octets Short Short r s = refl
refused_once octets Short BadLength r s = absurd (cut_misfit octets r s)
refused_once octets BadLength BadVersion r s = absurd (version_misfit octets s r)
refused_once octets BadLength BadTag r s = absurd (unknown_misfit octets s r)
refused_once octets BadLength Short r s = absurd (cut_misfit octets s r)
refused_once octets BadLength BadLength r s = refl
refused_once octets BadVersion _ r s = absurd s
refused_once octets BadTag _ r s = absurd s
refused_once octets Short _ r s = absurd s
refused_once octets BadLength _ r s = absurd s
refused_once octets _ e r s = absurd r
