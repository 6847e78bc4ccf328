-- What is refused spells nothing, and what is cut could be completed.
use Rattle.std.proofs.Common.{◌≡◌, ℕ, ◌+◌, ◌*◌, ◌/◌, ◌<◌, ◌≤◌, ◌^◌, ◌%◌, List, [], ◌∷◌, ◌++◌, length, get_or, Some, slice_get, refl, ap, sym, subst, arith, ◌∙◌}
use Rattle.std.proofs.Common.{inl, inr, flat_map, length-append}
use Rattle.std.specs.List.{AllByRecursion}
use Rattle.std.specs.Prelude.{Result, IfOk, IfErr, OnErr, Ok, Err}
use Rattle.byteorder.specs.Endian.{big_bytes}
use Rattle.tags.specs.declared.fault.Fault.{Fault}
use Rattle.tags.specs.declared.fault.Fault.TheVariants.{Short, BadTag, BadLength, BadVersion}
use Rattle.bvll.specs.declared.datagram.Bvll.{Bvll}
use Rattle.bvll.specs.declared.entry.DistributionEntry.{DistributionEntry}
use Rattle.bvll.specs.declared.entry.ForeignDevice.{ForeignDevice}
use Rattle.bvll.specs.declared.function.Function.{Function}
use Rattle.bvll.specs.declared.function.Function.TheVariants as f
use Rattle.bvll.specs.Datagram.{Datagram, datagram_of, outcome, write_distribution, read_distribution, distribution, forwarded, register, read_foreign, foreign}
use Rattle.bvll.specs.Datagram.{delete_foreign, distribute, unicast, broadcast, function, contents, contents_length, HasFields, header, whole_length, Spells}
use Rattle.bvll.specs.Datagram.{NoDatagram}
use Rattle.bvll.specs.Entry.{distribution_octets, foreign_octets, IsDistributionEntry, IsForeignDevice}
use Rattle.bvll.specs.Function.{number_of}
use Rattle.tags.specs.Number.{AreOctets}
use Rattle.tags.proofs.OctetLists.{cons_equal}
use Rattle.bvll.specs.Refusal.{HasContents, IsLength, IsOtherVersion, IsUnknown, IsCut, IsMisfit, Refuses}

-- the functions in the order of their numbers
functions : List Function
functions = f.Result ∷ f.WriteBroadcastDistributionTable ∷ f.ReadBroadcastDistributionTable ∷ f.ReadBroadcastDistributionTableAck ∷ f.ForwardedNpdu ∷
    f.RegisterForeignDevice ∷ f.ReadForeignDeviceTable ∷ f.ReadForeignDeviceTableAck ∷ f.DeleteForeignDeviceTableEntry ∷ f.DistributeBroadcastToNetwork ∷
    f.OriginalUnicastNpdu ∷ f.OriginalBroadcastNpdu ∷ []

slice_get-functions : (k : Function) → slice_get functions (number_of k) ≡ Some k
unfolding functions
slice_get-functions f.Result = refl
slice_get-functions f.WriteBroadcastDistributionTable = refl
slice_get-functions f.ReadBroadcastDistributionTable = refl
slice_get-functions f.ReadBroadcastDistributionTableAck = refl
slice_get-functions f.ForwardedNpdu = refl
slice_get-functions f.RegisterForeignDevice = refl
slice_get-functions f.ReadForeignDeviceTable = refl
slice_get-functions f.ReadForeignDeviceTableAck = refl
slice_get-functions f.DeleteForeignDeviceTableEntry = refl
slice_get-functions f.DistributeBroadcastToNetwork = refl
slice_get-functions f.OriginalUnicastNpdu = refl
slice_get-functions f.OriginalBroadcastNpdu = refl

some_is : (j k : Function) → Some j ≡ Some k → j ≡ k
some_is j k e = cc

-- no two functions have one number
pub one_function : (j k : Function) → number_of j ≡ number_of k → j ≡ k
one_function j k e = some_is j k (sym (slice_get-functions j) ∙ ap (λ n. slice_get functions n) e ∙ slice_get-functions k)

pub number_of-le : (k : Function) → number_of k ≤ 11
number_of-le f.Result = omega arith
number_of-le f.WriteBroadcastDistributionTable = omega arith
number_of-le f.ReadBroadcastDistributionTable = omega arith
number_of-le f.ReadBroadcastDistributionTableAck = omega arith
number_of-le f.ForwardedNpdu = omega arith
number_of-le f.RegisterForeignDevice = omega arith
number_of-le f.ReadForeignDeviceTable = omega arith
number_of-le f.ReadForeignDeviceTableAck = omega arith
number_of-le f.DeleteForeignDeviceTableEntry = omega arith
number_of-le f.DistributeBroadcastToNetwork = omega arith
number_of-le f.OriginalUnicastNpdu = omega arith
number_of-le f.OriginalBroadcastNpdu = omega arith

-- the lengths of contents

pub length-distribution : (entries : List DistributionEntry) → AllByRecursion IsDistributionEntry entries →
    length (flat_map distribution_octets entries) ≡ 10 * length entries
length-distribution [] all = refl
length-distribution (e ∷ entries) all = simp length-append (omega (arith, all.0.address.ip, all.0.mask, length-distribution entries all.1))

pub length-foreign : (entries : List ForeignDevice) → AllByRecursion IsForeignDevice entries → length (flat_map foreign_octets entries) ≡ 10 * length entries
length-foreign [] all = refl
length-foreign (e ∷ entries) all = simp length-append (omega (arith, all.0.address.ip, length-foreign entries all.1))

-- the fields take as many octets as are counted
pub length-contents : (d : Datagram) → HasFields d → length (contents d) ≡ contents_length d
length-contents (outcome code) fits = refl
length-contents (write_distribution entries) fits = length-distribution entries fits
length-contents read_distribution fits = refl
length-contents (distribution entries) fits = length-distribution entries fits
length-contents (forwarded origin npdu) fits = simp length-append (omega (arith, fits.ip))
length-contents (register seconds) fits = refl
length-contents read_foreign fits = refl
length-contents (foreign entries) fits = length-foreign entries fits
length-contents (delete_foreign address) fits = simp length-append (omega (arith, fits.ip))
length-contents (distribute npdu) fits = refl
length-contents (unicast npdu) fits = refl
length-contents (broadcast npdu) fits = refl

IsLength-counted : (d : Datagram) → IsLength (function d) (contents_length d)
IsLength-counted (outcome code) = refl
IsLength-counted (write_distribution entries) = omega arith
IsLength-counted read_distribution = refl
IsLength-counted (distribution entries) = omega arith
IsLength-counted (forwarded origin npdu) = omega arith
IsLength-counted (register seconds) = refl
IsLength-counted read_foreign = refl
IsLength-counted (foreign entries) = omega arith
IsLength-counted (delete_foreign address) = refl
IsLength-counted (distribute npdu) = tt
IsLength-counted (unicast npdu) = tt
IsLength-counted (broadcast npdu) = tt

contents-length : (d : Datagram) → HasFields d → IsLength (function d) (length (contents d))
contents-length d fits = subst (λ n. IsLength (function d) n) (sym (length-contents d fits)) (IsLength-counted d)

-- what stands behind a header of its length is a datagram
spelled : (k : Function) (whole : ℕ) (octets rest : List ℕ) (d : Datagram) → octets ≡ header k whole ++ rest → whole ≡ length octets → whole < 2 ^ 16 →
    HasContents k rest d → Spells octets d
spelled k whole octets rest d front is lt has =
    let counted : whole ≡ whole_length d = is ∙ ap length front ∙ omega (arith, ap length has.contents, length-contents d has.fields) in
    record {
      sound = record { fields = has.fields; fits = omega (arith, counted) };
      whole = sym is ∙ counted;
      parts = front ∙ rw (counted, sym has.function, has.contents) refl;
    }

pub spelled_if : (k : Function) (whole : ℕ) (octets rest : List ℕ) (result : Result Bvll Fault) → octets ≡ header k whole ++ rest → whole ≡ length octets →
    whole < 2 ^ 16 → IfOk result (λ b. HasContents k rest (datagram_of b)) → IfOk result (λ b. Spells octets (datagram_of b))
spelled_if k whole octets rest (Ok b) front is lt has = spelled k whole octets rest (datagram_of b) front is lt has
spelled_if k whole octets rest (Err e) front is lt has = tt

-- refusals

other_version : (octets : List ℕ) (d : Datagram) → IsOtherVersion octets → Spells octets d → ⊥
other_version octets d r s =
    let e = sym r.front ∙ s.parts in
    let first : r.first ≡ 0x81 = cc in
    r.other first

unknown : (octets : List ℕ) (d : Datagram) → IsUnknown octets → Spells octets d → ⊥
unknown octets d r s =
    let e = sym r.front ∙ s.parts in
    let number : r.number ≡ number_of (function d) = cc in
    omega (arith, r.unknown, number_of-le (function d))

pub length-some : (more : List ℕ) → (more ≡ [] → ⊥) → 0 < length more
length-some [] some = absurd (some refl)
length-some (x ∷ more) some = omega arith

cut : (octets : List ℕ) (d : Datagram) → IsCut octets → Spells octets d → ⊥
cut octets d r s =
    let short : length octets + length r.more ≡ 4 = sym (length-append octets r.more) ∙ ap length r.completed in
    omega (arith, s.whole, length-some r.more r.some)

-- two octets have one number
one_number : (m n : ℕ) → m < 2 ^ 16 → n < 2 ^ 16 → big_bytes 2 m ≡ big_bytes 2 n → m ≡ n
one_number m n small little e =
    let high : m / 256 % 256 ≡ n / 256 % 256 = cc in
    let low : m % 256 ≡ n % 256 = cc in
    omega arith

-- the parts of a header and what follows it
pub header_parts : (j k : Function) (m n : ℕ) (xs ys : List ℕ) → m < 2 ^ 16 → n < 2 ^ 16 → header j m ++ xs ≡ header k n ++ ys → (j ≡ k) × (m ≡ n) × (xs ≡ ys)
header_parts j k m n xs ys small little e =
    let numbers : number_of j ≡ number_of k = cc in
    let bytes : big_bytes 2 m ≡ big_bytes 2 n = cc in
    let rest : xs ≡ ys = cc in
    (one_function j k numbers, one_number m n small little bytes, rest)

misfit : (octets : List ℕ) (d : Datagram) → IsMisfit octets → Spells octets d → ⊥
misfit octets d r s =
    let p = header_parts r.function (function d) r.whole (whole_length d) r.rest (contents d) r.fits s.sound.fits (sym r.front ∙ s.parts) in
    elim r.misfit [
      | inl wrong ↦ wrong (p.1 ∙ sym s.whole)
      | inr wrong ↦ wrong (subst (λ (k : Function). IsLength k (length r.rest)) (sym p.0)
          (subst (λ (o : List ℕ). IsLength (function d) (length o)) (sym p.2) (contents-length d s.sound.fields)))
    ]

pub refused_none : (e : Fault) (octets : List ℕ) → Refuses e octets → NoDatagram octets
refused_none BadVersion octets r = record { none = λ d s. other_version octets d r s }
refused_none BadTag octets r = record { none = λ d s. unknown octets d r s }
refused_none Short octets r = record { none = λ d s. cut octets d r s }
refused_none BadLength octets r = record { none = λ d s. misfit octets d r s }
refused_none _ octets r = absurd r

pub refusal : {X : Type 0} (result : Result X Fault) (octets : List ℕ) → IfErr result (λ e. Refuses e octets) → OnErr result (NoDatagram octets)
refusal (Ok x) octets r = tt
refusal (Err e) octets r = refused_none e octets r

-- what is cut

cut_empty : IsCut []
cut_empty = record { function = f.Result; whole = 0; more = header f.Result 0; some = λ e. cc; completed = refl }

cut_first : IsCut (0x81 ∷ [])
cut_first = record { function = f.Result; whole = 0; more = 0 ∷ 0 ∷ 0 ∷ []; some = λ e. cc; completed = refl }

cut_second : (k : Function) → IsCut (0x81 ∷ (number_of k ∷ []))
cut_second k = record { function = k; whole = 0; more = 0 ∷ 0 ∷ []; some = λ e. cc; completed = refl }

cut_third : (k : Function) (high : ℕ) → high < 256 → IsCut (0x81 ∷ (number_of k ∷ (high ∷ [])))
cut_third k high lt = record {
  function = k;
  whole = 256 * high;
  more = 0 ∷ [];
  some = λ e. cc;
  completed = cons_equal _ _ _ _ refl (cons_equal _ _ _ _ refl (cons_equal _ _ _ _ (omega arith) (cons_equal _ _ _ _ (omega arith) refl)));
}

pub cut_before_function : (octets : List ℕ) → length octets < 2 → (0 < length octets → get_or octets 0 0 ≡ 0x81) → IsCut octets
cut_before_function [] lt first = cut_empty
cut_before_function (a ∷ []) lt first = subst (λ (x : ℕ). IsCut (x ∷ [])) (sym (first (omega arith))) cut_first
cut_before_function (a ∷ b ∷ rest) lt first = absurd (omega arith)

pub cut_behind_function : (octets : List ℕ) (k : Function) → AreOctets octets → 2 ≤ length octets → length octets < 4 → get_or octets 0 0 ≡ 0x81 →
    get_or octets 1 0 ≡ number_of k → IsCut octets
cut_behind_function [] k fits le lt first number = absurd (omega arith)
cut_behind_function (a ∷ []) k fits le lt first number = absurd (omega arith)
cut_behind_function (a ∷ b ∷ []) k fits le lt first number =
    subst (λ (x : ℕ). IsCut (x ∷ b ∷ [])) (sym first) (subst (λ (x : ℕ). IsCut (0x81 ∷ (x ∷ []))) (sym number) (cut_second k))
cut_behind_function (a ∷ b ∷ high ∷ []) k fits le lt first number =
    subst (λ (x : ℕ). IsCut (x ∷ b ∷ high ∷ [])) (sym first) (subst (λ (x : ℕ). IsCut (0x81 ∷ (x ∷ (high ∷ [])))) (sym number) (cut_third k high (fits 2)))
cut_behind_function (a ∷ b ∷ high ∷ low ∷ rest) k fits le lt first number = absurd (omega arith)
