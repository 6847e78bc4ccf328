-- The entries of a table: their number, their places and their octets.
use Rattle.std.proofs.Common.{◌≡◌, ℕ, zero, suc, ◌+◌, ◌*◌, ◌/◌, ◌%◌, ◌<◌, ◌≤◌, List, [], ◌∷◌, length, drop, take, Some, None, slice_get, refl, ap, sym, arith}
use Rattle.std.proofs.Common.{◌∙◌}
use Rattle.std.proofs.Math.Seq.{take-add, take-length}
use Rattle.std.proofs.lemmas.List.{drop-drop, length-drop}
use Rattle.std.proofs.lemmas.Option.{slice_get_past}
use Rattle.tags.specs.Number.{AreOctets}
use Rattle.tags.proofs.OctetLists.{AreOctets-drop}
use Rattle.bvll.specs.Table.{SpellsEntry, SpellsTable, first_entries, entries_at}

length-first_entries : {E : Type 0} (entry_at : List ℕ → E) (n : ℕ) (octets : List ℕ) → length (first_entries entry_at n octets) ≡ n
length-first_entries entry_at zero octets = refl
length-first_entries entry_at (suc n) octets = ap suc (length-first_entries entry_at n (drop 10 octets))

pub length-entries_at : {E : Type 0} (entry_at : List ℕ → E) (octets : List ℕ) → length (entries_at entry_at octets) ≡ length octets / 10
length-entries_at entry_at octets = length-first_entries entry_at (length octets / 10) octets

slice_get-first_entries : {E : Type 0} (entry_at : List ℕ → E) (n : ℕ) (octets : List ℕ) (i : ℕ) → i < n →
    slice_get (first_entries entry_at n octets) i ≡ Some (entry_at (drop (10 * i) octets))
slice_get-first_entries entry_at zero octets i lt = absurd (omega arith)
slice_get-first_entries entry_at (suc n) octets zero lt = refl
slice_get-first_entries entry_at (suc n) octets (suc i) lt =
    let at : 10 + 10 * i ≡ 10 * suc i = omega arith in
    slice_get-first_entries entry_at n (drop 10 octets) i (omega arith)
    ∙ ap (λ o. Some (entry_at o)) (drop-drop (10 * i) 10 octets ∙ ap (λ k. drop k octets) at)

pub slice_get-entries_at : {E : Type 0} (entry_at : List ℕ → E) (octets : List ℕ) (i : ℕ) → i < length octets / 10 →
    slice_get (entries_at entry_at octets) i ≡ Some (entry_at (drop (10 * i) octets))
slice_get-entries_at entry_at octets i lt = slice_get-first_entries entry_at (length octets / 10) octets i lt

pub slice_get-entries_at_past : {E : Type 0} (entry_at : List ℕ → E) (octets : List ℕ) (i : ℕ) → length octets / 10 ≤ i →
    slice_get (entries_at entry_at octets) i ≡ None
slice_get-entries_at_past entry_at octets i le =
    slice_get_past (entries_at entry_at octets) i (omega (arith, length-entries_at entry_at octets))

first_spelled : {E : Type 0} (entry_at : List ℕ → E) (octets_of : E → List ℕ) (IsEntry : E → Type 0) →
    ((octets : List ℕ) → AreOctets octets → 10 ≤ length octets → SpellsEntry octets_of IsEntry (take 10 octets) (entry_at octets)) →
    (n : ℕ) (octets : List ℕ) → AreOctets octets → 10 * n ≤ length octets →
    SpellsTable octets_of IsEntry (take (10 * n) octets) (first_entries entry_at n octets)
first_spelled entry_at octets_of IsEntry spelled zero octets fits le = record { fields = tt; parts = refl }
first_spelled entry_at octets_of IsEntry spelled (suc n) octets fits le =
    let one = spelled octets fits (omega arith) in
    let others = first_spelled entry_at octets_of IsEntry spelled n (drop 10 octets) (AreOctets-drop 10 octets fits) (omega (arith, length-drop 10 octets)) in
    let at : 10 * suc n ≡ 10 + 10 * n = omega arith in
    record { fields = (one.fields, others.fields); parts = ap (λ k. take k octets) at ∙ take-add 10 (10 * n) octets ∙ rw (← one.parts, ← others.parts) refl }

pub entries_spelled : {E : Type 0} (entry_at : List ℕ → E) (octets_of : E → List ℕ) (IsEntry : E → Type 0) →
    ((octets : List ℕ) → AreOctets octets → 10 ≤ length octets → SpellsEntry octets_of IsEntry (take 10 octets) (entry_at octets)) → (octets : List ℕ) →
    AreOctets octets → length octets % 10 ≡ 0 → SpellsTable octets_of IsEntry octets (entries_at entry_at octets)
entries_spelled entry_at octets_of IsEntry spelled octets fits whole =
    let at : 10 * (length octets / 10) ≡ length octets = omega arith in
    let first = first_spelled entry_at octets_of IsEntry spelled (length octets / 10) octets fits (omega arith) in
    record { fields = first.fields; parts = sym (take-length octets) ∙ ap (λ k. take k octets) (sym at) ∙ first.parts }

pub ruleset table_rules = (length-entries_at, slice_get-entries_at, slice_get-entries_at_past)

-- the first entry, and the others
pub entries_at-more : {E : Type 0} (entry_at : List ℕ → E) (octets : List ℕ) → 10 ≤ length octets →
    entries_at entry_at octets ≡ entry_at octets ∷ entries_at entry_at (drop 10 octets)
entries_at-more entry_at octets le =
    let count : length octets / 10 ≡ suc (length (drop 10 octets) / 10) = omega (arith, length-drop 10 octets) in
    ap (λ n. first_entries entry_at n octets) count

pub entries_at-none : {E : Type 0} (entry_at : List ℕ → E) (octets : List ℕ) → length octets < 10 → entries_at entry_at octets ≡ []
entries_at-none entry_at octets lt =
    let count : length octets / 10 ≡ 0 = omega arith in
    ap (λ n. first_entries entry_at n octets) count

pub ruleset next_rules = (entries_at-more, entries_at-none)
