-- The youngest stamp of equal frames, and how a frame is judged by it.
use Rattle.std.proofs.Common.{◌≡◌, ◌≢◌, ℕ, ◌+◌, ◌≤◌, max, Bool, true, false, List, [], ◌∷◌, refl, sym, ap, subst, arith, ◌∙◌, inl, inr}
use Rattle.std.specs.Prelude.{Option, Some, None, Ok, Err, bytes_eq, cond, if◌then◌else◌}
use Rattle.std.proofs.lemmas.Bool.{cases_lt, le-leb, lt-leb}
use Rattle.std.proofs.lemmas.Slice.Eq.{bytes_eq-Decides}
use Rattle.history.proofs.Lists.{has, has_cons, has_next, none_has}
use Rattle.profile.specs.Ages.{is_heard_in_time}
use Rattle.profile.specs.Times.{LIFE_MS}
use Rattle.tags.specs.declared.fault.Fault.TheVariants.{Expired}
use Rattle.bus_traffic.specs.Laws.{IsJudgement, NobodySent, NoneIsYounger, WasSent}
use Rattle.bus_traffic.specs.Sendings.{equals, judged, judged_by, later_of, youngest}
use Rattle.bus_traffic.specs.declared.sending.Sending.{Sending}

-- whether octets are equal
pub data Same (xs ys : List ℕ) : Type 0 where
  same : bytes_eq xs ys ≡ true → xs ≡ ys → Same xs ys
  other : bytes_eq xs ys ≡ false → xs ≢ ys → Same xs ys

same_by : (xs ys : List ℕ) (b : Bool) → bytes_eq xs ys ≡ b → Same xs ys
same_by xs ys true e = same e ((bytes_eq-Decides xs ys).0 e)
same_by xs ys false e = other e (λ p. absurd (cc (e, (bytes_eq-Decides xs ys).1 p)))

pub same_is : (xs ys : List ℕ) → Same xs ys
same_is xs ys = same_by xs ys (bytes_eq xs ys) refl

-- what the youngest stamp of frames of these octets says
abbrev pub IsYoungest : {A : Type 0} → (octets : List ℕ) → List (Sending A) → Option ℕ → Type 0
IsYoungest octets all None = NobodySent octets all
IsYoungest octets all (Some stamp) = WasSent octets stamp all × NoneIsYounger octets stamp all

sent_here : {A : Type 0} (octets : List ℕ) (s : Sending A) (ss : List (Sending A)) → s.octets ≡ octets
    → WasSent octets s.stamp (s ∷ ss)
sent_here octets s ss e = record { sending = s; there = has 0 refl; octets_are = e; stamp_is = refl }

sent_later : {A : Type 0} (octets : List ℕ) (stamp : ℕ) (s : Sending A) (ss : List (Sending A))
    → WasSent octets stamp ss → WasSent octets stamp (s ∷ ss)
sent_later octets stamp s ss w = record {
  sending = w.sending;
  there = has_next s ss w.there;
  octets_are = w.octets_are;
  stamp_is = w.stamp_is;
}

-- the first is of other octets
skipped : {A : Type 0} (octets : List ℕ) (s : Sending A) (ss : List (Sending A)) (r : Option ℕ) → s.octets ≢ octets
    → IsYoungest octets ss r → IsYoungest octets (s ∷ ss) r
skipped octets s ss None differs y = record {
  none = λ t h e. elim (has_cons s ss h) [
    | inl is ↦ differs (ap (λ x. x.octets) is ∙ e)
    | inr later ↦ y.none t later e
  ];
}
skipped octets s ss (Some stamp) differs y = (
  sent_later octets stamp s ss y.0,
  record {
    none = λ t h e. elim (has_cons s ss h) [
      | inl is ↦ absurd (differs (ap (λ x. x.octets) is ∙ e))
      | inr later ↦ (y.1).none t later e
    ];
  },
)

-- one of two was put out with the later of two stamps
sent_either : {A : Type 0} (octets : List ℕ) (s : Sending A) (ss : List (Sending A)) (stamp : ℕ) → s.octets ≡ octets
    → WasSent octets stamp ss → WasSent octets (max s.stamp stamp) (s ∷ ss)
sent_either octets s ss stamp e w = elim (cases_lt s.stamp stamp) [
  | inl lt ↦ let m : stamp ≡ max s.stamp stamp = omega (arith, lt) in
      subst (λ n. WasSent octets n (s ∷ ss)) m (sent_later octets stamp s ss w)
  | inr le ↦ let m : s.stamp ≡ max s.stamp stamp = omega (arith, le) in
      subst (λ n. WasSent octets n (s ∷ ss)) m (sent_here octets s ss e)
]

-- .. of these
first_sent : {A : Type 0} (octets : List ℕ) (s : Sending A) (ss : List (Sending A)) (r : Option ℕ) → s.octets ≡ octets
    → IsYoungest octets ss r → IsYoungest octets (s ∷ ss) (Some (later_of s.stamp r))
first_sent octets s ss None e y = (
  sent_here octets s ss e,
  record {
    none = λ t h f. elim (has_cons s ss h) [
      | inl is ↦ subst (λ x. x.stamp ≤ s.stamp) is (omega arith)
      | inr later ↦ absurd (y.none t later f)
    ];
  },
)
first_sent octets s ss (Some stamp) e y = (
  sent_either octets s ss stamp e y.0,
  record {
    none = λ t h f. elim (has_cons s ss h) [
      | inl is ↦ subst (λ x. x.stamp ≤ max s.stamp stamp) is (omega arith)
      | inr later ↦ let le : t.stamp ≤ stamp = (y.1).none t later f in omega (arith, le)
    ];
  },
)

-- equals, and the youngest of them, by whether the first is one
pub equals_first : {A : Type 0} (octets : List ℕ) (s : Sending A) (ss : List (Sending A)) → bytes_eq s.octets octets ≡ true
    → equals octets (s ∷ ss) ≡ s ∷ equals octets ss
equals_first octets s ss e = ap (λ b. cond b (s ∷ equals octets ss) (equals octets ss)) e

pub equals_other : {A : Type 0} (octets : List ℕ) (s : Sending A) (ss : List (Sending A)) → bytes_eq s.octets octets ≡ false
    → equals octets (s ∷ ss) ≡ equals octets ss
equals_other octets s ss e = ap (λ b. cond b (s ∷ equals octets ss) (equals octets ss)) e

pub is_youngest : {A : Type 0} (octets : List ℕ) (all : List (Sending A)) → IsYoungest octets all (youngest (equals octets all))
is_youngest octets [] = record { none = λ s h e. none_has h }
is_youngest octets (s ∷ ss) = elim (same_is s.octets octets) [
  | same b e ↦ subst (λ xs. IsYoungest octets (s ∷ ss) (youngest xs)) (sym (equals_first octets s ss b))
      (first_sent octets s ss (youngest (equals octets ss)) e (is_youngest octets ss))
  | other b differs ↦ subst (λ xs. IsYoungest octets (s ∷ ss) (youngest xs)) (sym (equals_other octets s ss b))
      (skipped octets s ss (youngest (equals octets ss)) differs (is_youngest octets ss))
]

judgement_by : {A : Type 0} (now : ℕ) (octets : List ℕ) (all : List (Sending A)) (r : Option ℕ) → IsYoungest octets all r
    → IsJudgement now octets all (judged_by now r)
judgement_by now octets all None y = y
judgement_by now octets all (Some stamp) y = elim (cases_lt (stamp + LIFE_MS) now) [
  | inl lt ↦ let old : is_heard_in_time stamp now ≡ false = lt-leb now (stamp + LIFE_MS) lt in
      subst (λ b. IsJudgement now octets all (if b then Ok stamp else Err Expired)) (sym old) (record {
        stamp = stamp;
        sent = y.0;
        old = λ s h e. let le : s.stamp ≤ stamp = (y.1).none s h e in omega (arith, le, lt);
      })
  | inr le ↦ let young : is_heard_in_time stamp now ≡ true = le-leb now (stamp + LIFE_MS) le in
      subst (λ b. IsJudgement now octets all (if b then Ok stamp else Err Expired)) (sym young) (record {
        sent = y.0;
        age = le;
        youngest = y.1;
      })
]

pub each_is_judged : {A : Type 0} (now : ℕ) (octets : List ℕ) (all : List (Sending A))
    → IsJudgement now octets all (judged now octets all)
each_is_judged now octets all = judgement_by now octets all (youngest (equals octets all)) (is_youngest octets all)
