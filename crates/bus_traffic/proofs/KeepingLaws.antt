-- What a bus keeps: the order of frames, equal frames once, and nothing that is too old for anybody.
use Rattle.std.proofs.Common.{◌≡◌, ℕ, ◌<◌, Bool, true, false, List, [], ◌∷◌, ◌++◌, length, refl, suc, sym, ap, subst, ◌∙◌, inl, inr}
use Rattle.std.specs.Prelude.{Some, cond}
use Rattle.std.specs.List.{filter}
use Rattle.history.specs.Lists.{Has}
use Rattle.history.proofs.Lists.{filter_has, has, has_cons, has_next, has_split, none_has}
use Rattle.bus_traffic.proofs.Places.{delivered_first, learned_first}
use Rattle.bus_traffic.proofs.RememberLaws.{delivered_next, known_next, learned_next}
use Rattle.bus_traffic.proofs.YoungestLaws.{same, other, same_is}
use Rattle.bus_traffic.specs.Laws.{EqualIsKnown, OldIsForgotten, OrderIsKept}
use Rattle.bus_traffic.specs.Sendings.{delivered, is_due_at, is_young, known_by, known_of, learned, marked, unheard, young}
use Rattle.bus_traffic.specs.Telling.{AreInOrder, IsBefore}
use Rattle.bus_traffic.specs.declared.sending.Known.{Known}
use Rattle.bus_traffic.specs.declared.sending.Recent.{Recent}

ordered_filter_by : {A : Type 0} (p : Recent A → Bool) (r : Recent A) (rs : List (Recent A)) (b : Bool) → p r ≡ b
    → IsBefore r rs → AreInOrder (filter p rs) → AreInOrder (filter p (r ∷ rs))
ordered_filter_by p r rs true e before rest = subst (λ b. AreInOrder (cond b (r ∷ filter p rs) (filter p rs))) (sym e)
    (record { before = λ s h. before.before s ((filter_has p rs s h).0) }, rest)
ordered_filter_by p r rs false e before rest =
    subst (λ b. AreInOrder (cond b (r ∷ filter p rs) (filter p rs))) (sym e) rest

ordered_filter : {A : Type 0} (p : Recent A → Bool) (rs : List (Recent A)) → AreInOrder rs → AreInOrder (filter p rs)
ordered_filter p [] o = tt
ordered_filter p (r ∷ rs) o = ordered_filter_by p r rs (p r) refl (o.0) (ordered_filter p rs (o.1))

ordered_behind : {A : Type 0} (rs : List (Recent A)) (s : Recent A) → AreInOrder rs
    → ((r : Recent A) → Has rs r → r.sending.place.frames < s.sending.place.frames) → AreInOrder (rs ++ s ∷ [])
ordered_behind [] s o before = (record { before = λ r h. absurd (none_has h) }, tt)
ordered_behind (x ∷ rs) s o before = (
  record {
    before = λ r h. elim (has_split rs s h) [
      | inl there ↦ (o.0).before r there
      | inr is ↦ subst (λ y. x.sending.place.frames < y.sending.place.frames) is (before x (has 0 refl))
    ];
  },
  ordered_behind rs s (o.1) (λ r h. before r (has_next x rs h)),
)

-- what is delivered was put out where it stood
pub record Stood {A : Type 0} (rs : List (Recent A)) (r : Recent A) : Type 0 where
  pub recent : Recent A
  pub there : Has rs recent
  pub same : recent.sending ≡ r.sending

delivered_stood_by : {A : Type 0} (now address : ℕ) (octets : List ℕ) (x : Recent A) (rs : List (Recent A)) (r : Recent A)
    (b : Bool) → is_due_at now address octets x ≡ b
    → ((r : Recent A) → Has (delivered now address octets rs) r → Stood rs r)
    → Has (delivered now address octets (x ∷ rs)) r → Stood (x ∷ rs) r
delivered_stood_by now address octets x rs r true e rest h =
    elim (has_cons (marked address x) rs (subst (λ xs. Has xs r) (delivered_first now address octets x rs e) h)) [
      | inl is ↦ record { recent = x; there = has 0 refl; same = ap (λ y. y.sending) is }
      | inr later ↦ record { recent = r; there = has_next x rs later; same = refl }
    ]
delivered_stood_by now address octets x rs r false e rest h =
    elim (has_cons x (delivered now address octets rs) (subst (λ xs. Has xs r) (delivered_next now address octets x rs e) h)) [
      | inl is ↦ record { recent = x; there = has 0 refl; same = ap (λ y. y.sending) is }
      | inr later ↦ let s = rest r later in record { recent = s.recent; there = has_next x rs s.there; same = s.same }
    ]

delivered_stood : {A : Type 0} (now address : ℕ) (octets : List ℕ) (rs : List (Recent A)) (r : Recent A)
    → Has (delivered now address octets rs) r → Stood rs r
delivered_stood now address octets [] r h = absurd (none_has h)
delivered_stood now address octets (x ∷ rs) r h = delivered_stood_by now address octets x rs r
    (is_due_at now address octets x) refl (delivered_stood now address octets rs) h

ordered_delivered_by : {A : Type 0} (now address : ℕ) (octets : List ℕ) (x : Recent A) (rs : List (Recent A)) (b : Bool)
    → is_due_at now address octets x ≡ b → AreInOrder (x ∷ rs) → AreInOrder (delivered now address octets rs)
    → AreInOrder (delivered now address octets (x ∷ rs))
ordered_delivered_by now address octets x rs true e o rest =
    subst (λ xs. AreInOrder xs) (sym (delivered_first now address octets x rs e))
    (record { before = λ s h. (o.0).before s h }, o.1)
ordered_delivered_by now address octets x rs false e o rest =
    subst (λ xs. AreInOrder xs) (sym (delivered_next now address octets x rs e)) (
      record {
        before = λ s h. let stood = delivered_stood now address octets rs s h in
            subst (λ y. x.sending.place.frames < y.place.frames) stood.same ((o.0).before stood.recent stood.there);
      },
      rest,
    )

ordered_delivered : {A : Type 0} (now address : ℕ) (octets : List ℕ) (rs : List (Recent A)) → AreInOrder rs
    → AreInOrder (delivered now address octets rs)
ordered_delivered now address octets [] o = tt
ordered_delivered now address octets (x ∷ rs) o = ordered_delivered_by now address octets x rs
    (is_due_at now address octets x) refl o (ordered_delivered now address octets rs (o.1))

pub order_is_kept : {A : Type 0} → OrderIsKept A
order_is_kept now place octets kept e s b o = (
  λ before. ordered_behind (young now b.recent) (unheard s) (ordered_filter (λ r. is_young now r.sending) b.recent o)
      (λ r h. before r ((filter_has (λ r. is_young now r.sending) b.recent r h).0)),
  ordered_delivered now e.address octets b.recent o,
)

equal_known : {A : Type 0} (stamp : ℕ) (new : Known A) (ks : List (Known A)) → known_of new.octets ks ≡ Some stamp
    → length (learned new ks) ≡ length ks
equal_known stamp new [] e = absurd (cc)
equal_known stamp new (k ∷ ks) e = elim (same_is k.octets new.octets) [
  | same b is ↦ ap (λ xs. length xs) (learned_first new k ks b)
  | other b differs ↦ ap (λ xs. length xs) (learned_next new k ks b)
      ∙ ap (λ n. suc n) (equal_known stamp new ks (sym (known_next new.octets k ks b) ∙ e))
]

pub equal_is_known : {A : Type 0} → EqualIsKnown A
equal_is_known now stamp s b e = equal_known stamp (known_by s) b.known e

pub old_is_forgotten : {A : Type 0} → OldIsForgotten A
old_is_forgotten now s b r h = elim (has_split (young now b.recent) (unheard s) h) [
  | inl there ↦ inr ((filter_has (λ r. is_young now r.sending) b.recent r there).1)
  | inr is ↦ inl (sym is)
]
