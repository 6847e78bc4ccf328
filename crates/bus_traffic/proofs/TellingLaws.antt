-- What is told first of some buses and one more.
use Rattle.std.proofs.Common.{◌≡◌, ℕ, ◌+◌, List, [], ◌∷◌, ◌++◌, ◌<◌, ◌≤◌, ◌⊎◌, inl, inr, arith, ap, ◌∙◌, drop, length, refl, subst, suc, sym, take, false, zero}
use Rattle.std.specs.Prelude.{Option, Some, None, IfNone, IfSome, get_or, slice_get}
use Rattle.history.specs.Lists.{Has}
use Rattle.history.proofs.Lists.{get_front, has, has_back, has_cons, has_next, has_split, none_has}
use Rattle.bus_traffic.specs.Telling.{AreInOrder, IsDue, IsDueNowhere, IsEarlier, IsFirstEar, IsFromTurn, IsNext, NoneBetween, NoneWaits, BeginsAt, HasNoTurn, Waits}
use Rattle.bus_traffic.specs.Sendings.{turn_of, waits_at}
use Rattle.std.proofs.Math.Seq.{take-suc}
use Rattle.std.proofs.lemmas.Bool.{cases_lt}
use Rattle.std.proofs.lemmas.List.{drop-drop}
use Rattle.std.proofs.lemmas.Option.{get_or_from_slice_get, slice_get_within}
use Rattle.bus_traffic.specs.declared.bus.Bus.{Bus}
use Rattle.bus_traffic.specs.declared.ear.Ear.{Ear}
use Rattle.bus_traffic.specs.declared.sending.Recent.{Recent}
use Rattle.bus_traffic.specs.declared.telling.NextTold.{NextTold}
use Rattle.bus_traffic.specs.declared.telling.Telling.{Telling}

-- this is the first that is told of these buses, or none is
abbrev pub IsTold : {A : Type 0} → (now : ℕ) → Telling → (before : ℕ) → List (Bus A) → Option (NextTold A) → Type 0
IsTold now from before buses None = NoneWaits now from before buses
IsTold now from before buses (Some n) = IsNext now from before buses n.bus.now n.recent.now n.ear_place n.ear.now

has_front : {X : Type 0} (xs : List X) (y : X) {x : X} → Has xs x → Has (xs ++ y ∷ []) x
has_front xs y {x} h = has h.place (get_front xs (y ∷ []) h.place x h.at_place)

-- what waits on some buses and one more waits on the some or on the one
among_split : {A : Type 0} {now : ℕ} {from : Telling} {before : ℕ} (buses : List (Bus A)) (b c : Bus A) (r : Recent A)
    (place : ℕ) (e : Ear) → Waits now from before (buses ++ b ∷ []) c r place e
    → Waits now from before buses c r place e ⊎ Waits now from before (b ∷ []) c r place e
among_split buses b c r place e w = elim (has_split buses b w.among) [
  | inl there ↦ inl (record { among = there; put_out = w.put_out; due = w.due })
  | inr is ↦ inr (record { among = has 0 (ap (λ x. Some x) is); put_out = w.put_out; due = w.due })
]

none_more : {A : Type 0} {now : ℕ} {from : Telling} {before : ℕ} (buses : List (Bus A)) (b : Bus A)
    → NoneWaits now from before buses → NoneWaits now from before (b ∷ []) → NoneWaits now from before (buses ++ b ∷ [])
none_more buses b n m = record {
  none = λ c r place e w. elim (among_split buses b c r place e w) [
    | inl x ↦ n.none c r place e x
    | inr x ↦ m.none c r place e x
  ];
}

-- the first of the some is the first, where what waits on the one was put out no earlier
still_next : {A : Type 0} {now : ℕ} {from : Telling} {before : ℕ} (buses : List (Bus A)) (b c : Bus A) (r : Recent A)
    (place : ℕ) (e : Ear) → IsNext now from before buses c r place e
    → ((s : Recent A) (d : Bus A) (q : ℕ) (f : Ear) → AreInOrder d.recent.items → Waits now from before (b ∷ []) d s q f
    → r.sending.place.frames ≤ s.sending.place.frames)
    → IsNext now from before (buses ++ b ∷ []) c r place e
still_next buses b c r place e n later = record {
  waits = record { among = has_front buses b n.waits.among; put_out = n.waits.put_out; due = n.waits.due };
  ear = n.ear;
  first = λ d s q f ordered w. elim (among_split buses b d s q f w) [
    | inl x ↦ n.first d s q f ordered x
    | inr x ↦ later s d q f ordered x
  ];
}

-- the first of the one is, where what waits on the some was put out no earlier
now_next : {A : Type 0} {now : ℕ} {from : Telling} {before : ℕ} (buses : List (Bus A)) (b c : Bus A) (r : Recent A)
    (place : ℕ) (e : Ear) → IsNext now from before (b ∷ []) c r place e
    → ((s : Recent A) (d : Bus A) (q : ℕ) (f : Ear) → AreInOrder d.recent.items → Waits now from before buses d s q f
    → r.sending.place.frames ≤ s.sending.place.frames)
    → IsNext now from before (buses ++ b ∷ []) c r place e
now_next buses b c r place e n later = record {
  waits = record { among = has_back buses (b ∷ []) n.waits.among; put_out = n.waits.put_out; due = n.waits.due };
  ear = n.ear;
  first = λ d s q f ordered w. elim (among_split buses b d s q f w) [
    | inl x ↦ later s d q f ordered x
    | inr x ↦ n.first d s q f ordered x
  ];
}

pub told_more : {A : Type 0} (now : ℕ) (from : Telling) (before : ℕ) (buses : List (Bus A)) (b : Bus A)
    (one other result : Option (NextTold A)) → IsTold now from before buses one → IsTold now from before (b ∷ []) other
    → IsEarlier one other result → IsTold now from before (buses ++ b ∷ []) result
told_more now from before buses b None None result n m e =
    subst (λ o. IsTold now from before (buses ++ b ∷ []) o) (sym e) (none_more buses b n m)
told_more now from before buses b None (Some y) result n m e =
    subst (λ o. IsTold now from before (buses ++ b ∷ []) o) (sym e)
    (now_next buses b y.bus.now y.recent.now y.ear_place y.ear.now m (λ s d q f o w. absurd (n.none d s q f w)))
told_more now from before buses b (Some x) None result n m e =
    subst (λ o. IsTold now from before (buses ++ b ∷ []) o) (sym e)
    (still_next buses b x.bus.now x.recent.now x.ear_place x.ear.now n (λ s d q f o w. absurd (m.none d s q f w)))
told_more now from before buses b (Some x) (Some y) result n m e = elim e [
  | inl p ↦ subst (λ o. IsTold now from before (buses ++ b ∷ []) o) (sym (p.1))
      (now_next buses b y.bus.now y.recent.now y.ear_place y.ear.now m (λ s d q f o w.
      let lt = p.0 in let le = n.first d s q f o w in omega (arith, lt, le)))
  | inr p ↦ subst (λ o. IsTold now from before (buses ++ b ∷ []) o) (sym (p.1))
      (still_next buses b x.bus.now x.recent.now x.ear_place x.ear.now n (λ s d q f o w.
      let lt = p.0 in let le = m.first d s q f o w in omega (arith, lt, le)))
]

-- what is left of frames in order is in order
pub ordered_drop : {A : Type 0} (i : ℕ) (rs : List (Recent A)) → AreInOrder rs → AreInOrder (drop i rs)
ordered_drop zero [] o = o
ordered_drop (suc i) [] o = o
ordered_drop zero (r ∷ rs) o = o
ordered_drop (suc i) (r ∷ rs) o = ordered_drop i rs (o.1)

-- each frame is due nowhere, or stands among those that are left
pub record AreLeft {A : Type 0} (now : ℕ) (from : Telling) (before : ℕ) (ears : List Ear) (rs left : List (Recent A)) : Type 0 where
  pub left_of : (s : Recent A) → Has rs s → IsDueNowhere now from before ears s ⊎ Has left s

pub all_left : {A : Type 0} {now : ℕ} {from : Telling} {before : ℕ} (ears : List Ear) (rs : List (Recent A))
    → AreLeft now from before ears rs rs
all_left ears rs = record { left_of = λ s h. inr h }

pub one_less : {A : Type 0} {now : ℕ} {from : Telling} {before : ℕ} (ears : List Ear) (rs : List (Recent A)) (r : Recent A)
    (left : List (Recent A)) → AreLeft now from before ears rs (r ∷ left) → IsDueNowhere now from before ears r
    → AreLeft now from before ears rs left
one_less {A} {now} {from} {before} ears rs r left a n = record {
  left_of = λ s h. elim (a.left_of s h) [
    | inl nowhere ↦ inl nowhere
    | inr there ↦ elim (has_cons r left there) [
      | inl is ↦ inl (subst (λ x. IsDueNowhere now from before ears x) is n)
      | inr later ↦ inr later
    ]
  ];
}

none_on : {A : Type 0} {now : ℕ} {from : Telling} {before : ℕ} (b c : Bus A) (s : Recent A) (place : ℕ) (e : Ear)
    → AreLeft now from before b.ears.items b.recent.items [] → b ≡ c → Waits now from before (b ∷ []) c s place e → ⊥
none_on {A} {now} {from} {before} b c s place e a is w =
    elim (a.left_of s (subst (λ x. Has x.recent.items s) (sym is) w.put_out)) [
      | inl nowhere ↦ nowhere.none place e (subst (λ x. IsDue now from before x.ears.items s place e) (sym is) w.due)
      | inr h ↦ none_has h
    ]

pub none_left : {A : Type 0} {now : ℕ} {from : Telling} {before : ℕ} (b : Bus A)
    → AreLeft now from before b.ears.items b.recent.items [] → NoneWaits now from before (b ∷ [])
none_left b a = record {
  none = λ c s place e w. elim (has_cons b [] w.among) [
    | inl is ↦ none_on b c s place e a is w
    | inr h ↦ none_has h
  ];
}

-- in what is left the first was put out first
first_left : {A : Type 0} {now : ℕ} {from : Telling} {before : ℕ} (b : Bus A) (r s : Recent A) (left : List (Recent A))
    (i place : ℕ) (e : Ear) → AreLeft now from before b.ears.items b.recent.items (drop i b.recent.items)
    → drop i b.recent.items ≡ r ∷ left → AreInOrder b.recent.items → Has b.recent.items s
    → IsDue now from before b.ears.items s place e → r.sending.place.frames ≤ s.sending.place.frames
first_left b r s left i place e a is ordered h due = elim (a.left_of s h) [
  | inl nowhere ↦ absurd (nowhere.none place e due)
  | inr there ↦ elim (has_cons r left (subst (λ xs. Has xs s) is there)) [
    | inl same ↦ let n : r.sending.place.frames ≡ s.sending.place.frames = ap (λ x. x.sending.place.frames) same in
        omega (arith, n)
    | inr later ↦ let lt : r.sending.place.frames < s.sending.place.frames =
        ((subst (λ xs. AreInOrder xs) is (ordered_drop i b.recent.items ordered)).0).before s later in
        omega (arith, lt)
  ]
]

has_dropped : {X : Type 0} (i : ℕ) (xs : List X) (x : X) (left : List X) → drop i xs ≡ x ∷ left → Has xs x
has_dropped zero xs x left is = subst (λ ys. Has ys x) (sym is) (has 0 refl)
has_dropped (suc i) [] x left is = absurd (cc)
has_dropped (suc i) (y ∷ xs) x left is = has_next y xs (has_dropped i xs x left is)

next_left : {A : Type 0} {now : ℕ} {from : Telling} {before : ℕ} (b : Bus A) (r : Recent A) (left : List (Recent A))
    (i place : ℕ) (e : Ear) → AreLeft now from before b.ears.items b.recent.items (drop i b.recent.items)
    → drop i b.recent.items ≡ r ∷ left → IsDue now from before b.ears.items r place e
    → IsFirstEar now from before b.ears.items r place → IsNext now from before (b ∷ []) b r place e
next_left {A} {now} {from} {before} b r left i place e a is due ear = record {
  waits = record { among = has 0 refl; put_out = has_dropped i b.recent.items r left is; due = due };
  ear = ear;
  first = λ c s q f ordered w. elim (has_cons b [] w.among) [
    | inl same ↦ first_left b r s left i q f a is (subst (λ x. AreInOrder x.recent.items) (sym same) ordered)
        (subst (λ x. Has x.recent.items s) (sym same) w.put_out)
        (subst (λ x. IsDue now from before x.ears.items s q f) (sym same) w.due)
    | inr h ↦ absurd (none_has h)
  ];
}

-- .. where some in front were put out before its turn
pub next_from : {A : Type 0} (now : ℕ) (from : Telling) (before : ℕ) (b : Bus A) (r : Recent A) (items : List (Recent A))
    (i place : ℕ) (e : Ear) → IsFromTurn from.frames b.recent.items items
    → AreLeft now from before b.ears.items b.recent.items (drop i items) → drop i items ≡ r ∷ drop (i + 1) items
    → IsDue now from before b.ears.items r place e → IsFirstEar now from before b.ears.items r place
    → IsNext now from before (b ∷ []) b r place e
next_from now from before b r items i place e t a is due ear =
    let same : drop i items ≡ drop (t.first + i) b.recent.items =
    ap (λ xs. drop i xs) t.left_is ∙ drop-drop i t.first b.recent.items in
    next_left b r (drop (i + 1) items) (t.first + i) place e
    (subst (λ xs. AreLeft now from before b.ears.items b.recent.items xs) same a) (sym same ∙ is) due ear

has_later : {X : Type 0} (xs : List X) (i k : ℕ) (x : X) → slice_get xs k ≡ Some x → i ≤ k → Has (drop i xs) x
has_later xs zero k x e le = has k e
has_later [] (suc i) k x e le = absurd (cc)
has_later (y ∷ xs) (suc i) zero x e le = absurd (omega (arith, le))
has_later (y ∷ xs) (suc i) (suc k) x e le = has_later xs i k x e (omega (arith, le))

-- a frame that was put out before a turn is due nowhere
early_nowhere : {A : Type 0} (now : ℕ) (from : Telling) (before : ℕ) (ears : List Ear) (s : Recent A)
    → turn_of s < from.frames → IsDueNowhere now from before ears s
early_nowhere now from before ears s lt = record {
  none = λ place e due. elim due.behind [
    | inl later ↦ omega (arith, lt, later)
    | inr here ↦ let is = here.0 in omega (arith, lt, is)
  ];
}

pub left_from : {A : Type 0} (now : ℕ) (from : Telling) (before : ℕ) (ears : List Ear) (rs items : List (Recent A))
    → IsFromTurn from.frames rs items → AreLeft now from before ears rs items
left_from now from before ears rs items t = record {
  left_of = λ s h. elim (cases_lt h.place t.first) [
    | inl lt ↦ inl (early_nowhere now from before ears s (subst (λ x. turn_of x < from.frames)
        (get_or_from_slice_get rs h.place s s h.at_place) (t.earlier h.place s (omega arith) lt)))
    | inr le ↦ inr (subst (λ xs. Has xs s) (sym t.left_is) (has_later rs t.first h.place s h.at_place le))
  ];
}

-- ears at which nothing waits, one by one
pub between_none : {A : Type 0} (now : ℕ) (ears : List Ear) (r : Recent A) (start : ℕ) → NoneBetween now ears r start start
between_none now ears r start = record { none = λ place e le lt there waits. omega (arith, le, lt) }

pub between_more : {A : Type 0} (now : ℕ) (ears : List Ear) (r : Recent A) (start place : ℕ) (e : Ear)
    → NoneBetween now ears r start place → slice_get ears place ≡ Some e → waits_at now e.address r ≡ false
    → NoneBetween now ears r start (place + 1)
between_more now ears r start place e n there waits = record {
  none = λ q f le lt is due. elim (cases_lt q place) [
    | inl before ↦ n.none q f le before is due
    | inr behind ↦ let same : q ≡ place = omega (arith, lt, behind) in
        let one : Some e ≡ Some f = sym there ∙ ap (λ i. slice_get ears i) (sym same) ∙ is in
        let ear : e ≡ f = cc in
        absurd (cc (waits, ap (λ x. waits_at now x.address r) ear, due))
  ];
}

pub between_all : {A : Type 0} (now : ℕ) (ears : List Ear) (r : Recent A) (start place : ℕ) → length ears ≤ place
    → NoneBetween now ears r start place → NoneBetween now ears r start (length ears)
between_all now ears r start place le n = record {
  none = λ q f from lt there due. n.none q f from (omega (arith, le, lt)) there due;
}

pub ruleset ear_rules = (between_none, between_more, between_all)

-- a frame that has no turn is due nowhere
pub no_turn : {A : Type 0} (now : ℕ) (from : Telling) (before : ℕ) (ears : List Ear) (r : Recent A)
    → HasNoTurn from r.sending.place.frames → IsDueNowhere now from before ears r
no_turn now from before ears r n = record { none = λ place e due. n.none place due.behind }

pub first_of_turn : {A : Type 0} (now : ℕ) (from : Telling) (before : ℕ) (ears : List Ear) (r : Recent A) (first place : ℕ)
    → BeginsAt from r.sending.place.frames first → NoneBetween now ears r first place
    → IsFirstEar now from before ears r place
first_of_turn now from before ears r first place b n = record {
  first = λ q e due. elim (cases_lt q place) [
    | inl lt ↦ absurd (n.none q e (b.not_before q due.behind) lt due.there due.waits)
    | inr le ↦ le
  ];
}

pub none_in_turn : {A : Type 0} (now : ℕ) (from : Telling) (before : ℕ) (ears : List Ear) (r : Recent A) (first : ℕ)
    → BeginsAt from r.sending.place.frames first → NoneBetween now ears r first (length ears)
    → IsDueNowhere now from before ears r
none_in_turn now from before ears r first b n = record {
  none = λ q e due. n.none q e (b.not_before q due.behind) (slice_get_within ears q e due.there) due.there due.waits;
}

pub ruleset turn_rules = (no_turn, first_of_turn, none_in_turn)

-- .. of one more of these buses
pub take_more : {X : Type 0} (xs : List X) (i : ℕ) (x : X) → i < length xs → x ≡ get_or xs i x → take (i + 1) xs ≡ take i xs ++ x ∷ []
take_more xs i x lt is = let more : i + 1 ≡ suc i = omega arith in
    ap (λ n. take n xs) more ∙ take-suc xs i x lt ∙ ap (λ y. take i xs ++ y ∷ []) (sym is)

pub told_by : {A : Type 0} (now : ℕ) (from : Telling) (before : ℕ) (buses : List (Bus A)) (o : Option (NextTold A))
    → IfSome o (λ n. IsNext now from before buses n.bus.now n.recent.now n.ear_place n.ear.now)
    → IfNone o (NoneWaits now from before buses) → IsTold now from before buses o
told_by now from before buses None next none = none
told_by now from before buses (Some n) next none = next

pub told_on : {A : Type 0} (now : ℕ) (from : Telling) (before : ℕ) (buses : List (Bus A)) (i : ℕ) (b : Bus A)
    (one other result : Option (NextTold A)) → i < length buses → b ≡ get_or buses i b
    → IsTold now from before (take i buses) one → IsTold now from before (b ∷ []) other → IsEarlier one other result
    → IsTold now from before (take (i + 1) buses) result
told_on now from before buses i b one other result lt is n m e =
    subst (λ xs. IsTold now from before xs result) (sym (take_more buses i b lt is))
    (told_more now from before (take i buses) b one other result n m e)
