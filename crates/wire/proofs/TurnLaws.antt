-- Sockets in the order in which they are asked.
use Rattle.std.proofs.Common.{◌≡◌, sym, ap, subst, ℕ, ◌+◌, ◌-◌, ◌*◌, ◌≤◌, ◌<◌, inl, inr, Bool, true, length, arith, zero, suc, [], ◌∷◌, refl, ◌∙◌, List}
use Rattle.std.specs.Prelude.{Some, nat_le, slice_get, slice_set, if◌then◌else◌}
use Rattle.std.proofs.lemmas.Bool.Decides.{eqb_tells, leb_tells}
use Rattle.std.proofs.lemmas.List.{length-set}
use Rattle.std.proofs.lemmas.Option.{slice_get_within}
use Rattle.wire.specs.Turns.{AreUnmarked, IsFirstIn, IsInRange, IsNext, IsQuiet, IsReady, MAX_IN_ROW, TurnsState, ahead, brought, held, marked, passed, waits, MayHaveMore}

-- a place from the turn on is as far ahead as it is behind the turn ..
ahead_from : (s : TurnsState) (p : ℕ) → s.turn ≤ p → ahead p s ≡ p - s.turn
ahead_from s p le = elim (leb_tells s.turn p) [
  | inl w ↦ ap (λ (b : Bool). if b then p - s.turn else p + length s.ready - s.turn) w.0
  | inr w ↦ absurd (omega (arith, le, w.1))
]

-- .. and one before it comes behind the last one
ahead_before : (s : TurnsState) (p : ℕ) → p < s.turn → ahead p s ≡ p + length s.ready - s.turn
ahead_before s p lt = elim (leb_tells s.turn p) [
  | inl w ↦ absurd (omega (arith, lt, w.1))
  | inr w ↦ ap (λ (b : Bool). if b then p - s.turn else p + length s.ready - s.turn) w.0
]

-- the first that is marked from the turn on is asked next
pub next_from : (s : TurnsState) (p : ℕ) → IsInRange s → IsFirstIn s.ready s.turn (length s.ready) p → IsNext p s
next_from s p r h = record {
  ready = h.marked;
  first = λ o ready. elim (leb_tells s.turn o) [
    | inl w ↦ elim (leb_tells p o) [
      | inl v ↦ let a = ahead_from s p h.least in let b = ahead_from s o (w.1) in omega (arith, a, b, v.1)
      | inr v ↦ absurd (h.before.none o (w.1) (v.1) ready)
    ]
    | inr w ↦ let a = ahead_from s p h.least in let b = ahead_before s o (w.1) in let m = h.most in let t = r.turn in omega (arith, a, b, w.1, m, t)
  ];
}

-- .. or, where none is, the first of those before it
pub next_before : (s : TurnsState) (p : ℕ) → IsInRange s → AreUnmarked s.ready s.turn (length s.ready) →
    IsFirstIn s.ready 0 s.turn p → IsNext p s
next_before s p r none h = record {
  ready = h.marked;
  first = λ o ready. elim (leb_tells s.turn o) [
    | inl w ↦ absurd (none.none o (w.1) (slice_get_within s.ready o true ready) ready)
    | inr w ↦ elim (leb_tells p o) [
      | inl v ↦ let a = ahead_before s p h.most in let b = ahead_before s o (w.1) in omega (arith, a, b, v.1)
      | inr v ↦ absurd (h.before.none o (omega arith) (v.1) ready)
    ]
  ];
}

-- .. and where none is before it either, none may have a datagram
pub quiet : (s : TurnsState) → AreUnmarked s.ready s.turn (length s.ready) → AreUnmarked s.ready 0 s.turn → IsQuiet s
quiet s behind before = record {
  none = λ o ready. elim (leb_tells s.turn o) [
    | inl w ↦ behind.none o (w.1) (slice_get_within s.ready o true ready) ready
    | inr w ↦ before.none o (omega arith) (w.1) ready
  ];
}

pub ruleset next_rules = (next_from, next_before, quiet)

-- the turn of a place, with so many in a row
abbrev at_turn : TurnsState → ℕ → ℕ → TurnsState
at_turn s t n = record { ready = s.ready; turn = t; in_row = n }

-- a place is nearer by as much as the turn has come on, where it has come to one that is ahead of it ..
nearer_at : (s : TurnsState) (p o n : ℕ) → s.turn ≤ length s.ready → p < length s.ready → o < length s.ready →
    ahead o s ≤ ahead p s → ahead p (at_turn s o n) + ahead o s ≡ ahead p s
nearer_at s p o n t bp bo le = elim (leb_tells s.turn o) [
  | inl w ↦ let b = ahead_from s o (w.1) in elim (leb_tells s.turn p) [
    | inl v ↦ let a = ahead_from s p (v.1) in let c = ahead_from (at_turn s o n) p (omega (arith, a, b, le, w.1, v.1)) in omega (arith, a, b, c, le, w.1, v.1)
    | inr v ↦ let a = ahead_before s p (v.1) in let c = ahead_before (at_turn s o n) p (omega (arith, w.1, v.1)) in omega (arith, a, b, c, t, bo, w.1, v.1)
  ]
  | inr w ↦ let b = ahead_before s o (w.1) in elim (leb_tells s.turn p) [
    | inl v ↦ let a = ahead_from s p (v.1) in absurd (omega (arith, a, b, le, t, bp, w.1, v.1))
    | inr v ↦ let a = ahead_before s p (v.1) in let c = ahead_from (at_turn s o n) p (omega (arith, a, b, le, t, w.1, v.1)) in omega (arith, a, b, c, t, le, w.1, v.1)
  ]
]

-- .. and by one more where it has passed it
nearer_past : (s : TurnsState) (p o n : ℕ) → s.turn ≤ length s.ready → p < length s.ready → o < length s.ready →
    (o ≡ p → ⊥) → ahead o s ≤ ahead p s → ahead p (at_turn s (o + 1) n) + (ahead o s + 1) ≡ ahead p s
nearer_past s p o n t bp bo other le = elim (leb_tells s.turn o) [
  | inl w ↦ let b = ahead_from s o (w.1) in elim (leb_tells s.turn p) [
    | inl v ↦ let a = ahead_from s p (v.1) in elim (eqb_tells o p) [
      | inl u ↦ absurd (other (u.1))
      | inr u ↦ let d = apart o p (u.1) (omega (arith, a, b, le, w.1, v.1)) in let c = ahead_from (at_turn s (o + 1) n) p (omega (arith, d)) in omega (arith, a, b, c, d, le, w.1, v.1)
    ]
    | inr v ↦ let a = ahead_before s p (v.1) in let c = ahead_before (at_turn s (o + 1) n) p (omega (arith, w.1, v.1)) in omega (arith, a, b, c, t, bo, w.1, v.1)
  ]
  | inr w ↦ let b = ahead_before s o (w.1) in elim (leb_tells s.turn p) [
    | inl v ↦ let a = ahead_from s p (v.1) in absurd (omega (arith, a, b, le, t, bp, w.1, v.1))
    | inr v ↦ let a = ahead_before s p (v.1) in elim (eqb_tells o p) [
      | inl u ↦ absurd (other (u.1))
      | inr u ↦ let d = apart o p (u.1) (omega (arith, a, b, le, t, w.1, v.1)) in let c = ahead_from (at_turn s (o + 1) n) p (omega (arith, d)) in omega (arith, a, b, c, d, t, le, w.1, v.1)
    ]
  ]
]
  where
    apart : (a b : ℕ) → (a ≡ b → ⊥) → a ≤ b → a < b
    apart a b ne le = elim (leb_tells b a) [
      | inl w ↦ absurd (ne (omega (arith, le, w.1)))
      | inr w ↦ w.1
    ]

-- what a place waits for falls where another one is passed
pub falls_past : (s : TurnsState) (p o : ℕ) → IsInRange s → IsReady p s → IsNext o s → (o ≡ p → ⊥) →
    waits p (passed o s) < waits p s
falls_past s p o r ready next other =
    let bp = slice_get_within s.ready p true ready in
    let bo = slice_get_within s.ready o true next.ready in
    let c = nearer_past s p o 0 r.turn bp bo other (next.first p ready) in
    let i = r.in_row in omega (arith, c, i)

-- .. and where another one brought a datagram
pub falls_at : (s : TurnsState) (p o : ℕ) → IsInRange s → IsReady p s → IsNext o s → (o ≡ p → ⊥) →
    waits p (brought o s) < waits p s
falls_at s p o r ready next other =
    let bp = slice_get_within s.ready p true ready in
    let bo = slice_get_within s.ready o true next.ready in
    let i = r.in_row in
    elim (eqb_tells o s.turn) [
      | inl w ↦ subst (λ (b : Bool). waits p (held o (if b then s.in_row + 1 else 1) s) < waits p s) (sym (w.0))
          (elim (leb_tells MAX_IN_ROW (s.in_row + 1)) [
            | inl v ↦ subst (λ (b : Bool). waits p (if b then passed o s else at_turn s o (s.in_row + 1)) < waits p s) (sym (v.0)) (falls_past s p o r ready next other)
            | inr v ↦ subst (λ (b : Bool). waits p (if b then passed o s else at_turn s o (s.in_row + 1)) < waits p s) (sym (v.0))
                (let c = nearer_at s p o (s.in_row + 1) r.turn bp bo (next.first p ready) in let d = v.1 in omega (arith, c, i, d))
          ])
      | inr w ↦ subst (λ (b : Bool). waits p (held o (if b then s.in_row + 1 else 1) s) < waits p s) (sym (w.0))
          (let c = nearer_at s p o 1 r.turn bp bo (next.first p ready) in
          elim (leb_tells (ahead o s) 0) [
            | inl v ↦ let n = none_in_row s o r bo (w.1) (v.1) in omega (arith, c, n)
            | inr v ↦ let d = v.1 in omega (arith, c, d, i)
          ])
    ]
  where
    -- where another place than the turn's is asked first, the turn is behind the last one
    none_in_row : (s : TurnsState) (o : ℕ) → IsInRange s → o < length s.ready → (o ≡ s.turn → ⊥) → ahead o s ≤ 0 →
        s.in_row ≡ 0
    none_in_row s o r bo ne none = elim (leb_tells s.turn o) [
      | inl w ↦ let b = ahead_from s o (w.1) in absurd (ne (omega (arith, b, none, w.1)))
      | inr w ↦ let b = ahead_before s o (w.1) in let t = r.turn in r.behind (omega (arith, b, none, t, w.1, bo))
    ]

-- a mark changes nothing of it
pub stays : (s : TurnsState) (mark : Bool) (p o : ℕ) → waits p (marked mark o s) ≡ waits p s
stays s mark p o = ap (λ (n : ℕ). MAX_IN_ROW * ((if nat_le s.turn p then p - s.turn else p + n - s.turn) + 1) - s.in_row) (length-set s.ready o mark)

-- .. and it never is more than so much for each socket
pub at_most : (s : TurnsState) (p : ℕ) → IsInRange s → IsReady p s → waits p s ≤ MAX_IN_ROW * length s.ready
at_most s p r ready = let bp = slice_get_within s.ready p true ready in elim (leb_tells s.turn p) [
  | inl w ↦ let a = ahead_from s p (w.1) in omega (arith, a, bp)
  | inr w ↦ let a = ahead_before s p (w.1) in let t = r.turn in omega (arith, a, bp, t, w.1)
]

pub ruleset fairness = (falls_at, falls_past, stays, at_most)

-- nothing was told
pub no_more : (s : TurnsState) → MayHaveMore s s
no_more s = record { kept = λ p h. h; count = refl; turn = refl; in_row = refl }

-- what was told before and what is told then
pub more_and_more : (a b c : TurnsState) → MayHaveMore a b → MayHaveMore b c → MayHaveMore a c
more_and_more a b c p q = record {
  kept = λ o h. q.kept o (p.kept o h);
  count = q.count ∙ p.count;
  turn = q.turn ∙ p.turn;
  in_row = q.in_row ∙ p.in_row;
}

-- a mark takes none away
kept_by : (xs : List Bool) (o p : ℕ) → slice_get xs p ≡ Some true → slice_get (slice_set xs o true) p ≡ Some true
kept_by [] o p h = h
kept_by (x ∷ xs) zero zero h = refl
kept_by (x ∷ xs) zero (suc p) h = h
kept_by (x ∷ xs) (suc o) zero h = h
kept_by (x ∷ xs) (suc o) (suc p) h = kept_by xs o p h

-- one socket more is told of
pub one_more : (a b : TurnsState) (o : ℕ) → MayHaveMore a b → MayHaveMore a (marked true o b)
one_more a b o h = more_and_more a b (marked true o b) h (record {
  kept = λ p r. kept_by b.ready o p r;
  count = length-set b.ready o true;
  turn = refl;
  in_row = refl;
})

pub ruleset more_rules = (no_more, more_and_more, one_more)
