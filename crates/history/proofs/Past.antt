-- Lemmas on what the issues of a growing history name, and on what a device went through.
use Rattle.std.proofs.Common.{◌≡◌, ℕ, Bool, true, false, cond, List, [], ◌∷◌, ◌++◌, Some, None, refl, sym, ap, ◌∙◌}
use Rattle.std.specs.Prelude.{Option, ◌==◌}
use Rattle.history.specs.declared.Entry.{Entry}
use Rattle.history.specs.declared.Entry.TheVariants.{Issue, Executed, Answered, Ended, Restarted}
use Rattle.history.specs.Lists.{Has, first_of}
use Rattle.history.specs.Legal.{is_issue, Named, named_by, named_in, Past, Did, Anew, done_at, past_of, Replays}
use Rattle.history.proofs.Lists.{has, has_next}

first_assoc : {X : Type 0} (a b c : Option X) → first_of a (first_of b c) ≡ first_of (first_of a b) c
first_assoc None b c = refl
first_assoc (Some x) b c = refl

first_none : {X : Type 0} (a : Option X) → first_of a None ≡ a
first_none None = refl
first_none (Some x) = refl

named_append : {S Q R : Type 0} (h : List (Entry S Q R)) (e : Entry S Q R) (i : ℕ) → named_in (h ++ e ∷ []) i ≡ first_of (named_in h i) (named_by i e)
named_append [] e i = first_none (named_by i e)
named_append (f ∷ h) e i = ap (first_of (named_by i f)) (named_append h e i) ∙ first_assoc (named_by i f) (named_in h i) (named_by i e)

names_none : {S Q R : Type 0} (e : Entry S Q R) (i : ℕ) → is_issue e ≡ false → named_by i e ≡ None
names_none (Issue j c n q at) i h = absurd (cc)
names_none (Executed j r at) i h = refl
names_none (Answered j r at) i h = refl
names_none (Ended j why at) i h = refl
names_none (Restarted n at) i h = refl

-- an entry that is no issue names nothing
pub named_entered : {S Q R : Type 0} (h : List (Entry S Q R)) (e : Entry S Q R) (i : ℕ) → is_issue e ≡ false → named_in (h ++ e ∷ []) i ≡ named_in h i
named_entered h e i other = named_append h e i ∙ ap (first_of (named_in h i)) (names_none e i other) ∙ first_none (named_in h i)

-- one more issue
pub named_issued : {S Q R : Type 0} (h : List (Entry S Q R)) (j : ℕ) (c : S) (n : ℕ) (q : Q) (at i : ℕ) →
    named_in (h ++ Issue j c n q at ∷ []) i ≡ first_of (named_in h i) (cond (j == i) (Some (record { instance = n; request = q })) None)
named_issued h j c n q at i = named_append h (Issue j c n q at) i

done_append : {Q R : Type 0} (n : ℕ) (o : Option (Named Q)) (r : R) (xs ys : List (Past Q R)) → done_at n o r xs ++ ys ≡ done_at n o r (xs ++ ys)
done_append n None r xs ys = refl
done_append {Q} {R} n (Some x) r xs ys = by_test (x.instance == n)
  where
    by_test : (b : Bool) → cond b (Did x.request r ∷ xs) xs ++ ys ≡ cond b (Did x.request r ∷ (xs ++ ys)) (xs ++ ys)
    by_test true = refl
    by_test false = refl

anew_append : {Q R : Type 0} (b : Bool) (xs ys : List (Past Q R)) → cond b (Anew ∷ xs) xs ++ ys ≡ cond b (Anew ∷ (xs ++ ys)) (xs ++ ys)
anew_append true xs ys = refl
anew_append false xs ys = refl

pub past_append : {S Q R : Type 0} (n : ℕ) (named : ℕ → Option (Named Q)) (h more : List (Entry S Q R)) →
    past_of n named (h ++ more) ≡ past_of n named h ++ past_of n named more
past_append n named [] more = refl
past_append n named (Issue i c m q at ∷ h) more = past_append n named h more
past_append n named (Executed i r at ∷ h) more =
    ap (done_at n (named i) r) (past_append n named h more) ∙ sym (done_append n (named i) r (past_of n named h) (past_of n named more))
past_append n named (Answered i r at ∷ h) more = past_append n named h more
past_append n named (Ended i why at ∷ h) more = past_append n named h more
past_append n named (Restarted m at ∷ h) more =
    ap (λ l. cond (m == n) (Anew ∷ l) l) (past_append n named h more) ∙ sym (anew_append (m == n) (past_of n named h) (past_of n named more))

-- where the executed issues name the same, it is the same
pub past_named : {S Q R : Type 0} (n : ℕ) (named other : ℕ → Option (Named Q)) (h : List (Entry S Q R)) →
    ((i : ℕ) (r : R) (t : ℕ) → Has h (Executed i r t) → named i ≡ other i) → past_of n named h ≡ past_of n other h
past_named n named other [] w = refl
past_named n named other (Issue i c m q at ∷ h) w = past_named n named other h (λ i r t k. w i r t (has_next _ h k))
past_named n named other (Executed i r at ∷ h) w =
    ap (λ o. done_at n o r (past_of n named h)) (w i r at (has 0 refl))
    ∙ ap (done_at n (other i) r) (past_named n named other h (λ i r t k. w i r t (has_next _ h k)))
past_named n named other (Answered i r at ∷ h) w = past_named n named other h (λ i r t k. w i r t (has_next _ h k))
past_named n named other (Ended i why at ∷ h) w = past_named n named other h (λ i r t k. w i r t (has_next _ h k))
past_named n named other (Restarted m at ∷ h) w = ap (λ l. cond (m == n) (Anew ∷ l) l) (past_named n named other h (λ i r t k. w i r t (has_next _ h k)))

-- one more execution, or a restart
pub replays_more : {Q R T : Type 0} (reply : T → Q → R) (after : T → Q → T) (o t : T) (xs : List (Past Q R)) (f : T) (q : Q) (r : R) →
    Replays reply after o t xs f → r ≡ reply f q → Replays reply after o t (xs ++ Did q r ∷ []) (after f q)
replays_more reply after o t [] f q r h e = (e ∙ ap (λ z. reply z q) h, ap (λ z. after z q) h)
replays_more reply after o t (Did k u ∷ xs) f q r h e = (h.0, replays_more reply after o (after t k) xs f q r h.1 e)
replays_more reply after o t (Anew ∷ xs) f q r h e = replays_more reply after o o xs f q r h e

pub replays_anew : {Q R T : Type 0} (reply : T → Q → R) (after : T → Q → T) (o t : T) (xs : List (Past Q R)) (f : T) → Replays reply after o t xs f →
    Replays reply after o t (xs ++ Anew ∷ []) o
replays_anew reply after o t [] f h = refl
replays_anew reply after o t (Did k u ∷ xs) f h = (h.0, replays_anew reply after o (after t k) xs f h.1)
replays_anew reply after o t (Anew ∷ xs) f h = replays_anew reply after o o xs f h
