-- Waits that are counted entry by entry are those of the whole history, where that is legal: an answer closes its issue,
-- which stands before it, and nothing closed that before.
use Rattle.std.proofs.Common.{◌≡◌, ◌∙◌, refl, sym, ap, subst, arith, append_assoc, append-nil, ℕ, zero, suc, ◌+◌, ◌<◌, ◌≤◌, max, Bool, true, false, cond, List, [], ◌∷◌, ◌++◌, length, take, Option, Some, None}
use Rattle.std.proofs.Math.Seq.{take-append_seam}
use Rattle.std.proofs.lemmas.Bool.{eq-eqb, eqb-true}
use Rattle.std.proofs.lemmas.List.{length-append, take-append-le}
use Rattle.std.specs.Prelude.{◌==◌, not, slice_get}
use Rattle.std.specs.List.{AllByRecursion}
use Rattle.history.proofs.Lists.{count-append, get_added, get_same, one_counted}
use Rattle.history.specs.Legal.{AreClosedOnce, AreNumbered, StandAfterIssue, closes, is_issue, told_of}
use Rattle.history.specs.Lists.{count, first_of}
use Rattle.history.specs.declared.Entry.TheVariants as entry
use Rattle.npdu.specs.declared.mac.Station.{Station}
use Rattle.primitives.specs.declared.plain_data.Reply.{Reply}
use Rattle.primitives.specs.declared.plain_data.Request.{Request}
use Rattle.site_run.specs.simulator.carry_world.Laws.{IsLegal, Judged}
use Rattle.site_storm.specs.Waits.{WaitsState, WorldEntry, all_waits, at_most_one, greatest_of, greatest_wait, issue_moments, issued_at, moment_of, no_waits, since, wait_for, waits_after, with_answer, with_end, without}
use Rattle.site_storm.specs.declared.waits.OpenIssue.{OpenIssue}
use Rattle.storm.specs.world_log.Growing.{WorldHistory}

-- what stands between others
get_at : {X : Type 0} (xs ys : List X) (y : X) → slice_get (xs ++ (y ∷ ys)) (length xs) ≡ Some y
get_at [] ys y = refl
get_at (x ∷ xs) ys y = get_at xs ys y

-- fewer stand before one that is counted
fewer_before : {X : Type 0} (f : X → Bool) (xs : List X) (k : ℕ) (y : X) → slice_get xs k ≡ Some y → f y ≡ true →
    count f (take k xs) < count f xs
fewer_before f [] k y there is = absurd (cc there)
fewer_before f (x ∷ xs) zero y there is =
    let one = one_counted f (x ∷ xs) zero y there is in omega (arith, one)
fewer_before f (x ∷ xs) (suc k) y there is =
    let rest = fewer_before f xs k y there is in omega (arith, rest)

-- one more is counted by none
uncounted : (b : Bool) (m : ℕ) → m + (cond b 1 0 + 0) ≡ 0 → (b ≡ false) × (m ≡ 0)
uncounted true m e = absurd (omega (arith, e))
uncounted false m e = (refl, omega (arith, e))

counted_one : (b : Bool) (m : ℕ) → b ≡ true → cond b 1 0 + m ≡ 1 + m
counted_one b m is = ap (λ (c : Bool). cond c 1 0 + m) is

-- ---- open issues
moment_more : (n : ℕ) (os : List OpenIssue) (o : OpenIssue) →
    moment_of n (os ++ o ∷ []) ≡ first_of (moment_of n os) (cond (o.number == n) (Some o.moment) None)
moment_more n [] o = refl
moment_more n (p ∷ os) o = by_test (p.number == n) (moment_more n os o)
  where
    by_test : (b : Bool) →
        moment_of n (os ++ o ∷ []) ≡ first_of (moment_of n os) (cond (o.number == n) (Some o.moment) None) →
        cond b (Some p.moment) (moment_of n (os ++ o ∷ []))
        ≡ first_of (cond b (Some p.moment) (moment_of n os)) (cond (o.number == n) (Some o.moment) None)
    by_test true rest = refl
    by_test false rest = rest

without_other : (n k : ℕ) (os : List OpenIssue) → (n == k) ≡ false → moment_of k (without n os) ≡ moment_of k os
without_other n k [] apart = refl
without_other n k (o ∷ os) apart = by_test (o.number == n) refl (without_other n k os apart)
  where
    by_test : (b : Bool) → (o.number == n) ≡ b → moment_of k (without n os) ≡ moment_of k os →
        moment_of k (cond (not b) (o ∷ without n os) (without n os)) ≡ moment_of k (o ∷ os)
    by_test true is rest =
        let other : (o.number == k) ≡ false = ap (λ (m : ℕ). m == k) (eqb-true o.number n is) ∙ apart in
        rest ∙ sym (ap (λ (b : Bool). cond b (Some o.moment) (moment_of k os)) other)
    by_test false is rest = ap (λ (x : Option ℕ). cond (o.number == k) (Some o.moment) x) rest

module _ {A : Type 0} where
  -- ---- moments of issues, and waits, of one part behind another
  moments_both : (g h : WorldHistory A) → issue_moments (g ++ h) ≡ issue_moments g ++ issue_moments h
  moments_both [] h = refl
  moments_both (e ∷ g) h = ap (λ (l : List ℕ). at_most_one (issued_at e) ++ l) (moments_both g h)
      ∙ sym (append_assoc (at_most_one (issued_at e)) (issue_moments g) (issue_moments h))

  moments_more : (g : WorldHistory A) (e : WorldEntry A) →
      issue_moments (g ++ e ∷ []) ≡ issue_moments g ++ at_most_one (issued_at e)
  moments_more g e = moments_both g (e ∷ [])
      ∙ ap (λ (l : List ℕ). issue_moments g ++ l) (append-nil (at_most_one (issued_at e)))

  moments_counted : (h : WorldHistory A) → length (issue_moments h) ≡ count is_issue h
  moments_counted [] = refl
  moments_counted (entry.Issue number client instance request moment ∷ h) =
      let rest = moments_counted h in omega (arith, rest)
  moments_counted (entry.Executed number reply moment ∷ h) = let rest = moments_counted h in omega (arith, rest)
  moments_counted (entry.Answered number reply moment ∷ h) = let rest = moments_counted h in omega (arith, rest)
  moments_counted (entry.Ended number why moment ∷ h) = let rest = moments_counted h in omega (arith, rest)
  moments_counted (entry.Restarted instance moment ∷ h) = let rest = moments_counted h in omega (arith, rest)

  greatest_both : (ms : List ℕ) (g h : WorldHistory A) →
      greatest_of ms (g ++ h) ≡ max (greatest_of ms g) (greatest_of ms h)
  greatest_both ms [] h = omega arith
  greatest_both ms (e ∷ g) h = let rest = greatest_both ms g h in omega (arith, rest)

  greatest_more : (ms : List ℕ) (g : WorldHistory A) (e : WorldEntry A) →
      greatest_of ms (g ++ e ∷ []) ≡ max (wait_for ms e) (greatest_of ms g)
  greatest_more ms g e = let both = greatest_both ms g (e ∷ []) in omega (arith, both)

  -- an answer is of one of the first so many issues
  abbrev pub AnswersBelow : ℕ → WorldEntry A → Type 0
  AnswersBelow n (entry.Issue number client instance request moment) = Unit {0}
  AnswersBelow n (entry.Executed number reply moment) = Unit {0}
  AnswersBelow n (entry.Answered number reply moment) = number < n
  AnswersBelow n (entry.Ended number why moment) = Unit {0}
  AnswersBelow n (entry.Restarted instance moment) = Unit {0}

  below_on : (m n : ℕ) (e : WorldEntry A) → m ≤ n → AnswersBelow m e → AnswersBelow n e
  below_on m n (entry.Issue number client instance request moment) le b = tt
  below_on m n (entry.Executed number reply moment) le b = tt
  below_on m n (entry.Answered number reply moment) le b = omega (arith, le, b)
  below_on m n (entry.Ended number why moment) le b = tt
  below_on m n (entry.Restarted instance moment) le b = tt

  all_below : (m n : ℕ) (h : WorldHistory A) (e : WorldEntry A) → m ≤ n → AllByRecursion (AnswersBelow m) h →
      AnswersBelow n e → AllByRecursion (AnswersBelow n) (h ++ e ∷ [])
  all_below m n [] e le all one = (one, tt)
  all_below m n (f ∷ h) e le all one = (below_on m n f le (all.0), all_below m n h e le (all.1) one)

  same_wait : (ms more : List ℕ) (e : WorldEntry A) → AnswersBelow (length ms) e →
      wait_for (ms ++ more) e ≡ wait_for ms e
  same_wait ms more (entry.Issue number client instance request moment) b = refl
  same_wait ms more (entry.Executed number reply moment) b = refl
  same_wait ms more (entry.Answered number reply moment) b =
      ap (λ (o : Option ℕ). since o moment) (get_same ms more number b)
  same_wait ms more (entry.Ended number why moment) b = refl
  same_wait ms more (entry.Restarted instance moment) b = refl

  same_greatest : (ms more : List ℕ) (h : WorldHistory A) → AllByRecursion (AnswersBelow (length ms)) h →
      greatest_of (ms ++ more) h ≡ greatest_of ms h
  same_greatest ms more [] all = refl
  same_greatest ms more (e ∷ h) all =
      ap (λ (n : ℕ). max n (greatest_of (ms ++ more) h)) (same_wait ms more e (all.0))
      ∙ ap (λ (n : ℕ). max (wait_for ms e) n) (same_greatest ms more h (all.1))

  -- what is counted of a history: the moment of each issue that isn't closed, and the greatest wait
  pub record AreWaitsOf (h : WorldHistory A) (w : WaitsState) : Type 0 where
    pub moments : (n : ℕ) → count (closes n) h ≡ 0 → moment_of n w.issues ≡ slice_get (issue_moments h) n
    pub below : AllByRecursion (AnswersBelow (length (issue_moments h))) h
    pub greatest : w.greatest ≡ greatest_wait h

  pub none_waits : AreWaitsOf [] no_waits
  none_waits = record { moments = λ n none. refl; below = tt; greatest = refl }

  -- so much of what is legal is used
  pub record IsGood (h : WorldHistory A) : Type 0 where
    pub numbered : AreNumbered h
    pub after_issue : StandAfterIssue h
    pub closed : AreClosedOnce h

  pub good_of : (instances : List ℕ) (h : WorldHistory A) (devices : List (Judged A)) → IsLegal instances h devices →
      IsGood h
  good_of instances h devices legal =
      record { numbered = legal.numbered; after_issue = legal.after_issue; closed = legal.closed }

  -- an entry stands behind those that were counted, and others behind it
  module _ (past rest : WorldHistory A) (e : WorldEntry A) (good : IsGood (past ++ (e ∷ rest))) where
    -- the number of an issue is how many there were before it
    its_number : (i : ℕ) (client : Station) (instance : ℕ) (q : Request A) (t : ℕ) →
        e ≡ entry.Issue i client instance q t → length (issue_moments past) ≡ i
    its_number i client instance q t is =
        moments_counted past
        ∙ sym (ap (λ (l : WorldHistory A). count is_issue l) (take-append_seam past (e ∷ rest)))
        ∙ good.numbered (length past) i client instance q t
        (get_at past rest e ∙ ap (λ (x : WorldEntry A). Some x) is)

    -- what is told of an issue stands behind it
    its_issue : (n : ℕ) → told_of e ≡ Some n → n < length (issue_moments past)
    its_issue n told =
        let b = good.after_issue (length past) n e (get_at past rest e) told in
        let k = b.there.place in
        let there : slice_get past k ≡ Some (entry.Issue n b.client b.instance b.request b.moment) =
        sym (get_same past (e ∷ rest) k b.before) ∙ b.there.at_place in
        let before : count is_issue (take k past) ≡ n =
        sym (ap (λ (l : WorldHistory A). count is_issue l)
        (take-append-le k past (e ∷ rest) (let lt = b.before in omega (arith, lt))))
        ∙ good.numbered k n b.client b.instance b.request b.moment b.there.at_place in
        let fewer = fewer_before is_issue past k (entry.Issue n b.client b.instance b.request b.moment) there refl in
        let all = moments_counted past in
        omega (arith, before, fewer, all)

    -- no issue is closed twice
    its_closing : (n : ℕ) → closes n e ≡ true → count (closes n) past ≡ 0
    its_closing n is =
        let most = good.closed n in
        let sum : count (closes n) (past ++ (e ∷ rest))
        ≡ count (closes n) past + (cond (closes n e) 1 0 + count (closes n) rest) =
        count-append (closes n) past (e ∷ rest) in
        let one = counted_one (closes n e) (count (closes n) rest) is in
        omega (arith, most, sum, one)

  -- where an issue isn't closed, it wasn't before, and the entry doesn't close it
  still_open : (past : WorldHistory A) (e : WorldEntry A) (n : ℕ) → count (closes n) (past ++ e ∷ []) ≡ 0 →
      (closes n e ≡ false) × (count (closes n) past ≡ 0)
  still_open past e n none = uncounted (closes n e) (count (closes n) past)
      (let sum : count (closes n) (past ++ e ∷ []) ≡ count (closes n) past + (cond (closes n e) 1 0 + 0) =
      count-append (closes n) past (e ∷ []) in sym sum ∙ none)

  -- an entry that is no issue leaves the moments
  no_moment : (past : WorldHistory A) (e : WorldEntry A) → issued_at e ≡ None →
      issue_moments (past ++ e ∷ []) ≡ issue_moments past
  no_moment past e none = moments_more past e
      ∙ ap (λ (o : Option ℕ). issue_moments past ++ at_most_one o) none ∙ append-nil (issue_moments past)

  -- .. and where it is no answer either, the waits
  module _ (past : WorldHistory A) (e : WorldEntry A) (w v : WaitsState) (p : AreWaitsOf past w)
      (none : issued_at e ≡ None) where
    no_issue : AnswersBelow (length (issue_moments past)) e →
        ((n : ℕ) → count (closes n) (past ++ e ∷ []) ≡ 0 → moment_of n v.issues ≡ moment_of n w.issues) →
        v.greatest ≡ max (wait_for (issue_moments past) e) w.greatest → AreWaitsOf (past ++ e ∷ []) v
    no_issue below kept greatest =
        let same = no_moment past e none in record {
          moments = λ n is. kept n is ∙ p.moments n (still_open past e n is).1
              ∙ ap (λ (ms : List ℕ). slice_get ms n) (sym same);
          below = all_below (length (issue_moments past)) (length (issue_moments (past ++ e ∷ []))) past e
              (let count : length (issue_moments (past ++ e ∷ [])) ≡ length (issue_moments past) =
              ap (λ (ms : List ℕ). length ms) same in omega (arith, count)) p.below
              (subst (λ (ms : List ℕ). AnswersBelow (length ms) e) (sym same) below);
          greatest = greatest ∙ ap (λ (n : ℕ). max (wait_for (issue_moments past) e) n) p.greatest
              ∙ sym (greatest_more (issue_moments past) past e)
              ∙ ap (λ (ms : List ℕ). greatest_of ms (past ++ e ∷ [])) (sym same);
        }

  -- one more entry
  waits_on : (past rest : WorldHistory A) (e : WorldEntry A) (w : WaitsState) → IsGood (past ++ (e ∷ rest)) →
      AreWaitsOf past w → AreWaitsOf (past ++ e ∷ []) (waits_after e w)
  waits_on past rest (entry.Issue i client instance q t) w good p =
      let e : WorldEntry A = entry.Issue i client instance q t in
      let ms = issue_moments past in
      let number : length ms ≡ i = its_number past rest e good i client instance q t refl in
      let all : issue_moments (past ++ e ∷ []) ≡ ms ++ t ∷ [] = moments_more past e in record {
        moments = λ n none.
            moment_more n w.issues (record { number = i; moment = t })
            ∙ ap (λ (o : Option ℕ). first_of o (cond (i == n) (Some t) None)) (p.moments n (still_open past e n none).1)
            ∙ ap (λ (k : ℕ). first_of (slice_get ms n) (cond (k == n) (Some t) None)) (sym number)
            ∙ sym (get_added ms t n)
            ∙ ap (λ (l : List ℕ). slice_get l n) (sym all);
        below = all_below (length ms) (length (issue_moments (past ++ e ∷ []))) past e
            (let count : length (issue_moments (past ++ e ∷ [])) ≡ length (ms ++ t ∷ []) =
            ap (λ (l : List ℕ). length l) all in
            let more : length (ms ++ t ∷ []) ≡ length ms + length (t ∷ []) = length-append ms (t ∷ []) in
            omega (arith, count, more)) p.below tt;
        greatest = p.greatest ∙ sym (same_greatest ms (t ∷ []) past p.below)
            ∙ (let none : greatest_of (ms ++ t ∷ []) past ≡ max 0 (greatest_of (ms ++ t ∷ []) past) = omega arith in none)
            ∙ sym (greatest_more (ms ++ t ∷ []) past e)
            ∙ ap (λ (l : List ℕ). greatest_of l (past ++ e ∷ [])) (sym all);
      }
  waits_on past rest (entry.Answered n r t) w good p =
      let e : WorldEntry A = entry.Answered n r t in
      no_issue past e w (with_answer n t w) p refl (its_issue past rest e good n refl)
      (λ k none. without_other n k w.issues (still_open past e k none).0)
      (ap (λ (o : Option ℕ). max (since o t) w.greatest)
      (p.moments n (its_closing past rest e good n (eq-eqb n n refl))))
  waits_on past rest (entry.Ended n why t) w good p =
      let e : WorldEntry A = entry.Ended n why t in
      no_issue past e w (with_end n w) p refl tt
      (λ k none. without_other n k w.issues (still_open past e k none).0)
      (let same : w.greatest ≡ max 0 w.greatest = omega arith in same)
  waits_on past rest (entry.Executed n r t) w good p =
      no_issue past (entry.Executed n r t) w w p refl tt (λ k none. refl)
      (let same : w.greatest ≡ max 0 w.greatest = omega arith in same)
  waits_on past rest (entry.Restarted instance t) w good p =
      no_issue past (entry.Restarted instance t) w w p refl tt (λ k none. refl)
      (let same : w.greatest ≡ max 0 w.greatest = omega arith in same)

  -- .. and all that stand behind those that were counted
  pub all_waits_on : (past rest : WorldHistory A) (w : WaitsState) → IsGood (past ++ rest) → AreWaitsOf past w →
      AreWaitsOf (past ++ rest) (all_waits rest w)
  all_waits_on past [] w good p =
      subst (λ (h : WorldHistory A). AreWaitsOf h w) (sym (append-nil past)) p
  all_waits_on past (e ∷ rest) w good p =
      let same : (past ++ e ∷ []) ++ rest ≡ past ++ (e ∷ rest) = append_assoc past (e ∷ []) rest in
      subst (λ (h : WorldHistory A). AreWaitsOf h (all_waits rest (waits_after e w))) same
      (all_waits_on (past ++ e ∷ []) rest (waits_after e w)
      (subst (λ (h : WorldHistory A). IsGood h) (sym same) good) (waits_on past rest e w good p))

  -- of a whole history
  pub wait_counted : (h : WorldHistory A) (first last : WaitsState) (instances : List ℕ) (devices : List (Judged A)) →
      IsLegal instances h devices → first ≡ no_waits → last ≡ all_waits h first → last.greatest ≡ greatest_wait h
  wait_counted h first last instances devices legal begins ends =
      ap (λ (w : WaitsState). w.greatest) (ends ∙ ap (λ (w : WaitsState). all_waits h w) begins)
      ∙ (all_waits_on [] h no_waits (good_of instances h devices legal) none_waits).greatest
