-- Whether steps expect something, one after another.
use Rattle.std.proofs.Common.{◌≡◌, ◌∙◌, ◌⊎◌, inl, inr, ap, refl, subst, sym, ℕ, ◌≤◌, ◌<◌, ◌-◌, Bool, true, false, List, [], ◌∷◌, Option}
use Rattle.std.proofs.Common.{Some, None, arith, drop, get_or, length, take}
use Rattle.std.proofs.lemmas.List.{take_all}
use Rattle.runner.specs.world.site_events.declared.event.Event.TheVariants as event
use Rattle.script.specs.Expecting.{ExpectNothing, ExpectsNothing, HasNoExpectation}
use Rattle.script.specs.declared.step.Step.{Step}
use Rattle.script.specs.declared.step.Step.TheVariants as step
use Rattle.site_history.specs.Printed.{or_else}
use Rattle.site_live.specs.Steps.{AreLive, IsLive, SaysLive, mark_in, mark_of}

pub or_none : {X : Type 0} (a : Option X) → or_else a None ≡ a
or_none None = refl
or_none (Some x) = refl

or_assoc : {X : Type 0} (a b c : Option X) → or_else (or_else a b) c ≡ or_else a (or_else b c)
or_assoc None b c = refl
or_assoc (Some x) b c = refl

-- the mark of one before another, or else the one before both
goes_on : {X : Type 0} (a b c d all : Option X) → d ≡ or_else b c → or_else (or_else a b) c ≡ all →
    or_else a d ≡ all
goes_on {X} a b c d all is e = ap (λ (z : Option X). or_else a z) is ∙ sym (or_assoc a b c) ∙ e

rest_is : {X : Type 0} (x : X) (xs : List X) → take (length (x ∷ xs) - 1) (drop 1 (x ∷ xs)) ≡ xs
rest_is x xs = take_all (length (x ∷ xs) - 1) xs (omega arith)

-- a step is looked at: the mark of what is left, or else the one before, stays the same
pub mark_goes_on : {A : Type 0} (d : Step A) (xs : List (Step A)) (x : Step A) (before after all : Option ℕ) →
    x ≡ get_or xs 0 d → 1 ≤ length xs → after ≡ or_else (mark_of x) before → or_else (mark_in xs) before ≡ all →
    or_else (mark_in (take (length xs - 1) (drop 1 xs))) after ≡ all
mark_goes_on d [] x before after all is some look e = absurd (omega (arith, some))
mark_goes_on {A} d (y ∷ ys) x before after all is some look e =
    subst (λ (zs : List (Step A)). or_else (mark_in zs) after ≡ all) (sym (rest_is y ys))
    (goes_on (mark_in ys) (mark_of y) before after all (look ∙ ap (λ (z : Step A). or_else (mark_of z) before) is) e)

-- nothing is left
pub mark_ends : {A : Type 0} (xs : List (Step A)) (before all : Option ℕ) → length xs < 1 →
    or_else (mark_in xs) before ≡ all → before ≡ all
mark_ends [] before all few e = e
mark_ends (x ∷ xs) before all few e = absurd (omega (arith, few))

pub ruleset mark_laws = (or_none)

no_one : {A : Type 0} (s : Step A) → ExpectsNothing s → mark_of s ≡ None
unfolding mark_of
no_one (step.Expects e) none = absurd none
no_one (step.Happens e) none = refl
no_one (step.Flow n) none = refl
no_one (step.Disturbs f) none = refl
no_one (step.Shows name) none = refl

-- where nothing is expected, no step has a mark
none_marked : {A : Type 0} (ss : List (Step A)) → ExpectNothing ss → mark_in ss ≡ None
none_marked [] none = refl
none_marked (s ∷ ss) none =
    ap (λ (o : Option ℕ). or_else o (mark_of s)) (none_marked ss none.1) ∙ no_one s none.0

none_some : (n : ℕ) → None ≡ Some n → ⊥
none_some n e = cc

pub marked : {A : Type 0} (found : Option ℕ) (seen ss : List (Step A)) (n : ℕ) → found ≡ Some n → found ≡ mark_in seen →
    seen ≡ ss → ExpectNothing ss → true ≡ false
marked {A} found seen ss n some is same none =
    absurd (none_some n (sym (is ∙ (ap (λ (l : List (Step A)). mark_in l) same ∙ none_marked ss none)) ∙ some))

-- .. and the status is no more than 1
pub plain_status : {A : Type 0} (b : Bool) (status : ℕ) (ss : List (Step A)) → (ExpectNothing ss → b ≡ false) →
    (b ≡ false → status ≡ 0) → ExpectNothing ss → status ≤ 1
plain_status b status ss nothing plain none =
    let is_zero : status ≡ 0 = plain (nothing none) in omega (arith, is_zero)

still_nothing : {A : Type 0} (said live : Step A) → ExpectsNothing said → IsLive said live → ExpectsNothing live
still_nothing (step.Happens (event.Issue client instance request)) live none is =
    subst (λ (s : Step _). ExpectsNothing s) (sym is) tt
still_nothing (step.Happens (event.WhoIs client limits)) live none is =
    subst (λ (s : Step _). ExpectsNothing s) (sym is) tt
still_nothing (step.Happens (event.Register station)) live none is =
    subst (λ (s : Step _). ExpectsNothing s) (sym is) tt
still_nothing (step.Happens (event.Restart station)) live none is =
    subst (λ (s : Step _). ExpectsNothing s) (sym is) tt
still_nothing (step.Happens (event.Tick n)) live none is = subst (λ (s : Step _). ExpectsNothing s) (sym is) tt
still_nothing (step.Flow n) live none is = subst (λ (s : Step _). ExpectsNothing s) (sym is) tt
still_nothing (step.Happens (event.Wake station)) live none is = absurd is
still_nothing (step.Happens (event.Deliver number)) live none is = absurd is
still_nothing (step.Happens (event.Hear network station octets)) live none is = absurd is
still_nothing (step.Disturbs f) live none is = absurd is
still_nothing (step.Shows name) live none is = absurd is
still_nothing (step.Expects e) live none is = absurd none

-- steps that a live run takes expect nothing where those that are said don't
nothing_live : {A : Type 0} (said live : List (Step A)) → ExpectNothing said → AreLive said live → ExpectNothing live
nothing_live [] [] none are = tt
nothing_live [] (s ∷ ss) none are = absurd are
nothing_live (l ∷ ls) [] none are = absurd are
nothing_live (l ∷ ls) (s ∷ ss) none are = (still_nothing l s none.0 are.0, nothing_live ls ss none.1 are.1)

pub live_plain : {A : Type 0} (script : List ℕ) (steps : List (Step A)) → SaysLive script steps →
    HasNoExpectation A script → ExpectNothing steps
live_plain script steps s none = nothing_live s.said steps (none.none s.said s.says) s.live

-- a status of 1 is that of no run
pub not_run : {R : Type 0} (status : ℕ) → status ≡ 1 → (status ≡ 0) ⊎ (status ≡ 4) → R
not_run status one (inl zero) = absurd (omega (arith, one, zero))
not_run status one (inr four) = absurd (omega (arith, one, four))
