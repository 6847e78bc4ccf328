-- The pairs that a list stands for, found from the front.
use Rattle.std.proofs.Common.{true, false, ◌≡◌, List, [], ◌∷◌, ◌++◌, ◌<◌, ℕ, arith, length, refl, Bool, ◌&&◌, sym, subst, ap, ◌∙◌, append_assoc}
use Rattle.std.proofs.lemmas.List.{append-nil}
use Rattle.octet_texts.specs.Lists.{is_prefixed, is_between, spaced, listed}

-- a text too short for 0x
pub short_text : (begins : Bool) (text : List ℕ) → length text < 2 → (begins && is_prefixed text) ≡ false
unfolding is_prefixed
short_text true [] lt = refl
short_text true (c ∷ []) lt = refl
short_text true (c ∷ d ∷ text) lt = absurd (omega (arith, lt))
short_text false text lt = refl

-- what is listed after a 0x
after_0x : (begins : Bool) (octet : List ℕ) → (begins && is_prefixed (48 ∷ 120 ∷ octet)) ≡ true →
    listed begins (48 ∷ 120 ∷ octet) ≡ listed false octet
unfolding listed
after_0x begins octet e = rw e refl

-- .. and after anything else
after_other : (begins : Bool) (c : ℕ) (after : List ℕ) → (begins && is_prefixed (c ∷ after)) ≡ false →
    listed begins (c ∷ after) ≡ spaced c after ∷ listed (is_between c) after
unfolding listed
after_other begins c [] e = refl
after_other begins c (d ∷ after) e = rw e refl

-- the same of what was listed so far
pub goes_on_prefixed : (begins : Bool) (out left octet whole : List ℕ) → out ++ listed begins left ≡ whole →
    (begins && is_prefixed left) ≡ true → left ≡ 48 ∷ 120 ∷ octet → out ++ listed false octet ≡ whole
goes_on_prefixed begins out left octet whole so_far prefixed e =
    ap (λ (x : List ℕ). out ++ x)
    (sym (after_0x begins octet (subst (λ (x : List ℕ). (begins && is_prefixed x) ≡ true) e prefixed)) ∙ ap (listed begins) (sym e))
    ∙ so_far

pub goes_on : (begins : Bool) (c : ℕ) (out left after whole : List ℕ) → out ++ listed begins left ≡ whole →
    (begins && is_prefixed left) ≡ false → left ≡ c ∷ after →
    (out ++ spaced c after ∷ []) ++ listed (is_between c) after ≡ whole
goes_on begins c out left after whole so_far unprefixed e =
    append_assoc out (spaced c after ∷ []) (listed (is_between c) after)
    ∙ ap (λ (x : List ℕ). out ++ x)
    (sym (after_other begins c after (subst (λ (x : List ℕ). (begins && is_prefixed x) ≡ false) e unprefixed)) ∙ ap (listed begins) (sym e))
    ∙ so_far

pub listed_whole : (begins : Bool) (out left whole : List ℕ) → out ++ listed begins left ≡ whole → length left < 1 → out ≡ whole
unfolding listed
listed_whole begins out [] whole so_far lt = sym (append-nil out) ∙ so_far
listed_whole begins out (c ∷ left) whole so_far lt = absurd (omega (arith, lt))
