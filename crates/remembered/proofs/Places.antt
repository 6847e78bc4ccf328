-- The place of the newest record of an asker.
use Rattle.std.proofs.Common.{◌≡◌, ◌∙◌, refl, sym, ap, ℕ, ◌+◌, ◌<◌, Bool, true, false, List, [], ◌∷◌, take, arith}
use Rattle.std.specs.Prelude.{Option, Some, None, suc, zero, length, option_map, slice_get, slice_set}
use Rattle.npdu.specs.declared.mac.Way.{Way}
use Rattle.segments.specs.Sender.{SenderState}
use Rattle.remembered.specs.declared.record.Asker.{Asker}
use Rattle.remembered.specs.declared.record.Record.{Record}
use Rattle.remembered.specs.Records.{is_of, later_or, newest, said_again, said_by, said_on, some_if}
use Rattle.remembered.specs.Keeping.{newest_place}
use Rattle.remembered.proofs.Keeping.{later_none, forgotten_next, forgotten_done, shorter, take_next, not_sent}

next_by : (b : Bool) (i : ℕ) (o c : Option ℕ) →
    later_or (option_map suc (later_or (some_if b i) o)) c ≡ later_or (some_if b (suc i)) (later_or (option_map suc o) c)
next_by true i o c = refl
next_by false i o c = refl

-- the newest among one more
pub place_next : {A : Type 0} (a : Asker) (rs : List (Record A)) (i : ℕ) (r : Record A) → slice_get rs i ≡ Some r →
    newest_place a (take (i + 1) rs) ≡ later_or (some_if (is_of a r) i) (newest_place a (take i rs))
place_next a [] i r e = absurd (cc e)
place_next {A} a (x ∷ rs) zero r e = ap (λ (y : Record A). some_if (is_of a y) 0) (the_same x r e) ∙ sym (later_none (some_if (is_of a r) 0))
  where
    the_same : (x r : Record A) → Some x ≡ Some r → x ≡ r
    the_same x r e = cc e
place_next a (x ∷ rs) (suc i) r e =
    let next : suc i + 1 ≡ suc (i + 1) = omega arith in
    ap (λ (n : ℕ). newest_place a (take n (x ∷ rs))) next
    ∙ ap (λ (o : Option ℕ). later_or (option_map suc o) (some_if (is_of a x) 0)) (place_next a rs i r e)
    ∙ next_by (is_of a r) i (newest_place a (take i rs)) (some_if (is_of a x) 0)

-- what stands at the place of the newest
abbrev IsAt : {A : Type 0} → List (Record A) → Option (Record A) → Option ℕ → Type 0
IsAt rs None None = Unit {0}
IsAt rs (Some x) (Some i) = slice_get rs i ≡ Some x
IsAt rs n o = ⊥

at_next : {A : Type 0} (r : Record A) (rs : List (Record A)) (n : Option (Record A)) (o : Option ℕ) (b : Bool) → IsAt rs n o →
    IsAt (r ∷ rs) (later_or n (some_if b r)) (later_or (option_map suc o) (some_if b 0))
at_next r rs None None true at = refl
at_next r rs None None false at = tt
at_next r rs (Some x) (Some i) b at = at
at_next r rs None (Some i) b at = absurd at
at_next r rs (Some x) None b at = absurd at

newest_is_at : {A : Type 0} (a : Asker) (rs : List (Record A)) → IsAt rs (newest a rs) (newest_place a rs)
newest_is_at a [] = tt
newest_is_at a (r ∷ rs) = at_next r rs (newest a rs) (newest_place a rs) (is_of a r) (newest_is_at a rs)

abbrev at_place : {A : Type 0} → List (Record A) → Option ℕ → Option (Record A)
at_place rs None = None
at_place rs (Some k) = slice_get rs k

there_by : {A : Type 0} (rs : List (Record A)) (n : Option (Record A)) (o : Option ℕ) (i : ℕ) → IsAt rs n o → o ≡ Some i → n ≡ slice_get rs i
there_by rs (Some x) (Some j) i at e = sym (ap (λ (k : Option ℕ). at_place rs k) (sym e) ∙ at)
there_by rs None None i at e = absurd (cc e)
there_by rs None (Some j) i at e = absurd at
there_by rs (Some x) None i at e = absurd at

pub newest_there : {A : Type 0} (a : Asker) (rs : List (Record A)) (i : ℕ) → newest_place a rs ≡ Some i → newest a rs ≡ slice_get rs i
newest_there a rs i e = there_by rs (newest a rs) (newest_place a rs) i (newest_is_at a rs) e

nowhere_by : {A : Type 0} (rs : List (Record A)) (n : Option (Record A)) (o : Option ℕ) → IsAt rs n o → o ≡ None → n ≡ None
nowhere_by rs None None at e = refl
nowhere_by rs (Some x) (Some i) at e = absurd (cc e)
nowhere_by rs None (Some i) at e = absurd at
nowhere_by rs (Some x) None at e = absurd at

pub newest_nowhere : {A : Type 0} (a : Asker) (rs : List (Record A)) → newest_place a rs ≡ None → newest a rs ≡ None
newest_nowhere a rs e = nowhere_by rs (newest a rs) (newest_place a rs) (newest_is_at a rs) e

within_by : (o : Option ℕ) (b : Bool) (n i : ℕ) → ((j : ℕ) → o ≡ Some j → j < n) → later_or (option_map suc o) (some_if b 0) ≡ Some i → i < suc n
within_by (Some j) b n i others e = let l = others j refl in let same : suc j ≡ i = cc e in omega (arith, l, same)
within_by None true n i others e = let same : 0 ≡ i = cc e in omega (arith, same)
within_by None false n i others e = absurd (cc e)

pub place_within : {A : Type 0} (a : Asker) (rs : List (Record A)) (i : ℕ) → newest_place a rs ≡ Some i → i < length rs
place_within a [] i e = absurd (cc e)
place_within a (r ∷ rs) i e = within_by (newest_place a rs) (is_of a r) (length rs) i (place_within a rs) e

said_there_by : {A : Type 0} (w : Way) (s : Option SenderState) (r x : Record A) (rs again : List (Record A)) (n : Option (Record A)) (o : Option ℕ)
    (b : Bool) (i : ℕ) → IsAt rs n o
    → ((j : ℕ) → o ≡ Some j → slice_get rs j ≡ Some x → again ≡ slice_set rs j (said_on w s x))
    → later_or (option_map suc o) (some_if b 0) ≡ Some i → slice_get (r ∷ rs) i ≡ Some x → said_by n b w s r rs again ≡ slice_set (r ∷ rs) i (said_on w s x)
said_there_by {A} w s r x rs again (Some y) (Some j) b i at others e is =
    let same : i ≡ suc j = cc e in
    let there : slice_get rs j ≡ Some x = ap (λ (k : ℕ). slice_get (r ∷ rs) k) (sym same) ∙ is in
    ap (λ (xs : List (Record A)). r ∷ xs) (others j refl there) ∙ ap (λ (k : ℕ). slice_set (r ∷ rs) k (said_on w s x)) (sym same)
said_there_by {A} w s r x rs again None None true i at others e is =
    let same : i ≡ 0 = cc e in
    let there : Some r ≡ Some x = ap (λ (k : ℕ). slice_get (r ∷ rs) k) (sym same) ∙ is in
    let one : r ≡ x = cc there in
    ap (λ (y : Record A). said_on w s y ∷ rs) one ∙ ap (λ (k : ℕ). slice_set (r ∷ rs) k (said_on w s x)) (sym same)
said_there_by w s r x rs again None None false i at others e is = absurd (cc e)
said_there_by w s r x rs again None (Some j) b i at others e is = absurd at
said_there_by w s r x rs again (Some y) None b i at others e is = absurd at

pub said_there : {A : Type 0} (a : Asker) (w : Way) (s : Option SenderState) (rs : List (Record A)) (i : ℕ) (x : Record A) → newest_place a rs ≡ Some i →
    slice_get rs i ≡ Some x → said_again a w s rs ≡ slice_set rs i (said_on w s x)
said_there a w s [] i x e is = absurd (cc e)
said_there a w s (r ∷ rs) i x e is =
    said_there_by w s r x rs (said_again a w s rs) (newest a rs) (newest_place a rs) (is_of a r) i (newest_is_at a rs)
    (λ j f there. said_there a w s rs j x f there) e is

pub said_nowhere : {A : Type 0} (a : Asker) (w : Way) (s : Option SenderState) (rs : List (Record A)) → newest_place a rs ≡ None → said_again a w s rs ≡ rs
said_nowhere a w s rs e = not_sent a w s rs (newest_nowhere a rs e)

pub ruleset place_rules = (place_next, forgotten_next, forgotten_done, shorter, take_next, newest_there, newest_nowhere, place_within, said_there, said_nowhere)
