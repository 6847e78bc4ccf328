-- Lists are written one after another.
use Rattle.std.proofs.Common.{◌≡◌, ℕ, suc, ◌+◌, ◌<◌, List, [], ◌∷◌, ◌++◌, length, drop, get_or, Result, Ok, Err, sym, ap, subst, ◌∙◌, arith}
use Rattle.std.proofs.Math.Seq.{drop-cons}
use Rattle.tags.specs.declared.value.Value.{Value}
use Rattle.services.specs.CanonicalRequest.{in_turn}
use Rattle.std.proofs.lemmas.List.{append_assoc, append-nil}
use Rattle.std.specs.Prelude.{OnErr}
use Rattle.tags.specs.Canonical.{canonical, canonicals, Extends}

pub extends_more : (old mid new : List ℕ) → Extends old mid → Extends mid new → Extends old new
extends_more old mid new a b = record { more = a.more ++ b.more; parts = b.parts ∙ ap (λ (x : List ℕ). x ++ b.more) a.parts ∙ append_assoc old a.more b.more }

pub extends_by : (old mid new more : List ℕ) → Extends old mid → new ≡ mid ++ more → Extends old new
extends_by old mid new more a e = extends_more old mid new a record { more = more; parts = e }

pub extends_same : (old mid new : List ℕ) → Extends old mid → new ≡ mid → Extends old new
extends_same old mid new a e = subst (λ (x : List ℕ). Extends old x) (sym e) a

pub ruleset extends_laws = (extends_more, extends_by, extends_same)

pub on_err : {T E : Type 0} (r : Result T E) (P : Type 0) → P → OnErr r P
on_err (Ok x) P p = tt
on_err (Err e) P p = p

pub extends_none : (old new : List ℕ) → new ≡ old → Extends old new
extends_none old new e = record { more = []; parts = e ∙ sym (append-nil old) }

item_ahead : {X : Type 0} (xs : List X) (i : ℕ) (x : X) → i < length xs → x ≡ get_or xs i x → drop i xs ≡ x ∷ drop (i + 1) xs
item_ahead {X} xs i x lt is =
    let next : suc i ≡ i + 1 = omega arith in
    drop-cons xs i x lt ∙ ap (λ (y : X). y ∷ drop (suc i) xs) (sym is) ∙ ap (λ (k : ℕ). x ∷ drop k xs) next

-- one more of a list is written
pub put_step : {X : Type 0} (f : X → List ℕ) (xs : List X) (i : ℕ) (x : X) (old now new : List ℕ) → i < length xs → x ≡ get_or xs i x →
    now ++ in_turn f (drop i xs) ≡ old ++ in_turn f xs → new ≡ now ++ f x → new ++ in_turn f (drop (i + 1) xs) ≡ old ++ in_turn f xs
put_step {X} f xs i x old now new lt is inv put =
    ap (λ (z : List ℕ). z ++ in_turn f (drop (i + 1) xs)) put ∙ append_assoc now (f x) (in_turn f (drop (i + 1) xs))
    ∙ ap (λ (zs : List X). now ++ in_turn f zs) (sym (item_ahead xs i x lt is)) ∙ inv

pub put_value_step : {A : Type 0} (vs : List (Value A)) (i : ℕ) (v : Value A) (old now new : List ℕ) → i < length vs → v ≡ get_or vs i v →
    now ++ canonicals (drop i vs) ≡ old ++ canonicals vs → new ≡ now ++ canonical v → new ++ canonicals (drop (i + 1) vs) ≡ old ++ canonicals vs
put_value_step {A} vs i v old now new lt is inv put =
    ap (λ (z : List ℕ). z ++ canonicals (drop (i + 1) vs)) put ∙ append_assoc now (canonical v) (canonicals (drop (i + 1) vs))
    ∙ ap (λ (zs : List (Value A)). now ++ canonicals zs) (sym (item_ahead vs i v lt is)) ∙ inv
