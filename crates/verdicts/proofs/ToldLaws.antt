-- What was last told, entry by entry.
use Rattle.std.proofs.Common.{◌≡◌, ◌∙◌, sym, ap, Bool, true, false, List, ◌∷◌, Option, Some, None}
use Rattle.std.specs.Prelude.{cond}
use Rattle.history.specs.Lists.{first_of, last_of_those}
use Rattle.network_faults.proofs.IssuedLaws.{first_of_assoc, first_of_none}

told_in : {X : Type 0} (a b c all : Option X) (x : X) → b ≡ Some x → first_of (first_of a b) c ≡ all →
    first_of a (Some x) ≡ all
told_in {X} a b c all x is e =
    ap (λ (z : Option X). first_of a (first_of z c)) (sym is) ∙ sym (first_of_assoc a b c) ∙ e

untold_in : {X : Type 0} (a b c all : Option X) → b ≡ None → first_of (first_of a b) c ≡ all → first_of a c ≡ all
untold_in {X} a b c all is e =
    ap (λ (z : Option X). first_of a (first_of z c)) (sym is) ∙ sym (first_of_assoc a b c) ∙ e

pub told : {X : Type 0} (test : X → Bool) (x : X) (rest : List X) (c all : Option X) (b : Bool) → b ≡ test x → b ≡ true →
    first_of (last_of_those test (x ∷ rest)) c ≡ all → first_of (last_of_those test rest) (Some x) ≡ all
told {X} test x rest c all b is t e =
    told_in (last_of_those test rest) (cond (test x) (Some x) None) c all x
    (ap (λ (z : Bool). cond {A = Option X} z (Some x) None) (sym is ∙ t)) e

pub untold : {X : Type 0} (test : X → Bool) (x : X) (rest : List X) (c all : Option X) (b : Bool) → b ≡ test x →
    b ≡ false → first_of (last_of_those test (x ∷ rest)) c ≡ all → first_of (last_of_those test rest) c ≡ all
untold {X} test x rest c all b is f e =
    untold_in (last_of_those test rest) (cond (test x) (Some x) None) c all
    (ap (λ (z : Bool). cond {A = Option X} z (Some x) None) (sym is ∙ f)) e

pub ruleset told_laws = (first_of_none, told, untold)
