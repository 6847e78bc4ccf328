-- Lists of values are read one value after another.
use Rattle.std.proofs.Common.{ℕ, ◌<◌, ◌≤◌, ◌^◌, List, [], ◌∷◌, ◌++◌, length, refl, inl, inr, arith}
use Rattle.std.proofs.lemmas.List.{length-append}
use Rattle.tags.specs.declared.value.Value.{Value}
use Rattle.tags.specs.Value.{IsSound, SpellsValue, TakesValue}
use Rattle.tags.proofs.OneTag.{tag_some}
use Rattle.tags.proofs.ElementLaws.{element_some}
use Rattle.primitives.specs.Sound.{AreSound}
use Rattle.answers.specs.declared.stop.Stop.{Stop}
use Rattle.answers.specs.declared.stop.Stop.TheVariants.{Memory, Reject}
use Rattle.services.proofs.Lists.{takes_more, all_more}
use Rattle.answers.specs.Stop.{StopsFor}
use Rattle.services.specs.Fields.{TakesClosing, TakesEach, TakesInside, RejectsValue, RejectsInside}

-- the values that were read, and what is left
pub record Progress {A : Type 0} (start : List ℕ) (vs : List (Value A)) (rest : List ℕ) : Type 0 where
  pub taken : TakesEach TakesValue start vs rest
  pub room : length rest ≤ length start
  pub sound : length start < 2 ^ 31 → AreSound vs

pub list_begins : (A : Type 0) (start : List ℕ) → Progress {A = A} start [] start
list_begins A start = record { taken = refl; room = omega arith; sound = λ lt. tt }

value_some : {A : Type 0} (octets : List ℕ) (v : Value A) → SpellsValue octets v → 0 < length octets
value_some octets v (inl s) = tag_some octets s.tag s.spelled
value_some octets v (inr s) = element_some octets s.1

pub value_shortens : {A : Type 0} (octets : List ℕ) (v : Value A) (rest : List ℕ) → TakesValue octets v rest → length rest < length octets
value_shortens octets v rest taken = rw (taken.parts) (omega (arith, length-append taken.front rest, value_some taken.front v taken.spelled))

pub list_goes_on : {A : Type 0} (start at next : List ℕ) (vs : List (Value A)) (v : Value A) → Progress start vs at → TakesValue at v next →
    (length at < 2 ^ 31 → IsSound v) → Progress start (vs ++ v ∷ []) next
list_goes_on start at next vs v p taken is = record {
  taken = takes_more TakesValue start at next vs v p.taken taken;
  room = omega (arith, p.room, value_shortens at v next taken);
  sound = λ lt. all_more IsSound vs v (p.sound lt) (is (omega (arith, p.room, lt)));
}

pub list_ends : {A : Type 0} (start at : List ℕ) (number : ℕ) (rest : List ℕ) (vs : List (Value A)) → Progress start vs at → TakesClosing at number rest →
    TakesInside start number vs rest
list_ends start at number rest vs p closed = record { at = at; taken = p.taken; closed = closed }

pub list_stops : {A : Type 0} (stop : Stop) (start at : List ℕ) (number : ℕ) (vs : List (Value A)) → Progress start vs at →
    StopsFor (λ reason. RejectsValue reason at number) stop → StopsFor (λ reason. RejectsInside A reason start number) stop
list_stops Memory start at number vs p h = tt
list_stops (Reject reason) start at number vs p h = record { values = vs; at = at; taken = p.taken; rejected = h }

pub ruleset list_laws = (list_begins, list_goes_on, list_ends, list_stops, value_shortens)
