-- The frames that an ear hears are those that a deframer gives.
use Rattle.std.proofs.Common.{◌≡◌, ◌≤◌, ◌+◌, ◌-◌, ◌∙◌, ℕ, List, [], ◌∷◌, ◌++◌, arith, drop, length}
use Rattle.std.proofs.lemmas.List.{length-drop}
use Rattle.std.specs.Prelude.{Result}
use Rattle.mstp_frame.specs.Feeding.{gives, keeps}
use Rattle.tags.specs.declared.fault.Fault.{Fault}
use Rattle.bus_traffic.specs.Hearing.{EndsFrame, Hears, over, refuses, accepts}
use Rattle.bus_traffic.specs.Laws.{GivesThem, HeardIsGiven, used_for}
use Rattle.bus_traffic.specs.declared.hearing.Ending.{Ending}
use Rattle.bus_traffic.specs.declared.hearing.Ending.TheVariants.{Over, Refused}
use Rattle.bus_traffic.specs.declared.hearing.HeardFrame.{HeardFrame}

-- where none is refused
abbrev GivesUnlessRefused : {A : Type 0} → (kept octets : List ℕ) → List (HeardFrame A) → Ending A → Type 0
GivesUnlessRefused kept octets fs (Over rest after) = GivesThem kept octets fs rest after
GivesUnlessRefused kept octets fs (Refused fault) = Unit {0}

none_counted : (octets : List ℕ) → 0 + length octets ≡ length octets
none_counted octets = omega arith

counted_on : (used later rest : ℕ) (octets : List ℕ) → used ≤ length octets → later + rest ≡ length (drop used octets)
    → used + later + rest ≡ length octets
counted_on used later rest octets within e = let rest_of : later + rest ≡ length octets - used = e ∙ length-drop used octets in
    omega (arith, within, rest_of)

one_more : {A : Type 0} (kept octets after : List ℕ) (f : HeardFrame A) (fs : List (HeardFrame A)) (end : Ending A)
    → EndsFrame kept octets f.octets f.used after → GivesUnlessRefused after (drop f.used octets) fs end
    → GivesUnlessRefused kept octets (f ∷ fs) end
one_more kept octets after f fs (Over rest left) e g = record {
  frames = e.frame ∷ g.frames;
  spelled = (e.spelled, g.spelled);
  counted = counted_on f.used (used_for fs) rest octets e.within g.counted;
  gives = λ inputs more x. gives kept octets after (drop f.used octets) e.frame inputs (g.frames ++ more) e.leads
      (g.gives inputs more x);
}
one_more kept octets after f fs (Refused fault) e g = tt

given : {A : Type 0} (judge : List ℕ → Result ℕ Fault) (kept octets : List ℕ) (fs : List (HeardFrame A)) (end : Ending A)
    → Hears A judge kept octets fs end → GivesUnlessRefused kept octets fs end
given judge _ _ _ _ (over kept octets after e) = record {
  frames = [];
  spelled = tt;
  counted = none_counted octets;
  gives = λ inputs more x. keeps kept octets after inputs more e.leads x;
}
given judge _ _ _ _ (refuses kept octets whole after used fault e j) = tt
given judge _ _ _ _ (accepts kept octets after f fs end e j h) =
    one_more kept octets after f fs end e (given judge after (drop f.used octets) fs end h)

pub heard_is_given : {A : Type 0} → HeardIsGiven A
heard_is_given judge kept octets after rest fs h = given judge kept octets fs (Over rest after) h
