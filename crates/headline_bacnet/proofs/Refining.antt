-- Lemmas on steps that are lists of honest happenings: one happening, one step behind another, and what is said.
use Rattle.std.proofs.Common.{◌≡◌, refl, sym, ap, subst, ◌∙◌, List, [], ◌∷◌, ◌++◌}
use Rattle.std.proofs.lemmas.List.{append-nil, append_assoc}
use Rattle.std.specs.List.{AllByRecursion}
use Rattle.headline.proofs.Laws.{honest_more, run_more, said_stays}
use Rattle.headline.specs.Happenings.{Core, Happening, happens, run}
use Rattle.headline.specs.Honest.{IsHonest, IsHonestRun}
use Rattle.headline.specs.Promised.{StaysSaid}
use Rattle.headline.specs.Protocol.{Protocol, Site}
use Rattle.history.specs.Book.{Message}
use Rattle.headline_bacnet.specs.Protocol.{bacnet}
use Rattle.headline_bacnet.specs.Refined.{IsRefined, RefinedSaidStays}

-- nothing happens
pub refined_none : {S Q R T : Type 0} (p : Protocol S Q R T) (s : Site S T) (w : Core S Q R T) → IsRefined p s w w
refined_none p s w = record { happenings = []; honest = tt; same = refl }

-- one thing happens
pub refined_one : {S Q R T : Type 0} (p : Protocol S Q R T) (s : Site S T) (w : Core S Q R T) (h : Happening S Q R T) → IsHonest p s w h →
    IsRefined p s w (happens p s w h)
refined_one p s w h on = record { happenings = h ∷ []; honest = (on, tt); same = refl }

-- one step behind another
pub refined_then : {S Q R T : Type 0} (p : Protocol S Q R T) (s : Site S T) (w u v : Core S Q R T) → IsRefined p s w u → IsRefined p s u v → IsRefined p s w v
refined_then {S} {Q} {R} {T} p s w u v a b = record {
  happenings = a.happenings ++ b.happenings;
  honest = honest_more p s a.happenings b.happenings w a.honest (subst (λ (z : Core S Q R T). IsHonestRun p s b.happenings z) a.same b.honest);
  same = b.same ∙ ap (λ (z : Core S Q R T). run p s b.happenings z) a.same ∙ sym (run_more p s a.happenings b.happenings w);
}

-- what a step leaves is known by another name
pub refined_as : {S Q R T : Type 0} (p : Protocol S Q R T) (s : Site S T) (w u v : Core S Q R T) → v ≡ u → IsRefined p s w u → IsRefined p s w v
refined_as p s w u v e a = record { happenings = a.happenings; honest = a.honest; same = e ∙ a.same }

-- the same, but for what was said
abbrev pub saying : {S Q R T : Type 0} → List (Message S) → Core S Q R T → Core S Q R T
saying said w = record w { book = record w.book { said = said } }

-- a station may say this, whatever else was said meanwhile
pub record CanSay {S Q R T : Type 0} (p : Protocol S Q R T) (s : Site S T) (w : Core S Q R T) (m : Message S) : Type 0 where
  pub happening : Happening S Q R T
  pub honest : (said : List (Message S)) → IsHonest p s (saying said w) happening
  pub same : (said : List (Message S)) → happens p s (saying said w) happening ≡ saying (said ++ m ∷ []) w

says_from : {S Q R T : Type 0} (p : Protocol S Q R T) (s : Site S T) (w : Core S Q R T) (ms said : List (Message S)) → AllByRecursion (CanSay p s w) ms →
    IsRefined p s (saying said w) (saying (said ++ ms) w)
says_from {S} {Q} {R} {T} p s w [] said can =
    refined_as p s (saying said w) (saying said w) (saying (said ++ []) w) (ap (λ (l : List (Message S)). saying l w) (append-nil said))
    (refined_none p s (saying said w))
says_from {S} {Q} {R} {T} p s w (m ∷ ms) said can =
    let next : IsRefined p s (saying said w) (saying (said ++ m ∷ []) w) =
    refined_as p s (saying said w) (happens p s (saying said w) can.0.happening) (saying (said ++ m ∷ []) w) (sym (can.0.same said))
    (refined_one p s (saying said w) can.0.happening (can.0.honest said)) in
    refined_as p s (saying said w) (saying ((said ++ m ∷ []) ++ ms) w) (saying (said ++ m ∷ ms) w)
    (ap (λ (l : List (Message S)). saying l w) (sym (append_assoc said (m ∷ []) ms)))
    (refined_then p s (saying said w) (saying (said ++ m ∷ []) w) (saying ((said ++ m ∷ []) ++ ms) w) next (says_from p s w ms (said ++ m ∷ []) can.1))

-- all that is said, one after another
pub says_refined : {S Q R T : Type 0} (p : Protocol S Q R T) (s : Site S T) (w : Core S Q R T) (ms : List (Message S)) → AllByRecursion (CanSay p s w) ms →
    IsRefined p s w (saying (w.book.said ++ ms) w)
says_refined p s w ms can = says_from p s w ms w.book.said can

-- what was said stays said, over happenings
run_stays : {S Q R T : Type 0} (p : Protocol S Q R T) (s : Site S T) (hs : List (Happening S Q R T)) (k : Core S Q R T) →
    StaysSaid k.book (run p s hs k).book
run_stays p s [] k = ([], sym (append-nil k.book.said))
run_stays {S} p s (h ∷ hs) k =
    let one = said_stays p s k h in
    let rest = run_stays p s hs (happens p s k h) in
    (one.0 ++ rest.0, rest.1 ∙ ap (λ (l : List (Message S)). l ++ rest.0) one.1 ∙ append_assoc k.book.said one.0 rest.0)

pub refined_stays : {S Q R T : Type 0} (p : Protocol S Q R T) (s : Site S T) (w v : Core S Q R T) → IsRefined p s w v → StaysSaid w.book v.book
refined_stays {S} {Q} {R} {T} p s w v a =
    subst (λ (k : Core S Q R T). StaysSaid w.book k.book) (sym a.same) (run_stays p s a.happenings w)

pub refined_said_stays : {A : Type 0} → RefinedSaidStays A
refined_said_stays {A} s w v a = refined_stays (bacnet A) s w v a
