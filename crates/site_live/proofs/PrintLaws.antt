-- The lines of a turn, one behind another.
use Rattle.std.proofs.Common.{◌≡◌, refl, sym, subst, ℕ, Bool, List, ◌++◌, Option, None, Some, Result, Ok, Err, OnOk, drop}
use Rattle.std.specs.Io.KnownBytes.{Appends, Keeps}
use Rattle.runner.specs.world_log.Growing.{WorldHistory}
use Rattle.runner.specs.Runner.{RunnerState}
use Rattle.runner.specs.declared.turned.Turned.{Turned}
use Rattle.site_parts.specs.declared.parts.Station.{Station}
use Rattle.site_live.specs.Printed.{answer_text, stray_text, turn_text}
use Rattle.site_history.proofs.PrintLaws.{appends_more, appends_nothing}
use Rattle.site_history.specs.Asked.{Asked}
use Rattle.site_history.specs.Printed.{Known, entries_text}
use Rattle.tags.specs.declared.fault.Fault.{Fault}
use Rattle.words.specs.printing.declared.spelling.Spelling.{Spelling}

-- what is flushed stays
kept : (old mid new : Known) (a : List ℕ) → Appends old mid a → Keeps mid new → Appends old new a
kept None mid new a p q = tt
kept (Some xs) None new a p q = absurd p
kept (Some xs) (Some ys) None a p q = absurd q
kept (Some xs) (Some ys) (Some zs) a p q = subst (λ (l : List ℕ). l ≡ xs ++ a) (sym q) p

-- what isn't flushed stays too
pub keeps_same : (k : Known) → Keeps k k
keeps_same None = tt
keeps_same (Some xs) = refl

pub ruleset flush_laws = (keeps_same)

-- three texts, which are flushed then
pub told_printed : {T E : Type 0} (r : Result T E) (k0 k1 k2 k3 k4 : Known) (a b c : List ℕ) → Appends k0 k1 a →
    Appends k1 k2 b → Appends k2 k3 c → Keeps k3 k4 → OnOk r (Appends k0 k4 (a ++ (b ++ c)))
told_printed (Ok x) k0 k1 k2 k3 k4 a b c p q r s =
    kept k0 k3 k4 (a ++ (b ++ c)) (appends_more k0 k1 k3 a (b ++ c) p (appends_more k1 k2 k3 b c q r)) s
told_printed (Err e) k0 k1 k2 k3 k4 a b c p q r s = tt

pub ruleset none_laws = (appends_nothing)

-- those of a runner
pub turn_printed : {A : Type 0} (spelling : Spelling) (r : RunnerState A) (entries : ℕ) (asked : Option Asked)
    (answer : Result Turned Fault) (strayed : Bool) (moment : ℕ) (stations : List (Station A)) (h es : WorldHistory A)
    (old new : Known) → strayed ≡ r.strayed → moment ≡ r.world.moment → stations ≡ r.world.site.stations →
    h ≡ r.world.history → es ≡ drop entries h →
    Appends old new (stray_text strayed moment ++ (entries_text spelling stations h es ++ answer_text asked answer moment)) →
    Appends old new (turn_text spelling asked answer entries r)
turn_printed spelling r entries asked answer strayed moment stations h es old new s m t k e p =
    subst (λ (l : List (Station _)). Appends old new (stray_text r.strayed r.world.moment ++ (entries_text spelling l
    r.world.history (drop entries r.world.history) ++ answer_text asked answer r.world.moment))) t
    (subst (λ (l : WorldHistory _). Appends old new (stray_text r.strayed r.world.moment ++ (entries_text spelling stations
    l (drop entries l) ++ answer_text asked answer r.world.moment))) k
    (subst (λ (l : WorldHistory _). Appends old new (stray_text r.strayed r.world.moment ++ (entries_text spelling stations
    h l ++ answer_text asked answer r.world.moment))) e
    (subst (λ (n : ℕ). Appends old new (stray_text r.strayed n ++ (entries_text spelling stations h es
    ++ answer_text asked answer n))) m
    (subst (λ (b : Bool). Appends old new (stray_text b moment ++ (entries_text spelling stations h es
    ++ answer_text asked answer moment))) s p))))

pub ruleset turn_laws = (turn_printed)
