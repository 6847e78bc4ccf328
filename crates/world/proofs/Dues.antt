-- When anything is due of the nodes of a world, once one of them did something.
use Rattle.std.proofs.Common.{◌≡◌, ◌≢◌, ◌⊎◌, ◌∙◌, inl, inr, refl, sym, ap, subst, arith, ℕ, zero, suc, ◌<◌, ◌≤◌, ◌+◌, List, [], ◌∷◌, length, Some, None, Result, Ok, Err, OnOk, OnErr, get_or}
use Rattle.std.proofs.lemmas.List.{get_or-replicate, length-replicate}
use Rattle.std.proofs.lemmas.Option.{slice_get-get_or, slice_get_within}
use Rattle.std.specs.Prelude.{◌↔◌, Bool, IfNone, IfSome, Option, false, replicate, slice_get, slice_set, true}
use Rattle.due_times.specs.Times.{IsFirstDue, IsFloor, NoneIsDue}
use Rattle.due_times.proofs.Floors.{set_length, set_other, tell_apart}
use Rattle.due_times.specs.Until.{Until}
use Rattle.world_log.specs.site_node.Node.{NodeState}
use Rattle.world_log.specs.site_node.Steps.{IsQuiet}
use Rattle.world.proofs.Standing.{set_same, some_same}
use Rattle.world.specs.Doing.{HasRested}
use Rattle.world.specs.Dues.{AreAtRest, AreDues, IsDueFrom}
use Rattle.world.specs.Refusals.{Of}
use Rattle.world.specs.Resting.{RestsAt}
use Rattle.world.specs.World.{WorldState}

-- the moment that was put at a place is the one that stands there
due_same : (ds : List ℕ) (i d e : ℕ) → slice_get (slice_set ds i d) i ≡ Some e → d ≡ e
due_same [] i d e at = absurd (cc at)
due_same (f ∷ fs) zero d e at = cc
due_same (f ∷ fs) (suc i) d e at = due_same fs i d e at

zeros : (count place d : ℕ) → slice_get (replicate {A = ℕ} count 0) place ≡ Some d → d ≡ 0
zeros count place d at =
    let all : List ℕ = replicate {A = ℕ} count 0 in
    let within : place < length all = slice_get_within all place d at in
    let known : slice_get all place ≡ Some (get_or all place 0) = slice_get-get_or all place 0 within in
    let same : d ≡ get_or all place 0 = cc (at, known) in
    same ∙ get_or-replicate {A = ℕ} count place 0 0 (omega (arith, within, length-replicate {A = ℕ} count 0))

module _ {A : Type 0} where
  there_other : (ns : List (NodeState A)) (i j : ℕ) (x : NodeState A) → j ≢ i →
      slice_get (slice_set ns i x) j ≡ slice_get ns j
  there_other [] i j x apart = refl
  there_other (n ∷ ns) zero zero x apart = absurd (apart refl)
  there_other (n ∷ ns) zero (suc j) x apart = refl
  there_other (n ∷ ns) (suc i) zero x apart = refl
  there_other (n ∷ ns) (suc i) (suc j) x apart = there_other ns i j x (λ e. apart (ap suc e))

  there_same : (ns : List (NodeState A)) (i : ℕ) (x y : NodeState A) → slice_get (slice_set ns i x) i ≡ Some y → x ≡ y
  there_same [] i x y e = absurd (cc e)
  there_same (n ∷ ns) zero x y e = some_same x y e
  there_same (n ∷ ns) (suc i) x y e = there_same ns i x y e

  as_many_set : (ns : List (NodeState A)) (i : ℕ) (x : NodeState A) → length (slice_set ns i x) ≡ length ns
  as_many_set [] i x = refl
  as_many_set (n ∷ ns) zero x = refl
  as_many_set (n ∷ ns) (suc i) x = ap suc (as_many_set ns i x)

  -- a moment is put for the node that stands at its place now
  pub dues_set : (old new : List ℕ) (ns : List (NodeState A)) (place : ℕ) (x : NodeState A) →
      IsDueFrom place x old new → AreDues old ns → AreDues new (slice_set ns place x)
  dues_set old new ns place x put dues = record {
    as_many = ap (λ (xs : List ℕ). length xs) put.is ∙ set_length old place put.due ∙ dues.as_many ∙ sym (as_many_set ns place x);
    each = λ p d n at there.
        let at_it : slice_get (slice_set old place put.due) p ≡ Some d =
        ap (λ (ds : List ℕ). slice_get ds p) (sym put.is) ∙ at in
        elim (tell_apart p place) [
          | inl same ↦
              let is_due : put.due ≡ d = due_same old place put.due d
              (ap (λ (q : ℕ). slice_get (slice_set old place put.due) q) (sym same) ∙ at_it) in
              let is_node : x ≡ n = there_same ns place x n
              (ap (λ (q : ℕ). slice_get (slice_set ns place x) q) (sym same) ∙ there) in
              subst (λ (e : ℕ). Until e (λ now. IsQuiet now n)) is_due
              (subst (λ (m : NodeState A). Until put.due (λ now. IsQuiet now m)) is_node put.until)
          | inr apart ↦ dues.each p d n (sym (set_other old place p put.due apart) ∙ at_it)
              (sym (there_other ns place p x apart) ∙ there)
        ];
  }

  -- .. or all is as it was
  pub dues_act : {R E : Type 0} (r : Result R E) (old new : List ℕ) (ns : List (NodeState A)) (place : ℕ)
      (n x : NodeState A) → slice_get ns place ≡ Some n → OnOk r (IsDueFrom place x old new) → OnErr r (x ≡ n) →
      OnErr r (new ≡ old) → AreDues old ns → AreDues new (slice_set ns place x)
  dues_act (Ok u) old new ns place n x there put same kept dues = dues_set old new ns place x put dues
  dues_act (Err e) old new ns place n x there put same kept dues =
      subst (λ (ms : List (NodeState A)). AreDues new ms)
      (sym (ap (λ (y : NodeState A). slice_set ns place y) same ∙ set_same ns place n there))
      (subst (λ (ds : List ℕ). AreDues ds ns) (sym kept) dues)

  -- there is a moment at the place of each node
  pub due_there : (ds : List ℕ) (ns : List (NodeState A)) (place : ℕ) (n : NodeState A) → AreDues ds ns →
      slice_get ns place ≡ Some n → place < length ds
  due_there ds ns place n dues there = omega (arith, slice_get_within ns place n there, dues.as_many)

  -- before the moment 0 nothing is due of any node
  pub dues_none : (ds : List ℕ) (ns : List (NodeState A)) (count : ℕ) → ds ≡ replicate count 0 → count ≡ length ns →
      AreDues ds ns
  dues_none ds ns count is e = record {
    as_many = ap (λ (xs : List ℕ). length xs) is ∙ length-replicate {A = ℕ} count 0 ∙ e;
    each = λ p d n at there.
        let none : d ≡ 0 = zeros count p d (ap (λ (xs : List ℕ). slice_get xs p) (sym is) ∙ at) in
        record { holds = λ now lt. absurd (omega (arith, lt, none)) };
  }

  -- of whom no moment has come, nothing is due
  pub at_rest : (ds : List ℕ) (from end : ℕ) (w : WorldState A) → AreDues ds w.nodes → NoneIsDue from end w.moment ds →
      AreAtRest from end w
  at_rest ds from end w dues none = record {
    rest = λ p n le lt there.
        let known : slice_get ds p ≡ Some (get_or ds p 0) = slice_get-get_or ds p 0 (due_there ds w.nodes p n dues there) in
        (dues.each p (get_or ds p 0) n known there).holds w.moment (none.none p (get_or ds p 0) le lt known);
  }

  -- before a moment that none is earlier than, nothing is due
  pub rest_until : (floor : ℕ) (ds : List ℕ) (w : WorldState A) → AreDues ds w.nodes → IsFloor floor 0 (length ds) ds →
      Until floor (λ now. AreAtRest 0 (length w.nodes) (record w { moment = now }))
  rest_until floor ds w dues f = record {
    holds = λ now lt. at_rest ds 0 (length w.nodes) (record w { moment = now }) dues (record {
      none = λ p m le within at.
          let here : 0 + p ≡ p = omega (arith, le) in
          let late : floor ≤ m = f.below p m (omega (arith, within, dues.as_many)) (ap (λ (q : ℕ). slice_get ds q) here ∙ at) in
          omega (arith, lt, late);
    });
  }

  -- the first place at which a moment has come is that of a node, and before it nothing is due
  pub found_there : (r : Option ℕ) (ds : List ℕ) (from : ℕ) (w : WorldState A) → AreDues ds w.nodes →
      IfSome r (λ place. IsFirstDue from w.moment ds place) →
      IfSome r (λ place. (from ≤ place) × (place < length w.nodes))
  found_there None ds from w dues first = tt
  found_there (Some place) ds from w dues first =
      (first.behind, omega (arith, slice_get_within ds place first.moment first.there, dues.as_many))

  pub found_rest : (r : Option ℕ) (ds : List ℕ) (from : ℕ) (w : WorldState A) → AreDues ds w.nodes →
      IfSome r (λ place. IsFirstDue from w.moment ds place) → IfSome r (λ place. AreAtRest from place w)
  found_rest None ds from w dues first = tt
  found_rest (Some place) ds from w dues first = at_rest ds from place w dues first.first

  -- .. or there is none, and nothing is due up to the last node
  pub found_none : (r : Option ℕ) (ds : List ℕ) (from : ℕ) (w : WorldState A) → AreDues ds w.nodes →
      IfNone r (NoneIsDue from (length ds) w.moment ds) → IfNone r (AreAtRest from (length w.nodes) w)
  found_none None ds from w dues none = at_rest ds from (length w.nodes) w dues
      (subst (λ (end : ℕ). NoneIsDue from end w.moment ds) dues.as_many none)
  found_none (Some place) ds from w dues none = tt

module _ {A : Type 0} where
  -- a node that rested did so where nothing was due
  pub rests_so : (place : ℕ) (w v : WorldState A) → Of place w (HasRested w v place) → Of place w (RestsAt w v place)
  rests_so place w v of = record { n = of.n; there = of.there; is = λ quiet. of.is }

  -- .. and of one that did something, something was due
  pub rests_not : (place now : ℕ) (w v : WorldState A) (n : NodeState A) (b : Bool) → slice_get w.nodes place ≡ Some n →
      ((b ≡ true) ↔ IsQuiet now n) → b ≡ false → now ≡ w.moment → Of place w (RestsAt w v place)
  rests_not place now w v n b there tells not is = record {
    n = n;
    there = there;
    is = λ quiet.
        let so : b ≡ true = tells.1 (subst (λ (m : ℕ). IsQuiet m n) (sym is) quiet) in
        absurd (cc (so, not));
  }

-- of another event nothing is said
pub nothing_said : {R E : Type 0} (r : Result R E) → OnOk r (Unit {0})
nothing_said (Ok x) = tt
nothing_said (Err e) = tt

pub ruleset rest_rules = (rests_so, rests_not)

pub ruleset step_rules = (nothing_said)
