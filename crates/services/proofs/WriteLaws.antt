-- Lists of writes are read one write after another.
use Rattle.std.proofs.Common.{ℕ, suc, ◌<◌, ◌≤◌, ◌^◌, List, [], ◌∷◌, ◌++◌, length, Option, Some, None, refl, subst, arith}
use Rattle.std.specs.List.{AllByRecursion}
use Rattle.tags.specs.declared.value.Value.{Value}
use Rattle.primitives.specs.declared.plain_data.ObjectWrites.{ObjectWrites}
use Rattle.primitives.specs.declared.plain_data.PropertyWrite.{PropertyWrite}
use Rattle.primitives.specs.Sound.{AreSound, IsSoundId, IsSoundPriority, IsSoundWrite, IsSoundWrites}
use Rattle.apdu.specs.declared.numbers.RejectReason.{RejectReason}
use Rattle.services.specs.Fields.{TakesNumber, TakesOption, TakesEach}
use Rattle.services.specs.Multiple.{OpensList, RejectsWriteList, at_write, at_next, at_opening, at_values, at_priority, at_range, TakesPropertyWrite}
use Rattle.services.specs.Multiple.{TakesWrites, RejectsWrites, MustStand, SpellsWriteMultiple, RejectsWriteMultiple}
use Rattle.services.specs.MultipleSteps.{GoesOn, PropertyWrites, TakesValuesBehind, RejectsValuesBehind, in_opening, in_values, RejectsPriority, in_priority}
use Rattle.services.specs.MultipleSteps.{in_range, in_next}
use Rattle.services.proofs.Lists.{takes_more, all_more}
use Rattle.services.proofs.MultipleLaws.{left, next_is_shorter, not_empty, going_shortens, ended}
use Rattle.services.proofs.Shortens.{option_shortens, opening_shortens, inside_shortens, number_shortens, writes_shortens, list_shortens}

abbrev pub write : {A : Type 0} → ℕ → Option ℕ → List (Value A) → Option ℕ → PropertyWrite A
write p i vs n = record { property = p; index = i; values = vs; priority = n }

-- the writes that were read, and the property that was read behind them
pub record Before {A : Type 0} (start : List ℕ) (ws : List (PropertyWrite A)) (p : ℕ) (here : List ℕ) : Type 0 where
  pub at : List ℕ
  pub taken : TakesEach TakesPropertyWrite start ws at
  pub property_taken : TakesNumber at 0 p here

-- where reading the writes has come to
abbrev pub Reached : {A : Type 0} → List ℕ → List (PropertyWrite A) → Option ℕ → List ℕ → Type 0
Reached start ws None here = PropertyWrites start ws here
Reached start ws (Some p) here = Before start ws p here

-- the same, with what holds of the writes
pub record Progress {A : Type 0} (start : List ℕ) (ws : List (PropertyWrite A)) (next : Option ℕ) (here : List ℕ) : Type 0 where
  pub reached : Reached start ws next here
  pub room : length here ≤ length start
  pub sound : length start < 2 ^ 31 → AllByRecursion IsSoundWrite ws

pub writes_begin : (A : Type 0) (start : List ℕ) (p : ℕ) (here : List ℕ) → TakesNumber start 0 p here → Progress {A = A} start [] (Some p) here
writes_begin A start p here t = record {
  reached = record { at = start; taken = refl; property_taken = t };
  room = let lt = number_shortens start 0 p here t in omega (arith, lt);
  sound = λ lt. tt;
}

one_more : {A : Type 0} (here : List ℕ) (start : List ℕ) (ws : List (PropertyWrite A)) (p : ℕ) (i : Option ℕ) (vs : List (Value A)) (n : Option ℕ)
    (behind at : List ℕ) (b : Before start ws p here) → TakesValuesBehind here i vs behind → IsSoundPriority n → TakesOption behind 3 n at →
    TakesEach TakesPropertyWrite start (ws ++ write p i vs n ∷ []) at
one_more here start ws p i vs n behind at b v h o =
    takes_more TakesPropertyWrite start b.at at ws (write p i vs n) b.taken record {
      behind_property = here;
      inside = v.inside;
      behind_values = behind;
      property_taken = b.property_taken;
      opened = v.opened;
      values_taken = v.values_taken;
      priority_taken = o;
      in_range = h;
    }

reached_next : {A : Type 0} (here : List ℕ) (start : List ℕ) (ws : List (PropertyWrite A)) (p : ℕ) (i : Option ℕ) (vs : List (Value A)) (n next : Option ℕ)
    (behind rest : List ℕ) → Before start ws p here → TakesValuesBehind here i vs behind → IsSoundPriority n → GoesOn behind 3 n next rest →
    Reached start (ws ++ write p i vs n ∷ []) next rest
reached_next here start ws p i vs n None behind rest b v h g =
    record { at = g.at; taken = one_more here start ws p i vs n behind g.at b v h g.option_taken; closed = g.next_taken; some = not_empty ws (write p i vs n) }
reached_next here start ws p i vs n (Some q) behind rest b v h g =
    record { at = g.at; taken = one_more here start ws p i vs n behind g.at b v h g.option_taken; property_taken = g.next_taken }

pub values_shorten : {A : Type 0} (octets : List ℕ) (i : Option ℕ) (vs : List (Value A)) (rest : List ℕ) → TakesValuesBehind octets i vs rest →
    length rest < length octets
values_shorten octets i vs rest t =
    let a = opening_shortens octets 1 i 2 t.inside t.opened in
    let b = inside_shortens t.inside 2 vs rest t.values_taken in
    omega (arith, a, b)

next_length : (behind : List ℕ) (number : ℕ) (n next : Option ℕ) (rest : List ℕ) → GoesOn behind number n next rest → length rest ≤ length behind
next_length behind number n next rest g =
    let a = option_shortens behind number n g.at g.option_taken in
    let b = next_is_shorter g.at next rest g.next_taken in
    omega (arith, a, b)

pub writes_go_on : {A : Type 0} (here : List ℕ) (start : List ℕ) (ws : List (PropertyWrite A)) (p : ℕ) (i : Option ℕ) (vs : List (Value A))
    (n next : Option ℕ) (behind rest : List ℕ) → Progress start ws (Some p) here → TakesValuesBehind here i vs behind → (length here < 2 ^ 31 → AreSound vs) →
    IsSoundPriority n → (AreSound vs → IsSoundWrite (write p i vs n)) → GoesOn behind 3 n next rest → Progress start (ws ++ write p i vs n ∷ []) next rest
writes_go_on here start ws p i vs n next behind rest b v s h w g = record {
  reached = reached_next here start ws p i vs n next behind rest b.reached v h g;
  room = let a = values_shorten here i vs behind v in let d = next_length behind 3 n next rest g in omega (arith, b.room, a, d);
  sound = λ lt. all_more IsSoundWrite ws (write p i vs n) (b.sound lt) (w (s (omega (arith, b.room, lt))));
}

pub write_smaller : {A : Type 0} (here : List ℕ) (i : Option ℕ) (vs : List (Value A)) (n next : Option ℕ) (behind rest : List ℕ) →
    TakesValuesBehind here i vs behind → GoesOn behind 3 n next rest → left next rest < suc (length here)
write_smaller here i vs n next behind rest v g =
    let a = values_shorten here i vs behind v in
    let d = going_shortens behind 3 n next rest g in
    omega (arith, a, d)

pub values_rejected : {A : Type 0} (reason : RejectReason) (start : List ℕ) (ws : List (PropertyWrite A)) (p : ℕ) (here : List ℕ) →
    Progress start ws (Some p) here → RejectsValuesBehind A reason here → RejectsWriteList A reason start
values_rejected reason start ws p here b (in_opening h) = at_write ws b.reached.at p here b.reached.taken b.reached.property_taken (at_opening h)
values_rejected reason start ws p here b (in_values i inside o h) =
    at_write ws b.reached.at p here b.reached.taken b.reached.property_taken (at_values i inside o h)

pub priority_rejected : {A : Type 0} (reason : RejectReason) (start : List ℕ) (ws : List (PropertyWrite A)) (p : ℕ) (here : List ℕ) (i : Option ℕ)
    (vs : List (Value A)) (behind : List ℕ) → Progress start ws (Some p) here → TakesValuesBehind here i vs behind → RejectsPriority reason behind →
    RejectsWriteList A reason start
priority_rejected reason start ws p here i vs behind b v (in_priority h) =
    at_write ws b.reached.at p here b.reached.taken b.reached.property_taken (at_priority i v.inside vs behind v.opened v.values_taken h)
priority_rejected reason start ws p here i vs behind b v (in_range n at o h) =
    at_write ws b.reached.at p here b.reached.taken b.reached.property_taken (at_range i v.inside vs behind n at v.opened v.values_taken o h)
priority_rejected reason start ws p here i vs behind b v (in_next n at o s h) =
    at_next (ws ++ write p i vs n ∷ []) at (not_empty ws (write p i vs n)) (one_more here start ws p i vs n behind at b.reached v s o) h

pub writes_taken : {A : Type 0} (octets : List ℕ) (w : ObjectWrites A) (inside rest : List ℕ) → OpensList octets w.object inside →
    PropertyWrites inside w.writes rest → TakesWrites octets w rest
writes_taken octets w inside rest o t = record { inside = inside; behind_writes = t.at; opened = o; writes_taken = t.taken; closed = t.closed; some = t.some }

pub writes_sound : {A : Type 0} (octets : List ℕ) (w : ObjectWrites A) (inside rest : List ℕ) → OpensList octets w.object inside →
    PropertyWrites inside w.writes rest → IsSoundId w.object → (length inside < 2 ^ 31 → AllByRecursion IsSoundWrite w.writes) → length octets < 2 ^ 31 →
    IsSoundWrites w
writes_sound octets w inside rest o t id h lt = let shorter = list_shortens octets w.object inside o in (id, t.some, h (omega (arith, shorter, lt)))

-- the objects that were read, and what is left
pub record WrittenBefore {A : Type 0} (start : List ℕ) (asked : List (ObjectWrites A)) (here : List ℕ) : Type 0 where
  pub taken : TakesEach TakesWrites start asked here
  pub room : length here ≤ length start
  pub sound : length start < 2 ^ 31 → AllByRecursion IsSoundWrites asked

pub many_begins : (A : Type 0) (start : List ℕ) → WrittenBefore {A = A} start [] start
many_begins A start = record { taken = refl; room = omega arith; sound = λ lt. tt }

pub many_goes_on : {A : Type 0} (start here next : List ℕ) (asked : List (ObjectWrites A)) (w : ObjectWrites A) → WrittenBefore start asked here →
    TakesWrites here w next → (length here < 2 ^ 31 → IsSoundWrites w) → WrittenBefore start (asked ++ w ∷ []) next
many_goes_on start here next asked w b t h = record {
  taken = takes_more TakesWrites start here next asked w b.taken t;
  room = let lt = writes_shortens here w next t in omega (arith, b.room, lt);
  sound = λ lt. all_more IsSoundWrites asked w (b.sound lt) (h (omega (arith, b.room, lt)));
}

pub many_stops : {A : Type 0} (reason : RejectReason) (start here : List ℕ) (asked : List (ObjectWrites A)) → WrittenBefore start asked here →
    MustStand asked here → RejectsWrites A reason here → RejectsWriteMultiple A reason start
many_stops reason start here asked b must h = record { before = asked; at = here; taken = b.taken; must = must; rejected = h }

pub many_ends : {A : Type 0} (start here : List ℕ) (asked : List (ObjectWrites A)) → WrittenBefore start asked here → (MustStand asked here → ⊥) →
    SpellsWriteMultiple start asked
many_ends start here asked b h =
    let e = ended asked here h in
    record { taken = subst (λ (x : List ℕ). TakesEach TakesWrites start asked x) e.0 b.taken; some = e.1 }
