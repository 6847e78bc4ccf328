-- Lists are read one element after another.
use Rattle.std.proofs.Common.{◌≡◌, sym, ap, subst, refl, ℕ, suc, ◌+◌, ◌<◌, ◌≤◌, List, [], ◌∷◌, ◌++◌, length, Option, Some, None, arith}
use Rattle.std.specs.Prelude.{codes}
use Rattle.std.proofs.lemmas.List.{length-drop, append_assoc, append-nil}
use Rattle.primitives.specs.declared.plain_data.ObjectRefs.{ObjectRefs}
use Rattle.primitives.specs.declared.plain_data.PropertyReference.{PropertyReference}
use Rattle.tags.specs.declared.value.Value.{Value}
use Rattle.words.specs.Marks.{first_place, words_behind, first_part, other_parts}
use Rattle.primitives.specs.declared.plain_data.ObjectWrites.{ObjectWrites}
use Rattle.primitives.specs.declared.plain_data.PropertyWrite.{PropertyWrite}
use Rattle.std.specs.Prelude.{◌==◌}
use Rattle.std.specs.List.{position_or_len}
use Rattle.tags.specs.declared.object_id.ObjectId.{ObjectId}
use Rattle.words.specs.Says.{Has, behind, space, SaysReference, SaysValue}
use Rattle.words.specs.Requests.{AreGrouped, SaysBatch, SaysEach, SaysGiven, SaysMany, SaysObjectWrite, SaysReferences, SaysRefs, SaysValues, all_writes}
use Rattle.words.specs.Requests.{other_refs}
use Rattle.words.specs.NoRequests.{NoBatch, NoGiven, NoMany, NoObjectWrite, NoReferences, NoRefs, NoValues}
use Rattle.words.specs.Unsaid.{NoReference, NoValue}

-- what was read of the whole, and what is left
pub record Reads {X : Type 0} (leaves : List ℕ → Option (List ℕ)) (says : List ℕ → X → Type 0) (whole : Option (List ℕ)) (xs : List X)
    (rest : Option (List ℕ)) : Type 0 where
  pub up : (ys : List X) → SaysEach leaves says rest ys → SaysEach leaves says whole (xs ++ ys)
  pub down : (ys : List X) → SaysEach leaves says whole ys → (zs : List X) × SaysEach leaves says rest zs

pub begins : {X : Type 0} (leaves : List ℕ → Option (List ℕ)) (says : List ℕ → X → Type 0) (whole : Option (List ℕ)) → Reads leaves says whole [] whole
begins leaves says whole = record { up = λ ys s. s; down = λ ys s. (ys, s) }

-- whoever says an element and more says more behind it
left_over : {X : Type 0} (leaves : List ℕ → Option (List ℕ)) (says : List ℕ → X → Type 0) (here : List ℕ) (zs : List X) →
    SaysEach leaves says (Some here) zs → (ys : List X) × SaysEach leaves says (leaves here) ys
left_over leaves says here [] s = absurd s
left_over leaves says here (z ∷ zs) s = (zs, s.1)

pub goes_on : {X : Type 0} (leaves : List ℕ → Option (List ℕ)) (says : List ℕ → X → Type 0) (whole : Option (List ℕ)) (xs : List X) (here : List ℕ) (x : X) →
    Reads leaves says whole xs (Some here) → says here x → Reads leaves says whole (xs ++ x ∷ []) (leaves here)
goes_on leaves says whole xs here x r said = record {
  up = λ ys s. subst (λ (l : List _). SaysEach leaves says whole l) (sym (append_assoc xs (x ∷ []) ys)) (r.up (x ∷ ys) (said, s));
  down = λ ys s. let t = r.down ys s in left_over leaves says here t.0 t.1;
}

pub ends : {X : Type 0} (leaves : List ℕ → Option (List ℕ)) (says : List ℕ → X → Type 0) (whole : Option (List ℕ)) (xs : List X) →
    Reads leaves says whole xs None → SaysEach leaves says whole xs
ends leaves says whole xs r = subst (λ (l : List _). SaysEach leaves says whole l) (append-nil xs) (r.up [] tt)

none_here : {X : Type 0} (leaves : List ℕ → Option (List ℕ)) (says : List ℕ → X → Type 0) (here : List ℕ) → ((x : X) → says here x → ⊥) → (zs : List X) →
    SaysEach leaves says (Some here) zs → ⊥
none_here leaves says here none [] s = s
none_here leaves says here none (z ∷ zs) s = none z s.0

pub stops : {X : Type 0} (leaves : List ℕ → Option (List ℕ)) (says : List ℕ → X → Type 0) (whole : Option (List ℕ)) (xs : List X) (here : List ℕ) →
    Reads leaves says whole xs (Some here) → ((x : X) → says here x → ⊥) → (ys : List X) → SaysEach leaves says whole ys → ⊥
stops leaves says whole xs here r none ys s = let t = r.down ys s in none_here leaves says here none t.0 t.1

-- how much is left
abbrev pub left_in : Option (List ℕ) → ℕ
left_in None = 0
left_in (Some words) = suc (length words)

no_mark_in_nothing : (mark : List ℕ) → 0 < length mark → first_place mark [] ≡ None
no_mark_in_nothing [] some = absurd (omega (arith, some))
no_mark_in_nothing (c ∷ mark) some = refl

behind_shorter : (mark words : List ℕ) (p : Option ℕ) → 0 < length mark → 0 < length words → left_in (words_behind mark p words) ≤ length words
behind_shorter mark words None long some = omega arith
behind_shorter mark words (Some at) long some = omega (arith, long, some, length-drop (at + length mark) words)

pub shortens : (mark words : List ℕ) → 0 < length mark → left_in (other_parts mark words) < left_in (Some words)
unfolding other_parts
shortens mark [] long = rw (no_mark_in_nothing mark long) (omega arith)
shortens mark (c ∷ words) long = omega (arith, behind_shorter mark (c ∷ words) (first_place mark (c ∷ words)) long (omega arith))

-- values
abbrev pub ReadsValues : {A : Type 0} → Option (List ℕ) → List (Value A) → Option (List ℕ) → Type 0
ReadsValues whole vs rest = Reads (other_parts (codes ", ")) (λ w v. SaysValue (first_part (codes ", ") w) v) whole vs rest

pub values_begin : (A : Type 0) (whole : Option (List ℕ)) → ReadsValues {A = A} whole [] whole
values_begin A whole = begins (other_parts (codes ", ")) (λ w v. SaysValue (first_part (codes ", ") w) v) whole

pub values_go_on : {A : Type 0} (whole : Option (List ℕ)) (vs : List (Value A)) (here : List ℕ) (v : Value A) → ReadsValues whole vs (Some here) →
    SaysValue (first_part (codes ", ") here) v → ReadsValues whole (vs ++ v ∷ []) (other_parts (codes ", ") here)
values_go_on whole vs here v r said = goes_on (other_parts (codes ", ")) (λ w v. SaysValue (first_part (codes ", ") w) v) whole vs here v r said

pub values_end : {A : Type 0} (whole : Option (List ℕ)) (vs : List (Value A)) → ReadsValues whole vs None → SaysGiven whole vs
values_end whole vs r = ends (other_parts (codes ", ")) (λ w v. SaysValue (first_part (codes ", ") w) v) whole vs r

pub values_stop : {A : Type 0} (whole : Option (List ℕ)) (vs : List (Value A)) (here : List ℕ) → ReadsValues whole vs (Some here) →
    NoValue A (first_part (codes ", ") here) → NoGiven A whole
values_stop whole vs here r none = record { none = stops (other_parts (codes ", ")) (λ w v. SaysValue (first_part (codes ", ") w) v) whole vs here r none.none }

-- references
abbrev pub ReadsReferences : Option (List ℕ) → List PropertyReference → Option (List ℕ) → Type 0
ReadsReferences whole refs rest = Reads (other_parts (codes ",")) (λ w r. SaysReference (first_part (codes ",") w) r) whole refs rest

pub references_begin : (whole : Option (List ℕ)) → ReadsReferences whole [] whole
references_begin whole = begins (other_parts (codes ",")) (λ w r. SaysReference (first_part (codes ",") w) r) whole

pub references_go_on : (whole : Option (List ℕ)) (refs : List PropertyReference) (here : List ℕ) (x : PropertyReference) →
    ReadsReferences whole refs (Some here) → SaysReference (first_part (codes ",") here) x →
    ReadsReferences whole (refs ++ x ∷ []) (other_parts (codes ",") here)
references_go_on whole refs here x r said = goes_on (other_parts (codes ",")) (λ w r. SaysReference (first_part (codes ",") w) r) whole refs here x r said

pub references_end : (words : List ℕ) (refs : List PropertyReference) → ReadsReferences (Some words) refs None → SaysReferences words refs
references_end words refs r = ends (other_parts (codes ",")) (λ w r. SaysReference (first_part (codes ",") w) r) (Some words) refs r

pub references_stop : (words : List ℕ) (refs : List PropertyReference) (here : List ℕ) → ReadsReferences (Some words) refs (Some here) →
    NoReference (first_part (codes ",") here) → NoReferences words
references_stop words refs here r none = record {
  none =
      stops (other_parts (codes ",")) (λ w r. SaysReference (first_part (codes ",") w) r) (Some words) refs here r none.none;
}

-- objects with references
abbrev pub ReadsMany : {A : Type 0} → Option (List ℕ) → List (ObjectRefs A) → Option (List ℕ) → Type 0
ReadsMany whole groups rest = Reads other_refs SaysRefs whole groups rest

pub many_begins : (A : Type 0) (whole : Option (List ℕ)) → ReadsMany {A = A} whole [] whole
many_begins A whole = begins other_refs SaysRefs whole

pub many_goes_on : {A : Type 0} (whole : Option (List ℕ)) (groups : List (ObjectRefs A)) (here : List ℕ) (g : ObjectRefs A) →
    ReadsMany whole groups (Some here) → SaysRefs here g → ReadsMany whole (groups ++ g ∷ []) (other_refs here)
many_goes_on whole groups here g r said = goes_on other_refs SaysRefs whole groups here g r said

pub many_ends : {A : Type 0} (words : List ℕ) (groups : List (ObjectRefs A)) → ReadsMany (Some words) groups None → SaysMany words groups
many_ends words groups r = ends other_refs SaysRefs (Some words) groups r

pub many_stops : {A : Type 0} (words : List ℕ) (groups : List (ObjectRefs A)) (here : List ℕ) → ReadsMany (Some words) groups (Some here) → NoRefs A here →
    NoMany A words
many_stops words groups here r none = record { none = stops other_refs SaysRefs (Some words) groups here r none.none }

pub refs_shorten : (words : List ℕ) → Has space words → left_in (other_refs words) < left_in (Some words)
refs_shorten words has = omega (
  arith,
  has,
  shortens (codes " ") (behind space words) (omega arith),
  length-drop (position_or_len (λ b. b == space) words + 1) words,
)

-- writes
abbrev pub ReadsWrites : {A : Type 0} → Option (List ℕ) → List (ObjectId × PropertyWrite A) → Option (List ℕ) → Type 0
ReadsWrites whole writes rest = Reads (other_parts (codes "; ")) (λ w x. SaysObjectWrite (first_part (codes "; ") w) x) whole writes rest

pub writes_begin : (A : Type 0) (whole : Option (List ℕ)) → ReadsWrites {A = A} whole [] whole
writes_begin A whole = begins (other_parts (codes "; ")) (λ w x. SaysObjectWrite (first_part (codes "; ") w) x) whole

pub writes_go_on : {A : Type 0} (whole : Option (List ℕ)) (writes : List (ObjectId × PropertyWrite A)) (here : List ℕ) (x : ObjectId × PropertyWrite A) →
    ReadsWrites whole writes (Some here) → SaysObjectWrite (first_part (codes "; ") here) x →
    ReadsWrites whole (writes ++ x ∷ []) (other_parts (codes "; ") here)
writes_go_on whole writes here x r said = goes_on (other_parts (codes "; ")) (λ w x. SaysObjectWrite (first_part (codes "; ") w) x) whole writes here x r said

pub batch_goes_on : {A : Type 0} (whole : Option (List ℕ)) (old new : List (ObjectWrites A)) (rest left : Option (List ℕ)) (here front : List ℕ)
    (x : ObjectId × PropertyWrite A) → ReadsWrites whole (all_writes old) rest → rest ≡ Some here → front ≡ first_part (codes "; ") here →
    left ≡ other_parts (codes "; ") here → SaysObjectWrite front x → all_writes new ≡ all_writes old ++ x ∷ [] → ReadsWrites whole (all_writes new) left
batch_goes_on whole old new rest left here front x r is cut behind said added =
    subst (λ (ws : List (ObjectId × PropertyWrite _)). ReadsWrites whole ws left) (sym added)
    (subst (λ (l : Option (List ℕ)). ReadsWrites whole (all_writes old ++ x ∷ []) l) (sym behind)
    (writes_go_on whole (all_writes old) here x (subst (λ (l : Option (List ℕ)). ReadsWrites whole (all_writes old) l) is r)
    (subst (λ (w : List ℕ). SaysObjectWrite w x) cut said)))

pub writes_end : {A : Type 0} (words : List ℕ) (groups : List (ObjectWrites A)) → ReadsWrites (Some words) (all_writes groups) None → AreGrouped groups →
    SaysBatch words groups
writes_end words groups r grouped = record {
  writes_said =
      ends (other_parts (codes "; ")) (λ w x. SaysObjectWrite (first_part (codes "; ") w) x) (Some words) (all_writes groups) r;
  grouped = grouped;
}

pub writes_stop : {A : Type 0} (words : List ℕ) (writes : List (ObjectId × PropertyWrite A)) (here : List ℕ) → ReadsWrites (Some words) writes (Some here) →
    NoObjectWrite A (first_part (codes "; ") here) → NoBatch A words
writes_stop words writes here r none = record {
  none =
      λ groups s. stops (other_parts (codes "; ")) (λ w x. SaysObjectWrite (first_part (codes "; ") w) x) (Some words) writes here r none.none
      (all_writes groups) s.writes_said;
}

no_values_in : (A : Type 0) (words : List ℕ) → 0 < length words → NoGiven A (Some words) → (vs : List (Value A)) → SaysValues words vs → ⊥
no_values_in A words some none [] s = absurd (omega (arith, some, ap length s))
no_values_in A words some none (v ∷ vs) s = none.none (v ∷ vs) s

pub no_values : (A : Type 0) (words : List ℕ) → 0 < length words → NoGiven A (Some words) → NoValues A words
no_values A words some none = record { none = no_values_in A words some none }

pub ruleset values_laws = (no_values)

pub ruleset list_laws = (
  values_begin,
  values_go_on,
  values_end,
  values_stop,
  references_begin,
  references_go_on,
  references_end,
  references_stop,
  many_begins,
  many_goes_on,
  many_ends,
  many_stops,
  shortens,
  refs_shorten,
)

pub ruleset write_list_laws = (writes_begin, writes_go_on, writes_end, writes_stop, shortens)
