-- A sound request leaves a sound table and has a sound reply, which answers it.
use Rattle.std.proofs.Common.{refl, ap, ◌∙◌, ◌≡◌, ◌≢◌, ◌<◌, ◌^◌, ℕ, Bool, true, false, List, [], ◌∷◌, ◌++◌, Option, Some, None, Result, Ok, Err, arith}
use Rattle.std.proofs.lemmas.Bool.{ne_eqb}
use Rattle.std.proofs.lemmas.List.{map-append}
use Rattle.std.specs.Prelude.{cond, map, filter, flat_map}
use Rattle.std.specs.List.{AllByRecursion}
use Rattle.object_model.specs.tags.declared.object_id.ObjectId.{ObjectId}
use Rattle.object_model.specs.tags.declared.value.Value.{Value}
use Rattle.object_model.specs.declared.object.Object.{Object}
use Rattle.primitives.specs.declared.plain_data.ObjectRefs.{ObjectRefs}
use Rattle.primitives.specs.declared.plain_data.ObjectWrites.{ObjectWrites}
use Rattle.primitives.specs.declared.plain_data.PropertyReference.{PropertyReference}
use Rattle.primitives.specs.declared.plain_data.PropertyResult.{PropertyResult}
use Rattle.primitives.specs.declared.plain_data.PropertyWrite.{PropertyWrite}
use Rattle.primitives.specs.declared.plain_data.Request.{Request}
use Rattle.primitives.specs.declared.plain_data.Request.TheVariants.{Read, ReadMany, Write, WriteMany}
use Rattle.primitives.specs.declared.property.Property.{Property}
use Rattle.primitives.specs.declared.property.Property.TheVariants as property
use Rattle.primitives.specs.Answers.{IsOneProperty, read_reference, AnswersAll, IsAnswerTo}
use Rattle.objects.specs.Machine.{reading_reply, write_outcome, outcome, reply, after}
use Rattle.primitives.specs.Numbers.{property_number}
use Rattle.object_model.specs.Objects.{PlainTable, properties_of}
use Rattle.object_model.specs.Reading.{Refusal, object_at, read, is_special, is_selected, entry, selected_entries, entries_in, results_of}
use Rattle.primitives.specs.Sound.{AreSound, IsSoundId, IsSoundIndex, IsSoundReference, IsSoundRefs, IsSoundWrite, IsSoundWrites, IsSoundRequest}
use Rattle.primitives.specs.Sound.{IsSoundReading, IsSoundResult, IsSoundResults, IsSoundReply}
use Rattle.object_model.specs.Site.{IsSoundTable}
use Rattle.object_model.specs.Writing.{write, ObjectWrite, in_order, Outcome, go_on, write_all}
use Rattle.object_model.proofs.SoundLaws.{true_false}
use Rattle.object_model.proofs.LocateLaws.{IsSoundTable-write}
use Rattle.object_model.proofs.SoundReplyLaws.{IsSoundIfErr, write_sound, read_sound}

-- ---- lists

all_append : {X : Type 0} (P : X → Type 0) (xs ys : List X) → AllByRecursion P xs → AllByRecursion P ys → AllByRecursion P (xs ++ ys)
all_append P [] ys a b = b
all_append P (x ∷ xs) ys a b = (a.0, all_append P xs ys a.1 b)

all_map : {X Y : Type 0} (P : X → Type 0) (Q : Y → Type 0) (f : X → Y) (xs : List X) → ((x : X) → P x → Q (f x)) → AllByRecursion P xs →
    AllByRecursion Q (map f xs)
all_map P Q f [] step all = tt
all_map P Q f (x ∷ xs) step all = (step x all.0, all_map P Q f xs step all.1)

every_map : {X Y : Type 0} (Q : Y → Type 0) (f : X → Y) (xs : List X) → ((x : X) → Q (f x)) → AllByRecursion Q (map f xs)
every_map Q f [] step = tt
every_map Q f (x ∷ xs) step = (step x, every_map Q f xs step)

all_flat_map : {X Y : Type 0} (P : X → Type 0) (Q : Y → Type 0) (f : X → List Y) (xs : List X) → ((x : X) → P x → AllByRecursion Q (f x)) →
    AllByRecursion P xs → AllByRecursion Q (flat_map f xs)
all_flat_map P Q f [] step all = tt
all_flat_map P Q f (x ∷ xs) step all = all_append Q (f x) (flat_map f xs) (step x all.0) (all_flat_map P Q f xs step all.1)

-- ---- writes one after another

-- a write of sound values to a sound identifier
abbrev pub IsSoundObjectWrite : {A : Type 0} → ObjectWrite A → Type 0
IsSoundObjectWrite w = IsSoundId w.object × IsSoundWrite w.write

abbrev write_to : (A : Type 0) → ObjectId → PropertyWrite A → ObjectWrite A
write_to A id w = record { object = id; write = w }

writes_of_sound : {A : Type 0} (g : ObjectWrites A) → IsSoundWrites g → AllByRecursion IsSoundObjectWrite (map (write_to A g.object) g.writes)
writes_of_sound {A} g s = all_map IsSoundWrite IsSoundObjectWrite (write_to A g.object) g.writes (λ w w_sound. (s.0, w_sound)) s.2

-- the writes of a sound request are sound
pub in_order_sound : {A : Type 0} (asked : List (ObjectWrites A)) → AllByRecursion IsSoundWrites asked → AllByRecursion IsSoundObjectWrite (in_order asked)
in_order_sound {A} asked all = all_flat_map IsSoundWrites IsSoundObjectWrite (λ (g : ObjectWrites A). map (write_to A g.object) g.writes) asked
    (λ g s. writes_of_sound g s) all

-- a sound table, and a sound reply
abbrev pub IsSoundOutcome : {A : Type 0} → Outcome A → Type 0
IsSoundOutcome o = IsSoundTable o.table × IsSoundReply o.reply

go_on_sound : {A : Type 0} (t : PlainTable A) (w : ObjectWrite A) (r : Result (PlainTable A) Refusal) (next : PlainTable A → Outcome A) → IsSoundTable t →
    IsSoundObjectWrite w → write t w.object w.write ≡ r → IsSoundIfErr r → ((written : PlainTable A) → IsSoundTable written → IsSoundOutcome (next written)) →
    IsSoundOutcome (go_on t w r next)
go_on_sound t w (Err e) next s w_sound is e_sound later = (s, (e_sound, w_sound.0, w_sound.1.0, w_sound.1.1))
go_on_sound t w (Ok written) next s w_sound is e_sound later = later written (IsSoundTable-write t w.object w.write written s w_sound.1.2 is)

-- sound writes leave a sound table and have a sound reply
pub write_all_sound : {A : Type 0} (t : PlainTable A) (ws : List (ObjectWrite A)) → IsSoundTable t → AllByRecursion IsSoundObjectWrite ws →
    IsSoundOutcome (write_all t ws)
write_all_sound t [] s all = (s, tt)
write_all_sound t (w ∷ ws) s all =
    go_on_sound t w (write t w.object w.write) (λ written. write_all written ws) s all.0 refl (write_sound t w.object w.write)
    (λ written written_sound. write_all_sound written ws written_sound all.1)

-- ---- one write, one read

write_outcome_sound : {A : Type 0} (t : PlainTable A) (object : ObjectId) (w : PropertyWrite A) (r : Result (PlainTable A) Refusal) → IsSoundTable t →
    AreSound w.values → write t object w ≡ r → IsSoundIfErr r → IsSoundOutcome (write_outcome t r)
write_outcome_sound t object w (Err e) s sound is e_sound = (s, e_sound)
write_outcome_sound t object w (Ok written) s sound is e_sound = (IsSoundTable-write t object w written s sound is, tt)

reading_reply_sound : {A : Type 0} (r : Result (List (Value A)) Refusal) → IsSoundReading r → IsSoundReply (reading_reply r)
reading_reply_sound (Ok values) s = s
reading_reply_sound (Err e) s = s

-- ---- ReadPropertyMultiple

property_small : (p : Property) → property_number p < 2 ^ 32
property_small property.ObjectIdentifier = omega arith
property_small p = omega arith

entry_sound : {A : Type 0} (t : PlainTable A) (id : ObjectId) (number : ℕ) (index : Option ℕ) → IsSoundTable t → number < 2 ^ 32 → IsSoundIndex index →
    IsSoundResult (entry t id number index)
entry_sound t id number index s n i = (n, i, read_sound t id number index s)

selected_sound : {A : Type 0} (t : PlainTable A) (id : ObjectId) (o : Object A) (number : ℕ) (index : Option ℕ) → IsSoundTable t → number < 2 ^ 32 →
    IsSoundIndex index → AllByRecursion IsSoundResult (selected_entries t id o number index)
selected_sound t id o number (Some i) s n sound = ((n, sound, (omega arith, tt, omega arith, tt)), tt)
selected_sound {A} t id o number None s n sound =
    every_map IsSoundResult (λ (p : Property). entry t id (property_number p) None) (filter (is_selected number) (properties_of o))
    (λ p. entry_sound t id (property_number p) None s (property_small p) tt)

entries_sound_if : {A : Type 0} (special : Bool) (some one : List (PropertyResult A)) → AllByRecursion IsSoundResult some → AllByRecursion IsSoundResult one →
    AllByRecursion IsSoundResult (cond special some one)
entries_sound_if true some one a b = a
entries_sound_if false some one a b = b

entries_sound : {A : Type 0} (t : PlainTable A) (id : ObjectId) (found : Option (Object A)) (r : PropertyReference) → IsSoundTable t → IsSoundReference r →
    AllByRecursion IsSoundResult (entries_in t id found r)
entries_sound t id None r s r_sound = (entry_sound t id r.property r.index s r_sound.0 r_sound.1, tt)
entries_sound t id (Some o) r s r_sound =
    entries_sound_if (is_special r.property) (selected_entries t id o r.property r.index) (entry t id r.property r.index ∷ [])
    (selected_sound t id o r.property r.index s r_sound.0 r_sound.1) (entry_sound t id r.property r.index s r_sound.0 r_sound.1, tt)

pub results_sound : {A : Type 0} (t : PlainTable A) (asked : ObjectRefs A) → IsSoundTable t → IsSoundRefs asked → IsSoundResults (results_of t asked)
results_sound t asked s sound = (
  sound.0,
  all_flat_map IsSoundReference IsSoundResult (entries_in t asked.object (object_at t asked.object)) asked.refs
      (λ r r_sound. entries_sound t asked.object (object_at t asked.object) r s r_sound) sound.2,
)

-- a sound table has a sound outcome of every sound request
pub outcome_sound : {A : Type 0} (t : PlainTable A) (q : Request A) → IsSoundTable t → IsSoundRequest q → IsSoundOutcome (outcome t q)
outcome_sound t (Read object property index) s q = (s, reading_reply_sound (read t object property index) (read_sound t object property index s))
outcome_sound t (ReadMany asked) s q = (s, all_map IsSoundRefs IsSoundResults (results_of t) asked (λ r r_sound. results_sound t r s r_sound) q.1)
outcome_sound t (Write object property index values priority) s q =
    let w : PropertyWrite _ = record { property = property; index = index; values = values; priority = priority } in
    write_outcome_sound t object w (write t object w) s q.3 refl (write_sound t object w)
outcome_sound t (WriteMany asked) s q = write_all_sound t (in_order asked) s (in_order_sound asked q.1)

pub after_sound : {A : Type 0} (t : PlainTable A) (q : Request A) → IsSoundTable t → IsSoundRequest q → IsSoundTable (after t q)
after_sound t q s sound = (outcome_sound t q s sound).0

pub reply_sound : {A : Type 0} (t : PlainTable A) (q : Request A) → IsSoundTable t → IsSoundRequest q → IsSoundReply (reply t q)
reply_sound t q s sound = (outcome_sound t q s sound).1

-- ---- what answers what

reading_answers : {A : Type 0} (object : ObjectId) (property : ℕ) (index : Option ℕ) (r : Result (List (Value A)) Refusal) →
    IsAnswerTo (Read object property index) (reading_reply r)
reading_answers object property index (Ok values) = tt
reading_answers object property index (Err e) = tt

write_answers : {A : Type 0} (object : ObjectId) (property : ℕ) (index : Option ℕ) (values : List (Value A)) (priority : Option ℕ) (t : PlainTable A)
    (r : Result (PlainTable A) Refusal) → IsAnswerTo (Write object property index values priority) (write_outcome t r).reply
write_answers object property index values priority t (Ok written) = tt
write_answers object property index values priority t (Err e) = tt

go_on_answers : {A : Type 0} (asked : List (ObjectWrites A)) (t : PlainTable A) (w : ObjectWrite A) (r : Result (PlainTable A) Refusal) (next : PlainTable A →
    Outcome A) → ((written : PlainTable A) → IsAnswerTo (WriteMany asked) (next written).reply) → IsAnswerTo (WriteMany asked) (go_on t w r next).reply
go_on_answers asked t w (Err e) next later = tt
go_on_answers asked t w (Ok written) next later = later written

write_all_answers : {A : Type 0} (asked : List (ObjectWrites A)) (t : PlainTable A) (ws : List (ObjectWrite A)) →
    IsAnswerTo (WriteMany asked) (write_all t ws).reply
write_all_answers asked t [] = tt
write_all_answers asked t (w ∷ ws) = go_on_answers asked t w (write t w.object w.write) (λ written. write_all written ws)
    (λ written. write_all_answers asked written ws)

one_of_three : (n : ℕ) → n ≢ 8 → n ≢ 80 → n ≢ 105 → is_special n ≡ false
one_of_three n a b c = rw (ne_eqb n 8 a, ne_eqb n 80 b, ne_eqb n 105 c) refl

map_if : {A : Type 0} (special : Bool) (some one : List (PropertyResult A)) → special ≡ false →
    map read_reference (cond special some one) ≡ map read_reference one
map_if true some one e = absurd (true_false e)
map_if false some one e = refl

entries_answer : {A : Type 0} (t : PlainTable A) (id : ObjectId) (found : Option (Object A)) (r : PropertyReference) → IsOneProperty r →
    map read_reference (entries_in t id found r) ≡ r ∷ []
entries_answer t id None r p = refl
entries_answer t id (Some o) r p = map_if (is_special r.property) (selected_entries t id o r.property r.index) (entry t id r.property r.index ∷ [])
    (one_of_three r.property p.0 p.1 p.2)

references_answer : {A : Type 0} (t : PlainTable A) (id : ObjectId) (found : Option (Object A)) (refs : List PropertyReference) →
    AllByRecursion IsOneProperty refs → map read_reference (flat_map (entries_in t id found) refs) ≡ refs
references_answer t id found [] all = refl
references_answer t id found (r ∷ refs) all =
    map-append read_reference (entries_in t id found r) (flat_map (entries_in t id found) refs)
    ∙ ap (λ (xs : List PropertyReference). xs ++ map read_reference (flat_map (entries_in t id found) refs)) (entries_answer t id found r all.0)
    ∙ ap (λ (xs : List PropertyReference). r ∷ xs) (references_answer t id found refs all.1)

results_answer : {A : Type 0} (t : PlainTable A) (asked : List (ObjectRefs A)) → AnswersAll asked (map (results_of t) asked)
results_answer t [] = tt
results_answer t (g ∷ asked) = (record { object = refl; references = references_answer t g.object (object_at t g.object) g.refs }, results_answer t asked)

-- the reply is of a kind that the request's service gives
pub reply_answers : {A : Type 0} (t : PlainTable A) (q : Request A) → IsAnswerTo q (reply t q)
reply_answers t (Read object property index) = reading_answers object property index (read t object property index)
reply_answers t (ReadMany asked) = results_answer t asked
reply_answers t (Write object property index values priority) =
    write_answers object property index values priority t (write t object (record { property = property; index = index; values = values; priority = priority }))
reply_answers t (WriteMany asked) = write_all_answers asked t (in_order asked)
