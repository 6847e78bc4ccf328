-- Tables of one shape refuse the same writes, and a write keeps the shape.
use Rattle.std.proofs.Common.{refl, sym, ap, subst, ◌∙◌, ◌≡◌, ℕ, suc, Bool, true, false, List, [], ◌∷◌, ◌++◌, Option, Some, None, Result, Ok, Err, length}
use Rattle.std.proofs.lemmas.List.{length-map}
use Rattle.std.specs.Prelude.{cond, find, ◌==◌, ◌↔◌}
use Rattle.object_model.specs.tags.declared.object_id.ObjectId.{ObjectId}
use Rattle.object_model.specs.tags.declared.value.Value.{Value}
use Rattle.object_model.specs.declared.object.Access.{Access}
use Rattle.object_model.specs.declared.object.Access.TheVariants.{Writable, Commandable}
use Rattle.object_model.specs.declared.object.DeviceObject.{DeviceObject}
use Rattle.object_model.specs.declared.object.Object.{Object}
use Rattle.object_model.specs.declared.object.Object.TheVariants as object
use Rattle.object_model.specs.declared.object.ValueKind.{ValueKind}
use Rattle.object_model.specs.declared.object.ValueObject.{ValueObject}
use Rattle.primitives.specs.declared.plain_data.PropertyWrite.{PropertyWrite}
use Rattle.primitives.specs.declared.plain_data.Reply.{Reply}
use Rattle.primitives.specs.declared.plain_data.Reply.TheVariants.{Done}
use Rattle.primitives.specs.declared.property.Property.{Property}
use Rattle.primitives.specs.declared.property.Property.TheVariants as property
use Rattle.objects.specs.Failure.{AreAlike, HaveOneShape, failure_or, first_failure}
use Rattle.object_model.specs.Identifiers.{same_id}
use Rattle.primitives.specs.Numbers.{property_number}
use Rattle.object_model.specs.Objects.{PlainTable, identifier, first_properties, last_properties, own_properties, properties_of, slot_value, states_of}
use Rattle.object_model.specs.Objects.{units_of, held_by_value, held_by_device, held}
use Rattle.primitives.specs.Properties.{is_array}
use Rattle.object_model.specs.Reading.{Refusal, Place, is_named, object_at, property_at, index_refusal, place_or, locate_element, locate_property, locate}
use Rattle.object_model.specs.Writing.{datatype_of, access, level_of, write_refusal, put, with_object, unless, write_place, write, ObjectWrite, Outcome}
use Rattle.object_model.specs.Writing.{failed_at, go_on, write_all}
use Rattle.object_model.proofs.SoundLaws.{listed, put_value_kind, put_value_instance, put_value_slots, put_device_instance, value_identifier, device_identifier}
use Rattle.object_model.proofs.SoundLaws.{some_same, some_none, true_false}
use Rattle.object_model.proofs.LocateLaws.{err_ok, is_done, refusing}

-- ---- the relation

alike_self : {A : Type 0} (o : Object A) → AreAlike o o
alike_self (object.Device d) = refl
alike_self (object.Value o) = (refl, refl, refl)

alike_chain : {A : Type 0} (o p q : Object A) → AreAlike o p → AreAlike p q → AreAlike o q
alike_chain (object.Device d) (object.Device e) (object.Device f) a b = a ∙ b
alike_chain (object.Value o) (object.Value p) (object.Value q) a b = (a.0 ∙ b.0, a.1 ∙ b.1, a.2 ∙ b.2)
alike_chain (object.Device d) (object.Device e) (object.Value q) a b = absurd b
alike_chain (object.Value o) (object.Value p) (object.Device f) a b = absurd b
alike_chain (object.Device d) (object.Value p) q a b = absurd a
alike_chain (object.Value o) (object.Device e) q a b = absurd a

pub one_shape-self : {A : Type 0} (t : PlainTable A) → HaveOneShape t t
one_shape-self [] = tt
one_shape-self (o ∷ os) = (alike_self o, one_shape-self os)

pub one_shape-chain : {A : Type 0} (t u v : PlainTable A) → HaveOneShape t u → HaveOneShape u v → HaveOneShape t v
one_shape-chain [] [] [] a b = tt
one_shape-chain [] [] (q ∷ v) a b = absurd b
one_shape-chain [] (p ∷ u) v a b = absurd a
one_shape-chain (o ∷ t) [] v a b = absurd a
one_shape-chain (o ∷ t) (p ∷ u) [] a b = absurd b
one_shape-chain (o ∷ t) (p ∷ u) (q ∷ v) a b = (alike_chain o p q a.0 b.0, one_shape-chain t u v a.1 b.1)

-- a write leaves an object like itself
pub alike-put : {A : Type 0} (p : Property) (level : ℕ) (values : List (Value A)) (o : Object A) → AreAlike o (put p level values o)
alike-put p level [] o = alike_self o
alike-put p level (v ∷ []) (object.Device d) = sym (put_device_instance d p v)
alike-put p level (v ∷ []) (object.Value o) = (sym (put_value_kind o p level v), sym (put_value_instance o p level v), sym (put_value_slots o p level v))
alike-put p level (v ∷ w ∷ values) o = alike_self o

one_shape_if : {A : Type 0} (test : Bool) (o : Object A) (os os' : List (Object A)) (change : Object A → Object A) → AreAlike o (change o) →
    HaveOneShape os os' → HaveOneShape (o ∷ os) (cond test (change o ∷ os) (o ∷ os'))
one_shape_if true o os os' change a rest = (a, one_shape-self os)
one_shape_if false o os os' change a rest = (alike_self o, rest)

-- a write leaves the shape of a table
pub one_shape-with_object : {A : Type 0} (t : PlainTable A) (id : ObjectId) (change : Object A → Object A) → ((o : Object A) → AreAlike o (change o)) →
    HaveOneShape t (with_object t id change)
one_shape-with_object [] id change alike = tt
one_shape-with_object (o ∷ os) id change alike =
    one_shape_if (is_named id o) o os (with_object os id change) change (alike o) (one_shape-with_object os id change alike)

pub one_shape-write : {A : Type 0} (t u : PlainTable A) (id : ObjectId) (w : PropertyWrite A) → write t id w ≡ Ok u → HaveOneShape t u
one_shape-write t u id w e =
    let d = is_done t id w u e in
    subst (λ (x : PlainTable _). HaveOneShape t x) d.table
    (one_shape-with_object t id (put d.at.property (level_of w.priority) w.values) (alike-put d.at.property (level_of w.priority) w.values))

-- ---- what alike objects have in common

pub alike_identifier : {A : Type 0} (o p : Object A) → AreAlike o p → identifier o ≡ identifier p
alike_identifier (object.Device d) (object.Device e) a = device_identifier d e a
alike_identifier (object.Value o) (object.Value p) a = value_identifier o p a.0 a.1
alike_identifier (object.Device d) (object.Value p) a = absurd a
alike_identifier (object.Value o) (object.Device e) a = absurd a

pub alike_properties : {A : Type 0} (o p : Object A) → AreAlike o p → properties_of o ≡ properties_of p
alike_properties (object.Device d) (object.Device e) a = refl
alike_properties (object.Value o) (object.Value p) a = ap (λ (k : ValueKind). first_properties ++ own_properties k ++ last_properties) a.0
alike_properties (object.Device d) (object.Value p) a = absurd a
alike_properties (object.Value o) (object.Device e) a = absurd a

value_access : {A : Type 0} (o p : ValueObject A) (at : Property) → o.kind ≡ p.kind → access (object.Value o) at ≡ access (object.Value p) at
value_access o p property.PresentValue k = ap (λ (k : ValueKind). Commandable (datatype_of k)) k
value_access o p property.RelinquishDefault k = ap (λ (k : ValueKind). Writable (datatype_of k)) k
value_access o p at k = refl

device_access : {A : Type 0} (d e : DeviceObject A) (at : Property) → access (object.Device d) at ≡ access (object.Device e) at
device_access d e property.Description = refl
device_access d e at = refl

pub alike_access : {A : Type 0} (o p : Object A) (at : Property) → AreAlike o p → access o at ≡ access p at
alike_access (object.Device d) (object.Device e) at a = device_access d e at
alike_access (object.Value o) (object.Value p) at a = value_access o p at a.0
alike_access (object.Device d) (object.Value p) at a = absurd a
alike_access (object.Value o) (object.Device e) at a = absurd a

value_held : {A : Type 0} (o p : ValueObject A) (at : Property) → o.kind ≡ p.kind → length o.slots ≡ length p.slots →
    length (held_by_value o at) ≡ length (held_by_value p at)
value_held {A} o p property.NumberOfStates k n = ap (λ (k : ValueKind). length (states_of {A = A} k)) k
value_held {A} o p property.Units k n = ap (λ (k : ValueKind). length (units_of {A = A} k)) k
value_held o p property.PriorityArray k n = length-map o.slots slot_value ∙ n ∙ sym (length-map p.slots slot_value)
value_held o p at k n = refl

device_held : {A : Type 0} (t u : PlainTable A) (d e : DeviceObject A) (at : Property) → length t ≡ length u →
    length (held_by_device t d at) ≡ length (held_by_device u e at)
device_held {A} t u d e property.ObjectList n = length-map t (listed A) ∙ n ∙ sym (length-map u (listed A))
device_held t u d e at n = refl

alike_held : {A : Type 0} (t u : PlainTable A) (o p : Object A) (at : Property) → length t ≡ length u → AreAlike o p →
    length (held t o at) ≡ length (held u p at)
alike_held t u (object.Device d) (object.Device e) at n a = device_held t u d e at n
alike_held t u (object.Value o) (object.Value p) at n a = value_held o p at a.0 a.2
alike_held t u (object.Device d) (object.Value p) at n a = absurd a
alike_held t u (object.Value o) (object.Device e) at n a = absurd a

pub one_shape_length : {A : Type 0} (t u : PlainTable A) → HaveOneShape t u → length t ≡ length u
one_shape_length [] [] a = refl
one_shape_length [] (p ∷ u) a = absurd a
one_shape_length (o ∷ t) [] a = absurd a
one_shape_length (o ∷ t) (p ∷ u) a = ap suc (one_shape_length t u a.1)

-- ---- what tables of one shape refuse

-- both found, and alike, or neither
abbrev FindAlike : {A : Type 0} → Option (Object A) → Option (Object A) → Type 0
FindAlike None None = Unit {0}
FindAlike (Some o) (Some p) = AreAlike o p
FindAlike found other = ⊥

find_alike_if : {A : Type 0} (test test' : Bool) (o p : Object A) (found found' : Option (Object A)) → test ≡ test' → AreAlike o p → FindAlike found found' →
    FindAlike (cond test (Some o) found) (cond test' (Some p) found')
find_alike_if true true o p found found' e a rest = a
find_alike_if false false o p found found' e a rest = rest
find_alike_if true false o p found found' e a rest = absurd (true_false e)
find_alike_if false true o p found found' e a rest = absurd (true_false (sym e))

find_alike : {A : Type 0} (t u : PlainTable A) (id : ObjectId) → HaveOneShape t u → FindAlike (object_at t id) (object_at u id)
find_alike [] [] id a = tt
find_alike [] (p ∷ u) id a = absurd a
find_alike (o ∷ t) [] id a = absurd a
find_alike (o ∷ t) (p ∷ u) id a =
    find_alike_if (is_named id o) (is_named id p) o p (object_at t id) (object_at u id) (ap (λ (i : ObjectId). same_id i id) (alike_identifier o p a.0)) a.0
    (find_alike t u id a.1)

-- one place, of alike objects, or one refusal
abbrev pub LocateAlike : {A : Type 0} → Result (Place A) Refusal → Result (Place A) Refusal → Type 0
LocateAlike (Ok a) (Ok b) = AreAlike a.object b.object × (a.property ≡ b.property)
LocateAlike (Err e) (Err f) = e ≡ f
LocateAlike r s = ⊥

place_alike : {A : Type 0} (refused refused' : Option Refusal) (o p : Object A) (at : Property) → refused ≡ refused' → AreAlike o p →
    LocateAlike (place_or refused (record { object = o; property = at })) (place_or refused' (record { object = p; property = at }))
place_alike None None o p at e a = (a, refl)
place_alike (Some r) (Some s) o p at e a = some_same r s e
place_alike None (Some s) o p at e a = absurd (some_none s (sym e))
place_alike (Some r) None o p at e a = absurd (some_none r e)

element_alike : {A : Type 0} (t u : PlainTable A) (o p : Object A) (named named' : Option Property) (index : Option ℕ) → named ≡ named' →
    length t ≡ length u → AreAlike o p → LocateAlike (locate_element t o named index) (locate_element u p named' index)
element_alike t u o p None None index e n a = refl
element_alike t u o p (Some at) (Some at') index e n a =
    subst (λ (at' : Property). LocateAlike (locate_element t o (Some at) index) (locate_element u p (Some at') index)) (some_same at at' e)
    (place_alike (index_refusal (is_array at) (length (held t o at)) index) (index_refusal (is_array at) (length (held u p at)) index) o p at
    (ap (λ (k : ℕ). index_refusal (is_array at) k index) (alike_held t u o p at n a)) a)
element_alike t u o p None (Some at) index e n a = absurd (some_none at (sym e))
element_alike t u o p (Some at) None index e n a = absurd (some_none at e)

property_alike : {A : Type 0} (t u : PlainTable A) (found found' : Option (Object A)) (number : ℕ) (index : Option ℕ) → length t ≡ length u →
    FindAlike found found' → LocateAlike (locate_property t found number index) (locate_property u found' number index)
property_alike t u None None number index n a = refl
property_alike t u (Some o) (Some p) number index n a =
    element_alike t u o p (property_at o number) (property_at p number) index
    (ap (λ (ps : List Property). find (λ p. number == property_number p) ps) (alike_properties o p a)) n a
property_alike t u None (Some p) number index n a = absurd a
property_alike t u (Some o) None number index n a = absurd a

pub locate_alike : {A : Type 0} (t u : PlainTable A) (id : ObjectId) (number : ℕ) (index : Option ℕ) → HaveOneShape t u →
    LocateAlike (locate t id number index) (locate u id number index)
locate_alike t u id number index a = property_alike t u (object_at t id) (object_at u id) number index (one_shape_length t u a) (find_alike t u id a)

-- both done, or one refusal
abbrev pub RefusedAlike : {X : Type 0} → Result X Refusal → Result X Refusal → Type 0
RefusedAlike (Ok x) (Ok y) = Unit {0}
RefusedAlike (Err e) (Err f) = e ≡ f
RefusedAlike r s = ⊥

unless_alike : {A : Type 0} (refused refused' : Option Refusal) (t u : PlainTable A) → refused ≡ refused' → RefusedAlike (unless refused t) (unless refused' u)
unless_alike None None t u e = tt
unless_alike (Some r) (Some s) t u e = some_same r s e
unless_alike None (Some s) t u e = absurd (some_none s (sym e))
unless_alike (Some r) None t u e = absurd (some_none r e)

write_place_alike : {A : Type 0} (t u : PlainTable A) (id : ObjectId) (w : PropertyWrite A) (place place' : Result (Place A) Refusal) →
    LocateAlike place place' → RefusedAlike (write_place t id w place) (write_place u id w place')
write_place_alike t u id w (Err e) (Err f) a = a
write_place_alike t u id w (Ok at) (Ok at') a =
    unless_alike (write_refusal (access at.object at.property) (level_of w.priority) w.values)
    (write_refusal (access at'.object at'.property) (level_of w.priority) w.values) (with_object t id (put at.property (level_of w.priority) w.values))
    (with_object u id (put at'.property (level_of w.priority) w.values))
    (ap (λ (c : Access). write_refusal c (level_of w.priority) w.values) (alike_access at.object at'.object at.property a.0 ∙ ap (access at'.object) a.1))
write_place_alike t u id w (Err e) (Ok at) a = absurd a
write_place_alike t u id w (Ok at) (Err e) a = absurd a

-- tables of one shape refuse the same writes, for the same reasons
pub refused_alike : {A : Type 0} (t u : PlainTable A) (id : ObjectId) (w : PropertyWrite A) → HaveOneShape t u → RefusedAlike (write t id w) (write u id w)
refused_alike t u id w a = write_place_alike t u id w (locate t id w.property w.index) (locate u id w.property w.index)
    (locate_alike t u id w.property w.index a)

refusal_there : {X : Type 0} (r s : Result X Refusal) (e : Refusal) → RefusedAlike r s → r ≡ Err e → s ≡ Err e
refusal_there (Err f) (Err h) e a is = ap (refusing _) (sym a) ∙ is
refusal_there (Ok x) s e a is = absurd (err_ok e x (sym is))
refusal_there (Err f) (Ok y) e a is = absurd a

refusal_here : {X : Type 0} (r s : Result X Refusal) (e : Refusal) → RefusedAlike r s → s ≡ Err e → r ≡ Err e
refusal_here (Err f) (Err h) e a is = ap (refusing _) a ∙ is
refusal_here r (Ok y) e a is = absurd (err_ok e y (sym is))
refusal_here (Ok x) (Err h) e a is = absurd a

pub one_refusal : {A : Type 0} (t u : PlainTable A) (id : ObjectId) (w : PropertyWrite A) (e : Refusal) → HaveOneShape t u →
    (write t id w ≡ Err e) ↔ (write u id w ≡ Err e)
one_refusal t u id w e a =
    (refusal_there (write t id w) (write u id w) e (refused_alike t u id w a), refusal_here (write t id w) (write u id w) e (refused_alike t u id w a))

-- ---- several writes

go_on_failure : {A : Type 0} (t u : PlainTable A) (w : ObjectWrite A) (r s : Result (PlainTable A) Refusal) (next : PlainTable A →
    Outcome A) (later : Reply A) → HaveOneShape t u → RefusedAlike r s → write u w.object w.write ≡ s →
    ((written : PlainTable A) → HaveOneShape t written → (next written).reply ≡ later) → (go_on u w s next).reply ≡ failure_or w r later
go_on_failure t u w (Err e) (Err f) next later a same is rest = ap (λ (e : Refusal). failed_at w e) (sym same)
go_on_failure t u w (Ok x) (Ok y) next later a same is rest = rest y (one_shape-chain t u y a (one_shape-write u y w.object w.write is))
go_on_failure t u w (Ok x) (Err f) next later a same is rest = absurd same
go_on_failure t u w (Err e) (Ok y) next later a same is rest = absurd same

first_failure_from : {A : Type 0} (t u : PlainTable A) (ws : List (ObjectWrite A)) → HaveOneShape t u → (write_all u ws).reply ≡ first_failure t ws
first_failure_from t u [] a = refl
first_failure_from t u (w ∷ ws) a =
    go_on_failure t u w (write t w.object w.write) (write u w.object w.write) (λ written. write_all written ws) (first_failure t ws) a
    (refused_alike t u w.object w.write a) refl (λ written b. first_failure_from t written ws b)

-- the reply to several writes is the first failure that the table as it was has
pub write_all_reply : {A : Type 0} (t : PlainTable A) (ws : List (ObjectWrite A)) → (write_all t ws).reply ≡ first_failure t ws
write_all_reply t ws = first_failure_from t t ws (one_shape-self t)

pub failure_done : {A : Type 0} (w : ObjectWrite A) (e : Refusal) → failed_at w e ≡ Done → ⊥
failure_done w e is = cc

failure_or_done : {A : Type 0} (w : ObjectWrite A) (r : Result (PlainTable A) Refusal) (first both later : Reply A) → failure_or w r first ≡ Done →
    (first ≡ Done → both ≡ later) → failure_or w r both ≡ later
failure_or_done w (Err e) first both later is next = absurd (failure_done w e is)
failure_or_done w (Ok u) first both later is next = next is

-- behind writes none of which is refused, the first failure is that of the others
pub first_failure-behind : {A : Type 0} (t : PlainTable A) (vs ws : List (ObjectWrite A)) → first_failure t vs ≡ Done →
    first_failure t (vs ++ ws) ≡ first_failure t ws
first_failure-behind t [] ws is = refl
first_failure-behind t (v ∷ vs) ws is =
    failure_or_done v (write t v.object v.write) (first_failure t vs) (first_failure t (vs ++ ws)) (first_failure t ws) is
    (λ done. first_failure-behind t vs ws done)

-- the failure of a write behind others none of which is refused is the first
pub first_failure-at : {A : Type 0} (t : PlainTable A) (vs ws : List (ObjectWrite A)) (w : ObjectWrite A) (e : Refusal) → first_failure t vs ≡ Done →
    write t w.object w.write ≡ Err e → first_failure t (vs ++ w ∷ ws) ≡ failed_at w e
first_failure-at t vs ws w e done fails =
    first_failure-behind t vs (w ∷ ws) done ∙ ap (λ (r : Result (PlainTable _) Refusal). failure_or w r (first_failure t ws)) fails

-- where no write is refused, all are done
pub write_all-done : {A : Type 0} (t : PlainTable A) (ws : List (ObjectWrite A)) → first_failure t ws ≡ Done → (write_all t ws).reply ≡ Done
write_all-done t ws is = write_all_reply t ws ∙ is
