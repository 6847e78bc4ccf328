-- What a request leaves as it was, in the table as a whole.
use Rattle.std.proofs.Common.{refl, sym, ap, ◌∙◌, ◌≡◌, ℕ, List, [], ◌∷◌, ◌++◌, Option, Result, Ok, Err}
use Rattle.std.specs.Prelude.{map}
use Rattle.object_model.specs.tags.declared.object_id.ObjectId.{ObjectId}
use Rattle.object_model.specs.tags.declared.value.Value.{Value}
use Rattle.object_model.specs.tags.declared.value.Value.TheVariants as value
use Rattle.primitives.specs.declared.error.ErrorClass.{ErrorClass}
use Rattle.primitives.specs.declared.error.ErrorCode.{ErrorCode}
use Rattle.object_model.specs.declared.object.Object.{Object}
use Rattle.object_model.specs.declared.object.Object.TheVariants as object
use Rattle.primitives.specs.declared.plain_data.PropertyWrite.{PropertyWrite}
use Rattle.primitives.specs.declared.plain_data.Reply.{Reply}
use Rattle.primitives.specs.declared.plain_data.Reply.TheVariants.{Done, Error}
use Rattle.primitives.specs.declared.plain_data.Request.{Request}
use Rattle.primitives.specs.declared.plain_data.Request.TheVariants.{Read, ReadMany, Write, WriteMany}
use Rattle.primitives.specs.declared.property.Property.{Property}
use Rattle.objects.specs.Failure.{HaveOneShape}
use Rattle.objects.specs.Laws.{SaysNoWrite}
use Rattle.objects.specs.Machine.{write_outcome, reply, after}
use Rattle.object_model.specs.Objects.{PlainTable, identifier, name_of, object_list, object_type_of, type_of}
use Rattle.object_model.specs.Reading.{Refusal}
use Rattle.object_model.specs.Writing.{level_of, put, write, ObjectWrite, in_order, Outcome, go_on, write_all, failed_at}
use Rattle.object_model.proofs.SoundLaws.{listed, put_value_kind, identifier-put, name_of-put, map-with_object}
use Rattle.object_model.proofs.LocateLaws.{is_done}
use Rattle.objects.proofs.ShapeLaws.{failure_done, one_shape-self, one_shape-chain, one_shape-write}

-- ---- a relation of tables that each write keeps is kept by each request

-- a relation that holds of a table and itself, is passed on, and holds across each write that is done
pub record IsKept {A : Type 0} (R : PlainTable A → PlainTable A → Type 0) : Type 0 where
  pub self : (t : PlainTable A) → R t t
  pub chain : (t u v : PlainTable A) → R t u → R u v → R t v
  pub write : (t u : PlainTable A) (id : ObjectId) (w : PropertyWrite A) → write t id w ≡ Ok u → R t u

kept_go_on : {A : Type 0} (R : PlainTable A → PlainTable A → Type 0) (t : PlainTable A) (w : ObjectWrite A) (r : Result (PlainTable A) Refusal)
    (next : PlainTable A → Outcome A) → IsKept R → write t w.object w.write ≡ r → ((written : PlainTable A) → R written (next written).table) →
    R t (go_on t w r next).table
kept_go_on R t w (Err e) next k is later = k.self t
kept_go_on R t w (Ok written) next k is later = k.chain t written (next written).table (k.write t written w.object w.write is) (later written)

kept_write_all : {A : Type 0} (R : PlainTable A → PlainTable A → Type 0) (t : PlainTable A) (ws : List (ObjectWrite A)) → IsKept R → R t (write_all t ws).table
kept_write_all R t [] k = k.self t
kept_write_all R t (w ∷ ws) k = kept_go_on R t w (write t w.object w.write) (λ written. write_all written ws) k refl (λ written. kept_write_all R written ws k)

kept_write : {A : Type 0} (R : PlainTable A → PlainTable A → Type 0) (t : PlainTable A) (id : ObjectId) (w : PropertyWrite A)
    (r : Result (PlainTable A) Refusal) → IsKept R → write t id w ≡ r → R t (write_outcome t r).table
kept_write R t id w (Err e) k is = k.self t
kept_write R t id w (Ok written) k is = k.write t written id w is

-- what each write keeps, each request keeps
pub kept_after : {A : Type 0} (R : PlainTable A → PlainTable A → Type 0) (t : PlainTable A) (q : Request A) → IsKept R → R t (after t q)
kept_after R t (Read object property index) k = k.self t
kept_after R t (ReadMany asked) k = k.self t
kept_after R t (Write object property index values priority) k =
    let w : PropertyWrite _ = record { property = property; index = index; values = values; priority = priority } in
    kept_write R t object w (write t object w) k refl
kept_after R t (WriteMany asked) k = kept_write_all R t (in_order asked) k

-- ---- the shape, the identifiers, the names and the object list

shape_kept : (A : Type 0) → IsKept {A = A} HaveOneShape
shape_kept A = record { self = one_shape-self; chain = one_shape-chain; write = one_shape-write }

pub one_shape-after : {A : Type 0} (t : PlainTable A) (q : Request A) → HaveOneShape t (after t q)
one_shape-after {A} t q = kept_after HaveOneShape t q (shape_kept A)

map_write : {A X : Type 0} (f : Object A → X) → ((p : Property) (level : ℕ) (values : List (Value A)) (o : Object A) → f (put p level values o) ≡ f o) →
    (t u : PlainTable A) (id : ObjectId) (w : PropertyWrite A) → write t id w ≡ Ok u → map f u ≡ map f t
map_write f same t u id w e =
    let d = is_done t id w u e in
    ap (map f) (sym d.table) ∙ map-with_object f t id (put d.at.property (level_of w.priority) w.values) (same d.at.property (level_of w.priority) w.values)

map_kept : {A X : Type 0} (f : Object A → X) → ((p : Property) (level : ℕ) (values : List (Value A)) (o : Object A) → f (put p level values o) ≡ f o) →
    IsKept {A = A} (λ t u. map f u ≡ map f t)
map_kept f same = record { self = λ t. refl; chain = λ t u v a b. b ∙ a; write = map_write f same }

pub identifiers-after : {A : Type 0} (t : PlainTable A) (q : Request A) → map identifier (after t q) ≡ map identifier t
identifiers-after t q = kept_after (λ t u. map identifier u ≡ map identifier t) t q (map_kept identifier identifier-put)

pub names-after : {A : Type 0} (t : PlainTable A) (q : Request A) → map name_of (after t q) ≡ map name_of t
names-after t q = kept_after (λ t u. map name_of u ≡ map name_of t) t q (map_kept name_of name_of-put)

abbrev identified : (A : Type 0) → ObjectId → Value A
identified A id = value.Object id

pub listed-put : {A : Type 0} (p : Property) (level : ℕ) (values : List (Value A)) (o : Object A) → listed A (put p level values o) ≡ listed A o
listed-put {A} p level values o = ap (λ (id : ObjectId). identified A id) (identifier-put p level values o)

pub object_list-after : {A : Type 0} (t : PlainTable A) (q : Request A) → object_list (after t q) ≡ object_list t
object_list-after {A} t q = kept_after (λ t u. map (listed A) u ≡ map (listed A) t) t q (map_kept (listed A) listed-put)

-- ---- reading

one_write_says : {A : Type 0} (t : PlainTable A) (r : Result (PlainTable A) Refusal) → SaysNoWrite (write_outcome t r).reply → (write_outcome t r).table ≡ t
one_write_says t (Ok written) s = absurd s
one_write_says t (Err e) s = refl

go_on_says : {A : Type 0} (t : PlainTable A) (w : ObjectWrite A) (r : Result (PlainTable A) Refusal) (next : PlainTable A → Outcome A) →
    ((written : PlainTable A) → SaysNoWrite (next written).reply → ⊥) → SaysNoWrite (go_on t w r next).reply → ⊥
go_on_says t w (Err e) next later s = s
go_on_says t w (Ok written) next later s = later written s

writes_say : {A : Type 0} (t : PlainTable A) (ws : List (ObjectWrite A)) → SaysNoWrite (write_all t ws).reply → ⊥
writes_say t [] s = s
writes_say t (w ∷ ws) s = go_on_says t w (write t w.object w.write) (λ written. write_all written ws) (λ written. writes_say written ws) s

-- where the reply says no write, there was none
pub unchanged : {A : Type 0} (t : PlainTable A) (q : Request A) → SaysNoWrite (reply t q) → after t q ≡ t
unchanged t (Read object property index) s = refl
unchanged t (ReadMany asked) s = refl
unchanged t (Write object property index values priority) s =
    one_write_says t (write t object (record { property = property; index = index; values = values; priority = priority })) s
unchanged t (WriteMany asked) s = absurd (writes_say t (in_order asked) s)

-- ---- types

type_of-put : {A : Type 0} (p : Property) (level : ℕ) (values : List (Value A)) (o : Object A) → object_type_of (put p level values o) ≡ object_type_of o
type_of-put p level [] o = refl
type_of-put p level (v ∷ []) (object.Device d) = refl
type_of-put p level (v ∷ []) (object.Value o) = ap type_of (put_value_kind o p level v)
type_of-put p level (v ∷ w ∷ values) o = refl

pub types-after : {A : Type 0} (t : PlainTable A) (q : Request A) → map object_type_of (after t q) ≡ map object_type_of t
types-after t q = kept_after (λ t u. map object_type_of u ≡ map object_type_of t) t q (map_kept object_type_of type_of-put)

-- ---- several writes

append_go_on : {A : Type 0} (t : PlainTable A) (w : ObjectWrite A) (r : Result (PlainTable A) Refusal) (first both : PlainTable A →
    Outcome A) (ws : List (ObjectWrite A)) → (go_on t w r first).reply ≡ Done →
    ((written : PlainTable A) → (first written).reply ≡ Done → both written ≡ write_all (first written).table ws) →
    go_on t w r both ≡ write_all (go_on t w r first).table ws
append_go_on t w (Err e) first both ws is later = absurd (failure_done w e is)
append_go_on t w (Ok written) first both ws is later = later written is

-- writes behind others that are all done go on from the table that those leave
pub write_all-append : {A : Type 0} (t : PlainTable A) (vs ws : List (ObjectWrite A)) → (write_all t vs).reply ≡ Done →
    write_all t (vs ++ ws) ≡ write_all (write_all t vs).table ws
write_all-append t [] ws is = refl
write_all-append t (v ∷ vs) ws is =
    append_go_on t v (write t v.object v.write) (λ written. write_all written vs) (λ written. write_all written (vs ++ ws)) ws is
    (λ written done. write_all-append written vs ws done)

-- the first write that fails ends the request: those before it stay, those behind it aren't done
pub write_all-fails : {A : Type 0} (t u : PlainTable A) (vs ws : List (ObjectWrite A)) (w : ObjectWrite A) (e : Refusal) →
    write_all t vs ≡ record { table = u; reply = Done } → write u w.object w.write ≡ Err e →
    write_all t (vs ++ w ∷ ws) ≡ record { table = u; reply = failed_at w e }
write_all-fails t u vs ws w e done fails =
    write_all-append t vs (w ∷ ws) (ap (λ (o : Outcome _). o.reply) done)
    ∙ ap (λ (o : Outcome _). write_all o.table (w ∷ ws)) done
    ∙ ap (λ (r : Result (PlainTable _) Refusal). go_on u w r (λ written. write_all written ws)) fails

-- ---- one write

abbrev failure : (A : Type 0) → ErrorClass → ErrorCode → Reply A
failure A class code = Error class code

done_one : (A : Type 0) (class : ErrorClass) (code : ErrorCode) → failure A class code ≡ Done → ⊥
done_one A class code is = cc

write_done_is : {A : Type 0} (t : PlainTable A) (r : Result (PlainTable A) Refusal) → (write_outcome t r).reply ≡ Done → r ≡ Ok (write_outcome t r).table
write_done_is t (Ok written) is = refl
write_done_is t (Err e) is = absurd (done_one _ e.0 e.1 is)

-- a WriteProperty that is done is a write that is done
pub write_done : {A : Type 0} (t : PlainTable A) (id : ObjectId) (number : ℕ) (index : Option ℕ) (values : List (Value A)) (priority : Option ℕ) →
    reply t (Write id number index values priority) ≡ Done → write t id (record { property = number; index = index; values = values; priority = priority })
    ≡ Ok (after t (Write id number index values priority))
write_done t id number index values priority is =
    write_done_is t (write t id (record { property = number; index = index; values = values; priority = priority })) is
