-- A body spells one request.
use Rattle.std.proofs.Common.{◌≡◌, ℕ, ◌<◌, List, [], length, Option, refl, sym, ap, subst, ◌∙◌, arith}
use Rattle.tags.specs.declared.object_id.ObjectId.{ObjectId}
use Rattle.tags.specs.declared.value.Value.{Value}
use Rattle.primitives.specs.declared.plain_data.Request.{Request}
use Rattle.primitives.specs.declared.plain_data.Request.TheVariants.{Read, ReadMany, Write, WriteMany}
use Rattle.primitives.specs.declared.plain_data.ObjectRefs.{ObjectRefs}
use Rattle.primitives.specs.declared.plain_data.PropertyReference.{PropertyReference}
use Rattle.primitives.specs.declared.plain_data.ObjectWrites.{ObjectWrites}
use Rattle.primitives.specs.declared.plain_data.PropertyWrite.{PropertyWrite}
use Rattle.apdu.specs.Numbers.{service_number}
use Rattle.services.specs.Fields.{TakesOption, TakesLast, TakesOpening, TakesClosing, TakesEach, TakesInside, OpensBehind}
use Rattle.services.specs.Requests.{TakesWrite, SpellsReadProperty, SpellsWriteProperty}
use Rattle.services.specs.Multiple.{OpensList, TakesReference, TakesRefs, TakesPropertyWrite, TakesWrites, SpellsReadMultiple, SpellsWriteMultiple}
use Rattle.services.specs.Request.{request_service, SpellsBody, SpellsRequest}
use Rattle.services.proofs.OneField.{one_object, one_number, one_option, one_last, one_opening, one_closing, one_behind, one_property, one_inside, one_list}
use Rattle.services.proofs.OneField.{contents_no_closing}
use Rattle.services.proofs.Shortens.{refs_shortens, writes_shortens}

abbrev read_with : (A : Type 0) → ObjectId → ℕ → Option ℕ → Request A
read_with A o n i = Read o n i

read_is : {A : Type 0} (o p : ObjectId) (n m : ℕ) (i j : Option ℕ) → o ≡ p → n ≡ m → i ≡ j → read_with A o n i ≡ read_with A p m j
read_is o p n m i j e f g = cc

write_is : {A : Type 0} (o p : ObjectId) (n m : ℕ) (i j : Option ℕ) (vs ws : List (Value A)) (k l : Option ℕ) → o ≡ p → n ≡ m → i ≡ j → vs ≡ ws → k ≡ l →
    Write o n i vs k ≡ Write p m j ws l
write_is o p n m i j vs ws k l e f g h q = cc

one_read : {A : Type 0} (body : List ℕ) (o p : ObjectId) (n m : ℕ) (i j : Option ℕ) → SpellsReadProperty body o n i → SpellsReadProperty body p m j →
    read_with A o n i ≡ read_with A p m j
one_read body o p n m i j s r =
    let x = one_property body o p n m s.behind_property r.behind_property s.property_taken r.property_taken in
    let y = one_last s.behind_property 2 i j [] [] s.index_taken (subst (λ (z : List ℕ). TakesLast z 2 j []) (sym x.2) r.index_taken) in
    read_is o p n m i j x.0 x.1 y.0

-- what is written where, and what follows
pub record SameWrite {A : Type 0} (o p : ObjectId) (n m : ℕ) (i j : Option ℕ) (vs ws : List (Value A)) (a b : List ℕ) : Type 0 where
  pub object : o ≡ p
  pub property : n ≡ m
  pub index : i ≡ j
  pub values : vs ≡ ws
  pub rest : a ≡ b

pub one_write : {A : Type 0} (octets : List ℕ) (o p : ObjectId) (n m : ℕ) (i j : Option ℕ) (vs ws : List (Value A)) (a b : List ℕ) →
    TakesWrite octets o n i vs a → TakesWrite octets p m j ws b → SameWrite o p n m i j vs ws a b
one_write octets o p n m i j vs ws a b s r =
    let x = one_property octets o p n m s.behind_property r.behind_property s.property_taken r.property_taken in
    let y = one_behind s.behind_property 2 i j 3 s.inside r.inside s.opened (subst (λ (z : List ℕ). OpensBehind z 2 j 3 r.inside) (sym x.2) r.opened) in
    let z = one_inside s.inside 3 vs ws a b s.values_taken (subst (λ (q : List ℕ). TakesInside q 3 ws b) (sym y.1) r.values_taken) in
    record { object = x.0; property = x.1; index = y.0; values = z.0; rest = z.1 }

one_write_property : {A : Type 0} (body : List ℕ) (o p : ObjectId) (n m : ℕ) (i j : Option ℕ) (vs ws : List (Value A)) (k l : Option ℕ) →
    SpellsWriteProperty body o n i vs k → SpellsWriteProperty body p m j ws l → Write o n i vs k ≡ Write p m j ws l
one_write_property body o p n m i j vs ws k l s r =
    let x = one_write body o p n m i j vs ws s.behind_values r.behind_values s.write_taken r.write_taken in
    let y = one_last s.behind_values 4 k l [] [] s.priority_taken (subst (λ (z : List ℕ). TakesLast z 4 l []) (sym x.rest) r.priority_taken) in
    write_is o p n m i j vs ws k l x.object x.property x.index x.values y.0

pub one_opened : (octets : List ℕ) (o p : ObjectId) (a b : List ℕ) → OpensList octets o a → OpensList octets p b → (o ≡ p) × (a ≡ b)
one_opened octets o p a b s r =
    let x = one_object octets 0 o p s.behind_object r.behind_object s.object_taken r.object_taken in
    (x.0, one_opening s.behind_object 1 a b s.opened (subst (λ (z : List ℕ). TakesOpening z 1 b) (sym x.1) r.opened))

abbrev reference : ℕ → Option ℕ → PropertyReference
reference p i = record { property = p; index = i }

reference_is : (r q : PropertyReference) → r.property ≡ q.property → r.index ≡ q.index → r ≡ q
reference_is r q e f = ap (λ (p : ℕ). reference p r.index) e ∙ ap (λ (i : Option ℕ). reference q.property i) f

pub one_reference : (octets : List ℕ) (r q : PropertyReference) (a b : List ℕ) → TakesReference octets r a → TakesReference octets q b → (r ≡ q) × (a ≡ b)
one_reference octets r q a b s t =
    let x = one_number octets 0 r.property q.property s.behind_property t.behind_property s.property_taken t.property_taken in
    let y = one_option s.behind_property 1 r.index q.index a b s.index_taken (subst (λ (z : List ℕ). TakesOption z 1 q.index b) (sym x.1) t.index_taken) in
    (reference_is r q x.0 y.0, y.1)

pub reference_no_closing : (octets : List ℕ) (r : PropertyReference) (a b : List ℕ) → TakesReference octets r a → TakesClosing octets 1 b → ⊥
reference_no_closing octets r a b s t = contents_no_closing octets 0 1 s.property_taken.inner s.behind_property b s.property_taken.tag t

abbrev refs_with : {A : Type 0} → ObjectId → List PropertyReference → ObjectRefs A
refs_with o rs = record { object = o; refs = rs }

refs_is : {A : Type 0} (r q : ObjectRefs A) → r.object ≡ q.object → r.refs ≡ q.refs → r ≡ q
refs_is {A} r q e f = ap (λ (o : ObjectId). refs_with {A = A} o r.refs) e ∙ ap (λ (rs : List PropertyReference). refs_with {A = A} q.object rs) f

pub one_refs : {A : Type 0} (octets : List ℕ) (r q : ObjectRefs A) (a b : List ℕ) → TakesRefs octets r a → TakesRefs octets q b → (r ≡ q) × (a ≡ b)
one_refs octets r q a b s t =
    let x = one_opened octets r.object q.object s.inside t.inside s.opened t.opened in
    let y = one_list TakesReference (λ (o : List ℕ) (c : List ℕ). TakesClosing o 1 c) one_reference (λ o c d u v. one_closing o 1 c d u v) reference_no_closing
    s.inside r.refs q.refs s.behind_references t.behind_references a b s.references_taken s.closed
    (subst (λ (z : List ℕ). TakesEach TakesReference z q.refs t.behind_references) (sym x.1) t.references_taken) t.closed in
    (refs_is r q x.0 y.0, y.1)

abbrev write_with : {A : Type 0} → ℕ → Option ℕ → List (Value A) → Option ℕ → PropertyWrite A
write_with p i vs n = record { property = p; index = i; values = vs; priority = n }

property_write_is : {A : Type 0} (w u : PropertyWrite A) → w.property ≡ u.property → w.index ≡ u.index → w.values ≡ u.values → w.priority ≡ u.priority → w ≡ u
property_write_is {A} w u e f g h =
    ap (λ (p : ℕ). write_with p w.index w.values w.priority) e ∙ ap (λ (i : Option ℕ). write_with u.property i w.values w.priority) f
    ∙ ap (λ (vs : List (Value A)). write_with u.property u.index vs w.priority) g ∙ ap (λ (n : Option ℕ). write_with u.property u.index u.values n) h

pub one_property_write : {A : Type 0} (octets : List ℕ) (w u : PropertyWrite A) (a b : List ℕ) → TakesPropertyWrite octets w a →
    TakesPropertyWrite octets u b → (w ≡ u) × (a ≡ b)
one_property_write octets w u a b s t =
    let x = one_number octets 0 w.property u.property s.behind_property t.behind_property s.property_taken t.property_taken in
    let y = one_behind s.behind_property 1 w.index u.index 2 s.inside t.inside s.opened
    (subst (λ (z : List ℕ). OpensBehind z 1 u.index 2 t.inside) (sym x.1) t.opened) in
    let z = one_inside s.inside 2 w.values u.values s.behind_values t.behind_values s.values_taken
    (subst (λ (q : List ℕ). TakesInside q 2 u.values t.behind_values) (sym y.1) t.values_taken) in
    let k = one_option s.behind_values 3 w.priority u.priority a b s.priority_taken
    (subst (λ (q : List ℕ). TakesOption q 3 u.priority b) (sym z.1) t.priority_taken) in
    (property_write_is w u x.0 y.0 z.0 k.0, k.1)

pub property_write_no_closing : {A : Type 0} (octets : List ℕ) (w : PropertyWrite A) (a b : List ℕ) → TakesPropertyWrite octets w a →
    TakesClosing octets 1 b → ⊥
property_write_no_closing octets w a b s t = contents_no_closing octets 0 1 s.property_taken.inner s.behind_property b s.property_taken.tag t

abbrev writes_with : {A : Type 0} → ObjectId → List (PropertyWrite A) → ObjectWrites A
writes_with o ws = record { object = o; writes = ws }

writes_is : {A : Type 0} (w u : ObjectWrites A) → w.object ≡ u.object → w.writes ≡ u.writes → w ≡ u
writes_is {A} w u e f = ap (λ (o : ObjectId). writes_with o w.writes) e ∙ ap (λ (ws : List (PropertyWrite A)). writes_with u.object ws) f

pub one_writes : {A : Type 0} (octets : List ℕ) (w u : ObjectWrites A) (a b : List ℕ) → TakesWrites octets w a → TakesWrites octets u b → (w ≡ u) × (a ≡ b)
one_writes octets w u a b s t =
    let x = one_opened octets w.object u.object s.inside t.inside s.opened t.opened in
    let y = one_list TakesPropertyWrite (λ (o : List ℕ) (c : List ℕ). TakesClosing o 1 c) one_property_write (λ o c d q v. one_closing o 1 c d q v)
    property_write_no_closing
    s.inside w.writes u.writes s.behind_writes t.behind_writes a b s.writes_taken s.closed
    (subst (λ (z : List ℕ). TakesEach TakesPropertyWrite z u.writes t.behind_writes) (sym x.1) t.writes_taken) t.closed in
    (writes_is w u x.0 y.0, y.1)

-- where the body ends
abbrev pub IsEnd : List ℕ → List ℕ → Type 0
IsEnd octets rest = (octets ≡ []) × (rest ≡ [])

pub one_end : (octets a b : List ℕ) → IsEnd octets a → IsEnd octets b → a ≡ b
one_end octets a b s t = s.1 ∙ sym t.1

pub nothing_shorter : (octets rest : List ℕ) → length rest < length octets → octets ≡ [] → ⊥
nothing_shorter octets rest lt e = let none : length octets ≡ 0 = ap length e in omega (arith, lt, none)

pub refs_no_end : {A : Type 0} (octets : List ℕ) (r : ObjectRefs A) (a b : List ℕ) → TakesRefs octets r a → IsEnd octets b → ⊥
refs_no_end octets r a b s e = nothing_shorter octets a (refs_shortens octets r a s) e.0

pub writes_no_end : {A : Type 0} (octets : List ℕ) (w : ObjectWrites A) (a b : List ℕ) → TakesWrites octets w a → IsEnd octets b → ⊥
writes_no_end octets w a b s e = nothing_shorter octets a (writes_shortens octets w a s) e.0

one_read_many : {A : Type 0} (body : List ℕ) (xs ys : List (ObjectRefs A)) → SpellsReadMultiple body xs → SpellsReadMultiple body ys → xs ≡ ys
one_read_many body xs ys s t = (one_list TakesRefs IsEnd one_refs one_end refs_no_end body xs ys [] [] [] [] s.taken (refl, refl) t.taken (refl, refl)).0

one_write_many : {A : Type 0} (body : List ℕ) (xs ys : List (ObjectWrites A)) → SpellsWriteMultiple body xs → SpellsWriteMultiple body ys → xs ≡ ys
one_write_many body xs ys s t = (one_list TakesWrites IsEnd one_writes one_end writes_no_end body xs ys [] [] [] [] s.taken (refl, refl) t.taken (refl, refl)).0

-- the numbers of two services differ
other_service : {P : Type 0} (n a b : ℕ) → n ≡ a → n ≡ b → (a ≡ b → ⊥) → P
other_service n a b e f h = absurd (h (sym e ∙ f))

pub one_body : {A : Type 0} (service : ℕ) (body : List ℕ) (x y : Request A) → service ≡ service_number (request_service x) →
    service ≡ service_number (request_service y) → SpellsBody body x → SpellsBody body y → x ≡ y
one_body service body (Read o n i) (Read p m j) e f s t = one_read body o p n m i j s t
one_body service body (ReadMany xs) (ReadMany ys) e f s t = ap ReadMany (one_read_many body xs ys s t)
one_body service body (Write o n i vs k) (Write p m j ws l) e f s t = one_write_property body o p n m i j vs ws k l s t
one_body service body (WriteMany xs) (WriteMany ys) e f s t = ap WriteMany (one_write_many body xs ys s t)
one_body service body x y e f s t = absurd (omega (arith, e, f))

pub one_request : {A : Type 0} (service : ℕ) (body : List ℕ) (x y : Request A) → SpellsRequest service body x → SpellsRequest service body y → x ≡ y
one_request service body x y s t = one_body service body x y s.service_is t.service_is s.spelled t.spelled
