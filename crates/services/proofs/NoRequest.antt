-- Where a body is rejected, it spells no request.
use Rattle.std.proofs.Common.{◌≡◌, ◌≢◌, ℕ, List, [], ◌∷◌, length, Option, refl, sym, ap, subst, inl, inr, arith}
use Rattle.tags.specs.declared.object_id.ObjectId.{ObjectId}
use Rattle.tags.specs.declared.value.Value.{Value}
use Rattle.tags.specs.Tag.{contents}
use Rattle.tags.specs.Element.{context}
use Rattle.primitives.specs.declared.plain_data.Request.{Request}
use Rattle.primitives.specs.declared.plain_data.Request.TheVariants.{Read, ReadMany, Write, WriteMany}
use Rattle.primitives.specs.declared.plain_data.ObjectRefs.{ObjectRefs}
use Rattle.primitives.specs.declared.plain_data.PropertyReference.{PropertyReference}
use Rattle.primitives.specs.declared.plain_data.ObjectWrites.{ObjectWrites}
use Rattle.primitives.specs.declared.plain_data.PropertyWrite.{PropertyWrite}
use Rattle.primitives.specs.Sound.{IsSoundPriority}
use Rattle.apdu.specs.declared.numbers.RejectReason.{RejectReason}
use Rattle.apdu.specs.declared.numbers.RejectReason.TheVariants.{InvalidParameterDataType, InvalidTag, MissingRequiredParameter}
use Rattle.apdu.specs.Numbers.{service_number}
use Rattle.services.specs.Fields.{TakesNumber, TakesOption, TakesLast, TakesOpening, TakesClosing, TakesEach, TakesInside, OpensBehind}
use Rattle.services.specs.Requests.{
  TakesProperty,
  RejectsProperty,
  at_object,
  at_property,
  SpellsReadProperty,
  RejectsReadProperty,
  at_index,
  at_end,
  TakesWrite,
  RejectsWrite,
  at_values,
  SpellsWriteProperty,
  RejectsTail,
  at_priority,
  at_range,
  RejectsWriteProperty,
  at_write,
  at_tail,
}
use Rattle.services.specs.Multiple as m
use Rattle.services.specs.Multiple.{
  OpensList,
  RejectsList,
  RejectsFirst,
  RejectsNext,
  TakesReference,
  RejectsReferences,
  TakesRefs,
  RejectsRefs,
  SpellsReadMultiple,
  MustStand,
  RejectsReadMultiple,
  TakesPropertyWrite,
  RejectsBehindProperty,
  RejectsWriteList,
  TakesWrites,
  RejectsWrites,
  SpellsWriteMultiple,
  RejectsWriteMultiple,
}
use Rattle.services.specs.Request.{request_service, SpellsBody, SpellsRequest, OnlyRequest, NoRequest, RejectsRequest, unknown, read, read_many, write}
use Rattle.services.specs.Request.{write_many}
use Rattle.services.proofs.OneField.{one_object, one_number, one_option, one_last, one_behind, one_property, one_inside, contents_no_closing, no_tag_here}
use Rattle.services.proofs.NoField.{
  bad_number_not_taken,
  object_not_taken,
  number_not_taken,
  option_not_taken,
  last_not_taken,
  end_not_taken,
  opening_not_taken,
  behind_not_taken,
  inside_not_taken,
  list_stuck,
}
use Rattle.services.proofs.OneRequest.{
  one_write,
  one_opened,
  one_reference,
  reference_no_closing,
  one_refs,
  one_property_write,
  property_write_no_closing,
  one_writes,
  IsEnd,
  one_request,
  refs_no_end,
  writes_no_end,
}

-- ---- ReadProperty and WriteProperty

pub property_not_taken : (reason : RejectReason) (octets : List ℕ) (o : ObjectId) (n : ℕ) (a : List ℕ) → RejectsProperty reason octets →
    TakesProperty octets o n a → ⊥
property_not_taken reason octets o n a (at_object h) t = object_not_taken reason octets 0 o t.behind_object h t.object_taken
property_not_taken reason octets o n a (at_property p at u h) t =
    let one = one_object octets 0 p o at t.behind_object u t.object_taken in
    number_not_taken reason at 1 n a h (subst (λ (z : List ℕ). TakesNumber z 1 n a) (sym one.1) t.property_taken)

pub read_not_spelled : (reason : RejectReason) (body : List ℕ) (o : ObjectId) (n : ℕ) (i : Option ℕ) → RejectsReadProperty reason body →
    SpellsReadProperty body o n i → ⊥
read_not_spelled reason body o n i (at_property h) s = property_not_taken reason body o n s.behind_property h s.property_taken
read_not_spelled reason body o n i (at_index p q at u h) s =
    let one = one_property body p o q n at s.behind_property u s.property_taken in
    last_not_taken reason at 2 i [] h (subst (λ (z : List ℕ). TakesLast z 2 i []) (sym one.2) s.index_taken)
read_not_spelled reason body o n i (at_end p q j at rest u l h) s =
    let one = one_property body p o q n at s.behind_property u s.property_taken in
    let two = one_last at 2 j i rest [] l (subst (λ (z : List ℕ). TakesLast z 2 i []) (sym one.2) s.index_taken) in
    end_not_taken reason rest h two.1

pub write_not_taken : {A : Type 0} (reason : RejectReason) (octets : List ℕ) (o : ObjectId) (n : ℕ) (i : Option ℕ) (vs : List (Value A)) (a : List ℕ) →
    RejectsWrite A reason octets → TakesWrite octets o n i vs a → ⊥
write_not_taken reason octets o n i vs a (at_property h) t = property_not_taken reason octets o n t.behind_property h t.property_taken
write_not_taken reason octets o n i vs a (at_index p q at u h) t =
    let one = one_property octets p o q n at t.behind_property u t.property_taken in
    behind_not_taken reason at 2 i 3 t.inside h (subst (λ (z : List ℕ). OpensBehind z 2 i 3 t.inside) (sym one.2) t.opened)
write_not_taken reason octets o n i vs a (at_values p q j at inside u l h) t =
    let one = one_property octets p o q n at t.behind_property u t.property_taken in
    let two = one_behind at 2 j i 3 inside t.inside l (subst (λ (z : List ℕ). OpensBehind z 2 i 3 t.inside) (sym one.2) t.opened) in
    inside_not_taken reason inside 3 vs a h (subst (λ (z : List ℕ). TakesInside z 3 vs a) (sym two.1) t.values_taken)

pub tail_not_taken : (reason : RejectReason) (octets : List ℕ) (k : Option ℕ) → RejectsTail reason octets → TakesLast octets 4 k [] → IsSoundPriority k → ⊥
tail_not_taken reason octets k (at_priority h) t s = last_not_taken reason octets 4 k [] h t
tail_not_taken reason octets k (at_range n rest l h) t s = h.bad (subst (λ (z : Option ℕ). IsSoundPriority z) (sym (one_last octets 4 n k rest [] l t).0) s)
tail_not_taken reason octets k (at_end n rest l q h) t s = end_not_taken reason rest h (one_last octets 4 n k rest [] l t).1

pub write_not_spelled : {A : Type 0} (reason : RejectReason) (body : List ℕ) (o : ObjectId) (n : ℕ) (i : Option ℕ) (vs : List (Value A)) (k : Option ℕ) →
    RejectsWriteProperty A reason body → SpellsWriteProperty body o n i vs k → ⊥
write_not_spelled reason body o n i vs k (at_write h) s = write_not_taken reason body o n i vs s.behind_values h s.write_taken
write_not_spelled reason body o n i vs k (at_tail p q j ws at u h) s =
    let one = one_write body p o q n j i ws vs at s.behind_values u s.write_taken in
    tail_not_taken reason at k h (subst (λ (z : List ℕ). TakesLast z 4 k []) (sym one.rest) s.priority_taken) s.in_range

-- ---- ReadPropertyMultiple

pub list_not_opened : (reason : RejectReason) (octets : List ℕ) (o : ObjectId) (a : List ℕ) → RejectsList reason octets → OpensList octets o a → ⊥
list_not_opened reason octets o a (m.at_object h) t = object_not_taken reason octets 0 o t.behind_object h t.object_taken
list_not_opened reason octets o a (m.at_opening p at u h) t =
    let one = one_object octets 0 p o at t.behind_object u t.object_taken in
    opening_not_taken reason at 1 a h (subst (λ (z : List ℕ). TakesOpening z 1 a) (sym one.1) t.opened)

pub first_not_taken : (reason : RejectReason) (octets : List ℕ) (p : ℕ) (a : List ℕ) → RejectsFirst reason octets → TakesNumber octets 0 p a → ⊥
first_not_taken MissingRequiredParameter octets p a h t =
    elim h [
      | inl e ↦ no_tag_here octets (context 0 (contents t.inner)) a e t.tag
      | inr c ↦ contents_no_closing octets 0 1 t.inner a c.rest t.tag c.taken
    ]
first_not_taken InvalidTag octets p a h t = h.2.none t.inner a t.tag
first_not_taken InvalidParameterDataType octets p a h t = bad_number_not_taken octets 0 p a h t
first_not_taken reason octets p a h t = absurd h

pub next_not_taken : (reason : RejectReason) (octets : List ℕ) (p : ℕ) (a : List ℕ) → RejectsNext reason octets → TakesNumber octets 0 p a → ⊥
next_not_taken InvalidTag octets p a h t = h.1.none t.inner a t.tag
next_not_taken InvalidParameterDataType octets p a h t = bad_number_not_taken octets 0 p a h t
next_not_taken reason octets p a h t = absurd h

pub next_not_closed : (reason : RejectReason) (octets : List ℕ) (a : List ℕ) → RejectsNext reason octets → TakesClosing octets 1 a → ⊥
next_not_closed InvalidTag octets a h t = h.0.none a t
next_not_closed InvalidParameterDataType octets a h t = contents_no_closing octets 0 1 h.inner h.rest a h.taken t
next_not_closed reason octets a h t = absurd h

-- nothing else follows in a list than one more property or its end
pub references_stuck : (octets : List ℕ) (rs qs : List PropertyReference) (at bt b : List ℕ) →
    ((r : PropertyReference) (a : List ℕ) → TakesReference at r a → ⊥) → ((a : List ℕ) → TakesClosing at 1 a → ⊥) → TakesEach TakesReference octets rs at →
    TakesEach TakesReference octets qs bt → TakesClosing bt 1 b → ⊥
references_stuck octets rs qs at bt b more ends s t f =
    list_stuck TakesReference (λ (o : List ℕ) (c : List ℕ). TakesClosing o 1 c) one_reference reference_no_closing octets rs qs at bt b more ends s t f

pub references_not_taken : (reason : RejectReason) (inside : List ℕ) (qs : List PropertyReference) (bt b : List ℕ) → RejectsReferences reason inside →
    TakesEach TakesReference inside qs bt → TakesClosing bt 1 b → qs ≢ [] → ⊥
references_not_taken reason inside [] bt b (m.at_first h) t f some = some refl
references_not_taken reason inside (q ∷ qs) bt b (m.at_first h) t f some = first_not_taken reason inside q.property t.1.behind_property h t.1.property_taken
references_not_taken reason inside qs bt b (m.at_next rs at more s h) t f some =
    references_stuck inside rs qs at bt b (λ r a u. next_not_taken reason at r.property u.behind_property h u.property_taken)
    (λ a u. next_not_closed reason at a h u) s t f
references_not_taken reason inside qs bt b (m.at_index rs at p behind s u h) t f some =
    references_stuck inside rs qs at bt b
    (λ r a v.
    let one = one_number at 0 p r.property behind v.behind_property u v.property_taken in
    option_not_taken reason behind 1 r.index a h (subst (λ (z : List ℕ). TakesOption z 1 r.index a) (sym one.1) v.index_taken))
    (λ a v. contents_no_closing at 0 1 u.inner behind a u.tag v) s t f

pub refs_not_taken : {A : Type 0} (reason : RejectReason) (octets : List ℕ) (r : ObjectRefs A) (a : List ℕ) → RejectsRefs reason octets →
    TakesRefs octets r a → ⊥
refs_not_taken reason octets r a (m.at_list h) t = list_not_opened reason octets r.object t.inside h t.opened
refs_not_taken reason octets r a (m.at_references o inside u h) t =
    let one = one_opened octets o r.object inside t.inside u t.opened in
    references_not_taken reason inside r.refs t.behind_references a h
    (subst (λ (z : List ℕ). TakesEach TakesReference z r.refs t.behind_references) (sym one.1) t.references_taken) t.closed t.some

-- a body that is read up to where an object must stand and none does, does not end
pub body_stuck : {X : Type 0} (Takes : List ℕ → X → List ℕ → Type 0)
    → ((o : List ℕ) (x y : X) (a b : List ℕ) → Takes o x a → Takes o y b → (x ≡ y) × (a ≡ b))
    → ((o : List ℕ) (x : X) (a b : List ℕ) → Takes o x a → IsEnd o b → ⊥)
    → (body : List ℕ) (xs ys : List X) (at : List ℕ) → ((x : X) (a : List ℕ) → Takes at x a → ⊥) → MustStand xs at → TakesEach Takes body xs at → ys ≢ [] →
    TakesEach Takes body ys [] → ⊥
body_stuck Takes one apart body [] [] at none must s some t = some refl
body_stuck Takes one apart body [] (y ∷ ys) at none must s some t = none y t.0 (subst (λ (z : List ℕ). Takes z y t.0) s t.1)
body_stuck Takes one apart body (x ∷ xs) ys at none must s some t =
    list_stuck Takes IsEnd one apart body (x ∷ xs) ys at [] [] none
    (λ a end. elim must [ inl nil ↦ not_nil x xs nil | inr lt ↦ (let none : length at ≡ 0 = ap length end.0 in omega (arith, none, lt)) ]) s t (refl, refl)
  where
    not_nil : {Y : Type 0} (x : Y) (xs : List Y) → x ∷ xs ≡ [] → ⊥
    not_nil x xs e = cc

pub read_many_not_spelled : {A : Type 0} (reason : RejectReason) (body : List ℕ) (asked : List (ObjectRefs A)) → RejectsReadMultiple A reason body →
    SpellsReadMultiple body asked → ⊥
read_many_not_spelled reason body asked h s =
    body_stuck TakesRefs one_refs refs_no_end body h.before asked h.at (λ r a u. refs_not_taken reason h.at r a h.rejected u) h.must h.taken s.some s.taken

-- ---- WritePropertyMultiple

pub behind_property_not_taken : {A : Type 0} (reason : RejectReason) (behind : List ℕ) (w : PropertyWrite A) (inside b a : List ℕ) →
    RejectsBehindProperty A reason behind → OpensBehind behind 1 w.index 2 inside → TakesInside inside 2 w.values b → TakesOption b 3 w.priority a →
    IsSoundPriority w.priority → ⊥
behind_property_not_taken reason behind w inside b a (m.at_opening h) o v p s = behind_not_taken reason behind 1 w.index 2 inside h o
behind_property_not_taken reason behind w inside b a (m.at_values i c l h) o v p s =
    let one = one_behind behind 1 i w.index 2 c inside l o in
    inside_not_taken reason c 2 w.values b h (subst (λ (z : List ℕ). TakesInside z 2 w.values b) (sym one.1) v)
behind_property_not_taken reason behind w inside b a (m.at_priority i c vs at l u h) o v p s =
    let one = one_behind behind 1 i w.index 2 c inside l o in
    let two = one_inside c 2 vs w.values at b u (subst (λ (z : List ℕ). TakesInside z 2 w.values b) (sym one.1) v) in
    option_not_taken reason at 3 w.priority a h (subst (λ (z : List ℕ). TakesOption z 3 w.priority a) (sym two.1) p)
behind_property_not_taken reason behind w inside b a (m.at_range i c vs at n rest l u q h) o v p s =
    let one = one_behind behind 1 i w.index 2 c inside l o in
    let two = one_inside c 2 vs w.values at b u (subst (λ (z : List ℕ). TakesInside z 2 w.values b) (sym one.1) v) in
    let three = one_option at 3 n w.priority rest a q (subst (λ (z : List ℕ). TakesOption z 3 w.priority a) (sym two.1) p) in
    h.bad (subst (λ (z : Option ℕ). IsSoundPriority z) (sym three.0) s)

pub writes_stuck : {A : Type 0} (octets : List ℕ) (ws us : List (PropertyWrite A)) (at bt b : List ℕ) →
    ((w : PropertyWrite A) (a : List ℕ) → TakesPropertyWrite at w a → ⊥) → ((a : List ℕ) → TakesClosing at 1 a → ⊥) →
    TakesEach TakesPropertyWrite octets ws at → TakesEach TakesPropertyWrite octets us bt → TakesClosing bt 1 b → ⊥
writes_stuck octets ws us at bt b more ends s t f =
    list_stuck TakesPropertyWrite (λ (o : List ℕ) (c : List ℕ). TakesClosing o 1 c) one_property_write property_write_no_closing octets ws us at bt b more
    ends s t f

pub write_list_not_taken : {A : Type 0} (reason : RejectReason) (inside : List ℕ) (us : List (PropertyWrite A)) (bt b : List ℕ) →
    RejectsWriteList A reason inside → TakesEach TakesPropertyWrite inside us bt → TakesClosing bt 1 b → us ≢ [] → ⊥
write_list_not_taken reason inside [] bt b (m.at_first h) t f some = some refl
write_list_not_taken reason inside (u ∷ us) bt b (m.at_first h) t f some = first_not_taken reason inside u.property t.1.behind_property h t.1.property_taken
write_list_not_taken reason inside us bt b (m.at_next ws at more s h) t f some =
    writes_stuck inside ws us at bt b (λ w a u. next_not_taken reason at w.property u.behind_property h u.property_taken)
    (λ a u. next_not_closed reason at a h u) s t f
write_list_not_taken reason inside us bt b (m.at_write ws at p behind s u h) t f some =
    writes_stuck inside ws us at bt b
    (λ w a v.
    let one = one_number at 0 p w.property behind v.behind_property u v.property_taken in
    behind_property_not_taken reason behind w v.inside v.behind_values a h
    (subst (λ (z : List ℕ). OpensBehind z 1 w.index 2 v.inside) (sym one.1) v.opened) v.values_taken v.priority_taken v.in_range)
    (λ a v. contents_no_closing at 0 1 u.inner behind a u.tag v) s t f

pub writes_not_taken : {A : Type 0} (reason : RejectReason) (octets : List ℕ) (w : ObjectWrites A) (a : List ℕ) → RejectsWrites A reason octets →
    TakesWrites octets w a → ⊥
writes_not_taken reason octets w a (m.at_list h) t = list_not_opened reason octets w.object t.inside h t.opened
writes_not_taken reason octets w a (m.at_writes o inside u h) t =
    let one = one_opened octets o w.object inside t.inside u t.opened in
    write_list_not_taken reason inside w.writes t.behind_writes a h
    (subst (λ (z : List ℕ). TakesEach TakesPropertyWrite z w.writes t.behind_writes) (sym one.1) t.writes_taken) t.closed t.some

pub write_many_not_spelled : {A : Type 0} (reason : RejectReason) (body : List ℕ) (asked : List (ObjectWrites A)) → RejectsWriteMultiple A reason body →
    SpellsWriteMultiple body asked → ⊥
write_many_not_spelled reason body asked h s =
    body_stuck TakesWrites one_writes writes_no_end body h.before asked h.at (λ w a u. writes_not_taken reason h.at w a h.rejected u) h.must h.taken s.some
    s.taken

-- ---- a request

pub body_not_spelled : {A : Type 0} (reason : RejectReason) (service : ℕ) (body : List ℕ) (x : Request A) → RejectsRequest A reason service body →
    service ≡ service_number (request_service x) → SpellsBody body x → ⊥
body_not_spelled reason service body x (unknown none is) e s = none (request_service x) (sym e)
body_not_spelled reason service body (Read o n i) (read is h) e s = read_not_spelled reason body o n i h s
body_not_spelled reason service body (ReadMany xs) (read_many is h) e s = read_many_not_spelled reason body xs h s
body_not_spelled reason service body (Write o n i vs k) (write is h) e s = write_not_spelled reason body o n i vs k h s
body_not_spelled reason service body (WriteMany xs) (write_many is h) e s = write_many_not_spelled reason body xs h s
body_not_spelled reason service body (Read o n i) (read_many is h) e s = omega (arith, is, e)
body_not_spelled reason service body (Read o n i) (write is h) e s = omega (arith, is, e)
body_not_spelled reason service body (Read o n i) (write_many is h) e s = omega (arith, is, e)
body_not_spelled reason service body (ReadMany xs) (read is h) e s = omega (arith, is, e)
body_not_spelled reason service body (ReadMany xs) (write is h) e s = omega (arith, is, e)
body_not_spelled reason service body (ReadMany xs) (write_many is h) e s = omega (arith, is, e)
body_not_spelled reason service body (Write o n i vs k) (read is h) e s = omega (arith, is, e)
body_not_spelled reason service body (Write o n i vs k) (read_many is h) e s = omega (arith, is, e)
body_not_spelled reason service body (Write o n i vs k) (write_many is h) e s = omega (arith, is, e)
body_not_spelled reason service body (WriteMany xs) (read is h) e s = omega (arith, is, e)
body_not_spelled reason service body (WriteMany xs) (read_many is h) e s = omega (arith, is, e)
body_not_spelled reason service body (WriteMany xs) (write is h) e s = omega (arith, is, e)

pub request_not_spelled : {A : Type 0} (reason : RejectReason) (service : ℕ) (body : List ℕ) (x : Request A) → RejectsRequest A reason service body →
    SpellsRequest service body x → ⊥
request_not_spelled reason service body x h s = body_not_spelled reason service body x h s.service_is s.spelled

pub only_request : {A : Type 0} (service : ℕ) (body : List ℕ) (x : Request A) → SpellsRequest service body x → OnlyRequest service body x
only_request service body x s = record { only = λ y t. one_request service body x y s t }

pub no_request : (A : Type 0) (reason : RejectReason) (service : ℕ) (body : List ℕ) → RejectsRequest A reason service body → NoRequest A service body
no_request A reason service body h = record { none = λ x s. request_not_spelled reason service body x h s }

pub no_request_of : (A : Type 0) (reason : RejectReason) (n service : ℕ) (octets body : List ℕ) → n ≡ service → octets ≡ body →
    RejectsRequest A reason n octets → NoRequest A service body
no_request_of A reason n service octets body e f h = rw (← e, ← f) (no_request A reason n octets h)

pub ruleset request_laws = (only_request, no_request)
