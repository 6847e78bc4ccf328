-- The octets that are written of a sound request spell it.
use Rattle.std.proofs.Common.{◌≡◌, ℕ, ◌^◌, ◌<◌, List, [], ◌∷◌, ◌++◌, Option, Some, None, refl, sym, ap, subst, arith}
use Rattle.std.specs.List.{AllByRecursion}
use Rattle.std.proofs.lemmas.List.{append_assoc, append-nil}
use Rattle.tags.specs.declared.tag.Class.TheVariants.{Context}
use Rattle.tags.specs.declared.object_id.ObjectId.{ObjectId}
use Rattle.tags.specs.declared.value.Value.{Value}
use Rattle.tags.specs.Tag.{PlainTag, contents}
use Rattle.tags.specs.Element.{context}
use Rattle.tags.specs.Value.{TakesValue}
use Rattle.tags.specs.Canonical.{canonical, canonicals}
use Rattle.tags.proofs.CanonicalLaws.{canonical_spells}
use Rattle.apdu.proofs.CanonicalLaws.{takes_number, takes_object}
use Rattle.tags.proofs.OneTag.{one_front_tag}
use Rattle.primitives.specs.declared.plain_data.Request.{Request}
use Rattle.primitives.specs.declared.plain_data.Request.TheVariants.{Read, ReadMany, Write, WriteMany}
use Rattle.primitives.specs.declared.plain_data.ObjectRefs.{ObjectRefs}
use Rattle.primitives.specs.declared.plain_data.PropertyReference.{PropertyReference}
use Rattle.primitives.specs.declared.plain_data.ObjectWrites.{ObjectWrites}
use Rattle.primitives.specs.declared.plain_data.PropertyWrite.{PropertyWrite}
use Rattle.primitives.specs.Sound.{IsSoundId, IsSoundIndex, IsSoundPriority, IsSoundReference, IsSoundRefs, IsSoundWrite, IsSoundWrites, IsSoundRequest}
use Rattle.primitives.specs.Sound.{AreSound}
use Rattle.apdu.specs.Numbers.{service_number}
use Rattle.services.specs.Fields.{TakesObject, TakesNumber, TakesOption, TakesLast, TakesOpening, TakesClosing, TakesEach, TakesInside, OpensBehind, NoContents}
use Rattle.services.specs.Requests.{TakesProperty, SpellsReadProperty, SpellsWriteProperty}
use Rattle.services.specs.Multiple.{OpensList, TakesReference, TakesRefs, TakesPropertyWrite, TakesWrites}
use Rattle.services.specs.Request.{request_service, SpellsBody, SpellsRequest}
use Rattle.apdu.specs.ParameterWriting.{object_field, number_field, option_field, opening_octets, closing_octets}
use Rattle.services.specs.CanonicalRequest.{
  in_turn,
  values_field,
  reference_octets,
  refs_octets,
  write_octets,
  writes_octets,
  read_octets,
  canonical_request,
}
use Rattle.services.proofs.OneField.{contents_no_opening, contents_no_closing}
use Rattle.services.proofs.OneRequest.{one_request}

-- ---- fields

object_taken : (number : ℕ) (o : ObjectId) (rest : List ℕ) → number < 255 → IsSoundId o → TakesObject (object_field number o ++ rest) number o rest
object_taken number o rest lt sound = takes_object Context number o rest tt lt sound

pub number_taken : (number n : ℕ) (rest : List ℕ) → number < 255 → n < 2 ^ 32 → TakesNumber (number_field number n ++ rest) number n rest
number_taken number n rest lt fits = takes_number Context number n rest tt lt fits

pub opening_taken : (number : ℕ) (rest : List ℕ) → number < 255 → TakesOpening (opening_octets number ++ rest) number rest
opening_taken number rest lt = (opening_octets number, (refl, lt, refl), refl)

pub closing_taken : (number : ℕ) (rest : List ℕ) → number < 255 → TakesClosing (closing_octets number ++ rest) number rest
closing_taken number rest lt = (closing_octets number, (refl, lt, refl), refl)

pub option_taken : (number : ℕ) (n : Option ℕ) (rest : List ℕ) → number < 255 → IsSoundIndex n → NoContents rest number →
    TakesOption (option_field number n ++ rest) number n rest
option_taken number None rest lt sound none = (none, refl)
option_taken number (Some n) rest lt sound none = number_taken number n rest lt sound

last_taken : (number : ℕ) (n : Option ℕ) → number < 255 → IsSoundIndex n → TakesLast (option_field number n) number n []
last_taken number None lt sound = (refl, refl)
last_taken number (Some n) lt sound = subst (λ (x : List ℕ). TakesNumber x number n []) (append-nil (number_field number n)) (number_taken number n [] lt sound)

pub no_contents_at_opening : (octets : List ℕ) (number n : ℕ) (rest : List ℕ) → TakesOpening octets n rest → NoContents octets number
no_contents_at_opening octets number n rest t = record { none = λ inner after s. contents_no_opening octets number n inner after rest s t }

no_contents_at_closing : (octets : List ℕ) (number n : ℕ) (rest : List ℕ) → TakesClosing octets n rest → NoContents octets number
no_contents_at_closing octets number n rest t = record { none = λ inner after s. contents_no_closing octets number n inner after rest s t }

no_contents_at_number : (octets : List ℕ) (number n m : ℕ) (rest : List ℕ) → TakesNumber octets n m rest → (n ≡ number → ⊥) → NoContents octets number
no_contents_at_number octets number n m rest t differ =
    record {
      none = λ inner after s. differ (ap (λ (u : PlainTag). u.number)
          (one_front_tag octets (context n (contents t.inner)) (context number (contents inner)) rest after t.tag s).tag);
    }

-- each of a list, one after another
pub each_taken : {X : Type 0} (Takes : List ℕ → X → List ℕ → Type 0) (octets : X → List ℕ) (Sound : X → Type 0) (Good : List ℕ → Type 0)
    → ((x : X) (rest : List ℕ) → Sound x → Good rest → Takes (octets x ++ rest) x rest)
    → ((x : X) (rest : List ℕ) → Sound x → Good (octets x ++ rest))
    → (xs : List X) (rest : List ℕ) → AllByRecursion Sound xs → Good rest → (TakesEach Takes (in_turn octets xs ++ rest) xs rest) ×
    Good (in_turn octets xs ++ rest)
each_taken Takes octets Sound Good one keeps [] rest sound good = (refl, good)
each_taken {X} Takes octets Sound Good one keeps (x ∷ xs) rest sound good =
    let tail = each_taken Takes octets Sound Good one keeps xs rest sound.1 good in
    let e : octets x ++ (in_turn octets xs ++ rest) ≡ (octets x ++ in_turn octets xs) ++ rest = sym (append_assoc (octets x) (in_turn octets xs) rest) in (
      (in_turn octets xs ++ rest, subst (λ (z : List ℕ). Takes z x (in_turn octets xs ++ rest)) e (one x (in_turn octets xs ++ rest) sound.0 tail.1), tail.0),
      subst (λ (z : List ℕ). Good z) e (keeps x (in_turn octets xs ++ rest) sound.0),
    )

values_taken : {A : Type 0} (vs : List (Value A)) (rest : List ℕ) → AreSound vs → TakesEach TakesValue (canonicals vs ++ rest) vs rest
values_taken [] rest sound = refl
values_taken (v ∷ vs) rest sound = (
  canonicals vs ++ rest,
  record { front = canonical v; spelled = canonical_spells v sound.0; parts = append_assoc (canonical v) (canonicals vs) rest },
  values_taken vs rest sound.1,
)

pub inside_taken : {A : Type 0} (number : ℕ) (vs : List (Value A)) (rest : List ℕ) → number < 255 → AreSound vs →
    TakesInside (canonicals vs ++ (closing_octets number ++ rest)) number vs rest
inside_taken number vs rest lt sound = record {
  at = closing_octets number ++ rest;
  taken = values_taken vs (closing_octets number ++ rest) sound;
  closed =
      closing_taken number rest lt;
}

-- ---- ReadProperty and WriteProperty

regroup : (a b c : List ℕ) → a ++ (b ++ c) ≡ (a ++ b) ++ c
regroup a b c = sym (append_assoc a b c)

-- the parts of a write, however they are grouped
request_groups : (a b c d e f g : List ℕ) → a ++ (b ++ (c ++ (d ++ (e ++ (f ++ g))))) ≡ (((a ++ b) ++ c) ++ ((d ++ e) ++ f)) ++ g
request_groups a b c d e f g = simp append_assoc

write_groups : (a b c d e f g : List ℕ) → a ++ (b ++ (c ++ (d ++ (e ++ (f ++ g))))) ≡ (((a ++ b) ++ ((c ++ d) ++ e)) ++ f) ++ g
write_groups a b c d e f g = simp append_assoc

property_taken : (o : ObjectId) (p : ℕ) (rest : List ℕ) → IsSoundId o → p < 2 ^ 32 → TakesProperty (object_field 0 o ++ (number_field 1 p ++ rest)) o p rest
property_taken o p rest sound fits = record {
  behind_object = number_field 1 p ++ rest;
  object_taken =
      object_taken 0 o (number_field 1 p ++ rest) (omega arith) sound;
  property_taken = number_taken 1 p rest (omega arith) fits;
}

read_spelled : (o : ObjectId) (p : ℕ) (i : Option ℕ) → IsSoundId o → p < 2 ^ 32 → IsSoundIndex i → SpellsReadProperty (read_octets o p i) o p i
read_spelled o p i sound fits index = record {
  behind_property = option_field 2 i;
  property_taken =
      subst (λ (x : List ℕ). TakesProperty x o p (option_field 2 i)) (regroup (object_field 0 o) (number_field 1 p) (option_field 2 i))
      (property_taken o p (option_field 2 i) sound fits);
  index_taken = last_taken 2 i (omega arith) index;
}

priority_fits : (n : Option ℕ) → IsSoundPriority n → IsSoundIndex n
priority_fits None sound = tt
priority_fits (Some n) sound = omega (arith, sound.1)

opened : (number : ℕ) (i : Option ℕ) (list : ℕ) (rest : List ℕ) → number < 255 → list < 255 → IsSoundIndex i →
    OpensBehind (option_field number i ++ (opening_octets list ++ rest)) number i list rest
opened number i list rest lt small sound =
    let t = opening_taken list rest small in
    record {
      at = opening_octets list ++ rest;
      option_taken =
          option_taken number i (opening_octets list ++ rest) lt sound (no_contents_at_opening (opening_octets list ++ rest) number list rest t);
      opened = t;
    }

pub write_spelled : {A : Type 0} (o : ObjectId) (p : ℕ) (i : Option ℕ) (vs : List (Value A)) (n : Option ℕ) → IsSoundId o → p < 2 ^ 32 → IsSoundIndex i →
    AreSound vs → IsSoundPriority n → SpellsWriteProperty (read_octets o p i ++ values_field 3 vs ++ option_field 4 n) o p i vs n
write_spelled o p i vs n id fits index sound range =
    let inside = canonicals vs ++ (closing_octets 3 ++ option_field 4 n) in
    let behind = option_field 2 i ++ (opening_octets 3 ++ inside) in
    let e : object_field 0 o ++ (number_field 1 p ++ behind) ≡ read_octets o p i ++ values_field 3 vs ++ option_field 4 n =
    request_groups (object_field 0 o) (number_field 1 p) (option_field 2 i) (opening_octets 3) (canonicals vs) (closing_octets 3) (option_field 4 n) in
    record {
      behind_values = option_field 4 n;
      write_taken = record {
        behind_property = behind;
        inside = inside;
        property_taken = subst (λ (x : List ℕ). TakesProperty x o p behind) e (property_taken o p behind id fits);
        opened = opened 2 i 3 inside (omega arith) (omega arith) index;
        values_taken = inside_taken 3 vs (option_field 4 n) (omega arith) sound;
      };
      priority_taken = last_taken 4 n (omega arith) (priority_fits n range);
      in_range = range;
    }

-- ---- ReadPropertyMultiple and WritePropertyMultiple

pub list_opened : (o : ObjectId) (inside : List ℕ) → IsSoundId o → OpensList (object_field 0 o ++ (opening_octets 1 ++ inside)) o inside
list_opened o inside sound = record {
  behind_object = opening_octets 1 ++ inside;
  object_taken =
      object_taken 0 o (opening_octets 1 ++ inside) (omega arith) sound;
  opened = opening_taken 1 inside (omega arith);
}

reference_taken : (r : PropertyReference) (rest : List ℕ) → IsSoundReference r → NoContents rest 1 → TakesReference (reference_octets r ++ rest) r rest
reference_taken r rest sound none =
    let behind = option_field 1 r.index ++ rest in
    record {
      behind_property = behind;
      property_taken = subst (λ (x : List ℕ). TakesNumber x 0 r.property behind) (regroup (number_field 0 r.property) (option_field 1 r.index) rest)
          (number_taken 0 r.property behind (omega arith) sound.0);
      index_taken = option_taken 1 r.index rest (omega arith) sound.1 none;
    }

reference_begins : (r : PropertyReference) (rest : List ℕ) → IsSoundReference r → NoContents (reference_octets r ++ rest) 1
reference_begins r rest sound =
    let behind = option_field 1 r.index ++ rest in
    let e = regroup (number_field 0 r.property) (option_field 1 r.index) rest in
    subst (λ (x : List ℕ). NoContents x 1) e (no_contents_at_number (number_field 0 r.property ++ behind) 1 0 r.property behind
    (number_taken 0 r.property behind (omega arith) sound.0) (λ z. omega (arith, z)))

refs_taken : {A : Type 0} (r : ObjectRefs A) (rest : List ℕ) → IsSoundRefs r → TakesRefs (refs_octets r ++ rest) r rest
refs_taken r rest sound =
    let closed = closing_octets 1 ++ rest in
    let inside = in_turn reference_octets r.refs ++ closed in
    let last = closing_taken 1 rest (omega arith) in
    let e : object_field 0 r.object ++ (opening_octets 1 ++ inside) ≡ refs_octets r ++ rest = simp append_assoc in
    record {
      inside = inside;
      behind_references = closed;
      opened = subst (λ (x : List ℕ). OpensList x r.object inside) e (list_opened r.object inside sound.0);
      references_taken = (each_taken TakesReference reference_octets IsSoundReference (λ (x : List ℕ). NoContents x 1) reference_taken reference_begins r.refs
          closed sound.2 (no_contents_at_closing closed 1 1 rest last)).0;
      closed = last;
      some = sound.1;
    }

write_taken : {A : Type 0} (w : PropertyWrite A) (rest : List ℕ) → IsSoundWrite w → NoContents rest 3 → TakesPropertyWrite (write_octets w ++ rest) w rest
write_taken w rest sound none =
    let values = option_field 3 w.priority ++ rest in
    let inside = canonicals w.values ++ (closing_octets 2 ++ values) in
    let behind = option_field 1 w.index ++ (opening_octets 2 ++ inside) in
    let e : number_field 0 w.property ++ behind ≡ write_octets w ++ rest =
    write_groups (number_field 0 w.property) (option_field 1 w.index) (opening_octets 2) (canonicals w.values) (closing_octets 2)
    (option_field 3 w.priority) rest in
    record {
      behind_property = behind;
      inside = inside;
      behind_values = values;
      property_taken = subst (λ (x : List ℕ). TakesNumber x 0 w.property behind) e (number_taken 0 w.property behind (omega arith) sound.0);
      opened = opened 1 w.index 2 inside (omega arith) (omega arith) sound.1;
      values_taken = inside_taken 2 w.values values (omega arith) sound.2;
      priority_taken = option_taken 3 w.priority rest (omega arith) (priority_fits w.priority sound.3) none;
      in_range = sound.3;
    }

write_begins : {A : Type 0} (w : PropertyWrite A) (rest : List ℕ) → IsSoundWrite w → NoContents (write_octets w ++ rest) 3
write_begins w rest sound =
    let behind = option_field 1 w.index ++ (opening_octets 2 ++ (canonicals w.values ++ (closing_octets 2 ++ (option_field 3 w.priority ++ rest)))) in
    let e : number_field 0 w.property ++ behind ≡ write_octets w ++ rest =
    write_groups (number_field 0 w.property) (option_field 1 w.index) (opening_octets 2) (canonicals w.values) (closing_octets 2)
    (option_field 3 w.priority) rest in
    subst (λ (x : List ℕ). NoContents x 3) e (no_contents_at_number (number_field 0 w.property ++ behind) 3 0 w.property behind
    (number_taken 0 w.property behind (omega arith) sound.0) (λ z. omega (arith, z)))

writes_taken : {A : Type 0} (w : ObjectWrites A) (rest : List ℕ) → IsSoundWrites w → TakesWrites (writes_octets w ++ rest) w rest
writes_taken w rest sound =
    let closed = closing_octets 1 ++ rest in
    let inside = in_turn write_octets w.writes ++ closed in
    let last = closing_taken 1 rest (omega arith) in
    let e : object_field 0 w.object ++ (opening_octets 1 ++ inside) ≡ writes_octets w ++ rest = simp append_assoc in
    record {
      inside = inside;
      behind_writes = closed;
      opened = subst (λ (x : List ℕ). OpensList x w.object inside) e (list_opened w.object inside sound.0);
      writes_taken = (each_taken TakesPropertyWrite write_octets IsSoundWrite (λ (x : List ℕ). NoContents x 3) write_taken write_begins w.writes closed
          sound.2 (no_contents_at_closing closed 3 1 rest last)).0;
      closed = last;
      some = sound.1;
    }

pub whole : {X : Type 0} (Takes : List ℕ → X → List ℕ → Type 0) (octets : X → List ℕ) (Sound : X → Type 0) →
    ((x : X) (rest : List ℕ) → Sound x → Takes (octets x ++ rest) x rest) → (xs : List X) → AllByRecursion Sound xs → TakesEach Takes (in_turn octets xs) xs []
whole {X} Takes octets Sound one xs sound =
    subst (λ (z : List ℕ). TakesEach Takes z xs []) (append-nil (in_turn octets xs))
    (each_taken Takes octets Sound (λ (x : List ℕ). Unit {0}) (λ x rest s g. one x rest s) (λ x rest s. tt) xs [] sound tt).0

pub body_spelled : {A : Type 0} (x : Request A) → IsSoundRequest x → SpellsBody (canonical_request x) x
body_spelled (Read o p i) sound = read_spelled o p i sound.0 sound.1 sound.2
body_spelled (ReadMany asked) sound = record { taken = whole TakesRefs refs_octets IsSoundRefs refs_taken asked sound.1; some = sound.0 }
body_spelled (Write o p i vs n) sound = write_spelled o p i vs n sound.0 sound.1 sound.2 sound.3 sound.4
body_spelled (WriteMany asked) sound = record { taken = whole TakesWrites writes_octets IsSoundWrites writes_taken asked sound.1; some = sound.0 }

pub request_spelled : {A : Type 0} (x : Request A) → IsSoundRequest x → SpellsRequest (service_number (request_service x)) (canonical_request x) x
request_spelled x sound = record { service_is = refl; spelled = body_spelled x sound }

pub request_reads_back : {A : Type 0} (x y : Request A) → IsSoundRequest x → SpellsRequest (service_number (request_service x)) (canonical_request x) y → y ≡ x
request_reads_back x y sound s = one_request (service_number (request_service x)) (canonical_request x) y x s (request_spelled x sound)
