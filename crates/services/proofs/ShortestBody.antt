-- No octets that spell a request are fewer than the canonical ones.
use Rattle.std.proofs.Common.{◌≡◌, ℕ, ◌≤◌, List, [], ◌∷◌, ◌++◌, length, Option, Some, None, sym, ap, subst, ◌∙◌, arith}
use Rattle.std.proofs.lemmas.List.{length-append}
use Rattle.tags.specs.declared.tag.Class.TheVariants.{Context}
use Rattle.tags.specs.declared.object_id.ObjectId.{ObjectId}
use Rattle.tags.specs.declared.value.Value.{Value}
use Rattle.tags.specs.Number.{AreOctets}
use Rattle.tags.specs.Tag.{opening, closing}
use Rattle.tags.specs.Value.{TakesValue}
use Rattle.tags.specs.Canonical.{canonical, canonicals}
use Rattle.tags.proofs.OctetLists.{AreOctets-after}
use Rattle.tags.proofs.ShortestLaws.{value_shortest}
use Rattle.apdu.proofs.ShortestLaws.{Least, bracket_least, front_fits}
use Rattle.apdu.proofs.ShortestLaws as parameter
use Rattle.primitives.specs.declared.plain_data.Request.{Request}
use Rattle.primitives.specs.declared.plain_data.Request.TheVariants.{Read, ReadMany, Write, WriteMany}
use Rattle.primitives.specs.declared.plain_data.ObjectRefs.{ObjectRefs}
use Rattle.primitives.specs.declared.plain_data.PropertyReference.{PropertyReference}
use Rattle.primitives.specs.declared.plain_data.ObjectWrites.{ObjectWrites}
use Rattle.primitives.specs.declared.plain_data.PropertyWrite.{PropertyWrite}
use Rattle.services.specs.Fields.{TakesObject, TakesNumber, TakesOption, TakesLast, TakesOpening, TakesClosing, TakesEach, TakesInside}
use Rattle.services.specs.Requests.{TakesProperty}
use Rattle.services.specs.Multiple.{OpensList, TakesReference, TakesRefs, TakesPropertyWrite, TakesWrites}
use Rattle.services.specs.Request.{SpellsBody, SpellsRequest}
use Rattle.apdu.specs.ParameterWriting.{object_field, number_field, option_field, opening_octets, closing_octets}
use Rattle.services.specs.CanonicalRequest.{
  in_turn,
  values_field,
  reference_octets,
  refs_octets,
  write_octets,
  writes_octets,
  read_octets,
  canonical_request,
}

-- ---- fields

pub number_least : (octets : List ℕ) (k n : ℕ) (rest : List ℕ) → AreOctets octets → TakesNumber octets k n rest → Least (number_field k n) octets rest
number_least octets k n rest fits t = parameter.number_least Context k octets n rest t fits

object_least : (octets : List ℕ) (k : ℕ) (o : ObjectId) (rest : List ℕ) → AreOctets octets → TakesObject octets k o rest → Least (object_field k o) octets rest
object_least octets k o rest fits t = parameter.object_least Context k octets o rest t fits

pub opening_least : (octets : List ℕ) (k : ℕ) (rest : List ℕ) → AreOctets octets → TakesOpening octets k rest → Least (opening_octets k) octets rest
opening_least octets k rest fits t = bracket_least octets k opening rest t fits

pub closing_least : (octets : List ℕ) (k : ℕ) (rest : List ℕ) → AreOctets octets → TakesClosing octets k rest → Least (closing_octets k) octets rest
closing_least octets k rest fits t = bracket_least octets k closing rest t fits

none_least : (octets rest : List ℕ) → AreOctets octets → rest ≡ octets → Least [] octets rest
none_least octets rest fits e = rw e record { le = omega arith; fits = fits }

pub option_least : (octets : List ℕ) (k : ℕ) (n : Option ℕ) (rest : List ℕ) → AreOctets octets → TakesOption octets k n rest →
    Least (option_field k n) octets rest
option_least octets k None rest fits t = none_least octets rest fits t.1
option_least octets k (Some n) rest fits t = number_least octets k n rest fits t

last_least : (octets : List ℕ) (k : ℕ) (n : Option ℕ) (rest : List ℕ) → AreOctets octets → TakesLast octets k n rest → Least (option_field k n) octets rest
last_least octets k None rest fits t = none_least octets rest fits (t.1 ∙ sym t.0)
last_least octets k (Some n) rest fits t = number_least octets k n rest fits t

-- one behind another
pub both_least : (a b octets mid rest : List ℕ) → Least a octets mid → Least b mid rest → Least (a ++ b) octets rest
both_least a b octets mid rest s t = record { le = let whole = length-append a b in omega (arith, s.le, t.le, whole); fits = t.fits }

value_least : {A : Type 0} (octets : List ℕ) (v : Value A) (rest : List ℕ) → AreOctets octets → TakesValue octets v rest → Least (canonical v) octets rest
value_least octets v rest fits t =
    let le = value_shortest t.front v (front_fits t.front rest (subst (λ (x : List ℕ). AreOctets x) t.parts fits)) t.spelled in
    let whole : length octets ≡ length (t.front ++ rest) = ap length t.parts in
    record { le = omega (arith, le, whole, length-append t.front rest); fits = AreOctets-after octets t.front rest t.parts fits }

pub each_least : {X : Type 0} (Takes : List ℕ → X → List ℕ → Type 0) (f : X → List ℕ) →
    ((octets : List ℕ) (x : X) (rest : List ℕ) → AreOctets octets → Takes octets x rest → Least (f x) octets rest) →
    (octets : List ℕ) (xs : List X) (rest : List ℕ) → AreOctets octets → TakesEach Takes octets xs rest → Least (in_turn f xs) octets rest
each_least Takes f one octets [] rest fits t = none_least octets rest fits (sym t)
each_least Takes f one octets (x ∷ xs) rest fits t =
    let first = one octets x t.0 fits t.1 in
    both_least (f x) (in_turn f xs) octets t.0 rest first (each_least Takes f one t.0 xs rest first.fits t.2)

values_least : {A : Type 0} (octets : List ℕ) (vs : List (Value A)) (rest : List ℕ) → AreOctets octets → TakesEach TakesValue octets vs rest →
    Least (canonicals vs) octets rest
values_least octets [] rest fits t = none_least octets rest fits (sym t)
values_least octets (v ∷ vs) rest fits t =
    let first = value_least octets v t.0 fits t.1 in
    both_least (canonical v) (canonicals vs) octets t.0 rest first (values_least t.0 vs rest first.fits t.2)

-- the values between an opening tag that was taken and its closing tag
pub between_least : {A : Type 0} (octets : List ℕ) (k : ℕ) (vs : List (Value A)) (inside rest : List ℕ) → AreOctets octets → TakesOpening octets k inside →
    TakesInside inside k vs rest → Least (values_field k vs) octets rest
between_least octets k vs inside rest fits o t =
    let first = opening_least octets k inside fits o in
    let second = values_least inside vs t.at first.fits t.taken in
    let third = closing_least t.at k rest second.fits t.closed in
    both_least (opening_octets k ++ canonicals vs) (closing_octets k) octets t.at rest
    (both_least (opening_octets k) (canonicals vs) octets inside t.at first second) third

-- ---- requests

pub property_least : (octets : List ℕ) (o : ObjectId) (p : ℕ) (rest : List ℕ) → AreOctets octets → TakesProperty octets o p rest →
    Least (object_field 0 o ++ number_field 1 p) octets rest
property_least octets o p rest fits t =
    let first = object_least octets 0 o t.behind_object fits t.object_taken in
    both_least (object_field 0 o) (number_field 1 p) octets t.behind_object rest first (number_least t.behind_object 1 p rest first.fits t.property_taken)

reference_least : (octets : List ℕ) (r : PropertyReference) (rest : List ℕ) → AreOctets octets → TakesReference octets r rest →
    Least (reference_octets r) octets rest
reference_least octets r rest fits t =
    let first = number_least octets 0 r.property t.behind_property fits t.property_taken in
    both_least (number_field 0 r.property) (option_field 1 r.index) octets t.behind_property rest first
    (option_least t.behind_property 1 r.index rest first.fits t.index_taken)

pub list_least : (octets : List ℕ) (o : ObjectId) (inside : List ℕ) → AreOctets octets → OpensList octets o inside →
    Least (object_field 0 o ++ opening_octets 1) octets inside
list_least octets o inside fits t =
    let first = object_least octets 0 o t.behind_object fits t.object_taken in
    both_least (object_field 0 o) (opening_octets 1) octets t.behind_object inside first (opening_least t.behind_object 1 inside first.fits t.opened)

refs_least : {A : Type 0} (octets : List ℕ) (r : ObjectRefs A) (rest : List ℕ) → AreOctets octets → TakesRefs octets r rest → Least (refs_octets r) octets rest
refs_least octets r rest fits t =
    let first = list_least octets r.object t.inside fits t.opened in
    let second = each_least TakesReference reference_octets reference_least t.inside r.refs t.behind_references first.fits t.references_taken in
    let third = closing_least t.behind_references 1 rest second.fits t.closed in
    both_least (object_field 0 r.object ++ opening_octets 1 ++ in_turn reference_octets r.refs) (closing_octets 1) octets t.behind_references rest
    (both_least (object_field 0 r.object ++ opening_octets 1) (in_turn reference_octets r.refs) octets t.inside t.behind_references first second) third

write_least : {A : Type 0} (octets : List ℕ) (w : PropertyWrite A) (rest : List ℕ) → AreOctets octets → TakesPropertyWrite octets w rest →
    Least (write_octets w) octets rest
write_least octets w rest fits t =
    let first = number_least octets 0 w.property t.behind_property fits t.property_taken in
    let second = option_least t.behind_property 1 w.index t.opened.at first.fits t.opened.option_taken in
    let third = between_least t.opened.at 2 w.values t.inside t.behind_values second.fits t.opened.opened t.values_taken in
    let fourth = option_least t.behind_values 3 w.priority rest third.fits t.priority_taken in
    both_least (number_field 0 w.property ++ option_field 1 w.index ++ values_field 2 w.values) (option_field 3 w.priority) octets t.behind_values rest
    (both_least (number_field 0 w.property ++ option_field 1 w.index) (values_field 2 w.values) octets t.opened.at t.behind_values
    (both_least (number_field 0 w.property) (option_field 1 w.index) octets t.behind_property t.opened.at first second) third)
    fourth

writes_least : {A : Type 0} (octets : List ℕ) (w : ObjectWrites A) (rest : List ℕ) → AreOctets octets → TakesWrites octets w rest →
    Least (writes_octets w) octets rest
writes_least {A} octets w rest fits t =
    let first = list_least octets w.object t.inside fits t.opened in
    let second = each_least (λ (a : List ℕ) (x : PropertyWrite A) (b : List ℕ). TakesPropertyWrite a x b) write_octets write_least t.inside w.writes
    t.behind_writes first.fits t.writes_taken in
    let third = closing_least t.behind_writes 1 rest second.fits t.closed in
    both_least (object_field 0 w.object ++ opening_octets 1 ++ in_turn write_octets w.writes) (closing_octets 1) octets t.behind_writes rest
    (both_least (object_field 0 w.object ++ opening_octets 1) (in_turn write_octets w.writes) octets t.inside t.behind_writes first second) third

body_least : {A : Type 0} (body : List ℕ) (x : Request A) → AreOctets body → SpellsBody body x → Least (canonical_request x) body []
body_least body (Read o p i) fits s =
    let first = property_least body o p s.behind_property fits s.property_taken in
    both_least (object_field 0 o ++ number_field 1 p) (option_field 2 i) body s.behind_property [] first
    (last_least s.behind_property 2 i [] first.fits s.index_taken)
body_least {A} body (ReadMany asked) fits s =
    each_least (λ (a : List ℕ) (r : ObjectRefs A) (b : List ℕ). TakesRefs a r b) refs_octets refs_least body asked [] fits s.taken
body_least body (Write o p i vs n) fits s =
    let t = s.write_taken in
    let first = property_least body o p t.behind_property fits t.property_taken in
    let second = option_least t.behind_property 2 i t.opened.at first.fits t.opened.option_taken in
    let third = between_least t.opened.at 3 vs t.inside s.behind_values second.fits t.opened.opened t.values_taken in
    let fourth = last_least s.behind_values 4 n [] third.fits s.priority_taken in
    both_least (read_octets o p i ++ values_field 3 vs) (option_field 4 n) body s.behind_values []
    (both_least (read_octets o p i) (values_field 3 vs) body t.opened.at s.behind_values
    (both_least (object_field 0 o ++ number_field 1 p) (option_field 2 i) body t.behind_property t.opened.at first second) third)
    fourth
body_least {A} body (WriteMany asked) fits s =
    each_least (λ (a : List ℕ) (w : ObjectWrites A) (b : List ℕ). TakesWrites a w b) writes_octets writes_least body asked [] fits s.taken

pub request_shortest : {A : Type 0} (service : ℕ) (body : List ℕ) (x : Request A) → AreOctets body → SpellsRequest service body x →
    length (canonical_request x) ≤ length body
request_shortest service body x fits s = let least = body_least body x fits s.spelled in omega (arith, least.le)
