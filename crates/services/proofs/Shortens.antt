-- What follows a field is shorter than what it stands in.
use Rattle.std.proofs.Common.{◌≡◌, ℕ, ◌<◌, ◌≤◌, List, [], ◌∷◌, length, Option, Some, None, ap, arith}
use Rattle.tags.specs.declared.object_id.ObjectId.{ObjectId}
use Rattle.tags.specs.declared.value.Value.{Value}
use Rattle.tags.specs.Tag.{contents, opening, closing}
use Rattle.tags.specs.Element.{context}
use Rattle.tags.proofs.OneTag.{tag_shortens}
use Rattle.services.specs.Fields.{TakesObject, TakesNumber, TakesOption, TakesEach, TakesInside, OpensBehind}
use Rattle.tags.specs.Value.{TakesValue}
use Rattle.primitives.specs.declared.plain_data.ObjectRefs.{ObjectRefs}
use Rattle.primitives.specs.declared.plain_data.PropertyReference.{PropertyReference}
use Rattle.primitives.specs.declared.plain_data.ObjectWrites.{ObjectWrites}
use Rattle.primitives.specs.declared.plain_data.PropertyWrite.{PropertyWrite}
use Rattle.services.specs.Requests.{TakesProperty}
use Rattle.services.specs.Multiple.{OpensList, TakesReference, TakesRefs, TakesPropertyWrite, TakesWrites}
use Rattle.services.proofs.ValueLists.{value_shortens}

pub object_shortens : (octets : List ℕ) (number : ℕ) (o : ObjectId) (rest : List ℕ) → TakesObject octets number o rest → length rest < length octets
object_shortens octets number o rest t = tag_shortens octets (context number (contents t.inner)) rest t.tag

pub number_shortens : (octets : List ℕ) (number n : ℕ) (rest : List ℕ) → TakesNumber octets number n rest → length rest < length octets
number_shortens octets number n rest t = tag_shortens octets (context number (contents t.inner)) rest t.tag

pub option_shortens : (octets : List ℕ) (number : ℕ) (n : Option ℕ) (rest : List ℕ) → TakesOption octets number n rest → length rest ≤ length octets
option_shortens octets number None rest t = let e : length rest ≡ length octets = ap length t.1 in omega (arith, e)
option_shortens octets number (Some n) rest t = let lt = number_shortens octets number n rest t in omega (arith, lt)

pub opening_shortens : (octets : List ℕ) (number : ℕ) (n : Option ℕ) (list : ℕ) (rest : List ℕ) → OpensBehind octets number n list rest →
    length rest < length octets
opening_shortens octets number n list rest t =
    let le = option_shortens octets number n t.at t.option_taken in
    let lt = tag_shortens t.at (context list opening) rest t.opened in
    omega (arith, le, lt)

pub property_shortens : (octets : List ℕ) (o : ObjectId) (n : ℕ) (rest : List ℕ) → TakesProperty octets o n rest → length rest < length octets
property_shortens octets o n rest t =
    let a = object_shortens octets 0 o t.behind_object t.object_taken in
    let b = number_shortens t.behind_object 1 n rest t.property_taken in
    omega (arith, a, b)

pub each_shortens : {X : Type 0} (Takes : List ℕ → X → List ℕ → Type 0) (octets : List ℕ) (xs : List X) (rest : List ℕ) →
    ((a : List ℕ) (x : X) (b : List ℕ) → Takes a x b → length b < length a) → TakesEach Takes octets xs rest → length rest ≤ length octets
each_shortens Takes octets [] rest h e = let same : length octets ≡ length rest = ap length e in omega (arith, same)
each_shortens Takes octets (x ∷ xs) rest h t =
    let a = h octets x t.0 t.1 in
    let b = each_shortens Takes t.0 xs rest h t.2 in
    omega (arith, a, b)

pub inside_shortens : {A : Type 0} (octets : List ℕ) (number : ℕ) (vs : List (Value A)) (rest : List ℕ) → TakesInside octets number vs rest →
    length rest < length octets
inside_shortens octets number vs rest t =
    let a = each_shortens TakesValue octets vs t.at value_shortens t.taken in
    let b = tag_shortens t.at (context number closing) rest t.closed in
    omega (arith, a, b)

pub list_shortens : (octets : List ℕ) (o : ObjectId) (inside : List ℕ) → OpensList octets o inside → length inside < length octets
list_shortens octets o inside t =
    let a = object_shortens octets 0 o t.behind_object t.object_taken in
    let b = tag_shortens t.behind_object (context 1 opening) inside t.opened in
    omega (arith, a, b)

pub reference_shortens : (octets : List ℕ) (r : PropertyReference) (rest : List ℕ) → TakesReference octets r rest → length rest < length octets
reference_shortens octets r rest t =
    let a = number_shortens octets 0 r.property t.behind_property t.property_taken in
    let b = option_shortens t.behind_property 1 r.index rest t.index_taken in
    omega (arith, a, b)

pub refs_shortens : {A : Type 0} (octets : List ℕ) (r : ObjectRefs A) (rest : List ℕ) → TakesRefs octets r rest → length rest < length octets
refs_shortens octets r rest t =
    let a = list_shortens octets r.object t.inside t.opened in
    let b = each_shortens TakesReference t.inside r.refs t.behind_references reference_shortens t.references_taken in
    let c = tag_shortens t.behind_references (context 1 closing) rest t.closed in
    omega (arith, a, b, c)

pub write_shortens : {A : Type 0} (octets : List ℕ) (w : PropertyWrite A) (rest : List ℕ) → TakesPropertyWrite octets w rest → length rest < length octets
write_shortens octets w rest t =
    let a = number_shortens octets 0 w.property t.behind_property t.property_taken in
    let b = opening_shortens t.behind_property 1 w.index 2 t.inside t.opened in
    let c = inside_shortens t.inside 2 w.values t.behind_values t.values_taken in
    let d = option_shortens t.behind_values 3 w.priority rest t.priority_taken in
    omega (arith, a, b, c, d)

pub writes_shortens : {A : Type 0} (octets : List ℕ) (w : ObjectWrites A) (rest : List ℕ) → TakesWrites octets w rest → length rest < length octets
writes_shortens octets w rest t =
    let a = list_shortens octets w.object t.inside t.opened in
    let b = each_shortens TakesPropertyWrite t.inside w.writes t.behind_writes write_shortens t.writes_taken in
    let c = tag_shortens t.behind_writes (context 1 closing) rest t.closed in
    omega (arith, a, b, c)
