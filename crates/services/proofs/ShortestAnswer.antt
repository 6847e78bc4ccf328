-- No service data that spell a reply are fewer than the canonical ones.
use Rattle.std.proofs.Common.{ℕ, ◌≤◌, List, [], ◌++◌, length, Ok, Err, arith}
use Rattle.tags.specs.Number.{AreOctets}
use Rattle.primitives.specs.Errors.{class_number, code_number}
use Rattle.primitives.specs.declared.plain_data.ObjectResults.{ObjectResults}
use Rattle.primitives.specs.declared.plain_data.PropertyResult.{PropertyResult}
use Rattle.primitives.specs.declared.plain_data.Reply.{Reply}
use Rattle.primitives.specs.declared.plain_data.Reply.TheVariants.{Values, Many}
use Rattle.primitives.specs.declared.plain_data.Request.{Request}
use Rattle.primitives.specs.declared.plain_data.Request.TheVariants.{Read, ReadMany}
use Rattle.apdu.specs.ApduWriting.{class_and_code_octets}
use Rattle.services.specs.CanonicalReply.{reading_octets, result_octets, results_octets, canonical_reply}
use Rattle.apdu.specs.ParameterWriting.{object_field, number_field, option_field, opening_octets, closing_octets}
use Rattle.services.specs.CanonicalRequest.{values_field, in_turn, read_octets}
use Rattle.services.specs.Reply.{TakesReading, TakesResult, TakesResults, SpellsAck}
use Rattle.services.proofs.OneReply.{Reading}
use Rattle.services.proofs.ShortestBody.{number_least, option_least, opening_least, closing_least, both_least, between_least, property_least, list_least}
use Rattle.services.proofs.ShortestBody.{each_least}
use Rattle.apdu.proofs.ShortestLaws.{Least, class_and_code_least}

reading_least : {A : Type 0} (octets : List ℕ) (v : Reading A) (rest : List ℕ) → AreOctets octets → TakesReading octets v rest →
    Least (reading_octets v) octets rest
reading_least octets (Ok vs) rest fits t = between_least octets 4 vs t.inside rest fits t.opened t.inside_taken
reading_least octets (Err f) rest fits t =
    let error = class_and_code_octets (class_number f.0) (code_number f.1) in
    let inside = t.inside_taken in
    let first = opening_least octets 5 t.inside fits t.opened in
    let second = class_and_code_least t.inside (class_number f.0) (code_number f.1) inside.at inside.taken first.fits in
    let third = closing_least inside.at 5 rest second.fits inside.closed in
    both_least (opening_octets 5 ++ error) (closing_octets 5) octets inside.at rest
    (both_least (opening_octets 5) error octets t.inside inside.at first second) third

result_least : {A : Type 0} (octets : List ℕ) (r : PropertyResult A) (rest : List ℕ) → AreOctets octets → TakesResult octets r rest →
    Least (result_octets r) octets rest
result_least octets r rest fits t =
    let at = t.reading_taken.at in
    let first = number_least octets 2 r.property t.behind_property fits t.property_taken in
    let second = option_least t.behind_property 3 r.index at first.fits t.reading_taken.index_taken in
    let third = reading_least at r.result rest second.fits t.reading_taken.reading_taken in
    both_least (number_field 2 r.property ++ option_field 3 r.index) (reading_octets r.result) octets at rest
    (both_least (number_field 2 r.property) (option_field 3 r.index) octets t.behind_property at first second) third

results_least : {A : Type 0} (octets : List ℕ) (r : ObjectResults A) (rest : List ℕ) → AreOctets octets → TakesResults octets r rest →
    Least (results_octets r) octets rest
results_least {A} octets r rest fits t =
    let list = t.results_taken in
    let first = list_least octets r.object t.inside fits t.opened in
    let second = each_least (λ (a : List ℕ) (x : PropertyResult A) (b : List ℕ). TakesResult a x b) result_octets result_least t.inside r.results list.at
    first.fits list.taken in
    let third = closing_least list.at 1 rest second.fits list.closed in
    both_least (object_field 0 r.object ++ opening_octets 1 ++ in_turn result_octets r.results) (closing_octets 1) octets list.at rest
    (both_least (object_field 0 r.object ++ opening_octets 1) (in_turn result_octets r.results) octets t.inside list.at first second) third

ack_least : {A : Type 0} (request : Request A) (octets : List ℕ) (x : Reply A) → AreOctets octets → SpellsAck request octets x →
    Least (canonical_reply request x) octets []
ack_least (Read o p i) octets (Values vs) fits t =
    let first = property_least octets o p t.behind_property fits t.property_taken in
    let second = option_least t.behind_property 2 i t.opened.at first.fits t.opened.option_taken in
    let third = between_least t.opened.at 3 vs t.inside [] second.fits t.opened.opened t.values_taken in
    both_least (read_octets o p i) (values_field 3 vs) octets t.opened.at []
    (both_least (object_field 0 o ++ number_field 1 p) (option_field 2 i) octets t.behind_property t.opened.at first second) third
ack_least {A} (ReadMany asked) octets (Many rs) fits t =
    each_least (λ (a : List ℕ) (r : ObjectResults A) (b : List ℕ). TakesResults a r b) results_octets results_least octets rs [] fits t
ack_least request octets x fits t = absurd t

pub ack_shortest : {A : Type 0} (request : Request A) (octets : List ℕ) (x : Reply A) → AreOctets octets → SpellsAck request octets x →
    length (canonical_reply request x) ≤ length octets
ack_shortest request octets x fits t = let least = ack_least request octets x fits t in omega (arith, least.le)
