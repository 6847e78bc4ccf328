-- Where a part of a ComplexACK is not read, none stands.
use Rattle.std.proofs.Common.{◌≡◌, ℕ, ◌<◌, ◌≤◌, ◌^◌, List, [], ◌∷◌, ◌++◌, length, Option, Some, None, Ok, Err, refl, sym, subst, ◌∙◌, arith}
use Rattle.std.specs.List.{AllByRecursion}
use Rattle.tags.specs.declared.object_id.ObjectId.{ObjectId}
use Rattle.tags.specs.declared.value.Value.{Value}
use Rattle.tags.specs.Element.{context}
use Rattle.tags.specs.Tag.{PlainTag, opening, closing, TakesTag, NoTag}
use Rattle.tags.proofs.OneTag.{one_front_tag}
use Rattle.primitives.specs.Errors.{class_number, code_number}
use Rattle.primitives.specs.Sound.{IsSoundResult, IsSoundResults}
use Rattle.primitives.specs.declared.plain_data.ObjectResults.{ObjectResults}
use Rattle.primitives.specs.declared.plain_data.PropertyResult.{PropertyResult}
use Rattle.apdu.specs.declared.numbers.RejectReason.{RejectReason}
use Rattle.services.specs.Fields.{TakesNumber, TakesOption, TakesClosing, TakesEach, IsOtherTag, NoClosing, RejectsEnd, RejectsInside}
use Rattle.services.specs.Multiple.{OpensList, RejectsList}
use Rattle.services.specs.Requests.{TakesWrite, RejectsWrite}
use Rattle.services.specs.Reply.{reading_tag, TakesReadingInside, TakesReading, TakesIndexed, TakesResult, TakesResultList, TakesResults}
use Rattle.services.specs.ReplySteps.{NoReadAck, NoErrorInside, NoReadingUnder, NoIndexed, TakesNextResult, NoNextResult, NoResult, NoResultList, NoResults}
use Rattle.services.specs.ReplySteps.{NoManyAck}
use Rattle.apdu.specs.ServiceError.{OnlyClassAndCode, NoClassAndCode}
use Rattle.services.proofs.FieldLaws.{no_contents_of_other, no_contents_of_none}
use Rattle.services.proofs.Lists.{takes_more, all_more}
use Rattle.services.proofs.NoField.{inside_not_taken, end_not_taken, list_stuck}
use Rattle.services.proofs.NoRequest.{write_not_taken, list_not_opened}
use Rattle.services.proofs.OneField.{one_option, one_number, contents_no_closing}
use Rattle.services.proofs.OneRequest.{IsEnd, one_write, one_opened}
use Rattle.services.proofs.OneReply.{Reading, Ends, opens_one_way, one_result, result_no_closing, one_results, results_no_end, result_shortens}
use Rattle.services.proofs.OneReply.{results_shortens}

-- ---- ReadProperty

pub ack_is_no_write : (A : Type 0) (reason : RejectReason) (octets : List ℕ) (o : ObjectId) (p : ℕ) (i : Option ℕ) → RejectsWrite A reason octets →
    NoReadAck A octets o p i
ack_is_no_write A reason octets o p i h = record { none = λ values t. write_not_taken reason octets o p i values [] h t }

pub ack_goes_on : {A : Type 0} (reason : RejectReason) (octets : List ℕ) (o : ObjectId) (p : ℕ) (i : Option ℕ) (vs : List (Value A)) (rest : List ℕ)
    (q : ObjectId) (n : ℕ) (j : Option ℕ) → TakesWrite octets q n j vs rest → RejectsEnd reason rest → NoReadAck A octets o p i
ack_goes_on reason octets o p i vs rest q n j t h =
    record { none = λ values u. end_not_taken reason rest h (one_write octets q o n p j i vs values rest [] t u).rest }

-- another object, property or index
pub other_ack : {A : Type 0} (octets : List ℕ) (o : ObjectId) (p : ℕ) (i : Option ℕ) (vs : List (Value A)) (rest : List ℕ) (q : ObjectId) (n : ℕ)
    (j : Option ℕ) → TakesWrite octets q n j vs rest → (q ≡ o → n ≡ p → j ≡ i → ⊥) → NoReadAck A octets o p i
other_ack octets o p i vs rest q n j t h =
    record { none = λ values u. let one = one_write octets q o n p j i vs values rest [] t u in h one.object one.property one.index }

pub ack_taken : {A : Type 0} (octets : List ℕ) (o : ObjectId) (p : ℕ) (i : Option ℕ) (vs : List (Value A)) (rest : List ℕ) (q : ObjectId) (n : ℕ)
    (j : Option ℕ) → TakesWrite octets q n j vs rest → q ≡ o → n ≡ p → j ≡ i → rest ≡ [] → TakesWrite octets o p i vs []
ack_taken octets o p i vs rest q n j t e f g h =
    subst (λ (z : List ℕ). TakesWrite octets o p i vs z) h
    (subst (λ (k : Option ℕ). TakesWrite octets o p k vs rest) g
    (subst (λ (m : ℕ). TakesWrite octets o m j vs rest) f (subst (λ (x : ObjectId). TakesWrite octets x n j vs rest) e t)))

-- ---- class and code

pub no_error_of_none : (octets : List ℕ) → NoClassAndCode octets → NoErrorInside octets
no_error_of_none octets h = record { none = λ class code rest t. h.none (class_number class) (code_number code) t.at t.taken }

pub no_error_unclosed : (octets : List ℕ) (c d : ℕ) (at : List ℕ) → OnlyClassAndCode octets c d at → NoClosing at 5 → NoErrorInside octets
no_error_unclosed octets c d at only h = record {
  none = λ class code rest t.
      h.none rest (subst (λ (z : List ℕ). TakesClosing z 5 rest) (sym (only.only (class_number class) (code_number code) t.at t.taken).2) t.closed);
}

-- ---- what was read of a property

no_values_here : {A : Type 0} (reason : RejectReason) (octets : List ℕ) (v : Reading A) (rest : List ℕ) → RejectsInside A reason octets 4 →
    4 ≡ reading_tag v → TakesReadingInside octets v rest → ⊥
no_values_here reason octets (Ok vs) rest h e t = inside_not_taken reason octets 4 vs rest h t
no_values_here reason octets (Err f) rest h e t = omega (arith, e)

pub no_values_under : (A : Type 0) (reason : RejectReason) (t : PlainTag) (octets : List ℕ) → t ≡ context 4 opening → RejectsInside A reason octets 4 →
    NoReadingUnder A t octets
no_values_under A reason t octets e h = record {
  none =
      λ v rest u. no_values_here reason octets v rest h (opens_one_way 4 (reading_tag v) (sym e ∙ u.opens)) u.taken;
}

abbrev NoReading : Type 0 → List ℕ → Type 0
NoReading A octets = (v : Reading A) (rest : List ℕ) → TakesReading octets v rest → ⊥

no_reading_of_none : (A : Type 0) (octets : List ℕ) → NoTag octets → NoReading A octets
no_reading_of_none A octets h v rest t = h.none t.opened.0 t.inside (context (reading_tag v) opening) t.opened.1 t.opened.2

no_reading_under : (A : Type 0) (octets : List ℕ) (t : PlainTag) (behind : List ℕ) → TakesTag octets t behind → NoReadingUnder A t behind → NoReading A octets
no_reading_under A octets t behind taken h v rest u =
    let one = one_front_tag octets t (context (reading_tag v) opening) behind u.inside taken u.opened in
    h.none v rest record { opens = one.tag; taken = subst (λ (z : List ℕ). TakesReadingInside z v rest) (sym one.rest) u.inside_taken }

no_indexed_behind : (A : Type 0) (octets : List ℕ) (i : Option ℕ) (at : List ℕ) → TakesOption octets 3 i at → NoReading A at → NoIndexed A octets
no_indexed_behind A octets i at t h = record {
  none = λ j v rest u.
      h v rest (subst (λ (z : List ℕ). TakesReading z v rest) (sym (one_option octets 3 i j at u.at t u.index_taken).1) u.reading_taken);
}

pub no_indexed_of_none : (A : Type 0) (octets : List ℕ) → NoTag octets → NoIndexed A octets
no_indexed_of_none A octets h = no_indexed_behind A octets None octets (no_contents_of_none octets 3 h, refl) (no_reading_of_none A octets h)

pub no_indexed_without : (A : Type 0) (octets : List ℕ) (t : PlainTag) (behind : List ℕ) → TakesTag octets t behind → IsOtherTag t 3 →
    NoReadingUnder A t behind → NoIndexed A octets
no_indexed_without A octets t behind taken other h =
    no_indexed_behind A octets None octets (no_contents_of_other octets t behind 3 taken other, refl) (no_reading_under A octets t behind taken h)

pub no_indexed_cut : (A : Type 0) (octets : List ℕ) (n : ℕ) (at : List ℕ) → TakesNumber octets 3 n at → NoTag at → NoIndexed A octets
no_indexed_cut A octets n at t h = no_indexed_behind A octets (Some n) at t (no_reading_of_none A at h)

pub no_indexed_with : (A : Type 0) (octets : List ℕ) (n : ℕ) (at : List ℕ) (t : PlainTag) (behind : List ℕ) → TakesNumber octets 3 n at →
    TakesTag at t behind → NoReadingUnder A t behind → NoIndexed A octets
no_indexed_with A octets n at t behind u taken h = no_indexed_behind A octets (Some n) at u (no_reading_under A at t behind taken h)

-- ---- lists of results

next_of_none : (octets : List ℕ) → NoTag octets → (next : Option ℕ) (rest : List ℕ) → TakesNextResult octets next rest → ⊥
next_of_none octets h None rest t = h.none t.0 rest (context 1 closing) t.1 t.2
next_of_none octets h (Some p) rest t = (no_contents_of_none octets 2 h).none t.inner rest t.tag

pub no_next_of_none : (octets : List ℕ) → NoTag octets → NoNextResult octets
no_next_of_none octets h = record { none = next_of_none octets h }

next_of_other : (octets : List ℕ) (t : PlainTag) (behind : List ℕ) → TakesTag octets t behind → (t ≡ context 1 closing → ⊥) → IsOtherTag t 2 →
    (next : Option ℕ) (rest : List ℕ) → TakesNextResult octets next rest → ⊥
next_of_other octets t behind taken unclosed other None rest u = unclosed (one_front_tag octets t (context 1 closing) behind rest taken u).tag
next_of_other octets t behind taken unclosed other (Some p) rest u = (no_contents_of_other octets t behind 2 taken other).none u.inner rest u.tag

pub no_next_of_other : (octets : List ℕ) (t : PlainTag) (behind : List ℕ) → TakesTag octets t behind → (t ≡ context 1 closing → ⊥) → IsOtherTag t 2 →
    NoNextResult octets
no_next_of_other octets t behind taken unclosed other = record { none = next_of_other octets t behind taken unclosed other }

pub no_result_next : (A : Type 0) (octets : List ℕ) → NoNextResult octets → NoResult A octets
no_result_next A octets h = record { none = λ r rest t. h.none (Some r.property) t.behind_property t.property_taken; unclosed = λ rest t. h.none None rest t }

pub no_result_behind : (A : Type 0) (octets : List ℕ) (p : ℕ) (at : List ℕ) → TakesNumber octets 2 p at → NoIndexed A at → NoResult A octets
no_result_behind A octets p at taken h = record {
  none = λ r rest t. h.none r.index r.result rest
      (subst (λ (z : List ℕ). TakesIndexed z r.index r.result rest) (sym (one_number octets 2 p r.property at t.behind_property taken t.property_taken).1)
      t.reading_taken);
  unclosed = λ rest t. contents_no_closing octets 2 1 taken.inner at rest taken.tag t;
}

-- the results that were read, and what is left
pub record ResultsBefore {A : Type 0} (start : List ℕ) (rs : List (PropertyResult A)) (here : List ℕ) : Type 0 where
  pub taken : TakesEach TakesResult start rs here
  pub room : length here ≤ length start
  pub sound : length start < 2 ^ 31 → AllByRecursion IsSoundResult rs

pub results_begin : (A : Type 0) (start : List ℕ) → ResultsBefore {A = A} start [] start
results_begin A start = record { taken = refl; room = omega arith; sound = λ lt. tt }

pub results_go_on : {A : Type 0} (start here next : List ℕ) (rs : List (PropertyResult A)) (r : PropertyResult A) → ResultsBefore start rs here →
    TakesResult here r next → (length here < 2 ^ 31 → IsSoundResult r) → ResultsBefore start (rs ++ r ∷ []) next
results_go_on start here next rs r b t h = record {
  taken = takes_more TakesResult start here next rs r b.taken t;
  room = let lt = result_shortens here r next t in omega (arith, b.room, lt);
  sound = λ lt. all_more IsSoundResult rs r (b.sound lt) (h (omega (arith, b.room, lt)));
}

pub results_end : {A : Type 0} (start here rest : List ℕ) (rs : List (PropertyResult A)) → ResultsBefore start rs here → TakesClosing here 1 rest →
    TakesResultList start rs rest
results_end start here rest rs b closed = record { at = here; taken = b.taken; closed = closed }

pub results_stop : {A : Type 0} (start here : List ℕ) (rs : List (PropertyResult A)) → ResultsBefore start rs here → NoResult A here → NoResultList A start
results_stop start here rs b h = record {
  none = λ qs rest t.
      list_stuck TakesResult Ends one_result result_no_closing start rs qs here t.at rest h.none h.unclosed b.taken t.taken t.closed;
}

pub ruleset list_laws = (results_begin, results_end, result_shortens)

-- ---- objects with results

pub no_results_unopened : (A : Type 0) (reason : RejectReason) (octets : List ℕ) → RejectsList reason octets → NoResults A octets
no_results_unopened A reason octets h = record { none = λ r rest t. list_not_opened reason octets r.object t.inside h t.opened }

pub no_results_inside : (A : Type 0) (octets : List ℕ) (o : ObjectId) (inside : List ℕ) → OpensList octets o inside → NoResultList A inside → NoResults A octets
no_results_inside A octets o inside opened h = record {
  none = λ r rest t.
      h.none r.results rest (subst (λ (z : List ℕ). TakesResultList z r.results rest) (sym (one_opened octets o r.object inside t.inside opened t.opened).1)
      t.results_taken);
}

-- the objects that were read, and what is left
pub record ManyBefore {A : Type 0} (start : List ℕ) (rs : List (ObjectResults A)) (here : List ℕ) : Type 0 where
  pub taken : TakesEach TakesResults start rs here
  pub room : length here ≤ length start
  pub sound : length start < 2 ^ 31 → AllByRecursion IsSoundResults rs

pub many_begin : (A : Type 0) (start : List ℕ) → ManyBefore {A = A} start [] start
many_begin A start = record { taken = refl; room = omega arith; sound = λ lt. tt }

pub many_go_on : {A : Type 0} (start here next : List ℕ) (rs : List (ObjectResults A)) (r : ObjectResults A) → ManyBefore start rs here →
    TakesResults here r next → (length here < 2 ^ 31 → IsSoundResults r) → ManyBefore start (rs ++ r ∷ []) next
many_go_on start here next rs r b t h = record {
  taken = takes_more TakesResults start here next rs r b.taken t;
  room = let lt = results_shortens here r next t in omega (arith, b.room, lt);
  sound = λ lt. all_more IsSoundResults rs r (b.sound lt) (h (omega (arith, b.room, lt)));
}

pub many_stop : {A : Type 0} (start here : List ℕ) (rs : List (ObjectResults A)) → ManyBefore start rs here → (here ≡ [] → ⊥) → NoResults A here →
    NoManyAck A start
many_stop start here rs b some h = record {
  none = λ qs t.
      list_stuck TakesResults IsEnd one_results results_no_end start rs qs here [] [] h.none (λ a e. some e.0) b.taken t (refl, refl);
}

pub many_end : {A : Type 0} (start here : List ℕ) (rs : List (ObjectResults A)) → ManyBefore start rs here → here ≡ [] → TakesEach TakesResults start rs []
many_end start here rs b e = subst (λ (z : List ℕ). TakesEach TakesResults start rs z) e b.taken

pub ruleset many_laws = (many_begin, results_shortens)
