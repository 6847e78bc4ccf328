-- The service data of a ComplexACK spells one reply.
use Rattle.std.proofs.Common.{◌≡◌, ℕ, ◌<◌, List, [], length, Option, Result, Ok, Err, refl, sym, ap, subst, ◌∙◌, arith}
use Rattle.tags.specs.declared.object_id.ObjectId.{ObjectId}
use Rattle.tags.specs.declared.value.Value.{Value}
use Rattle.tags.specs.Element.{context}
use Rattle.tags.specs.Tag.{PlainTag, opening, closing}
use Rattle.tags.specs.declared.tag.Class.TheVariants.{Application}
use Rattle.tags.proofs.OneTag.{one_front_tag, tag_shortens}
use Rattle.apdu.proofs.ApduLaws.{class_and_code_alone}
use Rattle.primitives.specs.Errors.{class_number, code_number}
use Rattle.primitives.specs.declared.error.ErrorClass.{ErrorClass}
use Rattle.primitives.specs.declared.error.ErrorCode.{ErrorCode}
use Rattle.primitives.specs.declared.plain_data.ObjectResults.{ObjectResults}
use Rattle.primitives.specs.declared.plain_data.PropertyResult.{PropertyResult}
use Rattle.services.specs.Fields.{TakesClosing, TakesEach}
use Rattle.apdu.specs.Parameter.{carrying}
use Rattle.services.specs.Reply.{TakesErrorInside, reading_tag, TakesReadingInside, TakesReading, TakesIndexed, TakesResult, TakesResultList, TakesResults}
use Rattle.apdu.specs.ServiceError.{TakesClassAndCode}
use Rattle.primitives.proofs.ErrorNames.{one_class, one_code}
use Rattle.services.proofs.OneField.{one_number, one_option, one_closing, one_list, one_inside, contents_no_closing}
use Rattle.services.proofs.OneRequest.{IsEnd, one_opened, one_end, nothing_shorter}
use Rattle.services.proofs.Shortens.{number_shortens, option_shortens, inside_shortens, each_shortens, list_shortens}

pub one_class_and_code : (octets : List ℕ) (c d e f : ℕ) (a b : List ℕ) → TakesClassAndCode octets c d a → TakesClassAndCode octets e f b → (c ≡ e) ×
    (d ≡ f) × (a ≡ b)
one_class_and_code octets c d e f a b s r = (class_and_code_alone octets c d a s).only e f b r

-- class and code, up to their closing tag
pub one_error : (octets : List ℕ) (c d : ErrorClass) (e f : ErrorCode) (a b : List ℕ) → TakesErrorInside octets c e a → TakesErrorInside octets d f b →
    (c ≡ d) × (e ≡ f) × (a ≡ b)
one_error octets c d e f a b s r =
    let one = one_class_and_code octets (class_number c) (code_number e) (class_number d) (code_number f) s.at r.at s.taken r.taken in (
      one_class c d one.0 s.class_named r.class_named,
      one_code e f one.1 s.code_named r.code_named,
      one_closing s.at 5 a b s.closed (subst (λ (z : List ℕ). TakesClosing z 5 b) (sym one.2) r.closed),
    )

abbrev failed : (A : Type 0) → ErrorClass → ErrorCode → Result (List (Value A)) (ErrorClass × ErrorCode)
failed A c d = Err (c, d)

abbrev has_read : {A : Type 0} → List (Value A) → Result (List (Value A)) (ErrorClass × ErrorCode)
has_read vs = Ok vs

abbrev pub Reading : Type 0 → Type 0
Reading A = Result (List (Value A)) (ErrorClass × ErrorCode)

pub opens_one_way : (n m : ℕ) → context n opening ≡ context m opening → n ≡ m
opens_one_way n m e = ap (λ (t : PlainTag). t.number) e

ok_is : {A : Type 0} (vs ws : List (Value A)) → vs ≡ ws → has_read vs ≡ has_read ws
ok_is vs ws e = cc

err_is : {A : Type 0} (f g : ErrorClass × ErrorCode) → f.0 ≡ g.0 → f.1 ≡ g.1 → failed A f.0 f.1 ≡ failed A g.0 g.1
err_is {A} f g p q = ap (λ (c : ErrorClass). failed A c f.1) p ∙ ap (λ (d : ErrorCode). failed A g.0 d) q

one_reading_inside : {A : Type 0} (octets : List ℕ) (v w : Reading A) (a b : List ℕ) → reading_tag v ≡ reading_tag w → TakesReadingInside octets v a →
    TakesReadingInside octets w b → (v ≡ w) × (a ≡ b)
one_reading_inside octets (Ok vs) (Ok ws) a b e s r = let one = one_inside octets 4 vs ws a b s r in (ok_is vs ws one.0, one.1)
one_reading_inside octets (Ok vs) (Err f) a b e s r = absurd (omega (arith, e))
one_reading_inside octets (Err f) (Ok ws) a b e s r = absurd (omega (arith, e))
one_reading_inside octets (Err f) (Err g) a b e s r = let one = one_error octets f.0 g.0 f.1 g.1 a b s r in (err_is f g one.0 one.1, one.2)

pub one_reading : {A : Type 0} (octets : List ℕ) (v w : Reading A) (a b : List ℕ) → TakesReading octets v a → TakesReading octets w b → (v ≡ w) × (a ≡ b)
one_reading octets v w a b s r =
    let one = one_front_tag octets (context (reading_tag v) opening) (context (reading_tag w) opening) s.inside r.inside s.opened r.opened in
    one_reading_inside s.inside v w a b (opens_one_way (reading_tag v) (reading_tag w) one.tag) s.inside_taken
    (subst (λ (z : List ℕ). TakesReadingInside z w b) (sym one.rest) r.inside_taken)

pub one_indexed : {A : Type 0} (octets : List ℕ) (i j : Option ℕ) (v w : Reading A) (a b : List ℕ) → TakesIndexed octets i v a → TakesIndexed octets j w b →
    (i ≡ j) × (v ≡ w) × (a ≡ b)
one_indexed octets i j v w a b s r =
    let one = one_option octets 3 i j s.at r.at s.index_taken r.index_taken in
    let two = one_reading s.at v w a b s.reading_taken (subst (λ (z : List ℕ). TakesReading z w b) (sym one.1) r.reading_taken) in
    (one.0, two.0, two.1)

abbrev result_with : {A : Type 0} → ℕ → Option ℕ → Reading A → PropertyResult A
result_with p i v = record { property = p; index = i; result = v }

result_is : {A : Type 0} (r q : PropertyResult A) → r.property ≡ q.property → r.index ≡ q.index → r.result ≡ q.result → r ≡ q
result_is {A} r q e f g =
    ap (λ (p : ℕ). result_with p r.index r.result) e ∙ ap (λ (i : Option ℕ). result_with q.property i r.result) f
    ∙ ap (λ (v : Reading A). result_with q.property q.index v) g

pub one_result : {A : Type 0} (octets : List ℕ) (r q : PropertyResult A) (a b : List ℕ) → TakesResult octets r a → TakesResult octets q b → (r ≡ q) × (a ≡ b)
one_result octets r q a b s t =
    let one = one_number octets 2 r.property q.property s.behind_property t.behind_property s.property_taken t.property_taken in
    let two = one_indexed s.behind_property r.index q.index r.result q.result a b s.reading_taken
    (subst (λ (z : List ℕ). TakesIndexed z q.index q.result b) (sym one.1) t.reading_taken) in
    (result_is r q one.0 two.0 two.1, two.2)

pub result_no_closing : {A : Type 0} (octets : List ℕ) (r : PropertyResult A) (a b : List ℕ) → TakesResult octets r a → TakesClosing octets 1 b → ⊥
result_no_closing octets r a b s t = contents_no_closing octets 2 1 s.property_taken.inner s.behind_property b s.property_taken.tag t

abbrev pub Ends : List ℕ → List ℕ → Type 0
Ends octets rest = TakesClosing octets 1 rest

pub one_result_list : {A : Type 0} (octets : List ℕ) (rs qs : List (PropertyResult A)) (a b : List ℕ) → TakesResultList octets rs a →
    TakesResultList octets qs b → (rs ≡ qs) × (a ≡ b)
one_result_list octets rs qs a b s t =
    one_list TakesResult Ends one_result (λ o c d x y. one_closing o 1 c d x y) result_no_closing octets rs qs s.at t.at a b s.taken s.closed t.taken t.closed

abbrev results_with : {A : Type 0} → ObjectId → List (PropertyResult A) → ObjectResults A
results_with o rs = record { object = o; results = rs }

results_is : {A : Type 0} (r q : ObjectResults A) → r.object ≡ q.object → r.results ≡ q.results → r ≡ q
results_is {A} r q e f = ap (λ (o : ObjectId). results_with o r.results) e ∙ ap (λ (rs : List (PropertyResult A)). results_with q.object rs) f

pub one_results : {A : Type 0} (octets : List ℕ) (r q : ObjectResults A) (a b : List ℕ) → TakesResults octets r a → TakesResults octets q b → (r ≡ q) × (a ≡ b)
one_results octets r q a b s t =
    let one = one_opened octets r.object q.object s.inside t.inside s.opened t.opened in
    let two = one_result_list s.inside r.results q.results a b s.results_taken
    (subst (λ (z : List ℕ). TakesResultList z q.results b) (sym one.1) t.results_taken) in
    (results_is r q one.0 two.0, two.1)

error_shortens : (octets : List ℕ) (c : ErrorClass) (e : ErrorCode) (rest : List ℕ) → TakesErrorInside octets c e rest → length rest < length octets
error_shortens octets c e rest t =
    let x = tag_shortens octets (carrying Application 9 t.taken.class_taken.inner) t.taken.at_code t.taken.class_taken.tag in
    let y = tag_shortens t.taken.at_code (carrying Application 9 t.taken.code_taken.inner) t.at t.taken.code_taken.tag in
    let z = tag_shortens t.at (context 5 closing) rest t.closed in
    omega (arith, x, y, z)

pub reading_inside_shortens : {A : Type 0} (octets : List ℕ) (v : Reading A) (rest : List ℕ) → TakesReadingInside octets v rest → length rest < length octets
reading_inside_shortens octets (Ok vs) rest t = inside_shortens octets 4 vs rest t
reading_inside_shortens octets (Err e) rest t = error_shortens octets e.0 e.1 rest t

pub indexed_shortens : {A : Type 0} (octets : List ℕ) (i : Option ℕ) (v : Reading A) (rest : List ℕ) → TakesIndexed octets i v rest →
    length rest < length octets
indexed_shortens octets i v rest t =
    let x = option_shortens octets 3 i t.at t.index_taken in
    let y = tag_shortens t.at (context (reading_tag v) opening) t.reading_taken.inside t.reading_taken.opened in
    let z = reading_inside_shortens t.reading_taken.inside v rest t.reading_taken.inside_taken in
    omega (arith, x, y, z)

pub result_shortens : {A : Type 0} (octets : List ℕ) (r : PropertyResult A) (rest : List ℕ) → TakesResult octets r rest → length rest < length octets
result_shortens octets r rest t =
    let x = number_shortens octets 2 r.property t.behind_property t.property_taken in
    let y = indexed_shortens t.behind_property r.index r.result rest t.reading_taken in
    omega (arith, x, y)

pub results_shortens : {A : Type 0} (octets : List ℕ) (r : ObjectResults A) (rest : List ℕ) → TakesResults octets r rest → length rest < length octets
results_shortens octets r rest t =
    let x = list_shortens octets r.object t.inside t.opened in
    let y = each_shortens TakesResult t.inside r.results t.results_taken.at result_shortens t.results_taken.taken in
    let z = tag_shortens t.results_taken.at (context 1 closing) rest t.results_taken.closed in
    omega (arith, x, y, z)

pub results_no_end : {A : Type 0} (octets : List ℕ) (r : ObjectResults A) (a b : List ℕ) → TakesResults octets r a → IsEnd octets b → ⊥
results_no_end octets r a b s e = nothing_shorter octets a (results_shortens octets r a s) e.0

pub one_many : {A : Type 0} (octets : List ℕ) (rs qs : List (ObjectResults A)) → TakesEach TakesResults octets rs [] → TakesEach TakesResults octets qs [] →
    rs ≡ qs
one_many octets rs qs s t = (one_list TakesResults IsEnd one_results one_end results_no_end octets rs qs [] [] [] [] s (refl, refl) t (refl, refl)).0
