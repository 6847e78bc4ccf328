-- A part of a reply that isn't said leaves the whole unsaid.
use Rattle.std.proofs.Common.{◌≡◌, ◌∙◌, inl, inr, sym, refl, ap, subst, drop, ℕ, List, [], ◌∷◌, ◌++◌, length, Option, Some, None, Result, Ok, Err, arith}
use Rattle.std.proofs.lemmas.List.{append_cancel_right}
use Rattle.std.proofs.lemmas.Option.{none-some}
use Rattle.std.specs.Prelude.{◌≢◌, ◌⊎◌, codes, IsSomeAnd}
use Rattle.primitives.specs.Errors.{class_number, code_number}
use Rattle.primitives.specs.declared.error.ErrorClass.{ErrorClass}
use Rattle.primitives.specs.declared.error.ErrorCode.{ErrorCode}
use Rattle.primitives.specs.declared.plain_data.ObjectResults.{ObjectResults}
use Rattle.primitives.specs.declared.plain_data.PropertyResult.{PropertyResult}
use Rattle.primitives.specs.declared.plain_data.Reply.{Reply}
use Rattle.primitives.specs.declared.plain_data.Reply.TheVariants as reply
use Rattle.tags.specs.declared.value.Value.{Value}
use Rattle.words.specs.Marks.{first_part, other_parts}
use Rattle.words.specs.Says.{HasNo, before, behind, space}
use Rattle.words.specs.Unsaid.{NoObject, NoReference, NoUnsigned}
use Rattle.words.specs.NoRequests.{NoGiven, NoPlace, NoValues}
use Rattle.words.specs.Replies.{AreValuesIn, IsBracketed, IsErrorIn, NoBracketed, NoBrackets, NoEachResult, NoError, NoErrorReply, NoKind, NoNamedError}
use Rattle.words.specs.Replies.{NoObjects, NoRefusal, NoReply, NoResult, NoResults, NoValuesRead, SaysBracketed, SaysEachResult, SaysBareError, SaysError}
use Rattle.words.specs.Replies.{SaysErrorBy, SaysErrorIn, SaysErrorReply, SaysKind, SaysNamedError, SaysObjects, SaysRefusal, SaysReply, SaysResult}
use Rattle.words.specs.Replies.{SaysResultBy, SaysResults, SaysValuesRead}
use Rattle.words.proofs.Lists.{Reads, begins, goes_on, ends, stops, shortens}
use Rattle.words.proofs.Requests.{none_of_nothing, place_whole, place_no_object, place_no_property}

some_is_none : {X : Type 0} (x : X) → Some x ≡ None → ⊥
some_is_none x e = none-some x (sym e)

no_such : {X : Type 0} (o : Option X) (P : X → Type 0) → o ≡ None → IsSomeAnd o P → ⊥
no_such None P e s = s
no_such (Some x) P e s = some_is_none x e

-- errors
pub error_whole : (words : List ℕ) → HasNo space words → NoError words
error_whole words whole = record { none = λ c d s. absurd (omega (arith, whole, s.parted)) }

pub error_no_class : (words : List ℕ) → NoUnsigned 32 (before space words) → NoError words
error_no_class words none = record { none = λ c d s. none.none (class_number c) s.class_said }

pub error_no_code : (words : List ℕ) → NoUnsigned 32 (behind space words) → NoError words
error_no_code words none = record { none = λ c d s. none.none (code_number d) s.code_said }

-- refusals of a property
no_error_in : {A : Type 0} (words : Option (List ℕ)) (r : Result (List (Value A)) (ErrorClass × ErrorCode)) → words ≡ None → IsErrorIn words r → ⊥
no_error_in words (Ok vs) e s = s
no_error_in words (Err x) e s = subst (λ (w : Option (List ℕ)). SaysErrorIn w x) e s

other_error_in : {A : Type 0} (words : Option (List ℕ)) (w : List ℕ) (r : Result (List (Value A)) (ErrorClass × ErrorCode)) → words ≡ Some w → NoError w →
    IsErrorIn words r → ⊥
other_error_in words w (Ok vs) e none s = s
other_error_in words w (Err x) e none s = none.none x.0 x.1 (subst (λ (v : Option (List ℕ)). SaysErrorIn v x) e s)

pub refusal_unmarked : (A : Type 0) (words : List ℕ) → other_parts (codes " ! ") words ≡ None → NoRefusal A words
refusal_unmarked A words e = record { none = λ r s. no_error_in (other_parts (codes " ! ") words) r.result e s.error_said }

pub refusal_no_error : (A : Type 0) (words w : List ℕ) → other_parts (codes " ! ") words ≡ Some w → NoError w → NoRefusal A words
refusal_no_error A words w e none = record { none = λ r s. other_error_in (other_parts (codes " ! ") words) w r.result e none s.error_said }

pub refusal_no_property : (A : Type 0) (words : List ℕ) → NoReference (first_part (codes " ! ") words) → NoRefusal A words
refusal_no_property A words none = record { none = λ r s. none.none (record { property = r.property; index = r.index }) s.property_said }

pub refusal_said : {A : Type 0} (words w : List ℕ) (r : PropertyResult A) (e : ErrorClass × ErrorCode) → other_parts (codes " ! ") words ≡ Some w →
    r.result ≡ Err e → SaysError w e.0 e.1 → IsErrorIn (other_parts (codes " ! ") words) r.result
refusal_said words w r e f g s = subst (λ (x : Result _ _). IsErrorIn (other_parts (codes " ! ") words) x) (sym g)
    (subst (λ (v : Option (List ℕ)). SaysErrorIn v e) (sym f) s)

-- results of a property
pub result_refused : {A : Type 0} (words : List ℕ) (r : PropertyResult A) → other_parts (codes " = ") words ≡ None → SaysRefusal words r → SaysResult words r
result_refused words r e s = subst (λ (w : Option (List ℕ)). SaysResultBy words w r) (sym e) s

pub result_given : {A : Type 0} (words place w : List ℕ) (r : PropertyResult A) → place ≡ first_part (codes " = ") words →
    other_parts (codes " = ") words ≡ Some w → SaysValuesRead place w r → SaysResult words r
result_given words place w r f e s = subst (λ (v : Option (List ℕ)). SaysResultBy words v r) (sym e) (subst (λ (p : List ℕ). SaysValuesRead p w r) f s)

pub result_no_refusal : (A : Type 0) (words : List ℕ) → other_parts (codes " = ") words ≡ None → NoRefusal A words → NoResult A words
result_no_refusal A words e none = record { none = λ r s. none.none r (subst (λ (w : Option (List ℕ)). SaysResultBy words w r) e s) }

no_values_in : {A : Type 0} (w : List ℕ) (r : Result (List (Value A)) (ErrorClass × ErrorCode)) → NoValues A w → AreValuesIn w r → ⊥
no_values_in w (Ok vs) none s = none.none vs s
no_values_in w (Err e) none s = s

pub result_no_values : (A : Type 0) (words place w : List ℕ) → place ≡ first_part (codes " = ") words → other_parts (codes " = ") words ≡ Some w →
    NoValuesRead A place w → NoResult A words
result_no_values A words place w f e none =
    record { none = λ r s. none.none r (subst (λ (p : List ℕ). SaysValuesRead p w r) (sym f) (subst (λ (v : Option (List ℕ)). SaysResultBy words v r) e s)) }

pub read_no_values : (A : Type 0) (place w : List ℕ) → NoValues A w → NoValuesRead A place w
read_no_values A place w none = record { none = λ r s. no_values_in w r.result none s.values_said }

pub read_no_property : (A : Type 0) (place w : List ℕ) → NoReference place → NoValuesRead A place w
read_no_property A place w none = record { none = λ r s. none.none (record { property = r.property; index = r.index }) s.property_said }

-- results of an object
pub results_no_object : (A : Type 0) (words : List ℕ) → NoObject (first_part (codes " ") words) → NoResults A words
results_no_object A words none = record { none = λ r s. none.none r.object s.object_said }

pub results_none : (A : Type 0) (words : List ℕ) → NoEachResult A (other_parts (codes " ") words) → NoResults A words
results_none A words none = record { none = λ r s. none.none r.results s.results_said }

-- lists of results of properties
abbrev pub ReadsEach : {A : Type 0} → Option (List ℕ) → List (PropertyResult A) → Option (List ℕ) → Type 0
ReadsEach whole rs rest = Reads (other_parts (codes "; ")) (λ w r. SaysResult (first_part (codes "; ") w) r) whole rs rest

pub each_begins : (A : Type 0) (whole : Option (List ℕ)) → ReadsEach {A = A} whole [] whole
each_begins A whole = begins (other_parts (codes "; ")) (λ w r. SaysResult (first_part (codes "; ") w) r) whole

pub each_goes_on : {A : Type 0} (whole : Option (List ℕ)) (rs : List (PropertyResult A)) (here : List ℕ) (x : PropertyResult A) →
    ReadsEach whole rs (Some here) → SaysResult (first_part (codes "; ") here) x → ReadsEach whole (rs ++ x ∷ []) (other_parts (codes "; ") here)
each_goes_on whole rs here x r said = goes_on (other_parts (codes "; ")) (λ w r. SaysResult (first_part (codes "; ") w) r) whole rs here x r said

pub each_ends : {A : Type 0} (whole : Option (List ℕ)) (rs : List (PropertyResult A)) → ReadsEach whole rs None → SaysEachResult whole rs
each_ends whole rs r = ends (other_parts (codes "; ")) (λ w r. SaysResult (first_part (codes "; ") w) r) whole rs r

pub each_stops : {A : Type 0} (whole : Option (List ℕ)) (rs : List (PropertyResult A)) (here : List ℕ) → ReadsEach whole rs (Some here) →
    NoResult A (first_part (codes "; ") here) → NoEachResult A whole
each_stops whole rs here r none = record { none = stops (other_parts (codes "; ")) (λ w r. SaysResult (first_part (codes "; ") w) r) whole rs here r none.none }

-- lists of results of objects
abbrev pub ReadsObjects : {A : Type 0} → Option (List ℕ) → List (ObjectResults A) → Option (List ℕ) → Type 0
ReadsObjects whole rs rest = Reads (other_parts (codes "] [")) (λ w r. SaysResults (first_part (codes "] [") w) r) whole rs rest

pub objects_begin : (A : Type 0) (whole : Option (List ℕ)) → ReadsObjects {A = A} whole [] whole
objects_begin A whole = begins (other_parts (codes "] [")) (λ w r. SaysResults (first_part (codes "] [") w) r) whole

pub objects_go_on : {A : Type 0} (whole : Option (List ℕ)) (rs : List (ObjectResults A)) (here : List ℕ) (x : ObjectResults A) →
    ReadsObjects whole rs (Some here) → SaysResults (first_part (codes "] [") here) x → ReadsObjects whole (rs ++ x ∷ []) (other_parts (codes "] [") here)
objects_go_on whole rs here x r said = goes_on (other_parts (codes "] [")) (λ w r. SaysResults (first_part (codes "] [") w) r) whole rs here x r said

pub objects_more : {A : Type 0} (whole : Option (List ℕ)) (rs all : List (ObjectResults A)) (rest left : Option (List ℕ)) (here front : List ℕ)
    (x : ObjectResults A) → ReadsObjects whole rs rest → rest ≡ Some here → front ≡ first_part (codes "] [") here →
    left ≡ other_parts (codes "] [") here → SaysResults front x → all ≡ rs ++ x ∷ [] → ReadsObjects whole all left
objects_more whole rs all rest left here front x r is cut behind said added =
    subst (λ (xs : List (ObjectResults _)). ReadsObjects whole xs left) (sym added)
    (subst (λ (l : Option (List ℕ)). ReadsObjects whole (rs ++ x ∷ []) l) (sym behind)
    (objects_go_on whole rs here x (subst (λ (l : Option (List ℕ)). ReadsObjects whole rs l) is r)
    (subst (λ (w : List ℕ). SaysResults w x) cut said)))

pub objects_end : {A : Type 0} (words : List ℕ) (rs : List (ObjectResults A)) → ReadsObjects (Some words) rs None → SaysObjects words rs
objects_end words rs r = ends (other_parts (codes "] [")) (λ w r. SaysResults (first_part (codes "] [") w) r) (Some words) rs r

pub objects_stop : {A : Type 0} (words : List ℕ) (rs : List (ObjectResults A)) (here : List ℕ) → ReadsObjects (Some words) rs (Some here) →
    NoResults A (first_part (codes "] [") here) → NoObjects A words
objects_stop words rs here r none = record {
  none =
      stops (other_parts (codes "] [")) (λ w r. SaysResults (first_part (codes "] [") w) r) (Some words) rs here r none.none;
}

-- brackets
one_end : {X : Type 0} (a b : List X) (c : X) → a ++ c ∷ [] ≡ b ++ c ∷ [] → a ≡ b
one_end a b c e = append_cancel_right a b (c ∷ []) e

pub same_inner : (words a b : List ℕ) → IsBracketed words a → IsBracketed words b → a ≡ b
same_inner words a b e f = one_end a b 93 (ap (drop 1) (sym e ∙ f))

pub bracketed : {A : Type 0} (words inner : List ℕ) (rs : List (ObjectResults A)) → IsBracketed words inner → SaysObjects inner rs → SaysBracketed words rs
bracketed words inner rs e s = record { inner = inner; bracketed = e; objects_said = s }

pub bracketed_none : (A : Type 0) (words inner : List ℕ) → IsBracketed words inner → NoObjects A inner → NoBracketed A words
bracketed_none A words inner e none = record {
  none =
      λ rs s. none.none rs (subst (λ (w : List ℕ). SaysObjects w rs) (same_inner words s.inner inner s.bracketed e) s.objects_said);
}

pub unbracketed : (A : Type 0) (words : List ℕ) → NoBrackets words → NoBracketed A words
unbracketed A words none = record { none = λ rs s. none.none s.inner s.bracketed }

-- kinds alone
pub record IsNoBare (kind : List ℕ) : Type 0 where
  pub not_values : kind ≢ codes "values"
  pub not_many : kind ≢ codes "many"
  pub not_done : kind ≢ codes "done"

bare_in : {A : Type 0} (kind : List ℕ) (r : Reply A) → IsNoBare kind → SaysKind kind None r → ⊥
bare_in kind (reply.Values vs) other s = other.not_values s.0
bare_in kind (reply.Many rs) other s = other.not_many s.0
bare_in kind reply.Done other s = other.not_done s.0
bare_in kind (reply.Error c d) other s = s.1
bare_in kind (reply.ErrorAt c d o p i) other s = s.1

pub no_bare : (A : Type 0) (kind : List ℕ) → IsNoBare kind → NoKind A kind None
no_bare A kind other = record { none = λ r s. bare_in kind r other s }

-- kinds with words behind them
pub record IsNoKind (kind : List ℕ) : Type 0 where
  pub not_values : kind ≢ codes "values"
  pub not_many : kind ≢ codes "many"
  pub not_error : kind ≢ codes "error"

kind_in : {A : Type 0} (kind words : List ℕ) (r : Reply A) → IsNoKind kind → SaysKind kind (Some words) r → ⊥
kind_in kind words (reply.Values vs) other s = other.not_values s.0
kind_in kind words (reply.Many rs) other s = other.not_many s.0
kind_in kind words reply.Done other s = some_is_none words s.1
kind_in kind words (reply.Error c d) other s = other.not_error s.0
kind_in kind words (reply.ErrorAt c d o p i) other s = other.not_error s.0

pub no_kind : (A : Type 0) (kind words : List ℕ) → IsNoKind kind → NoKind A kind (Some words)
no_kind A kind words other = record { none = λ r s. kind_in kind words r other s }

-- kinds that differ in their count of characters, or in the first
kinds_apart : (kind a b : List ℕ) → kind ≡ a → kind ≡ b → length a ≢ length b → ⊥
kinds_apart kind a b e f n = n (ap length (sym e ∙ f))

values_in : {A : Type 0} (kind words : List ℕ) (r : Reply A) → kind ≡ codes "values" → NoGiven A (Some words) → SaysKind kind (Some words) r → ⊥
values_in kind words (reply.Values vs) e none s = none.none vs s.1
values_in kind words (reply.Many rs) e none s = kinds_apart kind (codes "many") (codes "values") s.0 e (λ n. absurd (omega (arith, n)))
values_in kind words reply.Done e none s = some_is_none words s.1
values_in kind words (reply.Error c d) e none s = kinds_apart kind (codes "error") (codes "values") s.0 e (λ n. absurd (omega (arith, n)))
values_in kind words (reply.ErrorAt c d o p i) e none s = kinds_apart kind (codes "error") (codes "values") s.0 e (λ n. absurd (omega (arith, n)))

pub values_none : (A : Type 0) (kind words : List ℕ) → kind ≡ codes "values" → NoGiven A (Some words) → NoKind A kind (Some words)
values_none A kind words e none = record { none = λ r s. values_in kind words r e none s }

many_in : {A : Type 0} (kind words : List ℕ) (r : Reply A) → kind ≡ codes "many" → NoBracketed A words → SaysKind kind (Some words) r → ⊥
many_in kind words (reply.Values vs) e none s = kinds_apart kind (codes "values") (codes "many") s.0 e (λ n. absurd (omega (arith, n)))
many_in kind words (reply.Many rs) e none s = none.none rs s.1
many_in kind words reply.Done e none s = some_is_none words s.1
many_in kind words (reply.Error c d) e none s = kinds_apart kind (codes "error") (codes "many") s.0 e (λ n. absurd (omega (arith, n)))
many_in kind words (reply.ErrorAt c d o p i) e none s = kinds_apart kind (codes "error") (codes "many") s.0 e (λ n. absurd (omega (arith, n)))

pub many_none : (A : Type 0) (kind words : List ℕ) → kind ≡ codes "many" → NoBracketed A words → NoKind A kind (Some words)
many_none A kind words e none = record { none = λ r s. many_in kind words r e none s }

error_kind_in : {A : Type 0} (kind words : List ℕ) (r : Reply A) → kind ≡ codes "error" → NoErrorReply A words → SaysKind kind (Some words) r → ⊥
error_kind_in kind words (reply.Values vs) e none s = kinds_apart kind (codes "values") (codes "error") s.0 e (λ n. absurd (omega (arith, n)))
error_kind_in kind words (reply.Many rs) e none s = kinds_apart kind (codes "many") (codes "error") s.0 e (λ n. absurd (omega (arith, n)))
error_kind_in kind words reply.Done e none s = some_is_none words s.1
error_kind_in kind words (reply.Error c d) e none s = none.none (reply.Error c d) s.1
error_kind_in kind words (reply.ErrorAt c d o p i) e none s = none.none (reply.ErrorAt c d o p i) s.1

pub error_kind_none : (A : Type 0) (kind words : List ℕ) → kind ≡ codes "error" → NoErrorReply A words → NoKind A kind (Some words)
error_kind_none A kind words e none = record { none = λ r s. error_kind_in kind words r e none s }

not_said_by : {A : Type 0} (words : List ℕ) (given : Option (List ℕ)) (r : Reply A) → (SaysBareError words r → ⊥) →
    ((front place : List ℕ) → SaysNamedError front place r → ⊥) → SaysErrorBy words given r → ⊥
not_said_by words None r bare named s = bare s
not_said_by words (Some place) r bare named s = named (first_part (codes " at ") words) place s

pub error_kind_said : {A : Type 0} (kind words : List ℕ) (r : Reply A) → kind ≡ codes "error" → SaysErrorReply words r → SaysKind kind (Some words) r
error_kind_said kind words (reply.Values vs) e s = absurd (not_said_by words (other_parts (codes " at ") words) (reply.Values vs) (λ t. t) (λ f p t. t) s)
error_kind_said kind words (reply.Many rs) e s = absurd (not_said_by words (other_parts (codes " at ") words) (reply.Many rs) (λ t. t) (λ f p t. t) s)
error_kind_said kind words reply.Done e s = absurd (not_said_by words (other_parts (codes " at ") words) reply.Done (λ t. t) (λ f p t. t) s)
error_kind_said kind words (reply.Error c d) e s = (e, s)
error_kind_said kind words (reply.ErrorAt c d o p i) e s = (e, s)

-- errors, with the write that failed or without
pub bare_said : (A : Type 0) (w : List ℕ) (c : ErrorClass) (d : ErrorCode) → other_parts (codes " at ") w ≡ None → SaysError w c d →
    SaysErrorReply {A = A} w (reply.Error c d)
bare_said A w c d e s = subst (λ (v : Option (List ℕ)). SaysErrorBy {A = A} w v (reply.Error c d)) (sym e) s

bare_in_error : {A : Type 0} (w : List ℕ) (r : Reply A) → NoError w → SaysBareError w r → ⊥
bare_in_error w (reply.Values vs) none s = s
bare_in_error w (reply.Many rs) none s = s
bare_in_error w reply.Done none s = s
bare_in_error w (reply.Error c d) none s = none.none c d s
bare_in_error w (reply.ErrorAt c d o p i) none s = s

pub bare_none : (A : Type 0) (w : List ℕ) → other_parts (codes " at ") w ≡ None → NoError w → NoErrorReply A w
bare_none A w e none = record { none = λ r s. bare_in_error w r none (subst (λ (v : Option (List ℕ)). SaysErrorBy w v r) e s) }

pub named_said : {A : Type 0} (w front place : List ℕ) (r : Reply A) → front ≡ first_part (codes " at ") w → other_parts (codes " at ") w ≡ Some place →
    SaysNamedError front place r → SaysErrorReply w r
named_said w front place r f e s = subst (λ (v : Option (List ℕ)). SaysErrorBy w v r) (sym e) (subst (λ (l : List ℕ). SaysNamedError l place r) f s)

pub named_none : (A : Type 0) (w front place : List ℕ) → front ≡ first_part (codes " at ") w → other_parts (codes " at ") w ≡ Some place →
    NoNamedError A front place → NoErrorReply A w
named_none A w front place f e none = record {
  none =
      λ r s. none.none r (subst (λ (l : List ℕ). SaysNamedError l place r) (sym f) (subst (λ (v : Option (List ℕ)). SaysErrorBy w v r) e s));
}

named_in : {A : Type 0} (front place : List ℕ) (r : Reply A) → NoError front ⊎ NoPlace place → SaysNamedError front place r → ⊥
named_in front place (reply.Values vs) none s = s
named_in front place (reply.Many rs) none s = s
named_in front place reply.Done none s = s
named_in front place (reply.Error c d) none s = s
named_in front place (reply.ErrorAt c d o p i) (inl none) s = none.none c d s.0
named_in front place (reply.ErrorAt c d o p i) (inr none) s = none.none o p i s.1

pub named_whole : (A : Type 0) (front place : List ℕ) → HasNo space place → NoNamedError A front place
named_whole A front place whole = record { none = λ r s. named_in front place r (inr (place_whole place whole)) s }

pub named_no_error : (A : Type 0) (front place : List ℕ) → NoError front → NoNamedError A front place
named_no_error A front place none = record { none = λ r s. named_in front place r (inl none) s }

pub named_no_object : (A : Type 0) (front place : List ℕ) → NoObject (before space place) → NoNamedError A front place
named_no_object A front place none = record { none = λ r s. named_in front place r (inr (place_no_object place none)) s }

pub named_no_property : (A : Type 0) (front place : List ℕ) → NoReference (behind space place) → NoNamedError A front place
named_no_property A front place none = record { none = λ r s. named_in front place r (inr (place_no_property place none)) s }

pub no_end : (words rest : List ℕ) → words ≡ 91 ∷ rest → ((front : List ℕ) → rest ≢ front ++ 93 ∷ []) → NoBrackets words
no_end words rest e none = record { none = λ inner f. none inner (ap (drop 1) (sym e ∙ f)) }

-- replies
pub reply_said : {A : Type 0} (words kind : List ℕ) (rest : Option (List ℕ)) (r : Reply A) → kind ≡ first_part (codes " ") words →
    rest ≡ other_parts (codes " ") words → SaysKind kind rest r → SaysReply words r
reply_said words kind rest r e f s = subst (λ (k : List ℕ). SaysKind k (other_parts (codes " ") words) r) e
    (subst (λ (w : Option (List ℕ)). SaysKind kind w r) f s)

pub reply_unsaid : (A : Type 0) (words kind : List ℕ) (rest : Option (List ℕ)) → kind ≡ first_part (codes " ") words → rest ≡ other_parts (codes " ") words →
    NoKind A kind rest → NoReply A words
reply_unsaid A words kind rest e f none =
    record {
      none = λ r s. none.none r (subst (λ (k : List ℕ). SaysKind k rest r) (sym e)
          (subst (λ (w : Option (List ℕ)). SaysKind (first_part (codes " ") words) w r) (sym f) s));
    }

-- nothing behind a space says no reply
empty_error : {A : Type 0} (r : Reply A) (given : Option (List ℕ)) → given ≡ None → SaysErrorBy [] given r → ⊥
empty_error r (Some w) e s = some_is_none w e
empty_error (reply.Values vs) None e s = s
empty_error (reply.Many rs) None e s = s
empty_error reply.Done None e s = s
empty_error (reply.Error c d) None e s = absurd (omega (arith, s.parted))
empty_error (reply.ErrorAt c d o p i) None e s = s

nothing_behind : other_parts (codes " at ") [] ≡ None
unfolding other_parts
nothing_behind = refl

empty_in : {A : Type 0} (kind : List ℕ) (r : Reply A) → SaysKind kind (Some []) r → ⊥
empty_in kind (reply.Values vs) s = none_of_nothing [] vs refl s.1
empty_in kind (reply.Many rs) s = absurd (omega (arith, ap length s.1.bracketed))
empty_in kind reply.Done s = some_is_none [] s.1
empty_in kind (reply.Error c d) s = empty_error (reply.Error c d) (other_parts (codes " at ") []) nothing_behind s.1
empty_in kind (reply.ErrorAt c d o p i) s = empty_error (reply.ErrorAt c d o p i) (other_parts (codes " at ") []) nothing_behind s.1

empty_kind : (A : Type 0) (kind w : List ℕ) → w ≡ [] → NoKind A kind (Some w)
empty_kind A kind w e = record { none = λ r s. empty_in kind r (subst (λ (v : List ℕ). SaysKind kind (Some v) r) e s) }

pub reply_empty : (A : Type 0) (words kind w : List ℕ) (rest : Option (List ℕ)) → kind ≡ first_part (codes " ") words → rest ≡ other_parts (codes " ") words →
    rest ≡ Some w → w ≡ [] → NoReply A words
reply_empty A words kind w rest e f g h = reply_unsaid A words kind (Some w) e (sym g ∙ f) (empty_kind A kind w h)

pub ruleset error_laws = (error_whole, error_no_class, error_no_code)

pub ruleset refusal_laws = (refusal_unmarked, refusal_no_error, refusal_no_property, refusal_said)

pub ruleset result_laws = (result_refused, result_given, result_no_refusal, result_no_values)

pub ruleset results_laws = (results_no_object, results_none)

pub ruleset list_laws = (each_begins, each_goes_on, each_ends, each_stops, objects_begin, objects_go_on, objects_end, objects_stop, shortens)

pub ruleset many_laws = (bracketed, bracketed_none, unbracketed)

pub ruleset bare_laws = (no_bare)

pub ruleset at_laws = (bare_said, bare_none, named_said, named_none)

pub ruleset named_laws = (named_whole, named_no_error, named_no_object, named_no_property)

pub ruleset read_laws = (read_no_values, read_no_property)

pub ruleset reply_laws = (reply_said, reply_unsaid, reply_empty)

pub ruleset bracket_laws = (same_inner)

pub ruleset kind_laws = (no_kind, values_none, many_none, error_kind_said, error_kind_none)
