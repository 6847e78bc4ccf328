-- Spaces and pairs of digits, one after another.
use Rattle.std.proofs.Common.{true, ◌≡◌, ℕ, ◌<◌, zero, suc, List, [], ◌∷◌, ◌++◌, replicate, length, take, drop, slice_index, Ok, Err, refl, sym, subst, ap, ◌∙◌}
use Rattle.std.proofs.Common.{arith}
use Rattle.std.proofs.lemmas.List.{length-append, append-nil, append_assoc}
use Rattle.std.proofs.lemmas.List.Elements.{All-head}
use Rattle.std.specs.List.{AllPass}
use Rattle.hex.specs.Hex.{decode_of, decode_sized, is_hex_digit}
use Rattle.hex.specs.declared.error.FromHexError.{FromHexError}
use Rattle.hex.proofs.HexLemmas.{decode_of-ok, decode_of-same, decode_sized-twice}
use Rattle.words.specs.HexText.{IsPair, TakesPair, TakesNoPair, HasSpacesBefore, BeginsWithoutSpace, SpellsHex, OnlyHex, NoHex}

one_more : (spaces : ℕ) (after : List ℕ) → replicate spaces 32 ++ (32 ∷ after) ≡ replicate (suc spaces) 32 ++ after
one_more zero after = refl
one_more (suc n) after = ap (λ (x : List ℕ). 32 ∷ x) (one_more n after)

pub another_space : (text rest after : List ℕ) → HasSpacesBefore text rest → rest ≡ 32 ∷ after → HasSpacesBefore text after
another_space text rest after h e = record {
  spaces = suc h.spaces;
  parts =
      h.parts ∙ ap (λ (x : List ℕ). replicate h.spaces 32 ++ x) e ∙ one_more h.spaces after;
}

pub ruleset space_laws = (another_space)

-- ---- a text spells one list of octets at most

pair_length : (pair : List ℕ) (o : ℕ) → IsPair pair o → length pair ≡ 2
pair_length pair o h = (decode_of-ok pair (o ∷ []) h).2

pair_digits : (pair : List ℕ) (o : ℕ) → IsPair pair o → AllPass is_hex_digit pair
pair_digits pair o h = (decode_of-ok pair (o ∷ []) h).1

-- a pair at the front of a text is its first two octets
pair_parts : (text pair after : List ℕ) → length pair ≡ 2 → text ≡ pair ++ after → (take 2 text ≡ pair) × (drop 2 text ≡ after)
pair_parts text (a ∷ b ∷ []) after two e = rw e (refl, refl)
pair_parts text (a ∷ b ∷ c ∷ pair) after two e = absurd (omega (arith, two))
pair_parts text (a ∷ []) after two e = absurd (omega (arith, two))
pair_parts text [] after two e = absurd (omega (arith, two))

-- two pairs at the front of a text are one, and what follows is the same
one_pair : (text p q a b : List ℕ) (m n : ℕ) → IsPair p m → IsPair q n → text ≡ p ++ a → text ≡ q ++ b → (m ≡ n) × (a ≡ b)
one_pair text p q a b m n hp hq ep eq =
    let s = pair_parts text p a (pair_length p m hp) ep in
    let t = pair_parts text q b (pair_length q n hq) eq in
    let same : p ≡ q = sym s.0 ∙ t.0 in
    let octets : m ∷ [] ≡ n ∷ [] = decode_of-same q (m ∷ []) (n ∷ []) (subst (λ (x : List ℕ). decode_of x ≡ Ok (m ∷ [])) same hp) hq in
    (ap (λ (x : List ℕ). slice_index x 0) octets, sym s.1 ∙ t.1)

pub short_no_pair : (text : List ℕ) → length text < 2 → TakesNoPair text
short_no_pair text lt = record {
  none = λ o after h. let e : length text ≡ length (h.pair ++ after) = ap length h.parts in
      omega (arith, lt, e, h.two, length-append h.pair after);
}

pub undecoded : (text pair after : List ℕ) (e : FromHexError) → text ≡ pair ++ after → length pair ≡ 2 → decode_sized pair 1 ≡ Err e → TakesNoPair text
undecoded text pair after e parts two refused = record { none = λ o rest h. no o rest h }
  where
    no : (o : ℕ) (rest : List ℕ) → TakesPair text o rest → ⊥
    no o rest h =
        let s = pair_parts text pair after two parts in
        let t = pair_parts text h.pair rest h.two h.parts in
        let same : h.pair ≡ pair = sym t.0 ∙ s.0 in
        let read : decode_of pair ≡ Ok (o ∷ []) = subst (λ (x : List ℕ). decode_of x ≡ Ok (o ∷ [])) same h.spelled in
        let not : decode_of pair ≡ Err e = sym (decode_sized-twice pair 1 two) ∙ refused in
        cc

pub ruleset pair_laws = (short_no_pair, undecoded)

-- ---- spaces

pair_no_space : (pair tail rest : List ℕ) (o : ℕ) → IsPair pair o → pair ++ tail ≡ 32 ∷ rest → ⊥
pair_no_space [] tail rest o h e = let two = pair_length [] o h in absurd (omega (arith, two))
pair_no_space (c ∷ cs) tail rest o h e =
    let digit : is_hex_digit c ≡ true = All-head (λ (x : ℕ). is_hex_digit x ≡ true) c cs (pair_digits (c ∷ cs) o h) in
    let space : c ≡ 32 = ap (λ (x : List ℕ). slice_index x 0) e in
    let not : is_hex_digit 32 ≡ true = subst (λ (x : ℕ). is_hex_digit x ≡ true) space digit in
    cc

same_behind_spaces : (m n : ℕ) (a b : List ℕ) → replicate m 32 ++ a ≡ replicate n 32 ++ b → BeginsWithoutSpace a → BeginsWithoutSpace b → a ≡ b
same_behind_spaces zero zero a b e h k = e
same_behind_spaces zero (suc n) a b e h k = absurd (h.none (replicate n 32 ++ b) e)
same_behind_spaces (suc m) zero a b e h k = absurd (k.none (replicate m 32 ++ a) (sym e))
same_behind_spaces (suc m) (suc n) a b e h k = same_behind_spaces m n a b (ap (drop 1) e) h k

spelled_begins : (text : List ℕ) (o : ℕ) (os : List ℕ) → SpellsHex text (o ∷ os) → BeginsWithoutSpace text
spelled_begins text o [] h = record { none = λ after e. pair_no_space text [] after o h (append-nil text ∙ e) }
spelled_begins text o (p ∷ os) h = record { none = λ after e. pair_no_space h.pair (replicate h.spaces 32 ++ h.rest) after o h.first (sym h.parts ∙ e) }

spelled_some : (text : List ℕ) (o : ℕ) (os : List ℕ) → SpellsHex text (o ∷ os) → text ≡ [] → ⊥
spelled_some text o [] h e = let two = pair_length text o h in let none : length text ≡ 0 = ap length e in omega (arith, two, none)
spelled_some text o (p ∷ os) h e =
    let two = pair_length h.pair o h.first in
    let none : length (h.pair ++ (replicate h.spaces 32 ++ h.rest)) ≡ 0 = ap length (sym h.parts ∙ e) in
    omega (arith, two, none, length-append h.pair (replicate h.spaces 32 ++ h.rest))

-- ---- the octets that are left to be read

-- what the rest spells is all that the text spells, less what was read of it
pub record Left (text read rest : List ℕ) : Type 0 where
  pub left : (all : List ℕ) → SpellsHex text all → (others : List ℕ) × (all ≡ read ++ others) × SpellsHex rest others

pub all_left : (text : List ℕ) → Left text [] text
all_left text = record { left = λ all h. (all, refl, h) }

-- the others behind a pair
others_behind : (rest : List ℕ) (o : ℕ) (after next others : List ℕ) → TakesPair rest o after → (after ≡ [] → ⊥) → HasSpacesBefore after next →
    BeginsWithoutSpace next → SpellsHex rest others → (more : List ℕ) × (others ≡ o ∷ more) × SpellsHex next more
others_behind rest o after next [] t some spaces begins h = absurd h
others_behind rest o after next (p ∷ []) t some spaces begins h =
    let same = one_pair rest t.pair rest after [] o p t.spelled h t.parts (sym (append-nil rest)) in
    absurd (some same.1)
others_behind rest o after next (p ∷ q ∷ more) t some spaces begins h =
    let same = one_pair rest t.pair h.pair after (replicate h.spaces 32 ++ h.rest) o p t.spelled h.first t.parts h.parts in
    let behind : next ≡ h.rest = same_behind_spaces spaces.spaces h.spaces next h.rest (sym spaces.parts ∙ same.1) begins
    (spelled_begins h.rest q more h.others) in
    (q ∷ more, ap (λ (x : ℕ). x ∷ q ∷ more) (sym same.0), subst (λ (x : List ℕ). SpellsHex x (q ∷ more)) (sym behind) h.others)

pub one_less : (text read rest : List ℕ) (o : ℕ) (after next : List ℕ) → Left text read rest → TakesPair rest o after → (after ≡ [] → ⊥) →
    HasSpacesBefore after next → BeginsWithoutSpace next → Left text (read ++ o ∷ []) next
one_less text read rest o after next l t some spaces begins = record { left = λ all h. less all (l.left all h) }
  where
    less : (all : List ℕ) → (others : List ℕ) × (all ≡ read ++ others) × SpellsHex rest others → (more : List ℕ) × (all ≡ (read ++ o ∷ []) ++ more) ×
        SpellsHex next more
    less all f =
        let g = others_behind rest o after next f.0 t some spaces begins f.2 in
        (g.0, f.1 ∙ ap (λ (x : List ℕ). read ++ x) g.1 ∙ sym (append_assoc read (o ∷ []) g.0), g.2)

-- what spells the rest spells the text behind what was read
pub spelled_by_one : (text read rest : List ℕ) (o : ℕ) (after next : List ℕ) → ((os : List ℕ) → SpellsHex rest os → SpellsHex text (read ++ os)) →
    TakesPair rest o after → HasSpacesBefore after next → (os : List ℕ) → SpellsHex next os → SpellsHex text ((read ++ o ∷ []) ++ os)
spelled_by_one text read rest o after next so_far t spaces [] h = absurd h
spelled_by_one text read rest o after next so_far t spaces (p ∷ os) h =
    let pairs : SpellsHex rest (o ∷ p ∷ os) =
    record {
      pair = t.pair;
      spaces = spaces.spaces;
      rest = next;
      first = t.spelled;
      parts =
          t.parts ∙ ap (λ (x : List ℕ). t.pair ++ x) spaces.parts;
      others = h;
    } in
    subst (λ (x : List ℕ). SpellsHex text x) (sym (append_assoc read (o ∷ []) (p ∷ os))) (so_far (o ∷ p ∷ os) pairs)

pub last_pair : (text read rest : List ℕ) (o : ℕ) (after : List ℕ) → Left text read rest → TakesPair rest o after → after ≡ [] → OnlyHex text (read ++ o ∷ [])
last_pair text read rest o after l t end = record { only = λ all h. last all (l.left all h) }
  where
    alone : (others : List ℕ) → SpellsHex rest others → others ≡ o ∷ []
    alone [] h = absurd h
    alone (p ∷ []) h =
        let same = one_pair rest t.pair rest after [] o p t.spelled h t.parts (sym (append-nil rest)) in
        ap (λ (x : ℕ). x ∷ []) (sym same.0)
    alone (p ∷ q ∷ more) h =
        let same = one_pair rest t.pair h.pair after (replicate h.spaces 32 ++ h.rest) o p t.spelled h.first t.parts h.parts in
        let none : [] ≡ replicate h.spaces 32 ++ h.rest = sym end ∙ same.1 in
        absurd (no_rest h.spaces h.rest q more h.others none)
      where
        no_rest : (spaces : ℕ) (rest : List ℕ) (q : ℕ) (more : List ℕ) → SpellsHex rest (q ∷ more) → [] ≡ replicate spaces 32 ++ rest → ⊥
        no_rest zero rest q more h e = spelled_some rest q more h (sym e)
        no_rest (suc n) rest q more h e = cc

    last : (all : List ℕ) → (others : List ℕ) × (all ≡ read ++ others) × SpellsHex rest others → all ≡ read ++ o ∷ []
    last all f = f.1 ∙ ap (λ (x : List ℕ). read ++ x) (alone f.0 f.2)

pub nothing_left : (text read rest : List ℕ) → Left text read rest → TakesNoPair rest → NoHex text
nothing_left text read rest l unpaired = record { none = λ all h. refused (l.left all h) }
  where
    none_spelled : (others : List ℕ) → SpellsHex rest others → ⊥
    none_spelled [] h = h
    none_spelled (p ∷ []) h = unpaired.none p [] (record { pair = rest; spelled = h; two = pair_length rest p h; parts = sym (append-nil rest) })
    none_spelled (p ∷ q ∷ more) h = unpaired.none p (replicate h.spaces 32 ++ h.rest)
        (record { pair = h.pair; spelled = h.first; two = pair_length h.pair p h.first; parts = h.parts })

    refused : {all : List ℕ} → (others : List ℕ) × (all ≡ read ++ others) × SpellsHex rest others → ⊥
    refused f = none_spelled f.0 f.2

pub ruleset text_laws = (all_left, nothing_left)
