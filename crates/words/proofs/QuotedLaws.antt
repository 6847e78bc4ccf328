-- Texts in quotes.
use Rattle.std.proofs.Common.{◌≡◌, ◌∙◌, refl, sym, ap, inl, inr, subst, ℕ, ◌+◌, ◌==◌, Bool, true, false, List, [], ◌∷◌, ◌++◌, length, Option, Some, None}
use Rattle.std.proofs.Common.{Result, Ok, Err, arith}
use Rattle.std.proofs.lemmas.List.{append_assoc, append-nil}
use Rattle.std.specs.Prelude.{◌⊎◌, IfErr, IfOk}
use Rattle.std.specs.Str.{IsUtf8}
use Rattle.primitives.specs.declared.plain_data.Request.{Request}
use Rattle.primitives.specs.Sound.{IsSoundRequest}
use Rattle.words.specs.declared.quoted.Place.TheVariants.{Outside}
use Rattle.words.specs.declared.unread.Unread.{Unread}
use Rattle.words.specs.declared.unread.Unread.TheVariants as unread
use Rattle.words.specs.NoRequests.{HasSingleValues, NoRequest, SaysSeveral, SaysUnspelled}
use Rattle.words.specs.Quoted.{NoQuoted, SaysQuoted, SaysQuotedUnfit, unquoted, with_all}
use Rattle.words.specs.Requests.{SaysRequest}
use Rattle.words.specs.Says.{HasNo}

-- where a text is spelled wrong, nothing behind it mends that
pub none_after : (cs : List ℕ) → with_all None cs ≡ None
none_after [] = refl
none_after (c ∷ cs) = none_after cs

pub ruleset scan_laws = (none_after)

skips : (c : ℕ) (cs : List ℕ) → (c == 34) ≡ false → HasNo 34 (c ∷ cs) → HasNo 34 cs
skips c cs e none = let n = rw e at none in omega (arith, n)

begins_with : (c : ℕ) (cs : List ℕ) → (c == 34) ≡ true → HasNo 34 (c ∷ cs) → ⊥
begins_with c cs e none = let n = rw e at none in absurd (omega (arith, n))

stays_on : (said : List ℕ) (c : ℕ) (cs : List ℕ) (b : Bool) → (c == 34) ≡ b → HasNo 34 (c ∷ cs) →
    ((s : List ℕ) → HasNo 34 cs → with_all (Some (s, Outside)) cs ≡ Some (s ++ cs)) →
    with_all (Some (said, Outside)) (c ∷ cs) ≡ Some (said ++ c ∷ cs)
stays_on said c cs true e none more = absurd (begins_with c cs e none)
stays_on said c cs false e none more =
    rw e (more (said ++ c ∷ []) (skips c cs e none) ∙ ap Some (append_assoc said (c ∷ []) cs))

-- words without a quote stay as they are
stays : (said cs : List ℕ) → HasNo 34 cs → with_all (Some (said, Outside)) cs ≡ Some (said ++ cs)
stays said [] none = ap Some (sym (append-nil said))
stays said (c ∷ cs) none = stays_on said c cs (c == 34) refl none (λ s. stays s cs)

pub unquoted_stays : (words : List ℕ) → HasNo 34 words → unquoted words ≡ Some words
unquoted_stays words none = stays [] words none

pub quoted_read : {A : Type 0} (words plain : List ℕ) (r : Result (Request A) Unread) → unquoted words ≡ Some plain →
    IsUtf8 plain → IfOk r (SaysRequest plain) → IfOk r (SaysQuoted words)
quoted_read words plain (Ok q) e u s = record { plain = plain; unquotes = e; readable = u; said = s }
quoted_read words plain (Err x) e u s = tt

some_is : (a b : List ℕ) → Some a ≡ Some b → a ≡ b
some_is a b e = cc

one_plain : (words a b : List ℕ) → unquoted words ≡ Some a → unquoted words ≡ Some b → b ≡ a
one_plain words a b e f = some_is b a (sym f ∙ e)

pub no_quoted : (A : Type 0) (words plain : List ℕ) → unquoted words ≡ Some plain → NoRequest A plain → NoQuoted A words
no_quoted A words plain e none = record {
  none = λ q s. none.none q (subst (λ (w : List ℕ). SaysRequest w q) (one_plain words plain s.plain e s.unquotes) s.said);
}

refused_by : {A : Type 0} (words plain : List ℕ) (x : Unread) → unquoted words ≡ Some plain → IsUtf8 plain →
    (x ≡ unread.Memory) ⊎ NoRequest A plain ⊎ ((x ≡ unread.Value) × SaysSeveral A plain)
    ⊎ ((x ≡ unread.Sound) × SaysUnspelled A plain) →
    (x ≡ unread.Memory) ⊎ NoQuoted A words ⊎ SaysQuotedUnfit A words
refused_by words plain x e u (inl memory) = inl memory
refused_by {A} words plain x e u (inr (inl none)) = inr (inl (no_quoted A words plain e none))
refused_by words plain x e u (inr (inr (inl several))) = inr (inr (record {
  request = several.1.request;
  said = record { plain = plain; unquotes = e; readable = u; said = several.1.said };
  unfit = inl several.1.several;
}))
refused_by words plain x e u (inr (inr (inr unspelled))) = inr (inr (record {
  request = unspelled.1.request;
  said = record { plain = plain; unquotes = e; readable = u; said = unspelled.1.said };
  unfit = inr unspelled.1.unsound;
}))

pub quoted_refused : {A : Type 0} (words plain : List ℕ) (r : Result (Request A) Unread) → unquoted words ≡ Some plain →
    IsUtf8 plain → IfErr r (λ x. (x ≡ unread.Memory) ⊎ NoRequest A plain ⊎ ((x ≡ unread.Value) × SaysSeveral A plain)
    ⊎ ((x ≡ unread.Sound) × SaysUnspelled A plain)) →
    IfErr r (λ x. (x ≡ unread.Memory) ⊎ NoQuoted A words ⊎ SaysQuotedUnfit A words)
quoted_refused words plain (Ok q) e u s = tt
quoted_refused words plain (Err x) e u s = refused_by words plain x e u s

none_unquoted : (words plain : List ℕ) (found : Option (List ℕ)) → found ≡ None → found ≡ Some plain → ⊥
none_unquoted words plain None e f = cc
none_unquoted words plain (Some x) e f = cc

-- what doesn't end, or has another escape, is no request
pub no_unquoted : (A : Type 0) (words : List ℕ) → unquoted words ≡ None → NoQuoted A words
no_unquoted A words e = record { none = λ q s. none_unquoted words s.plain (unquoted words) e s.unquotes }

pub no_readable : (A : Type 0) (words plain : List ℕ) → unquoted words ≡ Some plain → (IsUtf8 plain → ⊥) → NoQuoted A words
no_readable A words plain e none = record {
  none = λ q s. none (subst (λ (w : List ℕ). IsUtf8 w) (one_plain words plain s.plain e s.unquotes) s.readable);
}

pub ruleset quoted_laws = (unquoted_stays, quoted_read, quoted_refused, no_unquoted, no_readable)
