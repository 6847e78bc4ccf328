-- What is put out over a port behind the rest.
use Rattle.std.proofs.Common.{◌≡◌, ◌∙◌, refl, sym, ap, ℕ, List, [], ◌∷◌, ◌++◌, length, None}
use Rattle.std.proofs.Math.Seq.{drop-append_seam, drop-length}
use Rattle.std.proofs.lemmas.List.{append_assoc, append-nil}
use Rattle.std.specs.Prelude.{drop}
use Rattle.link.specs.Carrying.{nothing}
use Rattle.link.specs.Step.{PortSent, PutsOver, over_port, put_out, sent_of, step_of}
use Rattle.link.specs.declared.step.Sent.{Sent}

module _ {A : Type 0} (port : ℕ) where
  -- what goes out over a port is what went out
  sent_over : (ss : List (Sent A)) → sent_of (over_port port ss) ≡ ss
  sent_over [] = refl
  sent_over (s ∷ ss) = ap (λ xs. s ∷ xs) (sent_over ss)

  -- .. and what was put out is just what stands behind the rest
  pub put_behind : (old new : List (PortSent A)) (ss : List (Sent A)) → new ≡ old ++ over_port port ss →
      put_out old new ≡ ss
  put_behind old new ss e =
      ap (λ xs. sent_of (drop (length old) xs)) e
      ∙ ap (λ xs. sent_of xs) (drop-append_seam old (over_port port ss))
      ∙ sent_over ss

  -- one more after others
  pub over_more : (xs ys : List (Sent A)) → over_port port (xs ++ ys) ≡ over_port port xs ++ over_port port ys
  over_more [] ys = refl
  over_more (x ∷ xs) ys = ap (λ zs. record { port = port; sent = x } ∷ zs) (over_more xs ys)

  pub over_these : (old new : List (PortSent A)) (ss : List (Sent A)) → new ≡ old ++ over_port port ss →
      PutsOver port old new
  over_these old new ss e = record { more = ss; behind = e }

  pub one_over : (old new : List (PortSent A)) (s : Sent A) → new ≡ old ++ record { port = port; sent = s } ∷ [] →
      PutsOver port old new
  one_over old new s e = record { more = s ∷ []; behind = e }

  -- .. one after another
  pub one_more : (old middle new : List (PortSent A)) (s : Sent A) → PutsOver port old middle →
      new ≡ middle ++ record { port = port; sent = s } ∷ [] → PutsOver port old new
  one_more old middle new s before e = record {
    more = before.more ++ s ∷ [];
    behind = e
        ∙ ap (λ xs. xs ++ record { port = port; sent = s } ∷ []) before.behind
        ∙ append_assoc old (over_port port before.more) (record { port = port; sent = s } ∷ [])
        ∙ ap (λ xs. old ++ xs) (sym (over_more before.more (s ∷ [])));
  }

  -- nothing is put out
  pub none_over : (out : List (PortSent A)) → PutsOver port out out
  none_over out = record { more = []; behind = sym (append-nil out) }

pub none_out : {A : Type 0} (out : List (PortSent A)) → put_out out out ≡ []
none_out out = ap (λ xs. sent_of xs) (drop-length out)

pub none_comes : {A : Type 0} (out : List (PortSent A)) → step_of None out out ≡ nothing
none_comes out = ap (λ ss. record { up = None; out = ss }) (none_out out)
