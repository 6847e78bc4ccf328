-- What was issued last is looked at first.
use Rattle.std.proofs.Common.{arith, ◌≡◌, ◌≤◌, ◌∙◌, ◌+◌, ◌-◌, ap, sym, refl, ℕ, List, [], ◌∷◌, ◌++◌, Option, None, Some, get_or, length, take}
use Rattle.faulty_flow.specs.simulator.world_log.Growing.{WorldHistory}
use Rattle.history.specs.declared.Entry.{Entry}
use Rattle.npdu.specs.declared.mac.Station as npdu
use Rattle.primitives.specs.declared.plain_data.Reply.{Reply}
use Rattle.primitives.specs.declared.plain_data.Request.{Request}
use Rattle.site_history.specs.Printed.{or_else, request_in, request_of}
use Rattle.std.proofs.lemmas.List.{take_all, take_more}

-- a list by its last element
by_last : {X : Type 0} (xs : List X) (d : X) → 1 ≤ length xs →
    xs ≡ take (length xs - 1) xs ++ get_or xs (length xs - 1) d ∷ []
by_last xs d some =
    sym (take_all (length xs - 1 + 1) xs (omega (arith, some))) ∙ take_more xs (length xs - 1) d (omega (arith, some))

or_else_joins : {X : Type 0} (x y z : Option X) → or_else (or_else x y) z ≡ or_else x (or_else y z)
or_else_joins None y z = refl
or_else_joins (Some x) y z = refl

module _ {A : Type 0} where
  -- the request of a history is that of its last entry, or else that of those before
  joined : (n : ℕ) (es : WorldHistory A) (e : Entry npdu.Station (Request A) (Reply A)) →
      request_of n (es ++ e ∷ []) ≡ or_else (request_in n e) (request_of n es)
  joined n [] e = nothing_else (request_in n e)
    where
      nothing_else : (x : Option (Request A)) → or_else None x ≡ or_else x None
      nothing_else None = refl
      nothing_else (Some x) = refl
  joined n (d ∷ es) e =
      ap (λ (x : Option (Request A)). or_else x (request_in n d)) (joined n es e)
      ∙ or_else_joins (request_in n e) (request_of n es) (request_in n d)

  pub last_first : (n : ℕ) (es : WorldHistory A) (e : Entry npdu.Station (Request A) (Reply A)) → 1 ≤ length es →
      e ≡ get_or es (length es - 1) e → request_of n es ≡ or_else (request_in n e) (request_of n (take (length es - 1) es))
  last_first n es e some is =
      ap (λ (x : WorldHistory A). request_of n x) (by_last es e some)
      ∙ joined n (take (length es - 1) es) (get_or es (length es - 1) e)
      ∙ ap (λ (x : Entry npdu.Station (Request A) (Reply A)).
      or_else (request_in n x) (request_of n (take (length es - 1) es))) (sym is)
