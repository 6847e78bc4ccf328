-- Entries that are counted, some behind others.
use Rattle.std.proofs.Common.{◌≡◌, ◌∙◌, ap, arith, refl, ℕ, ◌+◌, List, [], ◌∷◌, ◌++◌}
use Rattle.runner.specs.world_log.Growing.{WorldHistory}
use Rattle.site_history.specs.Counting.{counted_on, counts_of, none_counted}
use Rattle.site_history.specs.declared.counting.Counts.{Counts}

abbrev make : (issued executed answered ended : ℕ) → Counts
make issued executed answered ended =
    record { issued = issued; executed = executed; answered = answered; ended = ended }

-- counts are the same where each is
same_counts : (i j x y a b e f : ℕ) → i ≡ j → x ≡ y → a ≡ b → e ≡ f → make i x a e ≡ make j y b f
same_counts i j x y a b e f p q r s =
    ap (λ (n : ℕ). make n x a e) p ∙ ap (λ (n : ℕ). make j n a e) q ∙ ap (λ (n : ℕ). make j y n e) r
    ∙ ap (λ (n : ℕ). make j y b n) s

nothing_more : (n : ℕ) → n + 0 ≡ n
nothing_more n = omega arith

pub counted_none : (A : Type 0) (c : Counts) → counted_on {A = A} c [] ≡ c
counted_none A c = same_counts _ _ _ _ _ _ _ _ (nothing_more c.issued) (nothing_more c.executed)
    (nothing_more c.answered) (nothing_more c.ended)

plus_both : (n a b both : ℕ) → both ≡ a + b → n + a + b ≡ n + both
plus_both n a b both e = omega (arith, e)

module _ {A : Type 0} where
  issued_both : (g h : WorldHistory A) → (counts_of (g ++ h)).issued ≡ (counts_of g).issued + (counts_of h).issued
  issued_both [] h = omega arith
  issued_both (e ∷ g) h = let rest = issued_both g h in omega (arith, rest)

  executed_both : (g h : WorldHistory A) →
      (counts_of (g ++ h)).executed ≡ (counts_of g).executed + (counts_of h).executed
  executed_both [] h = omega arith
  executed_both (e ∷ g) h = let rest = executed_both g h in omega (arith, rest)

  answered_both : (g h : WorldHistory A) →
      (counts_of (g ++ h)).answered ≡ (counts_of g).answered + (counts_of h).answered
  answered_both [] h = omega arith
  answered_both (e ∷ g) h = let rest = answered_both g h in omega (arith, rest)

  ended_both : (g h : WorldHistory A) → (counts_of (g ++ h)).ended ≡ (counts_of g).ended + (counts_of h).ended
  ended_both [] h = omega arith
  ended_both (e ∷ g) h = let rest = ended_both g h in omega (arith, rest)

  pub counted_both : (c : Counts) (g h : WorldHistory A) → counted_on (counted_on c g) h ≡ counted_on c (g ++ h)
  counted_both c g h = same_counts _ _ _ _ _ _ _ _ (plus_both c.issued _ _ _ (issued_both g h))
      (plus_both c.executed _ _ _ (executed_both g h)) (plus_both c.answered _ _ _ (answered_both g h))
      (plus_both c.ended _ _ _ (ended_both g h))

  pub counted_all : (h : WorldHistory A) → counted_on none_counted h ≡ counts_of h
  counted_all h = same_counts _ _ _ _ _ _ _ _ (from_none _) (from_none _) (from_none _) (from_none _)
    where
      from_none : (n : ℕ) → 0 + n ≡ n
      from_none n = omega arith
