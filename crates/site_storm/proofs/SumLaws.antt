-- What is counted of one part and of another is counted of both.
use Rattle.std.proofs.Common.{◌≡◌, ◌∙◌, ap, arith, ℕ, ◌+◌, List, [], ◌∷◌, ◌++◌}
use Rattle.apdu.specs.declared.pdu_type.PduType.{PduType}
use Rattle.apdu.specs.declared.pdu_type.PduType.TheVariants.{ConfirmedRequest, UnconfirmedRequest, SimpleAck}
use Rattle.apdu.specs.declared.pdu_type.PduType.TheVariants.{ComplexAck, SegmentAck, Error, Reject, Abort}
use Rattle.site_storm.specs.Counting.{count, count_said, messages_in, messages_with, outcomes_in, outcomes_with}
use Rattle.site_storm.specs.declared.counts.Kind.{Kind}
use Rattle.site_storm.specs.declared.counts.Kind.TheVariants as kind
use Rattle.site_storm.specs.declared.counts.MessageCounts.{MessageCounts}
use Rattle.site_storm.specs.declared.counts.OutcomeCounts.{OutcomeCounts}
use Rattle.storm.specs.world_log.Growing.{WorldHistory}
use Rattle.storm.specs.world_log.declared.saying.SaidMessage.{SaidMessage}

abbrev outcomes : (i a t b r x s : ℕ) → OutcomeCounts
outcomes i a t b r x s = record {
  issues = i;
  answered = a;
  timed_out = t;
  aborted = b;
  rejected = r;
  executed = x;
  restarts = s;
}

-- counts are the same where each is
same_outcomes : (i0 i1 a0 a1 t0 t1 b0 b1 r0 r1 x0 x1 s0 s1 : ℕ) → i0 ≡ i1 → a0 ≡ a1 → t0 ≡ t1 → b0 ≡ b1 → r0 ≡ r1 →
    x0 ≡ x1 → s0 ≡ s1 → outcomes i0 a0 t0 b0 r0 x0 s0 ≡ outcomes i1 a1 t1 b1 r1 x1 s1
same_outcomes i0 i1 a0 a1 t0 t1 b0 b1 r0 r1 x0 x1 s0 s1 i a t b r x s =
    ap (λ (n : ℕ). outcomes n a0 t0 b0 r0 x0 s0) i ∙ ap (λ (n : ℕ). outcomes i1 n t0 b0 r0 x0 s0) a
    ∙ ap (λ (n : ℕ). outcomes i1 a1 n b0 r0 x0 s0) t ∙ ap (λ (n : ℕ). outcomes i1 a1 t1 n r0 x0 s0) b
    ∙ ap (λ (n : ℕ). outcomes i1 a1 t1 b1 n x0 s0) r ∙ ap (λ (n : ℕ). outcomes i1 a1 t1 b1 r1 n s0) x
    ∙ ap (λ (n : ℕ). outcomes i1 a1 t1 b1 r1 x1 n) s

abbrev messages : (c u s x g e r a : ℕ) → MessageCounts
messages c u s x g e r a = record {
  confirmed = c;
  unconfirmed = u;
  simple_ack = s;
  complex_ack = x;
  segment_ack = g;
  error = e;
  reject = r;
  abort = a;
}

same_messages : (c0 c1 u0 u1 s0 s1 x0 x1 g0 g1 e0 e1 r0 r1 a0 a1 : ℕ) → c0 ≡ c1 → u0 ≡ u1 → s0 ≡ s1 → x0 ≡ x1 →
    g0 ≡ g1 → e0 ≡ e1 → r0 ≡ r1 → a0 ≡ a1 → messages c0 u0 s0 x0 g0 e0 r0 a0 ≡ messages c1 u1 s1 x1 g1 e1 r1 a1
same_messages c0 c1 u0 u1 s0 s1 x0 x1 g0 g1 e0 e1 r0 r1 a0 a1 c u s x g e r a =
    ap (λ (n : ℕ). messages n u0 s0 x0 g0 e0 r0 a0) c ∙ ap (λ (n : ℕ). messages c1 n s0 x0 g0 e0 r0 a0) u
    ∙ ap (λ (n : ℕ). messages c1 u1 n x0 g0 e0 r0 a0) s ∙ ap (λ (n : ℕ). messages c1 u1 s1 n g0 e0 r0 a0) x
    ∙ ap (λ (n : ℕ). messages c1 u1 s1 x1 n e0 r0 a0) g ∙ ap (λ (n : ℕ). messages c1 u1 s1 x1 g1 n r0 a0) e
    ∙ ap (λ (n : ℕ). messages c1 u1 s1 x1 g1 e1 n a0) r ∙ ap (λ (n : ℕ). messages c1 u1 s1 x1 g1 e1 r1 n) a

module _ {A : Type 0} where
  count_both : (k : Kind) (g h : WorldHistory A) → count k (g ++ h) ≡ count k g + count k h
  count_both k [] h = omega arith
  count_both k (e ∷ g) h = let rest = count_both k g h in omega (arith, rest)

  pub outcomes_both : (g h : WorldHistory A) → outcomes_in (g ++ h) ≡ outcomes_with (outcomes_in g) (outcomes_in h)
  outcomes_both g h = same_outcomes _ _ _ _ _ _ _ _ _ _ _ _ _ _ (count_both kind.Issue g h)
      (count_both kind.Answered g h) (count_both kind.TimedOut g h) (count_both kind.Aborted g h)
      (count_both kind.Rejected g h) (count_both kind.Executed g h) (count_both kind.Restarted g h)

  said_both : (t : PduType) (ms ns : List (SaidMessage A)) → count_said t (ms ++ ns) ≡ count_said t ms + count_said t ns
  said_both t [] ns = omega arith
  said_both t (m ∷ ms) ns = let rest = said_both t ms ns in omega (arith, rest)

  pub messages_both : (ms ns : List (SaidMessage A)) →
      messages_in (ms ++ ns) ≡ messages_with (messages_in ms) (messages_in ns)
  messages_both ms ns = same_messages _ _ _ _ _ _ _ _ _ _ _ _ _ _ _ _ (said_both ConfirmedRequest ms ns)
      (said_both UnconfirmedRequest ms ns) (said_both SimpleAck ms ns) (said_both ComplexAck ms ns)
      (said_both SegmentAck ms ns) (said_both Error ms ns) (said_both Reject ms ns) (said_both Abort ms ns)
