-- What is done behind lines that are printed as JSON changes no more than the status; and which status is left.
use Rattle.std.proofs.Common.{◌≡◌, ◌≤◌, ℕ, Bool, true, List, None, sym, subst, inl, inr, arith}
use Rattle.std.specs.Prelude.{◌⊎◌}
use Rattle.std.specs.Global.{Global}
use Rattle.command_order.specs.declared.order.LiveRun.{LiveRun}
use Rattle.command_order.specs.declared.simulating.Simulation.{Simulation}
use Rattle.console.specs.Answer.{Known}
use Rattle.command_line.specs.Program.{FileExpectsNothing, IsLive, IsSimulated}
use Rattle.command_tools.specs.Words.{shown}
use Rattle.site_capture.specs.site_run.script.Expecting.{HasNoExpectation}

-- 1 is no status of what was done
failed : (status : ℕ) → status ≡ 1 → (status ≡ 0) ⊎ (status ≡ 4) → ⊥
failed status is_one (inl is_zero) = omega (arith, is_one, is_zero)
failed status is_one (inr is_four) = omega (arith, is_one, is_four)

module _ (reads same apart : List ℕ → List ℕ → Type 0) (s : Simulation) (status result : ℕ) where
  -- a simulation that was done, or failed then
  ended : IsSimulated reads same apart s status None None →
      (result ≡ status) ⊎ (((status ≡ 0) ⊎ (status ≡ 4)) × (result ≡ 1)) →
      IsSimulated reads same apart s result None None
  ended done (inl e) = rw e done
  ended done (inr p) = record {
    few = inl (omega (arith, p.1));
    plain = λ none. omega (arith, p.1);
    whole_run = λ from to request safe. inl (omega (arith, p.1));
    safe = λ was. absurd (failed result p.1 was);
    printed = λ is_zero. absurd (omega (arith, p.1, is_zero));
    unmet = λ is_four. absurd (omega (arith, p.1, is_four));
  }

  -- .. whose lines are objects of JSON, so that nothing is said of them
  pub ended_simulated : (old new : Known) → s.is_json ≡ true → IsSimulated reads same apart s status None None →
      (result ≡ status) ⊎ (((status ≡ 0) ⊎ (status ≡ 4)) × (result ≡ 1)) →
      IsSimulated reads same apart s result (shown s.is_json old) (shown s.is_json new)
  ended_simulated old new e done ends =
      subst (λ (b : Bool). IsSimulated reads same apart s result (shown b old) (shown b new)) (sym e) (ended done ends)

module _ (reads same apart : List ℕ → List ℕ → Type 0) (r : LiveRun) (status result : ℕ) where
  -- so a live run
  ended_run : IsLive reads same apart r status None None →
      (result ≡ status) ⊎ (((status ≡ 0) ⊎ (status ≡ 4)) × (result ≡ 1)) →
      IsLive reads same apart r result None None
  ended_run done (inl e) = rw e done
  ended_run done (inr p) = record {
    few = inl (omega (arith, p.1));
    plain = λ none. omega (arith, p.1);
    with_script = λ seconds safe. inl (omega (arith, p.1));
    safe = λ was. absurd (failed result p.1 was);
    printed = λ was. absurd (failed result p.1 was);
  }

  pub ended_live : (old new : Known) → r.is_json ≡ true → IsLive reads same apart r status None None →
      (result ≡ status) ⊎ (((status ≡ 0) ⊎ (status ≡ 4)) × (result ≡ 1)) →
      IsLive reads same apart r result (shown r.is_json old) (shown r.is_json new)
  ended_live old new e done ends =
      subst (λ (b : Bool). IsLive reads same apart r result (shown b old) (shown b new)) (sym e) (ended_run done ends)

-- a status of fewer
pub few_of : (status : ℕ) → (status ≤ 1) ⊎ (status ≡ 4) → (status ≤ 2) ⊎ (status ≡ 4)
few_of status (inl le) = inl (omega (arith, le))
few_of status (inr is_four) = inr is_four

-- the file that was read expects nothing
pub plain_of : (reads : List ℕ → List ℕ → Type 0) (script text : List ℕ) (status : ℕ) →
    FileExpectsNothing reads script → reads script text → (HasNoExpectation Global text → status ≤ 1) → status ≤ 2
plain_of reads script text status file read plain =
    let le : status ≤ 1 = plain (file.none text read) in omega (arith, le)

pub ruleset done_laws = (few_of, plain_of)
