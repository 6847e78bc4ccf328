-- What is printed where a file may go to standard output.
use Rattle.std.proofs.Common.{◌≡◌, ℕ, List, Option, arith, inl, subst, sym}
use Rattle.command_files.specs.Outputs.{AreNotStandard}
use Rattle.command_order.specs.declared.simulating.Simulation.{Simulation}
use Rattle.console.specs.Answer.{Known}
use Rattle.command_line.specs.Program.{IsSimulated, IsSimulatedBeside, outputs_of}

module _ (reads same apart : List ℕ → List ℕ → Type 0) (s : Simulation) (status : ℕ) where
  -- none goes there
  pub on_output : (outputs : List (Option (List ℕ))) (old new err_old err_new : Known) → outputs ≡ outputs_of s →
      AreNotStandard outputs → IsSimulated reads same apart s status old new →
      IsSimulatedBeside reads same apart s status old new err_old err_new
  on_output outputs old new err_old err_new is none done = record {
    few = done.few;
    plain = done.plain;
    whole_run = done.whole_run;
    safe = done.safe;
    printed = λ ended apart. done.printed ended;
    beside = λ ended any. absurd (any (subst AreNotStandard is none));
    unmet = λ ended apart. done.unmet ended;
    unmet_beside = λ ended any. absurd (any (subst AreNotStandard is none));
  }

  -- one may, and the simulation was done
  pub done_beside : (outputs : List (Option (List ℕ))) (old new err_old err_new : Known) → status ≡ 0 →
      outputs ≡ outputs_of s → (AreNotStandard outputs → ⊥) →
      IsSimulated reads same apart s status err_old err_new →
      IsSimulatedBeside reads same apart s 0 old new err_old err_new
  done_beside outputs old new err_old err_new is_zero is any done = record {
    few = inl (omega arith);
    plain = λ none. omega arith;
    whole_run = λ from to request safe. inl (omega arith);
    safe = λ ended. done.safe (inl is_zero);
    printed = λ ended apart. absurd (any (subst AreNotStandard (sym is) apart));
    beside = λ ended other. done.printed is_zero;
    unmet = λ is_four apart. absurd (any (subst AreNotStandard (sym is) apart));
    unmet_beside = λ is_four other. absurd (omega (arith, is_four));
  }

  -- one may, and the simulation failed, or an expectation is unmet
  pub failed_beside : (outputs : List (Option (List ℕ))) (old new err_old err_mid err_new : Known) →
      outputs ≡ outputs_of s → (AreNotStandard outputs → ⊥) → (status ≡ 0 → ⊥) →
      IsSimulated reads same apart s status err_old err_mid →
      IsSimulatedBeside reads same apart s status old new err_old err_new
  failed_beside outputs old new err_old err_mid err_new is any failed done = record {
    few = done.few;
    plain = done.plain;
    whole_run = done.whole_run;
    safe = done.safe;
    printed = λ ended apart. absurd (failed ended);
    beside = λ ended other. absurd (failed ended);
    unmet = λ ended apart. absurd (any (subst AreNotStandard (sym is) apart));
    unmet_beside = λ ended other. record { at_first = err_mid; printed = done.unmet ended };
  }

pub ruleset beside_laws = (done_beside)
