-- What is printed of a station, or in its place.
use Rattle.std.proofs.Common.{◌≡◌, subst, sym, ap, inl, inr, ℕ, List, Result, Ok, Err, OnOk}
use Rattle.std.specs.Io.KnownBytes.{Appends}
use Rattle.site_history.specs.Printed.{Known, line, refused_text}
use Rattle.site_history.specs.simulator.site_node.Node.{NodeState}
use Rattle.site_history.specs.simulator.world.Tables.{HasNode}
use Rattle.site_history.specs.simulator.world.World.{WorldState}
use Rattle.site_history.specs.simulator.world_sites.Finding.{IsNobody}
use Rattle.site_states.specs.Shown.{PrintsShown, PrintsState, head_text}
use Rattle.tags.specs.declared.fault.Fault.TheVariants.{Memory, NoSuch}

-- the beginning of the first line, and the rest
pub rest_printed : {T E : Type 0} (r : Result T E) (moment : ℕ) (name rest : List ℕ) (old mid new : Known) →
    Appends old mid (head_text moment name) → OnOk r (Appends mid new rest) → OnOk r (PrintsState moment name old new)
rest_printed (Ok x) moment name rest old mid new head behind =
    record { at_rest = mid; rest = rest; head_printed = head; rest_printed = behind }
rest_printed (Err x) moment name rest old mid new head behind = tt

pub ruleset rest_laws = (rest_printed)

module _ {A : Type 0} where
  pub node_shown : (name : List ℕ) (w : WorldState A) (n : NodeState A) (moment : ℕ) (old new : Known) →
      moment ≡ w.moment → HasNode name w n → PrintsState moment name old new → PrintsShown name w old new
  node_shown name w n moment old new same has printed = inl (record {
    n = n;
    has = has;
    printed = subst (λ (m : ℕ). PrintsState m name old new) same printed;
  })

  pub nobody_shown : (name : List ℕ) (w : WorldState A) (moment : ℕ) (old new : Known) → moment ≡ w.moment →
      IsNobody name w.nodes → Appends old new (line (refused_text NoSuch moment)) → PrintsShown name w old new
  nobody_shown name w moment old new same nobody printed = inr (inl (record {
    nobody = nobody;
    printed = subst (λ (m : ℕ). Appends old new (line (refused_text NoSuch m))) same printed;
  }))

  pub memory_shown : (name : List ℕ) (w : WorldState A) (moment : ℕ) (old new : Known) → moment ≡ w.moment →
      Appends old new (line (refused_text Memory moment)) → PrintsShown name w old new
  memory_shown name w moment old new same printed =
      inr (inr (subst (λ (m : ℕ). Appends old new (line (refused_text Memory m))) same printed))

pub ruleset shown_laws = (node_shown, nobody_shown, memory_shown)
