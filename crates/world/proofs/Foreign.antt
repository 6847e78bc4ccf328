-- A node whose port isn't a foreign device's says nothing where it registers (J.5.2).
use Rattle.std.proofs.Common.{◌≡◌, inl, inr, ℕ, true, false, Some, None, refl, Option}
use Rattle.std.specs.Prelude.{slice_get, slice_set}
use Rattle.link.specs.Carrying.{nothing}
use Rattle.world_log.proofs.link_site.Foreign.{registers_silently}
use Rattle.world_log.specs.link_site.Port.{at_moment, is_foreign}
use Rattle.world_log.specs.link_site.declared.port.SitePort.{SitePort}
use Rattle.world_log.specs.site_node.Node.{NodeState}
use Rattle.world_log.specs.site_node.Part.{ITS_PORT}
use Rattle.world_log.specs.site_node.Steps.{IsNotForeign}
use Rattle.world.specs.Refusals.{IsForeign}

pub is_not_foreign : {A : Type 0} (now : ℕ) (n : NodeState A) (port : SitePort A) →
    slice_get n.ports ITS_PORT ≡ Some port → is_foreign port ≡ false → IsNotForeign now n
is_not_foreign now n port there e = record {
  left = slice_set n.ports ITS_PORT (at_moment now port);
  silent = inl (record {
    link = port;
    there = there;
    step = nothing;
    left = at_moment now port;
    made = registers_silently now port e;
    ports = refl;
    puts = refl;
  });
}

pub has_no_port : {A : Type 0} (now : ℕ) (n : NodeState A) → slice_get n.ports ITS_PORT ≡ None → IsNotForeign now n
has_no_port now n none = record { left = n.ports; silent = inr (record { missing = none; same = refl }) }

pub is_foreign_there : {A : Type 0} (n : NodeState A) (port : SitePort A) → slice_get n.ports ITS_PORT ≡ Some port →
    is_foreign port ≡ true → IsForeign n
is_foreign_there n port there e = record { port = port; there = there; foreign = e }

pub ruleset foreign_rules = (is_not_foreign, has_no_port, is_foreign_there)
