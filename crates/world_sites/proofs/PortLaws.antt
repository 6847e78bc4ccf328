-- The manager of a name is where the station of that name manages.
use Rattle.std.proofs.Common.{◌≡◌, ◌∙◌, refl, ap, Bool, true, false, bytes_eq, ℕ, List, [], ◌∷◌, Option, Some, None}
use Rattle.std.specs.Prelude.{if◌then◌else◌}
use Rattle.site_parts.specs.declared.parts.Station.{Station}
use Rattle.site_parts.specs.declared.place.Link.{Link}
use Rattle.site_views.specs.Views.{host, managed_at, named}

abbrev managed_by : {A : Type 0} → Option (Station A) → Option Link
managed_by None = None
managed_by (Some s) = managed_at s.role

host_is : {A : Type 0} (name : List ℕ) (ss : List (Station A)) → managed_by (named name ss) ≡ host name ss
host_is name [] = refl
host_is {A} name (s ∷ ss) = by_test (bytes_eq s.name name) (host_is name ss)
  where
    by_test : (b : Bool) → managed_by (named name ss) ≡ host name ss →
        managed_by (if b then Some s else named name ss) ≡ (if b then managed_at s.role else host name ss)
    by_test true rest = refl
    by_test false rest = rest

pub host_found : {A : Type 0} (name : List ℕ) (ss : List (Station A)) (s : Station A) → Some s ≡ named name ss →
    managed_at s.role ≡ host name ss
host_found name ss s e = ap (λ (q : Option (Station _)). managed_by q) e ∙ host_is name ss

pub host_missing : {A : Type 0} (name : List ℕ) (ss : List (Station A)) → None ≡ named name ss → None ≡ host name ss
host_missing name ss e = ap (λ (q : Option (Station _)). managed_by q) e ∙ host_is name ss

pub ruleset host_rules = (host_found, host_missing)
