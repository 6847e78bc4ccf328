-- What the stations of a site must be so that they open as nodes: each sound site has such alone.
use Rattle.std.specs.Prelude.{◌≡◌, true, List}
use Rattle.std.specs.List.{AllByRecursion}
use Rattle.bbmd_tables.specs.Tables.{has_few_peers, is_among}
use Rattle.object_model.specs.Site.{IsSite}
use Rattle.router.specs.Router.{IsNumbered}
use Rattle.site_parts.specs.Places.{station_of}
use Rattle.site_parts.specs.declared.parts.Station.{Station}
use Rattle.site_parts.specs.declared.place.Link.{Link}
use Rattle.site_parts.specs.declared.place.Link.TheVariants as link
use Rattle.site_parts.specs.declared.role.Role.{Role}
use Rattle.site_parts.specs.declared.role.Role.TheVariants as role
use Rattle.site_views.specs.Views.{managers}

-- a manager is one of its network's, of which there are not too many (J.4.3)
abbrev pub IsManagerFit : {A : Type 0} → List (Station A) → Link → Type 0
IsManagerFit all (link.Ip network subnet address) =
    (is_among address (managers network all) ≡ true) × (has_few_peers address (managers network all) ≡ true)
IsManagerFit all (link.Bus network mac) = Unit {0}

-- these links are on networks with numbers (6.2.2)
abbrev pub HaveNumbers : List Link → Type 0
HaveNumbers ls = AllByRecursion (λ l. IsNumbered (station_of l)) ls

-- a device has objects that a site may give it (12)
abbrev pub IsFit : {A : Type 0} → List (Station A) → Role A → Type 0
IsFit all (role.Manager l) = IsManagerFit all l
IsFit all (role.Router ls) = HaveNumbers ls
IsFit all (role.Device p objects) = IsSite objects
IsFit all (role.Client p segmented) = Unit {0}

abbrev pub AreFit : {A : Type 0} → (all ss : List (Station A)) → Type 0
AreFit all ss = AllByRecursion (λ s. IsFit all s.role) ss
