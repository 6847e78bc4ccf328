-- The sites that there are.
use Rattle.std.specs.Prelude.{◌≡◌, true, List}
use Rattle.site_parts.specs.declared.parts.Network.{Network}
use Rattle.site_parts.specs.declared.parts.Parts.{Parts}
use Rattle.site_parts.specs.declared.parts.Station.{Station}
use Rattle.site_tree.specs.Tree.{IsOneTree}
use Rattle.site.specs.Apart.{AreApart}
use Rattle.site.specs.Networks.{AreNetworks}
use Rattle.site.specs.Named.{AreNamed}
use Rattle.site.specs.Roles.{AreRoles, ArePortsApart, AreInOrder}
use Rattle.site.specs.Links.{are_linked}
use Rattle.site.specs.Devices.{AreDevices, AreFewDevices}
use Rattle.site.specs.Marks.{marks}
use Rattle.site.specs.Managers.{managed, subnets, are_covered, are_few}
use Rattle.site.specs.Foreigns.{are_registered, are_few_beyond}

-- stations are as they have to be, in their order, each place on a network of its kind
pub record AreStations {A : Type 0} (ns : List Network) (ss : List (Station A)) : Type 0 where
  pub roles : AreRoles ss
  pub ports : ArePortsApart ss
  pub order : AreInOrder 0 ss
  pub links : are_linked ns ss ≡ true

-- a few devices, with the objects that a site may give them
pub record HaveObjects {A : Type 0} (ss : List (Station A)) : Type 0 where
  pub few : AreFewDevices ss
  pub each : AreDevices ss

-- each part by itself is as it has to be, and fits its network
pub record IsPlain {A : Type 0} (ns : List Network) (ss : List (Station A)) : Type 0 where
  pub networks : AreNetworks ns
  pub named : AreNamed ss
  pub stations : AreStations ns ss
  pub devices : HaveObjects ss

-- managers are where they have to be and not too many (J.4), and foreign devices register there, not too many (J.5)
pub record AreManaged {A : Type 0} (ss : List (Station A)) : Type 0 where
  pub covered : are_covered (managed ss) (subnets ss) (subnets ss) ≡ true
  pub few : are_few (managed ss) (managed ss) ≡ true
  pub registered : are_registered ss ss ≡ true
  pub few_beyond : are_few_beyond ss ss ≡ true

-- nothing occurs twice that may occur once, managers are where they have to be, networks and routers form one tree
pub record IsFit {A : Type 0} (ns : List Network) (ss : List (Station A)) : Type 0 where
  pub apart : AreApart (marks ns ss)
  pub managed : AreManaged ss
  pub tree : IsOneTree ns ss

-- networks and stations that are, each by itself and together, as they have to be
pub record AreSound {A : Type 0} (ns : List Network) (ss : List (Station A)) : Type 0 where
  pub plain : IsPlain ns ss
  pub fit : IsFit ns ss

-- a site without a fault
abbrev pub IsSound : {A : Type 0} → Parts A → Type 0
IsSound p = AreSound p.networks p.stations

-- parts with a fault
pub record IsFaulty {A : Type 0} (p : Parts A) : Type 0 where
  pub faulty : IsSound p → ⊥
