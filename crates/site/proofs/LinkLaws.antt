-- Ports are on networks of the site.
use Rattle.std.proofs.Common.{◌≡◌, refl, true, ◌==◌, inl, inr, List, [], ◌∷◌, map}
use Rattle.std.specs.List.{list_any, list_all}
use Rattle.site_parts.specs.declared.place.Link.{Link}
use Rattle.site_parts.specs.declared.parts.Network.{Network}
use Rattle.site_parts.specs.declared.role.Role.{Role}
use Rattle.site_parts.specs.declared.role.Role.TheVariants as role
use Rattle.site_parts.specs.declared.parts.Station.{Station}
use Rattle.site_parts.specs.Places.{network_of, kind_of}
use Rattle.site_parts.specs.Roles.{links_in, ports_in}
use Rattle.site_tree.specs.Tree.{ArePortsThere, numbers, is_among}
use Rattle.site.specs.Links.{is_link, are_linked, is_in_range, is_on, same_kind}
use Rattle.site_tree.proofs.TreeLaws.{or_cases, or_left, or_right, and_left, and_right, and_both}

-- a link on a network of the site has its number among the networks'
link_there : (l : Link) (ns : List Network) → list_any (is_on l) ns ≡ true → is_among (network_of l) (numbers ns) ≡ true
link_there l [] h = h
link_there l (n ∷ ns) h = elim (or_cases (is_on l n) (list_any (is_on l) ns) h) [
  | inl e ↦ or_left (n.number == network_of l) (is_among (network_of l) (numbers ns)) (and_left (n.number == network_of l) (same_kind n.link_kind (kind_of l)) e)
  | inr e ↦ or_right (n.number == network_of l) (is_among (network_of l) (numbers ns)) (link_there l ns e)
]

links_there : (ns : List Network) (ls : List Link) → list_all (is_link ns) ls ≡ true → list_all (λ n. is_among n (numbers ns)) (map network_of ls) ≡ true
links_there ns [] h = refl
links_there ns (l ∷ ls) h = and_both (is_among (network_of l) (numbers ns)) (list_all (λ n. is_among n (numbers ns)) (map network_of ls))
    (link_there l ns (and_right (is_in_range l) (list_any (is_on l) ns) (and_left (is_link ns l) (list_all (is_link ns) ls) h)))
    (links_there ns ls (and_right (is_link ns l) (list_all (is_link ns) ls) h))

role_there : {A : Type 0} (ns : List Network) (r : Role A) → list_all (is_link ns) (links_in r) ≡ true → list_all (λ n. is_among n (numbers ns)) (map network_of (ports_in r)) ≡ true
role_there ns (role.Manager l) h = refl
role_there ns (role.Router ports) h = links_there ns ports h
role_there ns (role.Device p objects) h = refl
role_there ns (role.Client p segmented) h = refl

pub ports_there : {A : Type 0} (ns : List Network) (ss : List (Station A)) → are_linked ns ss ≡ true → ArePortsThere (numbers ns) ss
ports_there ns [] h = tt
ports_there ns (s ∷ ss) h = (role_there ns s.role (and_left (list_all (is_link ns) (links_in s.role)) (are_linked ns ss) h), ports_there ns ss (and_right (list_all (is_link ns) (links_in s.role)) (are_linked ns ss) h))
