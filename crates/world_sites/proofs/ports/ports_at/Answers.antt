use Rattle.std.proofs.Common.{◌≡◌, ◌∙◌, sym, ap, ℕ, ◌+◌, ◌<◌, List, [], ◌∷◌, ◌++◌, drop, length}
use Rattle.std.proofs.lemmas.List.{append_assoc, append-nil, drop_all, drop_more}
use Rattle.std.specs.Prelude.{get_or}
use Rattle.node_laws.specs.link_site.declared.port.SitePort.{SitePort}
use Rattle.site_parts.specs.declared.parts.Station.{Station}
use Rattle.site_parts.specs.declared.place.Link.{Link}
use Rattle.world_sites.specs.Opening.{port_at, ports_at}
use Rattle.world_sites.proofs.ports.ports_at.Goals as goal

-- the port at the next link comes behind the others
one_more : {A : Type 0} (all : List (Station A)) (links : List Link) (i : ℕ) (d : Link)
    (before after want : List (SitePort A)) → i < length links → after ≡ before ++ port_at all (get_or links i d) ∷ [] →
    before ++ ports_at all (drop i links) ≡ want → after ++ ports_at all (drop (i + 1) links) ≡ want
one_more {A} all links i d before after want below put so_far =
    ap (λ (ports : List (SitePort A)). ports ++ ports_at all (drop (i + 1) links)) put
    ∙ append_assoc before (port_at all (get_or links i d) ∷ []) (ports_at all (drop (i + 1) links))
    ∙ sym (ap (λ (ls : List Link). before ++ ports_at all ls) (drop_more links i d below))
    ∙ so_far

pub loop-link-preserved : goal.loop-link-preserved
loop-link-preserved g c = one_more c.args.all.now c.args.links.now c.loop-link.link-index _ c.loop-link.ports.items
    c.put_port.new.out.items _ c.loop-link-test.true c.in_ok-put_port.ensures c.loop-link.invariant

pub returns : goal.returns
returns g c = sym (append-nil c.loop-link.ports.items)
    ∙ sym (ap (λ (ls : List Link). c.loop-link.ports.items ++ ports_at c.args.all.now ls)
    (drop_all c.loop-link.link-index c.args.links.now c.loop-link-test.false))
    ∙ c.loop-link.invariant
