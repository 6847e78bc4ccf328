-- What octets on a bus change that end no frame which may be heard.
use Rattle.std.proofs.Common.{◌≡◌, ◌∙◌, ◌⊎◌, inl, inr, ap, subst, ℕ, zero, suc, List, [], ◌∷◌, append-nil}
use Rattle.std.specs.Prelude.{slice_set}
use Rattle.bus_traffic.specs.declared.hearing.HeardFrame.{HeardFrame}
use Rattle.inside.specs.Inside.{Said}
use Rattle.link.specs.Step.{LinkStep, PortSent, over_port}
use Rattle.link.specs.declared.step.Sent.{Sent}
use Rattle.world.specs.link_site.Steps as site
use Rattle.world.specs.link_site.declared.port.SitePort.{SitePort}
use Rattle.world.specs.link_site.declared.port.SitePort.TheVariants.{Ip, Bus}
use Rattle.mstp_table.specs.Table.{step}
use Rattle.simulator.proofs.ActLaws.{none_said}
use Rattle.simulator.proofs.Growing.{done}
use Rattle.simulator.specs.Quiet.{PortAlone, QuietHears}
use Rattle.world.specs.site_node.Node.{NodeState, begun, ended, home_of}
use Rattle.world.specs.site_node.Part.{silence}
use Rattle.world.specs.site_node.Steps.{NodeTold, nothing_told}
use Rattle.world.specs.site_node.declared.told.PartTold.{PartTold}
use Rattle.world.specs.site_ports.Drafts.{PortsState}
use Rattle.world.specs.site_ports.Ports.{Misses, Steps}
use Rattle.world.proofs.Standing.{set_same}
use Rattle.world.specs.Hearing.{IsTold, IsToldOf, TakesEach}
use Rattle.world.specs.World.{WorldState}
use Rattle.world.specs.declared.listener.Listener.{Listener}

module _ {A : Type 0} where
  -- a port that is told of octets puts nothing out
  counts_quiet : (count now : ℕ) (old : SitePort A) (step : LinkStep A) (new : SitePort A) →
      site.Counts count now old step new → step.out ≡ []
  counts_quiet count now (Ip old) did (Ip new) c = ap (λ (s : LinkStep A). s.out) c.nothing
  counts_quiet count now (Bus old) did (Bus new) c = unfold step in c.puts
  counts_quiet count now (Ip old) step (Bus new) c = absurd c
  counts_quiet count now (Bus old) step (Ip new) c = absurd c

  -- a world in which a node told nothing, and put out nothing, has changed in that node alone
  silent_world : (w : WorldState A) (place : ℕ) (n next : NodeState A) (t : NodeTold A) (fresh : List Said) →
      t ≡ nothing_told → fresh ≡ [] → done w place n next t fresh ≡ record w { nodes = slice_set w.nodes place next }
  silent_world w place n next t fresh silent none =
      ap (λ (u : NodeTold A). done w place n next u fresh) silent
      ∙ ap (λ (ss : List Said). done w place n next nothing_told ss) none
      ∙ ap (λ (is : List _). record (done w place n next nothing_told []) { items = is }) (append-nil w.items)
      ∙ ap (λ (ss : List Said). record w { nodes = slice_set w.nodes place next; said = ss }) (append-nil w.said)

  alone_of : (l : Listener) (count : ℕ) (w v : WorldState A) → IsToldOf l count w v → PortAlone l w v
  alone_of l count w v t = by_ports t.counts.ports
    where
      none : t.acts.fresh ≡ []
      none = none_said (home_of t.n.part).net t.told.told.said t.acts.fresh
          (ap (λ (p : PartTold A). p.said) t.counts.silent) t.acts.insides

      tells_nothing : t.told.out ≡ [] → t.told ≡ nothing_told
      tells_nothing out = ap (λ (p : PartTold A). record { told = p; out = t.told.out }) t.counts.silent
          ∙ ap (λ (os : List (PortSent A)). record { told = silence; out = os }) out

      -- it is the node that it was, but for these ports
      same_but : t.next ≡ record t.n { ports = t.next.ports }
      same_but = ap (λ (name : List ℕ). record t.next { name = name }) t.counts.name
          ∙ ap (λ (part : _). record t.n { ports = t.next.ports; part = part }) t.counts.same

      is_so : t.told.out ≡ [] → (ports : List (SitePort A)) → t.next.ports ≡ ports →
          v ≡ record w { nodes = slice_set w.nodes l.place (record t.n { ports = ports }) }
      is_so out ports e = t.acts.is
          ∙ silent_world w l.place t.n t.next t.told t.acts.fresh (tells_nothing out) none
          ∙ ap (λ (n : NodeState A). record w { nodes = slice_set w.nodes l.place n })
          (same_but ∙ ap (λ (ps : List (SitePort A)). record t.n { ports = ps }) e)

      by_ports : Steps (site.Counts count w.moment) l.port (begun t.n) (ended t.told.out t.next)
          ⊎ Misses l.port (begun t.n) (ended t.told.out t.next) → PortAlone l w v
      by_ports (inl s) =
          let out = s.puts ∙ ap (λ (os : List (Sent A)). over_port l.port os)
          (counts_quiet count w.moment s.link s.step s.left s.made) in
          inr (record {
            n = t.n;
            port = s.left;
            there = t.acts.there;
            is = is_so out (slice_set t.n.ports l.port s.left) s.ports;
          })
      by_ports (inr m) = inl (is_so (ap (λ (s : PortsState A). s.out) m.same) t.n.ports
          (ap (λ (s : PortsState A). s.ports) m.same)
          ∙ ap (λ (ns : List (NodeState A)). record w { nodes = ns }) (set_same w.nodes l.place t.n t.acts.there))

  alone : (l : Listener) (count : ℕ) (w v : WorldState A) → IsTold l count w v → PortAlone l w v
  alone l zero w v same = inl same
  alone l (suc n) w v t = alone_of l (suc n) w v t

  -- no frame is heard before
  none_before : (l : Listener) (fs : List (HeardFrame A)) (w v : WorldState A) → fs ≡ [] → TakesEach l fs w v → v ≡ w
  none_before l [] w v e same = same
  none_before l (f ∷ fs) w v e t = absurd (cc e)

-- octets that end no frame which may be heard change a port and its ear alone
pub quiet_hears : {A : Type 0} → QuietHears A
quiet_hears network place octets w v h none =
    let all = h.settles.does.first in
    let same : all.middle ≡ w = none_before h.listener h.at.hearing.frames w all.middle none all.first in record {
      told = h.settles.does.middle;
      port = subst (λ (u : WorldState _). PortAlone h.listener u h.settles.does.middle) same
          (alone h.listener h.settles.rest all.middle h.settles.does.middle all.rest);
      kept = h.settles.kept;
      ear = h.settles.does.rest;
    }
