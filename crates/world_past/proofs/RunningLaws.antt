-- Whole lists of events, and what is legal.
use Rattle.std.proofs.Common.{◌≡◌, ◌∙◌, inl, inr, refl, sym, subst, arith, ◌+◌, List, [], ◌∷◌, ◌++◌, append-nil, length}
use Rattle.std.proofs.lemmas.List.{length-append}
use Rattle.world.specs.World.{WorldState}
use Rattle.world.specs.site_node.Node.{NodeState}
use Rattle.world.specs.world_log.Growing.{WorldHistory}
use Rattle.world_past.proofs.KeepingLaws.{keeps_on}
use Rattle.world_past.proofs.RefusedLaws.{keeps_refused}
use Rattle.world_past.proofs.SteppingLaws.{keeps_steps}
use Rattle.world.specs.Keeping.{Keeps}
use Rattle.world_past.specs.Running.{ComesInAll, ForgetsInAll, HandsOut, IsLegalAt, LegalInAll, RunsAreLegal, RunsInAll}

pub keeps_comes : {A : Type 0} → ComesInAll A
keeps_comes e past w k l p (inl s) = let a = keeps_steps e past w k l p s in
    record { middle = a.middle; first = inl a.first; rest = a.rest }
keeps_comes e past w k l p (inr r) = let a = keeps_refused e past w k r.fault p r.refused in record {
  middle = w;
  first = inr (record { fault = a.whole; refused = a.refused; same = refl });
  rest = subst (λ (x : WorldState _). Keeps past w x) (sym r.same) p;
}

pub keeps_runs : {A : Type 0} → RunsInAll A
keeps_runs [] past w k l p e = record {
  middle = w;
  first = refl;
  rest = subst (λ (x : WorldState _). Keeps past w x) (sym e) p;
}
keeps_runs (e ∷ es) past w k l p t =
    let a = keeps_comes e past w k t.middle p t.first in
    let b = keeps_runs es past a.middle t.middle l a.rest t.rest in record {
      middle = b.middle;
      first = record { middle = a.middle; first = a.first; rest = b.first };
      rest = b.rest;
    }

pub keeps_legal : {A : Type 0} → LegalInAll A
keeps_legal s instances past w k p legal =
    subst (λ (h : WorldHistory _). IsLegalAt s instances h k) p.history
    (subst (λ (ns : List (NodeState _)). IsLegalAt s instances w.history (record k { nodes = ns })) (sym p.nodes) legal)

pub keeps_runs_legal : {A : Type 0} → RunsAreLegal A
keeps_runs_legal s instances es past w k l p runs legal = let a = keeps_runs es past w k l p runs in
    keeps_legal s instances past a.middle l a.rest (legal a.middle a.first)

pub keeps_handed : {A : Type 0} → HandsOut A
keeps_handed past w k p = record {
  site = p.site;
  moment = p.moment;
  nodes = p.nodes;
  items = p.items;
  buses = p.buses;
  keys = p.keys;
  history = p.history ∙ sym (append-nil (past ++ k.history));
  first_entry = let all : length (past ++ k.history) ≡ length past + length k.history = length-append past k.history in
      omega (arith, p.first_entry, all);
  gone = p.gone;
  said = p.said;
  first_said = p.first_said;
}

pub keeps_forgotten : {A : Type 0} → ForgetsInAll A
keeps_forgotten past w k l p f = keeps_on past w k l p f.keeps
