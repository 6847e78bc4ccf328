use Rattle.world_sites.proofs.directory.Directory.node_named.Goals as goal

pub returns-in_default-clause-none : goal.returns-in_default-clause-none
returns-in_default-clause-none g c = record {
  none = λ place n to. let leads = c.requires.leads c.args.name.now in
      absurd (cc (leads, to.named, c.named_place.ensures, c.in_default.is));
}

pub returns-in_default-node_in-clause-none : goal.returns-in_default-node_in-clause-none
returns-in_default-node_in-clause-none g c = record {
  none = λ place n to. let leads = c.requires.leads c.args.name.now in absurd (cc (
    leads,
    to.named,
    to.there,
    c.named_place.ensures,
    c.in-Some.is,
    c.in_default-node_in.ensures.none,
  ));
}

-- it leads there
pub returns-clause-there : goal.returns-clause-there
returns-clause-there g c = let leads = c.requires.leads c.args.name.now in record {
  named = cc (leads, c.named_place.ensures, c.in-Some.is);
  there = c.in-Some-node_in.ensures.there;
}
