use Rattle.world_sites.proofs.directory.Directory.node_at.Goals as goal

pub returns-in_default-clause-none : goal.returns-in_default-clause-none
returns-in_default-clause-none g c = record {
  none = λ place port n to. let leads = c.requires.leads c.args.address in
      absurd (cc (leads, to.at_address, c.place_at.ensures, c.in_default.is));
}

pub returns-in_default-node_in-clause-none : goal.returns-in_default-node_in-clause-none
returns-in_default-node_in-clause-none g c = record {
  none = λ place port n to. let leads = c.requires.leads c.args.address in absurd (cc (
    leads,
    to.at_address,
    to.there,
    c.place_at.ensures,
    c.in-Some.is,
    c.in_default-node_in.ensures.none,
  ));
}

pub returns-in_default-port_at-clause-none : goal.returns-in_default-port_at-clause-none
returns-in_default-port_at-clause-none g c = record {
  none = λ place port n to. let leads = c.requires.leads c.args.address in absurd (cc (
    leads,
    to.at_address,
    to.there,
    to.port_is,
    c.place_at.ensures,
    c.in-Some.is,
    c.in-Some-node_in.ensures.there,
    c.port_at.ensures,
    c.in_default-port_at.is,
  ));
}

-- it leads there
pub returns-clause-there : goal.returns-clause-there
returns-clause-there g c = let leads = c.requires.leads c.args.address in record {
  at_address = cc (leads, c.place_at.ensures, c.in-Some.is);
  there = c.in-Some-node_in.ensures.there;
  port_is = cc (c.port_at.ensures, c.in-Some-port_at.is);
}
