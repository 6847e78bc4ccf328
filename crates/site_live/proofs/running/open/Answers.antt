use Rattle.site_live.proofs.running.open.Goals as goal

pub returns-in-Ok-clause-opened : goal.returns-in-Ok-clause-opened
returns-in-Ok-clause-opened g c = record {
  document = c.in_ok-site.ensures.document;
  parts = c.in_ok-site.site;
  sound = c.in_ok-site.ensures.sound;
  opens = c.in_ok-world.ensures.fresh;
}
