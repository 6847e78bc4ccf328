use Rattle.world_sites.proofs.DirectoryLaws.{leads}
use Rattle.world_sites.proofs.directory.Directory.new.Goals as goal

-- it leads to the nodes
pub returns : goal.returns
returns g c = leads c.in_ok-names.names c.in_ok-addresses.addresses c.args.nodes.now c.in_ok-names_of.field-0.items
    c.in_ok-names.ensures c.in_ok-names_of.ensures c.in_ok-addresses.ensures
