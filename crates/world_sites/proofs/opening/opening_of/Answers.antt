use Rattle.std.proofs.Common.{◌≡◌, ◌∙◌, Some}
use Rattle.world_sites.proofs.OpeningLaws.{objects_sound, opening_is}
use Rattle.world_sites.proofs.opening.opening_of.Goals as goal
use Rattle.world_sites.specs.Opening.{objects_at}

pub table_of-requires : goal.table_of-requires
table_of-requires g c =
    let found : objects_at c.args.address c.args.site.now.stations ≡ Some c.in-Some.objects =
    cc (c.stations.ensures.stations, c.in_ok-objects.ensures, c.in-Some.is) in
    record { sound = objects_sound c.args.site.now c.args.address c.in-Some.objects c.stations.ensures.sound found }

pub returns-clause-opening : goal.returns-clause-opening
returns-clause-opening g c =
    let found : objects_at c.args.address c.args.site.now.stations ≡ Some c.in-Some.objects =
    cc (c.stations.ensures.stations, c.in_ok-objects.ensures, c.in-Some.is) in
    c.in_ok-table.ensures.opened
    ∙ opening_is c.args.site.now c.args.address c.in-Some.objects c.stations.ensures.sound found
