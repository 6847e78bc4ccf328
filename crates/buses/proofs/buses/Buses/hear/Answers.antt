use Rattle.std.proofs.Common.{◌≡◌, ◌<◌, length, refl, rules, sym}
use Rattle.std.specs.Prelude.{get_or}
use Rattle.std.proofs.lemmas.Option.{slice_get_read}
use Rattle.buses.proofs.FindingLaws.{bus_within, ear_hears}
use Rattle.buses.proofs.Places.{room_kept}
use Rattle.buses.proofs.buses.Buses.hear.Goals as goal

pub returns-clause-heard : goal.returns-clause-heard
returns-clause-heard g c =
    let within : c.args.bus < length c.args.self.now.buses.items =
    bus_within c.args.self.now.buses.items c.args.bus c.requires.there.bus c.requires.there.bus_there in
    let at : c.index_mut.result.now ≡ get_or c.args.self.now.buses.items c.args.bus c.index_mut.result.now = search rules in
    λ b e there ear_there. ear_hears c.args.now c.args.bus c.args.ear c.args.octets.now c.args.cut
    c.args.self.now.frames c.args.self.now.buses.items c.index_mut.result.now c.hear.new.self b e
    (slice_get_read c.args.self.now.buses.items (length c.args.self.now.buses.items) c.args.bus c.index_mut.result.now refl
    within at) there ear_there (λ f h. c.hear.ensures.heard f h)

pub returns-clause-room : goal.returns-clause-room
returns-clause-room g c =
    let within : c.args.bus < length c.args.self.now.buses.items =
    bus_within c.args.self.now.buses.items c.args.bus c.requires.there.bus c.requires.there.bus_there in
    let at : c.index_mut.result.now ≡ get_or c.args.self.now.buses.items c.args.bus c.index_mut.result.now = search rules in
    λ n h. room_kept n c.args.bus c.args.self.now.buses.items c.index_mut.result.now c.hear.new.self within (sym at)
    (λ r. c.hear.ensures.room n r) h
