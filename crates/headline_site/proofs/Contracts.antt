-- What a station does on an NPDU by its contract goes well.
use Rattle.std.proofs.Common.{refl}
use Rattle.headline_device.proofs.Doing.{hearing_is_done}
use Rattle.headline_device.specs.Devices.{deed_in}
use Rattle.headline_client.proofs.Laws.{hearing}
use Rattle.headline_client.proofs.Places.{all_at}
use Rattle.headline_client.specs.Heard.{said_in}
use Rattle.headline_client.specs.Laws.{IsClient}
use Rattle.headline_client.specs.Safe.{safe_client, station_of}
use Rattle.headline_client.specs.Told.{acts}
use Rattle.headline_device.specs.Devices.{IsDevice}
use Rattle.headline_site.specs.Laws.{ClientHearingGoes, DeviceHearingGoes}
use Rattle.headline_site.proofs.Standing.{client_goes, deed_goes}

pub client_hearing_goes : {A : Type 0} → ClientHearingGoes A
client_hearing_goes own s w place c next from to npdu told at there said h =
    let done = hearing own s w.core from to npdu c told next (all_at (λ z. IsClient own w.core z) w.clients place c at.clients there) said h in
    client_goes own s w at place c next (acts own (station_of c) (said_in w.core.book.moment from to npdu c told next h) told.outcomes (safe_client own next)
    w.core) there done.stays
    (record { clients = refl; devices = refl; moment = refl }) done.kept done.refined

pub device_hearing_goes : {A : Type 0} → DeviceHearingGoes A
device_hearing_goes own s w place d left from to npdu told at there said h =
    let done = hearing_is_done s w.core d left from to npdu told (all_at (λ z. IsDevice s w.core z) w.devices place d at.devices there) said h in
    (deed_goes own s w at place d (deed_in w.core.book.moment from to npdu d told left h) there done.stands done.refined, done.left_is)
