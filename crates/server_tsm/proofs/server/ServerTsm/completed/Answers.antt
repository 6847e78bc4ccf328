use Rattle.std.proofs.Common.{◌≡◌, false}
use Rattle.std.specs.Prelude.{nat_lt, length}
use Rattle.std.proofs.lemmas.Bool.{le-ltb}
use Rattle.profile.specs.Limits.{MAX_SERVICE_DATA_OCTETS}
use Rattle.server_tsm.proofs.Meaning.{is_completed, means_of}
use Rattle.server_tsm.proofs.server.ServerTsm.completed.Goals as goal

pub returns : goal.returns
returns g c =
    let heard = c.args.heard.now in
    let fits : nat_lt MAX_SERVICE_DATA_OCTETS (length heard.octets.now) ≡ false =
    le-ltb MAX_SERVICE_DATA_OCTETS (length heard.octets.now) c.if-octets-gt-MAX_SERVICE_DATA_OCTETS.false in
    is_completed heard.moment (record { asked = heard.asked; octets = heard.octets.now; says = c.args.said }) c.args.self.now c.in_ok-found.found
    c.finished.result fits
    (means_of heard.asked.service heard.octets.now c.in_ok-found.found c.in_ok-found.ensures.read c.in_ok-found.ensures.rejected)
    c.finished.ensures
