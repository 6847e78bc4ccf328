use Rattle.std.proofs.Common.{◌∙◌, ap, flat_map, List}
use Rattle.client_tsm.specs.declared.said.ClientSaid.{ClientSaid}
use Rattle.npdu.specs.declared.parcel.Parcel.{Parcel}
use Rattle.client.specs.Saying.{parcel_of}
use Rattle.client.proofs.client.Client.said_by.Goals as goal

pub returns-clause-told : goal.returns-clause-told
returns-clause-told g c =
    rw (← c.self.view_is)
    (ap (λ (ps : List (Parcel _)). record { said = ps; outcomes = c.args.plan.told })
    (c.in_ok-said.ensures.parcels ∙ ap (λ (says : List (ClientSaid _)). flat_map (parcel_of c.args.now c.self.inside.mac) says) c.as_slice.ensures))
