use Rattle.site_faults.proofs.parts.tell_faults.Goals as goal

pub returns : goal.returns
returns g c = rw (← c.as_slice-networks.ensures, ← c.as_slice-stations.ensures) c.in_ok-is_sound.ensures
