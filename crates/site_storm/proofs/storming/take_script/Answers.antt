use Rattle.site_storm.proofs.storming.take_script.Goals as goal

-- entries alone are told
pub returns : goal.returns
returns g c = rw c.entries-telling.ensures at c.take_steps.ensures
