use Rattle.device.proofs.device.Device.serve.Goals as goal

pub returns-clause-planned : goal.returns-clause-planned
returns-clause-planned g c = rw (← c.self.view_is) c.in_ok-plan.ensures.planned
