-- Histories of one device with the instance 10 that aren't legal.
use Rattle.std.specs.Prelude.{List, [], ◌∷◌}
use Rattle.carry_world.specs.Laws.{IsLegal, Judged}
use Rattle.headline_site_runs.specs.Small.{reads_name}
use Rattle.history.specs.declared.Entry.{Entry}
use Rattle.history.specs.declared.Entry.TheVariants.{Answered, Executed, Issue}
use Rattle.npdu.specs.declared.mac.Station.{Station}
use Rattle.primitives.specs.declared.plain_data.Reply.{Reply}
use Rattle.primitives.specs.declared.plain_data.Request.{Request}
use Rattle.carry_runs.specs.Crossing.{asker}

-- a request is issued to the device 99, executed and answered
abbrev pub strange : {A : Type 0} → Reply A → List (Entry Station (Request A) (Reply A))
strange r = Issue 0 asker 99 reads_name 0 ∷ Executed 0 r 1 ∷ Answered 0 r 2 ∷ []

-- that is not legal, since no device is 99
abbrev pub NoneIsStrange : Type 0 → Type 0
NoneIsStrange A = (r : Reply A) (devices : List (Judged A)) → IsLegal (10 ∷ []) (strange r) devices → ⊥

-- nor is any history of a world in which the device is missing
abbrev pub NoneIsMissing : Type 0 → Type 0
NoneIsMissing A = (h : List (Entry Station (Request A) (Reply A))) → IsLegal (10 ∷ []) h [] → ⊥
