-- Why writes are refused hangs on the shape of a table alone, which no write changes (15.10.2).
use Rattle.std.specs.Prelude.{◌≡◌, List, [], ◌∷◌, length, Result, Ok, Err}
use Rattle.object_model.specs.declared.object.Object.{Object}
use Rattle.object_model.specs.declared.object.Object.TheVariants as object
use Rattle.primitives.specs.declared.plain_data.Reply.{Reply}
use Rattle.primitives.specs.declared.plain_data.Reply.TheVariants.{Done}
use Rattle.object_model.specs.Objects.{PlainTable}
use Rattle.object_model.specs.Reading.{Refusal}
use Rattle.object_model.specs.Writing.{ObjectWrite, failed_at, write}

-- two objects have one identifier, one type and as many slots
abbrev pub AreAlike : {A : Type 0} → Object A → Object A → Type 0
AreAlike (object.Device d) (object.Device e) = d.instance ≡ e.instance
AreAlike (object.Value o) (object.Value p) = (o.kind ≡ p.kind) × (o.instance ≡ p.instance) ×
    (length o.slots ≡ length p.slots)
AreAlike o p = ⊥

-- the objects of two tables are alike, each to that of its place
abbrev pub HaveOneShape : {A : Type 0} → PlainTable A → PlainTable A → Type 0
HaveOneShape [] [] = Unit {0}
HaveOneShape (o ∷ os) (p ∷ ps) = AreAlike o p × HaveOneShape os ps
HaveOneShape t u = ⊥

-- the failure of a write that is refused, else what comes of the later ones
abbrev pub failure_or : {A : Type 0} → ObjectWrite A → Result (PlainTable A) Refusal → Reply A → Reply A
failure_or w (Err e) later = failed_at w e
failure_or w (Ok written) later = later

-- the failure of the first of the writes that a table refuses, if it refuses any (15.10.1.3)
abbrev pub first_failure : {A : Type 0} → PlainTable A → List (ObjectWrite A) → Reply A
first_failure t [] = Done
first_failure t (w ∷ ws) = failure_or w (write t w.object w.write) (first_failure t ws)
