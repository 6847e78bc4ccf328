-- What a script expects of a run, judged at its place.
use Rattle.std.specs.Prelude.{◌≡◌, ℕ, Bool, List, Option, Some, None}
use Rattle.objects.specs.Machine.{reply}
use Rattle.object_model.specs.Objects.{PlainTable}
use Rattle.primitives.specs.declared.plain_data.Reply.{Reply}
use Rattle.primitives.specs.declared.plain_data.Request.{Request}
use Rattle.primitives.specs.declared.plain_data.Request.TheVariants.{Read}
use Rattle.site_history.specs.simulator.world.Tables.{HasNoTable, HasTable}
use Rattle.site_history.specs.simulator.world.World.{WorldState}
use Rattle.site_verdicts.specs.Judged.{IsJudgedBy}
use Rattle.site_verdicts.specs.expectations.declared.expectation.Expectation.{Expectation}
use Rattle.site_verdicts.specs.expectations.declared.expectation.Expectation.TheVariants as expected

-- the device of this name replies so to a request, as its objects are
pub record Replies {A : Type 0} (name : List ℕ) (w : WorldState A) (q : Request A) (r : Reply A) : Type 0 where
  pub table : PlainTable A
  pub has : HasTable name w table
  pub reply_is : r ≡ reply table q

-- what the property that is asked for reads at its device, if there is one (15.5.2)
abbrev pub IsReadOf : {A : Type 0} → Expectation A → WorldState A → Option (Reply A) → Type 0
IsReadOf (expected.Reads station object property v) w None = HasNoTable station w
IsReadOf (expected.Reads station object property v) w (Some r) =
    Replies station w (Read object property.property property.index) r
IsReadOf (expected.Closed i o within) w read = Unit {0}
IsReadOf (expected.Executed i times) w read = Unit {0}
IsReadOf expected.NoneRefused w read = Unit {0}

-- an expectation was judged of a world, by what its property reads there. How many events were refused before, no
-- contract says
pub record IsJudged {A : Type 0} (e : Expectation A) (w : WorldState A) (was now : Bool) : Type 0 where
  pub refused : ℕ
  pub read : Option (Reply A)
  pub read_is : IsReadOf e w read
  pub verdict : IsJudgedBy e w.history refused read was now
