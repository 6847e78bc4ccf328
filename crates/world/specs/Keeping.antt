-- What a world may keep of one with all its past: all that events may still read.
use Rattle.std.specs.Prelude.{◌≡◌, ◌≤◌, List, [], ◌+◌, ◌++◌, drop, length}
use Rattle.buses.specs.Forgetting.{ForgetOnEach, KeepsBuses}
use Rattle.inside.specs.Inside.{Said}
use Rattle.world.specs.Old.{KeepsItems}
use Rattle.world.specs.World.{WorldState}
use Rattle.world_log.specs.Growing.{WorldHistory}
use Rattle.world_log.specs.Issues.{KeepsKeys}

-- of a world with all its past this is kept, where these entries of its history were handed out: its site, its moment
-- and its nodes, what may still be heard, the last issues, and all entries behind those; and of what was said the end.
-- Both are counted: how many entries were handed out, and how many messages are gone
pub record Keeps {A : Type 0} (past : WorldHistory A) (whole kept : WorldState A) : Type 0 where
  pub site : kept.site ≡ whole.site
  pub moment : kept.moment ≡ whole.moment
  pub nodes : kept.nodes ≡ whole.nodes
  pub items : KeepsItems whole.moment whole.items kept.items
  pub buses : KeepsBuses whole.moment whole.buses kept.buses
  pub keys : KeepsKeys whole.keys kept.keys
  pub history : whole.history ≡ past ++ kept.history
  pub first_entry : kept.first_entry ≡ whole.first_entry + length past
  pub gone : List Said
  pub said : whole.said ≡ gone ++ kept.said
  pub first_said : kept.first_said ≡ whole.first_said + length gone

-- of a world this is left where it forgets: it is kept of it, with all its entries, and all items from the first on
-- that isn't forgotten; and each bus forgets too
pub record Forgets {A : Type 0} (old new : WorldState A) : Type 0 where
  pub keeps : Keeps [] old new
  pub first_item : old.first_item ≤ new.first_item
  pub left : drop new.first_item new.items ≡ drop new.first_item old.items
  pub buses : ForgetOnEach old.moment old.buses new.buses

-- all entries that are kept are handed out
abbrev pub handed_out : {A : Type 0} → WorldState A → WorldState A
handed_out k = record k { first_entry = k.first_entry + length k.history; history = [] }
