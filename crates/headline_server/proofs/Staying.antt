-- A device stays what safety sees of its server, which keeps its answers well, whatever changes of it.
use Rattle.std.proofs.Common.{◌≡◌, refl, sym, ap, subst, ℕ, List, Some, None, arith}
use Rattle.std.specs.Prelude.{Option}
use Rattle.headline.proofs.Puts.{put_here}
use Rattle.headline.specs.Protocol.{Site}
use Rattle.history.specs.Book.{Book}
use Rattle.npdu.specs.declared.mac.Station.{Station}
use Rattle.object_model.specs.Objects.{PlainTable}
use Rattle.headline_bacnet.specs.Laws.{object_laws}
use Rattle.primitives.specs.declared.plain_data.Reply.{Reply}
use Rattle.primitives.specs.declared.plain_data.Request.{Request}
use Rattle.headline_server.proofs.Keeping.{Fits, changed_well}
use Rattle.headline_server.specs.Keeping.{IsWellKept}
use Rattle.headline_server.specs.Laws.{IsServed}
use Rattle.headline_bacnet.specs.Refined.{ObjectCore}
use Rattle.headline_server.specs.Refines.{served, with_told}
use Rattle.headline_server.specs.Safe.{safe_device}
use Rattle.server_tsm.specs.Server.{ServerTsmState, committed}
use Rattle.server_tsm.specs.Steps.{IsPlanned}
use Rattle.headline_bacnet.specs.server_answers.Plan.{ServerChange, ServerPlan, Stays, Says, Gathers, GivesUp, Executes, Wakes}
use Rattle.headline_bacnet.specs.server_answers.ServerTold.{ServerTold}
use Rattle.headline_bacnet.specs.server_answers.Executed as told
use Rattle.headline_bacnet.specs.server_answers.declared.said.ServerSaid.{ServerSaid}

-- a site where no station is a device
abbrev pub no_site : {A : Type 0} → ServerTsmState A → Site Station (PlainTable A)
no_site st = record { instance_of = λ d. None; opening = λ d. st.table }

module _ {A : Type 0} where
  -- a change has its moment
  changed_at : (now : ℕ) (change : ServerChange A) (st : ServerTsmState A) → (committed now change st).moment ≡ now
  changed_at now Stays st = refl
  changed_at now (Says x) st = refl
  changed_at now (Gathers asked segment octets) st = refl
  changed_at now (GivesUp asker) st = refl
  changed_at now (Executes request r) st = refl
  changed_at now (Wakes xs) st = refl

  -- no moment passes while a server says and executes
  told_moment : (d : Station) (says : List (ServerSaid A)) (o : Option (told.Executed A)) (b : Book Station (Request A) (Reply A)) →
      (with_told d (record { said = says; executed = o }) b).moment ≡ b.moment
  told_moment d says None b = refl
  told_moment d says (Some x) b = refl

  pub same_moment : (w : ObjectCore A) (d : Station) (server_told : ServerTold A) → (with_told d server_told w.book).moment ≡ w.book.moment
  same_moment w d server_told = told_moment d server_told.said server_told.executed w.book

  pub still_served : (w : ObjectCore A) (d : Station) (st left : ServerTsmState A) (server_told : ServerTold A) (plan : ServerPlan A) → IsServed w d st →
      IsPlanned w.book.moment st plan → left ≡ committed w.book.moment plan.change st → Fits d.net w.book.moment st plan.change →
      IsServed (served d server_told left w) d left
  still_served w d st left server_told plan v planned is fits =
      let at = ap (λ (z : ServerTsmState A). z.moment) is in
      let moment = changed_at w.book.moment plan.change st in
      let same = same_moment w d server_told in
      record {
        device = put_here (object_laws A).test w.devices d (safe_device left);
        well = subst (λ (z : ServerTsmState A). IsWellKept d.net z) (sym is) (changed_well d.net w.book.moment plan st planned v.order v.well fits);
        order = omega (arith, at, moment, same);
      }
