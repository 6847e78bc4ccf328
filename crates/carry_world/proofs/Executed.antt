-- What comes whole to a client of a world is the answer of one execution.
use Rattle.std.proofs.Common.{◌∙◌, sym, ap, subst, List}
use Rattle.carry.specs.Things.{Thing}
use Rattle.carry_world.specs.Answers.{WholeIsExecuted}
use Rattle.carry_world.proofs.Told.{WasTold, came_told}
use Rattle.carry_world.proofs.Keys.{last_same}
use Rattle.carry_world.proofs.Kept.{Inv, client_brings}
use Rattle.carry_world.proofs.Seeing.{Seen, all_seen, fresh_seen, kept_of}
use Rattle.carry_world.specs.Internetwork.{Internetwork}
use Rattle.carry_world.specs.Laws.{Always}
use Rattle.carry_world.specs.PlainSteps.{StepsTo}
use Rattle.carry_world.specs.PlainWorld.{PlainWorld}
use Rattle.carry_said.specs.client_tsm.Hearing.{heard_of}
use Rattle.carry_said.specs.headline_site.headline.Protocol.{IsSite}
use Rattle.carry_said.specs.headline_site.headline.Stations.{Transaction}
use Rattle.carry_said.specs.headline_site.headline_bacnet.Protocol.{HasContents, bacnet}
use Rattle.carry_said.specs.headline_site.headline_bacnet.Refined.{ObjectSite}
use Rattle.carry_said.specs.headline_site.headline_bacnet.Stations.{longest_of}
use Rattle.carry_said.proofs.headline_site.headline_client.Hears.{body_is}
use Rattle.carry_said.proofs.headline_site.headline_client.Places.{all_at, has_seen}
use Rattle.carry_said.specs.headline_site.headline_client.Laws.{IsClient}
use Rattle.carry_said.specs.headline_site.headline_client.Safe.{safe_transaction, station_of}
use Rattle.carry_said.proofs.headline_site.Reached.{answers_whole_at, reached_by}
use Rattle.carry_said.specs.headline_site.AllStations.{AllStations}
use Rattle.history.specs.Book.{Answer}
use Rattle.history.specs.Lists.{Has}
use Rattle.inside.specs.Inside.{Said}
use Rattle.npdu.specs.declared.mac.Station.{Station}
use Rattle.primitives.specs.declared.plain_data.Request.{Request}
use Rattle.services.specs.Asked.{service_asked}

module _ {A : Type 0} where
  -- of a world that is seen as stations
  executed_at : (s : ObjectSite A) (w : AllStations A) (ts : List (Thing A)) (l : List Said) → Inv s w ts l → IsSite (bacnet A) s →
      WholeIsExecuted (kept_of w ts l)
  executed_at s w ts l inv site place c p x there delivered comes =
      let n : Internetwork A = record { world = w; things = ts; said = l } in
      let was = client_brings s n inv place c p there (record {
        thing = delivered.thing;
        there = delivered.there;
        on = delivered.on;
        bears = delivered.bears;
        reaches = delivered.reaches;
        young = delivered.young;
      }) comes.heard _ comes.brings comes.content in
      let is : IsClient longest_of w.core c = all_at (λ z. IsClient longest_of w.core z) w.clients place c inv.stands.clients there in
      let o = x.taking.transaction in
      let told : WasTold longest_of w.core (station_of c) c.machine x =
      came_told longest_of w.core (station_of c) c.machine was.message was.heard comes.heard.station (heard_of comes.apdu)
      (body_is A (longest_of (station_of c)) comes.apdu was.message.body comes.named was.body) x comes.whole in
      let opened : Has (w.core.clients (station_of c)).transactions (safe_transaction longest_of o) =
      subst (λ (l : List (Transaction Station (Request A))). Has l (safe_transaction longest_of o)) (sym (ap (λ (z : _). z.transactions) is.seen))
      (has_seen (safe_transaction longest_of) c.machine.open_ones o told.there) in
      let q = answers_whole_at longest_of s w site (reached_by s w.core inv.refined) inv.stands (station_of c) (safe_transaction longest_of o)
      told.answer opened told.told in
      record {
        there = told.there;
        i = q.of.i;
        instance = q.of.instance;
        issued = q.of.moment;
        last = last_same (station_of c) o.invoke_id w.core.book.issues ∙ q.of.last;
        issue = q.of.issue;
        reply = q.reply;
        done = q.moment;
        executed = q.executed;
        contents = subst (λ (a : Answer). HasContents (service_asked o.request) a x.contents) q.whole told.has;
      }

  seen_of : (s : ObjectSite A) (w v : PlainWorld A) → Seen s w → (to : StepsTo s w v) → Seen s v
  seen_of s w v seen to = subst (λ (z : PlainWorld A). Seen s z) (sym to.last) (all_seen s to.between w seen to.steps)

  pub whole_is_executed : Always A (λ s w. WholeIsExecuted w)
  whole_is_executed s w v site fresh to =
      let seen = seen_of s w v (fresh_seen s w fresh) to in
      subst (λ (z : PlainWorld A). WholeIsExecuted z) (sym seen.is) (executed_at s seen.world v.things v.said seen.inv site)
