-- Each step of a client is honest: the laws that the functions of the crate state.
use Rattle.std.proofs.Common.{true, false, refl, sym, subst, map}
use Rattle.bindings.specs.Binding.{binding_of}
use Rattle.client.specs.Client.{ClientState}
use Rattle.client.specs.client_tsm.Client.{never_given}
use Rattle.client.specs.client_tsm.Issuing.{issued}
use Rattle.headline.specs.Happenings.{Says_other}
use Rattle.history.specs.Book.{Broadcast}
use Rattle.history.specs.Lists.{Has}
use Rattle.headline_bacnet.proofs.Refining.{refined_one}
use Rattle.headline_bacnet.specs.Protocol.{bacnet}
use Rattle.headline_client.specs.Kept.{Leads}
use Rattle.headline_client.specs.Laws.{HearingIsHonest, IssueIsHonest, IssuesHonestly, StartsWell, WakingIsHonest, WhoIsIsHonest}
use Rattle.headline_client.specs.Safe.{safe_binding, station_of}
use Rattle.headline_client.proofs.Acting.{IsAt}
use Rattle.headline_client.proofs.Hears.{hears}
use Rattle.headline_client.proofs.Issuing.{binding_found, issue, issue_kept, issue_written, not_refused}
use Rattle.headline_client.proofs.Places.{all_has, has_seen}
use Rattle.headline_client.proofs.Waking.{wake}

pub hearing : {A : Type 0} → HearingIsHonest A
hearing own s w from to npdu c told next at said h = hears own s w c at from to npdu told next said h

pub waking : {A : Type 0} → WakingIsHonest A
waking own s w c at =
    let acted = wake own s w (station_of c) c.bindings c.machine (record { seen = at.seen; kept = at.kept.transactions }) in
    record {
      parcels_are = refl;
      written = acted.written;
      refined = acted.refined;
      closed = acted.closed;
      stays = refl;
      kept = record { transactions = acted.kept; bindings = at.kept.bindings; code = at.kept.code };
    }

pub issuing : {A : Type 0} → IssueIsHonest A
issuing {A} own s w instance request c told next at sound free does =
    let now = w.book.moment in
    let b = does.binding in
    let found = binding_found instance c.bindings b does.held in
    let leads = all_has (Leads c.net) c.bindings b at.kept.bindings found.there in
    let can = not_refused now request c.machine (binding_of instance c.bindings) b does.held free in
    let its : IsAt own s w (station_of c) c.bindings c.machine = record { seen = at.seen; kept = at.kept.transactions } in
    let bound : Has (map safe_binding c.bindings) (record { instance = instance; station = b.bound.station }) =
    subst (λ n. Has (map safe_binding c.bindings) (record { instance = n; station = b.bound.station })) found.instance_is
    (has_seen safe_binding c.bindings b found.there) in
    subst (λ (x : ClientState A). IssuesHonestly own s w instance request b.bound c (issued now request b.bound c.machine).said told.said x) (sym does.left)
    (record {
      parcels_are = does.said;
      written = issue_written own s w (station_of c) c.bindings c.machine its at.kept.code instance request b.bound can leads;
      stays = refl;
      refined = issue own s w (station_of c) c.bindings c.machine its at.kept.code instance request b.bound sound can bound leads;
      kept = record {
        transactions = issue_kept own s w (station_of c) c.bindings c.machine its at.kept.code instance request b.bound can leads;
        bindings =
            at.kept.bindings;
        code = at.kept.code;
      };
    })

pub who_is : {A : Type 0} → WhoIsIsHonest A
who_is {A} s w c = refined_one (bacnet A) s w (Says_other c Broadcast) tt

pub starts : {A : Type 0} → StartsWell A
unfolding never_given
starts own address true max_apdu code = (refl, record { transactions = tt; bindings = tt; code = code })
starts own address false max_apdu code = (refl, record { transactions = tt; bindings = tt; code = code })
