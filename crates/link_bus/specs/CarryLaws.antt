-- Laws: a port on a bus of MS/TP keeps the law of a link.
use Rattle.std.proofs.Common.{◌≡◌, ◌≢◌, ⊎_elim, ◌∙◌, sym, ap, subst, refl, arith, ℕ, ◌≤◌, ◌==◌, ◌&&◌, Bool, true, false}
use Rattle.std.proofs.Common.{if◌then◌else◌, cond, List, [], ◌∷◌, ◌++◌, length, Some, None}
use Rattle.std.proofs.lemmas.Bool.{eqb-true, ne_eqb}
use Rattle.std.specs.Prelude.{Option}
use Rattle.carry.proofs.Frames.{stamp_is_borne}
use Rattle.carry.proofs.Passed.{none_some}
use Rattle.carry.specs.Frames as carry
use Rattle.carry.specs.Frames.{IsFrameOf, carried_if, carried_in, framed_to}
use Rattle.carry.specs.Things.{SentFrame}
use Rattle.history.proofs.HasLaws.{has_map, map_has}
use Rattle.history.proofs.Lists.{has_cons, has_front, none_has}
use Rattle.history.specs.Lists.{Has}
use Rattle.inside.proofs.Insides.{some_same}
use Rattle.inside.specs.Inside.{Reaches}
use Rattle.link.specs.Carrying.{AreKept, CarriesDown, CarriesOn, CarriesUp, HandsUpIf, PutAll, Puts, Restarts, nothing}
use Rattle.link.specs.Limits.{is_target, max_npdu_at}
use Rattle.link.specs.Step.{LinkStep}
use Rattle.link.specs.declared.step.Change.TheVariants.{Nothing}
use Rattle.link.specs.declared.step.Sent.{Sent}
use Rattle.mstp_frame.proofs.Spellings.{canonical_spells, one_frame}
use Rattle.mstp_frame.specs.Frame.{PlainFrame, Spells, canonical}
use Rattle.mstp_frame.specs.FrameType.{IsNamed, type_number}
use Rattle.mstp_frame.specs.declared.frame_type.FrameType.{FrameType}
use Rattle.mstp_frame.specs.declared.frame_type.FrameType.TheVariants as type
use Rattle.mstp_table.proofs.Hearing.{hands_up_data, idles_until_due, queued_waits}
use Rattle.mstp_table.proofs.Rounds.{each_is_round, keeps_place, queue_came}
use Rattle.mstp_table.specs.Laws.{BringsData, IsControl, IsOfWaiting, IsRound, PassesOrPolls, Queues, is_data}
use Rattle.mstp_table.specs.Laws.{may_say_data, moment_of as moment_at}
use Rattle.mstp_table.specs.Node.{ALL_NODES, IsForBus, NamedFrame, NodeState, Outcome, PutOut, all_sent, parcel_of}
use Rattle.mstp_table.specs.Node.{parcels_in, plain, sent, whom}
use Rattle.mstp_table.specs.Table as table
use Rattle.mstp_table.specs.Table.{Input, Queued, Octets, Frame, Tick, data_of, quiet}
use Rattle.mstp_table.specs.declared.state.Whom.TheVariants.{ToUs, ToAll, ToOthers}
use Rattle.mstp_table.specs.declared.waiting.Waiting.{Waiting}
use Rattle.npdu.specs.Mac.{same_mac}
use Rattle.npdu.specs.declared.mac.Mac.{Mac}
use Rattle.npdu.specs.declared.mac.Mac.TheVariants.{One, Six}
use Rattle.npdu.specs.declared.mac.Target.TheVariants as target
use Rattle.npdu.specs.declared.parcel.Parcel.{Parcel}
use Rattle.link_bus.specs.FrameLaws.{canonical_once}
use Rattle.link_bus.specs.Laws.{DataCarry}
use Rattle.link_bus.specs.Port.{BusPortState, at_moment, changed, moment_of, restarted, station_of, waiting_in}
use Rattle.link_bus.specs.Port.{with_node}
use Rattle.link_bus.specs.Steps.{Counts, Does, Downs, Hears, HearsFrame, HearsNone, Idles, IsOnBus, Wakes, handed_up}
use Rattle.link_bus.specs.Steps.{is_due, is_taken, queued_if}

false_true : false ≡ true → ⊥
false_true e = cc

-- a type that has a name is one of data by its name and by its number
same_kind : (kind : FrameType) → IsNamed kind → carry.is_data (type_number kind) ≡ is_data kind
same_kind (type.Other n) named = rw (
  ne_eqb n 5 (λ e. omega (arith, named, e)),
  ne_eqb n 6 (λ e. omega (arith, named, e)),
) refl
same_kind type.BacnetDataExpectingReply named = refl
same_kind type.BacnetDataNotExpectingReply named = refl
same_kind type.Token named = refl
same_kind type.PollForMaster named = refl
same_kind type.ReplyToPollForMaster named = refl
same_kind type.TestRequest named = refl
same_kind type.TestResponse named = refl
same_kind type.ReplyPostponed named = refl

data_named : (kind : FrameType) → is_data kind ≡ true → IsNamed kind
data_named (type.Other n) e = absurd (false_true e)
data_named type.BacnetDataExpectingReply e = tt
data_named type.BacnetDataNotExpectingReply e = tt
data_named type.Token e = tt
data_named type.PollForMaster e = tt
data_named type.ReplyToPollForMaster e = tt
data_named type.TestRequest e = tt
data_named type.TestResponse e = tt
data_named type.ReplyPostponed e = tt

-- a frame that is for a node here, or for all, is for a target that reaches this node
reaches_by : (ts destination : ℕ) (ours all : Bool) → (destination == ts) ≡ ours →
    (if ours then ToUs else if all then ToAll else ToOthers) ≢ ToOthers →
    Reaches (cond all target.All (target.One (One destination))) (One ts)
reaches_by ts destination ours true e other = tt
reaches_by ts destination true false e other = ap (λ (n : ℕ). One n) (eqb-true destination ts e)
reaches_by ts destination false false e other = absurd (other refl)

reaches_it : (ts destination : ℕ) → whom ts destination ≢ ToOthers → Reaches (framed_to destination) (One ts)
reaches_it ts destination other = reaches_by ts destination (destination == ts) (destination == ALL_NODES) refl other

-- addresses with the same octets are one
from_here : (from : Mac) (ts : ℕ) → same_mac from (One ts) ≡ true → from ≡ One ts
from_here (One octet) ts e = ap (λ (n : ℕ). One n) (eqb-true octet ts e)
from_here (Six octets) ts e = absurd (false_true e)

both_true : (a b : Bool) → (a && b) ≡ true → (a ≡ true) × (b ≡ true)
both_true true b e = (refl, e)
both_true false b e = absurd (false_true e)

module _ {A : Type 0} where
  pub one_parcel : (from to : Mac) (octets : List ℕ) (stamp : ℕ) (p q : Parcel A) → IsOnBus from to octets stamp p →
      IsOnBus from to octets stamp q → p ≡ q
  one_parcel from to octets stamp p q a b =
      let same : a.frame ≡ b.frame = one_frame octets a.frame b.frame a.spelled b.spelled in
      some_same p q (sym a.carries ∙ ap (λ (f : PlainFrame). carried_in stamp f) same ∙ b.carries)

  pub keeps_stamp : (from to : Mac) (octets : List ℕ) (stamp : ℕ) (p : Parcel A) → IsOnBus from to octets stamp p →
      p.stamp ≡ stamp
  keeps_stamp from to octets stamp p is = stamp_is_borne (SentFrame 0 octets stamp) p is

  none_put : (from : Mac) (among : List (Parcel A)) → PutAll IsOnBus from among []
  none_put from among = record { each = λ s there. absurd (none_has there) }

  -- what the octets of a frame that is put out carry the frame carries
  is_carried : (o : PutOut) (p : Parcel A) → IsFrameOf (canonical (plain o.frame)) o.stamp p →
      carried_in o.stamp (plain o.frame) ≡ Some p
  is_carried o p b = ap (λ (f : PlainFrame). carried_in o.stamp f) (canonical_once (plain o.frame) b.frame b.spelled)
      ∙ b.carries

  -- of one that waits: its parcel
  waiting_puts : (s : NodeState A) (now : ℕ) (o : PutOut) → IsOfWaiting now s.ts s.queue o → (from : Mac) →
      Puts IsOnBus from (parcels_in s) (sent o)
  waiting_puts s now o w from = record {
    only = λ p b.
        let kind : carry.is_data (type_number w.kind) ≡ true = same_kind w.kind (data_named w.kind w.is_data)
        ∙ w.is_data in
        let is : carried_in w.waiting.stamp (plain (data_of w.kind s.ts w.waiting).frame) ≡ Some p =
        subst (λ (x : PutOut). carried_in x.stamp (plain x.frame) ≡ Some p) w.is (is_carried o p b) in
        let same : parcel_of s.ts w.waiting ≡ p =
        some_same (parcel_of s.ts w.waiting) p
        (sym (ap (λ t. carried_if t w.waiting.stamp (plain (data_of w.kind s.ts w.waiting).frame)) kind) ∙ is) in
        subst (λ (x : Parcel A). Has (parcels_in s) x) same (has_map (parcel_of s.ts) s.queue w.waiting w.queued);
  }

  -- .. and that is what it carries
  pub data_carries : DataCarry A
  data_carries ts kind w is_of_data sound = record {
    frame = plain (data_of kind ts w).frame;
    spelled = canonical_spells (plain (data_of kind ts w).frame) sound;
    carries = ap (λ t. carried_if t w.stamp (plain (data_of kind ts w).frame))
        (same_kind kind (data_named kind is_of_data) ∙ is_of_data);
  }

  -- a frame of another type carries none
  other_puts : (o : PutOut) → is_data o.frame.frame_type ≡ false → IsNamed o.frame.frame_type →
      (from : Mac) (among : List (Parcel A)) →
      Puts IsOnBus from among (sent o)
  other_puts o kind named from among = record {
    only = λ p b. absurd (none_some p
        (sym (ap (λ t. carried_if t o.stamp (plain o.frame)) (same_kind o.frame.frame_type named ∙ kind))
        ∙ is_carried o p b));
  }

  control_puts : (now ts : ℕ) (o : PutOut) → IsControl now ts o → (from : Mac) (among : List (Parcel A)) →
      Puts IsOnBus from among (sent o)
  control_puts now ts o c from among = other_puts o c.kind c.named from among

  passing_puts : (now ts : ℕ) (o : PutOut) → PassesOrPolls now ts o → (from : Mac) (among : List (Parcel A)) →
      Puts IsOnBus from among (sent o)
  passing_puts now ts o c from among = ⊎_elim
      (λ (e : o.frame.frame_type ≡ type.Token). other_puts o (ap is_data e) (subst IsNamed (sym e) tt) from among)
      (λ (e : o.frame.frame_type ≡ type.PollForMaster). other_puts o (ap is_data e)
      (subst IsNamed (sym e) tt) from among)
      c.kind

  -- one frame behind which there are others that carry what waits, or nothing
  put_cons : (from : Mac) (among : List (Parcel A)) (x : Sent A) (xs : List (Sent A)) → Puts IsOnBus from among x →
      PutAll IsOnBus from among xs → PutAll IsOnBus from among (x ∷ xs)
  put_cons from among x xs one more = record {
    each = λ y there. ⊎_elim (λ (e : x ≡ y). subst (λ (z : Sent A). Puts IsOnBus from among z) e one)
        (λ (h : Has xs y). more.each y h) (has_cons x xs there);
  }

  round_puts : (may : Bool) (now : ℕ) (s : NodeState A) (os : List PutOut) → IsRound may now s.ts s.queue os →
      (from : Mac) →
      PutAll IsOnBus from (parcels_in s) (all_sent os)
  round_puts may now s [] r from = none_put from (parcels_in s)
  round_puts may now s (o ∷ []) r from = put_cons from (parcels_in s) (sent o) [] (⊎_elim
      (λ (d : (may ≡ true) × IsOfWaiting now s.ts s.queue o). waiting_puts s now o d.1 from)
      (λ (c : IsControl now s.ts o). control_puts now s.ts o c from (parcels_in s)) r)
      (none_put from (parcels_in s))
  round_puts may now s (o ∷ (p ∷ [])) r from = put_cons from (parcels_in s) (sent o) (sent p ∷ [])
      (waiting_puts s now o r.1 from)
      (put_cons from (parcels_in s) (sent p) [] (passing_puts now s.ts p r.2 from (parcels_in s))
      (none_put from (parcels_in s)))
  round_puts may now s (o ∷ (p ∷ (q ∷ more))) r from = absurd r

  -- what is put out at an input carries what waited, or nothing
  input_puts : (s : NodeState A) (i : Input A) (from : Mac) →
      PutAll IsOnBus from (parcels_in s) (all_sent (table.step s i).frames)
  input_puts s i from = round_puts (may_say_data s i) (moment_at s i) s (table.step s i).frames (each_is_round s i) from

  -- what waits after an input waited before, where nothing is queued
  input_keeps : (s : NodeState A) (i : Input A) → ((w : Waiting A) → Queues i w → ⊥) →
      AreKept (parcels_in (table.step s i).left) (parcels_in s)
  input_keeps s i none = record {
    each = λ p there.
        let found = map_has (parcel_of (table.step s i).left.ts) (table.step s i).left.queue p there in
        let before : Has s.queue found.0 = ⊎_elim (λ (h : Has s.queue found.0). h) (λ (q : Queues i found.0). absurd
        (none found.0 q)) (queue_came s i found.0 found.1) in
        let same : parcel_of s.ts found.0 ≡ p = ap (λ ts. parcel_of ts found.0) (sym (keeps_place s i).0) ∙ found.2 in
        subst (λ (x : Parcel A). Has (parcels_in s) x) same (has_map (parcel_of s.ts) s.queue found.0 before);
  }

  module _ (now : ℕ) (i : Input A) (old : BusPortState A) (at : moment_at old.node i ≡ now)
      (none : (w : Waiting A) → Queues i w → ⊥)
      (brings : Option (Parcel A)) (step : LinkStep A) (new : BusPortState A)
      (d : Does (table.step old.node i) brings old step new) where
    does_put : PutAll IsOnBus (station_of old).mac (waiting_in old) step.out
    does_put = subst (λ out. PutAll IsOnBus (station_of old).mac (waiting_in old) out) (sym d.puts)
        (input_puts old.node i (station_of old).mac)

    does_keep : AreKept (waiting_in new) (waiting_in old)
    does_keep = subst (λ (port : BusPortState A). AreKept (waiting_in port) (waiting_in old)) (sym d.left)
        (input_keeps old.node i none)

    does_stay : station_of new ≡ station_of old
    does_stay = ap station_of d.left ∙ ap (λ ts. record { net = old.net; mac = One ts }) (keeps_place old.node i).0

    does_come : moment_of new ≡ now
    does_come = ap moment_of d.left ∙ (keeps_place old.node i).1 ∙ at

  -- the law of a call that hands nothing up
  does_on : (now : ℕ) (i : Input A) (old : BusPortState A) → moment_at old.node i ≡ now →
      ((w : Waiting A) → Queues i w → ⊥) → (step : LinkStep A) →
      (new : BusPortState A) → Does (table.step old.node i) None old step new →
      CarriesOn IsOnBus station_of moment_of waiting_in now old step new
  does_on now i old at none step new d = record {
    puts = does_put now i old at none None step new d;
    kept = does_keep now i old at none None step new d;
    silent = d.up;
    place = does_stay now i old at none None step new d;
    at = does_come now i old at none None step new d;
  }

  pub carries_on : (now : ℕ) (old : BusPortState A) (step : LinkStep A) (new : BusPortState A) →
      Wakes now old step new →
      CarriesOn IsOnBus station_of moment_of waiting_in now old step new
  carries_on now old step new w = does_on now (Tick now) old refl (λ x q. q) step new w

  pub carries_counting : (count now : ℕ) (old : BusPortState A) (step : LinkStep A) (new : BusPortState A) →
      Counts count now old step new →
      CarriesOn IsOnBus station_of moment_of waiting_in now old step new
  carries_counting count now old step new c = does_on now (Octets count now) old refl (λ x q. q) step new c

  all_kept : (ps : List (Parcel A)) → AreKept ps ps
  all_kept ps = record { each = λ p there. there }

  pub carries_registering : (now : ℕ) (old : BusPortState A) (step : LinkStep A) (new : BusPortState A) →
      Idles now old step new →
      CarriesOn IsOnBus station_of moment_of waiting_in now old step new
  carries_registering now old step new i = record {
    puts = subst (λ (s : LinkStep A). PutAll IsOnBus (station_of old).mac (waiting_in old) s.out) (sym i.nothing)
        (none_put (station_of old).mac (waiting_in old));
    kept = subst (λ (port : BusPortState A). AreKept (waiting_in port) (waiting_in old)) (sym i.left)
        (all_kept (waiting_in old));
    silent = ap (λ (s : LinkStep A). s.up) i.nothing;
    place = ap station_of i.left;
    at = ap moment_of i.left;
  }

  -- a parcel that is taken may be queued
  may_be_queued : (s : NodeState A) (p : Parcel A) → is_taken (One s.ts) p ≡ true →
      length p.npdu ≤ max_npdu_at (One s.ts) → IsForBus s.ts p
  may_be_queued s p taken fits =
      let both = both_true (same_mac p.from (One s.ts)) (is_target (One s.ts) p.to) taken in
      record { from = from_here p.from s.ts both.0; to = both.1; size = fits }

  queued_keeps : (s : NodeState A) (p : Parcel A) (now : ℕ) (taken : Bool) → is_taken (One s.ts) p ≡ taken →
      length p.npdu ≤ max_npdu_at (One s.ts) →
      AreKept (parcels_in (queued_if taken p (table.at_moment s now))) (parcels_in s ++ p ∷ [])
  queued_keeps s p now true taken fits = record {
    each = λ q there. subst (λ ps. Has ps q) (queued_waits (table.at_moment s now) p
        (may_be_queued (table.at_moment s now) p taken fits)) there;
  }
  queued_keeps s p now false taken fits = record { each = λ q there. has_front (parcels_in s) (p ∷ []) there }

  -- a parcel that is queued moves neither the node nor its moment
  queued_stays : (s : NodeState A) (p : Parcel A) (taken : Bool) →
      ((queued_if taken p s).ts ≡ s.ts) × ((queued_if taken p s).moment ≡ s.moment)
  queued_stays s p true = keeps_place s (Queued p)
  queued_stays s p false = (refl, refl)

  pub carries_down : (now : ℕ) (p : Parcel A) (old : BusPortState A) (step : LinkStep A) (new : BusPortState A) →
      Downs now p old step new →
      CarriesDown IsOnBus station_of moment_of waiting_in now p old step new
  carries_down now p old step new d =
      let taken = is_taken (station_of old).mac p in
      let stays = queued_stays (at_moment now old).node p taken in
      record {
        puts = subst (λ (s : LinkStep A). PutAll IsOnBus (station_of old).mac (waiting_in old ++ p ∷ []) s.out)
            (sym d.nothing)
            (none_put (station_of old).mac (waiting_in old ++ p ∷ []));
        kept = subst (λ (port : BusPortState A). AreKept (waiting_in port) (waiting_in old ++ p ∷ [])) (sym d.left)
            (queued_keeps old.node p now taken refl d.fits);
        silent = ap (λ (s : LinkStep A). s.up) d.nothing;
        place = ap station_of d.left ∙ ap (λ ts. record { net = old.net; mac = One ts }) stays.0;
        at = ap moment_of d.left ∙ stays.1;
      }

  -- what the node hands up is what the octets carry, for a target that reaches it
  hands_up : (s : NodeState A) (f : NamedFrame) (now stamp : ℕ) (from : Mac) (octets : List ℕ) →
      Spells octets (plain f) → (up : Bool) →
      (table.step s (Frame f now)).up ≡ up →
      HandsUpIf (IsOnBus {A = A}) from (One s.ts) octets stamp (handed_up up stamp f)
  hands_up s f now stamp from octets spelled false e = tt
  hands_up s f now stamp from octets spelled true e =
      let brings : BringsData s (Frame f now) = hands_up_data s (Frame f now) e in
      let kind : carry.is_data (type_number f.frame_type) ≡ true = same_kind f.frame_type
      (data_named f.frame_type brings.0) ∙ brings.0 in
      record {
        carried = record {
          frame = plain f;
          spelled = spelled;
          carries = ap (λ t. carried_if t stamp (plain f)) kind;
        };
        reaches = reaches_it s.ts f.destination brings.1;
      }

  idle_up : (now : ℕ) (from : Mac) (octets : List ℕ) (stamp : ℕ) (old : BusPortState A) (step : LinkStep A)
      (new : BusPortState A) → Idles now old step new →
      CarriesUp IsOnBus station_of moment_of waiting_in now from octets stamp old step new
  idle_up now from octets stamp old step new i =
      let on = carries_registering now old step new i in
      record {
        up = subst (λ x. HandsUpIf IsOnBus from (station_of old).mac octets stamp x) (sym on.silent) tt;
        puts = on.puts;
        kept = on.kept;
        place = on.place;
        at = on.at;
      }

  frame_up : (now : ℕ) (from : Mac) (octets : List ℕ) (stamp : ℕ) (old : BusPortState A) (step : LinkStep A)
      (new : BusPortState A) →
      HearsFrame now octets stamp old step new →
      CarriesUp IsOnBus station_of moment_of waiting_in now from octets stamp old step new
  frame_up now from octets stamp old step new h =
      let i = Frame h.frame now in
      record {
        up = subst (λ x. HandsUpIf IsOnBus from (station_of old).mac octets stamp x) (sym h.does.up)
            (hands_up old.node h.frame now stamp from octets h.spelled (table.step old.node i).up refl);
        puts = does_put now i old refl (λ x q. q) _ step new h.does;
        kept = does_keep now i old refl (λ x q. q) _ step new h.does;
        place = does_stay now i old refl (λ x q. q) _ step new h.does;
        at = does_come now i old refl (λ x q. q) _ step new h.does;
      }

  pub carries_up : (now : ℕ) (from : Mac) (octets : List ℕ) (stamp : ℕ) (old : BusPortState A) (step : LinkStep A)
      (new : BusPortState A) →
      Hears now from octets stamp old step new →
      CarriesUp IsOnBus station_of moment_of waiting_in now from octets stamp old step new
  carries_up now (One from) octets stamp old step new h = ⊎_elim
      (λ (f : HearsFrame now octets stamp old step new). frame_up now (One from) octets stamp old step new f)
      (λ (n : HearsNone now octets old step new). idle_up now (One from) octets stamp old step new n.idles) h
  carries_up now (Six from) octets stamp old step new h = idle_up now (Six from) octets stamp old step new h

  pub forgets : (now : ℕ) (old : BusPortState A) →
      Restarts station_of moment_of (waiting_in {A = A}) now old (restarted now old)
  forgets now old = record { place = refl; at = refl; none = refl }

  step_is : (step : LinkStep A) → step.up ≡ None → step.out ≡ [] → step ≡ nothing
  step_is step up out = ap (λ x. record { up = x; out = step.out }) up ∙ ap (λ x. record { up = None; out = x }) out

  pub idles : (now : ℕ) (old : BusPortState A) (step : LinkStep A) (new : BusPortState A) → is_due now old ≡ false →
      Wakes now old step new →
      (step ≡ nothing) × (new ≡ at_moment now old)
  idles now old step new none w =
      let still : table.step old.node (Tick now) ≡ quiet
      (table.at_moment old.node now) = idles_until_due old.node now none in (
        step_is step w.up (w.puts ∙ ap (λ (o : Outcome A). all_sent o.frames) still),
        w.left
            ∙ ap (λ (o : Outcome A). with_node old o.left) still,
      )

  pub stays : (now : ℕ) (old : BusPortState A) →
      (station_of (at_moment now old) ≡ station_of old) × (moment_of (at_moment now old) ≡ now) ×
      (waiting_in (at_moment now old) ≡ waiting_in old)
  stays now old = (refl, refl, refl)

  pub stands : (now : ℕ) (old : BusPortState A) → changed now old Nothing ≡ old
  stands now old = refl
