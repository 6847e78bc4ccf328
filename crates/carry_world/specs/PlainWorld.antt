-- A world as it is kept: its moment, its stations, what was sent and said, and the history; no book.
use Rattle.std.specs.Prelude.{◌≡◌, ◌⊎◌, ℕ, suc, ◌+◌, ◌≤◌, ◌==◌, ◌&&◌, cond, List, [], ◌∷◌, ◌++◌, map, Option, Some}
use Rattle.std.specs.Prelude.{None}
use Rattle.carry.specs.Passing.{PutsOut}
use Rattle.carry.specs.Things.{Bears, Thing, net_of}
use Rattle.carry_said.specs.client.Client.{ClientState}
use Rattle.carry_said.specs.client_tsm.declared.plan.TransactionOutcome.{TransactionOutcome}
use Rattle.carry_said.specs.device.Device.{DeviceState}
use Rattle.carry_said.specs.headline_site.headline.Happenings as core
use Rattle.carry_said.specs.headline_site.headline.Happenings.{closing}
use Rattle.history.specs.Book.{Issued}
use Rattle.history.specs.Lists.{Has, first_of}
use Rattle.profile.specs.Times.{LIFE_MS}
use Rattle.history.specs.declared.Entry.{Entry}
use Rattle.history.specs.declared.Entry.TheVariants.{Executed}
use Rattle.inside.specs.Inside.{AreInside, Reaches, Said}
use Rattle.npdu.specs.Mac.{same_station}
use Rattle.npdu.specs.declared.mac.Mac.{Mac}
use Rattle.npdu.specs.declared.mac.Station.{Station}
use Rattle.npdu.specs.declared.parcel.Parcel.{Parcel}
use Rattle.primitives.specs.declared.plain_data.Reply.{Reply}
use Rattle.primitives.specs.declared.plain_data.Request.{Request}
use Rattle.carry_said.specs.server_answers.Executed as told
use Rattle.carry_said.specs.headline_site.headline_client.Told.{outcome_of}

-- who issued, and under which invoke ID
pub record Key : Type 0 where
  pub client : Station
  pub invoke_id : ℕ

-- keys: of each issue, in order
pub record PlainWorld (A : Type 0) : Type 0 where
  pub moment : ℕ
  pub clients : List (ClientState A)
  pub devices : List (DeviceState A)
  pub keys : List Key
  pub history : List (Entry Station (Request A) (Reply A))
  pub things : List (Thing A)
  pub said : List Said

-- the number of the last issue of a client under an invoke ID, where the first of the list has the number n
abbrev pub last_key_from : ℕ → Station → ℕ → List Key → Option ℕ
last_key_from n client id [] = None
last_key_from n client id (k ∷ ks) =
    first_of (last_key_from (suc n) client id ks)
    (cond (same_station k.client client && (k.invoke_id == id)) (Some n) None)

abbrev pub last_key : Station → ℕ → List Key → Option ℕ
last_key client id keys = last_key_from 0 client id keys

-- the history once a device told that it executed this, or nothing: it is an entry of the asker's last issue under its
-- invoke ID, and none where there is no such issue
abbrev pub executed_told : {A : Type 0} → ℕ → Option (told.Executed A) → List Key →
    List (Entry Station (Request A) (Reply A)) → List (Entry Station (Request A) (Reply A))
executed_told now None keys h = h
executed_told now (Some x) keys h =
    core.told (λ i. Executed i x.reply now) (last_key x.asker.station x.asker.invoke_id keys) h

-- the history once a client told of these outcomes: each is of its last issue under that invoke ID
abbrev pub outcomes_told : {A : Type 0} → Station → ℕ → List Key → List (TransactionOutcome A) →
    List (Entry Station (Request A) (Reply A)) → List (Entry Station (Request A) (Reply A))
outcomes_told c now keys [] h = h
outcomes_told c now keys (t ∷ ts) h =
    outcomes_told c now keys ts
    (core.told (closing (outcome_of t.outcome) now) (last_key c t.invoke_id keys) h)

-- a thing on this network that reaches the station with this address, at most LIFE_MS old, bears this parcel
pub record Delivers {A : Type 0} (w : PlainWorld A) (net : ℕ) (mac : Mac) (p : Parcel A) : Type 0 where
  pub thing : Thing A
  pub there : Has w.things thing
  pub on : net_of thing ≡ net
  pub bears : Bears thing p
  pub reaches : Reaches p.to mac
  pub young : w.moment ≤ p.stamp + LIFE_MS

-- what is said in these parcels on this network is put out, and stands behind all that was said before
pub record Puts {A : Type 0} (w v : PlainWorld A) (net : ℕ) (ps : List (Parcel A)) : Type 0 where
  pub fresh : List Said
  pub insides : AreInside net ps fresh
  pub said : v.said ≡ w.said ++ fresh
  pub grows : (t : Thing A) → Has v.things t → Has w.things t ⊎ PutsOut net ps t
