-- The keys of issues name the same last issue, and so the history grows by the same entries.
use Rattle.std.proofs.Common.{◌≡◌, ◌∙◌, refl, sym, ap, ℕ, suc, cond, List, [], ◌∷◌, ◌++◌, length, map, Option, Some, None}
use Rattle.std.specs.Prelude.{◌==◌, ◌&&◌}
use Rattle.carry_said.specs.client_tsm.declared.plan.TransactionOutcome.{TransactionOutcome}
use Rattle.carry_said.specs.device.Device.{DeviceState}
use Rattle.carry_said.specs.headline_site.headline.Happenings as core
use Rattle.carry_said.specs.headline_site.headline.Happenings.{closing}
use Rattle.history.specs.Book.{Book, Issued, last_from, last_issue}
use Rattle.history.specs.Lists.{first_of}
use Rattle.history.specs.declared.Entry.{Entry}
use Rattle.history.specs.declared.Entry.TheVariants.{Executed}
use Rattle.npdu.specs.Mac.{same_station}
use Rattle.npdu.specs.declared.mac.Station.{Station}
use Rattle.carry_said.specs.headline_site.headline_bacnet.Refined.{ObjectCore}
use Rattle.primitives.specs.declared.plain_data.Reply.{Reply}
use Rattle.primitives.specs.declared.plain_data.Request.{Request}
use Rattle.carry_said.specs.server_answers.Executed as told
use Rattle.carry_said.specs.headline_site.headline_client.Told.{outcome_of, told_of}
use Rattle.carry_said.specs.headline_site.headline_device.Devices.{Deed, after_deed, announces, idles, serves, told_of_deed}
use Rattle.carry_said.specs.headline_site.headline_server.Refines.{told_by}
use Rattle.carry_world.specs.PlainWorld.{Key, executed_told, last_key, last_key_from, outcomes_told}

abbrev pub key_of : {A : Type 0} → Issued Station (Request A) → Key
key_of x = record { client = x.client; invoke_id = x.invoke_id }

abbrev pub keys_of : {A : Type 0} → List (Issued Station (Request A)) → List Key
keys_of {A} xs = map (λ x. key_of {A = A} x) xs

last_from_same : {A : Type 0} (n : ℕ) (c : Station) (id : ℕ) (xs : List (Issued Station (Request A))) →
    last_key_from n c id (keys_of xs) ≡ last_from same_station n c id xs
last_from_same n c id [] = refl
last_from_same n c id (x ∷ xs) = ap (λ (o : Option ℕ). first_of o (cond (same_station x.client c && (x.invoke_id == id)) (Some n) None)) (last_from_same
    (suc n) c id xs)

pub last_same : {A : Type 0} (c : Station) (id : ℕ) (xs : List (Issued Station (Request A))) → last_key c id (keys_of xs) ≡ last_issue same_station c id xs
last_same c id xs = last_from_same 0 c id xs

pub outcomes_same : {A : Type 0} (c : Station) (now : ℕ) (xs : List (Issued Station (Request A))) (ts : List (TransactionOutcome A)) (h : List
    (Entry Station (Request A) (Reply A))) → outcomes_told c now (keys_of xs) ts h ≡ told_of c now xs ts h
outcomes_same c now xs [] h = refl
outcomes_same {A} c now xs (t ∷ ts) h =
    outcomes_same c now xs ts (core.told (closing (outcome_of t.outcome) now) (last_key c t.invoke_id (keys_of xs)) h)
    ∙ ap (λ (o : Option ℕ). told_of c now xs ts (core.told (closing (outcome_of t.outcome) now) o h)) (last_same c t.invoke_id xs)

-- what a deed leaves of the book
pub record IsLeft {A : Type 0} (b after : Book Station (Request A) (Reply A)) (x : Option (told.Executed A)) : Type 0 where
  pub moment : after.moment ≡ b.moment
  pub issues : after.issues ≡ b.issues
  pub history : after.history ≡ executed_told b.moment x (keys_of b.issues) b.history

told_left : {A : Type 0} (b : Book Station (Request A) (Reply A)) (x : Option (told.Executed A)) → IsLeft b (told_by x b) x
told_left b None = record { moment = refl; issues = refl; history = refl }
told_left {A} b (Some x) = record {
  moment = refl;
  issues = refl;
  history = ap (λ (o : Option ℕ). core.told (λ i. Executed i x.reply b.moment) o b.history) (sym (last_same x.asker.station x.asker.invoke_id b.issues));
}

pub deed_left : {A : Type 0} (d : DeviceState A) (deed : Deed A) (k : ObjectCore A) →
    IsLeft k.book (after_deed d deed k).book (told_of_deed k.book.moment d deed).executed
deed_left d (serves effects left) k = let t = told_left k.book effects.executed in record { moment = t.moment; issues = t.issues; history = t.history }
deed_left d announces k = record { moment = refl; issues = refl; history = refl }
deed_left d idles k = record { moment = refl; issues = refl; history = refl }

pub keys_length : {A : Type 0} (xs : List (Issued Station (Request A))) → length (keys_of xs) ≡ length xs
keys_length [] = refl
keys_length (x ∷ xs) = ap suc (keys_length xs)

pub keys_more : {A : Type 0} (xs : List (Issued Station (Request A))) (x : Issued Station (Request A)) → keys_of (xs ++ x ∷ []) ≡ keys_of xs ++ key_of x ∷ []
keys_more [] x = refl
keys_more (y ∷ xs) x = ap (λ (l : List Key). key_of y ∷ l) (keys_more xs x)
