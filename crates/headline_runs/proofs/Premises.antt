-- What comes of happenings that aren't honest: each premise that is left out breaks the promise.
use Rattle.std.proofs.Common.{refl, ℕ, ◌≤◌, List, [], ◌∷◌, ◌++◌, arith}
use Rattle.history.specs.declared.End.TheVariants.{TimedOut}
use Rattle.history.specs.Legal.{AreExecutedOnce, AnswersWereExecuted, AreClosedOnce, executes}
use Rattle.history.proofs.Lists.{one_counted}
use Rattle.headline.specs.Stations.{Transaction, Client, Record, Device, new_client}
use Rattle.headline.specs.Happenings.{Happening, Ticks, Issues, Client_asks, Client_becomes, Closes, Device_tells, Device_becomes, Executes, Announces}
use Rattle.headline.specs.Happenings.{Restarts, Whole, Gives, Fails, after_all}
use Rattle.headline.specs.Promised.{AreWhatExecutionsLeave}
use Rattle.headline_runs.specs.Small.{small, site}
use Rattle.headline_runs.proofs.Site.{client, open_five, done_five}

abbrev device : ℕ → Record ℕ → Device ℕ ℕ
device table k = record { records = k ∷ []; gatherings = []; table = table; deaf_until = 0 }

abbrev issued : List (Happening ℕ ℕ ℕ ℕ)
issued = Announces 9 10 ∷ Client_becomes 0 client ∷ Issues 0 9 10 5 100 100 ∷ Client_asks 0 open_five Whole ∷ []

abbrev executed : List (Happening ℕ ℕ ℕ ℕ)
executed = issued ++ Executes 9 5 done_five (device 5 done_five) ∷ []

-- a repeat is executed where a record of it lives
repeat_breaks : AreExecutedOnce (after_all small site (executed ++ Executes 9 5 done_five (device 5 done_five) ∷ [])).book.history → ⊥
repeat_breaks h = let l : 2 ≤ 1 = h 0 in absurd (omega arith)

-- .. or while the device should be deaf, after a restart
deaf_breaks : AreExecutedOnce (after_all small site (executed ++ Restarts 9 10 ∷ Executes 9 5 done_five (device 5 done_five) ∷ [])).book.history → ⊥
deaf_breaks h = let l : 2 ≤ 1 = h 0 in absurd (omega arith)

-- .. or where the request is heard that late that its record has died
abbrev done_late : Record ℕ
done_late = record done_five { moment = 13001 }

late_breaks : AreExecutedOnce (after_all small site
    (executed ++ Ticks 13001 ∷ Device_becomes 9 (record (device 5 done_five) { records = [] }) ∷ Executes 9 5 done_late (device 5 done_late) ∷
    [])).book.history → ⊥
late_breaks h = let l : 2 ≤ 1 = h 0 in absurd (omega arith)

-- another request is executed than the one that was issued
other_request_breaks : AreWhatExecutionsLeave small site (after_all small site (issued ++ Executes 9 6 done_five (device 6 done_five) ∷ [])) → ⊥
other_request_breaks h = let e = (h 9 10 refl).0 in absurd (cc)

-- the table stays as it was
table_kept_breaks : AreWhatExecutionsLeave small site (after_all small site (issued ++ Executes 9 5 done_five (device 0 done_five) ∷ [])) → ⊥
table_kept_breaks h = let e = (h 9 10 refl).1 in absurd (cc)

-- the device announces another instance, and executes what was issued to that
abbrev client_misled : Client ℕ ℕ
client_misled = record new_client { bindings = record { instance = 11; station = 9 } ∷ [] }

other_instance_breaks : AreWhatExecutionsLeave small site
    (after_all small site (Announces 9 11 ∷ Client_becomes 0 client_misled ∷ Issues 0 9 11 5 100 100 ∷ Client_asks 0 open_five Whole ∷ Executes 9 5 done_five
    (device 5 done_five) ∷ [])) → ⊥
other_instance_breaks h = let e = h 9 10 refl in absurd (cc)

-- a transaction closes that isn't there any more
closed_breaks : AreClosedOnce (after_all small site (executed ++ Closes 0 [] open_five [] (Gives 5) ∷ Closes 0 [] open_five [] (Gives 5) ∷ [])).book.history → ⊥
closed_breaks h = let l : 2 ≤ 1 = h 0 in absurd (omega arith)

-- an invoke ID is given again while a record of it lives: the old answer is taken for that of the new request
abbrev open_seven : Transaction ℕ ℕ
open_seven = record open_five { request = 7 }

abbrev early : List (Happening ℕ ℕ ℕ ℕ)
early = executed ++ Closes 0 [] open_five [] (Fails TimedOut) ∷ Client_becomes 0 client ∷ Issues 0 9 10 7 100 100 ∷ Device_tells 9 done_five Whole ∷ Closes 0
    [] open_seven [] (Gives 5) ∷ []

early_id_breaks : AnswersWereExecuted (after_all small site early).book.history → ⊥
early_id_breaks h =
    let a = h 4 1 5 0 refl in
    let l : 1 ≤ 0 = one_counted (executes 1) (after_all small site early).book.history a.there.place _ a.there.at_place refl in
    absurd (omega arith)
