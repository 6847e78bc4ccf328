-- Lemmas on how a station goes on: ways that come up in every step.
use Rattle.std.proofs.Common.{◌+◌, List, [], ◌∷◌, ◌++◌, refl, inl}
use Rattle.std.specs.Prelude.{filter}
use Rattle.std.proofs.lemmas.Bool.{le-leb}
use Rattle.profile.specs.Times.{KEEP_MS}
use Rattle.history.specs.Book.{Book}
use Rattle.history.proofs.Lists.{filter_has, has_filter}
use Rattle.headline.specs.Stations.{Transaction, Record, Device}
use Rattle.headline.specs.Records.{lives}
use Rattle.headline.specs.Honest.{GoesOn, AllGoOn, DeviceGoesOn}

-- all transactions stay
pub all_stay : {S Q R : Type 0} (b : Book S Q R) (c : S) (os : List (Transaction S Q)) → AllGoOn b c os os
all_stay b c [] = tt
all_stay b c (o ∷ os) = (inl refl, all_stay b c os)

-- one goes on, at its place
pub one_goes_on : {S Q R : Type 0} (b : Book S Q R) (c : S) (front : List (Transaction S Q)) (o next : Transaction S Q) (rest : List (Transaction S Q)) →
    GoesOn b c o next → AllGoOn b c (front ++ o ∷ rest) (front ++ next ∷ rest)
one_goes_on b c [] o next rest on = (on, all_stay b c rest)
one_goes_on b c (x ∷ front) o next rest on = (inl refl, one_goes_on b c front o next rest on)

-- records that don't live any more are forgotten
pub dead_forgotten : {S Q R T : Type 0} (b : Book S Q R) (d : S) (st : Device S T) →
    DeviceGoesOn b d st (record st { records = filter (lives b.moment) st.records })
dead_forgotten {S} b d st = record {
  table = refl;
  deaf = refl;
  records = λ k h. (filter_has (lives b.moment) st.records k h).0;
  living = λ (k : Record S) h young. has_filter (lives b.moment) st.records k h (le-leb b.moment (k.moment + KEEP_MS) young);
  gatherings = λ a h. inl h;
}
