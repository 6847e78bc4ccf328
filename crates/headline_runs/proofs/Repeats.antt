-- Two answers are lost, and the request is said again: it is executed once, at 0, and answered at 6000.
use Rattle.std.proofs.Common.{◌≡◌, refl, sym, inl, inr, ℕ, List, [], ◌∷◌, arith}
use Rattle.std.proofs.lemmas.Option.{same_Some}
use Rattle.history.specs.declared.Entry.TheVariants.{Issue, Executed, Answered}
use Rattle.history.specs.Book.{Complex}
use Rattle.history.proofs.Lists.{has, none_has}
use Rattle.headline.specs.Stations.{Device}
use Rattle.headline.specs.Happenings.{Happening, Ticks, Issues, Client_asks, Client_becomes, Closes, Device_tells, Executes, Announces, Whole, Gives, after_all}
use Rattle.headline.specs.Honest.{AreHonest}
use Rattle.headline_runs.specs.Small.{three, small, site}
use Rattle.headline_runs.proofs.Site.{only, i_am, client, open_five, asks_five, tells_five, done_five, client_hears, client_issues}

abbrev device : Device ℕ ℕ
device = record { records = done_five ∷ []; gatherings = []; table = 5; deaf_until = 0 }

abbrev repeats : List (Happening ℕ ℕ ℕ ℕ)
repeats =
    Announces 9 10 ∷ Client_becomes 0 client ∷ Issues 0 9 10 5 100 100 ∷ Client_asks 0 open_five Whole ∷
    Executes 9 5 done_five device ∷ Device_tells 9 done_five Whole ∷
    Ticks 3000 ∷ Client_asks 0 open_five Whole ∷ Device_tells 9 done_five Whole ∷
    Ticks 3000 ∷ Client_asks 0 open_five Whole ∷ Device_tells 9 done_five Whole ∷
    Closes 0 [] open_five [] (Gives 5) ∷ []

pub history_of_repeats : (after_all small site repeats).book.history ≡ Issue 0 0 10 5 0 ∷ Executed 0 5 0 ∷ Answered 0 5 6000 ∷ []
history_of_repeats = refl

pub said_in_repeats : (after_all small site repeats).book.said
    ≡ i_am ∷ asks_five 0 ∷ tells_five 0 ∷ asks_five 3000 ∷ tells_five 3000 ∷ asks_five 6000 ∷ tells_five 6000 ∷ []
said_in_repeats = refl

pub table_after_repeats : ((after_all small site repeats).devices 9).table ≡ 5
table_after_repeats = refl

pub repeats_are_honest : AreHonest small site repeats
repeats_are_honest = (
  refl,
  (
    client_hears,
    (
      client_issues 5 100 100,
      (
        record { there = has 0 refl; early = omega arith },
        (
          (
            record {
              head = record { service = 15; room = 100 };
              octets = three 5;
              asked = inl (record {
                message = asks_five 0;
                heard = record { was_said = has 1 refl; covers = refl; young = omega arith };
                from = refl;
                body =
                    refl;
              });
              means = refl;
              listens = omega arith;
              anew = λ x h. absurd (none_has h);
              room = refl;
            },
            record {
              moment = refl;
              answer = λ a e. sym (same_Some _ _ e);
              table = refl;
              deaf = refl;
              fresh = has 0 refl;
              records = λ x h. inr (only h);
              living = λ x h _. absurd (none_has h);
              gatherings = λ a h. h;
            },
          ),
          (
            record { there = has 0 refl; living = omega arith },
            (
              tt,
              (
                record { there = has 0 refl; early = omega arith },
                (
                  record { there = has 0 refl; living = omega arith },
                  (
                    tt,
                    (
                      record { there = has 0 refl; early = omega arith },
                      (
                        record { there = has 0 refl; living = omega arith },
                        (
                          record {
                            place = refl;
                            may = (
                              Complex (three 5),
                              inl (record {
                                message = tells_five 6000;
                                heard =
                                    record { was_said = has 6 refl; covers = refl; young = omega arith };
                                body = refl;
                              }),
                              refl,
                            );
                          },
                          tt,
                        ),
                      ),
                    ),
                  ),
                ),
              ),
            ),
          ),
        ),
      ),
    ),
  ),
)
