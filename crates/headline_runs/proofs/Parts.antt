-- Pieces both ways, by two octets and out of order; the device restarts before its answer is heard whole, and is asked anew.
use Rattle.std.proofs.Common.{◌≡◌, refl, sym, inl, inr, ℕ, Bool, true, false, List, [], ◌∷◌, ◌++◌, Some, None, arith}
use Rattle.std.proofs.lemmas.Bool.{leb-true}
use Rattle.std.proofs.lemmas.Option.{same_Some}
use Rattle.history.specs.declared.Entry.TheVariants.{Issue, Executed, Answered, Restarted}
use Rattle.history.specs.Book.{Complex, Asks, Asks_piece, Tells, Tells_piece, Unicast, Message}
use Rattle.history.proofs.Lists.{has, none_has}
use Rattle.headline.specs.Stations.{Transaction, Client, Record, Gathering, Device, issued, new_device}
use Rattle.headline.specs.Happenings.{Core, Happening, Ticks, Issues, Client_asks, Client_becomes, Closes, Device_tells, Device_becomes, Executes, Announces}
use Rattle.headline.specs.Happenings.{Restarts, Whole, Piece, Gives, happens, run, start, after_all}
use Rattle.headline.specs.Honest.{HeardPiece, IsHonestRun, AreHonest}
use Rattle.headline.proofs.Laws.{honest_more}
use Rattle.headline_runs.specs.Small.{three, small, site}
use Rattle.headline_runs.proofs.Site.{only, client, client_hears, client_issues}

abbrev open_five : Transaction ℕ ℕ
open_five = record { invoke_id = 0; device = 9; request = 5; chunk = 2; room = 2; moment = 0; pieces = 0; got = [] }

abbrev asks : ℕ → Bool → List ℕ → Message ℕ
asks n more octets = record { from = 0; to = Unicast 9; body = Asks_piece 0 (record { service = 15; room = 2 }) n more octets; stamp = 0 }

abbrev tells : ℕ → Bool → List ℕ → Message ℕ
tells n more octets = record { from = 9; to = Unicast 0; body = Tells_piece 0 n more octets; stamp = 500 }

-- the request is issued, and its pieces are said, the last one first
abbrev asked : List (Happening ℕ ℕ ℕ ℕ)
asked = Announces 9 10 ∷ Client_becomes 0 client ∷ Issues 0 9 10 5 2 2 ∷ Client_asks 0 open_five (Piece 1) ∷ Client_asks 0 open_five (Piece 0) ∷ []

asked_is_honest : AreHonest small site asked
asked_is_honest = (
  refl,
  (
    client_hears,
    (
      client_issues 5 2 2,
      (record { there = has 0 refl; early = omega arith }, (record { there = has 0 refl; early = omega arith }, tt)),
    ),
  ),
)

-- the first piece is heard twice, then the last one, and the whole is executed
abbrev gathering : ℕ → Gathering ℕ
gathering t = record { client = 0; invoke_id = 0; head = record { service = 15; room = 2 }; pieces = 1; got = 5 ∷ 5 ∷ []; last = t }

abbrev gathers : ℕ → Device ℕ ℕ
gathers t = record (new_device 0) { gatherings = gathering t ∷ [] }

abbrev done_five : Record ℕ
done_five = record { client = 0; invoke_id = 0; answer = Some (Complex (three 5)); room = 2; moment = 500 }

abbrev device : Device ℕ ℕ
device = record { records = done_five ∷ []; gatherings = []; table = 5; deaf_until = 0 }

abbrev executed : List (Happening ℕ ℕ ℕ ℕ)
executed = Device_becomes 9 (gathers 0) ∷ Ticks 500 ∷ Device_becomes 9 (gathers 500) ∷ Executes 9 5 done_five device ∷ []

abbrev core_asked : Core ℕ ℕ ℕ ℕ
core_asked = after_all small site asked

abbrev core_gathering : Core ℕ ℕ ℕ ℕ
core_gathering = run small site (Device_becomes 9 (gathers 0) ∷ Ticks 500 ∷ []) core_asked

abbrev core_gathered : Core ℕ ℕ ℕ ℕ
core_gathered = happens small site core_gathering (Device_becomes 9 (gathers 500))

abbrev first_piece : HeardPiece core_asked.book 9 (core_asked.devices 9)
first_piece = record {
  message = asks 0 true (5 ∷ 5 ∷ []);
  id = 0;
  head = record { service = 15; room = 2 };
  n = 0;
  more = true;
  octets = 5 ∷ 5 ∷ [];
  before =
      None;
  heard = record { was_said = has 2 refl; covers = refl; young = omega arith };
  body = refl;
  is_before = tt;
}

abbrev first_again : HeardPiece core_gathering.book 9 (core_gathering.devices 9)
first_again = record {
  message = asks 0 true (5 ∷ 5 ∷ []);
  id = 0;
  head = record { service = 15; room = 2 };
  n = 0;
  more = true;
  octets = 5 ∷ 5 ∷ [];
  before =
      Some (gathering 0);
  heard = record { was_said = has 2 refl; covers = refl; young = omega arith };
  body = refl;
  is_before =
      record { there = has 0 refl; client = refl; key = refl; young = omega arith };
}

abbrev last_piece : HeardPiece core_gathered.book 9 (core_gathered.devices 9)
last_piece = record {
  message = asks 1 false (5 ∷ []);
  id = 0;
  head = record { service = 15; room = 2 };
  n = 1;
  more = false;
  octets = 5 ∷ [];
  before =
      Some (gathering 500);
  heard = record { was_said = has 1 refl; covers = refl; young = omega arith };
  body = refl;
  is_before =
      record { there = has 0 refl; client = refl; key = refl; young = omega arith };
}

executed_is_honest : IsHonestRun small site executed core_asked
executed_is_honest = (
  record {
    table = refl;
    deaf = refl;
    records = λ k h. h;
    living = λ k h _. h;
    gatherings =
        λ a h. inr (record { piece = first_piece; how = inl (refl, sym (only h)) });
  },
  (
    tt,
    (
      record {
        table = refl;
        deaf = refl;
        records = λ k h. h;
        living = λ k h _. h;
        gatherings =
            λ a h. inr (record { piece = first_again; how = inr (sym (only h)) });
      },
      (
        (
          record {
            head = record { service = 15; room = 2 };
            octets = three 5;
            asked = inr (record { piece = last_piece; from = refl; key = refl; next = refl; last = refl; head_is = refl; whole = refl });
            means = refl;
            listens = omega arith;
            anew = λ x h. absurd (none_has h);
            room = refl;
          },
          record {
            moment = refl;
            answer = λ a e. sym (same_Some _ _ e);
            table = refl;
            deaf = refl;
            fresh = has 0 refl;
            records =
                λ x h. inr (only h);
            living = λ x h _. absurd (none_has h);
            gatherings = λ a h. absurd (none_has h);
          },
        ),
        tt,
      ),
    ),
  ),
)

-- both pieces of the answer are told, the first is heard, the device restarts, and the last is heard
abbrev open_more : Transaction ℕ ℕ
open_more = record open_five { pieces = 1; got = 5 ∷ 5 ∷ [] }

abbrev client_more : Client ℕ ℕ
client_more = record (issued 0 9 5 2 2 client) { transactions = open_more ∷ [] }

abbrev answered : List (Happening ℕ ℕ ℕ ℕ)
answered = Device_tells 9 done_five (Piece 0) ∷ Device_tells 9 done_five (Piece 1) ∷ Client_becomes 0 client_more ∷ Restarts 9 10 ∷ Closes 0 [] open_more []
    (Gives 5) ∷ []

abbrev core_executed : Core ℕ ℕ ℕ ℕ
core_executed = run small site executed core_asked

answered_is_honest : IsHonestRun small site answered core_executed
answered_is_honest = (
  record { there = has 0 refl; living = omega arith },
  (
    record { there = has 0 refl; living = omega arith },
    (
      record {
        next_is = refl;
        free = refl;
        transactions = (
          inr (inr (record {
            message = tells 0 true (5 ∷ 5 ∷ []);
            more = true;
            octets = 5 ∷ 5 ∷ [];
            heard =
                record { was_said = has 3 refl; covers = refl; young = omega arith };
            body = refl;
            joined = refl;
          })),
          tt,
        );
        bindings = λ x h. inl h;
      },
      (
        refl,
        (
          record {
            place = refl;
            may = (
              Complex (three 5),
              inr (record {
                message = tells 1 false (5 ∷ []);
                octets = 5 ∷ [];
                heard =
                    record { was_said = has 4 refl; covers = refl; young = omega arith };
                body = refl;
                whole = refl;
              }),
              refl,
            );
          },
          tt,
        ),
      ),
    ),
  ),
)

-- when it listens again, it is asked anew, under the next invoke ID
abbrev open_seven : Transaction ℕ ℕ
open_seven = record { invoke_id = 1; device = 9; request = 7; chunk = 100; room = 100; moment = 13500; pieces = 0; got = [] }

abbrev done_seven : Record ℕ
done_seven = record { client = 0; invoke_id = 1; answer = Some (Complex (three 7)); room = 100; moment = 13500 }

abbrev device_anew : Device ℕ ℕ
device_anew = record { records = done_seven ∷ []; gatherings = []; table = 7; deaf_until = 13500 }

abbrev anew : List (Happening ℕ ℕ ℕ ℕ)
anew = Ticks 13000 ∷ Issues 0 9 10 7 100 100 ∷ Client_asks 0 open_seven Whole ∷ Executes 9 7 done_seven device_anew ∷ Device_tells 9 done_seven Whole ∷ Closes
    0 [] open_seven [] (Gives 7) ∷ []

abbrev core_answered : Core ℕ ℕ ℕ ℕ
core_answered = run small site answered core_executed

anew_is_honest : IsHonestRun small site anew core_answered
anew_is_honest = (
  tt,
  (
    record { sound = tt; bound = has 0 refl; unused = λ o h. absurd (none_has h); free = leb-true _ _ refl },
    (
      record { there = has 0 refl; early = omega arith },
      (
        (
          record {
            head = record { service = 15; room = 100 };
            octets = three 7;
            asked = inl (record {
              message = record { from = 0; to = Unicast 9; body = Asks 1 (record { service = 15; room = 100 }) (three 7); stamp = 13500 };
              heard = record { was_said = has 5 refl; covers = refl; young = omega arith };
              from = refl;
              body = refl;
            });
            means = refl;
            listens = omega arith;
            anew = λ x h. absurd (none_has h);
            room = refl;
          },
          record {
            moment = refl;
            answer = λ a e. sym (same_Some _ _ e);
            table = refl;
            deaf = refl;
            fresh = has 0 refl;
            records =
                λ x h. inr (only h);
            living = λ x h _. absurd (none_has h);
            gatherings = λ a h. h;
          },
        ),
        (
          record { there = has 0 refl; living = omega arith },
          (
            record {
              place = refl;
              may = (
                Complex (three 7),
                inl (record {
                  message =
                      record { from = 9; to = Unicast 0; body = Tells 1 (Complex (three 7)); stamp = 13500 };
                  heard =
                      record { was_said = has 6 refl; covers = refl; young = omega arith };
                  body = refl;
                }),
                refl,
              );
            },
            tt,
          ),
        ),
      ),
    ),
  ),
)

-- all of it
abbrev parts : List (Happening ℕ ℕ ℕ ℕ)
parts = asked ++ (executed ++ (answered ++ anew))

pub history_of_parts : (after_all small site parts).book.history
    ≡ Issue 0 0 10 5 0 ∷ Executed 0 5 500 ∷ Restarted 10 500 ∷ Answered 0 5 500 ∷ Issue 1 0 10 7 13500 ∷ Executed 1 7 13500 ∷ Answered 1 7 13500 ∷ []
history_of_parts = refl

pub parts_are_honest : AreHonest small site parts
parts_are_honest =
    honest_more small site asked (executed ++ (answered ++ anew)) (start small site) asked_is_honest
    (honest_more small site executed (answered ++ anew) core_asked executed_is_honest
    (honest_more small site answered anew core_executed answered_is_honest anew_is_honest))
