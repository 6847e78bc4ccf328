-- The small site is one, and what its stations are and say in the examples.
use Rattle.std.proofs.Common.{◌≡◌, refl, sym, ap, inr, ◌∙◌, ⊎_elim, ℕ, Bool, true, false, cond, [], ◌∷◌, Some, None, arith}
use Rattle.std.specs.Prelude.{◌==◌}
use Rattle.std.proofs.lemmas.Bool.{eqb-true}
use Rattle.history.specs.Lists.{Has}
use Rattle.history.specs.Book.{Complex, Asks, Tells, I_am, Unicast, Broadcast, Message}
use Rattle.history.proofs.Lists.{has, none_has, has_cons}
use Rattle.headline.specs.Protocol.{IsSite}
use Rattle.headline.specs.Happenings.{Announces, Client_becomes, Issues, Core, after_all}
use Rattle.headline.specs.Honest.{IsHonest}
use Rattle.headline.specs.Stations.{Transaction, Binding, Client, Record, new_client}
use Rattle.headline_runs.specs.Small.{three, small, site}

is_nine : (a n : ℕ) (t : Bool) → (a == 9) ≡ t → cond t (Some 10) None ≡ Some n → a ≡ 9
is_nine a n true t e = eqb-true a 9 t
is_nine a n false t e = absurd (cc)

pub is_site : IsSite small site
is_site =
    record {
      one = λ a b n e f. is_nine a n (a == 9) refl e ∙ sym (is_nine b n (b == 9) refl f);
      sound = λ d n e. tt;
    }

-- the device says who it is, and the client knows it
abbrev pub i_am : Message ℕ
i_am = record { from = 9; to = Broadcast; body = I_am 10; stamp = 0 }

abbrev pub client : Client ℕ ℕ
client = record new_client { bindings = record { instance = 10; station = 9 } ∷ [] }

-- the request 5, whole, at a moment, and its answer
abbrev pub open_five : Transaction ℕ ℕ
open_five = record { invoke_id = 0; device = 9; request = 5; chunk = 100; room = 100; moment = 0; pieces = 0; got = [] }

abbrev pub asks_five : ℕ → Message ℕ
asks_five t = record { from = 0; to = Unicast 9; body = Asks 0 (record { service = 15; room = 100 }) (three 5); stamp = t }

abbrev pub tells_five : ℕ → Message ℕ
tells_five t = record { from = 9; to = Unicast 0; body = Tells 0 (Complex (three 5)); stamp = t }

abbrev pub done_five : Record ℕ
done_five = record { client = 0; invoke_id = 0; answer = Some (Complex (three 5)); room = 100; moment = 0 }

-- what stands in a list of one
pub only : {X : Type 0} {x y : X} → Has (x ∷ []) y → x ≡ y
only {X} {x} {y} h = ⊎_elim (λ (e : x ≡ y). e) (λ (none : Has [] y). absurd (none_has none)) (has_cons x [] h)

-- the device announces itself, and the client hears it
abbrev pub announced : Core ℕ ℕ ℕ ℕ
announced = after_all small site (Announces 9 10 ∷ [])

pub client_hears : IsHonest small site announced (Client_becomes 0 client)
client_hears =
    record {
      next_is = refl;
      free = refl;
      transactions = tt;
      bindings = λ (x : Binding ℕ) h. inr (record {
        message = i_am;
        heard = record { was_said = has 0 refl; covers = tt; young = omega arith };
        from = ap (λ (z : Binding ℕ). z.station) (only h);
        body = ap (λ (z : Binding ℕ). I_am z.instance) (only h);
      });
    }

-- it may then issue its first request
pub client_issues : (q chunk room : ℕ) → IsHonest small site (after_all small site (Announces 9 10 ∷ Client_becomes 0 client ∷ [])) (Issues 0 9 10 q chunk room)
client_issues q chunk room = record { sound = tt; bound = has 0 refl; unused = λ o h. absurd (none_has h); free = omega arith }
