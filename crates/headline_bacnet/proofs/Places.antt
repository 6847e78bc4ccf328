-- Where an answer leads, and what is at the other stations.
use Rattle.std.proofs.Common.{◌≡◌, ◌≢◌, refl, sym, ℕ, Bool, true, false, cond}
use Rattle.std.proofs.lemmas.Bool.{false_from_ne_true}
use Rattle.headline.specs.Happenings.{put}
use Rattle.npdu.proofs.Stations.{one_station}
use Rattle.npdu.specs.Mac.{same_station}
use Rattle.npdu.specs.declared.mac.Mac.{Mac}
use Rattle.npdu.specs.declared.mac.Station.{Station}
use Rattle.headline_bacnet.specs.Bodies.{led_to}
use Rattle.unitdata.specs.Hearing.{destination_if, way_to}

led_by : (net : ℕ) (from : Mac) (x : Station) (t : Bool) → same_station x (record { net = net; mac = from }) ≡ t →
    led_to net (record { to = from; destination = destination_if t x }) ≡ x
led_by net from x true e = sym ((one_station x (record { net = net; mac = from })).same e)
led_by net from x false e = refl

-- the way on which an answer goes to a station leads there
pub led_back : (net : ℕ) (from : Mac) (x : Station) → led_to net (way_to net from x) ≡ x
led_back net from x = led_by net from x (same_station x (record { net = net; mac = from })) refl

put_other_at : {X : Type 0} (f : Station → X) (x : Station) (u : X) (t : Bool) → t ≡ false → cond t u (f x) ≡ f x
put_other_at f x u true e = absurd (cc e)
put_other_at f x u false e = refl

-- what is put at one station leaves the others
pub put_other : {X : Type 0} (f : Station → X) (d x : Station) (u : X) → x ≢ d → put same_station f d u x ≡ f x
put_other f d x u apart = put_other_at f x u (same_station x d) (false_from_ne_true _ (λ e. apart ((one_station x d).same e)))
