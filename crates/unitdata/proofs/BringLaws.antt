-- What a parcel brings to a station of its own network is what was said in it.
use Rattle.std.proofs.Common.{◌≡◌, ◌∙◌, refl, sym, ap, subst, ℕ, ◌/◌, ◌%◌, ◌<◌, Bool, true, false, List, ◌∷◌, ◌++◌, length, Option, Some, None}
use Rattle.std.proofs.Common.{append_assoc, arith}
use Rattle.std.specs.Prelude.{is_some, ◌==◌, ◌&&◌, nat_lt}
use Rattle.std.proofs.lemmas.Bool.{and_parts, ltb-true}
use Rattle.apdu.specs.Apdu.{unconfirmed}
use Rattle.apdu.specs.ApduWriting as apdu
use Rattle.byteorder.specs.Endian.{big_bytes}
use Rattle.npdu.proofs.FieldLaws.{one_number}
use Rattle.npdu.proofs.SpellingLaws.{one_header}
use Rattle.npdu.specs.Dnet.{dnet_number}
use Rattle.npdu.specs.Header.{Header, PlainDestination, Spells, canonical, dnet_octets, fields, hop_octets, message_octets, snet_octets}
use Rattle.npdu.specs.Mac.{is_address, mac_octets}
use Rattle.npdu.specs.Sender.{sender}
use Rattle.npdu.specs.declared.mac.Mac.{Mac}
use Rattle.npdu.specs.declared.mac.Station.{Station}
use Rattle.npdu.specs.declared.mac.Target.{Target}
use Rattle.npdu.specs.declared.mac.Target.TheVariants.{One}
use Rattle.npdu.specs.declared.view.Dnet.{Dnet}
use Rattle.npdu.specs.declared.view.Dnet.TheVariants.{Network, Global}
use Rattle.unitdata.specs.Hearing.{Brings, Heard, SpellsContent, is_global, is_here}
use Rattle.unitdata.specs.Laws.{AnnouncedIsBrought, IsBrought, SpokenIsBrought}
use Rattle.unitdata.specs.Saying.{Spoken, announcing_npdu, destination_to, everywhere, global_npdu, header_to, is_spelled, npdu_to}

-- the NPDU of a message on one network spells its header
local_spells : (e : Bool) (octets : List ℕ) → Spells (canonical (header_to e None octets)) (header_to e None octets)
local_spells true octets = record {
  sound = record { destination = tt; source = tt; message = tt };
  control = 4;
  bits = record { fits = omega arith; message = refl; destination = refl; source = refl; reply = refl; priority = refl };
  parts = refl;
}
local_spells false octets = record {
  sound = record { destination = tt; source = tt; message = tt };
  control = 0;
  bits = record { fits = omega arith; message = refl; destination = refl; source = refl; reply = refl; priority = refl };
  parts = refl;
}

-- the NPDU of a message to all stations spells its header
global_spells : (octets : List ℕ) → Spells (canonical (header_to false (Some everywhere) octets)) (header_to false (Some everywhere) octets)
global_spells octets = record {
  sound = record { destination = (tt, omega arith, omega arith); source = tt; message = tt };
  control = 32;
  bits = record { fits = omega arith; message = refl; destination = refl; source = refl; reply = refl; priority = refl };
  parts = refl;
}

brought_by : (net : ℕ) (from : Mac) (to : Target) (npdu : List ℕ) (h : Heard) (e : Bool) (d : Option PlainDestination) (octets : List ℕ) →
    (b : Brings net from to npdu h) → b.header ≡ header_to e d octets → IsBrought net from octets h
brought_by net from to npdu h e d octets b is =
    let sent = sym (ap (λ (k : Header). sender net from k.source) is) ∙ b.sent in
    record {
      sayer = cc;
      contents = subst (λ (k : Header). SpellsContent k.message k.body h.content) is b.said;
    }

pub local_brought : (net : ℕ) (from : Mac) (to : Target) (h : Heard) (e : Bool) (octets : List ℕ) → Brings net from to (npdu_to e None octets) h →
    IsBrought net from octets h
unfolding npdu_to
local_brought net from to h e octets b = brought_by net from to (canonical (header_to e None octets)) h e None octets b
    (one_header _ b.header (header_to e None octets) b.spelled (local_spells e octets))

pub global_brought : (net : ℕ) (from : Mac) (to : Target) (h : Heard) (octets : List ℕ) → Brings net from to (global_npdu octets) h → IsBrought net from octets h
unfolding global_npdu
global_brought net from to h octets b = brought_by net from to (canonical (header_to false (Some everywhere) octets)) h false (Some everywhere) octets b
    (one_header _ b.header (header_to false (Some everywhere) octets) b.spelled (global_spells octets))

-- what is for a station of another network brings nothing here
is_announced : (e : Bool) (octets : List ℕ) (x : Station) (k : Header) → Spells (canonical (header_to e (Some (destination_to x)) octets)) k →
    is_some k.destination ≡ true
is_announced true octets x k s =
    let parts = s.parts in
    let control : s.control ≡ 36 = cc in
    sym s.bits.destination ∙ ap (λ n. n / 32 % 2 == 1) control
is_announced false octets x k s =
    let parts = s.parts in
    let control : s.control ≡ 32 = cc in
    sym s.bits.destination ∙ ap (λ n. n / 32 % 2 == 1) control

named_by : (e : Bool) (octets : List ℕ) (x : Station) (k : Header) (d : PlainDestination) → x.net < 65535 →
    Spells (canonical (header_to e (Some (destination_to x)) octets)) k → k.destination ≡ Some d → d.net ≡ Global → ⊥
named_by e octets x k d l s is global =
    let parts = s.parts in
    let same : fields (header_to e (Some (destination_to x)) octets) ≡ fields k = cc in
    let rest : List ℕ = snet_octets k.source ++ (hop_octets k.destination ++ (message_octets k.message ++ k.body)) in
    let mac : List ℕ = length (mac_octets x.mac) ∷ mac_octets x.mac in
    let number : big_bytes 2 x.net ++ (mac ++ (255 ∷ octets)) ≡ big_bytes 2 65535 ++ ((length d.mac ∷ d.mac) ++ rest) =
    sym (append_assoc (big_bytes 2 x.net) mac (255 ∷ octets)) ∙ same
    ∙ ap (λ (o : Option PlainDestination). dnet_octets o ++ rest) is
    ∙ ap (λ (n : Dnet). (big_bytes 2 (dnet_number n) ++ (length d.mac ∷ d.mac)) ++ rest) global
    ∙ append_assoc (big_bytes 2 65535) (length d.mac ∷ d.mac) rest in
    let equal = one_number x.net 65535 (mac ++ (255 ∷ octets)) ((length d.mac ∷ d.mac) ++ rest) (omega (arith, l)) (omega arith) number in
    let both = equal.0 in
    omega (arith, l, both)

remote_by : (e : Bool) (octets : List ℕ) (x : Station) (k : Header) (o : Option PlainDestination) → x.net < 65535 →
    Spells (canonical (header_to e (Some (destination_to x)) octets)) k → k.destination ≡ o → is_here o ≡ true → ⊥
remote_by e octets x k None l s is here = let some = is_announced e octets x k s in let none = ap (is_some) is in absurd (cc (sym none ∙ some))
remote_by e octets x k (Some d) l s is here = by_net d.net refl here
  where
    by_net : (n : Dnet) → d.net ≡ n → is_global n ≡ true → ⊥
    by_net (Network number) f t = absurd (cc t)
    by_net Global f t = named_by e octets x k d l s is f

pub remote_brings : (net : ℕ) (from : Mac) (to : Target) (h : Heard) (e : Bool) (x : Station) (octets : List ℕ) → is_spelled (Some x) ≡ true →
    Brings net from to (npdu_to e (Some x) octets) h → ⊥
unfolding npdu_to
remote_brings net from to h e x octets t b =
    let l = ltb-true x.net 65535
    (and_parts (nat_lt 0 x.net) (nat_lt x.net 65535) (and_parts (nat_lt 0 x.net && nat_lt x.net 65535) (is_address x.mac) t).0).1 in
    remote_by e octets x b.header b.header.destination l b.spelled refl b.here

by_destination : (net : ℕ) (mac : Mac) (s : Spoken) (o : Option Station) (h : Heard) → is_spelled o ≡ true →
    Brings net mac (One s.way.to) (npdu_to s.expects_reply o s.apdu) h → (o ≡ None) × IsBrought net mac s.apdu h
by_destination net mac s None h t b = (refl, local_brought net mac (One s.way.to) h s.expects_reply s.apdu b)
by_destination net mac s (Some x) h t b = absurd (remote_brings net mac (One s.way.to) h s.expects_reply x s.apdu t b)

pub spoken_is_brought : SpokenIsBrought
spoken_is_brought net mac s h t b = by_destination net mac s s.way.destination h t b

pub announced_is_brought : AnnouncedIsBrought
unfolding announcing_npdu
announced_is_brought net mac to service octets h b = global_brought net mac to h (apdu.canonical (unconfirmed service octets)) b
