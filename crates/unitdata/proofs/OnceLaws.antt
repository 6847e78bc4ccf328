-- An NPDU brings one thing to a station, and the way that is learnt of it can be named.
use Rattle.std.proofs.Common.{◌≡◌, ◌∙◌, ◌<◌, refl, sym, ap, subst, List, [], ◌∷◌, ℕ, Bool, true, false, Option, Some, None, length}
use Rattle.std.specs.Prelude.{◌&&◌, ◌==◌, nat_lt, IfSome}
use Rattle.std.proofs.lemmas.Bool.{lt-ltb}
use Rattle.apdu.proofs.ApduLaws.{one_apdu}
use Rattle.npdu.proofs.RejectedLaws.{only_rejected}
use Rattle.npdu.proofs.SpellingLaws.{one_header}
use Rattle.npdu.specs.Header.{Header, IsSource, PlainSource}
use Rattle.npdu.specs.Mac.{is_address, mac_of, same_station, six_if, station_at}
use Rattle.npdu.specs.Sender.{sender}
use Rattle.npdu.specs.declared.mac.Mac.{Mac}
use Rattle.npdu.specs.declared.mac.Mac.TheVariants.{One, Six}
use Rattle.npdu.specs.declared.mac.Station.{Station}
use Rattle.npdu.specs.declared.mac.Way.{Way}
use Rattle.npdu.specs.declared.message.Message.{Message}
use Rattle.npdu.specs.declared.message.Message.TheVariants.{WhoIsRouterToNetwork, IAmRouterToNetwork, RejectMessageToNetwork, Other, Proprietary}
use Rattle.unitdata.specs.Hearing.{Heard, HeardContent, SpellsContent, destination_if, is_alone, refuses, says, way_to}
use Rattle.unitdata.specs.Laws.{BroughtOnce, LearntIsSpelled}
use Rattle.unitdata.specs.Saying.{is_named, is_spelled}
use Rattle.unitdata.specs.Sizes.{LongestIsOfLink}
use Rattle.profile.specs.declared.link_kind.LinkKind.TheVariants.{BacnetIp, MsTp}

some_same : {X : Type 0} (x y : X) → Some x ≡ Some y → x ≡ y
some_same x y e = cc

-- what stands behind a header says one thing
one_content : (m : Option Message) (octets : List ℕ) (x y : HeardContent) → SpellsContent m octets x → SpellsContent m octets y → x ≡ y
one_content None octets (says a) (says b) s t = ap says (one_apdu octets a b s t)
one_content None octets (says a) (refuses r) s t = absurd t
one_content None octets (refuses r) y s t = absurd s
one_content (Some RejectMessageToNetwork) octets (refuses q) (refuses r) s t = ap refuses ((only_rejected octets q s).only r t)
one_content (Some RejectMessageToNetwork) octets (refuses q) (says a) s t = absurd t
one_content (Some RejectMessageToNetwork) octets (says a) y s t = absurd s
one_content (Some WhoIsRouterToNetwork) octets x y s t = absurd s
one_content (Some IAmRouterToNetwork) octets x y s t = absurd s
one_content (Some (Other kind)) octets x y s t = absurd s
one_content (Some (Proprietary kind vendor)) octets x y s t = absurd s

same_heard : (x y : Heard) → x.station ≡ y.station → x.way ≡ y.way → x.alone ≡ y.alone → x.content ≡ y.content → x ≡ y
same_heard x y station way alone content =
    ap (λ (s : Station). record { station = s; way = x.way; alone = x.alone; content = x.content }) station
    ∙ ap (λ (w : Way). record { station = y.station; way = w; alone = x.alone; content = x.content }) way
    ∙ ap (λ (b : Bool). record { station = y.station; way = y.way; alone = b; content = x.content }) alone
    ∙ ap (λ (c : HeardContent). record { station = y.station; way = y.way; alone = y.alone; content = c }) content

pub brought_once : BroughtOnce
brought_once net from to npdu x y a b =
    let e = one_header npdu a.header b.header a.spelled b.spelled in
    let station = some_same x.station y.station (sym a.sent ∙ ap (λ (k : Header). sender net from k.source) e ∙ b.sent) in
    same_heard x y station
    (a.way ∙ ap (way_to net from) station ∙ sym b.way)
    (a.alone ∙ ap (λ (k : Header). is_alone to k.destination) e ∙ sym b.alone)
    (one_content b.header.message b.header.body x.content y.content
    (subst (λ (k : Header). SpellsContent k.message k.body x.content) e a.said) b.said)

both : (b c : Bool) → b ≡ true → c ≡ true → (b && c) ≡ true
both b c e f = cc

named : (s : Station) → 0 < s.net → s.net < 65535 → is_address s.mac ≡ true → is_named s ≡ true
named s low high address =
    both (nat_lt 0 s.net && nat_lt s.net 65535) (is_address s.mac)
    (both (nat_lt 0 s.net) (nat_lt s.net 65535) (lt-ltb 0 s.net low) (lt-ltb s.net 65535 high)) address

six_address : (b : Bool) (octets : List ℕ) (m : Mac) → (length octets == 6) ≡ b → six_if b octets ≡ Some m → is_address m ≡ true
six_address true octets m six e = ap is_address (sym (some_same (Six octets) m e)) ∙ six
six_address false octets m six e = absurd (cc e)

-- what has an address has one octet or six
mac_address : (octets : List ℕ) (m : Mac) → mac_of octets ≡ Some m → is_address m ≡ true
mac_address (octet ∷ []) m e = ap is_address (sym (some_same (One octet) m e))
mac_address [] m e = six_address (length {A = ℕ} [] == 6) [] m refl e
mac_address (a ∷ (b ∷ rest)) m e = six_address (length (a ∷ (b ∷ rest)) == 6) (a ∷ (b ∷ rest)) m refl e

station_named : (net : ℕ) (o : Option Mac) (s : Station) → 0 < net → net < 65535 → ((m : Mac) → o ≡ Some m → is_address m ≡ true) →
    station_at net o ≡ Some s → is_named s ≡ true
station_named net None s low high address e = absurd (cc e)
station_named net (Some m) s low high address e =
    subst (λ (x : Station). is_named x ≡ true) (some_same (record { net = net; mac = m }) s e)
    (named (record { net = net; mac = m }) low high (address m refl))

sender_named : (net : ℕ) (from : Mac) (o : Option PlainSource) (s : Station) → 0 < net → net < 65535 → is_address from ≡ true →
    IfSome o IsSource → sender net from o ≡ Some s → is_named s ≡ true
sender_named net from None s low high address sound e =
    station_named net (Some from) s low high (λ m f. ap is_address (sym (some_same from m f)) ∙ address) e
sender_named net from (Some x) s low high address sound e =
    station_named x.net (mac_of x.mac) s sound.0 sound.1 (mac_address x.mac) e

if_spelled : (b : Bool) (s : Station) → is_named s ≡ true → is_spelled (destination_if b s) ≡ true
if_spelled true s e = refl
if_spelled false s e = e

pub learnt_is_spelled : LearntIsSpelled
learnt_is_spelled net from to npdu h low high address b =
    ap (λ (w : Way). is_spelled w.destination) b.way
    ∙ if_spelled (same_station h.station (record { net = net; mac = from })) h.station
    (sender_named net from b.header.source h.station low high address b.spelled.sound.source b.sent)

pub longest_is_of_link : LongestIsOfLink
longest_is_of_link BacnetIp = refl
longest_is_of_link MsTp = refl
