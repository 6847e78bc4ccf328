-- What is heard is heard in one way.
use Rattle.std.proofs.Common.{◌≡◌, ◌∙◌, refl, sym, ap, subst, ℕ, List, Option, Some, None, Bool, true, false}
use Rattle.std.specs.Prelude.{◌≢◌, IfNone, IfSome, option_map}
use Rattle.bvll.specs.Datagram as bvll
use Rattle.bvll.specs.Datagram.{Datagram, NoDatagram, OnlyDatagram}
use Rattle.last_hop.specs.Hearing.{Hears, HearsNone, IsInDatagram, IsInFrame, NoneInDatagram, NoneInFrame, carries_data, npdu_in}
use Rattle.last_hop.specs.Parts.{part_in}
use Rattle.last_hop.specs.declared.part.HeardPart.{HeardPart}
use Rattle.mstp_frame.proofs.Spellings.{one_frame}
use Rattle.mstp_frame.specs.Frame as mstp
use Rattle.mstp_frame.specs.Frame.{PlainFrame}
use Rattle.mstp_frame.specs.Heard.{NoFrame}
use Rattle.npdu.specs.declared.mac.Mac.{Mac}
use Rattle.npdu.specs.declared.mac.Mac.TheVariants as mac
use Rattle.npdu.specs.declared.mac.Target.TheVariants as target
use Rattle.unitdata.proofs.OnceLaws.{brought_once}
use Rattle.unitdata.specs.Hearing.{Brings, BringsNothing, Heard}

some_none : {X : Type 0} (x : X) → Some x ≡ None → ⊥
some_none x e = cc

some_is : {X : Type 0} (x y : X) → Some x ≡ Some y → x ≡ y
some_is x y e = cc

pub brings_none : (net : ℕ) (from to : Mac) (npdu : List ℕ) → BringsNothing net from (target.One to) npdu →
    HearsNone net from to npdu
brings_none net from to npdu nothing = record { none = λ p h. nothing.none h.heard h.brings }

pub hears_part : (net : ℕ) (from to : Mac) (npdu : List ℕ) (heard : Heard) (r : Option HeardPart) →
    Brings net from (target.One to) npdu heard →
    r ≡ part_in (record { net = net; mac = to }) heard.station heard.content → IfSome r (Hears net from to npdu)
hears_part net from to npdu heard (Some p) b e = record { heard = heard; brings = b; is = sym e }
hears_part net from to npdu heard None b e = tt

no_part : (net : ℕ) (from to : Mac) (npdu : List ℕ) (heard : Heard) → Brings net from (target.One to) npdu heard →
    None ≡ part_in (record { net = net; mac = to }) heard.station heard.content → HearsNone net from to npdu
no_part net from to npdu heard b e = record {
  none = λ p h.
      let same = brought_once net from (target.One to) npdu h.heard heard h.brings b in
      some_none p (sym h.is
      ∙ ap (λ (x : Heard). part_in (record { net = net; mac = to }) x.station x.content) same ∙ sym e);
}

pub hears_no_part : (net : ℕ) (from to : Mac) (npdu : List ℕ) (heard : Heard) (r : Option HeardPart) →
    Brings net from (target.One to) npdu heard →
    r ≡ part_in (record { net = net; mac = to }) heard.station heard.content → IfNone r (HearsNone net from to npdu)
hears_no_part net from to npdu heard (Some p) b e = tt
hears_no_part net from to npdu heard None b e = no_part net from to npdu heard b e

pub ruleset hear_laws = (brings_none, hears_part, hears_no_part)

none_some : {X : Type 0} (x : X) → None ≡ Some x → ⊥
none_some x e = cc

unicast_is : (d : Datagram) (npdu : List ℕ) → npdu_in d ≡ Some npdu → d ≡ bvll.unicast npdu
unicast_is (bvll.unicast own) npdu e = ap bvll.unicast (some_is own npdu e)
unicast_is (bvll.outcome code) npdu e = absurd (none_some npdu e)
unicast_is (bvll.write_distribution entries) npdu e = absurd (none_some npdu e)
unicast_is bvll.read_distribution npdu e = absurd (none_some npdu e)
unicast_is (bvll.distribution entries) npdu e = absurd (none_some npdu e)
unicast_is (bvll.forwarded origin own) npdu e = absurd (none_some npdu e)
unicast_is (bvll.register seconds) npdu e = absurd (none_some npdu e)
unicast_is bvll.read_foreign npdu e = absurd (none_some npdu e)
unicast_is (bvll.foreign entries) npdu e = absurd (none_some npdu e)
unicast_is (bvll.delete_foreign address) npdu e = absurd (none_some npdu e)
unicast_is (bvll.distribute own) npdu e = absurd (none_some npdu e)
unicast_is (bvll.broadcast own) npdu e = absurd (none_some npdu e)

pub no_datagram : (net : ℕ) (from to : Mac) (octets : List ℕ) → NoDatagram octets → NoneInDatagram net from to octets
no_datagram net from to octets lacks = record { none = λ p i. lacks.none (bvll.unicast i.npdu) i.spelled }

pub no_unicast : (net : ℕ) (from to : Mac) (octets : List ℕ) (d : Datagram) → OnlyDatagram octets d →
    npdu_in d ≡ None → NoneInDatagram net from to octets
no_unicast net from to octets d only none = record {
  none = λ p i. some_none i.npdu (sym (ap npdu_in (only.only (bvll.unicast i.npdu) i.spelled)) ∙ none);
}

pub in_datagram : (net : ℕ) (from to : Mac) (octets : List ℕ) (d : Datagram) (npdu : List ℕ) (r : Option HeardPart) →
    bvll.Spells octets d → npdu_in d ≡ Some npdu → IfSome r (Hears net from to npdu) →
    IfSome r (IsInDatagram net from to octets)
in_datagram net from to octets d npdu (Some p) s e h =
    record { npdu = npdu; spelled = subst (λ (x : Datagram). bvll.Spells octets x) (unicast_is d npdu e) s; hears = h }
in_datagram net from to octets d npdu None s e h = tt

none_in : (net : ℕ) (from to : Mac) (octets : List ℕ) (d : Datagram) (npdu : List ℕ) → OnlyDatagram octets d →
    npdu_in d ≡ Some npdu → HearsNone net from to npdu → NoneInDatagram net from to octets
none_in net from to octets d npdu only e h = record {
  none = λ p i.
      let same = some_is i.npdu npdu (sym (ap npdu_in (only.only (bvll.unicast i.npdu) i.spelled)) ∙ e) in
      h.none p (subst (λ (n : List ℕ). Hears net from to n p) same i.hears);
}

pub none_in_datagram : (net : ℕ) (from to : Mac) (octets : List ℕ) (d : Datagram) (npdu : List ℕ)
    (r : Option HeardPart) → OnlyDatagram octets d → npdu_in d ≡ Some npdu → IfNone r (HearsNone net from to npdu) →
    IfNone r (NoneInDatagram net from to octets)
none_in_datagram net from to octets d npdu (Some p) only e h = tt
none_in_datagram net from to octets d npdu None only e h = none_in net from to octets d npdu only e h

pub ruleset datagram_laws = (no_datagram, no_unicast, in_datagram, none_in_datagram)

pub no_frame : (net to : ℕ) (octets : List ℕ) → NoFrame octets → NoneInFrame net to octets
no_frame net to octets lacks = record { none = λ p i. lacks.none i.frame i.spelled }

pub other_address : (net to : ℕ) (octets : List ℕ) (f : PlainFrame) → mstp.Spells octets f → f.destination ≢ to →
    NoneInFrame net to octets
other_address net to octets f s other = record {
  none = λ p i. other (ap (λ (x : PlainFrame). x.destination) (one_frame octets f i.frame s i.spelled) ∙ i.addressed);
}

true_false : true ≡ false → ⊥
true_false e = cc

pub no_data : (net to : ℕ) (octets : List ℕ) (f : PlainFrame) → mstp.Spells octets f →
    carries_data f.frame_type ≡ false → NoneInFrame net to octets
no_data net to octets f s none = record {
  none = λ p i. true_false (sym i.carries
      ∙ ap (λ (x : PlainFrame). carries_data x.frame_type) (one_frame octets i.frame f i.spelled s) ∙ none);
}

pub in_frame : (net to : ℕ) (octets : List ℕ) (f : PlainFrame) (r : Option HeardPart) → mstp.Spells octets f →
    f.destination ≡ to → carries_data f.frame_type ≡ true →
    IfSome r (Hears net (mac.One f.source) (mac.One to) f.contents) → IfSome r (IsInFrame net to octets)
in_frame net to octets f (Some p) s addressed carries h =
    record { frame = f; spelled = s; addressed = addressed; carries = carries; hears = h }
in_frame net to octets f None s addressed carries h = tt

none_there : (net to : ℕ) (octets : List ℕ) (f : PlainFrame) → mstp.Spells octets f →
    HearsNone net (mac.One f.source) (mac.One to) f.contents → NoneInFrame net to octets
none_there net to octets f s h = record {
  none = λ p i. h.none p (subst (λ (x : PlainFrame). Hears net (mac.One x.source) (mac.One to) x.contents p)
      (one_frame octets i.frame f i.spelled s) i.hears);
}

pub none_in_frame : (net to : ℕ) (octets : List ℕ) (f : PlainFrame) (r : Option HeardPart) → mstp.Spells octets f →
    IfNone r (HearsNone net (mac.One f.source) (mac.One to) f.contents) → IfNone r (NoneInFrame net to octets)
none_in_frame net to octets f (Some p) s h = tt
none_in_frame net to octets f None s h = none_there net to octets f s h

pub ruleset frame_laws = (no_frame, other_address, no_data, in_frame, none_in_frame)
