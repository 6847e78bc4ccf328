-- Why an NPDU brings nothing to a station.
use Rattle.std.proofs.Common.{◌≡◌, ◌≢◌, ◌∙◌, refl, sym, ap, subst, List, ℕ, true, false, Some, None}
use Rattle.apdu.specs.Apdu.{NoApdu}
use Rattle.npdu.specs.Header.{Header, OnlyHeader, NoHeader}
use Rattle.npdu.specs.Rejected.{NoRejected}
use Rattle.npdu.specs.declared.mac.Mac.{Mac}
use Rattle.npdu.specs.declared.mac.Target.{Target}
use Rattle.npdu.specs.declared.message.Message.{Message}
use Rattle.npdu.specs.declared.message.Message.TheVariants.{WhoIsRouterToNetwork, IAmRouterToNetwork, RejectMessageToNetwork, Other, Proprietary}
use Rattle.unitdata.specs.Hearing.{HeardContent, says, refuses, Heard, Brings, BringsNothing, BringsSomething, NoContent}
use Rattle.unitdata.specs.Hearing.{SpellsContent}
use Rattle.unitdata.specs.Hearing.{is_here}
use Rattle.npdu.specs.Sender.{sender}

some_same : {X : Type 0} (x y : X) → Some x ≡ Some y → x ≡ y
some_same x y e = cc

none_some : {X : Type 0} (x : X) → None ≡ Some x → ⊥
none_some x e = cc

false_true : false ≡ true → ⊥
false_true e = cc

pub no_apdu : (octets : List ℕ) → NoApdu octets → NoContent None octets
no_apdu octets lacks = record { none = λ x s. is_none x s }
  where
    is_none : (x : HeardContent) → SpellsContent None octets x → ⊥
    is_none (says b) s = lacks.none b s
    is_none (refuses r) s = s

pub no_refusal : (octets : List ℕ) → NoRejected octets → NoContent (Some RejectMessageToNetwork) octets
no_refusal octets lacks = record { none = λ x s. is_none x s }
  where
    is_none : (x : HeardContent) → SpellsContent (Some RejectMessageToNetwork) octets x → ⊥
    is_none (refuses r) s = lacks.none r s
    is_none (says b) s = s

pub other_message : (m : Message) (octets : List ℕ) → m ≢ RejectMessageToNetwork → NoContent (Some m) octets
other_message WhoIsRouterToNetwork octets other = record { none = λ x s. s }
other_message IAmRouterToNetwork octets other = record { none = λ x s. s }
other_message RejectMessageToNetwork octets other = absurd (other refl)
other_message (Other kind) octets other = record { none = λ x s. s }
other_message (Proprietary kind vendor) octets other = record { none = λ x s. s }

pub ruleset content_rules = (no_apdu, no_refusal, other_message)

module _ (net : ℕ) (from : Mac) (to : Target) (npdu : List ℕ) (h : Header) (one : OnlyHeader npdu h) where
  same_header : (y : Heard) (b : Brings net from to npdu y) → h ≡ b.header
  same_header y b = one.only b.header b.spelled

  pub not_here : is_here h.destination ≡ false → BringsNothing net from to npdu
  not_here other = record {
    none = λ y b. false_true (sym other ∙ ap (λ (k : Header). is_here k.destination) (same_header y b) ∙ b.here);
  }

  pub no_sender : sender net from h.source ≡ None → BringsNothing net from to npdu
  no_sender other = record {
    none = λ y b. none_some y.station (sym other ∙ ap (λ (k : Header). sender net from k.source) (same_header y b) ∙ b.sent);
  }

  pub no_content : NoContent h.message h.body → BringsNothing net from to npdu
  no_content lacks = record {
    none = λ y b. lacks.none y.content (subst (λ (k : Header). SpellsContent k.message k.body y.content) (sym (same_header y b)) b.said);
  }

pub no_header : (net : ℕ) (from : Mac) (to : Target) (npdu : List ℕ) → NoHeader npdu → BringsNothing net from to npdu
no_header net from to npdu lacks = record { none = λ y b. lacks.none b.header b.spelled }

pub ruleset hear_rules = (not_here, no_sender, no_content, no_header)

-- what brings a thing brings something
pub something : (net : ℕ) (from : Mac) (to : Target) (npdu : List ℕ) (h : Heard) → Brings net from to npdu h → BringsSomething net from to npdu
something net from to npdu h brings = record { heard = h; brings = brings }
