-- What a piece of a stream leads to, one decision after another.
use Rattle.std.proofs.Common.{◌≡◌, ◌≢◌, ℕ, Option, Some, None, List, [], ◌∷◌, ◌++◌, inl, inr, sym, subst, append_assoc}
use Rattle.std.specs.Option.{option_to_list}
use Rattle.mstp_frame.specs.Frame.{PlainFrame, Spells}
use Rattle.mstp_frame.specs.Heard.{IsNoise, NoFrame, Hears, skips, loses, hears, Heard, between}
use Rattle.mstp_frame.specs.Feeding.{LeadsTo}
use Rattle.mstp_frame.specs.Front.{IsFront}
use Rattle.mstp_frame.proofs.Fronts.{front_parts}

-- the same octets
pub leads_same : (octets left : List ℕ) → octets ≡ left → LeadsTo octets None left
leads_same octets left e = record { heard = λ rest stream frames h. subst (λ o. Heard ((o ++ rest) ∷ stream) frames) (sym e) h }

pub leads_then : (octets middle left : List ℕ) (frame : Option PlainFrame) → LeadsTo octets None middle → LeadsTo middle frame left → LeadsTo octets frame left
leads_then octets middle left frame first then = record {
  heard = λ rest stream frames h. first.heard rest stream (option_to_list frame ++ frames) (then.heard rest stream frames h);
}

-- one silence at a time
heard_by : (octets left : List ℕ) (stream : List (List ℕ)) (frames more : List PlainFrame)
    → ((first : List PlainFrame) → Hears left first → Hears octets (more ++ first)) → Heard (left ∷ stream) frames → Heard (octets ∷ stream) (more ++ frames)
heard_by octets _ _ _ more step (between left stream first later h rest) =
    subst (λ fs. Heard (octets ∷ stream) fs) (append_assoc more first later) (between octets stream (more ++ first) later (step first h) rest)

leads_if : (octets left : List ℕ) (frame : Option PlainFrame) →
    ((rest : List ℕ) (frames : List PlainFrame) → Hears (left ++ rest) frames → Hears (octets ++ rest) (option_to_list frame ++ frames)) →
    LeadsTo octets frame left
leads_if octets left frame step = record {
  heard = λ rest stream frames h. heard_by (octets ++ rest) (left ++ rest) stream frames (option_to_list frame) (step rest) h;
}

-- an octet that is no 55
noise : (octet : ℕ) (more : List ℕ) → octet ≢ 0x55 → IsNoise (octet ∷ more)
noise octet [] ne = ne
noise octet (second ∷ more) ne = inl ne

pub leads_noise : (octet : ℕ) (octets : List ℕ) → octet ≢ 0x55 → LeadsTo (octet ∷ octets) None octets
leads_noise octet octets ne = leads_if (octet ∷ octets) octets None (λ rest frames h. skips octet (octets ++ rest) frames (noise octet (octets ++ rest) ne) h)

-- an octet before one that is no FF
pub leads_second : (octet second : ℕ) (octets : List ℕ) → second ≢ 0xFF → LeadsTo (octet ∷ second ∷ octets) None (second ∷ octets)
leads_second octet second octets ne = leads_if (octet ∷ second ∷ octets) (second ∷ octets) None
    (λ rest frames h. skips octet (second ∷ (octets ++ rest)) frames (inr ne) h)

pub leads_lost : (front left : List ℕ) → IsFront front → NoFrame front → LeadsTo (front ++ left) None left
leads_lost front left is none = leads_if (front ++ left) left None (λ rest frames h.
    let parts = front_parts front (left ++ rest) is in
    subst (λ o. Hears o frames) (sym (append_assoc front left rest))
    (loses (front ++ (left ++ rest)) frames parts.0 (subst NoFrame (sym parts.1) none) (subst (λ o. Hears o frames) (sym parts.2) h)))

pub leads_whole : (front left : List ℕ) (f : PlainFrame) → IsFront front → Spells front f → LeadsTo (front ++ left) (Some f) left
leads_whole front left f is s = leads_if (front ++ left) left (Some f) (λ rest frames h.
    let parts = front_parts front (left ++ rest) is in
    subst (λ o. Hears o (f ∷ frames)) (sym (append_assoc front left rest))
    (hears (front ++ (left ++ rest)) f frames parts.0 (subst (λ o. Spells o f) (sym parts.1) s) (subst (λ o. Hears o frames) (sym parts.2) h)))
