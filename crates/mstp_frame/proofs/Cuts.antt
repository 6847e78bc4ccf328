-- What a deframer gives of a stream is what is heard of it.
use Rattle.std.proofs.Common.{◌≡◌, ℕ, List, [], ◌∷◌, ◌++◌, ap, sym, subst, ◌∙◌, append_assoc, None, Some, Option}
use Rattle.std.specs.Option.{option_to_list}
use Rattle.std.proofs.lemmas.List.{append-nil}
use Rattle.mstp_frame.specs.Frame.{PlainFrame}
use Rattle.mstp_frame.specs.Heard.{Heard, over, between}
use Rattle.mstp_frame.specs.Feeding.{LeadsTo, Input, piece, silence, stream_of, Gives, done, silent, keeps, gives}
use Rattle.mstp_frame.proofs.HearingLaws.{one_stream}

-- what inputs put behind the octets before them, and the stream after the next silence
rest_of : List Input → List ℕ
rest_of [] = []
rest_of (piece next ∷ inputs) = next ++ rest_of inputs
rest_of (silence ∷ inputs) = []

later_of : List Input → List (List ℕ)
later_of [] = []
later_of (piece next ∷ inputs) = later_of inputs
later_of (silence ∷ inputs) = stream_of [] inputs

stream_is : (octets : List ℕ) (inputs : List Input) → stream_of octets inputs ≡ (octets ++ rest_of inputs) ∷ later_of inputs
unfolding rest_of later_of
stream_is octets [] = ap (λ o. o ∷ []) (sym (append-nil octets))
stream_is octets (piece next ∷ inputs) = stream_is (octets ++ next) inputs ∙ ap (λ o. o ∷ later_of inputs) (append_assoc octets next (rest_of inputs))
stream_is octets (silence ∷ inputs) = ap (λ o. o ∷ stream_of [] inputs) (sym (append-nil octets))

led : (octets left : List ℕ) (frame : Option PlainFrame) (inputs : List Input) (frames : List PlainFrame) → LeadsTo octets frame left →
    Heard (stream_of left inputs) frames → Heard (stream_of octets inputs) (option_to_list frame ++ frames)
led octets left frame inputs frames leads h =
    subst (λ s. Heard s (option_to_list frame ++ frames)) (sym (stream_is octets inputs))
    (leads.heard (rest_of inputs) (later_of inputs) frames (subst (λ s. Heard s frames) (stream_is left inputs) h))

heard_from : (kept : List ℕ) (inputs : List Input) (frames : List PlainFrame) → Gives kept inputs frames → Heard (stream_of kept inputs) frames
heard_from _ _ _ (done kept h) = between kept [] [] [] h over
heard_from _ _ _ (silent kept inputs frames h given) = between kept (stream_of [] inputs) [] frames h (heard_from [] inputs frames given)
heard_from _ _ _ (keeps kept next after inputs frames leads given) = led (kept ++ next) after None inputs frames leads (heard_from after inputs frames given)
heard_from _ _ _ (gives kept next after unused f inputs frames leads given) =
    led (kept ++ next) (after ++ unused) (Some f) inputs frames leads (heard_from after (piece unused ∷ inputs) frames given)

pub given_is_heard : (inputs : List Input) (frames : List PlainFrame) → Gives [] inputs frames → Heard (stream_of [] inputs) frames
given_is_heard inputs frames given = heard_from [] inputs frames given

pub cuts_are_one : (inputs others : List Input) (frames more : List PlainFrame) → Gives [] inputs frames → Gives [] others more →
    stream_of [] inputs ≡ stream_of [] others → frames ≡ more
cuts_are_one inputs others frames more given also same =
    one_stream (stream_of [] others) frames more (subst (λ s. Heard s frames) same (given_is_heard inputs frames given)) (given_is_heard others more also)
