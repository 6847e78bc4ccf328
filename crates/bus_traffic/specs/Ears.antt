-- What an ear keeps of the octets that are heard (9.5.4).
use Rattle.std.specs.Prelude.{ℕ, ◌+◌, List, [], ◌∷◌, Option, Some, None, nat_le, if◌then◌else◌}
use Rattle.profile.specs.Times.{T_FRAME_ABORT_MS}
use Rattle.bus_traffic.specs.declared.ear.Ear.{Ear}

-- an ear that is made at a moment, also where its station restarts: it keeps nothing
abbrev pub ear_anew : (address now : ℕ) → Ear
ear_anew address now = record { address = address; deframer = []; last = now }

-- the octets of a cut frame to which others come at a moment: none behind a silence, which ends a frame that is cut
-- short
abbrev pub kept_at : (now : ℕ) → List ℕ → Ear → List ℕ
kept_at now [] e = []
kept_at now (octet ∷ octets) e = if nat_le (e.last + T_FRAME_ABORT_MS) now then [] else e.deframer

-- the octets of a cut frame, if one has begun
abbrev pub if_begun : Option (List ℕ) → List ℕ
if_begun None = []
if_begun (Some octets) = octets

-- when octets were heard last, once these come at a moment: a silence is no octets
abbrev pub heard_last : (now : ℕ) → List ℕ → (last : ℕ) → ℕ
heard_last now [] last = last
heard_last now (octet ∷ octets) last = now

-- an ear that has heard octets at a moment, and keeps these
abbrev pub ear_after : (now : ℕ) → List ℕ → (kept : List ℕ) → Ear → Ear
ear_after now octets kept e =
    record { address = e.address; deframer = kept; last = heard_last now octets e.last }
