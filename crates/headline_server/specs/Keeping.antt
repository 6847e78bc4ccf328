-- What always holds of what a server remembers, on its network: each answer can be said as its requester hears it.
use Rattle.std.specs.Prelude.{◌≡◌, ◌≤◌, ℕ, false, List, length, Option, Some, None}
use Rattle.std.specs.List.{AllByRecursion}
use Rattle.headline_bacnet.specs.Bodies.{led_to}
use Rattle.server_tsm.specs.remembered.declared.record.Record.{Record}
use Rattle.server_tsm.specs.remembered.declared.record.RememberedAnswer.{RememberedAnswer}
use Rattle.server_tsm.specs.remembered.declared.record.RememberedAnswer.TheVariants as kept
use Rattle.segments.specs.Sender.{SenderState}
use Rattle.segments.specs.Pieces.{piece_count}
use Rattle.headline_bacnet.specs.server_answers.Limits.{goes_whole}
use Rattle.server_tsm.specs.Server.{AreKept, ServerTsmState}

-- so much service data has 256 pieces of this size at most: each has a sequence number of its own (20.1.5)
abbrev pub AreNumbered : (chunk : ℕ) → List ℕ → Type 0
AreNumbered chunk octets = piece_count chunk (length octets) ≤ 256

-- an answer that doesn't go whole can go in segments (5.4.5.3)
abbrev pub CanBeCut : {A : Type 0} → (chunk : ℕ) → RememberedAnswer A → Type 0
CanBeCut chunk (kept.Complex octets) = goes_whole chunk (length octets) ≡ false → AreNumbered chunk octets
CanBeCut chunk answer = Unit {0}

-- segments of it are said in pieces of this size; an answer without service data has none (5.4.5.3)
abbrev pub IsSentIn : {A : Type 0} → (chunk : ℕ) → RememberedAnswer A → Option SenderState → Type 0
IsSentIn chunk answer None = Unit {0}
IsSentIn chunk (kept.Complex octets) (Some c) = (c.chunk ≡ chunk) × AreNumbered chunk octets
IsSentIn chunk answer (Some c) = ⊥

-- a remembered answer goes to who asked, and is said in pieces of its room
pub record IsSayable {A : Type 0} (net : ℕ) (r : Record A) : Type 0 where
  pub chunk : 1 ≤ r.chunk
  pub way : led_to net r.way ≡ r.asker.station
  pub cut : CanBeCut r.chunk r.answer
  pub sent : IsSentIn r.chunk r.answer r.sending

-- a server keeps 64 answers at most, one for each asker, in order of execution, and each can be said (5.4.5)
pub record IsWellKept {A : Type 0} (net : ℕ) (st : ServerTsmState A) : Type 0 where
  pub sayable : AllByRecursion (IsSayable net) st.records
  pub kept : AreKept st.moment st.records
