-- Which steps lines of a script say.
use Rattle.std.specs.Prelude.{◌≡◌, ◌⊎◌, ℕ, List, [], Option, None, Some, codes}
use Rattle.apdu.specs.declared.unconfirmed.Limits.{Limits}
use Rattle.expectations.specs.Says.{SaysExpectation}
use Rattle.network_faults.specs.Says.{SaysFault, fault_word}
use Rattle.primitives.specs.declared.plain_data.Request.{Request}
use Rattle.primitives.specs.Sound.{IsSoundRequest}
use Rattle.script.specs.declared.step.Step.{Step}
use Rattle.script.specs.declared.step.Step.TheVariants as step
use Rattle.site_events.specs.Sound.{IsSoundEvent}
use Rattle.site_events.specs.declared.event.Event.TheVariants as event
use Rattle.site_parts.specs.Names.{IsName}
use Rattle.words.specs.HexText.{SpellsHex}
use Rattle.words.specs.NoRequests.{HasSingleValues}
use Rattle.words.specs.Quoted.{SaysQuoted}
use Rattle.words.specs.Says.{Has, HasNo, before, behind, space, IsOfKind, SaysUnsigned}

-- the word is the name of a station
pub record SaysName (word name : List ℕ) : Type 0 where
  pub formed : IsName word
  pub same : name ≡ word

-- a name and what stands behind it, as `c 10 read 5:1 85`
abbrev pub SaysNameBefore : List ℕ → List ℕ → Type 0
SaysNameBefore words name = Has space words × SaysName (before space words) name

-- a client, the instance of a device, and a request (15)
pub record SaysIssue {A : Type 0} (words client : List ℕ) (instance : ℕ) (request : Request A) : Type 0 where
  pub client_said : SaysNameBefore words client
  pub parted : Has space (behind space words)
  pub instance_said : SaysUnsigned 32 (before space (behind space words)) instance
  pub request_said : SaysQuoted (behind space (behind space words)) request

-- the least instance and the greatest (16.10.1.1.1)
pub record SaysLimits (words : List ℕ) (limits : Limits) : Type 0 where
  pub parted : Has space words
  pub low_said : SaysUnsigned 32 (before space words) limits.low
  pub high_said : SaysUnsigned 32 (behind space words) limits.high

-- a client alone, or a client and limits (16.10)
abbrev pub SaysWhoIs : List ℕ → List ℕ → Option Limits → Type 0
SaysWhoIs words client None = HasNo space words × SaysName words client
SaysWhoIs words client (Some limits) = SaysNameBefore words client × SaysLimits (behind space words) limits

-- a dash for a silence, or pairs of hexadecimal digits with spaces between them or without (9)
abbrev pub SaysHeard : List ℕ → List ℕ → Type 0
SaysHeard words octets = ((words ≡ codes "-") × (octets ≡ [])) ⊎ SpellsHex words octets

-- a network, a station and what it hears there (9)
pub record SaysHear (words : List ℕ) (network : ℕ) (station octets : List ℕ) : Type 0 where
  pub parted : Has space words
  pub network_said : SaysUnsigned 16 (before space words) network
  pub station_said : SaysNameBefore (behind space words) station
  pub octets_said : SaysHeard (behind space (behind space words)) octets

-- the word that a step begins with
abbrev pub order_of : {A : Type 0} → Step A → List ℕ
order_of (step.Happens (event.Issue client instance request)) = codes "issue"
order_of (step.Happens (event.WhoIs client limits)) = codes "whois"
order_of (step.Happens (event.Tick n)) = codes "tick"
order_of (step.Happens (event.Wake name)) = codes "wake"
order_of (step.Happens (event.Deliver item)) = codes "deliver"
order_of (step.Happens (event.Hear network station octets)) = codes "hear"
order_of (step.Happens (event.Register name)) = codes "register"
order_of (step.Happens (event.Restart name)) = codes "restart"
order_of (step.Flow n) = codes "flow"
order_of (step.Disturbs f) = fault_word f
order_of (step.Expects e) = codes "expect"
order_of (step.Shows name) = codes "state"

-- what stands behind that word
abbrev pub SaysRest : {A : Type 0} → List ℕ → Step A → Type 0
SaysRest words (step.Happens (event.Issue client instance request)) = SaysIssue words client instance request
SaysRest words (step.Happens (event.WhoIs client limits)) = SaysWhoIs words client limits
SaysRest words (step.Happens (event.Tick n)) = SaysUnsigned 64 words n
SaysRest words (step.Happens (event.Wake name)) = SaysName words name
SaysRest words (step.Happens (event.Deliver item)) = SaysUnsigned 64 words item
SaysRest words (step.Happens (event.Hear network station octets)) = SaysHear words network station octets
SaysRest words (step.Happens (event.Register name)) = SaysName words name
SaysRest words (step.Happens (event.Restart name)) = SaysName words name
SaysRest words (step.Flow n) = SaysUnsigned 64 words n
SaysRest words (step.Disturbs f) = SaysFault words f
SaysRest words (step.Expects e) = SaysExpectation words e
SaysRest words (step.Shows name) = SaysName words name

-- the words say the step
abbrev pub SaysStep : {A : Type 0} → List ℕ → Step A → Type 0
SaysStep words s = IsOfKind words (order_of s) × SaysRest (behind space words) s

-- a request has a spelling, and one value for each write (15)
pub record IsFit {A : Type 0} (request : Request A) : Type 0 where
  pub single : HasSingleValues request
  pub sound : IsSoundRequest request

-- the request of an issue does
abbrev pub IsFitStep : {A : Type 0} → Step A → Type 0
IsFitStep (step.Happens (event.Issue client instance request)) = IsFit request
IsFitStep s = Unit {0}

-- the request of an event has a spelling, as whoever makes a step has to know (15)
abbrev pub IsSoundStep : {A : Type 0} → Step A → Type 0
IsSoundStep (step.Happens e) = IsSoundEvent e
IsSoundStep (step.Flow n) = Unit {0}
IsSoundStep (step.Disturbs f) = Unit {0}
IsSoundStep (step.Expects e) = Unit {0}
IsSoundStep (step.Shows name) = Unit {0}
