-- A part of a step that isn't said leaves the whole unsaid.
use Rattle.std.proofs.Common.{◌≡◌, ◌∙◌, ◌+◌, ◌*◌, sym, ap, subst, inl, inr, refl, ℕ, List, length, Option, Some, None, Result, Ok, Err, arith}
use Rattle.std.specs.Prelude.{◌≢◌, ◌⊎◌, ◌==◌, IfErr, IfOk, if◌then◌else◌, slice_index, codes}
use Rattle.primitives.specs.Sound.{IsSoundRequest}
use Rattle.primitives.specs.declared.plain_data.Request.{Request}
use Rattle.words.specs.NoRequests.{HasSingleValues}
use Rattle.apdu.specs.declared.unconfirmed.Limits.{Limits}
use Rattle.expectations.specs.Unsaid.{NoExpectation}
use Rattle.network_faults.specs.Says.{SaysFault, SaysLose, fault_word}
use Rattle.network_faults.specs.Unsaid.{NoDelay, NoLose, NoMessage}
use Rattle.network_faults.specs.declared.fault.NetworkFault.{NetworkFault}
use Rattle.network_faults.specs.declared.fault.NetworkFault.TheVariants as fault
use Rattle.script.specs.declared.step.Step.{Step}
use Rattle.script.specs.declared.step.Step.TheVariants as step
use Rattle.site_events.specs.declared.event.Event.TheVariants as event
use Rattle.script.specs.NoSteps.{NoHear, NoHeard, NoIssue, NoLimits, NoName, NoStep, NoWhoIs, SaysUnfit, SaysUnfitIssue, SaysUnfitStep}
use Rattle.script.specs.Steps.{IsFit, SaysHear, SaysHeard, SaysIssue, SaysName, SaysRest, SaysStep, SaysWhoIs, order_of}
use Rattle.site_parts.specs.Names.{IsName}
use Rattle.words.specs.declared.unread.Unread.{Unread}
use Rattle.words.specs.declared.unread.Unread.TheVariants.{Memory}
use Rattle.words.specs.HexText.{NoHex, SpellsHex}
use Rattle.words.specs.Quoted.{NoQuoted, SaysQuotedUnfit}
use Rattle.words.specs.Says.{Has, HasNo, before, behind, space, SaysUnsigned}
use Rattle.words.specs.Unsaid.{NoUnsigned}

pub no_name : (word : List ℕ) → (IsName word → ⊥) → NoName word
no_name word none = record { none = λ name s. none s.formed }

pub ruleset name_laws = (no_name)

unfit : (A : Type 0) (words : List ℕ) → SaysQuotedUnfit A words → SaysUnfit A words
unfit A words h = record {
  request = h.request;
  said = h.said;
  unfit =
      λ fit. elim h.unfit [
        | inl several ↦ several fit.single
        | inr unspelled ↦ unspelled fit.sound
      ];
}

pub fit_refused : {A : Type 0} (words : List ℕ) (r : Result (Request A) Unread) →
    IfErr r (λ e. (e ≡ Memory) ⊎ NoQuoted A words ⊎ SaysQuotedUnfit A words) →
    IfErr r (λ e. (e ≡ Memory) ⊎ NoQuoted A words ⊎ SaysUnfit A words)
fit_refused words (Ok q) h = tt
fit_refused words (Err e) (inl memory) = inl memory
fit_refused words (Err e) (inr (inl none)) = inr (inl none)
fit_refused {A} words (Err e) (inr (inr h)) = inr (inr (unfit A words h))

pub fits : {A : Type 0} (r : Result (Request A) Unread) → IfOk r HasSingleValues → IfOk r IsSoundRequest → IfOk r IsFit
fits (Ok q) single sound = record { single = single; sound = sound }
fits (Err e) single sound = tt

pub ruleset request_laws = (fit_refused, fits)

pub issue_whole : (A : Type 0) (words : List ℕ) → HasNo space words → NoIssue A words
issue_whole A words whole = record { none = λ c i r s. absurd (omega (arith, whole, s.client_said.0)) }

pub issue_alone : (A : Type 0) (words : List ℕ) → HasNo space (behind space words) → NoIssue A words
issue_alone A words whole = record { none = λ c i r s. absurd (omega (arith, whole, s.parted)) }

pub issue_no_client : (A : Type 0) (words : List ℕ) → NoName (before space words) → NoIssue A words
issue_no_client A words none = record { none = λ c i r s. none.none c s.client_said.1 }

pub issue_no_instance : (A : Type 0) (words : List ℕ) → NoUnsigned 32 (before space (behind space words)) → NoIssue A words
issue_no_instance A words none = record { none = λ c i r s. none.none i s.instance_said }

pub issue_no_request : (A : Type 0) (words : List ℕ) → NoQuoted A (behind space (behind space words)) → NoIssue A words
issue_no_request A words none = record { none = λ c i r s. none.none r s.request_said }

pub issue_unfit : (A : Type 0) (words client : List ℕ) (instance : ℕ) → Has space words → SaysName (before space words) client → Has space (behind space words) →
    SaysUnsigned 32 (before space (behind space words)) instance → SaysUnfit A (behind space (behind space words)) → SaysUnfitIssue A words
issue_unfit A words client instance parted named apart numbered h = record {
  client = client;
  instance = instance;
  request = h.request;
  said = record { client_said = (parted, named); parted = apart; instance_said = numbered; request_said = h.said };
  unfit = h.unfit;
}

pub issue_refused : (A : Type 0) (words client : List ℕ) (instance : ℕ) (e : Unread) → Has space words → SaysName (before space words) client →
    Has space (behind space words) → SaysUnsigned 32 (before space (behind space words)) instance →
    (e ≡ Memory) ⊎ NoQuoted A (behind space (behind space words)) ⊎ SaysUnfit A (behind space (behind space words)) →
    (e ≡ Memory) ⊎ NoIssue A words ⊎ SaysUnfitIssue A words
issue_refused A words client instance e parted named apart numbered (inl memory) = inl memory
issue_refused A words client instance e parted named apart numbered (inr (inl none)) = inr (inl (issue_no_request A words none))
issue_refused A words client instance e parted named apart numbered (inr (inr unfit)) =
    inr (inr (issue_unfit A words client instance parted named apart numbered unfit))

pub ruleset issue_laws = (issue_whole, issue_alone, issue_no_client, issue_no_instance, issue_refused)

pub limits_whole : (words : List ℕ) → HasNo space words → NoLimits words
limits_whole words whole = record { none = λ l s. absurd (omega (arith, whole, s.parted)) }

pub no_low : (words : List ℕ) → NoUnsigned 32 (before space words) → NoLimits words
no_low words none = record { none = λ l s. none.none l.low s.low_said }

pub no_high : (words : List ℕ) → NoUnsigned 32 (behind space words) → NoLimits words
no_high words none = record { none = λ l s. none.none l.high s.high_said }

pub ruleset limits_laws = (limits_whole, no_low, no_high)

no_client_alone_in : (words client : List ℕ) (limits : Option Limits) → HasNo space words → NoName words → SaysWhoIs words client limits → ⊥
no_client_alone_in words client None whole none s = none.none client s.1
no_client_alone_in words client (Some limits) whole none s = absurd (omega (arith, whole, s.0.0))

pub no_client_alone : (words : List ℕ) → HasNo space words → NoName words → NoWhoIs words
no_client_alone words whole none = record { none = λ c l s. no_client_alone_in words c l whole none s }

no_client_in : (words client : List ℕ) (limits : Option Limits) → Has space words → NoName (before space words) → SaysWhoIs words client limits → ⊥
no_client_in words client None parted none s = absurd (omega (arith, parted, s.0))
no_client_in words client (Some limits) parted none s = none.none client s.0.1

pub no_client : (words : List ℕ) → Has space words → NoName (before space words) → NoWhoIs words
no_client words parted none = record { none = λ c l s. no_client_in words c l parted none s }

no_limits_in : (words client : List ℕ) (limits : Option Limits) → Has space words → NoLimits (behind space words) → SaysWhoIs words client limits → ⊥
no_limits_in words client None parted none s = absurd (omega (arith, parted, s.0))
no_limits_in words client (Some limits) parted none s = none.none limits s.1

pub no_limits : (words : List ℕ) → Has space words → NoLimits (behind space words) → NoWhoIs words
no_limits words parted none = record { none = λ c l s. no_limits_in words c l parted none s }

pub ruleset who_is_laws = (no_client_alone, no_client, no_limits)

pub hear_whole : (words : List ℕ) → HasNo space words → NoHear words
hear_whole words whole = record { none = λ n station o s. absurd (omega (arith, whole, s.parted)) }

pub hear_alone : (words : List ℕ) → HasNo space (behind space words) → NoHear words
hear_alone words whole = record { none = λ n station o s. absurd (omega (arith, whole, s.station_said.0)) }

pub no_network : (words : List ℕ) → NoUnsigned 16 (before space words) → NoHear words
no_network words none = record { none = λ n station o s. none.none n s.network_said }

pub no_station : (words : List ℕ) → NoName (before space (behind space words)) → NoHear words
no_station words none = record { none = λ n station o s. none.none station s.station_said.1 }

pub no_octets : (words : List ℕ) → NoHeard (behind space (behind space words)) → NoHear words
no_octets words none = record { none = λ n station o s. none.none o s.octets_said }

pub ruleset hear_laws = (hear_whole, hear_alone, no_network, no_station, no_octets)

unheard_in : (words octets : List ℕ) → words ≢ codes "-" → NoHex words → SaysHeard words octets → ⊥
unheard_in words octets other none (inl s) = other s.0
unheard_in words octets other none (inr s) = none.none octets s

pub unheard : (words : List ℕ) → words ≢ codes "-" → NoHex words → NoHeard words
unheard words other none = record { none = λ o s. unheard_in words o other none s }

pub ruleset heard_laws = (unheard)

-- the words that steps begin with
data Order : Type 0 where
  issue : Order
  whois : Order
  tick : Order
  wake : Order
  deliver : Order
  hear : Order
  register : Order
  restart : Order
  flow : Order
  lose : Order
  repeat : Order
  delay : Order
  damage : Order
  expect : Order
  state : Order

abbrev word_of : Order → List ℕ
word_of issue = codes "issue"
word_of whois = codes "whois"
word_of tick = codes "tick"
word_of wake = codes "wake"
word_of deliver = codes "deliver"
word_of hear = codes "hear"
word_of register = codes "register"
word_of restart = codes "restart"
word_of flow = codes "flow"
word_of lose = codes "lose"
word_of repeat = codes "repeat"
word_of delay = codes "delay"
word_of damage = codes "damage"
word_of expect = codes "expect"
word_of state = codes "state"

abbrev order_of_fault : {A : Type 0} → NetworkFault A → Order
order_of_fault (fault.Lose count m) = lose
order_of_fault (fault.LoseTo station ms) = lose
order_of_fault (fault.LoseOn network ms) = lose
order_of_fault (fault.Repeat m) = repeat
order_of_fault (fault.Delay m ms) = delay
order_of_fault (fault.Damage m) = damage

abbrev order : {A : Type 0} → Step A → Order
order (step.Happens (event.Issue client instance request)) = issue
order (step.Happens (event.WhoIs client limits)) = whois
order (step.Happens (event.Tick n)) = tick
order (step.Happens (event.Wake name)) = wake
order (step.Happens (event.Deliver item)) = deliver
order (step.Happens (event.Hear network station octets)) = hear
order (step.Happens (event.Register name)) = register
order (step.Happens (event.Restart name)) = restart
order (step.Flow n) = flow
order (step.Disturbs f) = order_of_fault f
order (step.Expects e) = expect
order (step.Shows name) = state

-- such a word is known by its first character and its length
abbrev order_by : ℕ → Order
order_by n = if n == 1385 then issue else if n == 1399 then whois else if n == 1140 then tick else if n == 1143 then wake
    else if n == 1892 then deliver else if n == 1128 then hear else if n == 2162 then register
    else if n == 1906 then restart else if n == 1132 then lose else if n == 1650 then repeat
    else if n == 1380 then delay else if n == 1636 then damage else if n == 1637 then expect else if n == 1395 then state
    else flow

abbrev known_by : List ℕ → Order
known_by word = order_by (slice_index word 0 + 256 * length word)

known : (o : Order) → known_by (word_of o) ≡ o
known issue = refl
known whois = refl
known tick = refl
known wake = refl
known deliver = refl
known hear = refl
known register = refl
known restart = refl
known flow = refl
known lose = refl
known repeat = refl
known delay = refl
known damage = refl
known expect = refl
known state = refl

fault_word_is : {A : Type 0} (f : NetworkFault A) → fault_word f ≡ word_of (order_of_fault f)
fault_word_is (fault.Lose count m) = refl
fault_word_is (fault.LoseTo station ms) = refl
fault_word_is (fault.LoseOn network ms) = refl
fault_word_is (fault.Repeat m) = refl
fault_word_is (fault.Delay m ms) = refl
fault_word_is (fault.Damage m) = refl

word_is : {A : Type 0} (s : Step A) → order_of s ≡ word_of (order s)
word_is (step.Happens (event.Issue client instance request)) = refl
word_is (step.Happens (event.WhoIs client limits)) = refl
word_is (step.Happens (event.Tick n)) = refl
word_is (step.Happens (event.Wake name)) = refl
word_is (step.Happens (event.Deliver item)) = refl
word_is (step.Happens (event.Hear network station octets)) = refl
word_is (step.Happens (event.Register name)) = refl
word_is (step.Happens (event.Restart name)) = refl
word_is (step.Flow n) = refl
word_is (step.Disturbs f) = fault_word_is f
word_is (step.Expects e) = refl
word_is (step.Shows name) = refl

-- words that say nothing which may stand behind this one
abbrev NoRest : (A : Type 0) → List ℕ → Order → Type 0
NoRest A words issue = NoIssue A words
NoRest A words whois = NoWhoIs words
NoRest A words tick = NoUnsigned 64 words
NoRest A words wake = NoName words
NoRest A words deliver = NoUnsigned 64 words
NoRest A words hear = NoHear words
NoRest A words register = NoName words
NoRest A words restart = NoName words
NoRest A words flow = NoUnsigned 64 words
NoRest A words lose = NoLose A words
NoRest A words repeat = NoMessage words
NoRest A words delay = NoDelay words
NoRest A words damage = NoMessage words
NoRest A words expect = NoExpectation A words
NoRest A words state = NoName words

no_fault : {A : Type 0} (words : List ℕ) (f : NetworkFault A) → NoRest A words (order_of_fault f) → SaysFault words f → ⊥
no_fault words (fault.Lose count m) none s = none.none (fault.Lose count m) s
no_fault words (fault.LoseTo station ms) none s = none.none (fault.LoseTo station ms) s
no_fault words (fault.LoseOn network ms) none s = none.none (fault.LoseOn network ms) s
no_fault words (fault.Repeat m) none s = none.none m s
no_fault words (fault.Delay m ms) none s = none.none m ms s
no_fault words (fault.Damage m) none s = none.none m s

unsaid : {A : Type 0} (words : List ℕ) (s : Step A) → NoRest A words (order s) → SaysRest words s → ⊥
unsaid words (step.Happens (event.Issue client instance request)) none s = none.none client instance request s
unsaid words (step.Happens (event.WhoIs client limits)) none s = none.none client limits s
unsaid words (step.Happens (event.Tick n)) none s = none.none n s
unsaid words (step.Happens (event.Wake name)) none s = none.none name s
unsaid words (step.Happens (event.Deliver item)) none s = none.none item s
unsaid words (step.Happens (event.Hear network station octets)) none s = none.none network station octets s
unsaid words (step.Happens (event.Register name)) none s = none.none name s
unsaid words (step.Happens (event.Restart name)) none s = none.none name s
unsaid words (step.Flow n) none s = none.none n s
unsaid words (step.Disturbs f) none s = no_fault words f none s
unsaid words (step.Expects e) none s = none.none e s
unsaid words (step.Shows name) none s = none.none name s

-- where nothing that may stand behind a word does, no step is said
no_step : (A : Type 0) (o : Order) (words : List ℕ) → before space words ≡ word_of o →
    NoRest A (behind space words) o → NoStep A words
no_step A o words e none = record {
  none = λ s said.
      let same : o ≡ order s = sym (known o) ∙ ap (λ (w : List ℕ). known_by w) (sym e ∙ said.0.kind_is ∙ word_is s)
      ∙ known (order s) in
      unsaid (behind space words) s (subst (λ (p : Order). NoRest A (behind space words) p) same none) said.1;
}

pub no_issue : (A : Type 0) (words : List ℕ) → before space words ≡ codes "issue" → NoIssue A (behind space words) →
    NoStep A words
no_issue A words e none = no_step A issue words e none

pub no_whois : (A : Type 0) (words : List ℕ) → before space words ≡ codes "whois" → NoWhoIs (behind space words) →
    NoStep A words
no_whois A words e none = no_step A whois words e none

pub no_tick : (A : Type 0) (words : List ℕ) → before space words ≡ codes "tick" → NoUnsigned 64 (behind space words) →
    NoStep A words
no_tick A words e none = no_step A tick words e none

pub no_wake : (A : Type 0) (words : List ℕ) → before space words ≡ codes "wake" → NoName (behind space words) →
    NoStep A words
no_wake A words e none = no_step A wake words e none

pub no_deliver : (A : Type 0) (words : List ℕ) → before space words ≡ codes "deliver" →
    NoUnsigned 64 (behind space words) → NoStep A words
no_deliver A words e none = no_step A deliver words e none

pub no_hear : (A : Type 0) (words : List ℕ) → before space words ≡ codes "hear" → NoHear (behind space words) →
    NoStep A words
no_hear A words e none = no_step A hear words e none

pub no_register : (A : Type 0) (words : List ℕ) → before space words ≡ codes "register" →
    NoName (behind space words) → NoStep A words
no_register A words e none = no_step A register words e none

pub no_restart : (A : Type 0) (words : List ℕ) → before space words ≡ codes "restart" → NoName (behind space words) →
    NoStep A words
no_restart A words e none = no_step A restart words e none

pub no_flow : (A : Type 0) (words : List ℕ) → before space words ≡ codes "flow" → NoUnsigned 64 (behind space words) →
    NoStep A words
no_flow A words e none = no_step A flow words e none

pub no_lose : (A : Type 0) (words : List ℕ) → before space words ≡ codes "lose" → NoLose A (behind space words) →
    NoStep A words
no_lose A words e none = no_step A lose words e none

pub no_repeat : (A : Type 0) (words : List ℕ) → before space words ≡ codes "repeat" → NoMessage (behind space words) →
    NoStep A words
no_repeat A words e none = no_step A repeat words e none

pub no_delay : (A : Type 0) (words : List ℕ) → before space words ≡ codes "delay" → NoDelay (behind space words) →
    NoStep A words
no_delay A words e none = no_step A delay words e none

pub no_damage : (A : Type 0) (words : List ℕ) → before space words ≡ codes "damage" → NoMessage (behind space words) →
    NoStep A words
no_damage A words e none = no_step A damage words e none

pub no_expect : (A : Type 0) (words : List ℕ) → before space words ≡ codes "expect" →
    NoExpectation A (behind space words) → NoStep A words
no_expect A words e none = no_step A expect words e none

pub no_state : (A : Type 0) (words : List ℕ) → before space words ≡ codes "state" → NoName (behind space words) →
    NoStep A words
no_state A words e none = no_step A state words e none

loses_in : {A : Type 0} (words : List ℕ) (f : NetworkFault A) → SaysLose words f →
    (fault_word f ≡ codes "lose") × SaysFault words f
loses_in words (fault.Lose count m) s = (refl, s)
loses_in words (fault.LoseTo station ms) s = (refl, s)
loses_in words (fault.LoseOn network ms) s = (refl, s)
loses_in words (fault.Repeat m) s = absurd s
loses_in words (fault.Delay m ms) s = absurd s
loses_in words (fault.Damage m) s = absurd s

-- words that say what is lost say that step
pub loses : {A : Type 0} (words : List ℕ) (f : NetworkFault A) → Has space words → before space words ≡ codes "lose" →
    SaysLose (behind space words) f → SaysStep words (step.Disturbs f)
loses words f parted e s =
    let l = loses_in (behind space words) f s in (record { parted = parted; kind_is = e ∙ sym (l.0) }, l.1)

pub unfit_issue : (A : Type 0) (words : List ℕ) → Has space words → before space words ≡ codes "issue" → SaysUnfitIssue A (behind space words) → SaysUnfitStep A words
unfit_issue A words parted e h = record {
  step = step.Happens (event.Issue h.client h.instance h.request);
  said = (record { parted = parted; kind_is = e }, h.said);
  unfit = h.unfit;
}

pub step_whole : (A : Type 0) (words : List ℕ) → HasNo space words → NoStep A words
step_whole A words whole = record { none = λ s said. absurd (omega (arith, whole, said.0.parted)) }

-- the word begins no step
pub record IsNoOrder (word : List ℕ) : Type 0 where
  pub not_issue : word ≢ codes "issue"
  pub not_whois : word ≢ codes "whois"
  pub not_tick : word ≢ codes "tick"
  pub not_wake : word ≢ codes "wake"
  pub not_deliver : word ≢ codes "deliver"
  pub not_hear : word ≢ codes "hear"
  pub not_register : word ≢ codes "register"
  pub not_restart : word ≢ codes "restart"
  pub not_flow : word ≢ codes "flow"
  pub not_lose : word ≢ codes "lose"
  pub not_repeat : word ≢ codes "repeat"
  pub not_delay : word ≢ codes "delay"
  pub not_damage : word ≢ codes "damage"
  pub not_expect : word ≢ codes "expect"
  pub not_state : word ≢ codes "state"

not_ordered : (word : List ℕ) (o : Order) → IsNoOrder word → word ≡ word_of o → ⊥
not_ordered word issue other e = other.not_issue e
not_ordered word whois other e = other.not_whois e
not_ordered word tick other e = other.not_tick e
not_ordered word wake other e = other.not_wake e
not_ordered word deliver other e = other.not_deliver e
not_ordered word hear other e = other.not_hear e
not_ordered word register other e = other.not_register e
not_ordered word restart other e = other.not_restart e
not_ordered word flow other e = other.not_flow e
not_ordered word lose other e = other.not_lose e
not_ordered word repeat other e = other.not_repeat e
not_ordered word delay other e = other.not_delay e
not_ordered word damage other e = other.not_damage e
not_ordered word expect other e = other.not_expect e
not_ordered word state other e = other.not_state e

pub no_order : (A : Type 0) (words : List ℕ) → IsNoOrder (before space words) → NoStep A words
no_order A words other = record {
  none = λ s said. not_ordered (before space words) (order s) other (said.0.kind_is ∙ word_is s);
}

pub ruleset step_laws = (step_whole, no_order, unfit_issue, no_issue, no_whois, no_tick, no_wake, no_deliver, no_hear, no_register, no_restart, no_flow, no_lose, no_repeat, no_delay, no_damage, no_expect, no_state, loses)
