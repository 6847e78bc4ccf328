-- Whatever a node tells can be told and is its own; a router and a manager tell nothing.
use Rattle.std.proofs.Common.{refl}
use Rattle.node_laws.proofs.Following.{answers, hears_as, idles, node_wakes, part_asks, part_issues, part_restarts}
use Rattle.node_laws.specs.Says.{RelayIsSilentAtFrame, RelayIsSilentAtHearing, RelayIsSilentAtWake}
use Rattle.node_laws.specs.Says.{SaysAtAsking, SaysAtCounting, SaysAtFrame, SaysAtHearing, SaysAtIssue}
use Rattle.node_laws.specs.Says.{SaysAtRegistering, SaysAtRestart, SaysAtWake}

pub says_at_hearing : (A : Type 0) → SaysAtHearing A
says_at_hearing A now port from octets stamp old new t h =
    (hears_as now old.part port from octets stamp old new t refl h).own

pub says_at_frame : (A : Type 0) → SaysAtFrame A
says_at_frame A now port count from octets stamp old new t h =
    (answers now port h.heard.up old.part new.part h.heard.middle _ t.told h.heard.answers).own

pub says_at_counting : (A : Type 0) → SaysAtCounting A
says_at_counting A now port count old new t c = (idles now old.part new.part t.told c.silent c.same).own

pub says_at_wake : (A : Type 0) → SaysAtWake A
says_at_wake A now old new t w = (node_wakes now old new t w).own

pub says_at_issue : (A : Type 0) → SaysAtIssue A
says_at_issue A now instance request id old new t i =
    (part_issues now instance request old.part id t.told new.part i.issues).own

pub says_at_asking : (A : Type 0) → SaysAtAsking A
says_at_asking A now limits old new t a = (part_asks now limits old.part t.told new.part a.asks).own

pub says_at_registering : (A : Type 0) → SaysAtRegistering A
says_at_registering A now old new t r = (idles now old.part new.part t.told r.silent r.same).own

pub says_at_restart : (A : Type 0) → SaysAtRestart A
says_at_restart A now opening old new t r = (part_restarts now opening old.part t.told new.part r.part).own

pub relay_is_silent_at_hearing : (A : Type 0) → RelayIsSilentAtHearing A
relay_is_silent_at_hearing A now port from octets stamp old new t relay h =
    (hears_as now old.part port from octets stamp old new t refl h).silent relay

pub relay_is_silent_at_frame : (A : Type 0) → RelayIsSilentAtFrame A
relay_is_silent_at_frame A now port count from octets stamp old new t relay h =
    (answers now port h.heard.up old.part new.part h.heard.middle _ t.told h.heard.answers).silent relay

pub relay_is_silent_at_wake : (A : Type 0) → RelayIsSilentAtWake A
relay_is_silent_at_wake A now old new t relay w = (node_wakes now old new t w).silent relay
