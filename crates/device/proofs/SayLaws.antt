-- What is said behind a list goes out behind its parcels.
use Rattle.std.proofs.Common.{◌≡◌, ◌++◌, ℕ, List}
use Rattle.std.proofs.lemmas.Grind.{flat_map-append}
use Rattle.npdu.specs.declared.mac.Mac.{Mac}
use Rattle.server_tsm.specs.server_answers.declared.said.ServerSaid.{ServerSaid}
use Rattle.device.specs.Saying.{parcel_of, parcels_of}

pub said_behind : {A : Type 0} (now : ℕ) (mac : Mac) (xs ys : List (ServerSaid A)) →
    parcels_of now mac (xs ++ ys) ≡ parcels_of now mac xs ++ parcels_of now mac ys
said_behind now mac xs ys = flat_map-append (parcel_of now mac) xs ys

pub ruleset say_rules = (said_behind)
