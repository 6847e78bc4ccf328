-- What the built-in port puts out of a parcel, octets for octets.
use Rattle.std.proofs.Common.{◌≡◌, ◌∙◌, refl, ap, subst, sym, ℕ, ◌<◌, None, List, [], ◌∷◌, ◌++◌, length, map}
use Rattle.std.proofs.lemmas.Bool.{le-leb, lt-leb}
use Rattle.std.proofs.lemmas.List.{append-nil}
use Rattle.link.specs.Limits.{max_npdu_at}
use Rattle.link.specs.Step.{PortSent, sent_of, step_of}
use Rattle.link.specs.declared.step.Sent.{Sent}
use Rattle.link_ip.specs.Port.{IpPortState, station_of}
use Rattle.link_ip.specs.Saying.{put_out, things_of}
use Rattle.link_ip.specs.Steps.{Downs}
use Rattle.npdu.specs.declared.mac.Station.{Station}
use Rattle.npdu.specs.declared.parcel.Parcel.{Parcel}
use Rattle.console.specs.Builtin.{builtin_port}
use Rattle.console.specs.Respond.{Said, datagrams_if, datagrams_of, octets_of}

module _ {A : Type 0} where
  octets_back : (station : Station) (out : List (Sent A)) → map octets_of (things_of station out) ≡ map (λ (s : Sent A). s.octets) out
  octets_back station [] = refl
  octets_back station (s ∷ out) = ap (λ os. s.octets ∷ os) (octets_back station out)

  -- what goes out, whatever the port
  octets_over : (out : List (PortSent A)) → map (λ (s : Sent A). s.octets) (sent_of out) ≡ map (λ (s : PortSent A). s.sent.octets) out
  octets_over [] = refl
  octets_over (s ∷ out) = ap (λ os. s.sent.octets ∷ os) (octets_over out)

  -- a parcel that the port takes
  said_down : (now : ℕ) (p : Parcel A) (old new : IpPortState A) (out : List (PortSent A)) → old ≡ builtin_port →
      Downs now p old (step_of None [] out) new → map (λ (s : PortSent A). s.sent.octets) out ≡ datagrams_of p
  said_down now p old new out is d =
      sym (octets_over out) ∙ sym (octets_back (station_of old) (sent_of out)) ∙ ap (λ ts. map octets_of ts) d.puts
      ∙ ap (λ (port : IpPortState A). map octets_of (put_out port p)) is
      ∙ sym (ap (λ b. datagrams_if b p) (le-leb (length p.npdu) 1497 d.fits))

  -- .. behind nothing
  pub down_said : (now : ℕ) (p : Parcel A) (old new : IpPortState A) (start out : List (PortSent A)) → old ≡ builtin_port → start ≡ [] →
      Downs now p old (step_of None start out) new → map (λ (s : PortSent A). s.sent.octets) out ≡ datagrams_of p
  down_said now p old new start out is none d =
      said_down now p old new out is (subst (λ (from : List (PortSent A)). Downs now p old (step_of None from out) new) none d)

  -- .. and one that is too long
  pub down_unsaid : (p : Parcel A) (old : IpPortState A) (said : Said) → max_npdu_at (station_of old).mac < length p.npdu → said ≡ said ++ datagrams_of p
  down_unsaid p old said long =
      sym (append-nil said) ∙ ap (λ ds. said ++ ds) (sym (ap (λ b. datagrams_if b p) (lt-leb (length p.npdu) 1497 long)))

pub ruleset say_rules = (down_said, down_unsaid)
