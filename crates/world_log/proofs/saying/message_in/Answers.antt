use Rattle.std.proofs.Common.{ap, refl, subst, length, ℕ, ◌-◌, IfSome}
use Rattle.inside.specs.Inside.{HasInside}
use Rattle.inside.specs.View.{inside_in}
use Rattle.world_log.proofs.SaidLaws.{inside_where_it_lies}
use Rattle.world_log.proofs.saying.message_in.Goals as goal

-- it has inside what is read there
pub returns : goal.returns
returns g c =
    let p = c.args.parcel in
    let view = c.unwrap-view.result in
    let has : HasInside c.args.net p.from p.to p.npdu (inside_in view) =
    subst (λ o. IfSome o (λ v. HasInside c.args.net p.from p.to p.npdu (inside_in v))) c.unwrap-view.ensures
    c.inside_of.ensures.inside in record {
      inside = inside_where_it_lies c.args.net p (inside_in view) _ has refl refl refl
          (ap (λ (n : ℕ). n - length view.apdu.now) c.len.ensures) refl;
    }
