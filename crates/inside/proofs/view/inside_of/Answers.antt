use Rattle.std.proofs.Common.{rules, IfNone, ◌≡◌, ◌∙◌, sym, subst, List, ℕ}
use Rattle.npdu.specs.Header.{OnlyHeader, header_of}
use Rattle.inside.proofs.Nothing.{no_sender}
use Rattle.inside.proofs.view.inside_of.Goals as goal

pub returns-in_err-source-clause-nothing : goal.returns-in_err-source-clause-nothing
returns-in_err-source-clause-nothing g c =
    rw (c.from_residual.ensures)
    (no_sender c.args.net c.args.parcel.now (header_of c.in-Ok.view) (subst (λ (o : List ℕ). OnlyHeader o (header_of c.in-Ok.view)) c.as_slice.ensures c.in-Ok.ensures.only) (sym c.sender.ensures ∙ c.in_err-source.was))
