-- Lemmas on the sizes of APDUs.
use Rattle.std.proofs.Common.{◌≡◌, refl, false, arith}
use Rattle.std.specs.Prelude.{◌==◌}
use Rattle.std.proofs.lemmas.Bool.{ne_eqb}
use Rattle.apdu.specs.Sizes.{apdu_code, IsNamedSize}
use Rattle.apdu.specs.declared.sizes.MaxApdu.{MaxApdu}
use Rattle.apdu.specs.declared.sizes.MaxApdu.TheVariants.{UpTo50, UpTo128, UpTo206, UpTo480, UpTo1024, UpTo1476, Reserved}
use Rattle.headline_bacnet.specs.Bodies.{size_of}

-- a size that stands under its name is that of its code
pub size_named : (m : MaxApdu) → IsNamedSize m → size_of (apdu_code m) ≡ m
size_named UpTo50 h = refl
size_named UpTo128 h = refl
size_named UpTo206 h = refl
size_named UpTo480 h = refl
size_named UpTo1024 h = refl
size_named UpTo1476 h = refl
size_named (Reserved n) h =
    let a : (n == 0) ≡ false = ne_eqb _ _ (λ e. omega (arith, e)) in
    let b : (n == 1) ≡ false = ne_eqb _ _ (λ e. omega (arith, e)) in
    let c : (n == 2) ≡ false = ne_eqb _ _ (λ e. omega (arith, e)) in
    let d : (n == 3) ≡ false = ne_eqb _ _ (λ e. omega (arith, e)) in
    let e : (n == 4) ≡ false = ne_eqb _ _ (λ e. omega (arith, e)) in
    let f : (n == 5) ≡ false = ne_eqb _ _ (λ e. omega (arith, e)) in
    rw (a, b, c, d, e, f) refl
