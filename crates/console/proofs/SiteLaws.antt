-- The built-in device's objects are ones that a site may give a device.
use Rattle.std.proofs.Common.{refl, ap, [], length, arith}
use Rattle.std.specs.Prelude.{codes}
use Rattle.tags.specs.declared.object_id.ObjectId.{ObjectId}
use Rattle.std.proofs.lemmas.Str.{is_utf8-from_IsUtf8}
use Rattle.object_model.specs.Site.{IsText, IsSite, IsFaultySite}
use Rattle.console.specs.Builtin.{builtin_site}

device_text : IsText (codes "device")
unfolding lib.Utf8.encode
device_text = rw (is_utf8-from_IsUtf8 (codes "device") (codes "device", (refl, refl))) refl

value_text : IsText (codes "BV1")
unfolding lib.Utf8.encode
value_text = rw (is_utf8-from_IsUtf8 (codes "BV1") (codes "BV1", (refl, refl))) refl

empty_text : IsText []
empty_text = rw (is_utf8-from_IsUtf8 [] ([], (refl, refl))) refl

pub builtin_is_site : {A : Type 0} → IsSite (builtin_site {A = A})
builtin_is_site = record {
  device = (tt, tt);
  few = omega arith;
  objects = (
    record { instance = omega arith; name = device_text; vendor = omega arith; description = empty_text },
    (
      record {
        kind = tt;
        instance = omega arith;
        name = value_text;
        sixteen = refl;
        slots =
            (tt, (tt, (tt, (tt, (tt, (tt, (tt, (tt, (tt, (tt, (tt, (tt, (tt, (tt, (tt, (tt, tt))))))))))))))));
        default =
            record { taken = refl; sound = omega arith };
        description = empty_text;
      },
      tt,
    ),
  );
  apart = ((record { identifiers = λ e. omega (arith, ap (λ (id : ObjectId). id.object_type) e); names = λ e. omega (arith, ap length e) }, tt), (tt, tt));
}

-- so they are not faulty
pub not_faulty : {A : Type 0} → IsFaultySite (builtin_site {A = A}) → ⊥
not_faulty faulty = faulty.faulty builtin_is_site

pub ruleset site_rules = (not_faulty)
