-- The small site is a site, and its runs begin where nothing has happened: what is promised holds of them.
use Rattle.std.proofs.Common.{◌≡◌, refl, sym, ◌∙◌, Bool, true, false, cond, [], ◌∷◌, Some, None, ℕ, zero, suc, ◌<◌, arith}
use Rattle.std.specs.Prelude.{slice_index}
use Rattle.std.proofs.lemmas.Str.Ascii.{IsAscii-nil}
use Rattle.headline.specs.Protocol.{IsSite}
use Rattle.npdu.proofs.Stations.{one_station}
use Rattle.npdu.specs.Mac.{same_station}
use Rattle.npdu.specs.declared.mac.Station.{Station}
use Rattle.headline_bacnet.specs.Protocol.{bacnet}
use Rattle.object_model.proofs.TextLaws.{empty_text}
use Rattle.object_model.specs.Site.{IsText}
use Rattle.std.specs.Str.{IsUtf8}
use Rattle.std.proofs.lemmas.Str.{is_utf8-from_IsUtf8, IsUtf8-from_ascii}
use Rattle.apdu.specs.declared.sizes.MaxApdu.TheVariants.{UpTo1476}
use Rattle.headline_site.specs.Fair.{IsBegun}
use Rattle.headline_site_runs.specs.Small.{begun, client, device, objects, site}

is_device : (x : Station) (n : ℕ) (t : Bool) → same_station x device ≡ t → cond t (Some 10) None ≡ Some n → x ≡ device
is_device x n true e f = (one_station x device).same e
is_device x n false e f = absurd (cc f)

letter_ascii : (i : ℕ) → slice_index (68 ∷ []) i < 128
letter_ascii zero = omega arith
letter_ascii (suc i) = IsAscii-nil i

letter_utf8 : IsUtf8 (68 ∷ [])
letter_utf8 = IsUtf8-from_ascii (68 ∷ []) letter_ascii

one_letter : IsText (68 ∷ [])
one_letter = rw (is_utf8-from_IsUtf8 (68 ∷ []) letter_utf8) refl

pub is_site : (A : Type 0) → IsSite (bacnet A) (site A)
is_site A = record {
  one = λ a b n e f. is_device a n (same_station a device) refl e ∙ sym (is_device b n (same_station b device) refl f);
  sound = λ d n e. record {
    device = tt;
    few = omega arith;
    objects =
        (record { instance = omega arith; name = one_letter; vendor = omega arith; description = empty_text }, tt);
    apart = (tt, tt);
  };
}

pub is_begun : (A : Type 0) → IsBegun (site A) (begun A)
is_begun A = record {
  core = refl;
  clients = (record { address = client; segmented = true; max_apdu = UpTo1476; code = omega arith; is = refl }, tt);
  devices = (record { objects = objects; address = device; instance = refl; opening = refl; link = refl; is = refl }, tt);
  apart = record { clients = (tt, tt); devices = (tt, tt) };
}
