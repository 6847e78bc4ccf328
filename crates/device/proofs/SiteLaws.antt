-- The instance of a site's device has a spelling.
use Rattle.std.proofs.Common.{◌<◌, ◌^◌, arith}
use Rattle.object_model.specs.Site.{IsSite}
use Rattle.object_model.specs.declared.site.SiteObjects.{SiteObjects}

pub site_instance : {A : Type 0} (site : SiteObjects A) → IsSite site → site.instance < 2 ^ 22
site_instance site sound = omega (arith, sound.objects.0.instance)
