-- What contracts see of places in the value of a line.
use Rattle.std.specs.Prelude.{[], ◌∷◌, codes}
use Rattle.clip_cause.specs.Faults.{Fault, item_path}
use Rattle.clip_cause.specs.Path.{Path, to_member}
use Rattle.clip_cause.specs.declared.site.Site.{Site}
use Rattle.clip_cause.specs.declared.site.Site.TheVariants.{In, Item}
use Rattle.clip_cause.specs.declared.site.Spot.{Spot}
use Rattle.clip_cause.specs.declared.site.Spot.TheVariants.{Whole, Member, Field}
use Rattle.clip_cause.specs.declared.wrong.Wrong.{Wrong}

abbrev pub spot_path : Spot → Path
spot_path Whole = []
spot_path (Member name) = to_member name.now ∷ []
spot_path (Field name) = to_member (codes "fields") ∷ to_member name.now ∷ []

abbrev pub site_path : Site → Path
site_path (In spot) = spot_path spot
site_path (Item list place spot) = item_path list.now place (spot_path spot)

abbrev pub fault_of_spot : Spot × Wrong → Fault
fault_of_spot f = (spot_path f.0, f.1)

abbrev pub fault_of_site : Site × Wrong → Fault
fault_of_site f = (site_path f.0, f.1)
