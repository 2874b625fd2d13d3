use Rattle.apd_store.proofs.Unique.{one_version}
use Rattle.apd_store.proofs.laws.an_image_shows_by_one_version.Goals as goal

pub returns : goal.returns
returns c = one_version
