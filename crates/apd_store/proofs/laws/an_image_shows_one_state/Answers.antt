use Rattle.std.proofs.Common.{refl}
use Rattle.apd_store.specs.Image.{magic}
use Rattle.apd_store.proofs.Unique.{shows_once}
use Rattle.apd_store.proofs.laws.an_image_shows_one_state.Goals as goal

pub returns : goal.returns
returns c = λ image s t. shows_once magic image s t refl
