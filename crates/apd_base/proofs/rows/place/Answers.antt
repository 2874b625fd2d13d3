use Rattle.std.proofs.Common.{rules}
use Rattle.std.proofs.lemmas.Fn.{always_returns_same}
use Rattle.apd_base.proofs.Halves.{place_found}
use Rattle.apd_base.proofs.rows.place.Goals as goal

-- the closure compares each row's key with the one sought
pub returns-clause-exact : goal.returns-clause-exact
returns-clause-exact g c sorted =
    let search_by = c.binary_search_by.ensures in
    let compares = always_returns_same _ _ _ (λ a r f called. (search rules, search rules)) in
    place_found g.met.K.Ord.total c.args.key.now c.args.rows.now _ sorted search_by.bound (search_by.position (λ row. g.K.Ord.cmp row.0 c.args.key.now) compares)
