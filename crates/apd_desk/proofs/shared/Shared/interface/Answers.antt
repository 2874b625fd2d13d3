use Rattle.apd_desk.proofs.Noting.{told}
use Rattle.apd_desk.proofs.shared.Shared.interface.Goals as goal

pub returns : goal.returns
returns g c =
    let locked = c.deref.result.now in
    let found = told locked.core.failed locked.notes.noted _ c.interface.result c.interface.ensures in
    (locked.core, found.0, found.1)
