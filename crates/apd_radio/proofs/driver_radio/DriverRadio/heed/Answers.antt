use Rattle.std.proofs.Common.{◌≡◌, refl}
use Rattle.apd_radio.proofs.Heeding.{as_before}
use Rattle.apd_radio.proofs.driver_radio.DriverRadio.heed.Goals as goal
use Rattle.apd_radio.proofs.driver_radio.DriverRadio.heed.Goals.{then-is_up, else-is_up}

pub returns-in_default-clause-fault : goal.returns-in_default-clause-fault
returns-in_default-clause-fault c =
    let same : c.if-is_up.self.failed ≡ c.args.self.now.failed = elim c.if-is_up.branch [ then-is_up w ↦ rw w.self-is refl | else-is_up w ↦ rw w.self-is refl ] in
    as_before c.if-is_up.self.failed c.args.self.now.failed _ same (λ (number, said). c.in_default.ensures.none number said)
