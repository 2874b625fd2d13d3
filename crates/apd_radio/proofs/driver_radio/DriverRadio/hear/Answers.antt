use Rattle.std.proofs.Common.{◌≡◌, ◌↔◌, ◌⊎◌, true, ap, subst}
use Rattle.apd_radio.specs.Drivers.{IsFault, IsUp}
use Rattle.apd_radio.proofs.Heeding.{heeds_next, heeds_word}
use Rattle.apd_radio.proofs.driver_radio.DriverRadio.hear.Goals as goal
use Rattle.apd_radio.proofs.driver_radio.DriverRadio.hear.Goals.{in-Datagram, in_default}

pub returns-clause-heeds : goal.returns-clause-heeds
returns-clause-heeds c = elim c.match-heard.branch [
  | in-Datagram w ↦
      let now : w.heed.new.self.driver.received.items ≡ c.receive.new.self.received.items = ap (λ r. r.driver.received.items) w.heed.ensures.same in
      let up : (w.heed.new.self.due ≡ true) ↔ ((c.args.self.now.due ≡ true) ⊎ IsUp w.in-Datagram.bytes.items) =
      subst (λ b. (w.heed.new.self.due ≡ true) ↔ ((c.args.self.now.due ≡ true) ⊎ IsUp b)) w.as_slice.ensures.value w.heed.ensures.up in
      let fault : (w.heed.new.self.failed ≡ true) ↔ ((c.args.self.now.failed ≡ true) ⊎ IsFault w.in-Datagram.bytes.items) =
      subst (λ b. (w.heed.new.self.failed ≡ true) ↔ ((c.args.self.now.failed ≡ true) ⊎ IsFault b)) w.as_slice.ensures.value w.heed.ensures.fault in
      rw w.self-is (rw now (heeds_word c.args.self.now.driver.address _ _ c.in_ok-heard.heard w.in-Datagram.bytes _ _ _ _ w.in-Datagram.is c.in_ok-heard.ensures.heard up fault))
  | in_default w ↦ rw w.self-is (heeds_next c.args.self.now.driver.address _ _ c.in_ok-heard.heard _ _ c.in_ok-heard.ensures.heard w.in_default.not-Datagram)
]
