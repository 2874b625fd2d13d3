use Rattle.std.proofs.Common.{ap, subst}
use Rattle.std.specs.FinMap as map
use Rattle.apd_radio.specs.Drivers.{IsToldMap, map_text}
use Rattle.apd_radio.proofs.driver_radio.DriverRadioRadio.poll.Goals as goal

pub returns-clause-heeds : goal.returns-clause-heeds
returns-clause-heeds c =
    let first = c.args.self.now in
    let heard = c.listen-answer.new.self in
    let now = c.tell_due-told.new.self in (
      heard.due,
      rw (ap (λ d. d.received) c.tell_due-told.ensures.driver) (rw (ap (λ r. r.failed) c.tell_due-told.ensures.same) c.listen-answer.ensures.heeds),
      subst (λ told. IsToldMap heard.due (map_text first.driver.number (map.entries first.stations)) told now.due now.driver.told.items) (ap (λ d. d.told.items) c.listen-answer.ensures.driver)
          (subst (λ stations. IsToldMap heard.due (map_text first.driver.number (map.entries stations)) heard.driver.told.items now.due now.driver.told.items) (ap (λ r. r.stations) c.listen-answer.ensures.same)
          (subst (λ number. IsToldMap heard.due (map_text number (map.entries heard.stations)) heard.driver.told.items now.due now.driver.told.items) (ap (λ d. d.number) c.listen-answer.ensures.driver)
          c.tell_due-told.ensures.map)),
    )
