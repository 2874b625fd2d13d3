use Rattle.std.proofs.Common.{◌≡◌, ap, sym, subst, ◌∙◌}
use Rattle.apd_radio.specs.declared.driver.Driver.{Driver}
use Rattle.apd_radio.specs.declared.driver_radio.DriverRadio.{DriverRadio}
use Rattle.apd_radio.specs.Drivers.{Heeds, HearsNext, is_word}
use Rattle.apd_radio.proofs.Heeding.{came_first, heeds_both, on_err, passes_both, passes_next, waits_both, waits_on}
use Rattle.apd_radio.proofs.driver_radio.DriverRadio.listen.Goals as goal
use Rattle.apd_radio.proofs.driver_radio.DriverRadio.listen.Goals.{in-Stranger, in-Datagram+else-not-is_word}

pub returns-in_err-hear-clause-passes : goal.returns-in_err-hear-clause-passes
returns-in_err-hear-clause-passes c =
    on_err c.from_residual.result (rw c.in_err-hear.ensures.unheard c.loop.invariant.passes)

pub returns-in_err-hear-clause-heeds : goal.returns-in_err-hear-clause-heeds
returns-in_err-hear-clause-heeds c =
    heeds_both c.args.self.now.driver.address _ _ _ _ _ _ _ _ _ c.loop.invariant.heeds
    (subst (λ d. Heeds d c.loop.self.driver.received.items c.hear.new.self.driver.received.items c.loop.self.due c.loop.self.failed c.hear.new.self.due c.hear.new.self.failed) (ap (λ d. d.address) c.loop.invariant.driver) c.hear.ensures.heeds)

pub returns-in-Nothing-clause-heeds : goal.returns-in-Nothing-clause-heeds
returns-in-Nothing-clause-heeds c =
    heeds_both c.args.self.now.driver.address _ _ _ _ _ _ _ _ _ c.loop.invariant.heeds
    (subst (λ d. Heeds d c.loop.self.driver.received.items c.hear.new.self.driver.received.items c.loop.self.due c.loop.self.failed c.hear.new.self.due c.hear.new.self.failed) (ap (λ d. d.address) c.loop.invariant.driver) c.hear.ensures.heeds)

pub returns-then-not-is_word-clause-heeds : goal.returns-then-not-is_word-clause-heeds
returns-then-not-is_word-clause-heeds c =
    heeds_both c.args.self.now.driver.address _ _ _ _ _ _ _ _ _ c.loop.invariant.heeds
    (subst (λ d. Heeds d c.loop.self.driver.received.items c.hear.new.self.driver.received.items c.loop.self.due c.loop.self.failed c.hear.new.self.due c.hear.new.self.failed) (ap (λ d. d.address) c.loop.invariant.driver) c.hear.ensures.heeds)

pub loop-preserved : goal.loop-preserved
loop-preserved c =
    let at : c.loop.self.driver.address ≡ c.args.self.now.driver.address = ap (λ d. d.address) c.loop.invariant.driver in
    let heard : HearsNext c.args.self.now.driver.address c.loop.self.driver.received.items c.in_ok-hear.field-0 c.hear.new.self.driver.received.items =
    subst (λ d. HearsNext d c.loop.self.driver.received.items c.in_ok-hear.field-0 c.hear.new.self.driver.received.items) at c.in_ok-hear.ensures.heard in
    record {
      passes = passes_both c.args.self.now.driver.address _ _ _ c.loop.invariant.passes (passes_next c.args.self.now.driver.address _ _ c.in_ok-hear.field-0 heard (λ bytes is. elim c.match-branch-2.branch [
        | in-Stranger w ↦ cc
        | in-Datagram+else-not-is_word w ↦
            let same : bytes ≡ w.in-Datagram.bytes = cc in
            ap (λ b. is_word b.items) same ∙ sym (ap is_word w.as_slice.ensures.value) ∙ sym w.is_word.ensures ∙ w.if-not-is_word.false
      ]));
      heeds = heeds_both c.args.self.now.driver.address _ _ _ _ _ _ _ _ _ c.loop.invariant.heeds
          (subst (λ d. Heeds d c.loop.self.driver.received.items c.hear.new.self.driver.received.items c.loop.self.due c.loop.self.failed c.hear.new.self.due c.hear.new.self.failed) at c.hear.ensures.heeds);
      waits = waits_both _ _ _ _ _ _ _ c.loop.invariant.waits (came_first c.loop.self.driver.datagrams _ _ _ c.in_ok-hear.ensures.first) c.hear.ensures.heeds.received;
      driver = c.hear.ensures.driver ∙ ap {A = Driver} {B = Driver} (λ d. record d { datagrams = c.hear.new.self.driver.datagrams; received = c.hear.new.self.driver.received }) c.loop.invariant.driver;
      same = c.hear.ensures.same ∙ ap {A = DriverRadio} {B = DriverRadio} (λ r. record r { driver = c.hear.new.self.driver; due = c.hear.new.self.due; failed = c.hear.new.self.failed }) c.loop.invariant.same;
    }

pub returns-in_err-hear-clause-waits : goal.returns-in_err-hear-clause-waits
returns-in_err-hear-clause-waits c =
    waits_both _ _ _ _ _ _ _ c.loop.invariant.waits
    (waits_on c.loop.self.driver.datagrams _ _ _ c.in_err-hear.ensures.kept (ap (λ r. r.items) c.in_err-hear.ensures.unheard))
    c.hear.ensures.heeds.received

pub returns-in-Nothing-clause-waits : goal.returns-in-Nothing-clause-waits
returns-in-Nothing-clause-waits c =
    waits_both _ _ _ _ _ _ _ c.loop.invariant.waits (came_first c.loop.self.driver.datagrams _ _ _ c.in_ok-hear.ensures.first) c.hear.ensures.heeds.received

pub returns-then-not-is_word-clause-waits : goal.returns-then-not-is_word-clause-waits
returns-then-not-is_word-clause-waits c =
    waits_both _ _ _ _ _ _ _ c.loop.invariant.waits (came_first c.loop.self.driver.datagrams _ _ _ c.in_ok-hear.ensures.first) c.hear.ensures.heeds.received
