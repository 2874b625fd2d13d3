use Rattle.std.proofs.Common.{◌<◌, IfErr, Err, take, sym, ap, subst, ◌∙◌, arith}
use Rattle.std.specs.Option.{option_map}
use Rattle.std.proofs.lemmas.Result.{err_from_is_err_and}
use Rattle.std.specs.Io.Take.{take_remaining}
use Rattle.apd_script.specs.Faults.{IsFault}
use Rattle.apd_script.proofs.Running.{begins_so_far, ends_so_far, fails_so_far, further_so_far, unread_so_far, unstarted}
use Rattle.apd_script.proofs.script.run_script.Goals as goal
use Rattle.apd_script.proofs.script.run_script.Goals.{else-loop-number-test, then-loop-number-test+in-Ok+then-read-eq0}

pub loop-number-init : goal.loop-number-init
loop-number-init g c =
    begins_so_far g.D.Disk.model g.R.Radio.model (g.I.Read.remaining c.args.reader) (take_remaining g.I.Read.remaining c.take-reader.result)
    c.args.spares.items c.args.world c.begin.result c.in_ok-runner.runner
    (λ i. option_map (take (c.take-reader.ensures.limit i)) (g.I.Read.remaining (c.take-reader.ensures.inner i)))
    c.begin.ensures c.in_ok-runner.ensures.ok

pub loop-number-preserved : goal.loop-number-preserved
loop-number-preserved g c =
    let some : 0 < c.in-Ok.read = omega (arith, c.if-read-eq0.false) in
    further_so_far g.D.Disk.model g.R.Radio.model (g.I.Read.remaining c.args.reader) (take_remaining g.I.Read.remaining c.loop-number.reader) (take_remaining g.I.Read.remaining c.next_line.new.reader)
    c.loop-number.number c.loop-number.length c.in-Ok.read c.next_line.new.count c.args.spares.items c.args.world c.loop-number.runner c.in_ok-runner-2.runner c.next_line.new.text.items
    c.loop-number.invariant c.in-Ok.ensures.read c.in-Ok.ensures.length some c.in-Ok.ensures.count (rw (c.line_of.ensures, c.as_slice.ensures.value) at c.in_ok-runner-2.ensures.ok)

pub returns-in_err-runner-2-clause-fault : goal.returns-in_err-runner-2-clause-fault
returns-in_err-runner-2-clause-fault g c =
    let some : 0 < c.in-Ok.read = omega (arith, c.if-read-eq0.false) in
    let fails = fails_so_far g.D.Disk.model g.R.Radio.model c.in_err-runner-2.field-0.0 (g.I.Read.remaining c.args.reader) (take_remaining g.I.Read.remaining c.loop-number.reader) (take_remaining g.I.Read.remaining c.next_line.new.reader)
    c.loop-number.number c.loop-number.length c.in-Ok.read c.next_line.new.count c.args.spares.items c.args.world c.loop-number.runner c.next_line.new.text.items
    c.loop-number.invariant c.in-Ok.ensures.read c.in-Ok.ensures.length some c.in-Ok.ensures.count (rw (c.line_of.ensures, c.as_slice.ensures.value) at c.in_err-runner-2.ensures.err) in
    let told = err_from_is_err_and c.from_residual-in_err-runner-2.result c.from_residual-in_err-runner-2.ensures.1 in
    subst (λ r. IfErr r (IsFault g.D.Disk.model g.R.Radio.model (g.I.Read.remaining c.args.reader) c.args.spares.items c.args.world)) (sym (told.1 ∙ ap Err told.2)) fails

pub returns-in-Err-clause-ends : goal.returns-in-Err-clause-ends
returns-in-Err-clause-ends g c = rw c.give_up.ensures tt

pub returns-in-Err-clause-fault : goal.returns-in-Err-clause-fault
returns-in-Err-clause-fault g c =
    rw c.give_up.ensures (unread_so_far g.D.Disk.model g.R.Radio.model c.in-Err.fault (g.I.Read.remaining c.args.reader) (take_remaining g.I.Read.remaining c.loop-number.reader) c.loop-number.number c.loop-number.length c.args.spares.items c.args.world c.loop-number.runner c.loop-number.invariant c.in-Err.ensures.err)

pub returns-clause-ends : goal.returns-clause-ends
returns-clause-ends g c =
    let so_far = c.loop-number.invariant in
    rw c.into_world.ensures (elim c.loop-number-test.branch [
      | else-loop-number-test w ↦ absurd (omega (arith, so_far.counted, so_far.short, so_far.fits, w.loop-number-test.false))
      | then-loop-number-test+in-Ok+then-read-eq0 w ↦
          ends_so_far g.D.Disk.model g.R.Radio.model (g.I.Read.remaining c.args.reader) (take_remaining g.I.Read.remaining c.loop-number.reader) (take_remaining g.I.Read.remaining w.next_line.new.reader)
          c.loop-number.number c.loop-number.length c.args.spares.items c.args.world c.loop-number.runner w.next_line.new.text.items
          so_far w.in-Ok.ensures.read (w.in-Ok.ensures.length ∙ w.if-read-eq0.true)
    ])

pub returns-in_err-runner-clause-fault : goal.returns-in_err-runner-clause-fault
returns-in_err-runner-clause-fault g c =
    let told = err_from_is_err_and c.from_residual.result c.from_residual.ensures.1 in
    subst (λ r. IfErr r (IsFault g.D.Disk.model g.R.Radio.model (g.I.Read.remaining c.args.reader) c.args.spares.items c.args.world)) (sym (told.1 ∙ ap Err told.2))
    (unstarted g.D.Disk.model g.R.Radio.model c.in_err-runner.field-0.0 (g.I.Read.remaining c.args.reader) c.args.spares.items c.args.world c.begin.result c.begin.ensures c.in_err-runner.ensures.err)
