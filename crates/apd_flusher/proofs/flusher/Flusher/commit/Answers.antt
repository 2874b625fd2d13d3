use Rattle.std.proofs.Common.{sym, subst}
use Rattle.apd_record.specs.Meaning.{meaning_of}
use Rattle.apd_flusher.specs.Flushing.{IsFlushing}
use Rattle.apd_flusher.proofs.Turns.{some_to_ok}
use Rattle.apd_flusher.proofs.flusher.Flusher.commit.Goals as goal

pub returns-clause-settled : goal.returns-clause-settled
returns-clause-settled g c = λ state h steady.
    let after = meaning_of c.args.batch.changes state in
    let loaded : IsFlushing g.D.Disk.model c.load.new.self state after = c.in_default.ensures.flushing state steady in
    let made = c.in_ok-make_calls.ensures.on state after (subst g.D.Disk.model.honest (sym c.load.ensures.device) h) loaded in
    some_to_ok c.unload.result c.ok_or.result _ (c.unload.ensures.exactly.1 c.in_ok-make_calls.ensures.done) (c.unload.ensures.settled state after made)

pub returns-in_err-make_calls-clause-stuck : goal.returns-in_err-make_calls-clause-stuck
returns-in_err-make_calls-clause-stuck g c = λ state h steady told.
    let after = meaning_of c.args.batch.changes state in
    let loaded : IsFlushing g.D.Disk.model c.load.new.self state after = c.in_default.ensures.flushing state steady in
    c.in_err-make_calls.ensures.stuck state after (subst g.D.Disk.model.honest (sym c.load.ensures.device) h) loaded
