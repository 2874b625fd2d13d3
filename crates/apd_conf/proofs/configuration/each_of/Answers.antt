use Rattle.std.proofs.Common.{◌+◌, Err, sym, ap, subst, ◌∙◌}
use Rattle.std.proofs.lemmas.List.{drop_all}
use Rattle.std.proofs.lemmas.Result.{err_from_is_err_and}
use Rattle.apd_conf.proofs.FilesLemmas.{AreSoFar, further, fails_here, whole}
use Rattle.apd_conf.proofs.configuration.each_of.Goals as goal

pub returns-in_err-configuration-clause-err : goal.returns-in_err-configuration-clause-err
returns-in_err-configuration-clause-err c =
    let told = err_from_is_err_and c.from_residual-in_err-configuration.result c.from_residual-in_err-configuration.ensures.1 in
    rw (told.1 ∙ ap Err told.2)
    (λ other. fails_here c.args.files.now c.loop-read.read-index c.loop-read.list.items c.read-item.result c.loop-read.invariant.so_far c.loop-read-test.true (sym c.read-item.is) c.in_err-configuration.field-0.0 (c.in_err-configuration.ensures.err other))

pub loop-read-preserved : goal.loop-read-preserved
loop-read-preserved c =
    let past = c.loop-read.invariant in
    record {
      so_far = subst (AreSoFar c.args.files.now (c.loop-read.read-index + 1)) (sym c.push_reserved.ensures.items)
          (further c.args.files.now c.loop-read.read-index c.loop-read.list.items c.read-item.result past.so_far c.loop-read-test.true (sym c.read-item.is) c.in_ok-configuration.field-0 c.in_ok-configuration.ensures.ok);
      room = c.push_reserved.ensures.capacity ∙ past.room;
      filled = c.push_reserved.ensures.len ∙ ap (λ n. n + 1) past.filled;
    }

pub returns-clause-ok : goal.returns-clause-ok
returns-clause-ok c = whole c.args.files.now c.loop-read.read-index c.loop-read.list.items c.loop-read.invariant.so_far (drop_all c.loop-read.read-index c.args.files.now c.loop-read-test.false)
