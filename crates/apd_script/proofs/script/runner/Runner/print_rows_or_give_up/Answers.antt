use Rattle.std.proofs.Common.{refl, ◌≡◌}
use Rattle.apd_script.specs.Faults.{IsUnwritten}
use Rattle.apd_script.proofs.Doing.{kept_err, kept_ok, on_ok}
use Rattle.apd_script.proofs.script.runner.Runner.print_rows_or_give_up.Goals as goal

pub returns-clause-ok : goal.returns-clause-ok
returns-clause-ok g c =
    kept_ok (λ new. new ≡ c.args.self) c.print_rows-printed.result c.keep_if.result c.args.self c.keep_if.ensures.ok c.keep_if.ensures.err (on_ok (c.args.self ≡ c.args.self) c.print_rows-printed.result refl)

pub returns-clause-err : goal.returns-clause-err
returns-clause-err g c = kept_err IsUnwritten c.print_rows-printed.result c.keep_if.result c.args.self c.keep_if.ensures.ok c.keep_if.ensures.err c.print_rows-printed.ensures
