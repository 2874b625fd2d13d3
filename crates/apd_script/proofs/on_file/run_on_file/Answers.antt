use Rattle.apd_script.specs.declared.on_store.TheConstants.{STOPS}
use Rattle.apd_script.proofs.OnFile.{runs_on_file}
use Rattle.apd_script.proofs.on_file.run_on_file.Goals as goal

pub returns-clause-ok : goal.returns-clause-ok
returns-clause-ok g c =
    runs_on_file _ c.args.known c.args.confs STOPS c.args.file c.knowing.result (g.I.Read.remaining c.args.reader) c.in_ok-world.world
    c.knowing.ensures c.in_ok-world.ensures.ok c.show_images.ensures.kept
