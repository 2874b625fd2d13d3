use Rattle.std.proofs.Common.{Err, IfErr, ap, map, subst, sym, ◌∙◌, ◌≡◌}
use Rattle.std.proofs.lemmas.Result.{err_from_is_err_and}
use Rattle.apd_slot.specs.Slots.{bssid_of}
use Rattle.apd_world.specs.Outside.{device_of}
use Rattle.apd_world.specs.WorldParts.{durable_of}
use Rattle.apd_script.specs.Faults.{IsBeginFault}
use Rattle.apd_script.proofs.Stopping.{anew}
use Rattle.apd_script.proofs.script.runner.Runner.restart.Goals as goal

pub returns-clause-ok : goal.returns-clause-ok
returns-clause-ok g c = λ configured each.
    anew g.D.Disk.model g.R.Radio.model c.args.self.moment c.device_of.result c.args.self.world c.in_ok-world.world c.args.confs
    c.device_of.ensures c.show_images.ensures.images c.show_images.ensures.kept (λ honest. g.met.D.Disk.reads_may_be_left _ honest) c.an_image_shows_one_state.ensures
    configured (c.in_ok-world.ensures.ok each)

pub returns-in_err-world-clause-err : goal.returns-in_err-world-clause-err
returns-in_err-world-clause-err g c =
    let told = err_from_is_err_and c.from_residual.result c.from_residual.ensures.1 in
    subst (λ r. IfErr r (λ why. map bssid_of c.args.slots.items ≡ map (λ conf. conf.bssid) c.args.confs
    → IsBeginFault g.D.Disk.model g.R.Radio.model (device_of (durable_of c.args.self.world)) c.args.confs why)) (sym (told.1 ∙ ap Err told.2))
    (λ each. subst (λ d. IsBeginFault g.D.Disk.model g.R.Radio.model d c.args.confs c.in_err-world.field-0.0) c.device_of.ensures (c.in_err-world.ensures.err each))
