use Rattle.std.proofs.Common.{Err, IfErr, ap, length, map, subst, sym, ◌*◌, ◌∙◌, ◌≡◌}
use Rattle.std.proofs.lemmas.Result.{err_from_is_err_and}
use Rattle.apd_slot.specs.Slots.{bssid_of}
use Rattle.apd_script.specs.Faults.{IsFaultOn}
use Rattle.apd_script.specs.declared.on_store.TheConstants.{STOPS}
use Rattle.apd_script.proofs.OnStore.{fails_on, runs_on, unbegun}
use Rattle.apd_script.proofs.on_store.run_from.Goals as goal

pub returns-clause-ok : goal.returns-clause-ok
returns-clause-ok g c =
    runs_on g.D.Disk.model g.R.Radio.model STOPS c.args.disk c.args.confs (g.I.Read.remaining c.args.reader)
    (map bssid_of c.args.slots.items ≡ map (λ conf. conf.bssid) c.args.confs) c.in_ok-world.world c.args.spares.items c.in_ok-world.ensures.ok c.run_script.result c.run_script.ensures.ends

pub returns-clause-err : goal.returns-clause-err
returns-clause-err g c =
    fails_on g.D.Disk.model g.R.Radio.model STOPS c.args.disk c.args.confs (g.I.Read.remaining c.args.reader)
    (map bssid_of c.args.slots.items ≡ map (λ conf. conf.bssid) c.args.confs) c.in_ok-world.world c.args.spares.items c.in_ok-world.ensures.ok c.run_script.result c.run_script.ensures.fault

pub returns-in_err-world-clause-err : goal.returns-in_err-world-clause-err
returns-in_err-world-clause-err g c =
    let told = err_from_is_err_and c.from_residual.result c.from_residual.ensures.1 in
    subst (λ r. IfErr r (λ why. map bssid_of c.args.slots.items ≡ map (λ conf. conf.bssid) c.args.confs → length c.args.spares.items ≡ STOPS * length c.args.confs
    → IsFaultOn g.D.Disk.model g.R.Radio.model STOPS c.args.disk c.args.confs (g.I.Read.remaining c.args.reader) why)) (sym (told.1 ∙ ap Err told.2))
    (λ each enough. unbegun g.D.Disk.model g.R.Radio.model STOPS c.args.disk c.args.confs (g.I.Read.remaining c.args.reader) c.in_err-world.field-0.0 (c.in_err-world.ensures.err each))
