use Rattle.std.proofs.Common.{Ok, refl, sym, ap, ◌∙◌, zero}
use Rattle.std.specs.Option.{option_copied}
use Rattle.apd_core.specs.declared.input.Input.TheVariants.{Received as Input}
use Rattle.apd_world.specs.declared.step.Step.TheVariants.{Accept}
use Rattle.apd_script.specs.Lines.{Received}
use Rattle.apd_script.proofs.Doing.{received_ok, unsaid_alone}
use Rattle.apd_script.proofs.script.runner.Runner.receive.Goals as goal

pub returns-clause-ok : goal.returns-clause-ok
returns-clause-ok g c =
    received_ok g.D.Disk.model g.R.Radio.model c.accept.result c.args.interface.now c.args.frame.now c.in-Some.conf.now
    (Accept (Input c.in-Some.conf.now.bssid c.args.frame) c.args.self.now.moment) c.args.self.now c.accept.new.self (rw c.confs.ensures at (sym c.with_interface.ensures ∙ ap option_copied c.in-Some.is)) refl c.accept.ensures.ok

pub returns-clause-err : goal.returns-clause-err
returns-clause-err g c =
    unsaid_alone g.D.Disk.model g.R.Radio.model _ c.args.number (Received c.args.interface.now c.args.frame.now) c.args.self.now c.accept.result
    (λ made. (
      c.accept.new.self,
      received_ok g.D.Disk.model g.R.Radio.model (Ok zero) c.args.interface.now c.args.frame.now c.in-Some.conf.now
          (Accept (Input c.in-Some.conf.now.bssid c.args.frame) c.args.self.now.moment) c.args.self.now c.accept.new.self (rw c.confs.ensures at (sym c.with_interface.ensures ∙ ap option_copied c.in-Some.is)) refl made,
    )) c.accept.ensures.err
