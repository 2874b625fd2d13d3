use Rattle.std.proofs.Common.{subst}
use Rattle.apd_maintenance.specs.Missing.{IsContent}
use Rattle.apd_maintenance.proofs.Making.{told_of_zeros}
use Rattle.apd_maintenance.proofs.missing.run_format_missing.Goals as goal

pub returns-in-Ok-Zeros-clause-is_there : goal.returns-in-Ok-Zeros-clause-is_there
returns-in-Ok-Zeros-clause-is_there g c =
    let d = g.D.Disk in
    let read = c.look.new.device in
    told_of_zeros d.model c.args.device read c.run_format.result (g.W.Write.contents c.args.writer.now) (g.W.Write.contents c.run_format.new.writer)
    c.look.ensures.size c.in-Ok-Zeros.ensures.count c.look.ensures.was_honest (λ h t i le left. g.met.D.Disk.counts_now read t i h le left)
    (λ h. subst (λ content. IsContent content (d.model.reads c.args.device)) c.in-Ok-Zeros.field-0-is (c.in-Ok-Zeros.ensures.content h))
    c.look.ensures.any_moment c.look.ensures.calls c.run_format.ensures.made c.run_format.ensures.printed
