use Rattle.std.proofs.Common.{Some}
use Rattle.apd_flusher.proofs.CommitterCalls.{loaded_keeps, refused_keeps}
use Rattle.apd_flusher.proofs.committer.Committer.load.Goals as goal

pub returns-in-Ok-clause-keeps : goal.returns-in-Ok-clause-keeps
returns-in-Ok-clause-keeps g c =
    let old = c.args.self.now in
    let l = c.in-Ok.ensures in
    loaded_keeps g.D.Disk.model c.in_ok-batch.batch old (record old { flusher = c.load.new.self; batch = c.take.new.self }) l.loaded l.flushing l.device l.inside

pub returns-in-Err-clause-keeps : goal.returns-in-Err-clause-keeps
returns-in-Err-clause-keeps g c =
    let old = c.args.self.now in
    let l = c.in-Err.ensures in
    refused_keeps g.D.Disk.model c.in-Err.fault c.in_ok-batch.batch old (record old { flusher = c.load.new.self; batch = Some c.in-Err.batch }) l.refused l.rest l.device l.inside
