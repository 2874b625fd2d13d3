use Rattle.apd_flusher.proofs.CommitterCalls.{unload_keeps}
use Rattle.apd_flusher.proofs.committer.Committer.take_receipt.Goals as goal

pub returns-in-None-clause-keeps : goal.returns-in-None-clause-keeps
returns-in-None-clause-keeps g c =
    let old = c.args.self.now in
    let u = c.unload.ensures in
    unload_keeps g.D.Disk.model c.unload.result old (record old { flusher = c.unload.new.self; receipt = c.take.new.self }) u.exactly u.settled u.table u.none u.device u.inside
