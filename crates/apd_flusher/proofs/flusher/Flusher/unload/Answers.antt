use Rattle.apd_flusher.proofs.Turns.{settles}
use Rattle.apd_flusher.proofs.flusher.Flusher.unload.Goals as goal

pub returns-clause-settled : goal.returns-clause-settled
returns-clause-settled g c =
    settles g.D.Disk.model c.args.self.now (record { alloc = c.args.self.now.alloc; store = c.finish.new.self; tables = c.commit.new.self })
    c.in_ok-receipt.ensures.settled c.commit.ensures
