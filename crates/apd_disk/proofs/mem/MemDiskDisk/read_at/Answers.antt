use Rattle.std.proofs.Common.{length}
use Rattle.apd_disk.proofs.Calls.{elapses_push, goes_on_by_one, goes_on_by_none, read_stands, read_fits, read_stop}
use Rattle.apd_disk.proofs.mem.MemDiskDisk.read_at.Goals as goal
use Rattle.apd_disk.specs.declared.call.Call.TheVariants.{Read}

pub invariant_of-self : goal.invariant_of-self
invariant_of-self c =
    let d = c.args.self.now in
    record {
      stands = read_stands d.initial.items d.calls.items c.record.new.calls.items d.bytes.items d.stands d.fit c.args.at (length c.args.buf.now) c.in-Ok.ensures.ok;
      fit = read_fits d.initial.items d.calls.items c.record.new.calls.items d.bytes.items d.stands d.fit c.args.at (length c.args.buf.now) c.in-Ok.ensures.ok;
    }

pub returns-in-Ok-clause-stop : goal.returns-in-Ok-clause-stop
returns-in-Ok-clause-stop c =
    let d = c.args.self.now in
    read_stop d.initial.items d.calls.items c.record.new.calls.items d.bytes.items d.stands d.fit c.args.at (length c.args.buf.now) c.in-Ok.ensures.ok

pub returns-in-Ok-clause-time : goal.returns-in-Ok-clause-time
returns-in-Ok-clause-time c =
    let d = c.args.self.now in
    elapses_push d.initial.items d.calls.items c.record.new.calls.items (Read c.args.at (length c.args.buf.now)) c.in-Ok.ensures.ok

pub returns-in-Ok-clause-goes_on : goal.returns-in-Ok-clause-goes_on
returns-in-Ok-clause-goes_on c =
    let d = c.args.self.now in
    goes_on_by_one d.initial.items d.calls.items c.record.new.calls.items (Read c.args.at (length c.args.buf.now)) c.in-Ok.ensures.ok

pub returns-in-Err-clause-goes_on : goal.returns-in-Err-clause-goes_on
returns-in-Err-clause-goes_on c =
    let d = c.args.self.now in
    goes_on_by_none d.initial.items d.calls.items c.record.new.calls.items c.in-Err.ensures.err
