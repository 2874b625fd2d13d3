use Rattle.std.specs.Io.Take.{take_remaining}
use Rattle.apd_script.proofs.Running.{IsSoFar}
use Rattle.apd_script.proofs.script.run_script.Given as goal

-- the lines so far were run
abbrev pub invariant-loop-number : goal.invariant-loop-number
invariant-loop-number g l =
    IsSoFar g.D.Disk.model g.R.Radio.model
    (g.I.Read.remaining l.fn.reader) (take_remaining g.I.Read.remaining l.reader) l.number l.length l.fn.spares.items l.fn.world l.runner
