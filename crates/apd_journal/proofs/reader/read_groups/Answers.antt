use Rattle.apd_journal.proofs.Halves.{no_groups, holds}
use Rattle.apd_journal.proofs.reader.read_groups.Goals as goal

pub returns-in_default-3-clause-none : goal.returns-in_default-3-clause-none
returns-in_default-3-clause-none c =
    no_groups c.args.half.now c.in-Some.epoch c.in-Some.body.now c.in-Some.ensures.some c.in-Some-2.changes c.in-Some-2.rest.now
    (rw c.in-Some-2.is at c.in_ok-changes.ensures.some) (rw c.in_default-3.is at c.in_ok-place.ensures.none)

pub returns-clause-some : goal.returns-clause-some
returns-clause-some c =
    holds c.args.half.now c.in-Some.epoch c.in-Some.body.now c.in-Some.ensures.some c.in-Some-2.changes c.in-Some-2.rest.now
    (rw c.in-Some-2.is at c.in_ok-changes.ensures.some) c.read_open.new.changes c.in-Some-3.place c.in-Some.ensures.range (rw c.in-Some-3.is at c.in_ok-place.ensures.some)
