use Rattle.std.proofs.Common.{◌≡◌, ◌+◌, arith}
use Rattle.apd_core.specs.Core.{last_of}
use Rattle.apd_desk.specs.Counted.{entries_in}
use Rattle.apd_desk.proofs.Counting.{last_after, own_after}
use Rattle.apd_desk.proofs.locked.Locked.submit.Goals as goal

pub overflow_add-accepted : goal.overflow_add-accepted
overflow_add-accepted g c =
    let s = c.args.self.now.core in
    let told = c.in_ok-answer.ensures in
    let last : last_of c.submit.new.self ≡ last_of s + entries_in c.in_ok-answer.answer = last_after s c.args.moment c.args.input c.in_ok-answer.answer c.submit.new.self told.1.0 told.1.1 in
    let counts = c.entry_count-entries.ensures in
    let fits = c.sound.ensures.numbers in
    let within = c.args.self.now.within in
    omega (arith, last, counts, fits, within)

pub invariant_of-self-2-clause-within : goal.invariant_of-self-2-clause-within
invariant_of-self-2-clause-within g c =
    let s = c.args.self.now.core in
    let told = c.in_ok-answer.ensures in
    let last : last_of c.submit.new.self ≡ last_of s + entries_in c.in_ok-answer.answer = last_after s c.args.moment c.args.input c.in_ok-answer.answer c.submit.new.self told.1.0 told.1.1 in
    let counts = c.entry_count-entries.ensures in
    let within = c.args.self.now.within in
    omega (arith, last, counts, within)

pub returns-clause-tells : goal.returns-clause-tells
returns-clause-tells g c = c.in_ok-answer.ensures

pub returns-clause-answer : goal.returns-clause-answer
returns-clause-answer g c = c.in_ok-answer.ensures.1.0

pub returns-clause-core : goal.returns-clause-core
returns-clause-core g c = c.in_ok-answer.ensures.1.1

pub returns-clause-own : goal.returns-clause-own
returns-clause-own g c = own_after c.args.self.now.core c.args.moment c.args.input c.in_ok-answer.answer c.in_ok-answer.ensures.1.0
