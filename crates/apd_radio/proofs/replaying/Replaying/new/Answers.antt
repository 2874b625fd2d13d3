use Rattle.std.proofs.Common.{arith, ◌≡◌, ◌++◌, [], subst, sym, ap, ◌∙◌}
use Rattle.std.proofs.lemmas.List.{append-nil}
use Rattle.apd_base.specs.Text.{lines}
use Rattle.apd_radio.specs.Recordings.{AreLinesOf}
use Rattle.apd_radio.proofs.Reading.{reads_on}
use Rattle.apd_radio.proofs.replaying.Replaying.new.Goals as goal

pub loop-first-preserved : goal.loop-first-preserved
loop-first-preserved c = record {
  read = reads_on c.args.recording.now c.loop-first.rest.now c.loop-first.line c.loop-first.frames.items c.loop-first.invariant.read c.in-Some.first.now c.in-Some.after.now c.in-Some.ensures.lines
      c.in-Some-2.call (rw c.in-Some-2.is at c.in_ok-call.ensures.call) c.keep_received.new.frames.items c.in_ok-keep_received.ensures;
  room = omega (arith, c.in-Some.ensures.shorter, c.loop-first.invariant.room);
}

pub returns-clause-frames : goal.returns-clause-frames
unfolding lines
returns-clause-frames c =
    let r = c.loop-first.invariant.read in
    let nothing : lines c.loop-first.rest.now ≡ [] = ap lines c.in_default.ensures.lines in
    (r.calls, subst (AreLinesOf r.calls) (sym (r.all ∙ ap (λ ls. r.front ++ ls) nothing ∙ append-nil r.front)) r.good, r.received)
