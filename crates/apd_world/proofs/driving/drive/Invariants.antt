use Rattle.std.proofs.Common.{◌≡◌, length, take, vec_len, vec_capacity}
use Rattle.apd_world.proofs.Words.{AreSafelyMade}
use Rattle.apd_world.proofs.driving.drive.Given as goal

abbrev pub invariant-loop-step : goal.invariant-loop-step
invariant-loop-step g l = record {
  driven : AreSafelyMade g.D.Disk.model g.R.Radio.model (take l.step-index l.steps) l.tolds.items l.initial.world l.world;
  room : vec_capacity l.tolds ≡ length l.steps;
  made : vec_len l.tolds ≡ l.step-index;
}
