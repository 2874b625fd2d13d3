use Rattle.std.proofs.Common.{◌≡◌, take}
use Rattle.std.specs.FinMap as map
use Rattle.apd_slot.proofs.resuming.install_all.Given as goal

-- the rows so far are installed, and nothing else changed
abbrev pub invariant-loop-addr : goal.invariant-loop-addr
invariant-loop-addr g l = record {
  rows : l.addr-items ≡ map.entries l.stations;
  installed : g.R.Radio.model.stations l.radio ≡ map.from_entries (take l.addr-index l.addr-items);
  frames : g.R.Radio.frames l.radio ≡ g.R.Radio.frames l.initial.radio;
  faults : g.R.Radio.model.faults l.radio ≡ g.R.Radio.model.faults l.initial.radio;
  sent : g.R.Radio.model.sent l.radio ≡ g.R.Radio.model.sent l.initial.radio;
}
