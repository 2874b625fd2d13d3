use Rattle.std.proofs.Common.{◌≡◌, drop, map, take}
use Rattle.apd_world.proofs.Words.{bssid_of, radio_of}
use Rattle.apd_world.proofs.slots.slots_for.Given as goal

-- the configurations so far have their slots, with the radios that stood in front
abbrev pub invariant-loop-conf : goal.invariant-loop-conf
invariant-loop-conf g l = record {
  slots : map bssid_of l.slots.items ≡ map (λ conf. conf.bssid) (take l.conf-index l.conf-items);
  frames : map (λ slot. g.R.Radio.frames (radio_of slot)) l.slots.items ≡ map g.R.Radio.frames
      (take l.conf-index l.fn.radios.items);
  rest : l.radios.items ≡ drop l.conf-index l.fn.radios.items;
}
