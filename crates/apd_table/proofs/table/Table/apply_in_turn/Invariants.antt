use Rattle.std.proofs.Common.{◌≡◌, drop}
use Rattle.apd_table.proofs.Words.{AreDrops, NoNewRow, Sound, StaySound, meaning_of}
use Rattle.apd_table.proofs.table.Table.apply_in_turn.Given as goal

-- what is left leads where all of it leads, and is sound, makes no new row and is drops alone where all of it is
abbrev pub invariant-loop-change : goal.invariant-loop-change
invariant-loop-change l = record {
  sound : Sound l.self;
  whole : meaning_of (drop l.change-index l.changes) l.self ≡ meaning_of l.changes l.fn.self;
  stays : StaySound (drop l.change-index l.changes) l.self → StaySound l.changes l.fn.self;
  left : StaySound l.changes l.fn.self → StaySound (drop l.change-index l.changes) l.self;
  rows : NoNewRow l.changes l.fn.self → NoNewRow (drop l.change-index l.changes) l.self;
  drops : AreDrops l.changes → AreDrops (drop l.change-index l.changes);
}
