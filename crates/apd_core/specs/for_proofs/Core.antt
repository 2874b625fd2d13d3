-- A core's fields, as callers see them, and what they keep.
use Rattle.std.specs.Prelude.{◌≡◌, ◌≤◌, List, length, take, map}
use Rattle.std.specs.List.{AllByRecursion}
use Rattle.apd_mlme.specs.declared.decision.TheConstants.{MAX_RECORD_BYTES}
use Rattle.apd_record.specs.Ranges.{AreChanges}
use Rattle.apd_record.specs.Record.{records_of}
use Rattle.apd_record.specs.declared.change.Change.{Change}
use Rattle.apd_journal.specs.Half.{changes_of}
use Rattle.apd_core.specs.Core.{CoreState, front_of, last_of}
use Rattle.apd_core.specs.Invariant.{IsCore}
use Rattle.apd_core.specs.declared.entry.Entry.{Entry}
use Rattle.apd_core.specs.declared.request_core.Core.TheInside.{Inside}

abbrev pub entries_of : List Entry → List (List Change)
entries_of entries = map (λ entry. entry.changes) entries

abbrev pub core_of : Inside → CoreState
core_of c =
    record {
      confs = c.confs;
      settled = c.settled.table;
      number = c.number;
      unsettled = entries_of c.unsettled.items;
      flight = c.flight;
      held = c.held;
      heard = c.heard;
      failed = c.failed;
    }

-- an entry's changes have records, and it knows their length
pub record IsMeasured (entry : Entry) : Type 0 where
  pub changes_are : AreChanges entry.changes
  pub length_is : entry.length ≡ length (records_of entry.changes)
  pub short : entry.length ≤ MAX_RECORD_BYTES

pub record IsKept (c : Inside) : Type 0 where
  pub core : IsCore (core_of c)
  pub front_is : c.front ≡ front_of (core_of c)
  pub last_is : c.last ≡ last_of (core_of c)
  pub batch_is : c.batch ≡ changes_of (take c.flight (entries_of c.unsettled.items))
  pub measured : AllByRecursion IsMeasured c.unsettled.items
