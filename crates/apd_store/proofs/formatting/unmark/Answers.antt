use Rattle.std.proofs.Common.{◌≤◌, ◌⊎◌, inl, inr, List, ℕ, Result, take, sym, subst, rules}
use Rattle.apd_store.proofs.Words.{Contains, DiskModel, IsOverMark, IsRead, IsSynced, IsWritten, LeavesOnly, Only, blank_mark, one_call, quiet_call, then_run}
use Rattle.apd_store.proofs.formatting.unmark.Goals as goal

-- an image from before, or one from before but for its mark
abbrev IsLeft : List (List ℕ) → (List ℕ → Type 0) → List ℕ → Type 0
IsLeft marks before image = before image ⊎ IsOverMark marks before image

-- a mark that stands is written over: a sync, a read and a write, then a sync more
module _ {D T E : Type 0} (disk : DiskModel D) (counts : (d : D) (t : ℕ) (i : List ℕ) → disk.honest d → t ≤ disk.moment d → disk.may_leave d i → disk.left_since d t i)
    (marks : List (List ℕ)) {before after : List ℕ} {old one two three : D} {r s t : Result T E}
    (synced : IsSynced disk old one r) (is_read : IsRead disk one two s 0 before after) (written : IsWritten disk two three t 0 blank_mark)
    (durable : Only (disk.reads old) (disk.may_leave one)) (standing : Contains marks (take 8 (disk.reads old))) (h2 : disk.honest two) where
  over_mark : LeavesOnly disk old three (IsLeft marks (disk.may_leave old))
  over_mark =
      let P = IsLeft marks (disk.may_leave old) in
      let h1 = is_read.was_honest h2 in
      let h = synced.stays_honest.1 h1 in
      let first = one_call disk old one P synced.goes_on (synced.time h) (λ i during. inl (synced.stop h i during)) in
      let second = quiet_call disk old one two P (λ t i le left. counts one t i h1 le left) first is_read.goes_on (is_read.time h1) (is_read.stop h1) in
      then_run disk old two three P second (one_call disk two three P written.goes_on (written.time h2) (λ i during.
      let from = written.stop h2 i during in
      let in_one = is_read.stop h1 from.0 (counts two (disk.moment one) from.0 h2 (is_read.time h1).later from.1) in
      let in_old = synced.stop h from.0 (counts one (disk.moment old) from.0 h1 (synced.time h).later in_one) in
      inr (from.0, in_old, subst (λ (l : List ℕ). Contains marks (take 8 l)) (sym (durable from.0 in_one)) standing, from.2.after)))

  then_synced : {new : D} {u : Result T E} → IsSynced disk three new u → LeavesOnly disk old new (IsLeft marks (disk.may_leave old))
  then_synced {new} again =
      let h3 = written.stays_honest.0 h2 in
      quiet_call disk old three new (IsLeft marks (disk.may_leave old)) (λ t i le left. counts three t i h3 le left) over_mark again.goes_on (again.time h3) (again.stop h3)

pub returns-in_err-write_at-clause-any_moment : goal.returns-in_err-write_at-clause-any_moment
returns-in_err-write_at-clause-any_moment g c = λ new_honest.
    let h2 = c.write_at.ensures.call.stays_honest.1 new_honest in
    let h = c.sync.ensures.call.stays_honest.1 (c.read_at.ensures.call.was_honest h2) in
    let d = g.D.Disk in
    let old = c.args.device.now in
    let bytes = c.in_ok-read_at.ensures.call.bytes h2 in
    let same = c.in_ok-sync.ensures.call.stays h in
    let standing : Contains c.args.marks.now (take 8 (d.model.reads old)) = search rules in
    over_mark d.model g.met.D.Disk.counts_now c.args.marks.now c.sync.ensures.call c.read_at.ensures.call c.write_at.ensures.call (c.in_ok-sync.ensures.call.durable h) standing h2

pub returns-in_err-sync-2-clause-any_moment : goal.returns-in_err-sync-2-clause-any_moment
returns-in_err-sync-2-clause-any_moment g c = λ new_honest.
    let h2 = c.write_at.ensures.call.stays_honest.1 (c.sync-then-is_mark.ensures.call.stays_honest.1 new_honest) in
    let h = c.sync.ensures.call.stays_honest.1 (c.read_at.ensures.call.was_honest h2) in
    let d = g.D.Disk in
    let old = c.args.device.now in
    let bytes = c.in_ok-read_at.ensures.call.bytes h2 in
    let same = c.in_ok-sync.ensures.call.stays h in
    let standing : Contains c.args.marks.now (take 8 (d.model.reads old)) = search rules in
    then_synced d.model g.met.D.Disk.counts_now c.args.marks.now c.sync.ensures.call c.read_at.ensures.call c.write_at.ensures.call (c.in_ok-sync.ensures.call.durable h) standing h2 c.sync-then-is_mark.ensures.call

pub returns-in_ok-sync-2-clause-any_moment : goal.returns-in_ok-sync-2-clause-any_moment
returns-in_ok-sync-2-clause-any_moment g c = λ new_honest.
    let h2 = c.write_at.ensures.call.stays_honest.1 (c.sync-then-is_mark.ensures.call.stays_honest.1 new_honest) in
    let h = c.sync.ensures.call.stays_honest.1 (c.read_at.ensures.call.was_honest h2) in
    let d = g.D.Disk in
    let old = c.args.device.now in
    let bytes = c.in_ok-read_at.ensures.call.bytes h2 in
    let same = c.in_ok-sync.ensures.call.stays h in
    let standing : Contains c.args.marks.now (take 8 (d.model.reads old)) = search rules in
    then_synced d.model g.met.D.Disk.counts_now c.args.marks.now c.sync.ensures.call c.read_at.ensures.call c.write_at.ensures.call (c.in_ok-sync.ensures.call.durable h) standing h2 c.sync-then-is_mark.ensures.call
