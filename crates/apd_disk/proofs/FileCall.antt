-- One call of a file, with its note.
use Rattle.std.proofs.Common.{◌≡◌, ◌≤◌, ◌+◌, ⊎_elim, ℕ, List, length, take, drop, Result, Ok, Err, refl, sym, ◌∙◌, ap, subst}
use Rattle.std.specs.Prelude.{IsErr, [], ◌∷◌, get_or}
use Rattle.apd_disk.specs.Disk.{IsRead, IsSynced, IsWritten}
use Rattle.apd_disk.specs.FileCalls.{FileCall, gave, wrote, tore, synced, missed, lost, file_reads, FileLeaves}
use Rattle.apd_disk.specs.for_proofs.FileLaws.{torn_same, reads_left, only_now, elapses_by, elapses_not, during}
use Rattle.apd_disk.specs.FileModel.{file_model, noting, noting_tore, noting_lost, next_left}
use Rattle.apd_disk.specs.FileMore.{HasMore, has_same}
use Rattle.apd_disk.specs.declared.file.FileDisk.{FileDisk}
use Rattle.apd_disk.specs.declared.record.FileRecord.{FileRecord}

module _ {F : Type 0} (old new : FileDisk F) (len : new.len ≡ old.len) where
  abbrev after : FileRecord → FileDisk F
  after known = record new { len = old.len; known = known }

  is_after : (known : FileRecord) → new.known ≡ known → after known ≡ new
  is_after known is =
      sym (ap (λ (n : ℕ). record new { len = n }) len ∙ ap (λ (k : FileRecord). record new { len = old.len; known = k }) is)

  has_one : (call : FileCall) → HasMore old.known (noting call old.known)
  has_one call = record { held = refl; left = refl; since = call ∷ []; calls = refl }

  module _ {T E : Type 0} where
    -- a read that gave these bytes
    pub gave_is_read : (at : ℕ) (before bytes : List ℕ) (value : T) → length bytes ≡ length before
        → new.known ≡ noting (gave at bytes) old.known → IsRead {E = E} file_model old new (Ok value) at before bytes
    gave_is_read at before bytes value size is =
        let held = old.known.held in
        let calls = old.known.calls in
        subst (λ (d : FileDisk F). IsRead {E = E} file_model old d (Ok value) at before bytes) (is_after (noting (gave at bytes) old.known) is)
        (record {
          goes_on = has_one (gave at bytes);
          length_stays = refl;
          was_honest = λ h. h.0;
          bytes = λ h. h.1 ∙ ap (λ (n : ℕ). take n (drop at (file_reads held calls))) size;
          stays = λ h. refl;
          stop = λ h c left. ⊎_elim (λ now. now) (λ before. before) (during held (gave at bytes) calls c left);
          time = λ h. elapses_by held (gave at bytes) calls;
        })

    -- one that failed
    missed_is_read-at : (at : ℕ) (before bytes : List ℕ) (why : E) → new.known ≡ noting missed old.known
        → IsRead {T = T} file_model old new (Err why) at before bytes
    missed_is_read-at at before bytes why is =
        let held = old.known.held in
        let calls = old.known.calls in
        subst (λ (d : FileDisk F). IsRead {T = T} file_model old d (Err why) at before bytes) (is_after (noting missed old.known) is)
        (record {
          goes_on = has_one missed;
          length_stays = refl;
          was_honest = λ h. h;
          bytes = λ h. tt;
          stays = λ h. tt;
          stop = λ h c left. ⊎_elim (λ now. now) (λ before. before) (during held missed calls c left);
          time = λ h. elapses_by held missed calls;
        })

    pub wrote_is_written : (at : ℕ) (bytes : List ℕ) (value : T) → at + length bytes ≤ old.len
        → new.known ≡ noting (wrote at bytes) old.known → IsWritten {E = E} file_model old new (Ok value) at bytes
    wrote_is_written at bytes value fits is =
        let held = old.known.held in
        let calls = old.known.calls in
        subst (λ (d : FileDisk F). IsWritten {E = E} file_model old d (Ok value) at bytes) (is_after (noting (wrote at bytes) old.known) is)
        (record {
          goes_on = has_one (wrote at bytes);
          length_stays = refl;
          stays_honest = (λ h. (h, fits), λ h. h.0);
          written = λ h. refl;
          stop = λ h c left. ⊎_elim (λ now. now) (λ before. (c, before, torn_same at (length bytes) c)) (during held (wrote at bytes) calls c left);
          time = λ h. elapses_by held (wrote at bytes) calls;
        })

    -- a write that failed
    tore_is_written-at : (at : ℕ) (bytes : List ℕ) (why : E) → at + length bytes ≤ old.len
        → new.known ≡ noting_tore at (length bytes) old.known → IsWritten {T = T} file_model old new (Err why) at bytes
    tore_is_written-at at bytes why fits is =
        let held = old.known.held in
        let calls = old.known.calls in
        let torn = get_or (next_left old.known) 0 [] in
        subst (λ (d : FileDisk F). IsWritten {T = T} file_model old d (Err why) at bytes) (is_after (noting_tore at (length bytes) old.known) is)
        (record {
          goes_on = has_one (tore at (length bytes) torn);
          length_stays = refl;
          stays_honest = (λ h. (h, fits), λ h. h.0);
          written = λ h. tt;
          stop = λ h c left. ⊎_elim (λ now. now) (λ before. (c, before, torn_same at (length bytes) c)) (during held (tore at (length bytes) torn) calls c left);
          time = λ h. elapses_by held (tore at (length bytes) torn) calls;
        })

    -- one that was not asked of the system
    no_write-at : (at : ℕ) (bytes : List ℕ) (why : E) → new.known ≡ old.known
        → IsWritten {T = T} file_model old new (Err why) at bytes
    no_write-at at bytes why is =
        let held = old.known.held in
        let calls = old.known.calls in
        subst (λ (d : FileDisk F). IsWritten {T = T} file_model old d (Err why) at bytes) (is_after old.known is)
        (record {
          goes_on = has_same old.known;
          length_stays = refl;
          stays_honest = (λ h. h, λ h. h);
          written = λ h. tt;
          stop = λ h c left. (c, only_now held calls c left, torn_same at (length bytes) c);
          time = λ h. elapses_not held calls;
        })

    pub synced_is_synced : (value : T) → new.known ≡ noting synced old.known → IsSynced {E = E} file_model old new (Ok value)
    synced_is_synced value is =
        let held = old.known.held in
        let calls = old.known.calls in
        subst (λ (d : FileDisk F). IsSynced {E = E} file_model old d (Ok value)) (is_after (noting synced old.known) is)
        (record {
          goes_on = has_one synced;
          length_stays = refl;
          stays_honest = (λ h. h, λ h. h);
          durable = λ h c left. left;
          stays = λ h. refl;
          stop = λ h c left. ⊎_elim
              (λ now. subst (FileLeaves held calls) (sym now) (reads_left old.len held calls h))
              (λ before. before)
              (during held synced calls c left);
          time = λ h. elapses_by held synced calls;
        })

    -- a sync that failed
    lost_is_synced-at : (why : E) → new.known ≡ noting_lost old.known → IsSynced {T = T} file_model old new (Err why)
    lost_is_synced-at why is =
        let held = old.known.held in
        let calls = old.known.calls in
        subst (λ (d : FileDisk F). IsSynced {T = T} file_model old d (Err why)) (is_after (noting_lost old.known) is)
        (record {
          goes_on = has_one (lost (next_left old.known));
          length_stays = refl;
          stays_honest = (λ h. h, λ h. h);
          durable = λ h. tt;
          stays = λ h. tt;
          stop = λ h c left. ⊎_elim (λ now. now) (λ before. before) (during held (lost (next_left old.known)) calls c left);
          time = λ h. elapses_by held (lost (next_left old.known)) calls;
        })

    -- one that was not asked of the system
    no_sync-at : (why : E) → new.known ≡ old.known → IsSynced {T = T} file_model old new (Err why)
    no_sync-at why is =
        let held = old.known.held in
        let calls = old.known.calls in
        subst (λ (d : FileDisk F). IsSynced {T = T} file_model old d (Err why)) (is_after old.known is)
        (record {
          goes_on = has_same old.known;
          length_stays = refl;
          stays_honest = (λ h. h, λ h. h);
          durable = λ h. tt;
          stays = λ h. tt;
          stop = λ h c left. only_now held calls c left;
          time = λ h. elapses_not held calls;
        })

    -- ---- the same of any result that is a failure
    pub missed_is_read : (at : ℕ) (before bytes : List ℕ) (r : Result T E) → IsErr r → new.known ≡ noting missed old.known
        → IsRead file_model old new r at before bytes
    missed_is_read at before bytes (Ok value) err is = absurd (cc)
    missed_is_read at before bytes (Err why) err is = missed_is_read-at at before bytes why is

    pub tore_is_written : (at : ℕ) (bytes : List ℕ) (r : Result T E) → IsErr r → at + length bytes ≤ old.len
        → new.known ≡ noting_tore at (length bytes) old.known → IsWritten file_model old new r at bytes
    tore_is_written at bytes (Ok value) err fits is = absurd (cc)
    tore_is_written at bytes (Err why) err fits is = tore_is_written-at at bytes why fits is

    pub no_write : (at : ℕ) (bytes : List ℕ) (r : Result T E) → IsErr r → new.known ≡ old.known
        → IsWritten file_model old new r at bytes
    no_write at bytes (Ok value) err is = absurd (cc)
    no_write at bytes (Err why) err is = no_write-at at bytes why is

    pub lost_is_synced : (r : Result T E) → IsErr r → new.known ≡ noting_lost old.known
        → IsSynced file_model old new r
    lost_is_synced (Ok value) err is = absurd (cc)
    lost_is_synced (Err why) err is = lost_is_synced-at why is

    pub no_sync : (r : Result T E) → IsErr r → new.known ≡ old.known → IsSynced file_model old new r
    no_sync (Ok value) err is = absurd (cc)
    no_sync (Err why) err is = no_sync-at why is
