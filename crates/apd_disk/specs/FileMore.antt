-- What calls make of a record of a file: what the file held stays, and what a call leaves that fails.
use Rattle.std.specs.Prelude.{◌≡◌, List, [], ◌++◌}
use Rattle.std.proofs.Common.{refl, sym, ◌∙◌, ap}
use Rattle.std.proofs.lemmas.List.{append_assoc}
use Rattle.apd_disk.specs.FileCalls.{FileCall}
use Rattle.apd_disk.specs.declared.record.FileRecord.{FileRecord}

-- the same record with more calls
pub record HasMore (old new : FileRecord) : Type 0 where
  pub held : new.held ≡ old.held
  pub left : new.left ≡ old.left
  pub since : List FileCall
  pub calls : new.calls ≡ since ++ old.calls

-- ---- Proofs, which stand here since an impl may cite nothing of its own crate's proofs/.
pub has_same : (known : FileRecord) → HasMore known known
has_same known = record { held = refl; left = refl; since = []; calls = refl }

pub has_more : (old mid new : FileRecord) → HasMore old mid → HasMore mid new → HasMore old new
has_more old mid new first next = record {
  held = next.held ∙ first.held;
  left = next.left ∙ first.left;
  since = next.since ++ first.since;
  calls = next.calls ∙ ap (λ (calls : List FileCall). next.since ++ calls) first.calls
      ∙ sym (append_assoc next.since first.since old.calls);
}
