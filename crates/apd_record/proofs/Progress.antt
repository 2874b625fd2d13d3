-- How far records have been read.
use Rattle.std.proofs.Common.{◌≡◌, ℕ, ◌+◌, ◌<◌, List, [], ◌∷◌, ◌++◌, length, get_or, take, subst, sym, ap, ◌∙◌, append_assoc}
use Rattle.std.proofs.lemmas.List.{take_more}
use Rattle.apd_record.specs.declared.change.Change.{Change}
use Rattle.apd_record.specs.Ranges.{IsChange, AreChanges}
use Rattle.apd_record.specs.Record.{record_of, records_of}
use Rattle.apd_record.proofs.Lengths.{records_of-push}

pub AreChanges-push : (xs : List Change) (x : Change) → AreChanges xs → IsChange x → AreChanges (xs ++ x ∷ [])
AreChanges-push [] x p q = (q, tt)
AreChanges-push (y ∷ xs) x p q = (p.0, AreChanges-push xs x p.1 q)

-- one change more is known
pub known_so_far : (xs : List Change) (i : ℕ) (x : Change) → i < length xs → x ≡ get_or xs i x → AreChanges (take i xs) → IsChange x → AreChanges (take (i + 1) xs)
known_so_far xs i x lt e before h = subst AreChanges (sym (take_more xs i x lt)) (AreChanges-push (take i xs) (get_or xs i x) before (subst IsChange e h))

-- one record more
pub reads_on : (bytes : List ℕ) (xs : List Change) (rest : List ℕ) (x : Change) (after : List ℕ) → bytes ≡ records_of xs ++ rest → rest ≡ record_of x ++ after
    → bytes ≡ records_of (xs ++ x ∷ []) ++ after
reads_on bytes xs rest x after p q =
    p ∙ ap (λ r. records_of xs ++ r) q ∙ sym (append_assoc (records_of xs) (record_of x) after) ∙ ap (λ r. r ++ after) (sym (records_of-push xs x))
