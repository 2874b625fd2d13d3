-- Proofs of the laws of a file. They stand here since an impl may cite nothing of its own crate's proofs/.
use Rattle.std.proofs.Common.{◌≡◌, ◌≤◌, ◌+◌, ◌-◌, ◌⊎◌, inl, inr, ⊎_elim, ℕ, List, [], ◌∷◌, ◌++◌, length, take, drop, get_or, refl, sym, ◌∙◌, ap, arith, length-take, length-drop, take-append-drop}
use Rattle.std.proofs.lemmas.List.{append_assoc, length-take-le, drop-drop}
use Rattle.apd_disk.specs.Disk.{with_bytes, TornWithin, Elapses}
use Rattle.apd_disk.specs.for_proofs.MemLaws.{length-with_bytes, torn_overwritten}
use Rattle.apd_disk.specs.FileCalls.{FileCall, gave, wrote, tore, synced, missed, lost, file_reads, file_lost, FileLeaves, FileLeftSince, IsHonestFile}

pub torn_same : (at n : ℕ) (c : List ℕ) → TornWithin at n c c
torn_same at n c = record { before = refl; after = refl; same_length = refl }

torn_wider : (at m n : ℕ) (c d : List ℕ) → m ≤ n → TornWithin at m c d → TornWithin at n c d
torn_wider at m n c d le torn =
    let more = n - m in
    let sum : at + m + more ≡ at + n = omega (arith, le) in
    let further : (l : List ℕ) → drop more (drop (at + m) l) ≡ drop (at + n) l =
    λ l. drop-drop more (at + m) l ∙ ap (λ (k : ℕ). drop k l) sum in
    record {
      before = torn.before;
      after = sym (further d) ∙ ap (λ (l : List ℕ). drop more l) torn.after ∙ further c;
      same_length = torn.same_length;
    }

-- what a failed call left of its range
module _ (image : List ℕ) (at n : ℕ) (left : List ℕ) (fits : at + n ≤ length image) where
  length-left : length (with_bytes image at (take n left)) ≡ length image
  length-left = length-with_bytes image at (take n left) (omega (arith, fits, length-take n left))

  left_torn : TornWithin at n image (with_bytes image at (take n left))
  left_torn =
      torn_wider at (length (take n left)) n image (with_bytes image at (take n left))
      (omega (arith, length-take n left))
      (torn_overwritten image at (take n left) (omega (arith, fits, length-take n left)))

mutual
  pub length-file_reads : (n : ℕ) (held : List ℕ) (calls : List FileCall) → IsHonestFile n held calls
      → length (file_reads held calls) ≡ n
  length-file_reads n held [] h = h
  length-file_reads n held (gave at bytes ∷ earlier) h = length-file_reads n held earlier h.0
  length-file_reads n held (wrote at bytes ∷ earlier) h =
      let size = length-file_reads n held earlier h.0 in
      length-with_bytes (file_reads held earlier) at bytes (omega (arith, h.1, size)) ∙ size
  length-file_reads n held (tore at m left ∷ earlier) h =
      let size = length-file_reads n held earlier h.0 in
      length-left (file_reads held earlier) at m left (omega (arith, h.1, size)) ∙ size
  length-file_reads n held (synced ∷ earlier) h = length-file_reads n held earlier h
  length-file_reads n held (missed ∷ earlier) h = length-file_reads n held earlier h
  length-file_reads n held (lost left ∷ earlier) h = length-file_lost n held left earlier h

  length-file_lost : (n : ℕ) (held : List ℕ) (left : List (List ℕ)) (calls : List FileCall) → IsHonestFile n held calls
      → length (file_lost held left calls) ≡ n
  length-file_lost n held left [] h = h
  length-file_lost n held left (gave at bytes ∷ earlier) h = length-file_lost n held left earlier h.0
  length-file_lost n held left (wrote at bytes ∷ earlier) h =
      let size = length-file_lost n held (drop 1 left) earlier h.0 in
      length-left (file_lost held (drop 1 left) earlier) at (length bytes) (get_or left 0 []) (omega (arith, h.1, size)) ∙ size
  length-file_lost n held left (tore at m before ∷ earlier) h =
      let size = length-file_lost n held (drop 1 left) earlier h.0 in
      length-left (file_lost held (drop 1 left) earlier) at m (get_or left 0 []) (omega (arith, h.1, size)) ∙ size
  length-file_lost n held left (synced ∷ earlier) h = length-file_reads n held earlier h
  length-file_lost n held left (missed ∷ earlier) h = length-file_lost n held left earlier h
  length-file_lost n held left (lost before ∷ earlier) h = length-file_lost n held left earlier h

-- what a read gives, a stop may leave
mutual
  pub reads_left : (n : ℕ) (held : List ℕ) (calls : List FileCall) → IsHonestFile n held calls
      → FileLeaves held calls (file_reads held calls)
  reads_left n held [] h = refl
  reads_left n held (gave at bytes ∷ earlier) h = reads_left n held earlier h.0
  reads_left n held (wrote at bytes ∷ earlier) h =
      let size = length-file_reads n held earlier h.0 in (
        file_reads held earlier,
        reads_left n held earlier h.0,
        torn_overwritten (file_reads held earlier) at bytes (omega (arith, h.1, size)),
      )
  reads_left n held (tore at m left ∷ earlier) h =
      let size = length-file_reads n held earlier h.0 in (
        file_reads held earlier,
        reads_left n held earlier h.0,
        left_torn (file_reads held earlier) at m left (omega (arith, h.1, size)),
      )
  reads_left n held (synced ∷ earlier) h = refl
  reads_left n held (missed ∷ earlier) h = reads_left n held earlier h
  reads_left n held (lost left ∷ earlier) h = lost_left n held left earlier h

  lost_left : (n : ℕ) (held : List ℕ) (left : List (List ℕ)) (calls : List FileCall) → IsHonestFile n held calls
      → FileLeaves held calls (file_lost held left calls)
  lost_left n held left [] h = refl
  lost_left n held left (gave at bytes ∷ earlier) h = lost_left n held left earlier h.0
  lost_left n held left (wrote at bytes ∷ earlier) h =
      let size = length-file_lost n held (drop 1 left) earlier h.0 in (
        file_lost held (drop 1 left) earlier,
        lost_left n held (drop 1 left) earlier h.0,
        left_torn (file_lost held (drop 1 left) earlier) at (length bytes) (get_or left 0 []) (omega (arith, h.1, size)),
      )
  lost_left n held left (tore at m before ∷ earlier) h =
      let size = length-file_lost n held (drop 1 left) earlier h.0 in (
        file_lost held (drop 1 left) earlier,
        lost_left n held (drop 1 left) earlier h.0,
        left_torn (file_lost held (drop 1 left) earlier) at m (get_or left 0 []) (omega (arith, h.1, size)),
      )
  lost_left n held left (synced ∷ earlier) h = refl
  lost_left n held left (missed ∷ earlier) h = lost_left n held left earlier h
  lost_left n held left (lost before ∷ earlier) h = lost_left n held left earlier h

left_length : (n : ℕ) (held : List ℕ) (calls : List FileCall) (c : List ℕ) → IsHonestFile n held calls
    → FileLeaves held calls c → length c ≡ n
left_length n held [] c h left = ap length left ∙ h
left_length n held (gave at bytes ∷ earlier) c h left = left_length n held earlier c h.0 left
left_length n held (wrote at bytes ∷ earlier) c h left =
    left.2.same_length ∙ left_length n held earlier left.0 h.0 left.1
left_length n held (tore at m before ∷ earlier) c h left =
    left.2.same_length ∙ left_length n held earlier left.0 h.0 left.1
left_length n held (synced ∷ earlier) c h left = ap length left ∙ length-file_reads n held earlier h
left_length n held (missed ∷ earlier) c h left = left_length n held earlier c h left
left_length n held (lost before ∷ earlier) c h left = left_length n held earlier c h left

earlier_honest : (n : ℕ) (held : List ℕ) (call : FileCall) (earlier : List FileCall)
    → IsHonestFile n held (call ∷ earlier) → IsHonestFile n held earlier
earlier_honest n held (gave at bytes) earlier h = h.0
earlier_honest n held (wrote at bytes) earlier h = h.0
earlier_honest n held (tore at m left) earlier h = h.0
earlier_honest n held synced earlier h = h
earlier_honest n held missed earlier h = h
earlier_honest n held (lost left) earlier h = h

pub since_length : (n : ℕ) (held : List ℕ) (t : ℕ) (calls : List FileCall) (c : List ℕ) → IsHonestFile n held calls
    → FileLeftSince held calls t c → length c ≡ n
since_length n held t [] c h left = left_length n held [] c h left
since_length n held t (call ∷ earlier) c h left = ⊎_elim
    (λ now. left_length n held (call ∷ earlier) c h now)
    (λ before. since_length n held t earlier c (earlier_honest n held call earlier h) before.1)
    left

pub now_since : (held : List ℕ) (t : ℕ) (calls : List FileCall) (c : List ℕ) → FileLeaves held calls c
    → FileLeftSince held calls t c
now_since held t [] c left = left
now_since held t (call ∷ earlier) c left = inl left

pub only_now : (held : List ℕ) (calls : List FileCall) (c : List ℕ) → FileLeftSince held calls (length calls) c
    → FileLeaves held calls c
only_now held [] c left = left
only_now held (call ∷ earlier) c left = ⊎_elim (λ now. now) (λ before. absurd (omega (arith, before.0))) left

pub since_earlier : (held : List ℕ) (t u : ℕ) (calls : List FileCall) (c : List ℕ) → t ≤ u
    → FileLeftSince held calls u c → FileLeftSince held calls t c
since_earlier held t u [] c le left = left
since_earlier held t u (call ∷ earlier) c le left = ⊎_elim
    (λ now. inl now)
    (λ before. inr (omega (arith, le, before.0), since_earlier held t u earlier c le before.1))
    left

-- one call more
module _ (held : List ℕ) (call : FileCall) (calls : List FileCall) where
  pub elapses_by : Elapses (length calls) (length (call ∷ calls)) (FileLeftSince held calls)
      (FileLeftSince held (call ∷ calls))
  elapses_by = record {
    later = omega arith;
    by_one = omega arith;
    nothing_else = λ t c le left. ⊎_elim (λ now. inr (inl now)) (λ before. inl before.1) left;
    keeps = λ t c le left. inr (le, left);
  }

  pub during : (c : List ℕ) → FileLeftSince held (call ∷ calls) (length calls) c
      → FileLeaves held (call ∷ calls) c ⊎ FileLeaves held calls c
  during c left = ⊎_elim (λ now. inl now) (λ before. inr (only_now held calls c before.1)) left

-- no call
pub elapses_not : (held : List ℕ) (calls : List FileCall) → Elapses (length calls) (length calls)
    (FileLeftSince held calls) (FileLeftSince held calls)
elapses_not held calls = record {
  later = omega arith;
  by_one = omega arith;
  nothing_else = λ t c le left. inl left;
  keeps = λ t c le left. left;
}

-- a read of an honest file, by one that answers as the model does, leaves it honest
pub honest_read : (n : ℕ) (held : List ℕ) (calls : List FileCall) (at m : ℕ) → at + m ≤ n
    → IsHonestFile n held calls → IsHonestFile n held (gave at (take m (drop at (file_reads held calls))) ∷ calls)
honest_read n held calls at m fits h =
    let there = drop at (file_reads held calls) in
    let long : length (take m there) ≡ m = length-take-le m there (omega (arith, fits, length-file_reads n held calls h, length-drop at (file_reads held calls))) in
    (h, ap (λ (k : ℕ). take k there) (sym long))

-- an image torn in a range is the old one with some bytes there
torn_is : (image c : List ℕ) (at n : ℕ) → at + n ≤ length image → TornWithin at n image c
    → with_bytes image at (take n (drop at c)) ≡ c
torn_is image c at n fits torn =
    let x = take n (drop at c) in
    let size : length x ≡ n = length-take-le n (drop at c) (omega (arith, fits, torn.same_length, length-drop at c)) in
    let back : drop (at + length x) image ≡ drop n (drop at c) =
    ap (λ (k : ℕ). drop (at + k) image) size ∙ sym torn.after ∙ sym (drop-drop n at c) in
    ap (λ (l : List ℕ). l ++ x ++ drop (at + length x) image) (sym torn.before)
    ∙ ap (λ (l : List ℕ). take at c ++ x ++ l) back
    ∙ append_assoc (take at c) x (drop n (drop at c))
    ∙ ap (λ (l : List ℕ). take at c ++ l) (take-append-drop n (drop at c))
    ∙ take-append-drop at c

-- each image that a failed write may leave is read where it left some bytes
pub any_torn : (n : ℕ) (held : List ℕ) (calls : List FileCall) (at m : ℕ) (c : List ℕ) → at + m ≤ n
    → IsHonestFile n held calls → TornWithin at m (file_reads held calls) c
    → (left : List ℕ) × (file_reads held (tore at m left ∷ calls) ≡ c)
any_torn n held calls at m c fits h torn =
    (drop at c, torn_is (file_reads held calls) c at m (omega (arith, fits, length-file_reads n held calls h)) torn)

-- each image that a stop may leave is read where a failed sync left some bytes
pub any_lost : (n : ℕ) (held : List ℕ) (calls : List FileCall) (c : List ℕ) → IsHonestFile n held calls
    → FileLeaves held calls c → (left : List (List ℕ)) × (file_reads held (lost left ∷ calls) ≡ c)
any_lost n held [] c h is = ([], sym is)
any_lost n held (gave at bytes ∷ earlier) c h is = any_lost n held earlier c h.0 is
any_lost n held (wrote at bytes ∷ earlier) c h is =
    let before = any_lost n held earlier is.0 h.0 is.1 in (
      drop at c ∷ before.0,
      ap (λ (l : List ℕ). with_bytes l at (take (length bytes) (drop at c))) before.1
          ∙ torn_is is.0 c at (length bytes) (omega (arith, h.1, left_length n held earlier is.0 h.0 is.1)) is.2,
    )
any_lost n held (tore at m left ∷ earlier) c h is =
    let before = any_lost n held earlier is.0 h.0 is.1 in (
      drop at c ∷ before.0,
      ap (λ (l : List ℕ). with_bytes l at (take m (drop at c))) before.1
          ∙ torn_is is.0 c at m (omega (arith, h.1, left_length n held earlier is.0 h.0 is.1)) is.2,
    )
any_lost n held (synced ∷ earlier) c h is = ([], sym is)
any_lost n held (missed ∷ earlier) c h is = any_lost n held earlier c h is
any_lost n held (lost left ∷ earlier) c h is = any_lost n held earlier c h is
