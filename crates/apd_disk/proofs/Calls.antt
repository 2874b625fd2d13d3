-- One call more in a record of calls.
use Rattle.std.proofs.Common.{◌≡◌, ◌≤◌, ◌+◌, ◌⊎◌, inl, inr, ⊎_elim, ℕ, IsTrue, List, [], ◌∷◌, ◌++◌, length, refl, sym, ◌∙◌, ap, subst, arith}
use Rattle.std.proofs.lemmas.List.{append-nil, take_all, take-append-le, length_push}
use Rattle.std.proofs.lemmas.Bool.{and_parts, and_from, le-leb, cases_lt}
use Rattle.apd_disk.specs.Disk.{with_bytes, TornWithin, Elapses}
use Rattle.apd_disk.specs.Mem.{reads_after, all_fit, Leaves, LeftAfter, LeftBetween, TornFrom, CallsGoOn}
use Rattle.apd_disk.specs.for_proofs.MemLaws.{reads_left, only_last}
use Rattle.apd_disk.specs.declared.call.Call.{Call}
use Rattle.apd_disk.specs.declared.call.Call.TheVariants.{Read, Write, Sync}

reads_after-push_read : (image : List ℕ) (calls : List Call) (at n : ℕ) → reads_after image (calls ++ Read at n ∷ []) ≡ reads_after image calls
reads_after-push_read image [] at n = refl
reads_after-push_read image (Read place m ∷ calls) at n = reads_after-push_read image calls at n
reads_after-push_read image (Write place w ∷ calls) at n = reads_after-push_read (with_bytes image place w) calls at n
reads_after-push_read image (Sync ∷ calls) at n = reads_after-push_read image calls at n

reads_after-push_sync : (image : List ℕ) (calls : List Call) → reads_after image (calls ++ Sync ∷ []) ≡ reads_after image calls
reads_after-push_sync image [] = refl
reads_after-push_sync image (Read place m ∷ calls) = reads_after-push_sync image calls
reads_after-push_sync image (Write place w ∷ calls) = reads_after-push_sync (with_bytes image place w) calls
reads_after-push_sync image (Sync ∷ calls) = reads_after-push_sync image calls

reads_after-push_write : (image : List ℕ) (calls : List Call) (at : ℕ) (v : List ℕ) → reads_after image (calls ++ Write at v ∷ []) ≡ with_bytes (reads_after image calls) at v
reads_after-push_write image [] at v = refl
reads_after-push_write image (Read place m ∷ calls) at v = reads_after-push_write image calls at v
reads_after-push_write image (Write place w ∷ calls) at v = reads_after-push_write (with_bytes image place w) calls at v
reads_after-push_write image (Sync ∷ calls) at v = reads_after-push_write image calls at v

all_fit-push_read : (n : ℕ) (calls : List Call) (at m : ℕ) → IsTrue (all_fit n calls) → IsTrue (all_fit n (calls ++ Read at m ∷ []))
all_fit-push_read n [] at m fit = refl
all_fit-push_read n (Read place k ∷ calls) at m fit = all_fit-push_read n calls at m fit
all_fit-push_read n (Write place w ∷ calls) at m fit =
    let both = and_parts _ _ fit in
    and_from _ _ both.0 (all_fit-push_read n calls at m both.1)
all_fit-push_read n (Sync ∷ calls) at m fit = all_fit-push_read n calls at m fit

all_fit-push_sync : (n : ℕ) (calls : List Call) → IsTrue (all_fit n calls) → IsTrue (all_fit n (calls ++ Sync ∷ []))
all_fit-push_sync n [] fit = refl
all_fit-push_sync n (Read place k ∷ calls) fit = all_fit-push_sync n calls fit
all_fit-push_sync n (Write place w ∷ calls) fit =
    let both = and_parts _ _ fit in
    and_from _ _ both.0 (all_fit-push_sync n calls both.1)
all_fit-push_sync n (Sync ∷ calls) fit = all_fit-push_sync n calls fit

all_fit-push_write : (n : ℕ) (calls : List Call) (at : ℕ) (v : List ℕ) → at + length v ≤ n → IsTrue (all_fit n calls) → IsTrue (all_fit n (calls ++ Write at v ∷ []))
all_fit-push_write n [] at v inside fit = and_from _ _ (le-leb _ _ inside) refl
all_fit-push_write n (Read place k ∷ calls) at v inside fit = all_fit-push_write n calls at v inside fit
all_fit-push_write n (Write place w ∷ calls) at v inside fit =
    let both = and_parts _ _ fit in
    and_from _ _ both.0 (all_fit-push_write n calls at v inside both.1)
all_fit-push_write n (Sync ∷ calls) at v inside fit = all_fit-push_write n calls at v inside fit

-- a read adds no image
Leaves-push_read : (images : List ℕ → Type 0) (reads : List ℕ) (calls : List Call) (at n : ℕ) (c : List ℕ) → Leaves images reads (calls ++ Read at n ∷ []) c → Leaves images reads calls c
Leaves-push_read images reads [] at n c left = left
Leaves-push_read images reads (Read place m ∷ calls) at n c left = Leaves-push_read images reads calls at n c left
Leaves-push_read images reads (Write place w ∷ calls) at n c left = Leaves-push_read (TornFrom images place (length w)) (with_bytes reads place w) calls at n c left
Leaves-push_read images reads (Sync ∷ calls) at n c left = Leaves-push_read (λ d. d ≡ reads) reads calls at n c left

-- after a sync a stop leaves what a read gives
Leaves-push_sync : (images : List ℕ → Type 0) (reads : List ℕ) (calls : List Call) (c : List ℕ) → Leaves images reads (calls ++ Sync ∷ []) c → c ≡ reads_after reads calls
Leaves-push_sync images reads [] c left = left
Leaves-push_sync images reads (Read place m ∷ calls) c left = Leaves-push_sync images reads calls c left
Leaves-push_sync images reads (Write place w ∷ calls) c left = Leaves-push_sync (TornFrom images place (length w)) (with_bytes reads place w) calls c left
Leaves-push_sync images reads (Sync ∷ calls) c left = Leaves-push_sync (λ d. d ≡ reads) reads calls c left

-- after a write it leaves one of before, torn
Leaves-push_write : (images : List ℕ → Type 0) (reads : List ℕ) (calls : List Call) (at : ℕ) (v : List ℕ) (c : List ℕ) → Leaves images reads (calls ++ Write at v ∷ []) c → (d : List ℕ) × Leaves images reads calls d × TornWithin at (length v) d c
Leaves-push_write images reads [] at v c left = left
Leaves-push_write images reads (Read place m ∷ calls) at v c left = Leaves-push_write images reads calls at v c left
Leaves-push_write images reads (Write place w ∷ calls) at v c left = Leaves-push_write (TornFrom images place (length w)) (with_bytes reads place w) calls at v c left
Leaves-push_write images reads (Sync ∷ calls) at v c left = Leaves-push_write (λ d. d ≡ reads) reads calls at v c left

-- an image of before, or one of after the last call
between_push : (initial : List ℕ) (calls : List Call) (call : Call) (t : ℕ) (c : List ℕ) → LeftBetween initial (calls ++ call ∷ []) t c → LeftBetween initial calls t c ⊎ LeftAfter initial (calls ++ call ∷ []) c
between_push initial calls call t c left = ⊎_elim
    (λ (le : left.0 ≤ length calls). inl (left.0, left.1, le, subst (λ (l : List Call). LeftAfter initial l c) (take-append-le left.0 calls (call ∷ []) le) left.3))
    (λ (gt : length calls + 1 ≤ left.0). inr (subst (λ (l : List Call). LeftAfter initial l c) (take_all left.0 (calls ++ call ∷ []) (omega (arith, length_push calls call, gt))) left.3))
    (cases left.0 (length calls))
  where
    cases : (a b : ℕ) → (a ≤ b) ⊎ (b + 1 ≤ a)
    cases a b = ⊎_elim (λ h. inr (omega (arith, h))) (λ h. inl (omega (arith, h))) (cases_lt b a)

module _ (initial : List ℕ) (calls after : List Call) (call : Call) (is : after ≡ calls ++ call ∷ []) where
  pub elapses_push : Elapses (length calls) (length after) (LeftBetween initial calls) (LeftBetween initial after)
  elapses_push =
      let longer : length after ≡ length calls + 1 = ap length is ∙ length_push calls call in
      record {
        later = omega (arith, longer);
        by_one = omega (arith, longer);
        nothing_else = λ t c le left. ⊎_elim
            (λ before. inl before)
            (λ last. inr (length after, omega (arith, longer), omega arith, subst (λ (l : List Call). LeftAfter initial l c) (sym (take_all (length after) after (omega arith))) (subst (λ (l : List Call). LeftAfter initial l c) (sym is) last)))
            (between_push initial calls call t c (subst (λ (l : List Call). LeftBetween initial l t c) is left));
        keeps = λ t c le left. subst (λ (l : List Call). LeftBetween initial l t c) (sym is)
            (left.0, left.1, omega (arith, left.2, length_push calls call), subst (λ (l : List Call). LeftAfter initial l c) (sym (take-append-le left.0 calls (call ∷ []) left.2)) left.3);
      }

  within_push : (c : List ℕ) → LeftBetween initial after (length calls) c → LeftAfter initial calls c ⊎ LeftAfter initial (calls ++ call ∷ []) c
  within_push c left = ⊎_elim
      (λ before. inl (only_last initial calls c before))
      (λ last. inr last)
      (between_push initial calls call (length calls) c (subst (λ (l : List Call). LeftBetween initial l (length calls) c) is left))

-- one call more, or none
module _ (initial : List ℕ) (calls after : List Call) where
  pub goes_on_by_one : (call : Call) → after ≡ calls ++ call ∷ [] → CallsGoOn initial calls initial after
  goes_on_by_one call is = record { same = refl; since = call ∷ []; all = is }

  pub goes_on_by_none : after ≡ calls → CallsGoOn initial calls initial after
  goes_on_by_none is = record { same = refl; since = []; all = is ∙ sym (append-nil calls) }

torn_same : (at n : ℕ) (c : List ℕ) → TornWithin at n c c
torn_same at n c = record { before = refl; after = refl; same_length = refl }

module _ (initial : List ℕ) (calls after : List Call) (bytes : List ℕ) (stands : bytes ≡ reads_after initial calls) (fit : IsTrue (all_fit (length initial) calls)) where
  -- a read
  pub read_stands : (at n : ℕ) → after ≡ calls ++ Read at n ∷ [] → bytes ≡ reads_after initial after
  read_stands at n is = stands ∙ sym (reads_after-push_read initial calls at n) ∙ ap (λ (l : List Call). reads_after initial l) (sym is)

  pub read_fits : (at n : ℕ) → after ≡ calls ++ Read at n ∷ [] → IsTrue (all_fit (length initial) after)
  read_fits at n is = subst (λ (l : List Call). IsTrue (all_fit (length initial) l)) (sym is) (all_fit-push_read (length initial) calls at n fit)

  pub read_stop : (at n : ℕ) → after ≡ calls ++ Read at n ∷ [] → (c : List ℕ) → LeftBetween initial after (length calls) c → LeftAfter initial calls c
  read_stop at n is c left = ⊎_elim
      (λ before. before)
      (λ last. Leaves-push_read (λ d. d ≡ initial) initial calls at n c last)
      (within_push initial calls after (Read at n) is c left)

  -- a sync
  pub sync_stands : after ≡ calls ++ Sync ∷ [] → bytes ≡ reads_after initial after
  sync_stands is = stands ∙ sym (reads_after-push_sync initial calls) ∙ ap (λ (l : List Call). reads_after initial l) (sym is)

  pub sync_fits : after ≡ calls ++ Sync ∷ [] → IsTrue (all_fit (length initial) after)
  sync_fits is = subst (λ (l : List Call). IsTrue (all_fit (length initial) l)) (sym is) (all_fit-push_sync (length initial) calls fit)

  pub sync_only : after ≡ calls ++ Sync ∷ [] → (c : List ℕ) → LeftAfter initial after c → c ≡ bytes
  sync_only is c left = Leaves-push_sync (λ d. d ≡ initial) initial calls c (subst (λ (l : List Call). LeftAfter initial l c) is left) ∙ sym stands

  pub sync_stop : after ≡ calls ++ Sync ∷ [] → (c : List ℕ) → LeftBetween initial after (length calls) c → LeftAfter initial calls c
  sync_stop is c left = ⊎_elim
      (λ before. before)
      (λ last. subst (LeftAfter initial calls) (sym (Leaves-push_sync (λ d. d ≡ initial) initial calls c last ∙ sym stands)) (reads_left initial calls bytes stands fit))
      (within_push initial calls after Sync is c left)

  -- a write
  pub write_stands : (at : ℕ) (new : List ℕ) → after ≡ calls ++ Write at new ∷ [] → with_bytes bytes at new ≡ reads_after initial after
  write_stands at new is =
      ap (λ (l : List ℕ). with_bytes l at new) stands ∙ sym (reads_after-push_write initial calls at new) ∙ ap (λ (l : List Call). reads_after initial l) (sym is)

  pub write_fits : (at : ℕ) (new : List ℕ) → at + length new ≤ length initial → after ≡ calls ++ Write at new ∷ [] → IsTrue (all_fit (length initial) after)
  write_fits at new inside is =
      subst (λ (l : List Call). IsTrue (all_fit (length initial) l)) (sym is) (all_fit-push_write (length initial) calls at new inside fit)

  pub write_stop : (at : ℕ) (new : List ℕ) → after ≡ calls ++ Write at new ∷ [] → (c : List ℕ) → LeftBetween initial after (length calls) c → (d : List ℕ) × LeftAfter initial calls d × TornWithin at (length new) d c
  write_stop at new is c left = ⊎_elim
      (λ before. (c, before, torn_same at (length new) c))
      (λ last. Leaves-push_write (λ d. d ≡ initial) initial calls at new c last)
      (within_push initial calls after (Write at new) is c left)
