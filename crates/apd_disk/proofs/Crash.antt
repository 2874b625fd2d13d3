-- What a stop of one kind leaves of the calls, one after the other.
use Rattle.std.proofs.Common.{◌≡◌, ◌≤◌, ◌<◌, ◌+◌, ◌-◌, ◌⊎◌, inl, inr, ⊎_elim, zero, suc, ℕ, Bool, true, false, nat_le, nat_lt, ◌||◌, IsTrue, List, [], ◌∷◌, ◌++◌, length, take, drop, get_or, replicate, refl, sym, ◌∙◌, ap, subst, arith}
use Rattle.std.proofs.lemmas.List.{append_assoc, take-append-drop, length-take-le, get_or-take, get_or-drop, get_or-append-add, get_or_append_left, get_or-replicate, length-replicate}
use Rattle.std.proofs.Math.Bool.{or-true, or-false}
use Rattle.std.proofs.lemmas.Bool.{false≢true, and_from, and_left, and_right, le-leb, le-ltb, lt-leb, lt-ltb, cases_lt}
use Rattle.apd_disk.specs.Disk.{with_bytes, TornWithin}
use Rattle.apd_disk.specs.Mem.{reads_after, all_fit, Leaves, LeftAfter, TornFrom, synced_after, is_unsynced, torn_byte, torn_write, torn_writes, covers, has_no_sync, EndsWithTheLastSync, IsCrashImage}
use Rattle.apd_disk.specs.for_proofs.MemLaws.{first_fits, length-with_bytes, torn_overwritten, leaves_length}
use Rattle.apd_disk.specs.declared.call.Call.{Call}
use Rattle.apd_disk.specs.declared.call.Call.TheVariants.{Read, Write, Sync}
use Rattle.apd_disk.specs.declared.torn.Torn.{Torn}
use Rattle.apd_disk.specs.declared.torn.Torn.TheVariants.{Old, New, Byte}

-- the image and what a read gives, after the calls
abbrev pub torn_after : Torn → List ℕ → List ℕ → List Call → List ℕ
torn_after torn image reads [] = image
torn_after torn image reads (Read at n ∷ calls) = torn_after torn image reads calls
torn_after torn image reads (Write at bytes ∷ calls) = torn_after torn (torn_write torn image at bytes) (with_bytes reads at bytes) calls
torn_after torn image reads (Sync ∷ calls) = torn_after torn reads reads calls

pub torn_write_within : (torn : Torn) (image : List ℕ) (at : ℕ) (bytes : List ℕ) → at + length bytes ≤ length image → TornWithin at (length bytes) image (torn_write torn image at bytes)
torn_write_within Old image at bytes inside = record { before = refl; after = refl; same_length = refl }
torn_write_within New image at bytes inside = torn_overwritten image at bytes inside
torn_write_within (Byte b) image at bytes inside =
    subst (λ (n : ℕ). TornWithin at n image (with_bytes image at (replicate (length bytes) b))) (length-replicate (length bytes) b)
    (torn_overwritten image at (replicate (length bytes) b) (omega (arith, inside, length-replicate (length bytes) b)))

-- it is one that a stop may leave
torn_leaves : (torn : Torn) (n : ℕ) (images : List ℕ → Type 0) (image reads : List ℕ) (calls : List Call) → length image ≡ n → length reads ≡ n → images image → IsTrue (all_fit n calls) → Leaves images reads calls (torn_after torn image reads calls)
torn_leaves torn n images image reads [] size same here fit = here
torn_leaves torn n images image reads (Read at m ∷ calls) size same here fit = torn_leaves torn n images image reads calls size same here fit
torn_leaves torn n images image reads (Write at bytes ∷ calls) size same here fit =
    let fits = first_fits n at bytes calls fit in
    let torn_one = torn_write_within torn image at bytes (omega (arith, fits.0, size)) in
    torn_leaves torn n (TornFrom images at (length bytes)) (torn_write torn image at bytes) (with_bytes reads at bytes) calls (torn_one.same_length ∙ size) (length-with_bytes reads at bytes (omega (arith, fits.0, same)) ∙ same) (image, here, torn_one) fits.1
torn_leaves torn n images image reads (Sync ∷ calls) size same here fit = torn_leaves torn n (λ d. d ≡ reads) reads reads calls same same refl fit

-- a byte of an image with bytes written over it
module _ (image : List ℕ) (at : ℕ) (bytes : List ℕ) (inside : at + length bytes ≤ length image) where
  abbrev rest : List ℕ
  rest = drop (at + length bytes) image

  front : length (take at image) ≡ at
  front = length-take-le at image (omega (arith, inside))

  shape : with_bytes image at bytes ≡ take at image ++ (bytes ++ rest)
  shape = append_assoc (take at image) bytes rest

  at_before : (i : ℕ) → i < at → get_or (with_bytes image at bytes) i 0 ≡ get_or image i 0
  at_before i lt = ap (λ (l : List ℕ). get_or l i 0) shape ∙ get_or_append_left (take at image) (bytes ++ rest) 0 i (omega (arith, lt, front)) ∙ get_or-take at image i 0 lt

  at_inside : (k : ℕ) → k < length bytes → get_or (with_bytes image at bytes) (at + k) 0 ≡ get_or bytes k 0
  at_inside k lt =
      ap (λ (n : ℕ). get_or (with_bytes image at bytes) (n + k) 0) (sym front)
      ∙ ap (λ (l : List ℕ). get_or l (length (take at image) + k) 0) shape
      ∙ get_or-append-add (take at image) (bytes ++ rest) k 0
      ∙ get_or_append_left bytes rest 0 k lt

  at_after : (m : ℕ) → get_or (with_bytes image at bytes) (at + (length bytes + m)) 0 ≡ get_or image (at + length bytes + m) 0
  at_after m =
      ap (λ (n : ℕ). get_or (with_bytes image at bytes) (n + (length bytes + m)) 0) (sym front)
      ∙ ap (λ (l : List ℕ). get_or l (length (take at image) + (length bytes + m)) 0) shape
      ∙ get_or-append-add (take at image) (bytes ++ rest) (length bytes + m) 0
      ∙ get_or-append-add bytes rest m 0
      ∙ get_or-drop (at + length bytes) image m 0

  at_outside : (i : ℕ) → (i < at) ⊎ (at + length bytes ≤ i) → get_or (with_bytes image at bytes) i 0 ≡ get_or image i 0
  at_outside i (inl lt) = at_before i lt
  at_outside i (inr le) =
      let m : ℕ = i - (at + length bytes) in
      let whole : at + (length bytes + m) ≡ i = omega (arith, le) in
      ap (λ (n : ℕ). get_or (with_bytes image at bytes) n 0) (sym whole) ∙ at_after m ∙ ap (λ (n : ℕ). get_or image n 0) (omega (arith, le))

covers_outside : (at n i : ℕ) → (i < at) ⊎ (at + n ≤ i) → covers at n i ≡ false
covers_outside at n i (inl lt) = and_left (nat_le at i) (nat_lt i (at + n)) (lt-leb at i lt)
covers_outside at n i (inr le) = and_right (nat_le at i) (nat_lt i (at + n)) (le-ltb i (at + n) le)

covers_inside : (at n k : ℕ) → k < n → covers at n (at + k) ≡ true
covers_inside at n k lt = and_from (nat_le at (at + k)) (nat_lt (at + k) (at + n)) (le-leb at (at + k) (omega arith)) (lt-ltb (at + k) (at + n) (omega (arith, lt)))

-- outside the range, or the k-th byte of it
where_is : (at n i : ℕ) → ((i < at) ⊎ (at + n ≤ i)) ⊎ ((k : ℕ) × (k < n) × (i ≡ at + k))
where_is at n i = ⊎_elim
    (λ (lt : i < at). inl (inl lt))
    (λ (le : at ≤ i). ⊎_elim
    (λ (lt : i < at + n). inr (i - at, omega (arith, lt, le), omega (arith, le)))
    (λ (far : at + n ≤ i). inl (inr far))
    (cases_lt i (at + n)))
    (cases_lt i at)

write_outside : (torn : Torn) (image : List ℕ) (at : ℕ) (bytes : List ℕ) (i : ℕ) → at + length bytes ≤ length image → (i < at) ⊎ (at + length bytes ≤ i) → get_or (torn_write torn image at bytes) i 0 ≡ get_or image i 0
write_outside Old image at bytes i inside out = refl
write_outside New image at bytes i inside out = at_outside image at bytes inside i out
write_outside (Byte b) image at bytes i inside out =
    let same : length (replicate (length bytes) b) ≡ length bytes = length-replicate (length bytes) b in
    at_outside image at (replicate (length bytes) b) (omega (arith, inside, same)) i (⊎_elim (λ (lt : i < at). inl lt) (λ (le : at + length bytes ≤ i). inr (omega (arith, le, same))) out)

write_inside : (torn : Torn) (image reads : List ℕ) (at : ℕ) (bytes : List ℕ) (k : ℕ) → at + length bytes ≤ length image → at + length bytes ≤ length reads → k < length bytes
    → get_or (torn_write torn image at bytes) (at + k) 0 ≡ torn_byte torn true (get_or image (at + k) 0) (get_or (with_bytes reads at bytes) (at + k) 0)
write_inside Old image reads at bytes k inside fits lt = refl
write_inside New image reads at bytes k inside fits lt = at_inside image at bytes inside k lt ∙ sym (at_inside reads at bytes fits k lt)
write_inside (Byte b) image reads at bytes k inside fits lt =
    let same : length (replicate (length bytes) b) ≡ length bytes = length-replicate (length bytes) b in
    at_inside image at (replicate (length bytes) b) (omega (arith, inside, same)) k (omega (arith, lt, same)) ∙ get_or-replicate (length bytes) k b 0 lt

-- a byte written again depends on what it was only where it stays
written_again : (torn : Torn) (was : Bool) (image old before new : ℕ) → image ≡ torn_byte torn was old before → torn_byte torn true image new ≡ torn_byte torn true old new
written_again Old false image old before new is = is
written_again Old true image old before new is = is
written_again New was image old before new is = refl
written_again (Byte b) was image old before new is = refl

write_byte : (torn : Torn) (was : Bool) (old : ℕ) (image reads : List ℕ) (at : ℕ) (bytes : List ℕ) (i : ℕ) → at + length bytes ≤ length image → at + length bytes ≤ length reads
    → get_or image i 0 ≡ torn_byte torn was old (get_or reads i 0)
    → get_or (torn_write torn image at bytes) i 0 ≡ torn_byte torn (was || covers at (length bytes) i) old (get_or (with_bytes reads at bytes) i 0)
write_byte torn was old image reads at bytes i inside fits is = ⊎_elim
    (λ (out : (i < at) ⊎ (at + length bytes ≤ i)).
    write_outside torn image at bytes i inside out ∙ is
    ∙ ap (λ (n : ℕ). torn_byte torn was old n) (sym (at_outside reads at bytes fits i out))
    ∙ ap (λ (b : Bool). torn_byte torn b old (get_or (with_bytes reads at bytes) i 0)) (sym (or-false was) ∙ ap (λ (b : Bool). was || b) (sym (covers_outside at (length bytes) i out))))
    (λ (within : (k : ℕ) × (k < length bytes) × (i ≡ at + k)).
    subst (λ (n : ℕ). get_or (torn_write torn image at bytes) n 0 ≡ torn_byte torn (was || covers at (length bytes) n) old (get_or (with_bytes reads at bytes) n 0)) (sym within.2)
    (write_inside torn image reads at bytes within.0 inside fits within.1
    ∙ written_again torn was (get_or image (at + within.0) 0) old (get_or reads (at + within.0) 0) (get_or (with_bytes reads at bytes) (at + within.0) 0) (subst (λ (n : ℕ). get_or image n 0 ≡ torn_byte torn was old (get_or reads n 0)) within.2 is)
    ∙ ap (λ (b : Bool). torn_byte torn b old (get_or (with_bytes reads at bytes) (at + within.0) 0)) (sym (or-true was) ∙ ap (λ (b : Bool). was || b) (sym (covers_inside at (length bytes) within.0 within.1)))))
    (where_is at (length bytes) i)

each_byte : (torn : Torn) (i n : ℕ) (was : Bool) (synced image reads : List ℕ) (calls : List Call) → length image ≡ n → length reads ≡ n → IsTrue (all_fit n calls)
    → get_or image i 0 ≡ torn_byte torn was (get_or synced i 0) (get_or reads i 0)
    → get_or (torn_after torn image reads calls) i 0 ≡ torn_byte torn (is_unsynced i was calls) (get_or (synced_after synced reads calls) i 0) (get_or (reads_after reads calls) i 0)
each_byte torn i n was synced image reads [] size same fit is = is
each_byte torn i n was synced image reads (Read at m ∷ calls) size same fit is = each_byte torn i n was synced image reads calls size same fit is
each_byte torn i n was synced image reads (Write at bytes ∷ calls) size same fit is =
    let fits = first_fits n at bytes calls fit in
    let inside : at + length bytes ≤ length image = omega (arith, fits.0, size) in
    let within : at + length bytes ≤ length reads = omega (arith, fits.0, same) in
    each_byte torn i n (was || covers at (length bytes) i) synced (torn_write torn image at bytes) (with_bytes reads at bytes) calls
    ((torn_write_within torn image at bytes inside).same_length ∙ size) (length-with_bytes reads at bytes within ∙ same) fits.1
    (write_byte torn was (get_or synced i 0) image reads at bytes i inside within is)
each_byte torn i n was synced image reads (Sync ∷ calls) size same fit is = each_byte torn i n false reads reads reads calls same same fit refl

untouched : (torn : Torn) (n m : ℕ) → n ≡ torn_byte torn false n m
untouched torn n m = refl

module _ (torn : Torn) (initial : List ℕ) (calls : List Call) (fit : IsTrue (all_fit (length initial) calls)) where
  pub crash_left : LeftAfter initial calls (torn_after torn initial initial calls)
  crash_left = torn_leaves torn (length initial) (λ d. d ≡ initial) initial initial calls refl refl refl fit

  pub crash_image : IsCrashImage torn initial calls (torn_after torn initial initial calls)
  crash_image = record {
    same_length = leaves_length (length initial) (λ d. d ≡ initial) initial calls (torn_after torn initial initial calls) (λ d same. ap length same) refl fit crash_left;
    each = λ i lt. each_byte torn i (length initial) false initial initial initial calls refl refl fit (untouched torn (get_or initial i 0) (get_or initial i 0));
  }

-- without a sync each write is torn
torn_apart : (torn : Torn) (image reads : List ℕ) (calls : List Call) → IsTrue (has_no_sync calls) → torn_after torn image reads calls ≡ torn_writes torn image calls
torn_apart torn image reads [] none = refl
torn_apart torn image reads (Read at n ∷ calls) none = torn_apart torn image reads calls none
torn_apart torn image reads (Write at bytes ∷ calls) none = torn_apart torn (torn_write torn image at bytes) (with_bytes reads at bytes) calls none
torn_apart torn image reads (Sync ∷ calls) none = absurd (false≢true none)

-- up to a sync each write is made in full
whole_before : (torn : Torn) (image reads : List ℕ) (before calls : List Call) →
    torn_after torn image reads ((before ++ Sync ∷ []) ++ calls) ≡ torn_after torn (torn_writes New reads (before ++ Sync ∷ [])) (torn_writes New reads (before ++ Sync ∷ [])) calls
whole_before torn image reads [] calls = refl
whole_before torn image reads (Read at n ∷ before) calls = whole_before torn image reads before calls
whole_before torn image reads (Write at bytes ∷ before) calls = whole_before torn (torn_write torn image at bytes) (with_bytes reads at bytes) before calls
whole_before torn image reads (Sync ∷ before) calls = whole_before torn reads reads before calls

-- the writes of the two parts of the calls
in_parts : (torn : Torn) (initial : List ℕ) (calls : List Call) (n : ℕ) → EndsWithTheLastSync n calls → torn_writes torn (torn_writes New initial (take n calls)) (drop n calls) ≡ torn_after torn initial initial calls
in_parts torn initial calls n end = ⊎_elim
    (λ (none : n ≡ 0).
    subst (λ (k : ℕ). IsTrue (has_no_sync (drop k calls)) → torn_writes torn (torn_writes New initial (take k calls)) (drop k calls) ≡ torn_after torn initial initial calls) (sym none)
    (λ (no_sync : IsTrue (has_no_sync calls)). sym (torn_apart torn initial initial calls no_sync)) end.none_later)
    (λ (synced : (before : List Call) × (take n calls ≡ before ++ Sync ∷ [])).
    let durable : List ℕ = torn_writes New initial (take n calls) in
    sym (torn_apart torn durable durable (drop n calls) end.none_later)
    ∙ sym (subst (λ (l : List Call). torn_after torn initial initial (l ++ drop n calls) ≡ torn_after torn (torn_writes New initial l) (torn_writes New initial l) (drop n calls)) (sym synced.1) (whole_before torn initial initial synced.0 (drop n calls)))
    ∙ ap (λ (l : List Call). torn_after torn initial initial l) (take-append-drop n calls))
    end.a_sync

pub stopped : (torn : Torn) (initial durable image : List ℕ) (calls early late : List Call) (n : ℕ) → EndsWithTheLastSync n calls → early ≡ take n calls → late ≡ drop n calls
    → durable ≡ torn_writes New initial early → image ≡ torn_writes torn durable late → torn_after torn initial initial calls ≡ image
stopped torn initial durable image calls early late n end is_early is_late first second =
    sym (second
    ∙ ap (λ (l : List ℕ). torn_writes torn l late) (first ∙ ap (λ (l : List Call). torn_writes New initial l) is_early)
    ∙ ap (λ (l : List Call). torn_writes torn (torn_writes New initial (take n calls)) l) is_late
    ∙ in_parts torn initial calls n end)

pub fit_back : (n k : ℕ) (calls : List Call) → IsTrue (all_fit n calls) → IsTrue (all_fit n (drop k calls))
fit_back n zero calls fit = fit
fit_back n (suc k) [] fit = fit
fit_back n (suc k) (Read at m ∷ calls) fit = fit_back n k calls fit
fit_back n (suc k) (Write at bytes ∷ calls) fit = fit_back n k calls (first_fits n at bytes calls fit).1
fit_back n (suc k) (Sync ∷ calls) fit = fit_back n k calls fit
