-- Writes and stops inside the current half of an image.
use Rattle.std.proofs.Common.{◌≡◌, ◌≤◌, ◌+◌, ℕ, List, [], ◌++◌, length, take, drop, sym, ◌∙◌, ap, subst, arith, length-append, length-drop, take-append-drop}
use Rattle.apd_store.proofs.Words.{A, AreParts, B, Half, TornWithin, append-nil, append_assoc, drop-drop, drop_at, image_by, length-take-le, start_of, take_at, with_bytes}
use Rattle.apd_disk.proofs.Parts.{overwritten_parts, torn_parts}

module _ (left half right : List ℕ) (start place n : ℕ) (begins : length left ≡ start) (inside : place + n ≤ length half) where
  abbrev front : List ℕ
  front = take place half

  abbrev middle : List ℕ
  middle = take n (drop place half)

  abbrev back : List ℕ
  back = drop (place + n) half

  half_split : half ≡ front ++ (middle ++ back)
  half_split = sym (take-append-drop place half) ∙ ap (λ (l : List ℕ). take place half ++ l) (sym (take-append-drop n (drop place half)) ∙ ap (λ (l : List ℕ). take n (drop place half) ++ l) (drop-drop n place half))

  front_length : length front ≡ place
  front_length = length-take-le place half (omega (arith, inside))

  middle_length : length middle ≡ n
  middle_length = length-take-le n (drop place half) (omega (arith, length-drop place half, inside))

  -- with other bytes in the middle
  joined : (bytes : List ℕ) → left ++ ((front ++ (bytes ++ back)) ++ right) ≡ (left ++ front) ++ (bytes ++ (back ++ right))
  joined bytes = ap (λ (l : List ℕ). left ++ l) (append_assoc front (bytes ++ back) right ∙ ap (λ (l : List ℕ). front ++ l) (append_assoc bytes back right)) ∙ sym (append_assoc left front (bytes ++ (back ++ right)))

  whole : left ++ (half ++ right) ≡ (left ++ front) ++ (middle ++ (back ++ right))
  whole = ap (λ (l : List ℕ). left ++ (l ++ right)) half_split ∙ joined middle

  reaches : length (left ++ front) ≡ start + place
  reaches = omega (arith, length-append left front, begins, front_length)

  pub written_inside : (bytes : List ℕ) → length bytes ≡ n → with_bytes (left ++ (half ++ right)) (start + place) bytes ≡ left ++ (with_bytes half place bytes ++ right)
  written_inside bytes size =
      ap (λ (l : List ℕ). with_bytes l (start + place) bytes) whole
      ∙ overwritten_parts (left ++ front) middle (back ++ right) (start + place) n reaches middle_length bytes size
      ∙ sym (joined bytes)
      ∙ ap (λ (l : List ℕ). left ++ (l ++ right)) (sym (append_assoc front bytes back) ∙ ap (λ (k : ℕ). (front ++ bytes) ++ drop (place + k) half) (sym size))

  pub torn_inside : (c : List ℕ) → TornWithin (start + place) n (left ++ (half ++ right)) c → (h : List ℕ) × TornWithin place n half h × (c ≡ left ++ (h ++ right))
  torn_inside c torn =
      let found = torn_parts (left ++ front) middle (back ++ right) (start + place) n reaches middle_length c (subst (λ (l : List ℕ). TornWithin (start + place) n l c) whole torn) in
      let x = found.0 in
      let h = front ++ (x ++ back) in
      let both : length (front ++ x) ≡ place + n = omega (arith, length-append front x, front_length, found.1) in (
        h,
        record {
          before = take_at front (x ++ back) place front_length;
          after = ap (λ (l : List ℕ). drop (place + n) l) (sym (append_assoc front x back)) ∙ drop_at (front ++ x) back (place + n) both;
          same_length = omega (arith, length-append front (x ++ back), length-append x back, ap length half_split, length-append front (middle ++ back), length-append middle back, middle_length, found.1);
        },
        found.2 ∙ sym (joined x),
      )

-- the same in an image, by the side of its current half
module _ (mark reserved half other : List ℕ) (eight : length mark ≡ 8) (parts : AreParts reserved half other) (place n : ℕ) (inside : place + n ≤ length half) where
  before_a : length (mark ++ reserved) ≡ 64
  before_a = omega (arith, length-append mark reserved, eight, parts.reserved_length)

  before_b : length ((mark ++ reserved) ++ other) ≡ 1048640
  before_b = omega (arith, length-append (mark ++ reserved) other, before_a, parts.other_length)

  shape_a : (h : List ℕ) → image_by mark A reserved h other ≡ (mark ++ reserved) ++ (h ++ other)
  shape_a h = sym (append_assoc mark reserved (h ++ other))

  shape_b : (h : List ℕ) → image_by mark B reserved h other ≡ ((mark ++ reserved) ++ other) ++ (h ++ [])
  shape_b h = sym (append_assoc mark reserved (other ++ h)) ∙ sym (append_assoc (mark ++ reserved) other h) ∙ ap (λ (l : List ℕ). ((mark ++ reserved) ++ other) ++ l) (sym (append-nil h))

  pub written_in_half : (side : Half) (bytes : List ℕ) → length bytes ≡ n → with_bytes (image_by mark side reserved half other) (start_of side + place) bytes ≡ image_by mark side reserved (with_bytes half place bytes) other
  written_in_half A bytes size =
      ap (λ (l : List ℕ). with_bytes l (64 + place) bytes) (shape_a half) ∙ written_inside (mark ++ reserved) half other 64 place n before_a inside bytes size ∙ sym (shape_a (with_bytes half place bytes))
  written_in_half B bytes size =
      ap (λ (l : List ℕ). with_bytes l (1048640 + place) bytes) (shape_b half) ∙ written_inside ((mark ++ reserved) ++ other) half [] 1048640 place n before_b inside bytes size ∙ sym (shape_b (with_bytes half place bytes))

  pub torn_in_half : (side : Half) (c : List ℕ) → TornWithin (start_of side + place) n (image_by mark side reserved half other) c → (h : List ℕ) × TornWithin place n half h × (c ≡ image_by mark side reserved h other)
  torn_in_half A c torn =
      let found = torn_inside (mark ++ reserved) half other 64 place n before_a inside c (subst (λ (l : List ℕ). TornWithin (64 + place) n l c) (shape_a half) torn) in
      (found.0, found.1, found.2 ∙ sym (shape_a found.0))
  torn_in_half B c torn =
      let found = torn_inside ((mark ++ reserved) ++ other) half [] 1048640 place n before_b inside c (subst (λ (l : List ℕ). TornWithin (1048640 + place) n l c) (shape_b half) torn) in
      (found.0, found.1, found.2 ∙ sym (shape_b found.0))
