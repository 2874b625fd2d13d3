-- What is computed of elements is what the relations say.
use Rattle.std.proofs.Common.{◌≡◌, ◌≢◌, ℕ, zero, suc, ◌-◌, ◌==◌, ◌<◌, ◌≤◌, Bool, true, false, List, [], ◌∷◌, ◌++◌, length, get_or, take, drop, nat_le, refl, sym, ◌∙◌, ap, subst, inl, inr, append_assoc, length-append, arith}
use Rattle.std.proofs.lemmas.Bool.{le-leb}
use Rattle.std.proofs.lemmas.Bool.Decides.{leb_tells, Decides-eqb}
use Rattle.std.proofs.lemmas.List.{append-nil, take-append-drop, length-take-le}
use Rattle.std.proofs.lemmas.Slice.Eq.{bytes_eq-Decides}
use Rattle.std.proofs.Math.Seq.{drop-append_seam, take-append_seam, take-length}
use Rattle.std.specs.Prelude.{IsTrue}
use Rattle.std.specs.List.{AllByRecursion}
use Rattle.std.specs.Str.{bytes_eq}
use Rattle.apd_base.specs.Number.{AreBytes}
use Rattle.apd_frame.specs.Elements.{octets_of_one, octets_of, IsElement, WellFormed, IsLongest, elements_behind, elements_of, well_formed}

-- the octets in front are dropped first
pub elements_behind-drop : (n : ℕ) (f : List ℕ) → elements_behind n f ≡ elements_of (drop n f)
elements_behind-drop zero [] = refl
elements_behind-drop (suc n) [] = refl
elements_behind-drop zero (x ∷ f) = refl
elements_behind-drop (suc n) (x ∷ f) = elements_behind-drop n f

-- where all of an element is there, it is the first
pub first_is_whole : (id n : ℕ) (f : List ℕ) → n ≤ length f → elements_of (id ∷ n ∷ f) ≡ (id, take n f) ∷ elements_of (drop n f)
first_is_whole id n f h = rw (le-leb n (length f) h, elements_behind-drop n f) refl

lt-leb : (a b : ℕ) → b < a → nat_le a b ≡ false
lt-leb a b h = elim (leb_tells a b) [ inl w ↦ absurd (omega arith) | inr w ↦ w.0 ]

pub first_is_cut : (id n : ℕ) (f : List ℕ) → length f < n → elements_of (id ∷ n ∷ f) ≡ []
first_is_cut id n f h = rw (lt-leb n (length f) h) refl

-- what begins with an element has it first
pub first_is : (e : ℕ × List ℕ) (more : List ℕ) → elements_of (octets_of_one e ++ more) ≡ e ∷ elements_of more
first_is e more =
    let le : length e.1 ≤ length (e.1 ++ more) = omega (arith, length-append e.1 more) in
    first_is_whole e.0 (length e.1) (e.1 ++ more) le
    ∙ ap (λ x. (e.0, x) ∷ elements_of (drop (length e.1) (e.1 ++ more))) (take-append_seam e.1 more)
    ∙ ap (λ x. e ∷ elements_of x) (drop-append_seam e.1 more)

-- an element that stands whole at the front
pub is_split : (id n : ℕ) (f : List ℕ) → n ≤ length f → id ∷ n ∷ f ≡ octets_of_one (id, take n f) ++ drop n f
is_split id n f h =
    ap (λ x. id ∷ n ∷ x) (sym (take-append-drop n f))
    ∙ ap (λ k. id ∷ k ∷ (take n f ++ drop n f)) (sym (length-take-le n f h))

-- bytes, one after another
abbrev pub AllBytes : List ℕ → Type 0
AllBytes f = AllByRecursion (λ b. b < 256) f

pub all_bytes : (f : List ℕ) → AreBytes f → AllBytes f
all_bytes [] h = tt
all_bytes (x ∷ f) h = (h 0, all_bytes f (λ i. h (suc i)))

-- no whole element stands in front of what is computed to have none
none_in_cut : (id n : ℕ) (f : List ℕ) → length f < n → (e : ℕ × List ℕ) (more : List ℕ) → IsElement e → id ∷ n ∷ f ≢ octets_of_one e ++ more
none_in_cut id n f lt e more small same =
    let count : n ≡ length e.1 = cc in
    let behind : f ≡ e.1 ++ more = cc in
    absurd (omega (arith, ap length behind, length-append e.1 more))

cut : (id n : ℕ) (f : List ℕ) → length f < n → IsLongest (id ∷ n ∷ f) []
cut id n f lt = record { are = tt; behind = id ∷ n ∷ f; is = refl; none_behind = none_in_cut id n f lt }

onto : (id n : ℕ) (f : List ℕ) (elements : List (ℕ × List ℕ)) → n < 256 → n ≤ length f → IsLongest (drop n f) elements → IsLongest (id ∷ n ∷ f) ((id, take n f) ∷ elements)
onto id n f elements small le h =
    let size : length (take n f) < 256 = omega (arith, length-take-le n f le) in
    record {
      are = (size, h.are);
      behind = h.behind;
      is = is_split id n f le ∙ ap (λ x. octets_of_one (id, take n f) ++ x) h.is ∙ sym (append_assoc (octets_of_one (id, take n f)) (octets_of elements) h.behind);
      none_behind = h.none_behind;
    }

-- what is computed is the longest list
pub is_longest : (n : ℕ) (f : List ℕ) → AllBytes f → IsLongest (drop n f) (elements_behind n f)
is_longest zero [] h = record { are = tt; behind = []; is = refl; none_behind = λ e more small same. cc }
is_longest (suc n) [] h = record { are = tt; behind = []; is = refl; none_behind = λ e more small same. cc }
is_longest (suc n) (x ∷ f) h = is_longest n f h.1
is_longest zero (id ∷ []) h = record { are = tt; behind = id ∷ []; is = refl; none_behind = λ e more small same. cc }
is_longest zero (id ∷ n ∷ f) h =
    elim (leb_tells n (length f)) [
      | inl w ↦ rw w.0 (onto id n f (elements_behind n f) h.1.0 w.1 (is_longest n f h.1.1))
      | inr w ↦ rw w.0 (cut id n f w.1)
    ]

-- where no whole element stands in front, none is computed
none_computed : (f : List ℕ) → AllBytes f → ((e : ℕ × List ℕ) (more : List ℕ) → IsElement e → f ≢ octets_of_one e ++ more) → elements_of f ≡ []
none_computed [] h none = refl
none_computed (id ∷ []) h none = refl
none_computed (id ∷ n ∷ f) h none =
    elim (leb_tells n (length f)) [
      | inl w ↦ (let size : length (take n f) < 256 = omega (arith, length-take-le n f w.1, h.1.0) in
          absurd (none (id, take n f) (drop n f) size (is_split id n f w.1)))
      | inr w ↦ first_is_cut id n f w.1
    ]

bytes_behind : (xs ys : List ℕ) → AllBytes (xs ++ ys) → AllBytes ys
bytes_behind [] ys h = h
bytes_behind (x ∷ xs) ys h = bytes_behind xs ys h.1

-- what stands in front is computed
computed : (elements : List (ℕ × List ℕ)) (behind : List ℕ) → elements_of behind ≡ [] → elements_of (octets_of elements ++ behind) ≡ elements
computed [] behind e = e
computed (x ∷ xs) behind e =
    ap elements_of (append_assoc (octets_of_one x) (octets_of xs) behind)
    ∙ first_is x (octets_of xs ++ behind)
    ∙ ap (λ l. x ∷ l) (computed xs behind e)

-- what was written is read again
pub read_again : (elements : List (ℕ × List ℕ)) → elements_of (octets_of elements) ≡ elements
read_again elements = sym (ap elements_of (append-nil (octets_of elements))) ∙ computed elements [] refl

pub only_longest : (f : List ℕ) (elements : List (ℕ × List ℕ)) → AllBytes f → IsLongest f elements → elements ≡ elements_of f
only_longest f elements h longest =
    let all : AllBytes (octets_of elements ++ longest.behind) = subst AllBytes longest.is h in
    let none : elements_of longest.behind ≡ [] = none_computed longest.behind (bytes_behind (octets_of elements) longest.behind all) longest.none_behind in
    sym (ap elements_of longest.is ∙ computed elements longest.behind none)

pub longest_is : (f : List ℕ) (elements : List (ℕ × List ℕ)) → AllBytes f → elements ≡ elements_of f → IsLongest f elements
longest_is f elements h e = subst (IsLongest f) (sym e) (is_longest 0 f h)

-- bytes are well formed where they are those of elements
pub is_well_formed : (f : List ℕ) → AllBytes f → IsTrue (well_formed f) → WellFormed f
is_well_formed f h t =
    let same : octets_of (elements_of f) ≡ f = (bytes_eq-Decides (octets_of (elements_of f)) f).0 t in
    (elements_of f, (is_longest 0 f h).are, sym same)

pub well_formed_is : (f : List ℕ) → WellFormed f → IsTrue (well_formed f)
well_formed_is f w =
    let all : elements_of f ≡ w.0 = ap elements_of w.2 ∙ read_again w.0 in
    (bytes_eq-Decides (octets_of (elements_of f)) f).1 (ap octets_of all ∙ sym w.2)

same_byte : (x : ℕ) → x == x ≡ true
same_byte x = (Decides-eqb x x).1 refl

same_front : (front xs ys : List ℕ) → bytes_eq (front ++ xs) (front ++ ys) ≡ bytes_eq xs ys
same_front [] xs ys = refl
same_front (x ∷ front) xs ys = rw (same_byte x) (same_front front xs ys)

-- an element in front leaves it to what stands behind
pub well_formed-behind : (e : ℕ × List ℕ) (more : List ℕ) → well_formed (octets_of_one e ++ more) ≡ well_formed more
well_formed-behind e more =
    ap (λ es. bytes_eq (octets_of es) (octets_of_one e ++ more)) (first_is e more)
    ∙ same_front (octets_of_one e) (octets_of (elements_of more)) more

-- a test that computes it tells it
pub tells_well_formed : (f : List ℕ) (b : Bool) → AllBytes f → b ≡ well_formed f → (IsTrue b → WellFormed f) × (WellFormed f → IsTrue b)
tells_well_formed f b h e = (λ t. is_well_formed f h (sym e ∙ t), λ w. e ∙ well_formed_is f w)

by_place : (f : List ℕ) → 2 ≤ length f →
    let n = get_or f 1 0 in
    let rest = take (length f - 2) (drop 2 f) in
    n ≤ length rest → elements_of f ≡ (get_or f 0 0, take n rest) ∷ elements_of (drop n rest)
by_place [] h = absurd (omega arith)
by_place (id ∷ []) h = absurd (omega arith)
by_place (id ∷ n ∷ f) h =
    let count : length (id ∷ n ∷ f) - 2 ≡ length f = omega arith in
    rw (count, take-length f) (λ le. first_is_whole id n f le)

-- the first element, read off by place
pub first_by_place : (f body behind : List ℕ) → 2 ≤ length f →
    let n = get_or f 1 0 in
    let rest = take (length f - 2) (drop 2 f) in
    n ≤ length rest → body ≡ take n rest → behind ≡ drop n rest → elements_of f ≡ (get_or f 0 0, body) ∷ elements_of behind
first_by_place f body behind h le body_is behind_is =
    let n = get_or f 1 0 in
    let rest = take (length f - 2) (drop 2 f) in
    by_place f h le
    ∙ ap (λ x. (get_or f 0 0, x) ∷ elements_of (drop n rest)) (sym body_is)
    ∙ ap (λ x. (get_or f 0 0, body) ∷ elements_of x) (sym behind_is)
