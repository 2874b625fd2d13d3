-- What is held: each recipient's queue, the entries that are kept, and the greatest number given, after each change.
use Rattle.std.proofs.Common.{◌≡◌, ℕ, ◌+◌, ◌-◌, ◌<◌, ◌≤◌, zero, suc, Bool, true, false, cond, List, [], ◌∷◌, ◌++◌, length, map, Option, Some, None, IsSome, Result, Ok, Err, OnOk, OnErr, inl, inr, refl, sym, ap, subst, ◌∙◌, arith, get_or, set}
use Rattle.std.specs.Prelude.{nat_le, nat_lt, ◌==◌, filter}
use Rattle.apd_core.proofs.Words.{AllByRecursion, AreHeld, Conf, FinMap, HeldOuts, IsInOrder, MayFollow, Out, Queue, Recipient, RecipientIsThere, RecipientsAreThere, after_given, after_hand, after_settled, append-nil, append_assoc, before, beyond, cases_eq, cases_lt, eq-eqb, eq_by_cmp, get-empty, greatest_number, is_same, le-leb, le-ltb, leb-true, left_after_settled, less_one, lt-leb, lt-ltb, nat_cmp, nat_cmp-IsAntisymmetric, nat_cmp_total, ne_eqb, no_outs, no_queues, outs_in, outs_of, outs_to, queue_at, queue_of, queue_place, queues_after_hand, queues_with_out, queues_with_outs, up_to, with_outs, without}
use Rattle.std.specs.FinMap as maps
use Rattle.apd_base.proofs.MapLemmas as at
use Rattle.apd_core.proofs.Places.{there, same_recipient, apart, some_is}
use Rattle.apd_core.proofs.Queues.{all_get, all_set, all_weaker, added_same, added_elsewhere, length-queues_with_out, given_same, given_elsewhere, length-queues_after_hand, in_order_filter, in_order_push, outs_in-cons, counts, counts_not, outs_of-cons, outs_of-queues_after_hand, outs_of-queues_with_out, before-queues_with_out, before_each, given_step, same_step, outs_of-before, in_order_before, below, all_push}
use Rattle.apd_core.proofs.TreeMaps.{remove_back}

-- the number of queues stays
pub length-queues_with_outs : (confs : List Conf) (k : ℕ) (outs : List (Recipient × Out)) (qs : List Queue) → length (queues_with_outs confs k outs qs) ≡ length qs
length-queues_with_outs confs k [] qs = refl
length-queues_with_outs confs k (x ∷ xs) qs = length-queues_with_outs confs k xs _ ∙ length-queues_with_out qs (queue_place confs x.0) (k, x.1)

pub length-after_hand : (confs : List Conf) (n : ℕ) (r : Recipient) (h : HeldOuts) → length (after_hand confs n r h).queues ≡ length h.queues
length-after_hand confs n r h = length-queues_after_hand h.queues (queue_place confs r) n

pub length-no_queues : (confs : List Conf) → length (no_queues confs) ≡ length confs + 1
length-no_queues [] = refl
length-no_queues (c ∷ cs) = omega (arith, length-no_queues cs)

-- a recipient's queue after an entry more is kept
added : (confs : List Conf) (k : ℕ) (x : Recipient × Out) (qs : List Queue) (r : Recipient) → RecipientIsThere confs x → length qs ≡ length confs + 1
    → queue_at (queues_with_out qs (queue_place confs x.0) (k, x.1)) (queue_place confs r) ≡ cond (is_same r x.0) (queue_at qs (queue_place confs r) ++ (k, x.1) ∷ []) (queue_at qs (queue_place confs r))
added confs k x qs r h n =
    let at = there confs x h in
    elim (is_same r x.0) as (λ t. is_same r x.0 ≡ t → queue_at (queues_with_out qs (queue_place confs x.0) (k, x.1)) (queue_place confs r) ≡ cond t (queue_at qs (queue_place confs r) ++ (k, x.1) ∷ []) (queue_at qs (queue_place confs r))) [
      | true ↦ λ t. added_same qs (queue_place confs x.0) (queue_place confs r) at.0 (k, x.1) at.1 (same_recipient confs r x.0 t ∙ at.1) (let l : at.0 < length confs + 1 = at.2 in omega arith)
      | false ↦ λ t. added_elsewhere qs (queue_place confs x.0) (queue_place confs r) at.0 (k, x.1) at.1 (λ e. apart confs r x.0 at.0 t e at.1)
    ] refl

joined : (t : Bool) (q : Queue) (k : ℕ) (x : Recipient × Out) (f : List (Recipient × Out))
    → cond t (q ++ (k, x.1) ∷ []) q ++ map (λ (o : Out). (k, o)) (map (λ y. y.1) f) ≡ q ++ map (λ (o : Out). (k, o)) (map (λ y. y.1) (cond t (x ∷ f) f))
joined true q k x f = append_assoc q ((k, x.1) ∷ []) _
joined false q k x f = refl

queued_of : (confs : List Conf) (k : ℕ) (outs : List (Recipient × Out)) (qs : List Queue) (r : Recipient) → RecipientsAreThere confs outs → length qs ≡ length confs + 1
    → queue_at (queues_with_outs confs k outs qs) (queue_place confs r) ≡ queue_at qs (queue_place confs r) ++ map (λ o. (k, o)) (outs_to r outs)
queued_of confs k [] qs r all n = sym (append-nil _)
queued_of confs k (x ∷ xs) qs r all n =
    queued_of confs k xs (queues_with_out qs (queue_place confs x.0) (k, x.1)) r all.1 (length-queues_with_out qs (queue_place confs x.0) (k, x.1) ∙ n)
    ∙ ap (λ (q : Queue). q ++ map (λ (o : Out). (k, o)) (outs_to r xs)) (added confs k x qs r all.0 n)
    ∙ joined (is_same r x.0) (queue_at qs (queue_place confs r)) k x (filter (λ y. is_same r y.0) xs)

pub queue_of-with_outs : (confs : List Conf) (k : ℕ) (outs : List (Recipient × Out)) (h : HeldOuts) (r : Recipient) → RecipientsAreThere confs outs → length h.queues ≡ length confs + 1
    → queue_of confs (with_outs confs k outs h) r ≡ queue_of confs h r ++ map (λ o. (k, o)) (outs_to r outs)
queue_of-with_outs confs k outs h r all n = queued_of confs k outs h.queues r all n

-- a recipient's queue after it is given outs, and another's
pub queue_of-after_hand : (confs : List Conf) (n : ℕ) (r : Recipient) (h : HeldOuts) → queue_of confs (after_hand confs n r h) r ≡ beyond n (queue_of confs h r)
queue_of-after_hand confs n r h = given_same h.queues (queue_place confs r) n

pub queue_of-after_hand_other : (confs : List Conf) (n : ℕ) (r q : Recipient) (h : HeldOuts) → is_same r q ≡ false → queue_of confs (after_hand confs n r h) q ≡ queue_of confs h q
queue_of-after_hand_other confs n r q h ne = given_elsewhere h.queues (queue_place confs r) (queue_place confs q) n (λ i e f. apart confs r q i ne e f)

none_in : (confs : List Conf) (i : ℕ) → get_or (no_queues confs) i [] ≡ []
none_in [] zero = refl
none_in [] (suc i) = refl
none_in (c ∷ cs) zero = refl
none_in (c ∷ cs) (suc i) = none_in cs i

none_at : (confs : List Conf) (p : Option ℕ) → queue_at (no_queues confs) p ≡ []
none_at confs None = refl
none_at confs (Some i) = none_in confs i

pub queue_of-no_outs : (confs : List Conf) (r : Recipient) → queue_of confs (no_outs confs) r ≡ []
queue_of-no_outs confs r = none_at confs (queue_place confs r)

-- where the numbers of a queue don't fall, what is given stands in front of what stays
place_in_order : (qs : List Queue) (p : Option ℕ) → AllByRecursion IsInOrder qs → IsInOrder (queue_at qs p)
place_in_order qs None all = tt
place_in_order qs (Some i) all = all_get IsInOrder qs i [] all tt

pub queue_in_order : (confs : List Conf) (h : HeldOuts) (r : Recipient) → AreHeld h → IsInOrder (queue_of confs h r)
queue_in_order confs h r held = place_in_order h.queues (queue_place confs r) held.in_order

-- what is left of an entry's count, or whether it is gone, once so many of its outs are given
abbrev pub one_less : Option ℕ → Option ℕ
one_less None = None
one_less (Some count) = cond (nat_le count 1) None (Some (count - 1))

abbrev pub less_by : ℕ → Option ℕ → Option ℕ
less_by zero count = count
less_by (suc n) count = less_by n (one_less count)

pub less_by-none : (n : ℕ) → less_by n None ≡ None
less_by-none zero = refl
less_by-none (suc n) = less_by-none n

less_by_fewer : (n c : ℕ) → n < c → less_by n (Some c) ≡ Some (c - n)
less_by_fewer zero c h = ap Some (omega arith)
less_by_fewer (suc n) c h =
    ap (λ b. less_by n (cond b None (Some (c - 1)))) (lt-leb c 1 (omega arith)) ∙ less_by_fewer n (c - 1) (omega arith) ∙ ap Some (omega arith)

-- a count that stays was greater by what was given
one_less_back : (o : Option ℕ) (d : ℕ) → one_less o ≡ Some d → (c : ℕ) × (o ≡ Some c) × (c ≡ d + 1)
one_less_back None d e = cc
one_less_back (Some c) d e =
    elim (cases_lt 1 c) [
      | inl h ↦
          let is : Some (c - 1) ≡ Some d = sym (ap (λ b. cond b None (Some (c - 1))) (lt-leb c 1 h)) ∙ e in
          let same : c - 1 ≡ d = cc in
          (c, refl, omega arith)
      | inr h ↦
          let is : None ≡ Some d = sym (ap (λ b. cond b None (Some (c - 1))) (le-leb c 1 h)) ∙ e in
          cc
    ]

less_by_back : (n : ℕ) (o : Option ℕ) (d : ℕ) → less_by n o ≡ Some d → (c : ℕ) × (o ≡ Some c) × (c ≡ d + n)
less_by_back zero o d e = (d, e, omega arith)
less_by_back (suc n) o d e =
    let m = less_by_back n (one_less o) d e in
    let b = one_less_back o m.0 m.1 in
    (b.0, b.1, omega (arith, b.2, m.2))

one_given_same : (left : FinMap nat_cmp ℕ) (k : ℕ) (v : Option ℕ) → maps.get left k ≡ v → maps.get (less_one left k v) k ≡ one_less v
one_given_same left k None e = e
one_given_same left k (Some c) e =
    elim (nat_le c 1) as (λ t. maps.get (cond t (maps.remove left k) (maps.insert left k (c - 1))) k ≡ cond t None (Some (c - 1))) [
      | true ↦ at.get_removed nat_cmp_total nat_cmp-IsAntisymmetric left k
      | false ↦ at.get_inserted nat_cmp_total nat_cmp-IsAntisymmetric left k (c - 1)
    ]

one_given_other : (left : FinMap nat_cmp ℕ) (k q : ℕ) (v : Option ℕ) → (q ≡ k → ⊥) → maps.get (less_one left k v) q ≡ maps.get left q
one_given_other left k q None ne = refl
one_given_other left k q (Some c) ne =
    let other = at.apart nat_cmp_total nat_cmp-IsAntisymmetric q k ne in
    elim (nat_le c 1) as (λ t. maps.get (cond t (maps.remove left k) (maps.insert left k (c - 1))) q ≡ maps.get left q) [
      | true ↦ at.get_remove_other nat_cmp_total nat_cmp-IsAntisymmetric left k q other
      | false ↦ at.get_insert_other nat_cmp_total nat_cmp-IsAntisymmetric left k (c - 1) q other
    ]

one_given : (left : FinMap nat_cmp ℕ) (x : ℕ × Out) (xs : Queue) (q : ℕ) → less_by (outs_in q xs) (maps.get (less_one left x.0 (maps.get left x.0)) q) ≡ less_by (outs_in q (x ∷ xs)) (maps.get left q)
one_given left x xs q =
    elim (cases_eq x.0 q) [
      | inl e ↦
          ap (less_by (outs_in q xs)) (subst (λ (z : ℕ). maps.get (less_one left x.0 (maps.get left x.0)) z ≡ one_less (maps.get left z)) e (one_given_same left x.0 (maps.get left x.0) refl))
          ∙ ap (λ n. less_by n (maps.get left q)) (let is : suc (outs_in q xs) ≡ outs_in q (x ∷ xs) = omega (arith, counts x.0 q e, outs_in-cons q x xs) in is)
      | inr ne ↦
          ap (less_by (outs_in q xs)) (one_given_other left x.0 q (maps.get left x.0) (λ e. ne (sym e)))
          ∙ ap (λ n. less_by n (maps.get left q)) (let is : outs_in q xs ≡ outs_in q (x ∷ xs) = omega (arith, counts_not x.0 q ne, outs_in-cons q x xs) in is)
    ]

-- a kept entry's count after outs are given
pub get-after_given : (left : FinMap nat_cmp ℕ) (xs : Queue) (q : ℕ) → maps.get (after_given left xs) q ≡ less_by (outs_in q xs) (maps.get left q)
get-after_given left [] q = refl
get-after_given left (x ∷ xs) q = get-after_given (less_one left x.0 (maps.get left x.0)) xs q ∙ one_given left x xs q

pub get-after_hand : (confs : List Conf) (n : ℕ) (r : Recipient) (h : HeldOuts) (k : ℕ)
    → maps.get (after_hand confs n r h).left k ≡ less_by (outs_in k (up_to n (queue_of confs h r))) (maps.get h.left k)
get-after_hand confs n r h k = get-after_given h.left (up_to n (queue_of confs h r)) k

given_beyond : (n k : ℕ) (q : Queue) → n < k → outs_in k (up_to n q) ≡ 0
given_beyond n k [] h = refl
given_beyond n k (x ∷ q) h =
    elim (cases_lt n x.0) [
      | inl l ↦ ap (λ b. outs_in k (cond b (x ∷ up_to n q) (up_to n q))) (lt-leb x.0 n l) ∙ given_beyond n k q h
      | inr l ↦
          ap (λ b. outs_in k (cond b (x ∷ up_to n q) (up_to n q))) (le-leb x.0 n l) ∙ outs_in-cons k x (up_to n q)
          ∙ ap (λ b. cond b 1 0 + outs_in k (up_to n q)) (ne_eqb x.0 k (λ e. omega arith)) ∙ omega (arith, given_beyond n k q h)
    ]

-- an entry beyond the number stays as it was
pub get-after_hand_beyond : (confs : List Conf) (n : ℕ) (r : Recipient) (h : HeldOuts) (k : ℕ) → n < k → maps.get (after_hand confs n r h).left k ≡ maps.get h.left k
get-after_hand_beyond confs n r h k l = get-after_hand confs n r h k ∙ ap (λ m. less_by m (maps.get h.left k)) (given_beyond n k (queue_of confs h r) l)

-- who is kept after an entry more, and after one was settled
pub get-with_outs : (confs : List Conf) (n : ℕ) (outs : List (Recipient × Out)) (h : HeldOuts) (k : ℕ)
    → maps.get (with_outs confs n outs h).left k ≡ cond (eq_by_cmp nat_cmp k n) (Some (length outs)) (maps.get h.left k)
get-with_outs confs n outs h k = maps.get-insert nat_cmp_total h.left n (length outs) k

pub last_kept : (confs : List Conf) (n : ℕ) (outs : List (Recipient × Out)) (h : HeldOuts) → ((k : ℕ) → IsSome (maps.get h.left k) → k < n) → (k : ℕ) → IsSome (maps.get (with_outs confs n outs h).left k) → k ≤ n
last_kept confs n outs h later k is =
    elim (cases_eq k n) [
      | inl e ↦ omega arith
      | inr ne ↦
          let l : k < n = later k (subst (λ (v : Option ℕ). IsSome v) (at.get_insert_other nat_cmp_total nat_cmp-IsAntisymmetric h.left n (length outs) k (at.apart nat_cmp_total nat_cmp-IsAntisymmetric k n ne)) is) in
          omega arith
    ]

settled_other : (left : FinMap nat_cmp ℕ) (n k : ℕ) (v : Option ℕ) → (k ≡ n → ⊥) → maps.get (left_after_settled left n v) k ≡ maps.get left k
settled_other left n k None ne = refl
settled_other left n k (Some c) ne =
    elim (c == 0) as (λ t. maps.get (cond t (maps.remove left n) left) k ≡ maps.get left k) [
      | true ↦ at.get_remove_other nat_cmp_total nat_cmp-IsAntisymmetric left n k (at.apart nat_cmp_total nat_cmp-IsAntisymmetric k n ne)
      | false ↦ refl
    ]

-- a count of nothing is gone
abbrev pub unless_zero : Option ℕ → Option ℕ
unless_zero None = None
unless_zero (Some c) = cond (c == 0) None (Some c)

settled_same : (left : FinMap nat_cmp ℕ) (n : ℕ) (v : Option ℕ) → maps.get left n ≡ v → maps.get (left_after_settled left n v) n ≡ unless_zero v
settled_same left n None e = e
settled_same left n (Some c) e =
    elim (c == 0) as (λ t. maps.get (cond t (maps.remove left n) left) n ≡ cond t None (Some c)) [
      | true ↦ at.get_removed nat_cmp_total nat_cmp-IsAntisymmetric left n
      | false ↦ e
    ]

pub get-after_settled_other : (n : ℕ) (h : HeldOuts) (k : ℕ) → (k ≡ n → ⊥) → maps.get (after_settled n h).left k ≡ maps.get h.left k
get-after_settled_other n h k ne = settled_other h.left n k (maps.get h.left n) ne

pub get-after_settled : (n : ℕ) (h : HeldOuts) → maps.get (after_settled n h).left n ≡ unless_zero (maps.get h.left n)
get-after_settled n h = settled_same h.left n (maps.get h.left n) refl

-- the greatest number given
pub greatest_grows : (n : ℕ) (xs : Queue) → n ≤ greatest_number n xs
greatest_grows n [] = omega arith
greatest_grows n (x ∷ xs) =
    elim (cases_lt x.0 n) [
      | inl h ↦ subst (λ (b : Bool). n ≤ greatest_number (cond b x.0 n) xs) (sym (lt-leb n x.0 h)) (greatest_grows n xs)
      | inr h ↦ subst (λ (b : Bool). n ≤ greatest_number (cond b x.0 n) xs) (sym (le-leb n x.0 h)) (omega (arith, greatest_grows x.0 xs, h))
    ]

greatest_within : (m n : ℕ) (xs : Queue) → n ≤ m → AllByRecursion (λ x. x.0 ≤ m) xs → greatest_number n xs ≤ m
greatest_within m n [] h all = h
greatest_within m n (x ∷ xs) h all =
    elim (nat_le n x.0) as (λ b. greatest_number (cond b x.0 n) xs ≤ m) [ true ↦ greatest_within m x.0 xs all.0 all.1 | false ↦ greatest_within m n xs h all.1 ]

all_up_to : (n : ℕ) (q : Queue) → AllByRecursion (λ x. x.0 ≤ n) (up_to n q)
all_up_to n [] = tt
all_up_to n (x ∷ q) =
    elim (nat_le x.0 n) as (λ b. nat_le x.0 n ≡ b → AllByRecursion (λ y. y.0 ≤ n) (cond b (x ∷ up_to n q) (up_to n q))) [
      | true ↦ λ e. (leb-true x.0 n e, all_up_to n q)
      | false ↦ λ _. all_up_to n q
    ] refl

pub given_within : (confs : List Conf) (n : ℕ) (r : Recipient) (h : HeldOuts) → h.given ≤ n → (after_hand confs n r h).given ≤ n
given_within confs n r h l = greatest_within n h.given (up_to n (queue_of confs h r)) l (all_up_to n (queue_of confs h r))

-- an entry that was just kept, taken back
before-queues_with_outs : (confs : List Conf) (n : ℕ) (outs : List (Recipient × Out)) (qs : List Queue) → map (before n) (queues_with_outs confs n outs qs) ≡ map (before n) qs
before-queues_with_outs confs n [] qs = refl
before-queues_with_outs confs n (x ∷ xs) qs = before-queues_with_outs confs n xs _ ∙ before-queues_with_out n qs (queue_place confs x.0) (n, x.1) (omega arith)

none_of : {A : Type 0} (o : Option A) → (IsSome o → ⊥) → None ≡ o
none_of None h = refl
none_of (Some a) h = absurd (h refl)

pub held_below : (h : HeldOuts) (n : ℕ) → AreHeld h → ((k : ℕ) → IsSome (maps.get h.left k) → k < n) → AllByRecursion (λ q. AllByRecursion (λ x. x.0 < n) q) h.queues
held_below h n held later = below n h.queues (λ k p. later k (held.known k p))

pub queues_back : (confs : List Conf) (n : ℕ) (outs : List (Recipient × Out)) (h : HeldOuts) → AreHeld h → ((k : ℕ) → IsSome (maps.get h.left k) → k < n) → map (before n) (queues_with_outs confs n outs h.queues) ≡ h.queues
queues_back confs n outs h held later = before-queues_with_outs confs n outs h.queues ∙ before_each n h.queues (held_below h n held later)

pub left_back : (n count : ℕ) (h : HeldOuts) → ((k : ℕ) → IsSome (maps.get h.left k) → k < n) → maps.remove (maps.insert h.left n count) n ≡ h.left
left_back n count h later = remove_back nat_cmp_total nat_cmp-IsAntisymmetric h.left n count (none_of (maps.get h.left n) (λ is. let l : n < n = later n is in omega arith))

pub without-with_outs : (confs : List Conf) (n : ℕ) (outs : List (Recipient × Out)) (h : HeldOuts) → AreHeld h → ((k : ℕ) → IsSome (maps.get h.left k) → k < n) → without n (with_outs confs n outs h) ≡ h
without-with_outs confs n outs h held later =
    λ i. record { queues = queues_back confs n outs h held later i; left = left_back n (length outs) h later i; given = h.given }

none_in_order : (confs : List Conf) → AllByRecursion IsInOrder (no_queues confs)
none_in_order [] = (tt, tt)
none_in_order (c ∷ cs) = (tt, none_in_order cs)

none_of_outs : (k : ℕ) (confs : List Conf) → outs_of k (no_queues confs) ≡ 0
none_of_outs k [] = refl
none_of_outs k (c ∷ cs) = outs_of-cons k [] (no_queues cs) ∙ (omega (arith, none_of_outs k cs))

given_in_order : (n : ℕ) (qs : List Queue) (p : Option ℕ) → AllByRecursion IsInOrder qs → AllByRecursion IsInOrder (queues_after_hand qs p n)
given_in_order n qs None all = all
given_in_order n qs (Some i) all = all_set IsInOrder qs i (beyond n (get_or qs i [])) all (in_order_filter (λ x. nat_lt n x.0) (get_or qs i []) (all_get IsInOrder qs i [] all tt))

sums : (t : Bool) (a b c m : ℕ) → a ≡ b + cond t m 0 → b ≡ cond t 1 0 + c → a ≡ c + cond t (suc m) 0
sums true a b c m e f = omega arith
sums false a b c m e f = omega arith

nothing_more : (t : Bool) (a : ℕ) → a ≡ a + cond t 0 0
nothing_more true a = omega arith
nothing_more false a = omega arith

outs_of-queues_with_outs : (confs : List Conf) (n k : ℕ) (outs : List (Recipient × Out)) (qs : List Queue) → RecipientsAreThere confs outs → length qs ≡ length confs + 1
    → outs_of k (queues_with_outs confs n outs qs) ≡ outs_of k qs + cond (n == k) (length outs) 0
outs_of-queues_with_outs confs n k [] qs all size = nothing_more (n == k) _
outs_of-queues_with_outs confs n k (x ∷ xs) qs all size =
    let at = there confs x all.0 in
    sums (n == k) _ _ _ (length xs) (outs_of-queues_with_outs confs n k xs (queues_with_out qs (queue_place confs x.0) (n, x.1)) all.1 (length-queues_with_out qs (queue_place confs x.0) (n, x.1) ∙ size))
    (outs_of-queues_with_out k qs (queue_place confs x.0) at.0 (n, x.1) at.1 (let l : at.0 < length confs + 1 = at.2 in omega arith))

pub may_follow : (n : ℕ) (qs : List Queue) → AllByRecursion IsInOrder qs → AllByRecursion (λ q. AllByRecursion (λ x. x.0 < n) q) qs → AllByRecursion (MayFollow n) qs
may_follow n [] order low = tt
may_follow n (q ∷ qs) order low = ((order.0, all_weaker (λ (x : ℕ × Out). x.0 < n) (λ x. x.0 ≤ n) (λ x h. omega arith) q low.0), may_follow n qs order.1 low.1)

pub follow_more : (n : ℕ) (qs : List Queue) (p : Option ℕ) (o : Out) → AllByRecursion (MayFollow n) qs → AllByRecursion (MayFollow n) (queues_with_out qs p (n, o))
follow_more n qs None o all = all
follow_more n qs (Some i) o all =
    let at = all_get (MayFollow n) qs i [] all (tt, tt) in
    all_set (MayFollow n) qs i _ all (in_order_push (get_or qs i []) (n, o) at.0 at.1, all_push (λ (x : ℕ × Out). x.0 ≤ n) (get_or qs i []) (n, o) at.1 (omega arith))

pub follow_order : (n : ℕ) (qs : List Queue) → AllByRecursion (MayFollow n) qs → AllByRecursion IsInOrder qs
follow_order n qs all = all_weaker (MayFollow n) IsInOrder (λ q f. f.0) qs all

queued_in_order : (confs : List Conf) (n : ℕ) (outs : List (Recipient × Out)) (qs : List Queue) → AllByRecursion (MayFollow n) qs → AllByRecursion IsInOrder (queues_with_outs confs n outs qs)
queued_in_order confs n [] qs all = follow_order n qs all
queued_in_order confs n (x ∷ xs) qs all = queued_in_order confs n xs _ (follow_more n qs (queue_place confs x.0) x.1 all)

kept_other : (confs : List Conf) (n : ℕ) (outs : List (Recipient × Out)) (h : HeldOuts) (k : ℕ) → (n ≡ k → ⊥) → maps.get (with_outs confs n outs h).left k ≡ maps.get h.left k
kept_other confs n outs h k ne = at.get_insert_other nat_cmp_total nat_cmp-IsAntisymmetric h.left n (length outs) k (at.apart nat_cmp_total nat_cmp-IsAntisymmetric k n (λ e. ne (sym e)))

pub unless_zero_back : (o : Option ℕ) (c : ℕ) → unless_zero o ≡ Some c → o ≡ Some c
unless_zero_back None c e = e
unless_zero_back (Some d) c e =
    elim (d == 0) as (λ t. cond t None (Some d) ≡ Some c → Some d ≡ Some c) [ true ↦ λ f. (cc) | false ↦ λ f. f ] e

-- the invariant
pub held_none : (confs : List Conf) → AreHeld (no_outs confs)
held_none confs = record {
  in_order = none_in_order confs;
  counted = λ k count e. (let none : None ≡ Some count = sym (get-empty nat_cmp k) ∙ e in cc);
  known = λ k p. absurd (omega (arith, none_of_outs k confs, p));
}

pub held_after_hand : (confs : List Conf) (n : ℕ) (r : Recipient) (h : HeldOuts) → AreHeld h → AreHeld (after_hand confs n r h)
held_after_hand confs n r h held =
    let p = queue_place confs r in
    let parts = λ (k : ℕ). outs_of-queues_after_hand k n h.queues p in
    record {
      in_order = given_in_order n h.queues p held.in_order;
      counted = λ k count e.
          let b = less_by_back (outs_in k (up_to n (queue_at h.queues p))) (maps.get h.left k) count (sym (get-after_hand confs n r h k) ∙ e) in
          let c = held.counted k b.0 b.1 in
          omega (arith, parts k, b.2, c);
      known = λ k pos.
          let some = some_is (maps.get h.left k) (held.known k (omega (arith, parts k, pos))) in
          let c = held.counted k some.0 some.1 in
          let l : outs_in k (up_to n (queue_at h.queues p)) < some.0 = omega (arith, parts k, c) in
          subst (λ (v : Option ℕ). IsSome v) (sym (get-after_hand confs n r h k ∙ ap (less_by (outs_in k (up_to n (queue_at h.queues p)))) some.1 ∙ less_by_fewer (outs_in k (up_to n (queue_at h.queues p))) some.0 l)) refl;
    }

pub held_with_outs : (confs : List Conf) (n : ℕ) (outs : List (Recipient × Out)) (h : HeldOuts) → AreHeld h → RecipientsAreThere confs outs → length h.queues ≡ length confs + 1 → ((k : ℕ) → IsSome (maps.get h.left k) → k < n)
    → AreHeld (with_outs confs n outs h)
held_with_outs confs n outs h held all size later =
    let more = λ (k : ℕ). outs_of-queues_with_outs confs n k outs h.queues all size in
    record {
      in_order = queued_in_order confs n outs h.queues (may_follow n h.queues held.in_order (held_below h n held later));
      counted = λ k count e. elim (cases_eq n k) [
        | inl is ↦
            let one : cond (n == k) (length outs) 0 ≡ length outs = ap (λ b. cond b (length outs) 0) (eq-eqb n k is) in
            let gets : Some (length outs) ≡ Some count = sym (subst (λ (z : ℕ). maps.get (maps.insert h.left n (length outs)) z ≡ Some (length outs)) is (at.get_inserted nat_cmp_total nat_cmp-IsAntisymmetric h.left n (length outs))) ∙ e in
            let same : length outs ≡ count = cc in
            let none : outs_of k h.queues ≡ 0 = elim (cases_lt 0 (outs_of k h.queues)) [ inl pos ↦ absurd (let l : k < n = later k (held.known k pos) in omega arith) | inr z ↦ omega (arith, z) ] in
            omega (arith, more k, one, same, none)
        | inr ne ↦
            let one : cond (n == k) (length outs) 0 ≡ 0 = ap (λ b. cond b (length outs) 0) (ne_eqb n k ne) in
            let c = held.counted k count (sym (kept_other confs n outs h k ne) ∙ e) in
            omega (arith, more k, c, one)
      ];
      known = λ k pos. elim (cases_eq n k) [
        | inl is ↦ subst (λ (z : ℕ). IsSome (maps.get (maps.insert h.left n (length outs)) z)) is (subst (λ (v : Option ℕ). IsSome v) (sym (at.get_inserted nat_cmp_total nat_cmp-IsAntisymmetric h.left n (length outs))) refl)
        | inr ne ↦
            let one : cond (n == k) (length outs) 0 ≡ 0 = ap (λ b. cond b (length outs) 0) (ne_eqb n k ne) in
            subst (λ (v : Option ℕ). IsSome v) (sym (kept_other confs n outs h k ne)) (held.known k (omega (arith, more k, one, pos)))
      ];
    }

pub held_after_settled : (n : ℕ) (h : HeldOuts) → AreHeld h → AreHeld (after_settled n h)
held_after_settled n h held = record {
  in_order = held.in_order;
  counted = λ k count e. elim (cases_eq k n) [
    | inl is ↦
        let f : unless_zero (maps.get h.left n) ≡ Some count = sym (get-after_settled n h) ∙ subst (λ (z : ℕ). maps.get (after_settled n h).left z ≡ Some count) is e in
        subst (λ (z : ℕ). count ≡ outs_of z h.queues) (sym is) (held.counted n count (unless_zero_back (maps.get h.left n) count f))
    | inr ne ↦ held.counted k count (sym (get-after_settled_other n h k ne) ∙ e)
  ];
  known = λ k pos. elim (cases_eq k n) [
    | inl is ↦
        let some = some_is (maps.get h.left k) (held.known k pos) in
        let c = held.counted k some.0 some.1 in
        let ne : some.0 ≡ 0 → ⊥ = λ z. omega (arith, c, z, pos) in
        subst (λ (z : ℕ). IsSome (maps.get (after_settled n h).left z)) (sym is)
        (subst (λ (v : Option ℕ). IsSome v) (sym (get-after_settled n h ∙ ap unless_zero (subst (λ (z : ℕ). maps.get h.left z ≡ Some some.0) is some.1) ∙ ap (λ b. cond b None (Some some.0)) (ne_eqb some.0 0 ne))) refl)
    | inr ne ↦ subst (λ (v : Option ℕ). IsSome v) (sym (get-after_settled_other n h k ne)) (held.known k pos)
  ];
}

pub held_without : (n : ℕ) (h : HeldOuts) → AreHeld h → ((k : ℕ) → IsSome (maps.get h.left k) → k ≤ n) → AreHeld (without n h)
held_without n h held last =
    let less = λ (k : ℕ). outs_of-before k n h.queues in
    record {
      in_order = in_order_before n h.queues held.in_order;
      counted = λ k count e. elim (cases_eq k n) [
        | inl is ↦
            let gone : None ≡ Some count = sym (at.get_removed nat_cmp_total nat_cmp-IsAntisymmetric h.left n) ∙ subst (λ (z : ℕ). maps.get (maps.remove h.left n) z ≡ Some count) is e in
            cc
        | inr ne ↦
            let was : maps.get h.left k ≡ Some count = sym (at.get_remove_other nat_cmp_total nat_cmp-IsAntisymmetric h.left n k (at.apart nat_cmp_total nat_cmp-IsAntisymmetric k n ne)) ∙ e in
            let l : k ≤ n = last k (subst (λ (v : Option ℕ). IsSome v) (sym was) refl) in
            held.counted k count was ∙ sym (less k ∙ ap (λ b. cond b (outs_of k h.queues) 0) (lt-ltb k n (omega arith)))
      ];
      known = λ k pos.
          let below_it : k < n = elim (cases_lt k n) [ inl l ↦ l | inr g ↦ absurd (let z : outs_of k (map (before n) h.queues) ≡ 0 = less k ∙ ap (λ b. cond b (outs_of k h.queues) 0) (le-ltb k n g) in omega (arith, z, pos)) ] in
          let same : outs_of k (map (before n) h.queues) ≡ outs_of k h.queues = less k ∙ ap (λ b. cond b (outs_of k h.queues) 0) (lt-ltb k n below_it) in
          subst (λ (v : Option ℕ). IsSome v) (sym (at.get_remove_other nat_cmp_total nat_cmp-IsAntisymmetric h.left n k (at.apart nat_cmp_total nat_cmp-IsAntisymmetric k n (λ e. omega arith)))) (held.known k (omega (arith, same, pos)));
    }

pub held_same : (a b : List Queue) (l m : FinMap nat_cmp ℕ) (g j : ℕ) → a ≡ b → l ≡ m → g ≡ j → AreHeld (record { queues = b; left = m; given = j }) → AreHeld (record { queues = a; left = l; given = g })
held_same a b l m g j e f i h =
    subst (λ (z : List Queue). AreHeld (record { queues = z; left = l; given = g })) (sym e)
    (subst (λ (z : FinMap nat_cmp ℕ). AreHeld (record { queues = b; left = z; given = g })) (sym f)
    (subst (λ (z : ℕ). AreHeld (record { queues = b; left = m; given = z })) (sym i) h))

pub same_held : (a b : List Queue) (l m : FinMap nat_cmp ℕ) (g j : ℕ) → a ≡ b → l ≡ m → g ≡ j → ◌≡◌ {A = HeldOuts} (record { queues = a; left = l; given = g }) (record { queues = b; left = m; given = j })
same_held a b l m g j e f i = λ t. record { queues = e t; left = f t; given = i t }

-- what a queue's outs given leave, whether there was memory or not
pub given_held : {A E : Type 0} (confs : List Conf) (n : ℕ) (to : Recipient) (h : HeldOuts) (r : Result A E) (i : ℕ) (q new : Queue) (left : FinMap nat_cmp ℕ) (given : ℕ)
    → Some i ≡ queue_place confs to → q ≡ get_or h.queues i [] → OnOk r (new ≡ beyond n q) → OnOk r (left ≡ after_given h.left (up_to n q)) → OnOk r (given ≡ greatest_number h.given (up_to n q))
    → OnOk r (◌≡◌ {A = HeldOuts} (record { queues = set h.queues i new; left = left; given = given }) (after_hand confs n to h))
given_held confs n to h (Err x) i q new left given e at a b c = tt
given_held confs n to h (Ok x) i q new left given e at a b c =
    let same : q ≡ queue_of confs h to = at ∙ ap (queue_at h.queues) e in
    same_held _ _ _ _ _ _ (given_step h.queues (queue_place confs to) i n q new e at a) (b ∙ ap (λ (z : Queue). after_given h.left (up_to n z)) same) (c ∙ ap (λ (z : Queue). greatest_number h.given (up_to n z)) same)

pub after_give : {A E : Type 0} (confs : List Conf) (n : ℕ) (to : Recipient) (h : HeldOuts) (r : Result A E) (i : ℕ) (q new : Queue) (left : FinMap nat_cmp ℕ) (given : ℕ)
    → Some i ≡ queue_place confs to → q ≡ get_or h.queues i [] → OnOk r (new ≡ beyond n q) → OnOk r (left ≡ after_given h.left (up_to n q)) → OnOk r (given ≡ greatest_number h.given (up_to n q))
    → OnErr r ((new ≡ q) × (left ≡ h.left) × (given ≡ h.given)) → AreHeld h
    → AreHeld (record { queues = set h.queues i new; left = left; given = given })
after_give confs n to h (Err x) i q new left given e at a b c f held = held_same _ _ _ _ _ _ (same_step h.queues i q new at f.0) f.1 f.2 held
after_give confs n to h (Ok x) i q new left given e at a b c f held =
    subst AreHeld (sym (given_held {A = Unit {0}} {E = Unit {0}} confs n to h (Ok tt) i q new left given e at a b c)) (held_after_hand confs n to h held)
