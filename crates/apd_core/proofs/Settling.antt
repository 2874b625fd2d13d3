-- What every core is, a settled batch and outs that are handed out keep.
use Rattle.std.proofs.Common.{◌≡◌, ◌≢◌, ℕ, zero, suc, ◌+◌, ◌-◌, ◌<◌, ◌≤◌, true, false, cond, List, [], ◌∷◌, ◌++◌, length, take, drop, Option, Some, None, IsSome, is_some, ◌⊎◌, inl, inr, refl, sym, ap, subst, ◌∙◌, arith, append_assoc}
use Rattle.std.specs.Prelude.{map, nat_le, nat_lt, ◌==◌}
use Rattle.apd_core.proofs.Words.{AreDecided, AreFit, AreHeld, AreMomentsOf, Change, Conf, CoreState, FinMap, Happening, HeldOuts, IsCore, Out, Queue, Recipient, Sound, State, Unsettled, after_all_settled, after_given, after_handing_out, after_publish, after_settled, append-nil, beyond, cases_eq, cases_lt, changes_of, eq-eqb, filter-append, front_of, is_same, last_of, le-leb, le-ltb, leb-false, left_after_settled, length-drop, length-take-le, less_one, lt-leb, lt-ltb, meaning_of, meaning_of-append, nat_cmp, nat_cmp_total, ne_eqb, numbered_outs, outs_in, outs_of, outs_to, queue_at, queue_of, queue_place, run, run_sound, take-append-drop, up_to, verdict}
use Rattle.std.specs.FinMap as maps
use Rattle.apd_core.proofs.Keeping.{changes_of-append, decided_means, decided_length, front_runs, up_to-append, none_up_to}
use Rattle.apd_core.proofs.Places.{some_is, same_recipient}
use Rattle.apd_core.proofs.HeldLemmas.{length-after_hand, queue_of-after_hand, queue_of-after_hand_other, get-after_hand, get-after_hand_beyond, get-after_settled, get-after_settled_other, unless_zero, unless_zero_back, one_less, less_by, less_by-none, held_after_settled, held_after_hand, given_within}

-- ---- a front of what happened, and the rest
module _ (confs : List Conf) where
  pub decided_split : (n : ℕ) (hs : List Happening) (entries : List (List Change)) (s : State) → AreDecided confs s hs entries
      → AreDecided confs s (take n hs) (take n entries) × AreDecided confs (run s confs (take n hs)) (drop n hs) (drop n entries)
  decided_split zero hs entries s d = (tt, d)
  decided_split (suc n) [] [] s d = (tt, tt)
  decided_split (suc n) [] (x ∷ entries) s d = absurd d
  decided_split (suc n) (h ∷ hs) [] s d = absurd d
  decided_split (suc n) (h ∷ hs) (x ∷ entries) s d =
      let rest = decided_split n hs entries (verdict s confs h).state d.2 in
      ((d.0, d.1, rest.0), rest.1)

  pub decided_fit : (hs : List Happening) (entries : List (List Change)) (s : State) → AreDecided confs s hs entries → AreFit s confs hs
  decided_fit [] entries s d = tt
  decided_fit (h ∷ hs) [] s d = absurd d
  decided_fit (h ∷ hs) (x ∷ entries) s d = (d.0, decided_fit hs entries (verdict s confs h).state d.2)

  module _ (r : Recipient) where
    pub numbered_split : (n : ℕ) (hs : List Happening) (k : ℕ) (s : State) → n ≤ length hs
        → numbered_outs r confs k s hs ≡ numbered_outs r confs k s (take n hs) ++ numbered_outs r confs (k + n) (run s confs (take n hs)) (drop n hs)
    numbered_split zero hs k s l = let same : k ≡ k + 0 = omega arith in ap (λ j. numbered_outs r confs j s hs) same
    numbered_split (suc n) [] k s l = absurd (omega arith)
    numbered_split (suc n) (h ∷ hs) k s l =
        let t = (verdict s confs h).state in
        let next : k + 1 + n ≡ k + suc n = omega arith in
        let few : n ≤ length hs = omega arith in
        let own : Queue = map (λ (out : Out). (k + 1, out)) (outs_to r (verdict s confs h).outs) in
        ap (λ (q : Queue). own ++ q) (numbered_split n hs (k + 1) t few ∙ ap (λ j. numbered_outs r confs (k + 1) t (take n hs) ++ numbered_outs r confs j (run t confs (take n hs)) (drop n hs)) next)
        ∙ sym (append_assoc own (numbered_outs r confs (k + 1) t (take n hs)) _)

    -- the numbers of these are above, and those of so many not above their last
    pub numbered_above : (hs : List Happening) (n k : ℕ) (s : State) → n ≤ k → up_to n (numbered_outs r confs k s hs) ≡ []
    numbered_above [] n k s l = refl
    numbered_above (h ∷ hs) n k s l =
        up_to-append n _ _ ∙ ap (λ q. q ++ up_to n (numbered_outs r confs (k + 1) (verdict s confs h).state hs)) (none_up_to n (k + 1) (outs_to r (verdict s confs h).outs) (omega arith))
        ∙ numbered_above hs n (k + 1) (verdict s confs h).state (omega arith)

    all_up_to : (n k : ℕ) (outs : List Out) → k ≤ n → up_to n (map (λ out. (k, out)) outs) ≡ map (λ out. (k, out)) outs
    all_up_to n k [] l = refl
    all_up_to n k (out ∷ outs) l = ap (λ b. cond b ((k, out) ∷ up_to n (map (λ (o : Out). (k, o)) outs)) (up_to n (map (λ (o : Out). (k, o)) outs))) (le-leb k n l) ∙ ap (λ q. (k, out) ∷ q) (all_up_to n k outs l)

    pub numbered_within : (hs : List Happening) (n k : ℕ) (s : State) → k + length hs ≤ n → up_to n (numbered_outs r confs k s hs) ≡ numbered_outs r confs k s hs
    numbered_within [] n k s l = refl
    numbered_within (h ∷ hs) n k s l =
        up_to-append n _ _
        ∙ ap (λ q. q ++ up_to n (numbered_outs r confs (k + 1) (verdict s confs h).state hs)) (all_up_to n (k + 1) (outs_to r (verdict s confs h).outs) (omega arith))
        ∙ ap (λ q. map (λ (out : Out). (k + 1, out)) (outs_to r (verdict s confs h).outs) ++ q) (numbered_within hs n (k + 1) (verdict s confs h).state (omega arith))

pub up_to_twice : (n m : ℕ) (q : Queue) → n ≤ m → up_to m (up_to n q) ≡ up_to n q
up_to_twice n m [] l = refl
up_to_twice n m (x ∷ q) l = elim (cases_lt n x.0) [
  | inl above ↦ (let f : up_to n (x ∷ q) ≡ up_to n q = ap (λ b. cond b (x ∷ up_to n q) (up_to n q)) (lt-leb x.0 n above) in ap (up_to m) f ∙ up_to_twice n m q l ∙ sym f)
  | inr below ↦
      (let f : up_to n (x ∷ q) ≡ x ∷ up_to n q = ap (λ b. cond b (x ∷ up_to n q) (up_to n q)) (le-leb x.0 n below) in
      let g : up_to m (x ∷ up_to n q) ≡ x ∷ up_to m (up_to n q) = ap (λ b. cond b (x ∷ up_to m (up_to n q)) (up_to m (up_to n q))) (le-leb x.0 m (omega arith)) in
      ap (up_to m) f ∙ g ∙ ap (λ p. x ∷ p) (up_to_twice n m q l) ∙ sym f)
]

removed_len : (left : FinMap nat_cmp ℕ) (k : ℕ) → maps.len (maps.remove left k) ≤ maps.len left
removed_len left k =
    elim (maps.contains_key left k) as (λ t. maps.len (maps.remove left k) ≡ cond t (maps.len left - 1) (maps.len left) → maps.len (maps.remove left k) ≤ maps.len left) [
      | true ↦ λ e. omega (arith, e)
      | false ↦ λ e. omega (arith, e)
    ] (maps.len-remove nat_cmp_total left k)

-- ---- settled entries
not_zero : (o : Option ℕ) (c : ℕ) → unless_zero o ≡ Some c → 0 < c
not_zero None c e = cc
not_zero (Some d) c e =
    elim (cases_eq d 0) [
      | inl z ↦ (let none : unless_zero (Some d) ≡ None = ap (λ b. cond b None (Some d)) (eq-eqb d 0 z) in cc)
      | inr ne ↦ (let some : unless_zero (Some d) ≡ Some d = ap (λ b. cond b None (Some d)) (ne_eqb d 0 ne) in let same : d ≡ c = cc in omega (arith, same, ne))
    ]

settled_left_len : (left : FinMap nat_cmp ℕ) (k : ℕ) (o : Option ℕ) → maps.len (left_after_settled left k o) ≤ maps.len left
settled_left_len left k None = omega arith
settled_left_len left k (Some c) =
    elim (c == 0) as (λ t. maps.len (cond t (maps.remove left k) left) ≤ maps.len left) [
      | true ↦ removed_len left k
      | false ↦ omega arith
    ]

module _ (number : ℕ) (held : HeldOuts) where
  pub settled_queues : (count : ℕ) → (after_all_settled number count held).queues ≡ held.queues
  settled_queues zero = refl
  settled_queues (suc count) = settled_queues count

  pub settled_given : (count : ℕ) → (after_all_settled number count held).given ≡ held.given
  settled_given zero = refl
  settled_given (suc count) = settled_given count

  pub settled_held : (count : ℕ) → AreHeld held → AreHeld (after_all_settled number count held)
  settled_held zero h = h
  settled_held (suc count) h = held_after_settled (number + suc count) (after_all_settled number count held) (settled_held count h)

  pub settled_others : (count k : ℕ) → (k ≤ number) ⊎ (number + count < k) → maps.get (after_all_settled number count held).left k ≡ maps.get held.left k
  settled_others zero k out = refl
  settled_others (suc count) k out =
      let ne : k ≢ number + suc count = λ e. elim out [ inl l ↦ absurd (omega arith) | inr l ↦ absurd (omega arith) ] in
      let rest : (k ≤ number) ⊎ (number + count < k) = elim out [ inl l ↦ inl l | inr l ↦ inr (omega arith) ] in
      get-after_settled_other (number + suc count) (after_all_settled number count held) k ne ∙ settled_others count k rest

  -- an entry that stays is one that was there; of the settled ones it has outs
  pub settled_back : (count k c : ℕ) → maps.get (after_all_settled number count held).left k ≡ Some c → maps.get held.left k ≡ Some c
  settled_back zero k c e = e
  settled_back (suc count) k c e =
      elim (cases_eq k (number + suc count)) [
        | inl is ↦
            let h = after_all_settled number count held in
            let f : unless_zero (maps.get h.left (number + suc count)) ≡ Some c = sym (get-after_settled (number + suc count) h) ∙ subst (λ (z : ℕ). maps.get (after_settled (number + suc count) h).left z ≡ Some c) is e in
            settled_back count k c (ap (maps.get h.left) is ∙ unless_zero_back (maps.get h.left (number + suc count)) c f)
        | inr ne ↦ settled_back count k c (sym (get-after_settled_other (number + suc count) (after_all_settled number count held) k ne) ∙ e)
      ]

  pub settled_some : (count k c : ℕ) → number < k → k ≤ number + count → maps.get (after_all_settled number count held).left k ≡ Some c → 0 < c
  settled_some zero k c above below e = absurd (omega arith)
  settled_some (suc count) k c above below e =
      elim (cases_eq k (number + suc count)) [
        | inl is ↦
            let h = after_all_settled number count held in
            not_zero (maps.get h.left (number + suc count)) c (sym (get-after_settled (number + suc count) h) ∙ subst (λ (z : ℕ). maps.get (after_settled (number + suc count) h).left z ≡ Some c) is e)
        | inr ne ↦ settled_some count k c above (omega (arith, ne)) (sym (get-after_settled_other (number + suc count) (after_all_settled number count held) k ne) ∙ e)
      ]

  pub settled_len : (count : ℕ) → maps.len (after_all_settled number count held).left ≤ maps.len held.left
  settled_len zero = omega arith
  settled_len (suc count) =
      let h = after_all_settled number count held in
      let rest = settled_len count in
      let one = settled_left_len h.left (number + suc count) (maps.get h.left (number + suc count)) in
      omega arith

-- ---- the state after all entries
pub front_sound : (s : CoreState) → IsCore s → Sound (front_of s)
front_sound s core =
    let u = core.unsettled in
    subst Sound (sym (front_runs s u)) (run_sound s.confs u.happened s.settled (decided_fit s.confs u.happened s.unsettled s.settled u.decided) core.sound)

-- ---- the batch in flight is settled
module _ (s : CoreState) (core : IsCore s) where
  abbrev next : CoreState
  next = after_publish s

  abbrev n : ℕ
  n = s.number

  abbrev f : ℕ
  f = s.flight

  rest_length : length next.unsettled ≡ length s.unsettled - f
  rest_length = length-drop f s.unsettled

  same_last : last_of next ≡ last_of s
  same_last = let fly = core.in_flight in omega (arith, rest_length)

  settled_is : (u : Unsettled s) → next.settled ≡ run s.settled s.confs (take f u.happened)
  settled_is u = decided_means s.confs (take f u.happened) (take f s.unsettled) s.settled (decided_split s.confs f u.happened s.unsettled s.settled u.decided).0

  pub published_front : front_of next ≡ front_of s
  published_front =
      sym (meaning_of-append (changes_of (take f s.unsettled)) (changes_of (drop f s.unsettled)) s.settled)
      ∙ ap (λ cs. meaning_of cs s.settled) (sym (changes_of-append (take f s.unsettled) (drop f s.unsettled)) ∙ ap changes_of (take-append-drop f s.unsettled))

  pub published_queue : (r : Recipient) → queue_of s.confs next.held r ≡ queue_of s.confs s.held r
  published_queue r = ap (λ qs. queue_at qs (queue_place s.confs r)) (settled_queues n s.held f)

  still_unsettled : Unsettled next
  still_unsettled =
      let u = core.unsettled in
      let d = decided_split s.confs f u.happened s.unsettled s.settled u.decided in
      let is = settled_is u in
      let count = decided_length s.confs u.happened s.unsettled s.settled u.decided in
      let fly = core.in_flight in
      let few : f ≤ length u.happened = omega (arith, count) in
      let front_length : length (take f u.happened) ≡ f = length-take-le f u.happened few in
      record {
        happened = drop f u.happened;
        decided = subst (λ (t : State). AreDecided s.confs t (drop f u.happened) (drop f s.unsettled)) (sym is) d.1;
        outs = λ r.
            let q = queue_of s.confs s.held r in
            let before = numbered_outs r s.confs n s.settled (take f u.happened) in
            let behind = numbered_outs r s.confs (n + f) (run s.settled s.confs (take f u.happened)) (drop f u.happened) in
            let parts : q ≡ (up_to n q ++ before) ++ behind = u.outs r ∙ ap (λ p. up_to n q ++ p) (numbered_split s.confs r f u.happened n s.settled few) ∙ sym (append_assoc (up_to n q) before behind) in
            let front : up_to (n + f) q ≡ up_to n q ++ before =
            ap (up_to (n + f)) parts ∙ up_to-append (n + f) (up_to n q ++ before) behind
            ∙ ap (λ p. up_to (n + f) (up_to n q ++ before) ++ p) (numbered_above s.confs r (drop f u.happened) (n + f) (n + f) _ (omega arith)) ∙ append-nil _
            ∙ up_to-append (n + f) (up_to n q) before
            ∙ (λ i. up_to_twice n (n + f) q (omega arith) i ++ numbered_within s.confs r (take f u.happened) (n + f) n s.settled (omega (arith, front_length)) i) in
            published_queue r ∙ parts ∙ ap (λ p. p ++ behind) (sym front)
            ∙ (λ i. up_to (n + f) (sym (published_queue r) i) ++ numbered_outs r s.confs (n + f) (sym is i) (drop f u.happened));
      }

  pub published_core : IsCore next
  published_core =
      let u = core.unsettled in
      let fly = core.in_flight in
      let held = settled_held n s.held f core.held in
      let same : outs_of ≡ outs_of = refl in
      record {
        confs = core.confs;
        sound = subst Sound (sym (settled_is u)) (run_sound s.confs (take f u.happened) s.settled (decided_fit s.confs (take f u.happened) (take f s.unsettled) s.settled (decided_split s.confs f u.happened s.unsettled s.settled u.decided).0) core.sound);
        unsettled = still_unsettled;
        in_flight = omega arith;
        numbers = let l = core.numbers in omega (arith, same_last);
        moments = subst (λ (t : State). AreMomentsOf t s.heard) (sym published_front) core.moments;
        queues = ap length (settled_queues n s.held f) ∙ core.queues;
        held = held;
        kept_unsettled = λ k above below. subst IsSome (sym (settled_others n s.held f k (inr above))) (core.kept_unsettled k (omega arith) (omega (arith, same_last, below)));
        kept_settled = λ k is below.
            let some = some_is (maps.get next.held.left k) is in
            let count = held.counted k some.0 some.1 in
            elim (cases_lt n k) [
              | inl above ↦ let more = settled_some n s.held f k some.0 above below some.1 in omega (arith, count, more)
              | inr old ↦
                  let was = settled_back n s.held f k some.0 some.1 in
                  let more = core.kept_settled k (subst IsSome (sym was) refl) old in
                  subst (λ (qs : List Queue). 0 < outs_of k qs) (sym (settled_queues n s.held f)) more
            ];
        kept_given = λ k is.
            let some = some_is (maps.get next.held.left k) is in
            let l = core.kept_given k (subst IsSome (sym (settled_back n s.held f k some.0 some.1)) refl) in
            omega (arith, same_last, l);
        few = let l = settled_len n s.held f in let m = core.few in omega (arith, l, m);
        given = let l = core.given in omega (arith, settled_given n s.held f, l);
      }

-- ---- outs are handed out
one_less_some : (o : Option ℕ) → ((d : ℕ) → o ≡ Some d → 0 < d) → (d : ℕ) → one_less o ≡ Some d → 0 < d
one_less_some None pos d e = cc
one_less_some (Some c) pos d e =
    elim (nat_le c 1) as (λ t. nat_le c 1 ≡ t → cond t None (Some (c - 1)) ≡ Some d → 0 < d) [
      | true ↦ λ _ g. (cc)
      | false ↦ λ l g. (let same : c - 1 ≡ d = cc in let more = leb-false c 1 l in omega (arith, same, more))
    ] refl e

-- a count that is left is not zero
less_by_some : (n : ℕ) (o : Option ℕ) (c : ℕ) → ((d : ℕ) → o ≡ Some d → 0 < d) → less_by n o ≡ Some c → 0 < c
less_by_some zero o c pos e = pos c e
less_by_some (suc n) o c pos e = less_by_some n (one_less o) c (one_less_some o pos) e

less_by_back : (n : ℕ) (o : Option ℕ) → IsSome (less_by n o) → IsSome o
less_by_back n None is = subst IsSome (less_by-none n) is
less_by_back n (Some c) is = refl

less_one_len : (left : FinMap nat_cmp ℕ) (k : ℕ) (o : Option ℕ) → maps.get left k ≡ o → maps.len (less_one left k o) ≤ maps.len left
less_one_len left k None e = omega arith
less_one_len left k (Some c) e =
    elim (nat_le c 1) as (λ t. maps.len (cond t (maps.remove left k) (maps.insert left k (c - 1))) ≤ maps.len left) [
      | true ↦ removed_len left k
      | false ↦
          (let there : maps.contains_key left k ≡ true = ap is_some e in
          let same = maps.len-insert nat_cmp_total left k (c - 1) ∙ ap (λ b. cond b (maps.len left) (maps.len left + 1)) there in
          omega (arith, same))
    ]

given_len : (left : FinMap nat_cmp ℕ) (q : Queue) → maps.len (after_given left q) ≤ maps.len left
given_len left [] = omega arith
given_len left (x ∷ q) =
    let one = less_one_len left x.0 (maps.get left x.0) refl in
    let rest = given_len (less_one left x.0 (maps.get left x.0)) q in
    omega arith

pub beyond-append : (n : ℕ) (p q : Queue) → beyond n (p ++ q) ≡ beyond n p ++ beyond n q
beyond-append n p q = filter-append (λ x. nat_lt n x.0) p q

beyond_up_to : (n : ℕ) (q : Queue) → beyond n (up_to n q) ≡ []
beyond_up_to n [] = refl
beyond_up_to n (x ∷ q) = elim (cases_lt n x.0) [
  | inl above ↦ ap (beyond n) (ap (λ b. cond b (x ∷ up_to n q) (up_to n q)) (lt-leb x.0 n above)) ∙ beyond_up_to n q
  | inr below ↦
      (ap (beyond n) (ap (λ b. cond b (x ∷ up_to n q) (up_to n q)) (le-leb x.0 n below))
      ∙ ap (λ b. cond b (x ∷ beyond n (up_to n q)) (beyond n (up_to n q))) (le-ltb n x.0 below) ∙ beyond_up_to n q)
]

pub up_to_beyond : (n : ℕ) (q : Queue) → up_to n (beyond n q) ≡ []
up_to_beyond n [] = refl
up_to_beyond n (x ∷ q) = elim (cases_lt n x.0) [
  | inl above ↦
      (ap (up_to n) (ap (λ b. cond b (x ∷ beyond n q) (beyond n q)) (lt-ltb n x.0 above))
      ∙ ap (λ b. cond b (x ∷ up_to n (beyond n q)) (up_to n (beyond n q))) (lt-leb x.0 n above) ∙ up_to_beyond n q)
  | inr below ↦ ap (up_to n) (ap (λ b. cond b (x ∷ beyond n q) (beyond n q)) (le-ltb n x.0 below)) ∙ up_to_beyond n q
]

all_beyond : (n k : ℕ) (outs : List Out) → n < k → beyond n (map (λ out. (k, out)) outs) ≡ map (λ out. (k, out)) outs
all_beyond n k [] l = refl
all_beyond n k (out ∷ outs) l = ap (λ b. cond b ((k, out) ∷ beyond n (map (λ (o : Out). (k, o)) outs)) (beyond n (map (λ (o : Out). (k, o)) outs))) (lt-ltb n k l) ∙ ap (λ q. (k, out) ∷ q) (all_beyond n k outs l)

numbered_beyond : (confs : List Conf) (r : Recipient) (hs : List Happening) (n k : ℕ) (s : State) → n ≤ k → beyond n (numbered_outs r confs k s hs) ≡ numbered_outs r confs k s hs
numbered_beyond confs r [] n k s l = refl
numbered_beyond confs r (h ∷ hs) n k s l =
    beyond-append n _ _
    ∙ ap (λ q. q ++ beyond n (numbered_outs r confs (k + 1) (verdict s confs h).state hs)) (all_beyond n (k + 1) (outs_to r (verdict s confs h).outs) (omega arith))
    ∙ ap (λ q. map (λ (out : Out). (k + 1, out)) (outs_to r (verdict s confs h).outs) ++ q) (numbered_beyond confs r hs n (k + 1) (verdict s confs h).state (omega arith))

module _ (s : CoreState) (to : Recipient) (core : IsCore s) where
  abbrev after : CoreState
  after = after_handing_out to s

  -- a queue that loses what is settled keeps what is not
  pub handed_queue : (r : Recipient) → (queue_of s.confs after.held r ≡ queue_of s.confs s.held r) ⊎ (queue_of s.confs after.held r ≡ beyond s.number (queue_of s.confs s.held r))
  handed_queue r =
      elim (is_same to r) as (λ t. is_same to r ≡ t → (queue_of s.confs after.held r ≡ queue_of s.confs s.held r) ⊎ (queue_of s.confs after.held r ≡ beyond s.number (queue_of s.confs s.held r))) [
        | true ↦ λ same.
            let place = same_recipient s.confs to r same in
            inr (ap (queue_at after.held.queues) (sym place) ∙ queue_of-after_hand s.confs s.number to s.held ∙ ap (λ p. beyond s.number (queue_at s.held.queues p)) place)
        | false ↦ λ apart. inl (queue_of-after_hand_other s.confs s.number to r s.held apart)
      ] refl

  pub handed_outs : (hs : List Happening) (r : Recipient) → queue_of s.confs s.held r ≡ up_to s.number (queue_of s.confs s.held r) ++ numbered_outs r s.confs s.number s.settled hs
      → queue_of s.confs after.held r ≡ up_to s.number (queue_of s.confs after.held r) ++ numbered_outs r s.confs s.number s.settled hs
  handed_outs hs r outs =
      let q = queue_of s.confs s.held r in
      let rest = numbered_outs r s.confs s.number s.settled hs in
      elim (handed_queue r) [
        | inl same ↦ same ∙ outs ∙ ap (λ p. up_to s.number p ++ rest) (sym same)
        | inr less ↦
            (let left : beyond s.number q ≡ rest =
            ap (beyond s.number) outs ∙ beyond-append s.number (up_to s.number q) rest
            ∙ (λ i. beyond_up_to s.number q i ++ numbered_beyond s.confs r hs s.number s.number s.settled (omega arith) i) in
            less ∙ left ∙ sym (ap (λ p. up_to s.number p ++ rest) less ∙ ap (λ p. p ++ rest) (up_to_beyond s.number q)))
      ]

  pub handed_core : IsCore after
  handed_core =
      let u = core.unsettled in
      let held = held_after_hand s.confs s.number to s.held core.held in
      record {
        confs = core.confs;
        sound = core.sound;
        unsettled = record { happened = u.happened; decided = u.decided; outs = λ r. handed_outs u.happened r (u.outs r) };
        in_flight = core.in_flight;
        numbers = core.numbers;
        moments = core.moments;
        queues = length-after_hand s.confs s.number to s.held ∙ core.queues;
        held = held;
        kept_unsettled = λ k above below. subst IsSome (sym (get-after_hand_beyond s.confs s.number to s.held k above)) (core.kept_unsettled k above below);
        kept_settled = λ k is below.
            let some = some_is (maps.get after.held.left k) is in
            let count = held.counted k some.0 some.1 in
            let was = λ (d : ℕ) (e : maps.get s.held.left k ≡ Some d).
            (let c = core.held.counted k d e in let more = core.kept_settled k (subst IsSome (sym e) refl) below in let pos : 0 < d = omega (arith, c, more) in pos) in
            let more : 0 < some.0 = less_by_some (outs_in k (up_to s.number (queue_of s.confs s.held to))) (maps.get s.held.left k) some.0 was (sym (get-after_hand s.confs s.number to s.held k) ∙ some.1) in
            omega (arith, count, more);
        kept_given = λ k is. core.kept_given k (less_by_back (outs_in k (up_to s.number (queue_of s.confs s.held to))) (maps.get s.held.left k) (subst IsSome (get-after_hand s.confs s.number to s.held k) is));
        few = let l = given_len s.held.left (up_to s.number (queue_of s.confs s.held to)) in let m = core.few in omega (arith, l, m);
        given = given_within s.confs s.number to s.held core.given;
      }
