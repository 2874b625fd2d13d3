-- Which entries are kept.
use Rattle.std.proofs.Common.{◌≡◌, ℕ, zero, suc, ◌+◌, ◌<◌, ◌↔◌, ◌⊎◌, false, cond, List, [], ◌∷◌, length, Option, Some, None, IsTrue, inl, inr, refl, sym, ap, subst, ◌∙◌, arith, get_or}
use Rattle.std.specs.Prelude.{slice_get}
use Rattle.apd_core.proofs.Words.{AreDistinct, Bssid, Conf, Contains, Control, CoreState, IsCore, IsOwed, IsUnsettled, Out, Queue, Radio, Recipient, bssid_cmp, bssid_exact, bssid_total, bssids, cases_eq, cases_lt, eq_by_cmp, is_kept, one_or_apart, outs_in, outs_of, queue_at, queue_of, queue_place, radio_place, tied}
use Rattle.apd_core.proofs.Places.{next}
use Rattle.apd_core.proofs.Queues.{counts, counts_not, outs_in-cons, outs_of-cons}

-- ---- the outs of an entry in a queue
module _ (k : ℕ) where
  pub counted : (q : Queue) → 0 < outs_in k q → (out : Out) × Contains q (k, out)
  counted [] some = absurd (omega arith)
  counted (x ∷ q) some = elim (cases_eq x.0 k) [
    | inl is ↦ (x.1, (0, omega arith, λ i. (is i, x.1)))
    | inr other ↦
        (let rest = counted q (omega (arith, some, outs_in-cons k x q, counts_not x.0 k other)) in
        let l = rest.1.1 in
        (rest.0, (suc rest.1.0, omega (arith, l), rest.1.2)))
  ]

  pub there_counts : (q : Queue) (out : Out) → Contains q (k, out) → 0 < outs_in k q
  there_counts [] out at = absurd (let l = at.1 in omega (arith, l))
  there_counts (x ∷ q) out (zero, below, is) = omega (arith, outs_in-cons k x q, counts x.0 k (ap (λ (y : ℕ × Out). y.0) is))
  there_counts (x ∷ q) out (suc n, below, is) = let rest = there_counts q out (n, omega (arith, below), is) in omega (arith, outs_in-cons k x q, rest)

  -- and in all queues
  pub some_queue : (qs : List Queue) → 0 < outs_of k qs → (i : ℕ) × (i < length qs) × (0 < outs_in k (get_or qs i []))
  some_queue [] some = absurd (omega arith)
  some_queue (q ∷ qs) some = elim (cases_lt 0 (outs_in k q)) [
    | inl here ↦ (0, omega arith, here)
    | inr none ↦
        (let rest = some_queue qs (omega (arith, some, none, outs_of-cons k q qs)) in
        let l = rest.1 in
        (suc rest.0, omega (arith, l), rest.2))
  ]

  pub queue_counts : (qs : List Queue) (i : ℕ) → 0 < outs_in k (get_or qs i []) → 0 < outs_of k qs
  queue_counts [] i some = absurd (omega arith)
  queue_counts (q ∷ qs) zero some = omega (arith, some, outs_of-cons k q qs)
  queue_counts (q ∷ qs) (suc i) some = let rest = queue_counts qs i some in omega (arith, rest, outs_of-cons k q qs)

  at_counts : (qs : List Queue) (p : Option ℕ) → 0 < outs_in k (queue_at qs p) → 0 < outs_of k qs
  at_counts qs None some = absurd (omega arith)
  at_counts qs (Some i) some = queue_counts qs i some

-- ---- each queue is a recipient's, since no BSSID is given twice
distinct_rest : (c : Conf) (cs : List Conf) → AreDistinct (bssids (c ∷ cs)) → AreDistinct (bssids cs)
distinct_rest c cs distinct p again =
    let l = again.before in
    distinct (suc p) (record { value = again.value; earlier = suc again.earlier; before = omega (arith, l); once = again.once; again = again.again })

radio_at : (confs : List Conf) → AreDistinct (bssids confs) → (i : ℕ) → i < length confs → (b : Bssid) × (slice_get (bssids confs) i ≡ Some b) × (radio_place confs b ≡ Some i)
radio_at [] distinct i below = absurd (omega arith)
radio_at (c ∷ cs) distinct zero below = (c.bssid, refl, ap (λ t. cond t (Some 0) (next (radio_place cs c.bssid))) (tied bssid_total bssid_exact c.bssid))
radio_at (c ∷ cs) distinct (suc i) below =
    let at = radio_at cs (distinct_rest c cs distinct) i (omega arith) in
    let apart : eq_by_cmp bssid_cmp at.0 c.bssid ≡ false = elim (one_or_apart bssid_total bssid_exact at.0 c.bssid) [
      | inl same ↦ absurd (distinct (suc i) (record { value = c.bssid; earlier = 0; before = omega arith; once = refl; again = at.1 ∙ ap Some same }))
      | inr other ↦ other
    ] in
    let up : i + 1 ≡ suc i = omega arith in
    (at.0, at.1, ap (λ t. cond t (Some 0) (next (radio_place cs at.0))) apart ∙ ap next at.2 ∙ ap Some up)

recipient_at : (confs : List Conf) → AreDistinct (bssids confs) → (i : ℕ) → i < length confs + 1 → (r : Recipient) × (queue_place confs r ≡ Some i)
recipient_at confs distinct i below = elim (cases_lt i (length confs)) [
  | inl radio ↦ (let at = radio_at confs distinct i radio in (Radio at.0, at.2))
  | inr last ↦ (Control, ap Some (let is : length confs ≡ i = omega arith in is))
]

-- ---- which entries are kept
module _ (s : CoreState) (core : IsCore s) (k : ℕ) where
  owed : 0 < outs_of k s.held.queues → IsOwed k s
  owed some =
      let queue = some_queue k s.held.queues some in
      let below = queue.1 in
      let to = recipient_at s.confs core.confs.bssids queue.0 (let all = core.queues in omega (arith, below, all)) in
      let own : get_or s.held.queues queue.0 [] ≡ queue_of s.confs s.held to.0 = ap (queue_at s.held.queues) (sym to.1) in
      let out = counted k (queue_of s.confs s.held to.0) (subst (λ (q : Queue). 0 < outs_in k q) own queue.2) in
      record { to = to.0; out = out.0; held = out.1 }

  owed_counts : IsOwed k s → 0 < outs_of k s.held.queues
  owed_counts of = at_counts k s.held.queues (queue_place s.confs of.to) (there_counts k (queue_of s.confs s.held of.to) of.out of.held)

pub kept_is : (s : CoreState) (k : ℕ) → IsCore s → (IsTrue (is_kept k s)) ↔ (IsUnsettled k s ⊎ IsOwed k s)
kept_is s k core = (
  λ is. elim (cases_lt s.number k) [
    | inl above ↦ inl (above, core.kept_given k is)
    | inr old ↦ inr (owed s core k (core.kept_settled k is old))
  ],
  λ either. elim either [
    | inl above ↦ core.kept_unsettled k above.0 above.1
    | inr of ↦ core.held.known k (owed_counts s core k of)
  ],
)
