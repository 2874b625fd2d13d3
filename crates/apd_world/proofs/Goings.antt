-- How a core goes on by each of its calls, and by several.
use Rattle.std.proofs.Common.{◌≡◌, ℕ, ◌+◌, ◌≤◌, Bool, true, false, cond, List, [], ◌∷◌, ◌++◌, length, take, drop, ◌⊎◌, inl, inr, refl, sym, ap, subst, ◌∙◌, arith, append_assoc, length-append}
use Rattle.std.specs.Prelude.{map}
use Rattle.std.proofs.lemmas.List.{append-nil, map-append, length-take-le, length-drop, take-append-drop}
use Rattle.apd_world.proofs.Words.{AreFit, AreHeldFor, AreUnsettled, Change, Conf, Control, CoreState, Goes, GoesQuietly, Happening, IsCore, LastHeard, Moment, Out, Radio, Recipient, Settles, State, front_of, after_handing_out, held_for, last_of, outs_run, outs_to, after_publish, ready_for, run, up_to, verdict, with_entry, with_sender}
use Rattle.apd_base.proofs.AddrLemmas.{bssid_total, bssid_exact}
use Rattle.apd_base.proofs.MapLemmas.{one_or_apart, tied}
use Rattle.apd_mlme.specs.Outs.{is_same}
use Rattle.apd_mlme.specs.rules.{IsFit}
use Rattle.apd_mlme.proofs.TrueOutsLemmas.{verdict_there}
use Rattle.apd_core.specs.Held.{Queue, queue_of}
use Rattle.apd_core.specs.Invariant.{AreDecided, numbered_outs}
use Rattle.apd_core.proofs.CoreLemmas.{entry_front, entry_held, outs_only, publish_front, publish_held, hand_held, hand_others}
use Rattle.apd_core.proofs.HeldLemmas.{queue_of-with_outs, queue_of-after_hand, queue_of-after_hand_other}
use Rattle.apd_core.proofs.Keeping.{decided_means, decided_length, decided_push, numbered_push, none_up_to, up_to-append}
use Rattle.apd_core.proofs.Settling.{decided_split, handed_outs, numbered_split, numbered_above, numbered_within, up_to_beyond, up_to_twice, published_queue}

-- ---- happenings in two parts
pub run-append : (confs : List Conf) (es fs : List Happening) (s : State) → run s confs (es ++ fs) ≡ run (run s confs es) confs fs
run-append confs [] fs s = refl
run-append confs (e ∷ es) fs s = run-append confs es fs (verdict s confs e).state

pub outs_run-append : (r : Recipient) (confs : List Conf) (es fs : List Happening) (s : State) → outs_run r s confs (es ++ fs) ≡ outs_run r s confs es ++ outs_run r (run s confs es) confs fs
outs_run-append r confs [] fs s = refl
outs_run-append r confs (e ∷ es) fs s =
    ap (λ os. outs_to r (verdict s confs e).outs ++ os) (outs_run-append r confs es fs (verdict s confs e).state)
    ∙ sym (append_assoc (outs_to r (verdict s confs e).outs) (outs_run r (verdict s confs e).state confs es) _)

pub fit-append : (confs : List Conf) (es fs : List Happening) (s : State) → AreFit s confs es → AreFit (run s confs es) confs fs → AreFit s confs (es ++ fs)
fit-append confs [] fs s a b = b
fit-append confs (e ∷ es) fs s a b = (a.0, fit-append confs es fs (verdict s confs e).state a.1 b)

no_further : (n : ℕ) → n ≡ n + 0
no_further n = omega arith

-- ---- outs with their numbers
numbered_are : (r : Recipient) (confs : List Conf) (hs : List Happening) (k : ℕ) (s : State) → map (λ (x : ℕ × Out). x.1) (numbered_outs r confs k s hs) ≡ outs_run r s confs hs
numbered_are r confs [] k s = refl
numbered_are r confs (h ∷ hs) k s =
    map-append (λ (x : ℕ × Out). x.1) (map (λ (out : Out). (k + 1, out)) (outs_to r (verdict s confs h).outs)) (numbered_outs r confs (k + 1) (verdict s confs h).state hs)
    ∙ (λ i. outs_only (k + 1) (outs_to r (verdict s confs h).outs) i ++ numbered_are r confs hs (k + 1) (verdict s confs h).state i)

-- ---- nothing is settled
nothing_settles : (hs : List Happening) (given : Recipient → List Out) (old new : CoreState) → new.settled ≡ old.settled → new.number ≡ old.number → AreUnsettled hs new
    → ((r : Recipient) → AreHeldFor r hs old → AreHeldFor r hs new) → ((r : Recipient) → given r ++ ready_for r new ≡ ready_for r old ++ []) → Settles hs [] given old new
nothing_settles hs given old new state number decided held released = record {
  settled = [];
  left = hs;
  split = append-nil hs;
  state = state;
  number = number ∙ no_further old.number;
  decided = decided;
  held = held;
  released = λ r h. released r;
}

-- ---- nothing happens but that a batch is taken, a station heard, or the core fails
module _ (s : CoreState) (flight : ℕ) (heard : LastHeard) (failed : Bool) where
  abbrev beside : CoreState
  beside = record s { flight = flight; heard = heard; failed = failed }

  beside_settles : (hs : List Happening) → AreUnsettled hs s → Settles hs [] (λ _. []) s beside
  beside_settles hs u = nothing_settles hs (λ _. []) s beside refl refl u (λ r h. h) (λ r. sym (append-nil (ready_for r s)))

  pub goes_beside : Goes [] (λ _. []) s beside
  goes_beside = record {
    confs = refl;
    fit = tt;
    front = refl;
    outs = λ r. sym (append-nil (held_for r s));
    last = no_further (last_of s);
    settles = beside_settles;
  }

pub goes_unchanged : (s : CoreState) → Goes [] (λ _. []) s s
goes_unchanged s = goes_beside s s.flight s.heard s.failed

-- ---- an entry more
module _ (s : CoreState) (m : Moment) (h : Happening) (core : IsCore s) (fit : IsFit (front_of s) s.confs h) where
  abbrev entered_state : CoreState
  entered_state = with_sender m h (with_entry s m h)

  abbrev number : ℕ
  number = last_of s + 1

  abbrev own : Recipient → Queue
  own r = map (λ out. (number, out)) (outs_to r (verdict (front_of s) s.confs h).outs)

  longer : (r : Recipient) → queue_of s.confs entered_state.held r ≡ queue_of s.confs s.held r ++ own r
  longer r = queue_of-with_outs s.confs number (verdict (front_of s) s.confs h).outs s.held r (verdict_there (front_of s) s.confs h) core.queues

  same_ready : (r : Recipient) → up_to s.number (queue_of s.confs entered_state.held r) ≡ up_to s.number (queue_of s.confs s.held r)
  same_ready r =
      let q = queue_of s.confs s.held r in
      ap (up_to s.number) (longer r) ∙ up_to-append s.number q (own r)
      ∙ ap (λ p. up_to s.number q ++ p) (none_up_to s.number number (outs_to r (verdict (front_of s) s.confs h).outs) (omega arith)) ∙ append-nil _

  module _ (hs : List Happening) (u : AreUnsettled hs s) where
    runs : front_of s ≡ run s.settled s.confs hs
    runs = decided_means s.confs hs s.unsettled s.settled u

    abbrev made : State → List Change
    made t = (verdict t s.confs h).changes

    entry_decided : AreUnsettled (hs ++ h ∷ []) entered_state
    entry_decided =
        subst (λ (t : State). AreDecided s.confs s.settled (hs ++ h ∷ []) (s.unsettled ++ made t ∷ [])) (sym runs)
        (decided_push s.confs hs s.unsettled s.settled h u (subst (λ (t : State). IsFit t s.confs h) runs fit))

    entry_outs : (r : Recipient) → AreHeldFor r hs s → AreHeldFor r (hs ++ h ∷ []) entered_state
    entry_outs r held =
        let q = queue_of s.confs s.held r in
        let count = decided_length s.confs hs s.unsettled s.settled u in
        let here : s.number + length hs + 1 ≡ number = omega (arith, count) in
        let tail : own r ≡ map (λ (out : Out). (s.number + length hs + 1, out)) (outs_to r (verdict (run s.settled s.confs hs) s.confs h).outs) =
        (λ i. map (λ (out : Out). (sym here i, out)) (outs_to r (verdict (runs i) s.confs h).outs)) in
        longer r
        ∙ ap (λ p. p ++ own r) held
        ∙ append_assoc (up_to s.number q) (numbered_outs r s.confs s.number s.settled hs) (own r)
        ∙ ap (λ p. up_to s.number q ++ p) (ap (λ p. numbered_outs r s.confs s.number s.settled hs ++ p) tail ∙ sym (numbered_push s.confs r hs s.number s.settled h))
        ∙ ap (λ p. p ++ numbered_outs r s.confs s.number s.settled (hs ++ h ∷ [])) (sym (same_ready r))

    entry_settles : Settles hs (h ∷ []) (λ _. []) s entered_state
    entry_settles = record {
      settled = [];
      left = hs ++ h ∷ [];
      split = refl;
      state = refl;
      number = no_further s.number;
      decided = entry_decided;
      held = entry_outs;
      released = λ r held. ap (map (λ (x : ℕ × Out). x.1)) (same_ready r) ∙ sym (append-nil (ready_for r s));
    }

  pub goes_entry : Goes (h ∷ []) (λ _. []) s entered_state
  goes_entry = record {
    confs = refl;
    fit = (fit, tt);
    front = entry_front s m h;
    outs = λ r. entry_held s m h r core ∙ ap (λ os. held_for r s ++ os) (sym (append-nil (outs_to r (verdict (front_of s) s.confs h).outs)));
    last = let one = length-append s.unsettled ((verdict (front_of s) s.confs h).changes ∷ []) in omega (arith, one);
    settles = entry_settles;
  }

-- ---- the batch in flight is settled
module _ (s : CoreState) (core : IsCore s) where
  abbrev next : CoreState
  next = after_publish s

  module _ (hs : List Happening) (u : AreUnsettled hs s) where
    abbrev front : List Happening
    front = take s.flight hs

    few : s.flight ≤ length hs
    few = let count = decided_length s.confs hs s.unsettled s.settled u in let fly = core.in_flight in omega (arith, count, fly)

    is : next.settled ≡ run s.settled s.confs front
    is = decided_means s.confs front (take s.flight s.unsettled) s.settled (decided_split s.confs s.flight hs s.unsettled s.settled u).0

    front_length : length front ≡ s.flight
    front_length = length-take-le s.flight hs few

    now_ready : (r : Recipient) → AreHeldFor r hs s
        → (up_to next.number (queue_of s.confs next.held r) ≡ up_to s.number (queue_of s.confs s.held r) ++ numbered_outs r s.confs s.number s.settled front)
        × (queue_of s.confs s.held r ≡ (up_to s.number (queue_of s.confs s.held r) ++ numbered_outs r s.confs s.number s.settled front) ++ numbered_outs r s.confs next.number (run s.settled s.confs front) (drop s.flight hs))
    now_ready r held =
        let n = s.number in
        let f = s.flight in
        let q = queue_of s.confs s.held r in
        let before = numbered_outs r s.confs n s.settled front in
        let behind = numbered_outs r s.confs (n + f) (run s.settled s.confs front) (drop f hs) in
        let parts : q ≡ (up_to n q ++ before) ++ behind = held ∙ ap (λ p. up_to n q ++ p) (numbered_split s.confs r f hs n s.settled few) ∙ sym (append_assoc (up_to n q) before behind) in
        let ready : up_to (n + f) q ≡ up_to n q ++ before =
        ap (up_to (n + f)) parts ∙ up_to-append (n + f) (up_to n q ++ before) behind
        ∙ ap (λ p. up_to (n + f) (up_to n q ++ before) ++ p) (numbered_above s.confs r (drop f hs) (n + f) (n + f) _ (omega arith)) ∙ append-nil _
        ∙ up_to-append (n + f) (up_to n q) before
        ∙ (λ i. up_to_twice n (n + f) q (omega arith) i ++ numbered_within s.confs r front (n + f) n s.settled (omega (arith, front_length)) i) in
        (ap (up_to (n + f)) (published_queue s core r) ∙ ready, parts)

    publish_settles : Settles hs [] (λ _. []) s next
    publish_settles = record {
      settled = front;
      left = drop s.flight hs;
      split = append-nil hs ∙ sym (take-append-drop s.flight hs);
      state = is;
      number = ap (λ n. s.number + n) (sym front_length);
      decided = subst (λ (t : State). AreDecided s.confs t (drop s.flight hs) (drop s.flight s.unsettled)) (sym is) (decided_split s.confs s.flight hs s.unsettled s.settled u).1;
      held = λ r held.
          let both = now_ready r held in
          published_queue s core r ∙ both.1
          ∙ (λ i. sym both.0 i ++ numbered_outs r s.confs (s.number + s.flight) (sym is i) (drop s.flight hs));
      released = λ r held.
          let both = now_ready r held in
          ap (map (λ (x : ℕ × Out). x.1)) both.0
          ∙ map-append (λ (x : ℕ × Out). x.1) (up_to s.number (queue_of s.confs s.held r)) (numbered_outs r s.confs s.number s.settled front)
          ∙ ap (λ os. ready_for r s ++ os) (numbered_are r s.confs front s.number s.settled);
    }

  pub goes_published : Goes [] (λ _. []) s next
  goes_published = record {
    confs = refl;
    fit = tt;
    front = publish_front s core;
    outs = λ r. publish_held s r core ∙ sym (append-nil (held_for r s));
    last = let fly = core.in_flight in let rest = length-drop s.flight s.unsettled in omega (arith, rest, fly);
    settles = publish_settles;
  }

-- ---- a recipient is given what is settled for it
pub is_or_not : (r q : Recipient) → (r ≡ q) ⊎ (is_same r q ≡ false)
is_or_not (Radio b) (Radio c) = elim (one_or_apart bssid_total bssid_exact b c) [ inl same ↦ inl (ap Radio same) | inr apart ↦ inr apart ]
is_or_not (Radio b) Control = inr refl
is_or_not Control (Radio c) = inr refl
is_or_not Control Control = inl refl

itself : (r : Recipient) → is_same r r ≡ true
itself (Radio b) = tied bssid_total bssid_exact b
itself Control = refl

pub turned : (r q : Recipient) → is_same r q ≡ false → is_same q r ≡ false
turned r q apart = elim (is_or_not q r) [
  | inl same ↦ subst (λ (z : Recipient). is_same z r ≡ false) (sym same) (subst (λ (z : Recipient). is_same r z ≡ false) same apart)
  | inr ne ↦ ne
]

pub ready_none : (q : Recipient) (s : CoreState) → ready_for q (after_handing_out q s) ≡ []
ready_none q s = ap (map (λ (x : ℕ × Out). x.1)) (ap (up_to s.number) (queue_of-after_hand s.confs s.number q s.held) ∙ up_to_beyond s.number (queue_of s.confs s.held q))

module _ (q : Recipient) (s : CoreState) (core : IsCore s) where
  abbrev after : CoreState
  after = after_handing_out q s

  abbrev gives : Recipient → List Out
  gives r = cond (is_same r q) (ready_for q s) []

  given_own : (r : Recipient) → r ≡ q → gives r ≡ ready_for q s
  given_own r same = ap (λ t. cond t (ready_for q s) []) (ap (λ (z : Recipient). is_same z q) same ∙ itself q)

  given_none : (r : Recipient) → is_same r q ≡ false → gives r ≡ []
  given_none r apart = ap (λ t. cond t (ready_for q s) []) apart

  hand_outs : (r : Recipient) → gives r ++ held_for r after ≡ held_for r s ++ []
  hand_outs r = elim (is_or_not r q) [
    | inl same ↦
        (ap (λ os. os ++ held_for r after) (given_own r same)
        ∙ ap (λ (z : Recipient). ready_for q s ++ held_for z after) same ∙ hand_held s q core ∙ ap (λ (z : Recipient). held_for z s) (sym same) ∙ sym (append-nil (held_for r s)))
    | inr apart ↦ (ap (λ os. os ++ held_for r after) (given_none r apart) ∙ hand_others s q r (turned r q apart) ∙ sym (append-nil (held_for r s)))
  ]

  other_queue : (r : Recipient) → is_same r q ≡ false → queue_of s.confs after.held r ≡ queue_of s.confs s.held r
  other_queue r apart = queue_of-after_hand_other s.confs s.number q r s.held (turned r q apart)

  hand_released : (r : Recipient) → gives r ++ ready_for r after ≡ ready_for r s ++ []
  hand_released r = elim (is_or_not r q) [
    | inl same ↦
        (ap (λ os. os ++ ready_for r after) (given_own r same)
        ∙ ap (λ (z : Recipient). ready_for q s ++ ready_for z after) same ∙ ap (λ os. ready_for q s ++ os) (ready_none q s) ∙ ap (λ (z : Recipient). ready_for z s ++ []) (sym same))
    | inr apart ↦
        (ap (λ os. os ++ ready_for r after) (given_none r apart) ∙ ap (λ p. map (λ (x : ℕ × Out). x.1) (up_to s.number p)) (other_queue r apart) ∙ sym (append-nil (ready_for r s)))
  ]

  pub goes_handed : Goes [] gives s after
  goes_handed = record {
    confs = refl;
    fit = tt;
    front = refl;
    outs = hand_outs;
    last = no_further (last_of s);
    settles = λ hs u. nothing_settles hs gives s after refl refl u (handed_outs s q core hs) hand_released;
  }

-- ---- one after the other
then_split : (hs es fs settled left more rest : List Happening) → hs ++ es ≡ settled ++ left → left ++ fs ≡ more ++ rest → hs ++ (es ++ fs) ≡ (settled ++ more) ++ rest
then_split hs es fs settled left more rest first second =
    sym (append_assoc hs es fs) ∙ ap (λ xs. xs ++ fs) first ∙ append_assoc settled left fs ∙ ap (λ xs. settled ++ xs) second ∙ sym (append_assoc settled more rest)

then_outs : {A : Type 0} (g h held_new held_mid held_old one two whole : List A) → g ++ held_mid ≡ held_old ++ one → h ++ held_new ≡ held_mid ++ two → whole ≡ one ++ two → (g ++ h) ++ held_new ≡ held_old ++ whole
then_outs g h held_new held_mid held_old one two whole first second both =
    append_assoc g h held_new ∙ ap (λ os. g ++ os) second ∙ sym (append_assoc g held_mid two) ∙ ap (λ os. os ++ two) first ∙ append_assoc held_old one two ∙ ap (λ os. held_old ++ os) (sym both)

module _ (es fs : List Happening) (g h : Recipient → List Out) (a b c : CoreState) (past : Goes es g a b) (step : Goes fs h b c) where
  abbrev both_given : Recipient → List Out
  both_given r = g r ++ h r

  then_settles : (hs : List Happening) → AreUnsettled hs a → Settles hs (es ++ fs) both_given a c
  then_settles hs u =
      let first = past.settles hs u in
      let second = step.settles first.left first.decided in
      let lengths = length-append first.settled second.settled in
      record {
        settled = first.settled ++ second.settled;
        left = second.left;
        split = then_split hs es fs first.settled first.left second.settled second.left first.split second.split;
        state = second.state ∙ (λ i. run (first.state i) (past.confs i) second.settled) ∙ sym (run-append a.confs first.settled second.settled a.settled);
        number = second.number ∙ ap (λ n. n + length second.settled) first.number ∙ omega (arith, lengths);
        decided = second.decided;
        held = λ r held. second.held r (first.held r held);
        released = λ r held. then_outs (g r) (h r) (ready_for r c) (ready_for r b) (ready_for r a) (outs_run r a.settled a.confs first.settled) (outs_run r b.settled b.confs second.settled)
            (outs_run r a.settled a.confs (first.settled ++ second.settled)) (first.released r held) (second.released r (first.held r held))
            (outs_run-append r a.confs first.settled second.settled a.settled ∙ ap (λ os. outs_run r a.settled a.confs first.settled ++ os) (λ i. outs_run r (sym first.state i) (sym past.confs i) second.settled));
      }

  pub goes_then : Goes (es ++ fs) both_given a c
  goes_then =
      let lengths = length-append es fs in
      record {
        confs = step.confs ∙ past.confs;
        fit = fit-append a.confs es fs (front_of a) past.fit (subst (λ cs. AreFit (run (front_of a) a.confs es) cs fs) past.confs (subst (λ (t : State). AreFit t b.confs fs) past.front step.fit));
        front = step.front ∙ (λ i. run (past.front i) (past.confs i) fs) ∙ sym (run-append a.confs es fs (front_of a));
        outs = λ r. then_outs (g r) (h r) (held_for r c) (held_for r b) (held_for r a) (outs_run r (front_of a) a.confs es) (outs_run r (front_of b) b.confs fs)
            (outs_run r (front_of a) a.confs (es ++ fs)) (past.outs r) (step.outs r)
            (outs_run-append r a.confs es fs (front_of a) ∙ ap (λ os. outs_run r (front_of a) a.confs es ++ os) (λ i. outs_run r (sym past.front i) (sym past.confs i) fs));
        last = step.last ∙ ap (λ n. n + length fs) past.last ∙ omega (arith, lengths);
        settles = then_settles;
      }

pub quiet_then : (a b c : CoreState) → GoesQuietly a b → GoesQuietly b c → GoesQuietly a c
quiet_then a b c past step = record { goes = goes_then [] [] (λ r. []) (λ r. []) a b c past.goes step.goes; heard = step.heard ∙ past.heard }
