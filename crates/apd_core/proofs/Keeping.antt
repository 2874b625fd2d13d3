-- What every core is, each call keeps.
use Rattle.std.proofs.Common.{◌≡◌, ◌≢◌, ℕ, suc, ◌+◌, ◌<◌, ◌≤◌, ◌^◌, false, cond, List, [], ◌∷◌, ◌++◌, length, Option, Some, None, IsSome, is_some, inl, inr, refl, sym, ap, subst, ◌∙◌, arith, append_assoc, length-append}
use Rattle.std.specs.Prelude.{map, nat_le}
use Rattle.apd_core.proofs.Words.{AreConfs, AreDecided, AreMomentsOf, Change, Conf, CoreState, Happening, IsCore, IsFit, LastHeard, Moment, Out, Queue, Recipient, RecipientsAreThere, Sound, State, Unsettled, append-nil, cases_eq, changes_of, filter-append, front_of, is_busy, kept_count, last_of, leb-false, lt-leb, meaning_in, meaning_of, meaning_of-append, nat_cmp, nat_cmp-IsAntisymmetric, nat_cmp_total, new_core, numbered_outs, outs_to, queue_of, run, up_to, verdict, with_entry, with_sender}
use Rattle.std.specs.FinMap as maps
use Rattle.apd_base.specs.declared.limits.TheConstants.{MAX_KEPT}
use Rattle.apd_base.proofs.MapLemmas as at
use Rattle.apd_core.proofs.Hearing.{after_changes, after_sender}
use Rattle.apd_core.proofs.Places.{some_is}
use Rattle.apd_core.proofs.HeldLemmas.{held_none, length-no_queues, queue_of-no_outs, length-queues_with_outs, queue_of-with_outs, last_kept, held_with_outs}

-- ---- entries one after another
pub changes_of-append : (xs ys : List (List Change)) → changes_of (xs ++ ys) ≡ changes_of xs ++ changes_of ys
changes_of-append [] ys = refl
changes_of-append (x ∷ xs) ys = ap (λ cs. x ++ cs) (changes_of-append xs ys) ∙ sym (append_assoc x (changes_of xs) (changes_of ys))

pub changes_of-push : (xs : List (List Change)) (x : List Change) → changes_of (xs ++ x ∷ []) ≡ changes_of xs ++ x
changes_of-push xs x = changes_of-append xs (x ∷ []) ∙ ap (λ cs. changes_of xs ++ cs) (append-nil x)

-- the state after an entry more
pub meaning-push : (xs : List (List Change)) (x : List Change) (s : State) → meaning_of (changes_of (xs ++ x ∷ [])) s ≡ meaning_of x (meaning_of (changes_of xs) s)
meaning-push xs x s = ap (λ cs. meaning_of cs s) (changes_of-push xs x) ∙ meaning_of-append (changes_of xs) x s

module _ (confs : List Conf) where
  pub run-push : (hs : List Happening) (s : State) (h : Happening) → run s confs (hs ++ h ∷ []) ≡ (verdict (run s confs hs) confs h).state
  run-push [] s h = refl
  run-push (x ∷ hs) s h = run-push hs (verdict s confs x).state h

  -- the changes of decided entries lead where what happened leads
  pub decided_means : (hs : List Happening) (entries : List (List Change)) (s : State) → AreDecided confs s hs entries → meaning_of (changes_of entries) s ≡ run s confs hs
  decided_means [] [] s d = refl
  decided_means [] (x ∷ entries) s d = absurd d
  decided_means (h ∷ hs) [] s d = absurd d
  decided_means (h ∷ hs) (x ∷ entries) s d =
      meaning_of-append x (changes_of entries) s
      ∙ ap (λ t. meaning_of (changes_of entries) t) (ap (λ cs. meaning_of cs s) d.1 ∙ meaning_in s confs h)
      ∙ decided_means hs entries (verdict s confs h).state d.2

  pub decided_length : (hs : List Happening) (entries : List (List Change)) (s : State) → AreDecided confs s hs entries → length hs ≡ length entries
  decided_length [] [] s d = refl
  decided_length [] (x ∷ entries) s d = absurd d
  decided_length (h ∷ hs) [] s d = absurd d
  decided_length (h ∷ hs) (x ∷ entries) s d = ap suc (decided_length hs entries (verdict s confs h).state d.2)

  pub decided_push : (hs : List Happening) (entries : List (List Change)) (s : State) (h : Happening) → AreDecided confs s hs entries → IsFit (run s confs hs) confs h
      → AreDecided confs s (hs ++ h ∷ []) (entries ++ (verdict (run s confs hs) confs h).changes ∷ [])
  decided_push [] [] s h d fit = (fit, refl, tt)
  decided_push [] (x ∷ entries) s h d fit = absurd d
  decided_push (y ∷ hs) [] s h d fit = absurd d
  decided_push (y ∷ hs) (x ∷ entries) s h d fit = (d.0, d.1, decided_push hs entries (verdict s confs y).state h d.2 fit)

  pub numbered_push : (r : Recipient) (hs : List Happening) (n : ℕ) (s : State) (h : Happening)
      → numbered_outs r confs n s (hs ++ h ∷ []) ≡ numbered_outs r confs n s hs ++ map (λ out. (n + length hs + 1, out)) (outs_to r (verdict (run s confs hs) confs h).outs)
  numbered_push r [] n s h = let one : n + 1 ≡ n + 0 + 1 = omega arith in append-nil _ ∙ ap (λ k. map (λ (out : Out). (k, out)) (outs_to r (verdict s confs h).outs)) one
  numbered_push r (x ∷ hs) n s h =
      let next : (n + 1) + length hs + 1 ≡ n + length (x ∷ hs) + 1 = omega arith in
      let t = (verdict s confs x).state in
      ap (λ q. map (λ (out : Out). (n + 1, out)) (outs_to r (verdict s confs x).outs) ++ q)
      (numbered_push r hs (n + 1) t h ∙ ap (λ k. numbered_outs r confs (n + 1) t hs ++ map (λ (out : Out). (k, out)) (outs_to r (verdict (run t confs hs) confs h).outs)) next)
      ∙ sym (append_assoc (map (λ (out : Out). (n + 1, out)) (outs_to r (verdict s confs x).outs)) (numbered_outs r confs (n + 1) t hs) _)

-- what is numbered above a number is none of those up to it
pub none_up_to : (n k : ℕ) (outs : List Out) → n < k → up_to n (map (λ out. (k, out)) outs) ≡ []
none_up_to n k [] h = refl
none_up_to n k (out ∷ outs) h = ap (λ b. cond b ((k, out) ∷ up_to n (map (λ (o : Out). (k, o)) outs)) (up_to n (map (λ (o : Out). (k, o)) outs))) (lt-leb k n h) ∙ none_up_to n k outs h

pub up_to-append : (n : ℕ) (p q : Queue) → up_to n (p ++ q) ≡ up_to n p ++ up_to n q
up_to-append n p q = filter-append (λ x. nat_le x.0 n) p q

pub front_runs : (s : CoreState) → (u : Unsettled s) → front_of s ≡ run s.settled s.confs u.happened
front_runs s u = decided_means s.confs u.happened s.unsettled s.settled u.decided

some_same : {A : Type 0} (o p : Option A) → o ≡ p → IsSome o → IsSome p
some_same o p e h = subst IsSome e h

not_some : {A : Type 0} (o : Option A) → (IsSome o → ⊥) → is_some o ≡ false
not_some None h = refl
not_some (Some x) h = absurd (h refl)

-- ---- an entry more
module _ (s : CoreState) (m : Moment) (h : Happening) (core : IsCore s) (there : RecipientsAreThere s.confs (verdict (front_of s) s.confs h).outs) (free : is_busy s ≡ false) where
  abbrev more : CoreState
  more = with_entry s m h

  abbrev number : ℕ
  number = last_of s + 1

  later : (k : ℕ) → IsSome (maps.get s.held.left k) → k < number
  later k kept = let l = core.kept_given k kept in omega arith

  pub one_more : length more.unsettled ≡ length s.unsettled + 1
  one_more = length-append s.unsettled ((verdict (front_of s) s.confs h).changes ∷ [])

  last_more : last_of more ≡ number
  last_more = omega (arith, one_more)

  entered : IsFit (front_of s) s.confs h → Unsettled more
  entered fit =
      let u = core.unsettled in
      let f : front_of s ≡ run s.settled s.confs u.happened = front_runs s u in
      let v = λ (t : State). (verdict t s.confs h).changes in
      let count = decided_length s.confs u.happened s.unsettled s.settled u.decided in
      record {
        happened = u.happened ++ h ∷ [];
        decided = subst (λ (t : State). AreDecided s.confs s.settled (u.happened ++ h ∷ []) (s.unsettled ++ v t ∷ [])) (sym f)
            (decided_push s.confs u.happened s.unsettled s.settled h u.decided (subst (λ (t : State). IsFit t s.confs h) f fit));
        outs = λ r.
            let q = queue_of s.confs s.held r in
            let os = outs_to r (verdict (front_of s) s.confs h).outs in
            let own : Queue = map (λ (out : Out). (number, out)) os in
            let above : s.number < number = omega arith in
            let longer : queue_of s.confs more.held r ≡ q ++ own = queue_of-with_outs s.confs number _ s.held r there core.queues in
            let same : up_to s.number (queue_of s.confs more.held r) ≡ up_to s.number q =
            ap (up_to s.number) longer ∙ up_to-append s.number q own ∙ ap (λ p. up_to s.number q ++ p) (none_up_to s.number number os above) ∙ append-nil _ in
            let here : s.number + length u.happened + 1 ≡ number = omega (arith, count) in
            let tail : own ≡ map (λ (out : Out). (s.number + length u.happened + 1, out)) (outs_to r (verdict (run s.settled s.confs u.happened) s.confs h).outs) =
            (λ i. map (λ (out : Out). (sym here i, out)) (outs_to r (verdict (f i) s.confs h).outs)) in
            longer
            ∙ ap (λ p. p ++ own) (u.outs r)
            ∙ append_assoc (up_to s.number q) (numbered_outs r s.confs s.number s.settled u.happened) own
            ∙ ap (λ p. up_to s.number q ++ p) (ap (λ p. numbered_outs r s.confs s.number s.settled u.happened ++ p) tail ∙ sym (numbered_push s.confs r u.happened s.number s.settled h))
            ∙ ap (λ p. p ++ numbered_outs r s.confs s.number s.settled (u.happened ++ h ∷ [])) (sym same);
      }

  others : (k : ℕ) → k ≢ number → maps.get more.held.left k ≡ maps.get s.held.left k
  others k ne = at.get_insert_other nat_cmp_total nat_cmp-IsAntisymmetric s.held.left number _ k (at.apart nat_cmp_total nat_cmp-IsAntisymmetric k number ne)

  own_kept : IsSome (maps.get more.held.left number)
  own_kept = some_same _ _ (sym (at.get_inserted nat_cmp_total nat_cmp-IsAntisymmetric s.held.left number _)) refl

  few_kept : kept_count more ≤ MAX_KEPT
  few_kept =
      let absent : maps.contains_key s.held.left number ≡ false = not_some _ (λ is. let l = later number is in absurd (omega arith)) in
      let size : kept_count more ≡ kept_count s + 1 = maps.len-insert nat_cmp_total s.held.left number _ ∙ ap (λ b. cond b (kept_count s) (kept_count s + 1)) absent in
      let room : kept_count s < MAX_KEPT = leb-false MAX_KEPT (kept_count s) free in
      omega arith

  pub entry_core : IsFit (front_of s) s.confs h → last_of s + 1 < 2 ^ 64 → IsCore more
  entry_core fit room =
      let v = verdict (front_of s) s.confs h in
      let fly = core.in_flight in
      let held = held_with_outs s.confs number v.outs s.held core.held there core.queues later in
      record {
        confs = core.confs;
        sound = core.sound;
        unsettled = entered fit;
        in_flight = omega (arith, one_more);
        numbers = omega (arith, last_more);
        moments = subst (λ (t : State). AreMomentsOf t more.heard) (sym (meaning-push s.unsettled v.changes s.settled)) (after_changes m v.changes (front_of s) s.heard core.moments);
        queues = length-queues_with_outs s.confs number v.outs s.held.queues ∙ core.queues;
        held = held;
        kept_unsettled = λ k above below.
            elim (cases_eq k number) [
              | inl is ↦ subst (λ (z : ℕ). IsSome (maps.get more.held.left z)) (sym is) own_kept
              | inr ne ↦ some_same _ _ (sym (others k ne)) (core.kept_unsettled k above (omega (arith, last_more, below, ne)))
            ];
        kept_settled = λ k is below.
            let ne : k ≢ number = λ e. absurd (omega (arith, e, below)) in
            let old = some_is (maps.get s.held.left k) (some_same _ _ (others k ne) is) in
            let some = core.kept_settled k (some_same _ _ (others k ne) is) below in
            let count = core.held.counted k old.0 old.1 in
            let again = held.counted k old.0 (others k ne ∙ old.1) in
            omega (arith, some, count, again);
        kept_given = λ k is. let l = last_kept s.confs number v.outs s.held later k is in omega (arith, last_more, l);
        few = few_kept;
        given = core.given;
      }

-- ---- a sender more was heard, and no entry yet
pub sender_core : (s : CoreState) (m : Moment) (h : Happening) → IsCore s → IsCore (with_sender m h s)
sender_core s m h core = record {
  confs = core.confs;
  sound = core.sound;
  unsettled = record { happened = core.unsettled.happened; decided = core.unsettled.decided; outs = core.unsettled.outs };
  in_flight = core.in_flight;
  numbers = core.numbers;
  moments = after_sender m h (front_of s) s.heard core.moments;
  queues = core.queues;
  held = core.held;
  kept_unsettled = core.kept_unsettled;
  kept_settled = core.kept_settled;
  kept_given = core.kept_given;
  few = core.few;
  given = core.given;
}

absent : (o : Option ℕ) → o ≡ None → IsSome o → ⊥
absent None e is = cc
absent (Some x) e is = cc

none_kept : {A : Type 0} (k : ℕ) → IsSome (maps.get (maps.empty {K = ℕ} {X = ℕ} {R = nat_cmp}) k) → A
none_kept k is = absurd (absent _ (maps.get-empty nat_cmp k) is)

pub new_is_core : (table : State) (confs : List Conf) (heard : LastHeard) → AreConfs confs → Sound table → AreMomentsOf table heard → IsCore (new_core table confs heard)
new_is_core table confs heard are sound moments = record {
  confs = are;
  sound = sound;
  unsettled = record { happened = []; decided = tt; outs = λ r. let none = queue_of-no_outs confs r in none ∙ sym (ap (λ q. up_to 0 q ++ []) none) };
  in_flight = omega arith;
  numbers = omega arith;
  moments = moments;
  queues = length-no_queues confs;
  held = held_none confs;
  kept_unsettled = λ k above below. absurd (omega (arith, above, below));
  kept_settled = λ k is below. none_kept k is;
  kept_given = λ k is. none_kept k is;
  few = let l = maps.len-empty nat_cmp ℕ in omega (arith, l);
  given = omega arith;
}
