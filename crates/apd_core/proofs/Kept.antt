-- A core's fields keep what they should.
use Rattle.std.proofs.Common.{◌≡◌, ℕ, ◌+◌, ◌<◌, ◌≤◌, ◌^◌, false, List, [], ◌∷◌, ◌++◌, length, take, IsSome, Result, Ok, Err, OnOk, OnErr, refl, sym, ap, subst, ◌∙◌, arith}
use Rattle.std.specs.Prelude.{min, ◌-◌}
use Rattle.apd_core.proofs.Words.{AllByRecursion, AreChanges, AreConfs, AreMomentsOf, Conf, CoreState, Entry, Happening, HeldOuts, Inside, IsCore, IsFit, IsKept, IsMeasured, Moment, Out, Recipient, Sound, State, after_hand, after_handing_out, changes_of, core_of, entries_of, front_of, heard_by_changes, is_busy, last_of, map-append, meaning_of, new_core, no_outs, records_of, take-append-le, verdict, verdict_there, with_entry, with_outs, with_sender, without}
use Rattle.std.specs.FinMap as maps
use Rattle.apd_mlme.specs.declared.decision.TheConstants.{MAX_RECORD_BYTES}
use Rattle.apd_core.proofs.HeldLemmas.{last_kept, without-with_outs}
use Rattle.apd_core.proofs.Keeping.{entry_core, new_is_core, sender_core, meaning-push, one_more}
use Rattle.apd_core.proofs.Settling.{handed_core}

pub kept_from : (c : Inside) (s : CoreState) → core_of c ≡ s → IsCore s → c.front ≡ front_of s → c.last ≡ last_of s
    → c.batch ≡ changes_of (take c.flight (entries_of c.unsettled.items)) → AllByRecursion IsMeasured c.unsettled.items → IsKept c
kept_from c s view core front last batch measured =
    record { core = subst IsCore (sym view) core; front_is = front ∙ ap front_of (sym view); last_is = last ∙ ap last_of (sym view); batch_is = batch; measured = measured }

-- exactly the rows of the table after all entries have moments
pub front_moments : (c : Inside) → IsKept c → AreMomentsOf c.front c.heard
front_moments c kept = subst (λ (t : State). AreMomentsOf t c.heard) (sym kept.front_is) kept.core.moments

-- the number of an entry more is above those of all that are kept
pub later_than : (c : Inside) → IsKept c → (k : ℕ) → IsSome (maps.get c.held.left k) → k < c.last + 1
later_than c kept k is = let l = kept.core.kept_given k is in let last = kept.last_is in omega (arith, l, last)

measured_push : (xs : List Entry) (x : Entry) → AllByRecursion IsMeasured xs → IsMeasured x → AllByRecursion IsMeasured (xs ++ x ∷ [])
measured_push [] x all one = (one, tt)
measured_push (y ∷ xs) x all one = (all.0, measured_push xs x all.1 one)

-- ---- an entry more
module _ (c d : Inside) (m : Moment) (h : Happening) (x : Entry) (kept : IsKept c)
    (confs : d.confs ≡ c.confs) (settled : d.settled.table ≡ c.settled.table) (number : d.number ≡ c.number) (flight : d.flight ≡ c.flight) (failed : d.failed ≡ c.failed)
    (items : d.unsettled.items ≡ c.unsettled.items ++ x ∷ [])
    (changes : x.changes ≡ (verdict (front_of (core_of c)) c.confs h).changes)
    (held : d.held ≡ with_outs c.confs (c.last + 1) (verdict (front_of (core_of c)) c.confs h).outs c.held)
    (heard : d.heard ≡ heard_by_changes m x.changes c.heard) where
  abbrev more : CoreState
  more = with_entry (core_of c) m h

  entries_more : entries_of d.unsettled.items ≡ entries_of c.unsettled.items ++ (verdict (front_of (core_of c)) c.confs h).changes ∷ []
  entries_more = ap entries_of items ∙ map-append (λ (e : Entry). e.changes) c.unsettled.items (x ∷ []) ∙ ap (λ cs. entries_of c.unsettled.items ++ cs ∷ []) changes

  pub entered_view : core_of d ≡ more
  entered_view = λ i. record {
    confs = confs i;
    settled = settled i;
    number = number i;
    unsettled = entries_more i;
    flight = flight i;
    held = (held ∙ ap (λ n. with_outs c.confs (n + 1) (verdict (front_of (core_of c)) c.confs h).outs c.held) kept.last_is) i;
    heard = (heard ∙ ap (λ cs. heard_by_changes m cs c.heard) changes) i;
    failed = failed i;
  }

  pub entered_kept : d.front ≡ meaning_of x.changes c.front → d.last ≡ c.last + 1 → d.batch ≡ c.batch → IsMeasured x
      → IsFit (front_of (core_of c)) c.confs h → is_busy (core_of c) ≡ false → last_of (core_of c) + 1 < 2 ^ 64 → IsKept d
  entered_kept front last batch measured fit free room =
      let s = core_of c in
      let there = verdict_there (front_of s) c.confs h in
      let fly = kept.core.in_flight in
      let longer = one_more s m h kept.core there free in
      let was = kept.last_is in
      let same_take : take d.flight (entries_of d.unsettled.items) ≡ take c.flight (entries_of c.unsettled.items) =
      (λ i. take (flight i) (entries_more i)) ∙ take-append-le c.flight (entries_of c.unsettled.items) _ fly in
      kept_from d more entered_view (entry_core s m h kept.core there free fit room)
      (front ∙ (λ i. meaning_of (changes i) (kept.front_is i)) ∙ sym (meaning-push s.unsettled (verdict (front_of s) s.confs h).changes s.settled))
      (last ∙ omega (arith, was, longer))
      (batch ∙ kept.batch_is ∙ ap changes_of (sym same_take))
      (subst (AllByRecursion IsMeasured) (sym items) (measured_push c.unsettled.items x kept.measured measured))

-- ---- the same fields, and other moments or outs
pub same_view : (c d : Inside) → d.confs ≡ c.confs → d.settled.table ≡ c.settled.table → d.number ≡ c.number → d.unsettled.items ≡ c.unsettled.items → d.flight ≡ c.flight
    → d.held ≡ c.held → d.heard ≡ c.heard → d.failed ≡ c.failed → core_of d ≡ core_of c
same_view c d confs settled number items flight held heard failed = λ i. record {
  confs = confs i;
  settled = settled i;
  number = number i;
  unsettled = entries_of (items i);
  flight = flight i;
  held = held i;
  heard = heard i;
  failed = failed i;
}

pub same_kept : (c d : Inside) → IsKept c → core_of d ≡ core_of c → d.front ≡ c.front → d.last ≡ c.last → d.batch ≡ c.batch → d.unsettled.items ≡ c.unsettled.items → d.flight ≡ c.flight → IsKept d
same_kept c d kept view front last batch items flight =
    kept_from d (core_of c) view kept.core (front ∙ kept.front_is) (last ∙ kept.last_is)
    (batch ∙ kept.batch_is ∙ (λ i. changes_of (take (sym flight i) (entries_of (sym items i)))))
    (subst (AllByRecursion IsMeasured) (sym items) kept.measured)

-- a sender was heard
pub sender_kept : (c d : Inside) (m : Moment) (h : Happening) → IsKept c → core_of d ≡ with_sender m h (core_of c) → d.front ≡ c.front → d.last ≡ c.last → d.batch ≡ c.batch → d.unsettled.items ≡ c.unsettled.items → d.flight ≡ c.flight → IsKept d
sender_kept c d m h kept view front last batch items flight =
    kept_from d (with_sender m h (core_of c)) view (sender_core (core_of c) m h kept.core) (front ∙ kept.front_is) (last ∙ kept.last_is)
    (batch ∙ kept.batch_is ∙ (λ i. changes_of (take (sym flight i) (entries_of (sym items i)))))
    (subst (AllByRecursion IsMeasured) (sym items) kept.measured)

-- outs are handed out, or memory was refused
pub handed_kept : {A E : Type 0} (c d : Inside) (to : Recipient) (r : Result A E) → IsKept c
    → OnOk r (d.held ≡ after_hand c.confs c.number to c.held) → OnErr r (d.held ≡ c.held)
    → d ≡ record c { held = d.held } → IsKept d
handed_kept c d to (Ok v) kept ok err same =
    let e : d ≡ record c { held = after_hand c.confs c.number to c.held } = same ∙ ap (λ (hs : HeldOuts). record c { held = hs }) ok in
    subst IsKept (sym e)
    (kept_from _ (after_handing_out to (core_of c)) refl (handed_core (core_of c) to kept.core) kept.front_is kept.last_is kept.batch_is kept.measured)
handed_kept c d to (Err x) kept ok err same = subst IsKept (sym (same ∙ ap (λ (hs : HeldOuts). record c { held = hs }) err)) kept

-- ---- an entry is refused memory: its outs, that were kept already, are taken back
pub last_there : (c : Inside) → IsKept c → (outs : List (Recipient × Out)) (grown : HeldOuts) → grown ≡ with_outs c.confs (c.last + 1) outs c.held
    → (k : ℕ) → IsSome (maps.get grown.left k) → k ≤ c.last + 1
last_there c kept outs grown keeping k is =
    last_kept c.confs (c.last + 1) outs c.held (later_than c kept) k (subst (λ (hs : HeldOuts). IsSome (maps.get hs.left k)) keeping is)

module _ (c d : Inside) (kept : IsKept c) (outs : List (Recipient × Out)) (grown : HeldOuts)
    (keeping : grown ≡ with_outs c.confs (c.last + 1) outs c.held) (back : d.held ≡ without (c.last + 1) grown)
    (confs : d.confs ≡ c.confs) (settled : d.settled.table ≡ c.settled.table) (number : d.number ≡ c.number) (items : d.unsettled.items ≡ c.unsettled.items) (flight : d.flight ≡ c.flight)
    (heard : d.heard ≡ c.heard) (failed : d.failed ≡ c.failed) where
  pub refused_view : core_of d ≡ core_of c
  refused_view =
      same_view c d confs settled number items flight
      (back ∙ ap (without (c.last + 1)) keeping ∙ without-with_outs c.confs (c.last + 1) outs c.held kept.core.held (later_than c kept))
      heard failed

  pub refused_kept : d.front ≡ c.front → d.last ≡ c.last → d.batch ≡ c.batch → IsKept d
  refused_kept front last batch = same_kept c d kept refused_view front last batch items flight

-- ---- a new core
pub new_kept : (c : Inside) (table : State) (confs : List Conf) → c.confs ≡ confs → c.settled.table ≡ table → c.number ≡ 0 → c.unsettled.items ≡ [] → c.flight ≡ 0
    → c.held ≡ no_outs confs → c.failed ≡ false → c.front ≡ table → c.last ≡ 0 → c.batch ≡ [] → AreConfs confs → Sound table → AreMomentsOf table c.heard → IsKept c
new_kept c table confs is_confs settled number items flight held failed front last batch are sound moments =
    let view : core_of c ≡ new_core table confs c.heard =
    (λ i. record { confs = is_confs i; settled = settled i; number = number i; unsettled = entries_of (items i); flight = flight i; held = held i; heard = c.heard; failed = failed i }) in
    kept_from c (new_core table confs c.heard) view (new_is_core table confs c.heard are sound moments) front last
    (batch ∙ sym (λ i. changes_of (take (flight i) (entries_of (items i)))))
    (subst (AllByRecursion IsMeasured) (sym items) tt)

-- ---- an entry is measured
pub measured_entry : (x : Entry) → AreChanges x.changes → x.length ≡ min (length (records_of x.changes)) (2 ^ 64 - 1) → length (records_of x.changes) ≤ MAX_RECORD_BYTES → IsMeasured x
measured_entry x are is few =
    let small : min (length (records_of x.changes)) (2 ^ 64 - 1) ≡ length (records_of x.changes) = omega arith in
    let same = is ∙ small in
    record { changes_are = are; length_is = same; short = omega (arith, same, few) }
