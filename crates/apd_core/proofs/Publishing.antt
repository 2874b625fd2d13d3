-- Which batch is in flight, and what a core's fields keep once it is settled.
use Rattle.std.proofs.Common.{◌≡◌, ℕ, zero, suc, ◌+◌, ◌≤◌, Bool, true, List, [], ◌∷◌, take, drop, Decides, sym, ap, subst, ◌∙◌, arith}
use Rattle.apd_core.proofs.Words.{AllByRecursion, CoreState, Entry, Inside, IsFlight, IsKept, IsMeasured, after_all_settled, after_publish, changes_of, core_of, drop-map, entries_of, last_of, length-drop, meaning_of}
use Rattle.apd_journal.specs.declared.batch.Batch.{Batch}
use Rattle.apd_core.proofs.Kept.{kept_from}
use Rattle.apd_core.proofs.Settling.{published_core, published_front}

pub in_flight : (c : Inside) (s : CoreState) (b : Batch) (r : Bool) → core_of c ≡ s → IsKept c → 1 ≤ c.flight → b.first ≡ c.number + 1 → b.last ≡ c.number + c.flight → Decides r (b.changes ≡ c.batch)
    → (r ≡ true → IsFlight b s) × (IsFlight b s → r ≡ true)
in_flight c s b r view kept some first last changes =
    let here : (r ≡ true → IsFlight b (core_of c)) × (IsFlight b (core_of c) → r ≡ true) = (
      λ e. (some, λ i. record { first = first i; last = last i; changes = (changes.0 e ∙ kept.batch_is) i }),
      λ f. changes.1 (ap (λ (x : Batch). x.changes) f.1 ∙ sym kept.batch_is),
    ) in
    subst (λ (t : CoreState). (r ≡ true → IsFlight b t) × (IsFlight b t → r ≡ true)) view here

measured_drop : (n : ℕ) (es : List Entry) → AllByRecursion IsMeasured es → AllByRecursion IsMeasured (drop n es)
measured_drop zero es all = all
measured_drop (suc n) [] all = tt
measured_drop (suc n) (x ∷ es) all = measured_drop n es all.1

module _ (c d : Inside) (kept : IsKept c)
    (confs : d.confs ≡ c.confs) (settled : d.settled.table ≡ meaning_of c.batch c.settled.table) (number : d.number ≡ c.number + c.flight)
    (items : d.unsettled.items ≡ drop c.flight c.unsettled.items) (flight : d.flight ≡ 0) (held : d.held ≡ after_all_settled c.number c.flight c.held)
    (heard : d.heard ≡ c.heard) (failed : d.failed ≡ c.failed) where
  pub published_view : core_of d ≡ after_publish (core_of c)
  published_view = λ i. record {
    confs = confs i;
    settled = (settled ∙ ap (λ cs. meaning_of cs c.settled.table) kept.batch_is) i;
    number = number i;
    unsettled = (ap entries_of items ∙ sym (drop-map (λ (e : Entry). e.changes) c.flight c.unsettled.items)) i;
    flight = flight i;
    held = held i;
    heard = heard i;
    failed = failed i;
  }

  pub published_kept : d.front ≡ c.front → d.last ≡ c.last → d.batch ≡ [] → IsKept d
  published_kept front last batch =
      let s = core_of c in
      let fly = kept.core.in_flight in
      let fewer = length-drop c.flight (entries_of c.unsettled.items) in
      let same_last : last_of s ≡ last_of (after_publish s) = omega (arith, fly, fewer) in
      kept_from d (after_publish s) published_view (published_core s kept.core)
      (front ∙ kept.front_is ∙ sym (published_front s kept.core))
      (last ∙ kept.last_is ∙ same_last)
      (batch ∙ ap (λ n. changes_of (take n (entries_of d.unsettled.items))) (sym flight))
      (subst (AllByRecursion IsMeasured) (sym items) (measured_drop c.flight c.unsettled.items kept.measured))
