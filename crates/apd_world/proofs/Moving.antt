-- What a step of a world does at a BSSID's slot: which outs leave it, and which come to it.
use Rattle.std.proofs.Common.{◌≡◌, ◌<◌, ◌≤◌, Bool, true, false, cond, List, [], ◌∷◌, ◌++◌, length, Option, Some, None, Result, inl, inr, refl, sym, ap, subst, ◌∙◌, arith}
use Rattle.std.specs.Cmp.{eq_by_cmp_equiv}
use Rattle.std.specs.Ordering.{eq_by_cmp}
use Rattle.std.proofs.lemmas.List.{append-nil}
use Rattle.apd_world.proofs.Words.{Applied, Apply, AreExact, AreQueued, Bssid, Control, Hand, Handed, HasNoSlot, IsApplied, IsExact, Joins, NoMemory, Nothing, Out, Queued, Radio, RadioModel, RestStays, SameButRoom, Slot, SlotFault, SlotGoes, Step, Told, World, applied_outs, bssid_cmp, handed_outs, queue_if, queue_of, radio_of, slot_at, slot_in, slots_of, wanted_after_all, wanted_then}
use Rattle.apd_base.proofs.AddrLemmas.{bssid_total, bssid_exact}
use Rattle.apd_base.proofs.MapLemmas.{one_or_apart, tied}
use Rattle.apd_core.proofs.Queues.{all_set}
use Rattle.apd_slot.specs.Slots.{is_up_of, queue_of as slot_queue, wanted_of}
use Rattle.apd_world.proofs.SlotLemmas.{all_at, own_slot, other_slot}

-- ---- a slot
module _ {R : Type 0} where
  -- these outs left it, and these came to it
  pub record IsMoved (off on : List Out) (old new : Slot R) : Type 0 where
    pub queue : off ++ slot_queue new ≡ slot_queue old ++ on
    pub wanted : wanted_then new ≡ wanted_after_all on (wanted_then old)

  abbrev pub AreMoved : List Out → List Out → Option (Slot R) → Option (Slot R) → Type 0
  AreMoved off on None None = (off ≡ []) × (on ≡ [])
  AreMoved off on (Some old) (Some new) = IsMoved off on old new
  AreMoved off on old new = ⊥

  none_moved : (slot : Option (Slot R)) → AreMoved [] [] slot slot
  none_moved None = (refl, refl)
  none_moved (Some slot) = record { queue = sym (append-nil (slot_queue slot)); wanted = refl }

  pub moved_flows : (off on : List Out) (old new : Option (Slot R)) → AreMoved off on old new → off ++ queue_if new ≡ queue_if old ++ on
  moved_flows off on None None h = (λ i. h.0 i ++ []) ∙ sym h.1
  moved_flows off on (Some old) (Some new) h = h.queue
  moved_flows off on None (Some new) h = absurd h
  moved_flows off on (Some old) None h = absurd h

  moved_none : (off on : List Out) (old new : Option (Slot R)) → AreMoved off on old new → old ≡ None → new ≡ None
  moved_none off on None None h none = refl
  moved_none off on (Some old) (Some new) h none = cc
  moved_none off on None (Some new) h none = absurd h
  moved_none off on (Some old) None h none = absurd h

  pub moved_wants : (off on : List Out) (old new : Option (Slot R)) (now : Slot R) → AreMoved off on old new → new ≡ Some now
      → (was : Slot R) × (old ≡ Some was) × (wanted_then now ≡ wanted_after_all on (wanted_then was))
  moved_wants off on (Some old) (Some new) now h is =
      let same : new ≡ now = (cc) in
      (old, refl, ap wanted_then (sym same) ∙ h.wanted)
  moved_wants off on None None now h is = let none : ◌≡◌ {A = Option (Slot R)} None (Some now) = is in cc
  moved_wants off on None (Some new) now h is = absurd h
  moved_wants off on (Some old) None now h is = absurd h

  -- by each kind of step
  queued : (outs : List Out) (old new : Slot R) → AreQueued outs old new → IsMoved [] outs old new
  queued outs old new h = record { queue = h.queue; wanted = h.wanted_then }

  same_but_room : (old new : Slot R) → SameButRoom old new → IsMoved [] [] old new
  same_but_room old new h = record { queue = h.queue ∙ sym (append-nil (slot_queue old)); wanted = λ i. wanted_after_all (h.queue i) (h.wanted i) }

  one_applied : (radio : RadioModel R) (out : Out) (answer : Result (Unit {0}) SlotFault) (old new : Slot R) → IsApplied radio (Applied out answer) old new → IsMoved (out ∷ []) [] old new
  one_applied radio out answer old new h = record { queue = sym h.first.0 ∙ sym (append-nil (slot_queue old)); wanted = h.wanted_then }

  none_applied : (radio : RadioModel R) (old new : Slot R) → IsApplied radio NoMemory old new → IsMoved [] [] old new
  none_applied radio old new h = record { queue = h.first.queue ∙ sym (append-nil (slot_queue old)); wanted = h.wanted_then }

turned : (b c : Bssid) → eq_by_cmp bssid_cmp b c ≡ false → eq_by_cmp bssid_cmp c b ≡ false
turned b c apart = (eq_by_cmp_equiv bssid_total).symm c b ∙ apart

-- ---- a world
module _ {D R : Type 0} (radio : RadioModel R) (old new : World D R) where
  abbrev pub MovedAt : Bssid → List Out → List Out → Type 0
  MovedAt b off on = AreMoved off on (slot_at (slots_of old) b) (slot_at (slots_of new) b)

  pub rest_moved : (b : Bssid) → RestStays old new → MovedAt b [] []
  rest_moved b same = subst (λ slots. AreMoved [] [] (slot_at (slots_of old) b) (slot_at slots b)) (sym same) (none_moved (slot_at (slots_of old) b))

  pub goes_moved : (b c : Bssid) (So : Slot R → Slot R → Type 0) (off on : Bool → List Out) → off false ≡ [] → on false ≡ [] → ((was now : Slot R) → So was now → IsMoved (off true) (on true) was now)
      → SlotGoes c So old new → MovedAt b (off (eq_by_cmp bssid_cmp b c)) (on (eq_by_cmp bssid_cmp b c))
  goes_moved b c So off on no_off no_on so h = elim (one_or_apart bssid_total bssid_exact b c) [
    | inl one ↦
        let own : eq_by_cmp bssid_cmp b c ≡ true = subst (λ (z : Bssid). eq_by_cmp bssid_cmp b z ≡ true) one (tied bssid_total bssid_exact b) in
        let here : MovedAt c (off true) (on true) =
        subst (λ slot. AreMoved (off true) (on true) slot (slot_at (slots_of new) c)) (sym h.has_slot)
        (subst (AreMoved (off true) (on true) (Some h.slot)) (sym (own_slot c So old new h)) (so h.slot h.after h.goes)) in
        subst (λ t. MovedAt b (off t) (on t)) (sym own) (subst (λ (z : Bssid). MovedAt z (off true) (on true)) (sym one) here)
    | inr apart ↦
        let slot = slot_at (slots_of old) b in
        let still : AreMoved (off false) (on false) slot slot = subst (λ outs. AreMoved outs (on false) slot slot) (sym no_off) (subst (λ outs. AreMoved [] outs slot slot) (sym no_on) (none_moved slot)) in
        subst (λ t. MovedAt b (off t) (on t)) (sym apart) (subst (AreMoved (off false) (on false) slot) (sym (other_slot c So old new h b (turned b c apart))) still)
  ]

  pub moved : (b : Bssid) (step : Step) (inside told : Told) → Joins radio step inside told old new → MovedAt b (applied_outs b step told) (handed_outs (Radio b) step inside)
  moved b (Hand (Radio c)) (Handed outs) (Queued count) h = goes_moved b c (AreQueued outs) (λ t. []) (λ t. cond t outs []) refl refl (queued outs) h.1
  moved b (Hand (Radio c)) NoMemory NoMemory h = goes_moved b c SameButRoom (λ t. []) (λ t. []) refl refl same_but_room h
  moved b (Hand (Radio c)) Nothing Nothing h = rest_moved b h.1
  moved b (Hand (Radio c)) inside told h = absurd h
  moved b (Hand Control) (Handed outs) told h = rest_moved b h.1
  moved b (Hand Control) inside told h = rest_moved b h.1
  moved b (Apply c) Nothing Nothing h = rest_moved b h.1
  moved b (Apply c) Nothing (Applied out answer) h = goes_moved b c (IsApplied radio (Applied out answer)) (λ t. cond t (out ∷ []) []) (λ t. []) refl refl (one_applied radio out answer) h
  moved b (Apply c) Nothing NoMemory h = goes_moved b c (IsApplied radio NoMemory) (λ t. []) (λ t. []) refl refl (none_applied radio) h
  moved b (Apply c) Nothing told h = absurd h.goes.first
  moved b (Apply c) inside told h = absurd h
  moved b step inside told h = rest_moved b h.1

  pub flows : (b : Bssid) (step : Step) (inside told : Told) → Joins radio step inside told old new → applied_outs b step told ++ queue_of new b ≡ queue_of old b ++ handed_outs (Radio b) step inside
  flows b step inside told h =
      moved_flows (applied_outs b step told) (handed_outs (Radio b) step inside) (slot_at (slots_of old) b) (slot_at (slots_of new) b) (moved b step inside told h)

  -- one out less waits
  pub fewer : (b : Bssid) (inside told : Told) → Joins radio (Apply b) inside told old new → (told ≡ NoMemory → ⊥) → 1 ≤ length (queue_of old b) → length (queue_of new b) < length (queue_of old b)
  fewer b Nothing Nothing h ne some = let none = ap length h.0 in absurd (omega (arith, none, some))
  fewer b Nothing (Applied out answer) h ne some =
      let first : queue_of old b ≡ out ∷ queue_of new b =
      ap queue_if h.has_slot ∙ h.goes.first.0 ∙ ap (λ slot. out ∷ queue_if slot) (sym (own_slot b (IsApplied radio (Applied out answer)) old new h)) in
      let more = ap length first in
      omega (arith, more)
  fewer b Nothing NoMemory h ne some = absurd (ne refl)
  fewer b Nothing told h ne some = absurd h.goes.first
  fewer b inside told h ne some = absurd h

  -- without a slot it stays so
  pub no_slot : (b : Bssid) (step : Step) (inside told : Told) → Joins radio step inside told old new → HasNoSlot b old → HasNoSlot b new
  no_slot b step inside told h = moved_none (applied_outs b step told) (handed_outs (Radio b) step inside) (slot_at (slots_of old) b) (slot_at (slots_of new) b) (moved b step inside told h)

  -- the radio of each slot that is up has what is wanted
  pub rest_exact : RestStays old new → AreExact radio (slots_of old) → AreExact radio (slots_of new)
  rest_exact same = subst (AreExact radio) (sym same)

  same_exact : (was now : Slot R) → radio_of now ≡ radio_of was → wanted_of now ≡ wanted_of was → is_up_of now ≡ is_up_of was → IsExact radio was → IsExact radio now
  same_exact was now radios wanted up before is_up = ap radio.stations radios ∙ before (sym up ∙ is_up) ∙ sym wanted

  pub goes_exact : (c : Bssid) (So : Slot R → Slot R → Type 0) → ((was now : Slot R) → So was now → IsExact radio was → IsExact radio now) → SlotGoes c So old new
      → AreExact radio (slots_of old) → AreExact radio (slots_of new)
  goes_exact c So so h all =
      let was : IsExact radio h.slot = all_at (IsExact radio) (slots_of old) h.place h.slot (ap (slot_in (slots_of old)) (sym h.at) ∙ h.has_slot) all in
      subst (AreExact radio) (sym h.slots) (all_set (IsExact radio) (slots_of old) h.place h.after all (so h.slot h.after h.goes was))

  pub exact : (step : Step) (inside told : Told) → Joins radio step inside told old new → AreExact radio (slots_of old) → AreExact radio (slots_of new)
  exact (Hand (Radio c)) (Handed outs) (Queued count) h = goes_exact c (AreQueued outs) (λ was now q. same_exact was now q.same.radio q.same.wanted q.same.up) h.1
  exact (Hand (Radio c)) NoMemory NoMemory h = goes_exact c SameButRoom (λ was now q. same_exact was now q.radio q.wanted q.up) h
  exact (Hand (Radio c)) Nothing Nothing h = rest_exact h.1
  exact (Hand (Radio c)) inside told h = absurd h
  exact (Hand Control) inside told h = rest_exact h.1
  exact (Apply c) Nothing Nothing h = rest_exact h.1
  exact (Apply c) Nothing (Applied out answer) h = goes_exact c (IsApplied radio (Applied out answer)) (λ was now q. q.first.2.exact) h
  exact (Apply c) Nothing NoMemory h = goes_exact c (IsApplied radio NoMemory) (λ was now q. q.first.given.exact) h
  exact (Apply c) Nothing told h = absurd h.goes.first
  exact (Apply c) inside told h = absurd h
  exact step inside told h = rest_exact h.1
