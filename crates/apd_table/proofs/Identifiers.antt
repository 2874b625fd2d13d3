-- What marks on a BSSID's identifiers, as the places of words are, say of the state.
use Rattle.std.proofs.Common.{◌≡◌, ℕ, ◌<◌, ◌↔◌, Bool, Option, Some, None, ◌⊎◌, inl, inr, IsTrue, IfSome, IfNone, sym, ap, subst, ◌∙◌, arith}
use Rattle.apd_table.proofs.Words.{Addr, AreMarkedAbove, AreTakenAbove, Bssid, IsLeastFreeAbove, IsLeastUnmarked, IsNextFree, IsTaken, Sound, State, cursor_at, differ, is_some, last_given, no_value, number_or_0, policy_at, station_at}
use Rattle.apd_table.proofs.MembersLemmas.{none_taken, small, without_policy}

-- exactly those are marked that a station has
module _ (s : State) (b : Bssid) (marked : ℕ → Bool) (are : (j : ℕ) → j < 2048 → IsTrue (marked j) ↔ IsTaken s b j) where
  pub least_above : (last i : ℕ) → IsLeastUnmarked marked last i → IsLeastFreeAbove s b last i
  least_above last i h = record {
    low = h.low;
    high = h.high;
    free = λ a taken. differ _ h.free ((are i (small i h.high)).1 (a, taken));
    smaller = λ j low lt. (are j (small j (omega (arith, h.high)))).0 (h.smaller j low lt);
  }

  pub taken_above : (last : ℕ) → AreMarkedAbove marked last → AreTakenAbove s b last
  taken_above last h j low high = (are j (small j high)).0 (h j low high)

  pub least_is : (last : ℕ) (r : Option ℕ) → IfSome r (IsLeastUnmarked marked last) → IfSome r (IsLeastFreeAbove s b last)
  least_is last None h = tt
  least_is last (Some i) h = least_above last i h

  pub all_taken : (last : ℕ) (r : Option ℕ) → IfNone r (AreMarkedAbove marked last) → IfNone r (AreTakenAbove s b last)
  all_taken last None h = taken_above last h
  all_taken last (Some i) h = tt

  -- by the number that was given last
  either_above : (last i : ℕ) → IsLeastUnmarked marked last i ⊎ (AreMarkedAbove marked last × IsLeastUnmarked marked 0 i) → IsLeastFreeAbove s b last i ⊎ (AreTakenAbove s b last × IsLeastFreeAbove s b 0 i)
  either_above last i (inl h) = inl (least_above last i h)
  either_above last i (inr h) = inr (taken_above last h.0, least_above 0 i h.1)

  pub next_is : (last : ℕ) → last ≡ last_given s b → (r : Option ℕ) → IfSome r (λ i. IsLeastUnmarked marked last i ⊎ (AreMarkedAbove marked last × IsLeastUnmarked marked 0 i)) → IfSome r (IsNextFree s b)
  next_is last same None h = tt
  next_is last same (Some i) h = subst (λ n. IsLeastFreeAbove s b n i ⊎ (AreTakenAbove s b n × IsLeastFreeAbove s b 0 i)) same (either_above last i h)

-- without stations it is 1
pub first_is_free : (s : State) (b : Bssid) → ((a : Addr) → station_at s b a ≡ None) → IsLeastFreeAbove s b 0 1
first_is_free s b none = record {
  low = omega arith;
  high = omega arith;
  free = λ a e. none_taken s b none 1 (a, e);
  smaller = λ j low lt. absurd (omega arith);
}

-- a BSSID without a policy gave none, and has no stations
module _ (s : State) (b : Bssid) (sound : Sound s) (absent : policy_at s b ≡ None) where
  none_given : last_given s b ≡ 0
  none_given = ap number_or_0 (no_value (cursor_at s b) (sound.cursors_have_policy b ∙ ap is_some absent))

  pub first_is_next : IsNextFree s b 1
  first_is_next = inl (subst (λ n. IsLeastFreeAbove s b n 1) (sym none_given) (first_is_free s b (without_policy s b sound absent)))
