-- When a state stays sound as the number given last at a BSSID is set; a policy that is set comes with one.
use Rattle.std.proofs.Common.{◌≡◌, Bool, true, false, ◌||◌, Option, Some, None, refl, sym, ap, ◌∙◌, IsSome}
use Rattle.apd_table.proofs.Words.{Bssid, Policy, Sound, State, StationNumber, bssid_cmp, bssid_exact, bssid_total, cursor_at, cursors_with, eq_by_cmp, get_inserted, is_some, none_given, policy_at, same_bssid, set_cursor, set_policy}
use Rattle.std.specs.FinMap as map
use Rattle.apd_table.proofs.ListSets.{is_some-insert}

absorbed : (t u : Bool) → (t ≡ true → u ≡ true) → (t || u) ≡ u
absorbed true u h = sym (h refl)
absorbed false u h = refl

module _ (s : State) (b : Bssid) where
  -- where a policy was, none comes
  there_already : IsSome (policy_at s b) → (c : Bssid) → (eq_by_cmp bssid_cmp c b || is_some (policy_at s c)) ≡ is_some (policy_at s c)
  there_already here c = absorbed (eq_by_cmp bssid_cmp c b) (is_some (policy_at s c)) (λ e. ap (λ d. is_some (policy_at s d)) (same_bssid b c e) ∙ here)

  module _ (with_policy : (c : Bssid) → is_some (cursor_at s c) ≡ is_some (policy_at s c)) where
    one_more : (o : Option Policy) → policy_at s b ≡ o → (c : Bssid) → is_some (map.get (cursors_with o s.cursors b) c) ≡ (eq_by_cmp bssid_cmp c b || is_some (policy_at s c))
    one_more None e c = is_some-insert bssid_total bssid_exact s.cursors b none_given c ∙ ap (λ t. eq_by_cmp bssid_cmp c b || t) (with_policy c)
    one_more (Some policy) e c = with_policy c ∙ sym (there_already (ap is_some e) c)

    -- a policy that is set
    pub cursors_set : (p : Policy) (c : Bssid) → is_some (cursor_at (set_policy b p s) c) ≡ is_some (policy_at (set_policy b p s) c)
    cursors_set p c = one_more (policy_at s b) refl c ∙ sym (is_some-insert bssid_total bssid_exact s.policies b p c)

    -- a number at a BSSID with a policy
    cursors_moved : (last : StationNumber) → IsSome (policy_at s b) → (c : Bssid) → is_some (cursor_at (set_cursor b last s) c) ≡ is_some (policy_at (set_cursor b last s) c)
    cursors_moved last here c =
        is_some-insert bssid_total bssid_exact s.cursors b last c ∙ ap (λ t. eq_by_cmp bssid_cmp c b || t) (with_policy c) ∙ there_already here c

  pub sound_cursor : (last : StationNumber) → Sound s → IsSome (policy_at s b) → Sound (set_cursor b last s)
  sound_cursor last sound here = record {
    identifiers = sound.identifiers;
    distinct = sound.distinct;
    one_association = sound.one_association;
    stations_have_policy = sound.stations_have_policy;
    lists_have_policy = sound.lists_have_policy;
    cursors_have_policy = cursors_moved sound.cursors_have_policy last here;
    none_denied = sound.none_denied;
    few_bss = sound.few_bss;
    few_stations = sound.few_stations;
    few_listed = sound.few_listed;
  }

  -- the same the other way
  pub can_cursor : (last : StationNumber) → Sound (set_cursor b last s) → IsSome (policy_at s b)
  can_cursor last sound = sym (sound.cursors_have_policy b) ∙ ap is_some (get_inserted bssid_total bssid_exact s.cursors b last)
