-- When a state stays sound as a BSSID's policy is set.
use Rattle.std.proofs.Common.{◌≡◌, ◌+◌, false, cond, Some, inl, inr, sym, ap, subst, ◌∙◌, IsSome, IsTrue}
use Rattle.apd_table.proofs.Words.{Addr, Bssid, CanSet, Policy, Sound, State, allowed, bssid_cmp, bssid_exact, bssid_total, eq_by_cmp, get_insert_other, get_inserted, is_allowed_under, is_some, len-insert, one_or_apart, policy_at, set_policy, station_at}
use Rattle.std.specs.FinMap as map
use Rattle.apd_table.proofs.Cursors.{cursors_set}
use Rattle.apd_table.proofs.Rooms.{room_after, room_before}

module _ (s : State) (b : Bssid) (p : Policy) where
  abbrev new : State
  new = set_policy b p s

  pub policy_here : policy_at new b ≡ Some p
  policy_here = get_inserted bssid_total bssid_exact s.policies b p

  pub policy_elsewhere : (c : Bssid) → eq_by_cmp bssid_cmp c b ≡ false → policy_at new c ≡ policy_at s c
  policy_elsewhere c ne = get_insert_other bssid_total bssid_exact s.policies b p c ne

  pub kept : (c : Bssid) → IsSome (policy_at s c) → IsSome (policy_at new c)
  kept c h =
      elim (one_or_apart bssid_total bssid_exact c b) [
        | inl e ↦ ap (λ x. is_some (policy_at new x)) e ∙ ap is_some policy_here
        | inr ne ↦ ap is_some (policy_elsewhere c ne) ∙ h
      ]

  allowed_elsewhere : (c : Bssid) (a : Addr) → eq_by_cmp bssid_cmp c b ≡ false → allowed new c a ≡ allowed s c a
  allowed_elsewhere c a ne = ap (is_allowed_under s c a) (policy_elsewhere c ne)

  len_set : map.len new.policies ≡ cond (is_some (policy_at s b)) (map.len s.policies) (map.len s.policies + 1)
  len_set = len-insert bssid_total s.policies b p

  pub sound_set : Sound s → CanSet s b p → Sound new
  sound_set sound can = record {
    identifiers = sound.identifiers;
    distinct = sound.distinct;
    one_association = sound.one_association;
    stations_have_policy = λ c d h. kept c (sound.stations_have_policy c d h);
    lists_have_policy = λ c w d h. kept c (sound.lists_have_policy c w d h);
    cursors_have_policy = cursors_set s b sound.cursors_have_policy p;
    none_denied = λ c d h. elim (one_or_apart bssid_total bssid_exact c b) [
      | inl e ↦ subst (λ x. IsTrue (allowed new x d)) (sym e) (can.allowed d (subst (λ x. IsSome (station_at s x d)) e h))
      | inr ne ↦ allowed_elsewhere c d ne ∙ sound.none_denied c d h
    ];
    few_bss = rw len_set (room_after (is_some (policy_at s b)) (map.len s.policies) 8 can.room sound.few_bss);
    few_stations = sound.few_stations;
    few_listed = sound.few_listed;
  }

  -- the same the other way
  pub can_set : Sound new → CanSet s b p
  can_set sound = record {
    room = room_before (is_some (policy_at s b)) (map.len s.policies) 8 (rw len_set at sound.few_bss);
    allowed = sound.none_denied b;
  }
