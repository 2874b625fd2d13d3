-- When a state stays sound as its lists change.
use Rattle.std.proofs.Common.{◌≡◌, ◌+◌, ◌≤◌, ◌<◌, true, false, cond, not, ◌&&◌, ◌||◌, ◌⊎◌, IsSome, IsTrue, inl, inr, refl, sym, ap, subst, ◌∙◌}
use Rattle.apd_table.proofs.Words.{Accept, Addr, Bssid, CanAdd, Deny, IsListed, ListClear, ListDel, NoneDeniedAfter, SetOf, Sound, State, Which, add_to_list, allowed, bssid_cmp, bssid_exact, bssid_total, clear_list, contains, eq_by_cmp, is_allowed_by, is_list_row_of, len-insert, list_cmp, list_count, list_exact, list_total, one_or_apart, policy_at, retain_keys-insert_in, retain_keys-insert_out, station_at, take_from_list, tied, which_exact, which_total}
use Rattle.std.specs.FinMap as map
use Rattle.apd_table.proofs.ListCounts.{row_is_of}
use Rattle.apd_table.proofs.ListSets.{contains-insert, contains-retain_keys, insert_elsewhere, remove_elsewhere, clear_elsewhere}
use Rattle.apd_table.proofs.Rooms.{room_after, room_before}
use Rattle.apd_table.proofs.Parts.{IsPart, part_kept, part_removed, part_some, sound_part}

-- other list rows of one BSSID alone
module _ (s : State) (l : SetOf list_cmp) (b : Bssid) (sound : Sound s) where
  abbrev changed : State
  changed = record s { lists = l }

  abbrev pub Elsewhere : Type 0
  Elsewhere = (c : Bssid) → eq_by_cmp bssid_cmp c b ≡ false → (v : Which) (d : Addr) → contains l (c, v, d) ≡ contains s.lists (c, v, d)

  abbrev pub NoneDeniedHere : Type 0
  NoneDeniedHere = (a : Addr) → IsSome (station_at s b a) → IsTrue (allowed changed b a)

  pub none_denied : Elsewhere → NoneDeniedHere → (c : Bssid) (d : Addr) → IsSome (station_at s c d) → IsTrue (allowed changed c d)
  none_denied elsewhere none c d h = elim (one_or_apart bssid_total bssid_exact c b) [
    | inl e ↦ subst (λ x. IsTrue (allowed changed x d)) (sym e) (none d (subst (λ x. IsSome (station_at s x d)) e h))
    | inr apart ↦ (λ i. is_allowed_by (policy_at s c) (elsewhere c apart Accept d i) (elsewhere c apart Deny d i)) ∙ sound.none_denied c d h
  ]

  -- those that are left of a list
  sound_less : IsPart list_total list_exact l s.lists → Elsewhere → NoneDeniedHere → Sound changed
  sound_less part elsewhere none =
      sound_part s sound changed (λ k v g. g) part (λ k v g. g) (λ c d h. (sound.stations_have_policy c d h, none_denied elsewhere none c d h))
      (λ c v d h. sound.lists_have_policy c v d (part_some list_total list_exact l s.lists part (c, v, d) h)) sound.cursors_have_policy

module _ (s : State) (b : Bssid) (w : Which) (a : Addr) where
  abbrev key : Bssid × Which × Addr
  key = (b, w, a)

  pub count_in : (c : Bssid) (v : Which) → is_list_row_of c v key ≡ true → list_count (add_to_list b w a s) c v ≡ cond (contains s.lists key) (list_count s c v) (list_count s c v + 1)
  count_in c v mine =
      ap map.len (retain_keys-insert_in list_total list_exact (is_list_row_of c v) s.lists key tt mine) ∙ len-insert list_total (map.retain_keys s.lists (is_list_row_of c v)) key tt
      ∙ ap (λ t. cond t (list_count s c v) (list_count s c v + 1)) (contains-retain_keys list_total list_exact s.lists (is_list_row_of c v) key ∙ ap (λ t. t && contains s.lists key) mine)

  pub mine_is : is_list_row_of b w key ≡ true
  mine_is = λ i. tied bssid_total bssid_exact b i && tied which_total which_exact w i

  room_at : (c : Bssid) (v : Which) → is_list_row_of c v key ≡ true → IsListed s b w a ⊎ (list_count s b w < 1024) → (contains s.lists key ≡ true) ⊎ (list_count s c v < 1024)
  room_at c v mine room =
      let of = row_is_of c v key mine in
      subst (λ (p : Bssid × Which). (contains s.lists key ≡ true) ⊎ (list_count s p.0 p.1 < 1024)) (λ i. (of.0 i, of.1 i)) room

  pub sound_add : Sound s → CanAdd s b w a → Sound (add_to_list b w a s)
  sound_add sound can =
      let l = map.insert s.lists key tt in
      let elsewhere : Elsewhere s l b sound = λ c apart v d. insert_elsewhere s.lists b w c apart v d a in
      record {
        identifiers = sound.identifiers;
        distinct = sound.distinct;
        one_association = sound.one_association;
        stations_have_policy = sound.stations_have_policy;
        lists_have_policy = λ c v d h. elim (one_or_apart bssid_total bssid_exact c b) [
          | inl e ↦ subst (λ x. IsSome (policy_at s x)) (sym e) can.policy
          | inr apart ↦ sound.lists_have_policy c v d (sym (elsewhere c apart v d) ∙ h)
        ];
        cursors_have_policy = sound.cursors_have_policy;
        none_denied = none_denied s l b sound elsewhere can.allowed;
        few_bss = sound.few_bss;
        few_stations = sound.few_stations;
        few_listed = λ c v. elim (is_list_row_of c v key) as (λ t. is_list_row_of c v key ≡ t → list_count (add_to_list b w a s) c v ≤ 1024) [
          | true ↦ λ mine. rw (count_in c v mine) (room_after (contains s.lists key) (list_count s c v) 1024 (room_at c v mine can.room) (sound.few_listed c v))
          | false ↦ λ other. rw (ap map.len (retain_keys-insert_out list_total list_exact (is_list_row_of c v) s.lists key tt other)) (sound.few_listed c v)
        ] refl;
      }

  -- the same the other way
  pub can_add : Sound (add_to_list b w a s) → CanAdd s b w a
  can_add sound = record {
    policy = sound.lists_have_policy b w a (contains-insert list_total list_exact s.lists key key ∙ ap (λ t. t || contains s.lists key) (tied list_total list_exact key));
    room = room_before (contains s.lists key) (list_count s b w) 1024 (rw (count_in b w mine_is) at (sound.few_listed b w));
    allowed = λ c h. sound.none_denied b c h;
  }

  pub sound_take : Sound s → NoneDeniedAfter s b (ListDel b w a) → Sound (take_from_list b w a s)
  sound_take sound none =
      sound_less s (map.remove s.lists key) b sound (part_removed list_total list_exact s.lists key) (λ c apart v d. remove_elsewhere s.lists b w c apart v d a) none

pub sound_clear : (s : State) (b : Bssid) (w : Which) → Sound s → NoneDeniedAfter s b (ListClear b w) → Sound (clear_list b w s)
sound_clear s b w sound none =
    let other = λ (row : Bssid × Which × Addr). not (is_list_row_of b w row) in
    sound_less s (map.retain_keys s.lists other) b sound (part_kept list_total list_exact s.lists other) (λ c apart v d. clear_elsewhere s.lists b w c apart v d) none
