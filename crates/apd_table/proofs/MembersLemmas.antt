-- What is kept of the stations of each BSSID stays true of them.
use Rattle.std.proofs.Common.{◌≡◌, ◌≢◌, ℕ, ◌<◌, ◌≤◌, Bool, true, false, cond, List, length, replicate, Option, Some, None, IfSome, inl, inr, refl, sym, ap, subst, ◌∙◌, arith, ◌+◌, ◌-◌}
use Rattle.std.specs.FinMap as map
use Rattle.apd_table.proofs.Words.{Addr, AreMembers, Bssid, FinMap, IsAntisymmetric, IsMembers, IsTaken, IsTotalOrder, Members, Ordering, Policy, Sound, State, Station, addr_cmp, addr_exact, addr_total, after_row, aid_at, aid_of, apart, bssid_cmp, bssid_exact, bssid_total, count, count_after, differ, drop_station, eq_by_cmp, false_from_ne_true, get-retain_keys, get_insert_other, get_inserted, get_remove_other, get_removed, is_set, is_some, is_some_of, len-empty, len-remove, members_after, members_under, no_members, no_value, none_is, none_is_some, one_or_apart, option_map, policy_at, put_after, put_station, retain_keys-remove, same_bssid, same_some, station_at, station_cmp, station_exact, station_total, stations_of, tied, with_aid, without_aid}
use Rattle.apd_table.proofs.Places.{ArePlaces, HasPlace, places_of, words_of, many_with, many_without, with_is, without_is, none_set}
use Rattle.apd_table.proofs.Parts.{part_len, part_passes}
use Rattle.apd_table.proofs.Put.{aid_range, put_here, count_put_in, count_put_out, is_some_there}

unlike : {K : Type 0} {R : K → K → Ordering} (o : IsTotalOrder R) (exact : IsAntisymmetric R) (q k : K) → eq_by_cmp R q k ≡ false → q ≢ k
unlike {R = R} o exact q k f e = differ _ f (ap (λ x. eq_by_cmp R x k) e ∙ tied o exact k)

-- one state is another but for the row of a station
pub record IsRowChange (s new : State) (b : Bssid) (a : Addr) (row : Option Station) : Type 0 where
  pub here : station_at new b a ≡ row
  pub elsewhere : (c : Bssid) (d : Addr) → ◌≢◌ {A = Bssid × Addr} (c, d) (b, a) → station_at new c d ≡ station_at s c d
  pub count_here : count new b ≡ count_after (is_some (station_at s b a)) (is_some row) (count s b)
  pub count_elsewhere : (c : Bssid) → eq_by_cmp bssid_cmp c b ≡ false → count new c ≡ count s c

put_counted : (t : Bool) (n : ℕ) → cond t n (n + 1) ≡ count_after t true n
put_counted true n = refl
put_counted false n = refl

drop_counted : (t : Bool) (n : ℕ) → cond t (n - 1) n ≡ count_after t false n
drop_counted true n = refl
drop_counted false n = refl

module _ (s : State) (b : Bssid) (a : Addr) where
  key_apart : (c : Bssid) (d : Addr) → ◌≢◌ {A = Bssid × Addr} (c, d) (b, a) → eq_by_cmp station_cmp (c, d) (b, a) ≡ false
  key_apart c d ne = apart station_total station_exact (c, d) (b, a) ne

  pub put_is_change : (v : Station) → IsRowChange s (put_station b a v s) b a (Some v)
  put_is_change v = record {
    here = put_here s b a v;
    elsewhere = λ c d ne. get_insert_other station_total station_exact s.stations (b, a) v (c, d) (key_apart c d ne);
    count_here = count_put_in s b a v ∙ put_counted (is_some (station_at s b a)) (count s b);
    count_elsewhere = count_put_out s b a v;
  }

  count_without : (c : Bssid) → count (drop_station b a s) c ≡ cond (is_some (map.get (stations_of s c) (b, a))) (count s c - 1) (count s c)
  count_without c = ap map.len (retain_keys-remove station_total station_exact (λ k. eq_by_cmp bssid_cmp c k.0) s.stations (b, a)) ∙ len-remove station_total (stations_of s c) (b, a)

  not_there : (c : Bssid) → eq_by_cmp bssid_cmp c b ≡ false → map.get (stations_of s c) (b, a) ≡ None
  not_there c ne =
      get-retain_keys s.stations (λ k. eq_by_cmp bssid_cmp c k.0) (b, a) (λ x t. ap (λ k. eq_by_cmp bssid_cmp c k.0) (sym (station_exact (b, a) x t)))
      ∙ ap (λ t. cond t (station_at s b a) None) ne

  pub drop_is_change : IsRowChange s (drop_station b a s) b a None
  drop_is_change = record {
    here = get_removed station_total station_exact s.stations (b, a);
    elsewhere = λ c d ne. get_remove_other station_total station_exact s.stations (b, a) (c, d) (key_apart c d ne);
    count_here = count_without b ∙ ap (λ t. cond t (count s b - 1) (count s b)) (is_some_there s b a) ∙ drop_counted (is_some (station_at s b a)) (count s b);
    count_elsewhere = λ c ne. count_without c ∙ ap (λ o. cond (is_some o) (count s c - 1) (count s c)) (not_there c ne);
  }

-- an identifier has its place by its type
pub small : (n : ℕ) → n ≤ 2007 → n < 2048
small n le = omega arith

pub has_place : (row : Option Station) → HasPlace (aid_of row)
has_place row i e = small i (aid_range row i e).1

module _ (s new : State) (sound : Sound s) (b : Bssid) (a : Addr) (row : Option Station) (change : IsRowChange s new b a row) where
  abbrev old : Option Station
  old = station_at s b a

  aid_elsewhere : (c : Bssid) (d : Addr) → ◌≢◌ {A = Bssid × Addr} (c, d) (b, a) → aid_at new c d ≡ aid_at s c d
  aid_elsewhere c d ne = ap aid_of (change.elsewhere c d ne)

  other_addr : (d : Addr) → eq_by_cmp addr_cmp d a ≡ false → ◌≢◌ {A = Bssid × Addr} (b, d) (b, a)
  other_addr d ne e = unlike addr_total addr_exact d a ne (ap (λ k. k.1) e)

  other_bssid : (c : Bssid) (d : Addr) → eq_by_cmp bssid_cmp c b ≡ false → ◌≢◌ {A = Bssid × Addr} (c, d) (b, a)
  other_bssid c d ne e = unlike bssid_total bssid_exact c b ne (ap (λ k. k.0) e)

  -- at the BSSID
  module _ (words : List ℕ) (many : length words ≡ 32) (are : ArePlaces s b words) where
    abbrev cleared : List ℕ
    cleared = without_aid (aid_of old) words

    module _ (j : ℕ) (lt : j < 2048) where
      taken_after : is_set (with_aid (aid_of row) cleared) j ≡ true → IsTaken new b j
      taken_after h =
          elim ((with_is cleared (many_without words many (aid_of old)) (aid_of row) (has_place row) j).0 h) [
            | inl e ↦ (a, ap aid_of change.here ∙ e)
            | inr e ↦
                let was = (without_is words many (aid_of old) (has_place old) j).0 e in
                let taken = (are j lt).0 was.1 in
                elim (one_or_apart addr_total addr_exact taken.0 a) [
                  | inl same ↦ absurd (was.0 (ap (aid_at s b) (sym same) ∙ taken.1))
                  | inr ne ↦ (taken.0, aid_elsewhere b taken.0 (other_addr taken.0 ne) ∙ taken.1)
                ]
          ]

      set_after : IsTaken new b j → is_set (with_aid (aid_of row) cleared) j ≡ true
      set_after taken =
          let both = with_is cleared (many_without words many (aid_of old)) (aid_of row) (has_place row) j in
          elim (one_or_apart addr_total addr_exact taken.0 a) [
            | inl same ↦ both.1 (inl (sym (ap aid_of change.here) ∙ ap (aid_at new b) (sym same) ∙ taken.1))
            | inr ne ↦
                let was : aid_at s b taken.0 ≡ Some j = sym (aid_elsewhere b taken.0 (other_addr taken.0 ne)) ∙ taken.1 in
                both.1 (inr ((without_is words many (aid_of old) (has_place old) j).1 (
                  λ e. unlike addr_total addr_exact taken.0 a ne (sound.distinct b taken.0 a j was e),
                  (are j lt).1 (taken.0, was),
                )))
          ]

    pub places_after : ArePlaces new b (with_aid (aid_of row) cleared)
    places_after j lt = (taken_after j lt, set_after j lt)

  pub members_here : (x : Members) → IsMembers s b x → IsMembers new b (members_after old row x)
  members_here x is = record {
    count = ap (count_after (is_some old) (is_some row)) is.count ∙ sym change.count_here;
    many = many_with (without_aid (aid_of old) x.words) (many_without x.words is.many (aid_of old)) (aid_of row);
    words = words_of new b _ (places_after x.words is.many (places_of s b x.words is.words));
  }

  pub members_elsewhere : (c : Bssid) → eq_by_cmp bssid_cmp c b ≡ false → (x : Members) → IsMembers s c x → IsMembers new c x
  members_elsewhere c ne x is = record {
    count = is.count ∙ sym (change.count_elsewhere c ne);
    many = is.many;
    words = λ w i lw li.
        let both = is.words w i lw li in (
          λ h. let taken = both.0 h in (taken.0, aid_elsewhere c taken.0 (other_bssid c taken.0 ne) ∙ taken.1),
          λ taken. both.1 (taken.0, sym (aid_elsewhere c taken.0 (other_bssid c taken.0 ne)) ∙ taken.1),
        );
  }

  -- what is kept after the change
  module _ (m : FinMap bssid_cmp Members) where
    get_here : (o : Option Members) → map.get m b ≡ o → map.get (put_after old row b m o) b ≡ option_map (members_after old row) o
    get_here None e = e
    get_here (Some x) e = get_inserted bssid_total bssid_exact m b _

    get_other : (o : Option Members) (c : Bssid) → eq_by_cmp bssid_cmp c b ≡ false → map.get (put_after old row b m o) c ≡ map.get m c
    get_other None c ne = refl
    get_other (Some x) c ne = get_insert_other bssid_total bssid_exact m b _ c ne

    mapped : (o : Option Members) (x : Members) → map.get m b ≡ o → AreMembers s m → option_map (members_after old row) o ≡ Some x → IsMembers new b x
    mapped None x e are got = none_is_some x got
    mapped (Some y) x e are got = let same : members_after old row y ≡ x = cc in subst (IsMembers new b) same (members_here y (are b y e))

    pub members_changed : AreMembers s m → AreMembers new (after_row old row b m)
    members_changed are c x got =
        elim (one_or_apart bssid_total bssid_exact c b) [
          | inl e ↦
              subst (λ (d : Bssid). IsMembers new d x) (sym e)
              (mapped (map.get m b) x refl are (sym (get_here (map.get m b) refl) ∙ ap (map.get (after_row old row b m)) (sym e) ∙ got))
          | inr ne ↦ members_elsewhere c ne x (are c x (sym (get_other (map.get m b) c ne) ∙ got))
        ]

-- a sound state has few stations at each BSSID
pub few_members : (s : State) → Sound s → (b : Bssid) (m : FinMap bssid_cmp Members) → AreMembers s m → IfSome (map.get m b) (λ x. x.count ≤ 2007)
few_members s sound b m are =
    elim (map.get m b) as (λ o. map.get m b ≡ o → IfSome o (λ x. x.count ≤ 2007)) [
      | None ↦ λ e. tt
      | Some x ↦ λ e. subst (λ n. n ≤ 2007) (sym (are b x e).count) (sound.few_stations b)
    ] refl

-- what is kept speaks of the stations alone
pub same_members : (s t : State) → s.stations ≡ t.stations → (m : FinMap bssid_cmp Members) → AreMembers s m → AreMembers t m
same_members s t same m are c x got =
    let is = are c x got in
    let kept : IsMembers (record t { stations = s.stations }) c x = record { count = is.count; many = is.many; words = is.words } in
    subst (λ (stations : FinMap station_cmp Station). IsMembers (record t { stations = stations }) c x) same kept

-- ---- a BSSID without stations

module _ (s : State) (b : Bssid) (none : (a : Addr) → station_at s b a ≡ None) where
  pub count_none : count s b ≡ 0
  count_none =
      let left = part_len station_total station_exact (stations_of s b) map.empty (λ k v g.
      let row = part_passes station_total station_exact s.stations (λ q. eq_by_cmp bssid_cmp b q.0) k v g in
      none_is (station_at s b k.1) (none k.1) (is_some_of _ v ((λ i. map.get s.stations (same_bssid k.0 b row.0 i, k.1)) ∙ row.1))) in
      omega (arith, len-empty station_cmp Station, left)

  pub none_taken : {A : Type 0} (j : ℕ) → IsTaken s b j → A
  none_taken j taken = none_is_some j (sym (ap aid_of (none taken.0)) ∙ taken.1)

  pub no_members_is : IsMembers s b no_members
  no_members_is = record {
    count = sym count_none;
    many = refl;
    words = words_of s b (replicate 32 0) (λ j lt. (λ h. differ _ (none_set j lt) h, λ taken. none_taken j taken));
  }

-- a BSSID without a policy has none
pub without_policy : (s : State) (b : Bssid) → Sound s → policy_at s b ≡ None → (a : Addr) → station_at s b a ≡ None
without_policy s b sound absent a =
    no_value (station_at s b a) (false_from_ne_true (is_some (station_at s b a)) (λ known. none_is (policy_at s b) absent (sound.stations_have_policy b a known)))

-- what is kept once a BSSID has a policy
pub members_joined : (s : State) (sound : Sound s) (b : Bssid) (m : FinMap bssid_cmp Members) (o : Option Policy) → policy_at s b ≡ o → AreMembers s m → AreMembers s (members_under o m b)
members_joined s sound b m (Some policy) e are = are
members_joined s sound b m None e are = λ c x got.
    elim (one_or_apart bssid_total bssid_exact c b) [
      | inl same ↦
          let is : no_members ≡ x = same_some _ _ (sym (get_inserted bssid_total bssid_exact m b no_members) ∙ ap (map.get (map.insert m b no_members)) (sym same) ∙ got) in
          subst (λ (d : Bssid). IsMembers s d x) (sym same) (subst (IsMembers s b) is (no_members_is s b (without_policy s b sound e)))
      | inr ne ↦ are c x (sym (get_insert_other bssid_total bssid_exact m b no_members c ne) ∙ got)
    ]
