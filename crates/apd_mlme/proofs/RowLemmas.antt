-- What an event leaves that changes one row at most, and what single outs do to a driver.
use Rattle.std.proofs.Common.{◌≡◌, Bool, true, false, cond, ◌&&◌, List, [], ◌∷◌, ◌++◌, Option, Some, None, refl, sym, ap, ◌∙◌, ℕ, not, map as list_map, inl, inr, subst, IsSome}
use Rattle.apd_mlme.proofs.Words.{Addr, Authenticated, Bssid, Control, DriverMap, FinMap, Frame, Install, Out, Radio, Reason, Recipient, Remove, Sound, State, Station, StaySound, Text, Verdict, addr_cmp, addr_exact, addr_total, aid_at, aid_of, and_parts, bssid_cmp, bssid_exact, bssid_total, deauthentication, differ, driver_after, driver_after_all, drop_station, eq_by_cmp, eq_by_cmp_equiv, false_from_ne_true, get-entries, get-from_entries, get-insert, get-remove, get-retain_keys, is_row_at, is_same, is_some, no_value, none_is, one_key, one_or_apart, option_map, outs_of_drop, outs_to, put_back, put_station, remaining_row, removal, reply_out, row_drop, rows_authenticated_where, same_addr, same_bssid, same_map, sound_put, station_at, station_cmp, station_exact, station_total, tied}
use Rattle.std.specs.Prelude.{filter}
use Rattle.std.specs.FinMap.{find}
use Rattle.std.specs.FinMap as map
use Rattle.apd_table.proofs.Parts.{sound_drop}

-- whether two rows are one
abbrev pub is_row : Bssid → Addr → Bssid → Addr → Bool
is_row b a c d = eq_by_cmp bssid_cmp c b && eq_by_cmp addr_cmp d a

pub this_row : (b : Bssid) (a : Addr) → is_row b a b a ≡ true
this_row b a = λ i. tied bssid_total bssid_exact b i && tied addr_total addr_exact a i

pub not_row : (b : Bssid) (a : Addr) (c : Bssid) (d : Addr) → ¬ ((c ≡ b) × (d ≡ a)) → is_row b a c d ≡ false
not_row b a c d other = false_from_ne_true (is_row b a c d) (λ e. let parts = and_parts (eq_by_cmp bssid_cmp c b) (eq_by_cmp addr_cmp d a) e in other (same_bssid b c parts.0, same_addr a d parts.1))

pub other_row : {A : Type 0} (b : Bssid) (a : Addr) (c : Bssid) (d : Addr) (x o : A) → ¬ ((c ≡ b) × (d ≡ a)) → cond (is_row b a c d) x o ≡ o
other_row b a c d x o other = ap (λ t. cond t x o) (not_row b a c d other)

addr_back : (a d : Addr) → eq_by_cmp addr_cmp a d ≡ eq_by_cmp addr_cmp d a
addr_back a d = sym ((eq_by_cmp_equiv addr_total).symm d a)

-- ---- the rows

pub station_put : (s : State) (b : Bssid) (a : Addr) (v : Station) (c : Bssid) (d : Addr) → station_at (put_station b a v s) c d ≡ cond (is_row b a c d) (Some v) (station_at s c d)
station_put s b a v c d = get-insert station_total s.stations (b, a) v (c, d) ∙ ap (λ t. cond t (Some v) (station_at s c d)) (one_key (bssid_cmp c b) (addr_cmp d a))

pub station_dropped : (s : State) (b : Bssid) (a : Addr) (c : Bssid) (d : Addr) → station_at (drop_station b a s) c d ≡ cond (is_row b a c d) None (station_at s c d)
station_dropped s b a c d = get-remove station_total s.stations (b, a) (c, d) ∙ ap (λ t. cond t None (station_at s c d)) (one_key (bssid_cmp c b) (addr_cmp d a))

pub put_row : (s : State) (b : Bssid) (a : Addr) (v : Station) → station_at (put_station b a v s) b a ≡ Some v
put_row s b a v = station_put s b a v b a ∙ ap (λ t. cond t (Some v) (station_at s b a)) (this_row b a)

pub aid_cond : (t : Bool) (o p : Option Station) → aid_of (cond t o p) ≡ cond t (aid_of o) (aid_of p)
aid_cond true o p = refl
aid_cond false o p = refl

-- ---- what the driver of a radio has at an address, once outs left
module _ (c : Bssid) (d : Addr) where
  abbrev left_by_one : Recipient × Out → Option ℕ → Option ℕ
  left_by_one (Radio b, Install a aid) o = cond (is_row b a c d) (Some aid.number) o
  left_by_one (Radio b, Remove a) o = cond (is_row b a c d) None o
  left_by_one (Radio b, Frame bytes) o = o
  left_by_one (Radio b, Text tag bytes) o = o
  left_by_one (Control, out) o = o

  abbrev pub left_by : List (Recipient × Out) → Option ℕ → Option ℕ
  left_by [] o = o
  left_by (x ∷ outs) o = left_by outs (left_by_one x o)

  pub left_by-append : (xs ys : List (Recipient × Out)) (o : Option ℕ) → left_by (xs ++ ys) o ≡ left_by ys (left_by xs o)
  left_by-append [] ys o = refl
  left_by-append (x ∷ xs) ys o = left_by-append xs ys (left_by_one x o)

  abbrev those : List (Recipient × Out) → List (Recipient × Out)
  those outs = filter (λ x. is_same (Radio c) x.0) outs

  abbrev taken : List (Recipient × Out) → List Out
  taken outs = list_map (λ (x : Recipient × Out). x.1) outs

  pub driven_left : (outs : List (Recipient × Out)) (m : DriverMap) → driver_after_all (outs_to (Radio c) outs) m d ≡ left_by outs (m d)
  driven_left [] m = refl
  driven_left ((Radio b, Install a aid) ∷ outs) m =
      elim (eq_by_cmp bssid_cmp c b) as (λ t. driver_after_all (taken (cond t ((Radio b, Install a aid) ∷ those outs) (those outs))) m d ≡ left_by outs (cond (t && eq_by_cmp addr_cmp d a) (Some aid.number) (m d))) [
        | true ↦ driven_left outs (driver_after (Install a aid) m) ∙ ap (λ u. left_by outs (cond u (Some aid.number) (m d))) (addr_back a d)
        | false ↦ driven_left outs m
      ]
  driven_left ((Radio b, Remove a) ∷ outs) m =
      elim (eq_by_cmp bssid_cmp c b) as (λ t. driver_after_all (taken (cond t ((Radio b, Remove a) ∷ those outs) (those outs))) m d ≡ left_by outs (cond (t && eq_by_cmp addr_cmp d a) None (m d))) [
        | true ↦ driven_left outs (driver_after (Remove a) m) ∙ ap (λ u. left_by outs (cond u None (m d))) (addr_back a d)
        | false ↦ driven_left outs m
      ]
  driven_left ((Radio b, Frame bytes) ∷ outs) m = elim (eq_by_cmp bssid_cmp c b) as (λ t. driver_after_all (taken (cond t ((Radio b, Frame bytes) ∷ those outs) (those outs))) m d ≡ left_by outs (m d)) [ true ↦ driven_left outs m | false ↦ driven_left outs m ]
  driven_left ((Radio b, Text tag bytes) ∷ outs) m = elim (eq_by_cmp bssid_cmp c b) as (λ t. driver_after_all (taken (cond t ((Radio b, Text tag bytes) ∷ those outs) (those outs))) m d ≡ left_by outs (m d)) [ true ↦ driven_left outs m | false ↦ driven_left outs m ]
  driven_left ((Control, out) ∷ outs) m = driven_left outs m

  -- a station goes where it was associated, and where it was not its driver has nothing to lose
  pub left_by_removal : (s : State) (b : Bssid) (a : Addr) → left_by (removal s b a) (aid_at s c d) ≡ cond (is_row b a c d) None (aid_at s c d)
  left_by_removal s b a =
      elim (is_some (aid_at s b a)) as (λ t. is_some (aid_at s b a) ≡ t → left_by (cond t ((Radio b, Remove a) ∷ []) []) (aid_at s c d) ≡ cond (is_row b a c d) None (aid_at s c d)) [
        | true ↦ λ _. refl
        | false ↦ λ none. elim (is_row b a c d) as (λ t. is_row b a c d ≡ t → aid_at s c d ≡ cond t None (aid_at s c d)) [
          | true ↦ λ here.
              let parts = and_parts (eq_by_cmp bssid_cmp c b) (eq_by_cmp addr_cmp d a) here in
              (λ i. aid_at s (same_bssid b c parts.0 i) (same_addr a d parts.1 i)) ∙ no_value (aid_at s b a) none
          | false ↦ λ _. refl
        ] refl
      ] refl

-- ---- rows of which some say authenticated
pub aid_turned : (t : Bool) (o : Option Station) → aid_of (option_map (λ x. cond t Authenticated x) o) ≡ cond t None (aid_of o)
aid_turned true None = refl
aid_turned true (Some x) = refl
aid_turned false None = refl
aid_turned false (Some x) = refl

turned_known : (t : Bool) (o : Option Station) → (t ≡ true → IsSome o) → option_map (λ x. cond t Authenticated x) o ≡ cond t (Some Authenticated) o
turned_known true None known = none_is {A = Station} None refl (known refl)
turned_known true (Some x) known = refl
turned_known false None known = refl
turned_known false (Some x) known = refl

pub turned_not : (t : Bool) (o : Option Station) → t ≡ false → option_map (λ x. cond t Authenticated x) o ≡ o
turned_not true o e = cc
turned_not false None e = refl
turned_not false (Some x) e = refl

pub only_turned : (o : Option Station) → option_map (λ (x : Station). Authenticated) o ≡ remaining_row o
only_turned None = refl
only_turned (Some x) = refl

module _ (test : Bssid × Addr → Bool) where
  abbrev turned : (Bssid × Addr) × Station → (Bssid × Addr) × Station
  turned row = (row.0, cond (test row.0) Authenticated row.1)

  find-turned : (q : Bssid × Addr) (rows : List ((Bssid × Addr) × Station)) → find station_cmp q (list_map turned rows) ≡ option_map (λ x. cond (test q) Authenticated x) (find station_cmp q rows)
  find-turned q [] = refl
  find-turned q (row ∷ rows) =
      let same : eq_by_cmp station_cmp q row.0 ≡ true → q ≡ row.0 = λ e. elim (one_or_apart station_total station_exact q row.0) [ inl same ↦ same | inr apart ↦ differ _ apart e ] in
      elim (eq_by_cmp station_cmp q row.0) as (λ t. (t ≡ true → q ≡ row.0) → cond t (Some (cond (test row.0) Authenticated row.1)) (find station_cmp q (list_map turned rows)) ≡ option_map (λ x. cond (test q) Authenticated x) (cond t (Some row.1) (find station_cmp q rows))) [
        | true ↦ λ same. ap (λ k. Some (cond (test k) Authenticated row.1)) (sym (same refl))
        | false ↦ λ _. find-turned q rows
      ] same

  pub authenticated_station : (rows : FinMap station_cmp Station) (q : Bssid × Addr) → map.get (rows_authenticated_where test rows) q ≡ option_map (λ x. cond (test q) Authenticated x) (map.get rows q)
  authenticated_station rows q =
      get-from_entries station_total (list_map turned (map.entries rows)) q ∙ find-turned q (map.entries rows) ∙ ap (option_map (λ x. cond (test q) Authenticated x)) (sym (get-entries rows q))

  -- the rows put there, where those that pass have one
  pub authenticated_is : (rows put : FinMap station_cmp Station) → ((q : Bssid × Addr) → map.get put q ≡ cond (test q) (Some Authenticated) (map.get rows q)) → ((q : Bssid × Addr) → test q ≡ true → IsSome (map.get rows q)) → put ≡ rows_authenticated_where test rows
  authenticated_is rows put is known = same_map station_total station_exact _ _ (λ q. is q ∙ sym (authenticated_station rows q ∙ turned_known (test q) (map.get rows q) (known q)))

-- the driver of a radio has the associated stations of the state after, where it had those of the state before
abbrev pub Follows : Bssid → State → Verdict → Type 0
Follows c s v = (d : Addr) → left_by c d v.outs (aid_at s c d) ≡ aid_at v.state c d

-- a station may be put back to authenticated, since its row is allowed
pub sound_put_back : (s : State) (b : Bssid) (a : Addr) → IsSome (station_at s b a) → Sound s → Sound (put_station b a Authenticated s)
sound_put_back s b a known sound =
    sound_put s b a Authenticated sound (record {
      identified = tt;
      allowed = (sound.stations_have_policy b a known, sound.none_denied b a known);
      room = inl known;
    })

other_case : {A : Type 0} (t : Bool) (o : Option A) → cond (not t) o None ≡ cond t None o
other_case true o = refl
other_case false o = refl

module _ (s : State) (b : Bssid) (a : Addr) where
  -- the states once it is put back, and once it is dropped
  abbrev pub back : State
  back = record s { stations = rows_authenticated_where (is_row_at b a) s.stations }

  abbrev pub out : State
  out = record s { stations = map.retain_keys s.stations (λ key. not (is_row_at b a key)) }

  pub row_known : IsSome (station_at s b a) → (c : Bssid) (d : Addr) → is_row b a c d ≡ true → IsSome (station_at s c d)
  row_known known c d here =
      let parts = and_parts (eq_by_cmp bssid_cmp c b) (eq_by_cmp addr_cmp d a) here in
      subst IsSome (λ i. station_at s (sym (same_bssid b c parts.0) i) (sym (same_addr a d parts.1) i)) known

  pub back_station : (c : Bssid) (d : Addr) → station_at back c d ≡ option_map (λ x. cond (is_row b a c d) Authenticated x) (station_at s c d)
  back_station c d = authenticated_station (is_row_at b a) s.stations (c, d)

  pub back_aid : (c : Bssid) (d : Addr) → aid_at back c d ≡ cond (is_row b a c d) None (aid_at s c d)
  back_aid c d = ap aid_of (back_station c d) ∙ aid_turned (is_row b a c d) (station_at s c d)

  pub back_row : station_at back b a ≡ remaining_row (station_at s b a)
  back_row = back_station b a ∙ ap (λ t. option_map (λ x. cond t Authenticated x) (station_at s b a)) (this_row b a) ∙ only_turned (station_at s b a)

  pub back_other : (c : Bssid) (d : Addr) → ¬ ((c ≡ b) × (d ≡ a)) → station_at back c d ≡ station_at s c d
  back_other c d other = back_station c d ∙ turned_not (is_row b a c d) (station_at s c d) (not_row b a c d other)

  pub put_back_aid : aid_at back b a ≡ None
  put_back_aid = back_aid b a ∙ ap (λ t. cond t None (aid_at s b a)) (this_row b a)

  pub back_meaning : IsSome (station_at s b a) → put_station b a Authenticated s ≡ back
  back_meaning known =
      ap (λ k. record s { stations = k }) (authenticated_is (is_row_at b a) s.stations (put_station b a Authenticated s).stations (λ q. station_put s b a Authenticated q.0 q.1) (λ q. row_known known q.0 q.1))

  pub out_station : (c : Bssid) (d : Addr) → station_at out c d ≡ cond (is_row b a c d) None (station_at s c d)
  out_station c d =
      get-retain_keys s.stations (λ key. not (is_row_at b a key)) (c, d) (λ x t. ap (λ key. not (is_row_at b a key)) (sym (station_exact (c, d) x t)))
      ∙ other_case (is_row b a c d) (station_at s c d)

  pub out_aid : (c : Bssid) (d : Addr) → aid_at out c d ≡ cond (is_row b a c d) None (aid_at s c d)
  out_aid c d = ap aid_of (out_station c d) ∙ aid_cond (is_row b a c d) None (station_at s c d)

  pub out_row : station_at out b a ≡ None
  out_row = out_station b a ∙ ap (λ t. cond t None (station_at s b a)) (this_row b a)

  pub out_meaning : drop_station b a s ≡ out
  out_meaning = ap (λ k. record s { stations = k }) (same_map station_total station_exact _ _ (λ q. station_dropped s b a q.0 q.1 ∙ sym (out_station q.0 q.1)))

  pub put_back_stays : (outs : List (Recipient × Out)) → IsSome (station_at s b a) → Sound s → StaySound (put_back s b a outs).changes s
  put_back_stays outs known sound = (sound, sound_put_back s b a known sound)

  pub dropped_stays : (outs : List (Recipient × Out)) → Sound s → StaySound (row_drop s b a outs).changes s
  dropped_stays outs sound = (sound, sound_drop s b a sound)

  -- the driver lets it go, and frames leave it as it is
  pub removal_follows : (c : Bssid) → Follows c s (row_drop s b a (removal s b a))
  removal_follows c d = left_by_removal c d s b a ∙ sym (out_aid c d)

  pub drop_follows : (c : Bssid) (reason : Reason) → Follows c s (row_drop s b a (outs_of_drop s b a reason))
  drop_follows c reason d = left_by-append c d (removal s b a) (reply_out (deauthentication b a reason) ∷ []) (aid_at s c d) ∙ removal_follows c d
