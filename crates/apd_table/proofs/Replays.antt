-- The changes of a snapshot lead from the empty state to the state, by sound ones.
use Rattle.std.proofs.Common.{◌≡◌, Bool, true, false, cond, List, [], ◌∷◌, ◌++◌, filter, map as list_map, Option, Some, None, IsSome, inl, inr, refl, sym, ap, subst, ◌∙◌, T}
use Rattle.apd_table.proofs.Words.{Addr, AllByRecursion, Bssid, Change, FinMap, IsAntisymmetric, IsTotalOrder, Ordering, Policy, Sound, State, Station, StationNumber, Which, append-nil, bssid_cmp, bssid_exact, bssid_total, canonical, cursor_change, cursor_changes, cursors_with, empty_state, entries_sorted, eq_by_cmp, eqb-true, find_tied_head, get-empty, get-entries, get-insert, get_insert_other, get_inserted, is_given, is_some, is_sorted, is_sorted_tail, list_change, list_cmp, list_exact, list_total, meaning, no_value, none_given, none_is, not_false, one_or_apart, option_map, policy_at, policy_change, policy_changes, same_map, same_station_number, station_change, station_changes, station_cmp, station_exact, station_total, tied, tied_not_below}
use Rattle.std.specs.FinMap as map
use Rattle.std.specs.FinMap.{find, entries}
use Rattle.apd_base.proofs.Cases.{value_of}
use Rattle.apd_table.specs.for_proofs.Standing.{Lead}
use Rattle.apd_table.proofs.Cursors.{sound_cursor}
use Rattle.apd_table.proofs.Parts.{IsPart, part_more, part_some, empty_part, sound_part}

-- ---- maps filled row by row

module _ {K X : Type 0} {R : K → K → Ordering} (o : IsTotalOrder R) (exact : IsAntisymmetric R) where
  -- a map with these entries more
  abbrev pub filled : FinMap R X → List (K × X) → FinMap R X
  filled m [] = m
  filled m (e ∷ es) = filled (map.insert m e.0 e.1) es

  abbrev pub AreOf : FinMap R X → List (K × X) → Type 0
  AreOf m es = AllByRecursion (λ (e : K × X). map.get m e.0 ≡ Some e.1) es

  -- the one of two that is there, the first one first
  abbrev pub either : Option X → Option X → Option X
  either None b = b
  either (Some x) b = Some x

  get-filled : (es : List (K × X)) → T (is_sorted R es) → (m : FinMap R X) (q : K) → map.get (filled m es) q ≡ either (find R q es) (map.get m q)
  get-filled [] sorted m q = refl
  get-filled (e ∷ es) sorted m q =
      get-filled es (is_sorted_tail o e es sorted) (map.insert m e.0 e.1) q ∙ ap (either (find R q es)) (get-insert o m e.0 e.1 q)
      ∙ elim (eq_by_cmp R q e.0) as (λ t. eq_by_cmp R q e.0 ≡ t → either (find R q es) (cond t (Some e.1) (map.get m q)) ≡ either (cond t (Some e.1) (find R q es)) (map.get m q)) [
        | true ↦ λ t. ap (λ x. either x (Some e.1)) (find_tied_head o q e es sorted t)
        | false ↦ λ t. refl
      ] refl

  first_of : (a b : Option X) → (a ≡ None → b ≡ None) → either a b ≡ a
  first_of None b h = h refl
  first_of (Some x) b h = refl

  -- with all of them it is the map, where it had nothing that the map has not
  pub filled_all : (m n : FinMap R X) → ((q : K) → map.get m q ≡ None → map.get n q ≡ None) → filled n (entries m) ≡ m
  filled_all m n within = same_map o exact _ _ (λ q.
      get-filled (entries m) (entries_sorted m) n q ∙ ap (λ x. either x (map.get n q)) (sym (get-entries m q)) ∙ first_of (map.get m q) (map.get n q) (within q))

  pub filled_empty : (m : FinMap R X) → filled map.empty (entries m) ≡ m
  filled_empty m = filled_all m map.empty (λ q e. get-empty R q)

  put_again : (t : Bool) (x : Option X) (v : X) → (t ≡ true → x ≡ Some v) → cond t (Some v) x ≡ x
  put_again true x v h = sym (h refl)
  put_again false x v h = refl

  -- to put again what is there changes nothing
  pub inserted_again : (m : FinMap R X) (k : K) (v : X) → map.get m k ≡ Some v → map.insert m k v ≡ m
  inserted_again m k v is = same_map o exact _ _ (λ q. get-insert o m k v q ∙ elim (one_or_apart o exact q k) [
    | inl e ↦ put_again (eq_by_cmp R q k) (map.get m q) v (λ t. ap (map.get m) e ∙ is)
    | inr apart ↦ ap (λ t. cond t (Some v) (map.get m q)) apart
  ])

  deeper : (e : K × X) (es : List (K × X)) → T (is_sorted R (e ∷ es)) → (fs : List (K × X)) → AllByRecursion (λ (f : K × X). find R f.0 es ≡ Some f.1) fs → AllByRecursion (λ (f : K × X). find R f.0 (e ∷ es) ≡ Some f.1) fs
  deeper e es sorted [] all = tt
  deeper e es sorted (f ∷ fs) all =
      (ap (λ t. cond t (Some e.1) (find R f.0 es)) (tied_not_below o f.0 e es sorted f.1 all.0) ∙ all.0, deeper e es sorted fs all.1)

  each_found : (es : List (K × X)) → T (is_sorted R es) → AllByRecursion (λ (e : K × X). find R e.0 es ≡ Some e.1) es
  each_found [] sorted = tt
  each_found (e ∷ es) sorted =
      (ap (λ t. cond t (Some e.1) (find R e.0 es)) (tied o exact e.0), deeper e es sorted es (each_found es (is_sorted_tail o e es sorted)))

  as_map : (m : FinMap R X) (fs : List (K × X)) → AllByRecursion (λ (f : K × X). find R f.0 (entries m) ≡ Some f.1) fs → AreOf m fs
  as_map m [] all = tt
  as_map m (f ∷ fs) all = (get-entries m f.0 ∙ all.0, as_map m fs all.1)

  pub entries_are : (m : FinMap R X) → AreOf m (entries m)
  entries_are m = as_map m (entries m) (each_found (entries m) (entries_sorted m))

-- ---- one part of a snapshot after another

-- changes that fill a map of the state, each with an entry of another map
module _ {K X : Type 0} {R : K → K → Ordering} (o : IsTotalOrder R) (exact : IsAntisymmetric R)
    (whole : FinMap R X) (with : FinMap R X → State) (change : K × X → Change) (means : (e : K × X) (m : FinMap R X) → meaning (change e) (with m) ≡ with (map.insert m e.0 e.1))
    (sound : (m : FinMap R X) → IsPart o exact m whole → Sound (with m)) where
  leads_filled : (es : List (K × X)) (rest : List Change) (m : FinMap R X) (end : State) → AreOf o exact whole es → IsPart o exact m whole
      → Lead rest (with (filled o exact m es)) end → Lead (list_map change es ++ rest) (with m) end
  leads_filled [] rest m end are part then = then
  leads_filled (e ∷ es) rest m end are part then =
      let next = leads_filled es rest (map.insert m e.0 e.1) end are.1 (part_more o exact m whole e.0 e.1 part are.0) then in
      let here : Lead (list_map change es ++ rest) (meaning (change e) (with m)) end = subst (λ s. Lead (list_map change es ++ rest) s end) (sym (means e m)) next in
      record { sound = (sound m part, here.sound); meaning = here.meaning }

  pub leads_whole : (rest : List Change) (end : State) → Lead rest (with whole) end → Lead (list_map change (entries whole) ++ rest) (with map.empty) end
  leads_whole rest end then =
      leads_filled (entries whole) rest map.empty end (entries_are o exact whole) (empty_part o exact whole) (subst (λ m. Lead rest (with m) end) (sym (filled_empty o exact whole)) then)

-- ---- with the policies comes that none was given

abbrev none_at : Option Policy → Option StationNumber
none_at policy = option_map (λ (p : Policy). none_given) policy

-- none was given yet at a BSSID with a policy
abbrev AreNone : FinMap bssid_cmp Policy → FinMap bssid_cmp StationNumber → Type 0
AreNone policies cursors = (b : Bssid) → map.get cursors b ≡ none_at (map.get policies b)

some_at : (o : Option Policy) → is_some (none_at o) ≡ is_some o
some_at None = refl
some_at (Some p) = refl

comes : (t : Bool) (p : Policy) (o : Option Policy) → cond t (Some none_given) (none_at o) ≡ none_at (cond t (Some p) o)
comes true p o = refl
comes false p o = refl

-- so it is with a policy more
module _ (policies : FinMap bssid_cmp Policy) (cursors : FinMap bssid_cmp StationNumber) (are : AreNone policies cursors) (b : Bssid) (p : Policy) where
  with_one : (o : Option Policy) → map.get policies b ≡ o → (c : Bssid) → map.get (cursors_with o cursors b) c ≡ none_at (cond (eq_by_cmp bssid_cmp c b) (Some p) (map.get policies c))
  with_one None e c = get-insert bssid_total cursors b none_given c ∙ ap (cond (eq_by_cmp bssid_cmp c b) (Some none_given)) (are c) ∙ comes (eq_by_cmp bssid_cmp c b) p (map.get policies c)
  with_one (Some q) e c = are c ∙ elim (one_or_apart bssid_total bssid_exact c b) [
    | inl same ↦ ap none_at (ap (map.get policies) same ∙ e) ∙ ap (λ t. none_at (cond t (Some p) (map.get policies c))) (sym (ap (λ d. eq_by_cmp bssid_cmp d b) same ∙ tied bssid_total bssid_exact b))
    | inr apart ↦ ap (λ t. none_at (cond t (Some p) (map.get policies c))) (sym apart)
  ]

  none_more : AreNone (map.insert policies b p) (cursors_with (map.get policies b) cursors b)
  none_more c = with_one (map.get policies b) refl c ∙ ap none_at (sym (get-insert bssid_total policies b p c))

-- ---- the four parts of a snapshot

abbrev pub given : Bssid × StationNumber → Bool
given row = is_given row.1

module _ (s : State) (sound : Sound s) where
  -- the policies so far, with what was given last, and no other row
  abbrev with_policies : FinMap bssid_cmp Policy → FinMap bssid_cmp StationNumber → State
  with_policies policies cursors = record empty_state { policies = policies; cursors = cursors }

  -- all policies and what was given last, and the list rows so far
  abbrev with_lists : FinMap list_cmp (Unit {0}) → State
  with_lists lists = record s { stations = map.empty; lists = lists }

  -- and all of these, and the stations so far
  abbrev with_stations : FinMap station_cmp Station → State
  with_stations stations = record s { stations = stations }

  no_station : {A : Type 0} (b : Bssid) (a : Addr) → IsSome (map.get (map.empty {X = Station} {R = station_cmp}) (b, a)) → A
  no_station b a h = none_is _ (get-empty station_cmp (b, a)) h

  no_listed : {A : Type 0} (b : Bssid) (w : Which) (a : Addr) → IsSome (map.get (map.empty {X = Unit {0}} {R = list_cmp}) (b, w, a)) → A
  no_listed b w a h = none_is _ (get-empty list_cmp (b, w, a)) h

  sound_policies : (policies : FinMap bssid_cmp Policy) (cursors : FinMap bssid_cmp StationNumber) → IsPart bssid_total bssid_exact policies s.policies → AreNone policies cursors → Sound (with_policies policies cursors)
  sound_policies policies cursors part are =
      sound_part s sound (with_policies policies cursors) (empty_part station_total station_exact s.stations) (empty_part list_total list_exact s.lists) part
      (λ b a h. no_station b a h) (λ b w a h. no_listed b w a h) (λ b. ap is_some (are b) ∙ some_at (map.get policies b))

  sound_lists : (lists : FinMap list_cmp (Unit {0})) → IsPart list_total list_exact lists s.lists → Sound (with_lists lists)
  sound_lists lists part =
      sound_part s sound (with_lists lists) (empty_part station_total station_exact s.stations) part (λ k v g. g)
      (λ b a h. no_station b a h) (λ b w a h. sound.lists_have_policy b w a (part_some list_total list_exact lists s.lists part (b, w, a) h)) sound.cursors_have_policy

  sound_stations : (stations : FinMap station_cmp Station) → IsPart station_total station_exact stations s.stations → Sound (with_stations stations)
  sound_stations stations part =
      sound_part s sound (with_stations stations) part (λ k v g. g) (λ k v g. g)
      (λ b a h. let there = part_some station_total station_exact stations s.stations part (b, a) h in (sound.stations_have_policy b a there, sound.none_denied b a there))
      sound.lists_have_policy sound.cursors_have_policy

  leads_policies : (es : List (Bssid × Policy)) (rest : List Change) (m : FinMap bssid_cmp Policy) (n : FinMap bssid_cmp StationNumber) → AreOf bssid_total bssid_exact s.policies es → IsPart bssid_total bssid_exact m s.policies → AreNone m n
      → ((new : FinMap bssid_cmp StationNumber) → AreNone (filled bssid_total bssid_exact m es) new → Lead rest (with_policies (filled bssid_total bssid_exact m es) new) s) → Lead (list_map policy_change es ++ rest) (with_policies m n) s
  leads_policies [] rest m n of part are then = then n are
  leads_policies (e ∷ es) rest m n of part are then =
      let next = leads_policies es rest (map.insert m e.0 e.1) (cursors_with (map.get m e.0) n e.0) of.1 (part_more bssid_total bssid_exact m s.policies e.0 e.1 part of.0) (none_more m n are e.0 e.1) then in
      record { sound = (sound_policies m n part are, next.sound); meaning = next.meaning }

  -- what was given last, where it is something
  abbrev HasNone : FinMap bssid_cmp StationNumber → Type 0
  HasNone m = (b : Bssid) (last : StationNumber) → map.get s.cursors b ≡ Some last → is_given last ≡ false → map.get m b ≡ Some last

  has_none_more : (m : FinMap bssid_cmp StationNumber) (b : Bssid) (last : StationNumber) → map.get s.cursors b ≡ Some last → HasNone m → HasNone (map.insert m b last)
  has_none_more m b last is has c old at none = elim (one_or_apart bssid_total bssid_exact c b) [
    | inl same ↦ ap (map.get (map.insert m b last)) same ∙ get_inserted bssid_total bssid_exact m b last ∙ sym is ∙ ap (map.get s.cursors) (sym same) ∙ at
    | inr apart ↦ get_insert_other bssid_total bssid_exact m b last c apart ∙ has c old at none
  ]

  leads_cursors : (es : List (Bssid × StationNumber)) (rest : List Change) (m : FinMap bssid_cmp StationNumber) → AreOf bssid_total bssid_exact s.cursors es → HasNone m → Sound (with_policies s.policies m)
      → Lead rest (with_policies s.policies (filled bssid_total bssid_exact m es)) s → Lead (list_map cursor_change (filter given es) ++ rest) (with_policies s.policies m) s
  leads_cursors [] rest m of has is then = then
  leads_cursors (e ∷ es) rest m of has is then =
      elim (is_given e.1) as (λ t. is_given e.1 ≡ t → Lead (list_map cursor_change (cond t (e ∷ filter given es) (filter given es)) ++ rest) (with_policies s.policies m) s) [
        | true ↦ λ t.
            let more = sound_cursor (with_policies s.policies m) e.0 e.1 is (sym (sound.cursors_have_policy e.0) ∙ ap is_some of.0) in
            let next = leads_cursors es rest (map.insert m e.0 e.1) of.1 (has_none_more m e.0 e.1 of.0 has) more then in
            record { sound = (is, next.sound); meaning = next.meaning }
        | false ↦ λ t. leads_cursors es rest m of.1 has is
            (subst (λ n. Lead rest (with_policies s.policies (filled bssid_total bssid_exact n es)) s) (inserted_again bssid_total bssid_exact m e.0 e.1 (has e.0 e.1 of.0 t)) then)
      ] refl

  -- all of it, from where none was given
  module _ (m : FinMap bssid_cmp StationNumber) (are : AreNone s.policies m) where
    has_none : HasNone m
    has_none b last at none =
        let policy = value_of (policy_at s b) (sym (sound.cursors_have_policy b) ∙ ap is_some at) in
        are b ∙ ap none_at policy.1 ∙ ap Some (sym (same_station_number last none_given (eqb-true _ _ (not_false _ none))))

    all_cursors : filled bssid_total bssid_exact m (entries s.cursors) ≡ s.cursors
    all_cursors = filled_all bssid_total bssid_exact s.cursors m (λ b none. are b ∙ ap none_at (no_value (policy_at s b) (sym (sound.cursors_have_policy b) ∙ ap is_some none)))

    leads_all_cursors : (rest : List Change) → Lead rest (with_policies s.policies s.cursors) s → Lead (cursor_changes s.cursors ++ rest) (with_policies s.policies m) s
    leads_all_cursors rest then =
        leads_cursors (entries s.cursors) rest m (entries_are bssid_total bssid_exact s.cursors) has_none (sound_policies s.policies m (λ k v g. g) are)
        (subst (λ n. Lead rest (with_policies s.policies n) s) (sym all_cursors) then)

  leads_all_policies : (rest : List Change) → ((new : FinMap bssid_cmp StationNumber) → AreNone s.policies new → Lead rest (with_policies s.policies new) s) → Lead (policy_changes s.policies ++ rest) empty_state s
  leads_all_policies rest then =
      leads_policies (entries s.policies) rest map.empty map.empty (entries_are bssid_total bssid_exact s.policies) (empty_part bssid_total bssid_exact s.policies)
      (λ b. get-empty bssid_cmp b ∙ ap none_at (sym (get-empty bssid_cmp b)))
      (subst (λ m. (new : FinMap bssid_cmp StationNumber) → AreNone m new → Lead rest (with_policies m new) s) (sym (filled_empty bssid_total bssid_exact s.policies)) then)

  leads_stations : Lead (station_changes s.stations ++ []) (with_lists s.lists) s
  leads_stations = leads_whole station_total station_exact s.stations with_stations station_change (λ e m. refl) sound_stations [] s (record { sound = sound; meaning = refl })

  pub canonical_leads : Lead (canonical s) empty_state s
  canonical_leads =
      let stations = subst (λ l. Lead l (with_lists s.lists) s) (append-nil (station_changes s.stations)) leads_stations in
      let lists = leads_whole list_total list_exact s.lists with_lists list_change (λ e m. refl) sound_lists (station_changes s.stations) s stations in
      leads_all_policies _ (λ new are. leads_all_cursors new are _ lists)
