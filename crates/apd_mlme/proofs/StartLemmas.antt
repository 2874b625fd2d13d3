-- What the first start of a BSSID leaves, and a later one.
use Rattle.std.proofs.Common.{◌≡◌, ◌≢◌, ℕ, ◌+◌, ◌≤◌, ◌<◌, Bool, true, false, cond, ◌&&◌, ◌||◌, List, [], ◌∷◌, ◌++◌, None, inr, length, refl, sym, ap, subst, ◌∙◌, IsSome, arith, append-nil, Some, inl, Option}
use Rattle.apd_mlme.proofs.Words.{Accept, Addr, Bssid, Change, Conf, Contains, Contains-from_any, Deny, FinMap, IsList, IsListed, SetOf, Sound, State, StationNumber, StaySound, Which, add_to_list, additions, addr_cmp, addr_total, allowed, apart, bssid_cmp, bssid_exact, bssid_total, configure_verdict, contains, contains-insert, count_in, cursors_with, differ, either, eq_by_cmp, eq_by_cmp_equiv, false_from_ne_true, first_start, get-empty, get-entries, get-from_entries, get_insert_other, get_inserted, is_allowed_under, is_among, is_list_row_of, is_some, later_start, len-empty, list_any-from_Contains, list_cmp, list_count, list_exact, list_total, meaning_of, meaning_of-append, mine_is, no_value, none_given, none_is, policy_at, policy_of, retain_keys-insert_out, same_addr, same_row, same_set, set_policy, sound_add, station_at, tied, which_cmp, with_additions}
use Rattle.std.specs.Prelude.{◌↔◌}
use Rattle.std.specs.FinMap as map
use Rattle.apd_base.specs.declared.station.Policy.{Policy as BssPolicy}
use Rattle.apd_table.proofs.ListCounts.{list_count-is}
use Rattle.apd_table.proofs.MembersLemmas.{without_policy}
use Rattle.apd_table.proofs.PolicySet.{sound_set, policy_here, policy_elsewhere}
use Rattle.apd_mlme.specs.laws.Start.{IsStarted}
use Rattle.apd_record.specs.declared.change.Change.TheVariants.{Policy}
use Rattle.apd_mlme.proofs.EnforcementLemmas.{Makes, rest, enforced_here, enforced_elsewhere, enforced_sound}

-- a first policy brings a cursor, and a later one leaves it
cursors_first : (o : Option BssPolicy) → is_some o ≡ false → (cursors : FinMap bssid_cmp StationNumber) (b : Bssid) → cursors_with o cursors b ≡ map.insert cursors b none_given
cursors_first None e cursors b = refl
cursors_first (Some policy) e cursors b = cc

cursors_later : (o : Option BssPolicy) → IsSome o → (cursors : FinMap bssid_cmp StationNumber) (b : Bssid) → cursors_with o cursors b ≡ cursors
cursors_later None h cursors b = cc
cursors_later (Some policy) h cursors b = refl

one_more : (t : Bool) (n : ℕ) → cond t n (n + 1) ≤ n + 1
one_more true n = omega arith
one_more false n = omega arith

none_put : (e f t : Bool) → t ≡ ((e && (f && false)) || t)
none_put true true t = refl
none_put true false t = refl
none_put false f t = refl

one_put : (e f g l t : Bool) → ((e && (f && g)) || ((e && (f && l)) || t)) ≡ ((e && (f && (g || l))) || t)
one_put true true true l t = refl
one_put true true false l t = refl
one_put true false g l t = refl
one_put false f g l t = refl

-- what list rows have with addresses beside them
pub listed : (b : Bssid) (w : Which) (as' : List Addr) (rows : SetOf list_cmp) (c : Bssid) (v : Which) (d : Addr)
    → contains (with_additions b w as' rows) (c, v, d) ≡ ((eq_by_cmp bssid_cmp c b && (eq_by_cmp which_cmp v w && is_among d as')) || contains rows (c, v, d))
listed b w [] rows c v d =
    ap is_some (get-from_entries list_total (map.entries rows) (c, v, d) ∙ sym (get-entries rows (c, v, d))) ∙ none_put (eq_by_cmp bssid_cmp c b) (eq_by_cmp which_cmp v w) (contains rows (c, v, d))
listed b w (a ∷ as') rows c v d =
    contains-insert list_total list_exact (with_additions b w as' rows) (b, w, a) (c, v, d) ∙ (λ i. same_row c b v w d a i || listed b w as' rows c v d i)
    ∙ one_put (eq_by_cmp bssid_cmp c b) (eq_by_cmp which_cmp v w) (eq_by_cmp addr_cmp d a) (is_among d as') (contains rows (c, v, d))

swapped : (x k t : Bool) → (x || (k || t)) ≡ (k || (x || t))
swapped true true t = refl
swapped true false t = refl
swapped false k t = refl

-- so it does not matter which address is put there first
sooner : (b : Bssid) (w : Which) (a : Addr) (as' : List Addr) (rows : SetOf list_cmp) → with_additions b w as' (map.insert rows (b, w, a) tt) ≡ with_additions b w (a ∷ as') rows
sooner b w a as' rows = same_set list_total list_exact _ _ (λ q.
    let among = eq_by_cmp bssid_cmp q.0 b && (eq_by_cmp which_cmp q.1 w && is_among q.2 as') in
    listed b w as' (map.insert rows (b, w, a) tt) q.0 q.1 q.2 ∙ ap (λ t. among || t) (contains-insert list_total list_exact rows (b, w, a) q) ∙ swapped among (eq_by_cmp list_cmp q (b, w, a)) (contains rows q)
    ∙ sym (contains-insert list_total list_exact (with_additions b w as' rows) (b, w, a) q ∙ ap (λ t. eq_by_cmp list_cmp q (b, w, a) || t) (listed b w as' rows q.0 q.1 q.2)))

-- additions put in list rows, and leave all else
pub additions_meaning : (b : Bssid) (w : Which) (as' : List Addr) (s : State) → meaning_of (additions b w as') s ≡ record s { lists = with_additions b w as' s.lists }
additions_meaning b w [] s = ap (λ l. record s { lists = l }) (same_set list_total list_exact s.lists (with_additions b w [] s.lists) (λ q. sym (ap is_some (get-from_entries list_total (map.entries s.lists) q ∙ sym (get-entries s.lists q)))))
additions_meaning b w (a ∷ as') s = additions_meaning b w as' (add_to_list b w a s) ∙ ap (λ l. record s { lists = l }) (sooner b w a as' s.lists)

pub first_meaning : (s : State) (conf : Conf) (b : Bssid) (accept deny : List Addr) → is_some (policy_at s b) ≡ false → meaning_of (first_start s conf b accept deny).changes s ≡ (first_start s conf b accept deny).state
first_meaning s conf b accept deny new =
    let started = set_policy b (policy_of conf) s in
    meaning_of-append (additions b Accept accept) (additions b Deny deny) started
    ∙ ap (meaning_of (additions b Deny deny)) (additions_meaning b Accept accept started)
    ∙ additions_meaning b Deny deny (record started { lists = with_additions b Accept accept s.lists })
    ∙ ap (λ c. record (first_start s conf b accept deny).state { cursors = c }) (cursors_first (policy_at s b) new s.cursors b)

or_none : (t u : Bool) → u ≡ false → (t || u) ≡ t
or_none true u e = refl
or_none false u e = e

module _ (b : Bssid) where
  -- the BSSID has a policy row, and no station
  record IsEmptyHere (s : State) : Type 0 where
    policy : IsSome (policy_at s b)
    nobody : (a : Addr) → station_at s b a ≡ None

  counted_more : (w : Which) (a : Addr) (s : State) → list_count (add_to_list b w a s) b w ≤ list_count s b w + 1
  counted_more w a s = rw (count_in s b w a b w (mine_is s b w a)) (one_more (contains s.lists (b, w, a)) (list_count s b w))

  -- additions for which there is room leave sound states, where the BSSID has no station
  additions_stay : (w : Which) (as' : List Addr) (rest : List Change) (s : State) → Sound s → IsEmptyHere s → list_count s b w + length as' ≤ 1024
      → (Sound (meaning_of (additions b w as') s) → StaySound rest (meaning_of (additions b w as') s)) → StaySound (additions b w as' ++ rest) s
  additions_stay w [] rest s sound started room next = next sound
  additions_stay w (a ∷ as') rest s sound started room next =
      let one = counted_more w a s in
      let more : list_count s b w + (length as' + 1) ≤ 1024 = omega arith in (
        sound,
        additions_stay w as' rest (add_to_list b w a s)
            (sound_add s b w a sound (record { policy = started.policy; room = inr (omega arith); allowed = λ d h. none_is (station_at s b d) (started.nobody d) h }))
            (record { policy = started.policy; nobody = started.nobody }) (omega arith) next,
      )

  -- the accept list's leave the deny list
  deny_stays : (as' : List Addr) (s : State) → list_count (meaning_of (additions b Accept as') s) b Deny ≡ list_count s b Deny
  deny_stays [] s = refl
  deny_stays (a ∷ as') s =
      let other : is_list_row_of b Deny (b, Accept, a) ≡ false = ap (λ t. t && eq_by_cmp which_cmp Deny Accept) (tied bssid_total bssid_exact b) in
      deny_stays as' (add_to_list b Accept a s) ∙ ap map.len (retain_keys-insert_out list_total list_exact (is_list_row_of b Deny) s.lists (b, Accept, a) tt other)

  -- where a sound state has no policy row for the BSSID, it has no other row of it
  module _ (s : State) (new : is_some (policy_at s b) ≡ false) (sound : Sound s) where
    nobody : (a : Addr) → station_at s b a ≡ None
    nobody = without_policy s b sound (no_value (policy_at s b) new)

    pub unlisted : (w : Which) (a : Addr) → contains s.lists (b, w, a) ≡ false
    unlisted w a = false_from_ne_true (contains s.lists (b, w, a)) (λ h. differ _ new (sound.lists_have_policy b w a h))

    no_list : (w : Which) → list_count s b w ≡ 0
    no_list w = list_count-is b w s.lists map.empty (λ a. ap is_some (get-empty addr_cmp a) ∙ sym (unlisted w a)) ∙ len-empty addr_cmp (Unit {0})

    module _ (conf : Conf) (accept deny : List Addr) where
      abbrev started : State
      started = set_policy b (policy_of conf) s

      abbrev accepted : State
      accepted = meaning_of (additions b Accept accept) started

      is_started : IsEmptyHere started
      is_started = record { policy = ap is_some (policy_here s b (policy_of conf)); nobody = nobody }

      still_started : IsEmptyHere accepted
      still_started = subst IsEmptyHere (sym (additions_meaning b Accept accept started)) (record { policy = is_started.policy; nobody = nobody })

      sound_started : map.len s.policies < 8 → Sound started
      sound_started room = sound_set s b (policy_of conf) sound (record { room = inr room; allowed = λ a h. none_is (station_at s b a) (nobody a) h })

      accept_room : IsList accept → list_count started b Accept + length accept ≤ 1024
      accept_room list = let none = no_list Accept in let few = list.few in omega arith

      deny_room : IsList deny → list_count accepted b Deny + length deny ≤ 1024
      deny_room list = let same = deny_stays accept started in let none = no_list Deny in let few = list.few in omega arith

      pub first_sound : map.len s.policies < 8 → IsList accept → IsList deny → StaySound (first_start s conf b accept deny).changes s
      first_sound room accept_list deny_list = (
        sound,
        additions_stay Accept accept (additions b Deny deny) started (sound_started room) is_started (accept_room accept_list) (λ then.
            subst (λ changes. StaySound changes accepted) (append-nil (additions b Deny deny))
            (additions_stay Deny deny [] accepted then still_started (deny_room deny_list) (λ last. last))),
      )

      abbrev lists : SetOf list_cmp
      lists = with_additions b Deny deny (with_additions b Accept accept s.lists)

      abbrev addresses : Which → List Addr
      addresses Accept = accept
      addresses Deny = deny

      -- no list row of the BSSID is an old one
      list_is : (w : Which) (a : Addr) → contains lists (b, w, a) ≡ is_among a (addresses w)
      list_is w a =
          let rows = with_additions b Accept accept s.lists in
          listed b Deny deny rows b w a ∙ ap (λ t. (t && (eq_by_cmp which_cmp w Deny && is_among a deny)) || contains rows (b, w, a)) (tied bssid_total bssid_exact b)
          ∙ ap (λ t. (eq_by_cmp which_cmp w Deny && is_among a deny) || t) (listed b Accept accept s.lists b w a
          ∙ ap (λ t. (t && (eq_by_cmp which_cmp w Accept && is_among a accept)) || contains s.lists (b, w, a)) (tied bssid_total bssid_exact b)
          ∙ or_none (eq_by_cmp which_cmp w Accept && is_among a accept) (contains s.lists (b, w, a)) (unlisted w a))
          ∙ by_list w
        where
          by_list : (v : Which) → ((eq_by_cmp which_cmp v Deny && is_among a deny) || (eq_by_cmp which_cmp v Accept && is_among a accept)) ≡ is_among a (addresses v)
          by_list Accept = refl
          by_list Deny = or_none (is_among a deny) false refl

      on_list : (w : Which) (a : Addr) → IsListed (first_start s conf b accept deny).state b w a ↔ Contains (addresses w) a
      on_list w a = (
        λ h. Contains-from_any (λ x y e. same_addr y x e) a (addresses w) (sym (list_is w a) ∙ h),
        λ h. list_is w a ∙ list_any-from_Contains (eq_by_cmp_equiv addr_total) a (addresses w) h,
      )

      other_rows : (c : Bssid) → c ≢ b → (w : Which) (a : Addr) → contains lists (c, w, a) ≡ contains s.lists (c, w, a)
      other_rows c ne w a =
          let other = apart bssid_total bssid_exact c b ne in
          let rows = with_additions b Accept accept s.lists in
          listed b Deny deny rows c w a ∙ ap (λ t. (t && (eq_by_cmp which_cmp w Deny && is_among a deny)) || contains rows (c, w, a)) other
          ∙ listed b Accept accept s.lists c w a ∙ ap (λ t. (t && (eq_by_cmp which_cmp w Accept && is_among a accept)) || contains s.lists (c, w, a)) other

      pub first_started : IsStarted s conf b accept deny (first_start s conf b accept deny).state
      first_started = record {
        policy = policy_here s b (policy_of conf);
        first_cursor = λ _. get_inserted bssid_total bssid_exact s.cursors b none_given;
        cursor = λ known. differ _ new known;
        accepted = λ _ a. on_list Accept a;
        denied = λ _ a. on_list Deny a;
        stored = λ h. differ _ new h;
        stations = λ a. nobody a ∙ sym (ap (λ o. cond (allowed (first_start s conf b accept deny).state b a) o None) (nobody a) ∙ either (allowed (first_start s conf b accept deny).state b a) None);
        other_policies = λ c ne. policy_elsewhere s b (policy_of conf) c (apart bssid_total bssid_exact c b ne);
        other_cursors = λ c ne. get_insert_other bssid_total bssid_exact s.cursors b none_given c (apart bssid_total bssid_exact c b ne);
        other_lists = other_rows;
        other_stations = λ c ne a. refl;
      }

module _ (s : State) (conf : Conf) (b : Bssid) (known : IsSome (policy_at s b)) where
  -- the policy is made anew, and nothing else
  pub later_makes : Makes s b (policy_of conf) (Policy b (policy_of conf)) s.lists (map.insert s.policies b (policy_of conf))
  later_makes k = ap (λ c. record s { stations = k; policies = map.insert s.policies b (policy_of conf); cursors = c }) (cursors_later (policy_at s b) known s.cursors b)

  pub later_sound : Sound s → StaySound (later_start s conf b).changes s
  later_sound =
      enforced_sound s b (policy_of conf) (Policy b (policy_of conf)) s.lists (map.insert s.policies b (policy_of conf)) later_makes (policy_here s b (policy_of conf))
      (λ left none. sound_set (rest s b (policy_of conf) (Policy b (policy_of conf)) s.lists (map.insert s.policies b (policy_of conf))) b (policy_of conf) left (record { room = inl known; allowed = none }))

  pub later_started : (accept deny : List Addr) → IsStarted s conf b accept deny (later_start s conf b).state
  later_started accept deny =
      let policies = map.insert s.policies b (policy_of conf) in
      let here : policy_at (later_start s conf b).state b ≡ Some (policy_of conf) = policy_here s b (policy_of conf) in
      record {
        policy = here;
        first_cursor = λ new. none_is (policy_at s b) new known;
        cursor = λ _. refl;
        accepted = λ new a. none_is (policy_at s b) new known;
        denied = λ new a. none_is (policy_at s b) new known;
        stored = λ h. refl;
        stations = λ d. enforced_here s b (policy_of conf) (Policy b (policy_of conf)) s.lists policies d ∙ ap (λ o. cond (is_allowed_under (later_start s conf b).state b d o) (station_at s b d) None) (sym here);
        other_policies = λ c ne. policy_elsewhere s b (policy_of conf) c (apart bssid_total bssid_exact c b ne);
        other_cursors = λ c ne. refl;
        other_lists = λ c ne w a. refl;
        other_stations = enforced_elsewhere s b (policy_of conf) (Policy b (policy_of conf)) s.lists policies;
      }

pub configure_started : (s : State) (conf : Conf) (b : Bssid) (accept deny : List Addr) → Sound s → IsStarted s conf b accept deny (configure_verdict s conf b accept deny).state
configure_started s conf b accept deny sound =
    elim (is_some (policy_at s b)) as (λ t. is_some (policy_at s b) ≡ t → IsStarted s conf b accept deny (cond t (later_start s conf b) (first_start s conf b accept deny)).state) [
      | true ↦ λ e. later_started s conf b e accept deny
      | false ↦ λ e. first_started b s e sound conf accept deny
    ] refl
