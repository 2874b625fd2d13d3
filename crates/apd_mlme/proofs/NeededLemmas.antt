-- Each change that an event makes is one that the state did not have, but for those that are always made.
use Rattle.std.proofs.Common.{◌≡◌, ◌≢◌, true, false, cond, ◌&&◌, ◌||◌, List, [], ◌∷◌, ◌++◌, Some, None, ◌⊎◌, inl, inr, refl, sym, ap, subst, ◌∙◌, IsSome}
use Rattle.apd_mlme.proofs.Words.{Accept, Addr, Aid, AreNeeded, Associates, AssociationRequest, Authenticated, Bssid, Change, Conf, Configure, Cursor, Deny, Drop, Happening, Heard, IsAlwaysMade, IsFit, IsList, Kind, ListAdd, Put, Sound, State, Station, Verdict, Which, additions, addr_cmp, addr_exact, addr_total, addresses_at, aid_at, aid_of, and_parts, any_mapped, any_passes, bssid_cmp, bssids_elsewhere, contains, contains-insert, cursor_changes, denied_among, differ, drop_station, drops, drops_rest, eq_by_cmp, false_from_ne_true, first_changes, first_false, get_inserted, is_among, is_some, list_exact, list_total, meaning, meaning_of, no_value, none_is, not_yes, policy_at, policy_of, put_backs, put_station, row_of, same_addr, same_bssid, same_row, second_false, second_true, sender_of, set_policy, station_at, station_exact, station_total, tied, verdict, which_cmp}
use Rattle.std.specs.FinMap as map
use Rattle.apd_mlme.specs.rules.Association as rule
use Rattle.apd_mlme.specs.rules.Identifiers.{number_of}
use Rattle.apd_mlme.specs.laws.NothingElse as always
use Rattle.apd_mlme.proofs.ElsewhereLemmas.{is_bssid_among, among_elsewhere, first_among}
use Rattle.apd_mlme.proofs.EnforcementLemmas.{denied, new}
use Rattle.apd_mlme.proofs.RisingLemmas.{Apart, Differ, addresses_rise, apart-filter, denied_rise, keys_apart, rise_differ}
use Rattle.apd_mlme.proofs.RowLemmas.{is_row, put_row, station_dropped, station_put, this_row}
use Rattle.apd_mlme.proofs.StartLemmas.{additions_meaning, listed, unlisted}
use Rattle.apd_mlme.proofs.Shapes as shape
use Rattle.apd_mlme.proofs.Shapes.{IsAsked, Shape, by_shape}
use Rattle.apd_table.specs.Rows as rows

-- an address of a BSSID's rows has one
address_has_row : (s : State) (b : Bssid) (d : Addr) → is_among d (addresses_at s b) ≡ true → IsSome (station_at s b d)
address_has_row s b d among =
    let test = λ (row : (Bssid × Addr) × Station). rows.is_station_row_of b row && eq_by_cmp addr_cmp d row.0.1 in
    let found = any_passes station_total station_exact test s.stations (sym (any_mapped (eq_by_cmp addr_cmp d) (λ (row : (Bssid × Addr) × Station). row.0.1) (rows.is_station_row_of b) (map.entries s.stations)) ∙ among) in
    let parts = and_parts (rows.is_station_row_of b (found.0, found.1)) (eq_by_cmp addr_cmp d (found.0).1) found.3 in
    let bssid : b ≡ (found.0).0 = same_bssid (found.0).0 b parts.0 in
    let addr : d ≡ (found.0).1 = same_addr (found.0).1 d parts.1 in
    ap is_some ((λ i. station_at s (bssid i) (addr i)) ∙ found.2)

module _ (made : Change → Type 0) where
  -- changes in two parts
  needed-append : (xs ys : List Change) (s : State) → AreNeeded made xs s → AreNeeded made ys (meaning_of xs s) → AreNeeded made (xs ++ ys) s
  needed-append [] ys s first second = second
  needed-append (x ∷ xs) ys s first second = (first.0, needed-append xs ys (meaning x s) first.1 second)

  -- ---- one row
  put_needed : (s : State) (b : Bssid) (a : Addr) → IsSome (aid_at s b a) → meaning (Put b a Authenticated) s ≢ s
  put_needed s b a known same = none_is (aid_at s b a) (sym (ap (λ x. aid_at x b a) same) ∙ ap aid_of (put_row s b a Authenticated)) known

  new_needed : (s : State) (b : Bssid) (a : Addr) → is_some (station_at s b a) ≡ false → meaning (Put b a Authenticated) s ≢ s
  new_needed s b a none same = differ (is_some (station_at s b a)) none (ap is_some (sym (ap (λ x. station_at x b a) same) ∙ put_row s b a Authenticated))

  drop_needed : (s : State) (b : Bssid) (a : Addr) → IsSome (station_at s b a) → meaning (Drop b a) s ≢ s
  drop_needed s b a known same =
      none_is (station_at s b a) (sym (ap (λ x. station_at x b a) same) ∙ station_dropped s b a b a ∙ ap (λ t. cond t None (station_at s b a)) (this_row b a)) known

  -- ---- several
  another : (b : Bssid) (a d : Addr) (as' : List Addr) → is_among a as' ≡ false → is_among d as' ≡ true → is_row b a b d ≡ false
  another b a d as' none among =
      second_false (eq_by_cmp bssid_cmp b b) (eq_by_cmp addr_cmp d a)
      (false_from_ne_true (eq_by_cmp addr_cmp d a) (λ e. differ (is_among a as') none (ap (λ x. is_among x as') (sym (same_addr a d e)) ∙ among)))

  drops_needed : (b : Bssid) (as' : List Addr) → Differ as' → (s : State) → ((d : Addr) → is_among d as' ≡ true → IsSome (station_at s b d)) → AreNeeded made (drops b as') s
  drops_needed b [] apart s known = tt
  drops_needed b (a ∷ as') apart s known = (
    inr (drop_needed s b a (known a (ap (λ t. t || is_among a as') (tied addr_total addr_exact a)))),
    drops_needed b as' apart.1 (drop_station b a s) (λ d among.
        subst IsSome (sym (station_dropped s b a b d ∙ ap (λ t. cond t None (station_at s b d)) (another b a d as' apart.0 among))) (known d (second_true (eq_by_cmp addr_cmp d a) (is_among d as') among))),
  )

  elsewhere_row : (a : Addr) (x c : Bssid) (bssids : List Bssid) → is_bssid_among x bssids ≡ false → is_bssid_among c bssids ≡ true → is_row x a c a ≡ false
  elsewhere_row a x c bssids none among =
      first_false (eq_by_cmp bssid_cmp c x) (eq_by_cmp addr_cmp a a)
      (false_from_ne_true (eq_by_cmp bssid_cmp c x) (λ e. differ (is_bssid_among x bssids) none (ap (λ y. is_bssid_among y bssids) (sym (same_bssid x c e)) ∙ among)))

  put_backs_needed : (a : Addr) (bssids : List Bssid) → Apart bssids → (s : State) → ((c : Bssid) → is_bssid_among c bssids ≡ true → IsSome (aid_at s c a)) → AreNeeded made (put_backs a bssids) s
  put_backs_needed a [] apart s known = tt
  put_backs_needed a (x ∷ bssids) apart s known = (
    inr (put_needed s x a (known x (first_among x bssids))),
    put_backs_needed a bssids apart.1 (put_station x a Authenticated s) (λ c among.
        subst IsSome (sym (ap aid_of (station_put s x a Authenticated c a ∙ ap (λ t. cond t (Some Authenticated) (station_at s c a)) (elsewhere_row a x c bssids apart.0 among))))
        (known c (second_true (eq_by_cmp bssid_cmp c x) (is_bssid_among c bssids) among))),
  )

  -- ---- a first start
  added : (b : Bssid) (w : Which) (a d : Addr) (s : State) → eq_by_cmp addr_cmp d a ≡ false → contains s.lists (b, w, d) ≡ false → contains (meaning (ListAdd b w a) s).lists (b, w, d) ≡ false
  added b w a d s apart none =
      contains-insert list_total list_exact s.lists (b, w, a) (b, w, d) ∙ ap (λ t. t || contains s.lists (b, w, d)) (same_row b b w w d a ∙ second_false (eq_by_cmp bssid_cmp b b) _ (second_false (eq_by_cmp which_cmp w w) (eq_by_cmp addr_cmp d a) apart)) ∙ none

  additions_needed : (b : Bssid) (w : Which) (as' : List Addr) → Differ as' → (s : State) → ((d : Addr) → is_among d as' ≡ true → contains s.lists (b, w, d) ≡ false) → AreNeeded made (additions b w as') s
  additions_needed b w [] apart s none = tt
  additions_needed b w (a ∷ as') apart s none = (
    inr (λ same. differ (contains s.lists (b, w, a)) (none a (ap (λ t. t || is_among a as') (tied addr_total addr_exact a)))
        (sym (ap (λ x. contains x.lists (b, w, a)) same) ∙ ap is_some (get_inserted list_total list_exact s.lists (b, w, a) tt))),
    additions_needed b w as' apart.1 (meaning (ListAdd b w a) s) (λ d among.
        added b w a d s (false_from_ne_true (eq_by_cmp addr_cmp d a) (λ e. differ (is_among a as') apart.0 (ap (λ x. is_among x as') (sym (same_addr a d e)) ∙ among))) (none d (second_true (eq_by_cmp addr_cmp d a) (is_among d as') among))),
  )

-- ---- association
module _ (h : Happening) (s : State) (confs : List Conf) (conf : Conf) (b : Bssid) (kind : Kind) (request : AssociationRequest) (aid : Aid) (asked : IsAsked h b request.sender) (accepted : Associates s confs b asked.0) where
  abbrev a : Addr
  a = request.sender

  abbrev Made : Change → Type 0
  Made = IsAlwaysMade s confs h

  row_made : Made (Put b a (row_of request aid))
  row_made = subst (λ x. IsAlwaysMade s confs x (Put b a (row_of request aid))) (sym asked.1) (subst (λ d. IsAlwaysMade s confs (Heard b asked.0) (Put b d (row_of request aid))) asked.2 (always.row b asked.0 _ accepted))

  given_made : (t : State) → AreNeeded Made (cursor_changes s b a aid) t
  given_made t =
      elim (is_some (aid_at s b a)) as (λ u. is_some (aid_at s b a) ≡ u → AreNeeded Made (cond u [] (Cursor b (number_of aid) ∷ [])) t) [
        | true ↦ λ known. tt
        | false ↦ λ none.
            let new : aid_at s b (sender_of asked.0) ≡ None = ap (aid_at s b) asked.2 ∙ no_value (aid_at s b a) none in
            (inl (subst (λ x. IsAlwaysMade s confs x (Cursor b (number_of aid))) (sym asked.1) (always.given b asked.0 (number_of aid) accepted new)), tt)
      ] refl

  associated_needed : AreNeeded Made (rule.acceptance s confs conf b kind request aid).changes s
  associated_needed =
      let others = bssids_elsewhere s b a in
      needed-append Made (put_backs a others) (Put b a (row_of request aid) ∷ cursor_changes s b a aid) s
      (put_backs_needed Made a others (apart-filter (rule.is_elsewhere s b a) (map.keys s.policies) (keys_apart s.policies)) s (λ c among. (and_parts _ _ (and_parts _ _ (sym (among_elsewhere s b a c) ∙ among)).0).1))
      (inl row_made, given_made _)

-- the other list is left
module _ (b : Bssid) where
  accepted_stays : (as' : List Addr) (s : State) (d : Addr) → contains (meaning_of (additions b Accept as') s).lists (b, Deny, d) ≡ contains s.lists (b, Deny, d)
  accepted_stays as' s d = ap (λ x. contains x.lists (b, Deny, d)) (additions_meaning b Accept as' s) ∙ listed b Accept as' s.lists b Deny d ∙ ap (λ t. t || contains s.lists (b, Deny, d)) (second_false (eq_by_cmp bssid_cmp b b) false refl)

module _ (s : State) (confs : List Conf) (sound : Sound s) where
  started_needed : (conf : Conf) (b : Bssid) (accept deny : List Addr) → IsList accept → IsList deny → is_some (policy_at s b) ≡ false → AreNeeded (IsAlwaysMade s confs (Configure b accept deny)) (first_changes conf b accept deny) s
  started_needed conf b accept deny accept_list deny_list first =
      let made = IsAlwaysMade s confs (Configure b accept deny) in
      let started = set_policy b (policy_of conf) s in (
        inl (always.started b accept deny (policy_of conf)),
        needed-append made (additions b Accept accept) (additions b Deny deny) started
            (additions_needed made b Accept accept (rise_differ accept accept_list.rising) started (λ d among. unlisted b s first sound Accept d))
            (additions_needed made b Deny deny (rise_differ deny deny_list.rising) (meaning_of (additions b Accept accept) started) (λ d among. accepted_stays b accept started d ∙ unlisted b s first sound Deny d)),
      )

  module _ (h : Happening) where
    abbrev made : Change → Type 0
    made = IsAlwaysMade s confs h

    shape_needed : IsFit s confs h → (v : Verdict) → Shape s confs h v → AreNeeded made v.changes s
    shape_needed fit v shape.silent = tt
    shape_needed fit v (shape.told reply there so one named) = tt
    shape_needed fit v (shape.admitted conf b request there is e) = (inr (new_needed made s b request.sender (not_yes _ (and_parts _ _ e).1)), tt)
    shape_needed fit v (shape.left b a there own known) = (inr (put_needed made s b a known), tt)
    shape_needed fit v (shape.gone b a there own known) = (inr (drop_needed made s b a known), tt)
    shape_needed fit v (shape.ended b a reason there known others) = (inr (put_needed made s b a known), tt)
    shape_needed fit v (shape.dropped b a reason there known others) = (inr (drop_needed made s b a known), tt)
    shape_needed fit v (shape.associated conf b kind request aid there known own asked accepted) = associated_needed h s confs conf b kind request aid asked accepted
    shape_needed fit v (shape.emptied b reason deauth there to_all) = drops_needed made b (addresses_at s b) (rise_differ (addresses_at s b) (addresses_rise s b)) s (address_has_row s b)
    shape_needed fit w (shape.enforced b p change l q there makes keep short others needed) =
        let gone = denied s b p change l q in
        let next = new s b p change l q in
        needed-append made (drops b gone) (change ∷ []) s
        (drops_needed made b gone (rise_differ gone (denied_rise next b p.mode)) s (λ d among. (let row = (denied_among next b p.mode d among).0 in ap is_some row.1)))
        (subst (λ t. made change ⊎ (meaning change t ≢ t)) (sym (drops_rest b gone s)) (needed.1 (meaning_of (drops b gone) s).stations), tt)
    shape_needed fit v (shape.started conf b accept deny is first) =
        let fits = subst (IsFit s confs) is fit in
        subst (λ x. AreNeeded (IsAlwaysMade s confs x) (first_changes conf b accept deny) s) (sym is) (started_needed conf b accept deny fits.2 fits.3 first)

    pub verdict_needed : IsFit s confs h → AreNeeded made (verdict s confs h).changes s
    verdict_needed fit = by_shape s confs (λ v. AreNeeded made v.changes s) (λ tag answer v are. are) h (shape_needed fit)
