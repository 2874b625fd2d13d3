-- What it leaves that several stations of a BSSID are dropped, one after the other.
use Rattle.std.proofs.Common.{◌≡◌, Bool, true, false, cond, not, ◌&&◌, ◌||◌, List, [], ◌∷◌, Option, Some, None, inl, inr, refl, sym, ap, subst, ◌∙◌, IsSome}
use Rattle.std.specs.List.{flat_map}
use Rattle.apd_mlme.proofs.Words.{AclMode, Addr, Bssid, FinMap, Out, Radio, Reason, Recipient, Remove, State, Station, addr_cmp, addresses_at, aid_at, aid_of, among_addresses, among_denied, and_parts, bssid_cmp, bssid_exact, bssid_total, deauthentication, denials_by, denied_among, differ, drops, drops_station, either, eq_by_cmp, get-retain_keys, is_allowed_in, is_among, is_some, meaning_of, none_is, one_or_apart, other_way, outs_of_drop, removal, reply_out, same_map, station_at, station_cmp, station_exact, station_total, stays, tied}
use Rattle.std.specs.FinMap as map
use Rattle.apd_mlme.proofs.RowLemmas.{aid_cond, is_row, left_by, left_by-append, left_by_removal}

none_more : (t u : Bool) → t ≡ (t || (u && false))
none_more true u = refl
none_more false true = refl
none_more false false = refl

one_more : (t u e m : Bool) → ((t || (u && e)) || (u && m)) ≡ (t || (u && (e || m)))
one_more true u e m = refl
one_more false true e m = refl
one_more false false e m = refl

pub taken_out : {A : Type 0} (t : Bool) (o : Option A) → cond t None o ≡ None → IsSome o → t ≡ true
taken_out true o e h = refl
taken_out false o e h = none_is o e h

module _ (s : State) (b : Bssid) where
  -- outs for each station that take it out of the driver's map, which has whoever was associated but for some
  abbrev pub LetsGo : (Addr → List (Recipient × Out)) → Type 0
  LetsGo outs_of = (a : Addr) (c : Bssid) (d : Addr) (t : Bool) → left_by c d (outs_of a) (cond t None (aid_at s c d)) ≡ cond (t || is_row b a c d) None (aid_at s c d)

  pub removal_lets_go : LetsGo (removal s b)
  removal_lets_go a c d false = left_by_removal c d s b a
  removal_lets_go a c d true = elim (is_some (aid_at s b a)) as (λ u. left_by c d (cond u ((Radio b, Remove a) ∷ []) []) None ≡ None) [ true ↦ either (is_row b a c d) None | false ↦ refl ]

  pub drop_lets_go : (reason : Reason) → LetsGo (λ a. outs_of_drop s b a reason)
  drop_lets_go reason a c d t = left_by-append c d (removal s b a) (reply_out (deauthentication b a reason) ∷ []) (cond t None (aid_at s c d)) ∙ removal_lets_go a c d t

  -- those of several stations take all of them out
  all_let_go : (outs_of : Addr → List (Recipient × Out)) → LetsGo outs_of → (as' : List Addr) (c : Bssid) (d : Addr) (t : Bool) →
      left_by c d (flat_map outs_of as') (cond t None (aid_at s c d)) ≡ cond (t || (eq_by_cmp bssid_cmp c b && is_among d as')) None (aid_at s c d)
  all_let_go outs_of go [] c d t = ap (λ u. cond u None (aid_at s c d)) (none_more t (eq_by_cmp bssid_cmp c b))
  all_let_go outs_of go (a ∷ as') c d t =
      left_by-append c d (outs_of a) (flat_map outs_of as') (cond t None (aid_at s c d))
      ∙ ap (left_by c d (flat_map outs_of as')) (go a c d t)
      ∙ all_let_go outs_of go as' c d (t || is_row b a c d)
      ∙ ap (λ u. cond u None (aid_at s c d)) (one_more t (eq_by_cmp bssid_cmp c b) (eq_by_cmp addr_cmp d a) (is_among d as'))

  -- the rows that a test keeps are those that are left once some stations are dropped
  abbrev pub Leave : (Bssid × Addr → Bool) → List Addr → Type 0
  Leave stay as' = (c : Bssid) (d : Addr) → cond (eq_by_cmp bssid_cmp c b && is_among d as') None (station_at s c d) ≡ cond (stay (c, d)) (station_at s c d) None

  module _ (stay : Bssid × Addr → Bool) (as' : List Addr) (leave : Leave stay as') where
    abbrev kept : FinMap station_cmp Station
    kept = map.retain_keys s.stations stay

    pub kept_row : (c : Bssid) (d : Addr) → map.get kept (c, d) ≡ cond (stay (c, d)) (station_at s c d) None
    kept_row c d = get-retain_keys s.stations stay (c, d) (λ x t. ap stay (sym (station_exact (c, d) x t)))

    pub kept_stations : (meaning_of (drops b as') s).stations ≡ kept
    kept_stations = same_map station_total station_exact _ _ (λ k. drops_station b as' s k.0 k.1 ∙ leave k.0 k.1 ∙ sym (kept_row k.0 k.1))

    pub kept_aid : (c : Bssid) (d : Addr) → aid_of (map.get kept (c, d)) ≡ cond (eq_by_cmp bssid_cmp c b && is_among d as') None (aid_at s c d)
    kept_aid c d = ap aid_of (kept_row c d ∙ sym (leave c d)) ∙ aid_cond (eq_by_cmp bssid_cmp c b && is_among d as') None (station_at s c d)

    -- who is dropped has no row
    pub dropped_gone : (d : Addr) → is_among d as' ≡ true → map.get kept (b, d) ≡ None
    dropped_gone d among =
        kept_row b d ∙ sym (leave b d) ∙ (λ i. cond (tied bssid_total bssid_exact b i && among i) None (station_at s b d))

    -- and who has no row any more was dropped
    pub gone_among : (d : Addr) → IsSome (station_at s b d) → map.get kept (b, d) ≡ None → is_among d as' ≡ true
    gone_among d known gone =
        (and_parts (eq_by_cmp bssid_cmp b b) (is_among d as') (taken_out (eq_by_cmp bssid_cmp b b && is_among d as') (station_at s b d) (leave b d ∙ sym (kept_row b d) ∙ gone) known)).1

    -- and its driver has not got it
    pub kept_driver : (outs_of : Addr → List (Recipient × Out)) → LetsGo outs_of → (c : Bssid) (d : Addr) →
        left_by c d (flat_map outs_of as') (aid_at s c d) ≡ aid_of (map.get kept (c, d))
    kept_driver outs_of go c d = all_let_go outs_of go as' c d false ∙ sym (kept_aid c d)

  -- those of the BSSID alone
  leave_there : (stay : Bssid × Addr → Bool) (as' : List Addr) → ((c : Bssid) (d : Addr) → eq_by_cmp bssid_cmp b c ≡ false → stay (c, d) ≡ true)
      → ((d : Addr) → cond (is_among d as') None (station_at s b d) ≡ cond (stay (b, d)) (station_at s b d) None) → Leave stay as'
  leave_there stay as' elsewhere here c d =
      elim (one_or_apart bssid_total bssid_exact c b) [
        | inl same ↦ subst (λ (z : Bssid). cond (eq_by_cmp bssid_cmp z b && is_among d as') None (station_at s z d) ≡ cond (stay (z, d)) (station_at s z d) None) (sym same)
            (ap (λ t. cond (t && is_among d as') None (station_at s b d)) (tied bssid_total bssid_exact b) ∙ here d)
        | inr apart ↦ ap (λ t. cond (t && is_among d as') None (station_at s c d)) apart ∙ ap (λ t. cond t (station_at s c d) None) (sym (elsewhere c d (other_way b c apart)))
      ]

  -- ---- those that a mode denies
  module _ (mode : AclMode) where
    abbrev denied : List Addr
    denied = denials_by s b mode

    -- at the BSSID: what is among the denied is gone, and so is what doesn't stay
    denied_here : (d : Addr) (o : Option Station) → station_at s b d ≡ o → (t : Bool) → is_allowed_in s b d mode ≡ t → cond (is_among d denied) None o ≡ cond t o None
    denied_here d o e true allowed =
        elim (is_among d denied) as (λ m. is_among d denied ≡ m → cond m None o ≡ o) [
          | true ↦ λ among. differ _ (denied_among s b mode d among).1 allowed
          | false ↦ λ _. refl
        ] refl
    denied_here d None e false refused = elim (is_among d denied) as (λ m. ◌≡◌ {A = Option Station} (cond m None None) None) [ true ↦ refl | false ↦ refl ]
    denied_here d (Some x) e false refused = ap (λ m. cond m None (Some x)) (among_denied s b mode d x e refused)

    pub denied_leave : Leave (stays s b mode) denied
    denied_leave =
        leave_there (stays s b mode) denied (λ c d e. ap (λ t. not t || is_allowed_in s b d mode) e)
        (λ d. denied_here d (station_at s b d) refl (is_allowed_in s b d mode) refl ∙ ap (λ t. cond (not t || is_allowed_in s b d mode) (station_at s b d) None) (sym (tied bssid_total bssid_exact b)))

  -- ---- all of them
  all_here : (d : Addr) (o : Option Station) → station_at s b d ≡ o → cond (is_among d (addresses_at s b)) None o ≡ None
  all_here d None e = elim (is_among d (addresses_at s b)) as (λ m. ◌≡◌ {A = Option Station} (cond m None None) None) [ true ↦ refl | false ↦ refl ]
  all_here d (Some x) e = ap (λ m. cond m None (Some x)) (among_addresses s b d x e)

  abbrev pub is_elsewhere : Bssid × Addr → Bool
  is_elsewhere key = not (eq_by_cmp bssid_cmp b key.0)

  pub all_leave : Leave is_elsewhere (addresses_at s b)
  all_leave =
      leave_there is_elsewhere (addresses_at s b) (λ c d e. ap not e)
      (λ d. all_here d (station_at s b d) refl ∙ ap (λ t. cond (not t) (station_at s b d) None) (sym (tied bssid_total bssid_exact b)))

  pub all_gone : (d : Addr) → map.get (map.retain_keys s.stations is_elsewhere) (b, d) ≡ None
  all_gone d =
      kept_row is_elsewhere (addresses_at s b) all_leave b d
      ∙ ap (λ t. cond (not t) (station_at s b d) None) (tied bssid_total bssid_exact b)
