-- What a change of the lists or of the policy of a BSSID leaves, and the drops before it of whom a mode denies then.
use Rattle.std.proofs.Common.{◌≡◌, ◌≢◌, Bool, true, false, cond, not, ◌&&◌, ◌||◌, List, [], ◌∷◌, Option, Some, None, refl, sym, ap, subst, ◌∙◌, IsSome}
use Rattle.apd_mlme.proofs.Words.{Addr, Bssid, Change, FinMap, NoneDeniedAfter, Policy, SetOf, Sound, State, Station, StaySound, UNSPECIFIED, Verdict, aid_at, allowed, apart, bssid_cmp, bssid_exact, bssid_total, denials_by, drops, drops_rest, drops_sound, drops_stay, enforcement, eq_by_cmp, is_allowed_in, is_allowed_under, is_among, list_cmp, meaning, meaning_of, meaning_of-append, other_way, outs_of_drop, station_at, station_cmp, stays, tied}
use Rattle.std.specs.FinMap as map
use Rattle.apd_mlme.proofs.DropLemmas.{drop_lets_go, kept_row, kept_stations, kept_aid, kept_driver, dropped_gone, gone_among, denied_leave, Leave}
use Rattle.apd_mlme.proofs.RowLemmas.{Follows}

cond_true : {A : Type 0} (t : Bool) (o : Option A) → IsSome (cond t o None) → t ≡ true
cond_true true o h = refl
cond_true false o h = cc

-- under a policy; the change leads to these lists and these policies
module _ (s : State) (b : Bssid) (p : Policy) (change : Change) (l : SetOf list_cmp) (q : FinMap bssid_cmp Policy) where
  abbrev pub new : State
  new = record s { lists = l; policies = q }

  abbrev pub denied : List Addr
  denied = denials_by new b p.mode

  abbrev stay : Bssid × Addr → Bool
  stay = stays new b p.mode

  leave : Leave s b stay denied
  leave = denied_leave new b p.mode

  abbrev pub v : Verdict
  v = enforcement s b p.mode change new

  -- the rows and the identifiers after it
  pub enforced_here : (d : Addr) → station_at v.state b d ≡ cond (is_allowed_in new b d p.mode) (station_at s b d) None
  enforced_here d = kept_row s b stay denied leave b d ∙ ap (λ t. cond (not t || is_allowed_in new b d p.mode) (station_at s b d) None) (tied bssid_total bssid_exact b)

  pub enforced_elsewhere : (c : Bssid) → c ≢ b → (d : Addr) → station_at v.state c d ≡ station_at s c d
  enforced_elsewhere c ne d =
      kept_row s b stay denied leave c d ∙ ap (λ t. cond (not t || is_allowed_in new b d p.mode) (station_at s c d) None) (other_way b c (apart bssid_total bssid_exact c b ne))

  pub enforced_aid : (c : Bssid) (d : Addr) → aid_at v.state c d ≡ cond (eq_by_cmp bssid_cmp c b && is_among d denied) None (aid_at s c d)
  enforced_aid = kept_aid s b stay denied leave

  -- who is denied has no row, and who has none any more was denied
  pub enforced_dropped : (d : Addr) → is_among d denied ≡ true → station_at v.state b d ≡ None
  enforced_dropped = dropped_gone s b stay denied leave

  pub enforced_gone : (d : Addr) → IsSome (station_at s b d) → station_at v.state b d ≡ None → is_among d denied ≡ true
  enforced_gone = gone_among s b stay denied leave

  pub enforced_follows : (c : Bssid) → Follows c s v
  enforced_follows c d = kept_driver s b stay denied leave (λ a. outs_of_drop s b a UNSPECIFIED) (drop_lets_go s b UNSPECIFIED) c d

  -- the state once whom the mode denies is dropped
  abbrev pub rest : State
  rest = record s { stations = map.retain_keys s.stations stay }

  rest_is : meaning_of (drops b denied) s ≡ rest
  rest_is = drops_rest b denied s ∙ ap (λ k. record s { stations = k }) (kept_stations s b stay denied leave)

  -- the change leads there, whoever has a row
  abbrev pub Makes : Type 0
  Makes = (k : FinMap station_cmp Station) → meaning change (record s { stations = k }) ≡ record new { stations = k }

  pub enforced_meaning : Makes → meaning_of v.changes s ≡ v.state
  enforced_meaning makes = meaning_of-append (drops b denied) (change ∷ []) s ∙ ap (meaning change) rest_is ∙ makes (map.retain_keys s.stations stay)

  -- nobody is denied then
  none_left : Makes → map.get q b ≡ Some p → NoneDeniedAfter rest b change
  none_left makes here d h =
      ap (λ t. allowed t b d) (makes (map.retain_keys s.stations stay)) ∙ ap (is_allowed_under new b d) here ∙ cond_true _ (station_at s b d) (subst IsSome (enforced_here d) h)

  pub enforced_sound : Makes → map.get q b ≡ Some p → (Sound rest → NoneDeniedAfter rest b change → Sound (meaning change rest)) → Sound s → StaySound v.changes s
  enforced_sound makes here may sound =
      let left = subst Sound rest_is (drops_sound b denied s sound) in
      drops_stay b denied (change ∷ []) s sound (subst (StaySound (change ∷ [])) (sym rest_is) (left, may left (none_left makes here)))
