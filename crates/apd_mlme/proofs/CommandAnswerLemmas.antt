-- What the answer to a control command says is so.
use Rattle.std.proofs.Common.{◌≡◌, ◌≢◌, ℕ, Bool, true, false, cond, not, ◌&&◌, ◌||◌, List, [], ◌∷◌, ◌++◌, Option, Some, None, ◌⊎◌, inl, inr, refl, sym, ap, subst, ◌∙◌, IsSome, arith, append_assoc}
use Rattle.std.specs.Prelude.{map as list_map, filter, ◌↔◌}
use Rattle.apd_mlme.proofs.Words.{Add, Addr, Associated, Authenticated, BROADCAST, Bssid, Clear, Conf, Configure, Contains, Contains-append_left, Contains-append_right, Contains-push, Done, Edit, Expire, Happening, Heard, IsAnsweredTo, IsEdited, IsFit, IsFull, IsKicked, IsListed, IsMeant, IsOnAfter, Kick, ListEdit, Out, Policy, Radio, Reason, Recipient, Refused, Sound, State, Station, UNSPECIFIED, Which, addr_cmp, addr_exact, addr_total, addresses_at, aid_at, aid_of, allowed, and_parts, apart, bssid_cmp, bssid_exact, bssid_of, bssid_total, change_of, clear_elsewhere, clear_here, conf_at, configure_verdict, contains, deauthentication, differ, either, eq_by_cmp, farewell, heard_verdict, insert_elsewhere, insert_here, is_allowed_under, is_some, kick_by_deauthentication_of, kick_by_disassociation_of, kick_of_all, kick_verdict, leb-true, list_count, list_edit_verdict, none_is, not_yes, nothing, one_or_apart, only_reply, other_way, policy_at, remaining_row, removal, remove_elsewhere, remove_here, reply_out, same_addr, second_true, station_at, text, tied, unanswered_edit, unanswered_edit_under, unanswered_kick, verdict, verdict_under, which_cmp, which_exact, which_total, with_answer}
use Rattle.std.specs.List.{flat_map}
use Rattle.apd_mlme.specs.declared.decision.Out.TheVariants as out
use Rattle.apd_event.specs.declared.event.Edit.TheVariants.{Remove}
use Rattle.apd_mlme.specs.rules.Inactivity.{inactivity_verdict}
use Rattle.apd_mlme.proofs.CommandLemmas.{by_kick, by_edit, IsUnneeded, IsTooMany, new}
use Rattle.apd_mlme.proofs.RowLemmas as leave
use Rattle.apd_mlme.proofs.DropLemmas.{all_gone, all_leave, is_elsewhere, kept_row}
use Rattle.apd_mlme.proofs.Shapes.{heard_shape, inactivity_shape, configure_shape, edited_shape, kicked_shape, one_station}
use Rattle.apd_mlme.proofs.AssociationEndLemmas.{enforced_told}
use Rattle.apd_mlme.proofs.EnforcementLemmas.{enforced_here, enforced_elsewhere}
use Rattle.apd_mlme.proofs.TrueOutsLemmas.{radios_only, shape_radios}

-- ---- a kick
-- the removals of several stations are those of the associated ones
abbrev lets_go : Bssid → Addr → Recipient × Out
lets_go b a = (Radio b, out.Remove a)

module _ (s : State) (b : Bssid) where
  abbrev associated : List Addr → List Addr
  associated as' = filter (λ a. is_some (aid_at s b a)) as'

  removal_one : (a : Addr) (as' : List Addr) → removal s b a ++ list_map (lets_go b) (associated as') ≡ list_map (lets_go b) (associated (a ∷ as'))
  removal_one a as' = elim (is_some (aid_at s b a)) as (λ t. cond t (lets_go b a ∷ []) [] ++ list_map (lets_go b) (associated as') ≡ list_map (lets_go b) (cond t (a ∷ associated as') (associated as'))) [ true ↦ refl | false ↦ refl ]

  removals : (as' : List Addr) → flat_map (removal s b) as' ≡ list_map (lets_go b) (associated as')
  removals [] = refl
  removals (a ∷ as') = ap (λ outs. removal s b a ++ outs) (removals as') ∙ removal_one a as'

  removal_is : (a : Addr) → removal s b a ≡ list_map (lets_go b) (associated (a ∷ []))
  removal_is a = elim (is_some (aid_at s b a)) as (λ t. cond t (lets_go b a ∷ []) [] ≡ list_map (lets_go b) (cond t (a ∷ []) [])) [ true ↦ refl | false ↦ refl ]

-- a frame and an answer behind them
told_by : (b : Bssid) (removed : List Addr) (outs : List (Recipient × Out)) (y z : Recipient × Out) → outs ≡ list_map (lets_go b) removed → (outs ++ y ∷ []) ++ z ∷ [] ≡ list_map (lets_go b) removed ++ y ∷ z ∷ []
told_by b removed outs y z same = append_assoc outs (y ∷ []) (z ∷ []) ∙ ap (λ xs. xs ++ y ∷ z ∷ []) same

-- a frame that is not a broadcast is meant for one station
meant_is : (to a : Addr) → eq_by_cmp addr_cmp to BROADCAST ≡ false → IsMeant to a → to ≡ a
meant_is to a e (inl same) = same
meant_is to a e (inr all) = one_station to e all

module _ (s : State) (b : Bssid) (to : Addr) (reason : Reason) (tag : ℕ) where
  all_answered : (t : Bool) → to ≡ BROADCAST → IsKicked s b to reason t tag (with_answer tag Done (kick_of_all s b reason t))
  all_answered t all = record {
    removed = associated s b (addresses_at s b);
    told = told_by b (associated s b (addresses_at s b)) (flat_map (removal s b) (addresses_at s b)) (reply_out (farewell b BROADCAST reason t)) (text tag Done) (removals s b (addresses_at s b))
        ∙ ap (λ a. list_map (lets_go b) (associated s b (addresses_at s b)) ++ reply_out (farewell b a reason t) ∷ text tag Done ∷ []) (sym all);
    deauthenticated = λ _ a _. all_gone s b a;
    disassociated = λ a _. ap aid_of (all_gone s b a);
    everyone = λ _ a. all_gone s b a;
    kept = λ _ ne. absurd (ne all);
    others = λ c a other. kept_row s b (is_elsewhere s b) (addresses_at s b) (all_leave s b) c a
        ∙ ap (λ u. cond (not u) (station_at s c a) None) (other_way b c (apart bssid_total bssid_exact c b (λ same. other (same, inr all))));
    lists = refl;
    policies = refl;
    cursors = refl;
  }

  module _ (one : eq_by_cmp addr_cmp to BROADCAST ≡ false) where
    -- what is so of the station that is meant
    of_meant : (P : Addr → Type 0) → P to → (a : Addr) → IsMeant to a → P a
    of_meant P h a meant = subst P (meant_is to a one meant) h

    -- nothing but the frame leaves for a station that is not associated
    only_told : (t : Bool) → aid_at s b to ≡ None → (t ≡ true → station_at s b to ≡ None) → (t ≡ false → station_at s b to ≡ remaining_row (station_at s b to))
        → IsKicked s b to reason t tag (with_answer tag Done (only_reply s (farewell b to reason t)))
    only_told t none gone stays = record {
      removed = [];
      told = refl;
      deauthenticated = λ h. of_meant (λ a. station_at s b a ≡ None) (gone h);
      disassociated = of_meant (λ a. aid_at s b a ≡ None) none;
      everyone = λ all. one_station to one all;
      kept = λ h _. stays h;
      others = λ c a other. refl;
      lists = refl;
      policies = refl;
      cursors = refl;
    }

    deauthenticated_answered : (o : Option Station) → station_at s b to ≡ o → IsKicked s b to reason true tag (with_answer tag Done (kick_by_deauthentication_of s b to reason o))
    deauthenticated_answered None at = only_told true (ap aid_of at) (λ _. at) (λ h. differ true h refl)
    deauthenticated_answered (Some row) at = record {
      removed = associated s b (to ∷ []);
      told = told_by b (associated s b (to ∷ [])) (removal s b to) (reply_out (farewell b to reason true)) (text tag Done) (removal_is s b to);
      deauthenticated = λ _. of_meant (λ a. station_at (leave.out s b to) b a ≡ None) (leave.out_row s b to);
      disassociated = of_meant (λ a. aid_at (leave.out s b to) b a ≡ None) (ap aid_of (leave.out_row s b to));
      everyone = λ all. one_station to one all;
      kept = λ h. differ true h refl;
      others = λ c a other. leave.out_station s b to c a ∙ leave.other_row b to c a None (station_at s c a) (λ same. other (same.0, inl (sym same.1)));
      lists = refl;
      policies = refl;
      cursors = refl;
    }

    disassociated_answered : (o : Option Station) → station_at s b to ≡ o → IsKicked s b to reason false tag (with_answer tag Done (kick_by_disassociation_of s b to reason o))
    disassociated_answered None at = only_told false (ap aid_of at) (λ h. differ false refl h) (λ _. at ∙ ap remaining_row (sym at))
    disassociated_answered (Some Authenticated) at = only_told false (ap aid_of at) (λ h. differ false refl h) (λ _. at ∙ ap remaining_row (sym at))
    disassociated_answered (Some (Associated x)) at = record {
      removed = to ∷ [];
      told = refl;
      deauthenticated = λ h. differ false refl h;
      disassociated = of_meant (λ a. aid_at (leave.back s b to) b a ≡ None) (leave.put_back_aid s b to);
      everyone = λ all. one_station to one all;
      kept = λ _ _. leave.back_row s b to;
      others = λ c a other. leave.back_other s b to c a (λ same. other (same.0, inl (sym same.1)));
      lists = refl;
      policies = refl;
      cursors = refl;
    }

  kick_done : (deauth : Bool) → IsKicked s b to reason deauth tag (kick_verdict s b to reason deauth tag)
  kick_done deauth =
      by_kick s b to reason (λ t v. IsKicked s b to reason t tag (with_answer tag Done v)) all_answered
      (λ e. deauthenticated_answered e (station_at s b to) refl) (λ e. disassociated_answered e (station_at s b to) refl) deauth

-- ---- an edit of a list
either_true : (t u : Bool) → (t || u) ≡ true → (t ≡ true) ⊎ (u ≡ true)
either_true true u e = inl refl
either_true false u e = inr e

module _ (s : State) (b : Bssid) (w : Which) where
  this_list : eq_by_cmp which_cmp w w ≡ true
  this_list = tied which_total which_exact w

  this_addr : (a d : Addr) → d ≡ a → eq_by_cmp addr_cmp d a ≡ true
  this_addr a d same = ap (λ x. eq_by_cmp addr_cmp x a) same ∙ tied addr_total addr_exact a

  added : (a d : Addr) → contains (new s b w (Add a)).lists (b, w, d) ≡ (eq_by_cmp addr_cmp d a || contains s.lists (b, w, d))
  added a d = insert_here s.lists b w a w d ∙ ap (λ t. (t && eq_by_cmp addr_cmp d a) || contains s.lists (b, w, d)) this_list

  removed : (a d : Addr) → contains (new s b w (Remove a)).lists (b, w, d) ≡ (not (eq_by_cmp addr_cmp d a) && contains s.lists (b, w, d))
  removed a d = remove_here s.lists b w a w d ∙ ap (λ t. not (t && eq_by_cmp addr_cmp d a) && contains s.lists (b, w, d)) this_list

  cleared : (d : Addr) → contains (new s b w Clear).lists (b, w, d) ≡ false
  cleared d = clear_here s.lists b w w d ∙ ap (λ t. not t && contains s.lists (b, w, d)) this_list

  on_after : (edit : Edit) (d : Addr) → IsListed (new s b w edit) b w d ↔ IsOnAfter s b w edit d
  on_after (Add a) d = (
    λ h. elim (either_true (eq_by_cmp addr_cmp d a) (contains s.lists (b, w, d)) (sym (added a d) ∙ h)) [ inl same ↦ inl (same_addr a d same) | inr listed ↦ inr listed ],
    λ h. added a d ∙ elim h [ inl same ↦ ap (λ t. t || contains s.lists (b, w, d)) (this_addr a d same) | inr listed ↦ second_true (eq_by_cmp addr_cmp d a) (contains s.lists (b, w, d)) listed ],
  )
  on_after (Remove a) d = (
    λ h. let parts = and_parts (not (eq_by_cmp addr_cmp d a)) (contains s.lists (b, w, d)) (sym (removed a d) ∙ h) in (λ same. differ _ (not_yes (eq_by_cmp addr_cmp d a) parts.0) (this_addr a d same), parts.1),
    λ h. removed a d ∙ ap (λ t. not t && contains s.lists (b, w, d)) (apart addr_total addr_exact d a h.0) ∙ h.1,
  )
  on_after Clear d = (λ h. differ _ (cleared d) h, λ h. absurd h)

  -- the other list of the BSSID
  here_other : (edit : Edit) (v : Which) → v ≢ w → (d : Addr) → contains (new s b w edit).lists (b, v, d) ≡ contains s.lists (b, v, d)
  here_other (Add a) v other d = insert_here s.lists b w a v d ∙ ap (λ t. (t && eq_by_cmp addr_cmp d a) || contains s.lists (b, v, d)) (apart which_total which_exact v w other)
  here_other (Remove a) v other d = remove_here s.lists b w a v d ∙ ap (λ t. not (t && eq_by_cmp addr_cmp d a) && contains s.lists (b, v, d)) (apart which_total which_exact v w other)
  here_other Clear v other d = clear_here s.lists b w v d ∙ ap (λ t. not t && contains s.lists (b, v, d)) (apart which_total which_exact w v (λ same. other (sym same)))

  elsewhere_other : (edit : Edit) (c : Bssid) → eq_by_cmp bssid_cmp c b ≡ false → (v : Which) (d : Addr) → contains (new s b w edit).lists (c, v, d) ≡ contains s.lists (c, v, d)
  elsewhere_other (Add a) c other v d = insert_elsewhere s.lists b w c other v d a
  elsewhere_other (Remove a) c other v d = remove_elsewhere s.lists b w c other v d a
  elsewhere_other Clear c other v d = clear_elsewhere s.lists b w c other v d

  other_list : (edit : Edit) (c : Bssid) (v : Which) → ¬ ((c ≡ b) × (v ≡ w)) → (d : Addr) → contains (new s b w edit).lists (c, v, d) ≡ contains s.lists (c, v, d)
  other_list edit c v other d = elim (one_or_apart bssid_total bssid_exact c b) [
    | inl same ↦ subst (λ x. contains (new s b w edit).lists (x, v, d) ≡ contains s.lists (x, v, d)) (sym same) (here_other edit v (λ list. other (same, list)) d)
    | inr ne ↦ elsewhere_other edit c ne v d
  ]

  -- the edit was made
  edited_answered : (edit : Edit) (tag : ℕ) (o : Option Policy) → policy_at s b ≡ o → IsSome o → IsEdited s b w edit (with_answer tag Done (unanswered_edit_under s b w edit o))
  edited_answered edit tag None at known = cc
  edited_answered edit tag (Some p) at known =
      let now = new s b w edit in
      let change = change_of b w edit in
      record {
        list = on_after edit;
        stations = λ d. enforced_here s b p change now.lists s.policies d ∙ ap (λ q. cond (is_allowed_under now b d q) (station_at s b d) None) (sym at);
        told = λ d had gone. Contains-append_left (unanswered_edit_under s b w edit (Some p)).outs (text tag Done ∷ []) (reply_out (deauthentication b d UNSPECIFIED)) (enforced_told s b p change now.lists s.policies d had gone);
        other_lists = other_list edit;
        other_stations = enforced_elsewhere s b p change now.lists s.policies;
        policies = refl;
        cursors = refl;
      }

  -- there was nothing to do
  listed_already : (edit : Edit) → IsUnneeded s b w edit → (d : Addr) → IsListed s b w d ↔ IsOnAfter s b w edit d
  listed_already (Add a) there d = (λ h. inr h, λ h. elim h [ inl same ↦ subst (λ x. IsListed s b w x) (sym same) there | inr listed ↦ listed ])
  listed_already (Remove a) gone d = (λ h. (λ same. differ _ gone (subst (λ x. IsListed s b w x) same h), h), λ h. h.1)
  listed_already Clear none d = absurd none

  row_stays : (d : Addr) (o : Option Station) → Sound s → station_at s b d ≡ o → o ≡ cond (allowed s b d) o None
  row_stays d None sound at = sym (either (allowed s b d) None)
  row_stays d (Some x) sound at = sym (ap (λ t. cond t (Some x) None) (sound.none_denied b d (ap is_some at)))

  unneeded_answered : (edit : Edit) (tag : ℕ) → Sound s → IsUnneeded s b w edit → IsEdited s b w edit (with_answer tag Done (nothing s))
  unneeded_answered edit tag sound there = record {
    list = listed_already edit there;
    stations = λ d. row_stays d (station_at s b d) sound refl;
    told = λ d had gone. none_is (station_at s b d) gone had;
    other_lists = λ c v other d. refl;
    other_stations = λ c ne d. refl;
    policies = refl;
    cursors = refl;
  }

  -- the list was full
  full_answered : (edit : Edit) (tag : ℕ) → Sound s → IsTooMany s b w edit → IsFull s b w edit tag (with_answer tag Refused (nothing s))
  full_answered (Add a) tag sound many =
      let most = sound.few_listed b w in
      let least = leb-true 1024 (list_count s b w) many.1 in
      record { new = a; added = refl; unlisted = λ h. differ _ many.0 h; full = omega arith; unchanged = refl; changes = refl; outs = refl }
  full_answered (Remove a) tag sound many = absurd many
  full_answered Clear tag sound many = absurd many

-- ---- any event
module _ (s : State) (confs : List Conf) (sound : Sound s) where
  kick_answered : (b : Bssid) (to : Addr) (reason : Reason) (deauth : Bool) (tag : ℕ) → IsSome (conf_at confs b) → IsAnsweredTo s (Kick b to reason deauth tag) (kick_verdict s b to reason deauth tag)
  kick_answered b to reason deauth tag there = (
    record { before = (unanswered_kick s b to reason deauth).outs; last = refl; alone = radios_only confs (unanswered_kick s b to reason deauth).outs (shape_radios s confs (Kick b to reason deauth tag) _ (kicked_shape s confs b there to reason tag deauth)) },
    kick_done s b to reason tag deauth,
  )

  list_edit_answered : (b : Bssid) (w : Which) (edit : Edit) (tag : ℕ) → IsSome (conf_at confs b) → IsSome (policy_at s b) → IsAnsweredTo s (ListEdit b w edit tag) (list_edit_verdict s b w edit tag)
  list_edit_answered b w edit tag there known =
      by_edit s b w tag (IsAnsweredTo s (ListEdit b w edit tag)) edit
      (λ none. inl (record { before = []; last = refl; alone = refl }, unneeded_answered s b w edit tag sound none))
      (λ many. inr (record { before = []; last = refl; alone = refl }, full_answered s b w edit tag sound many))
      (λ made. inl (
        record { before = (unanswered_edit s b w edit).outs; last = refl; alone = radios_only confs (unanswered_edit s b w edit).outs (shape_radios s confs (ListEdit b w edit tag) _ (edited_shape s confs b there w tag edit made (policy_at s b) refl)) },
        edited_answered s b w edit tag (policy_at s b) refl known,
      ))

  under_answered : (h : Happening) (o : Option Conf) → conf_at confs (bssid_of h) ≡ o → IsFit s confs h → IsAnsweredTo s h (verdict_under s confs o h)
  under_answered (Heard b f) None at fit = refl
  under_answered (Heard b f) (Some conf) at fit = radios_only confs (heard_verdict s confs conf b f).outs (shape_radios s confs (Heard b f) _ (heard_shape s confs b fit.0 conf at f))
  under_answered (Kick b to reason deauth tag) None at fit = none_is (conf_at confs b) at fit.0
  under_answered (Kick b to reason deauth tag) (Some conf) at fit = kick_answered b to reason deauth tag fit.0
  under_answered (ListEdit b w edit tag) None at fit = none_is (conf_at confs b) at fit.0
  under_answered (ListEdit b w edit tag) (Some conf) at fit = list_edit_answered b w edit tag fit.0 fit.1
  under_answered (Expire b a) None at fit = refl
  under_answered (Expire b a) (Some conf) at fit = radios_only confs (inactivity_verdict s b a).outs (shape_radios s confs (Expire b a) _ (inactivity_shape s confs b fit.0 a (station_at s b a) refl))
  under_answered (Configure b accept deny) None at fit = refl
  under_answered (Configure b accept deny) (Some conf) at fit = radios_only confs (configure_verdict s conf b accept deny).outs (shape_radios s confs (Configure b accept deny) _ (configure_shape s confs b fit.0 conf accept deny))

pub verdict_answered : (s : State) (confs : List Conf) (h : Happening) → IsFit s confs h → Sound s → IsAnsweredTo s h (verdict s confs h)
verdict_answered s confs h fit sound = under_answered s confs sound h (conf_at confs (bssid_of h)) refl fit

-- the frame of a command leaves, with its reason
pub kick_tells : (s : State) (confs : List Conf) (b : Bssid) (to : Addr) (reason : Reason) (deauth : Bool) (tag : ℕ) (o : Option Conf) → IsSome o → Contains (verdict_under s confs o (Kick b to reason deauth tag)).outs (reply_out (farewell b to reason deauth))
kick_tells s confs b to reason deauth tag None there = cc
kick_tells s confs b to reason deauth tag (Some conf) there =
    let frame = reply_out (farewell b to reason deauth) in
    let kicked_so = kick_done s b to reason tag deauth in
    subst (λ outs. Contains outs frame) (sym kicked_so.told)
    (Contains-append_right (list_map (lets_go b) kicked_so.removed) (frame ∷ text tag Done ∷ []) frame (Contains-append_left (frame ∷ []) (text tag Done ∷ []) frame (Contains-push [] frame)))
