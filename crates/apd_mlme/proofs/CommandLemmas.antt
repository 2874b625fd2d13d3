-- What control commands leave: the cases of each, the state after it, and the drivers.
use Rattle.std.proofs.Common.{◌≡◌, ◌≤◌, arith, length, ℕ, Bool, true, false, cond, List, [], ◌∷◌, ◌++◌, Option, Some, None, inr, refl, ap, subst, ◌∙◌, IsSome, nat_le, append-nil}
use Rattle.std.specs.List.{flat_map}
use Rattle.apd_mlme.proofs.Words.{Add, Addr, Answer, BROADCAST, Bssid, Change, Clear, Done, Edit, FinMap, IsChange, NoneDeniedAfter, Policy, Reason, Refused, Sound, State, Station, StaySound, UNSPECIFIED, Verdict, Which, addr_cmp, addresses_at, aid_at, change_of, contains, denials_after, denials_under, drops, drops_rest, drops_sound, drops_stay, eq_by_cmp, farewell, is_some, kick_by_deauthentication, kick_by_disassociation, kick_of_all, leb-false, length-append, list_count, list_edit_verdict, list_length, meaning, meaning_of, nothing, outs_of_drop, policy_at, record_of, removal, reply_out, same_addr, sound_add, sound_clear, sound_take, station_cmp, text, unanswered_edit, unanswered_edit_under, unanswered_kick, which_number, with_answer, with_lists_after}
use Rattle.apd_event.specs.declared.event.Edit.TheVariants.{Remove}
use Rattle.apd_mlme.proofs.RowLemmas.{left_by-append, Follows}
use Rattle.apd_mlme.proofs.DropLemmas.{removal_lets_go, kept_stations, kept_driver, all_leave, is_elsewhere}
use Rattle.apd_mlme.proofs.EnforcementLemmas.{Makes, rest, enforced_sound}

-- ---- the cases of a kick, by its frame: all stations, or one
module _ (s : State) (b : Bssid) (to : Addr) (reason : Reason) (P : Bool → Verdict → Type 0)
    (all : (t : Bool) → to ≡ BROADCAST → P t (kick_of_all s b reason t))
    (deauth : eq_by_cmp addr_cmp to BROADCAST ≡ false → P true (kick_by_deauthentication s b to reason))
    (disassoc : eq_by_cmp addr_cmp to BROADCAST ≡ false → P false (kick_by_disassociation s b to reason)) where
  by_frame : (t : Bool) → eq_by_cmp addr_cmp to BROADCAST ≡ false → P t (cond t (kick_by_deauthentication s b to reason) (kick_by_disassociation s b to reason))
  by_frame true e = deauth e
  by_frame false e = disassoc e

  pub by_kick : (t : Bool) → P t (unanswered_kick s b to reason t)
  by_kick t = elim (eq_by_cmp addr_cmp to BROADCAST) as (λ u. eq_by_cmp addr_cmp to BROADCAST ≡ u → P t (cond u (kick_of_all s b reason t) (cond t (kick_by_deauthentication s b to reason) (kick_by_disassociation s b to reason)))) [
    | true ↦ λ e. all t (same_addr BROADCAST to e)
    | false ↦ λ e. by_frame t e
  ] refl

-- ---- the cases of an edit: there is nothing to do, the list is full, or it is done
abbrev pub IsUnneeded : State → Bssid → Which → Edit → Type 0
IsUnneeded s b w (Add a) = contains s.lists (b, w, a) ≡ true
IsUnneeded s b w (Remove a) = contains s.lists (b, w, a) ≡ false
IsUnneeded s b w Clear = ⊥

abbrev pub IsTooMany : State → Bssid → Which → Edit → Type 0
IsTooMany s b w (Add a) = (contains s.lists (b, w, a) ≡ false) × (nat_le 1024 (list_count s b w) ≡ true)
IsTooMany s b w (Remove a) = ⊥
IsTooMany s b w Clear = ⊥

abbrev pub IsMade : State → Bssid → Which → Edit → Type 0
IsMade s b w (Add a) = (contains s.lists (b, w, a) ≡ false) × (nat_le 1024 (list_count s b w) ≡ false)
IsMade s b w (Remove a) = contains s.lists (b, w, a) ≡ true
IsMade s b w Clear = Unit {0}

module _ (s : State) (b : Bssid) (w : Which) (tag : ℕ) (P : Verdict → Type 0) where
  pub by_edit : (edit : Edit) → (IsUnneeded s b w edit → P (with_answer tag Done (nothing s))) → (IsTooMany s b w edit → P (with_answer tag Refused (nothing s)))
      → (IsMade s b w edit → P (with_answer tag Done (unanswered_edit s b w edit))) → P (list_edit_verdict s b w edit tag)
  by_edit (Add a) none many done =
      elim (contains s.lists (b, w, a)) as (λ t. contains s.lists (b, w, a) ≡ t → P (cond t (with_answer tag Done (nothing s)) (cond (nat_le 1024 (list_count s b w)) (with_answer tag Refused (nothing s)) (with_answer tag Done (unanswered_edit s b w (Add a)))))) [
        | true ↦ λ e. none e
        | false ↦ λ e. elim (nat_le 1024 (list_count s b w)) as (λ u. nat_le 1024 (list_count s b w) ≡ u → P (cond u (with_answer tag Refused (nothing s)) (with_answer tag Done (unanswered_edit s b w (Add a))))) [
          | true ↦ λ f. many (e, f)
          | false ↦ λ f. done (e, f)
        ] refl
      ] refl
  by_edit (Remove a) none many done =
      elim (contains s.lists (b, w, a)) as (λ t. contains s.lists (b, w, a) ≡ t → P (cond t (with_answer tag Done (unanswered_edit s b w (Remove a))) (with_answer tag Done (nothing s)))) [
        | true ↦ λ e. done e
        | false ↦ λ e. none e
      ] refl
  by_edit Clear none many done = done tt

-- ---- an edit that is made
-- the state with the edited lists
abbrev pub new : State → Bssid → Which → Edit → State
new s b w edit = with_lists_after (change_of b w edit) s

-- it is made where there is a policy
made_under : (s : State) (b : Bssid) (w : Which) (edit : Edit) (o : Option Policy) → IsSome o → let ds = denials_under (new s b w edit) b o in
    (drops b ds ++ change_of b w edit ∷ [] ≡ (unanswered_edit_under s b w edit o).changes) × (flat_map (λ a. outs_of_drop s b a UNSPECIFIED) ds ≡ (unanswered_edit_under s b w edit o).outs)
made_under s b w edit None known = cc
made_under s b w edit (Some p) known = (refl, refl)

pub edit_made : (s : State) (b : Bssid) (w : Which) (edit : Edit) → IsSome (policy_at s b) → (change : Change) → change ≡ change_of b w edit → (ds : List Addr) → ds ≡ denials_after s b change
    → (drops b ds ++ change ∷ [] ≡ (unanswered_edit s b w edit).changes) × (flat_map (λ a. outs_of_drop s b a UNSPECIFIED) ds ≡ (unanswered_edit s b w edit).outs)
edit_made s b w edit known change is ds all =
    let same = all ∙ ap (denials_after s b) is in
    let made = made_under s b w edit (policy_at s b) known in
    ((λ i. drops b (same i) ++ is i ∷ []) ∙ made.0, ap (flat_map (λ a. outs_of_drop s b a UNSPECIFIED)) same ∙ made.1)

module _ (s : State) (b : Bssid) (w : Which) (p : Policy) where
  -- its change changes the lists alone
  pub change_with : (edit : Edit) → Makes s b p (change_of b w edit) (new s b w edit).lists s.policies
  change_with (Add a) k = refl
  change_with (Remove a) k = refl
  change_with Clear k = refl

  -- it may be made where nobody is denied then
  made_sound : (edit : Edit) (k : FinMap station_cmp Station) → policy_at s b ≡ Some p → IsMade s b w edit → let t = record s { stations = k } in
      Sound t → NoneDeniedAfter t b (change_of b w edit) → Sound (meaning (change_of b w edit) t)
  made_sound (Add a) k at made left none = sound_add (record s { stations = k }) b w a left (record { policy = ap is_some at; room = inr (leb-false 1024 (list_count s b w) made.1); allowed = none })
  made_sound (Remove a) k at room left none = sound_take (record s { stations = k }) b w a left none
  made_sound Clear k at room left none = sound_clear (record s { stations = k }) b w left none

  pub edited_sound : (edit : Edit) → policy_at s b ≡ Some p → IsMade s b w edit → Sound s → StaySound (unanswered_edit_under s b w edit (Some p)).changes s
  edited_sound edit at room =
      enforced_sound s b p (change_of b w edit) (new s b w edit).lists s.policies (change_with edit) at (made_sound edit (rest s b p (change_of b w edit) (new s b w edit).lists s.policies).stations at room)

-- its record is short
pub edit_length : (b : Bssid) (w : Which) (edit : Edit) → IsChange (change_of b w edit) → length (record_of (change_of b w edit)) ≤ 14
edit_length b w (Add a) known = omega (arith, list_length b w a known.0 known.1)
edit_length b w (Remove a) known = omega (arith, length-append b.0.0 (which_number w ∷ a.0), known.0.0, known.1.0)
edit_length b w Clear known = omega (arith, length-append b.0.0 (which_number w ∷ []), known.0)

-- ---- all are sent away
module _ (s : State) (b : Bssid) (reason : Reason) (t : Bool) where
  abbrev all : List Addr
  all = addresses_at s b

  pub all_meaning : meaning_of (kick_of_all s b reason t).changes s ≡ (kick_of_all s b reason t).state
  all_meaning = drops_rest b all s ∙ ap (λ k. record s { stations = k }) (kept_stations s b (is_elsewhere s b) all (all_leave s b))

  pub all_sound : Sound s → StaySound (kick_of_all s b reason t).changes s
  all_sound sound = subst (λ changes. StaySound changes s) (append-nil (drops b all)) (drops_stay b all [] s sound (drops_sound b all s sound))

  pub all_follows : (c : Bssid) → Follows c s (kick_of_all s b reason t)
  all_follows c d =
      left_by-append c d (flat_map (removal s b) all) (reply_out (farewell b BROADCAST reason t) ∷ []) (aid_at s c d)
      ∙ kept_driver s b (is_elsewhere s b) all (all_leave s b) (removal s b) (removal_lets_go s b) c d

-- an answer is not for the drivers
pub answered_follows : (c : Bssid) (s : State) (tag : ℕ) (answer : Answer) (v : Verdict) → Follows c s v → Follows c s (with_answer tag answer v)
answered_follows c s tag answer v follows d = left_by-append c d v.outs (text tag answer ∷ []) (aid_at s c d) ∙ follows d
