-- Which frames leave: those that tell of an end, and one more at most.
use Rattle.std.proofs.Common.{◌≡◌, ℕ, Bool, true, false, cond, ◌&&◌, List, [], ◌∷◌, ◌++◌, Option, Some, None, ◌↔◌, ◌⊎◌, ◌≢◌, inl, inr, refl, sym, ap, subst, ◌∙◌, IsSome, append-nil, arith}
use Rattle.std.specs.Prelude.{map as list_map}
use Rattle.apd_mlme.proofs.Words.{Addr, Aid, Answer, AreFramesDue, AreNotices, AssociationRequest, Authenticated, Authentication, BROADCAST, Bssid, Change, Conf, Contains, Contains-from_any, Contains-push, FinMap, Frame, Happening, HasLeft, HasLost, IsToAll, Kind, Names, Out, Remove, Reply, Rise, SetOf, Sound, State, Station, Success, UNSPECIFIED, Verdict, addr_cmp, addr_exact, addr_total, addresses_at, aid_at, aid_of, and_parts, association_response, auth_response, auth_status, bssid_cmp, bssid_exact, bssid_total, bssids_elsewhere, conf_at, deauthentication, denied_among, differ, disassociation, eq_by_cmp, eq_by_cmp_equiv, farewell, frames, identifier_for, is_admitted, is_some, list_any-from_Contains, list_cmp, no_value, none_is, none_is_some, one_or_apart, option_map, outs_of_drop, put_station, row_of, same_addr, same_bssid, station_at, station_of_aid, tied, verdict, wire, with_answer}
use Rattle.std.specs.List.{flat_map}
use Rattle.apd_base.specs.declared.station.Policy.{Policy as BssPolicy}
use Rattle.apd_mlme.specs.rules.Association as rule
use Rattle.apd_mlme.proofs.AssociationLemmas.{cleared, cleared_here, cleared_station, associated_station}
use Rattle.apd_mlme.proofs.AssociationResponseLemmas.{at_again, at_anew}
use Rattle.apd_mlme.proofs.AuthenticationLemmas.{admitted_aid}
use Rattle.apd_mlme.proofs.DropLemmas.{taken_out}
use Rattle.apd_mlme.proofs.ElsewhereLemmas.{is_bssid_among}
use Rattle.apd_mlme.proofs.EnforcementLemmas as enforcement
use Rattle.apd_mlme.proofs.EnforcementLemmas.{denied, enforced_dropped, enforced_elsewhere, enforced_gone, enforced_here, new}
use Rattle.apd_mlme.proofs.LetGoLemmas.{aid_there, ends_there, its_own, or_none}
use Rattle.apd_mlme.proofs.RadioLemmas.{all_at, answered_at, drop_at, dropped_at, each_at, end_at, farewell_bssid, farewell_to, frames-append, frames-each, frames-none, gone_at, gone_frames, here, left_at, removal_at, sent_at, told_frames, where_it_is}
use Rattle.apd_mlme.proofs.RisingLemmas.{denied_rise, none_rise, one_rises}
use Rattle.apd_mlme.proofs.RowLemmas.{back, back_station, is_row, out, out_row, out_station, put_back_aid, station_put, turned_not}
use Rattle.apd_mlme.proofs.Shapes as shape
use Rattle.apd_mlme.proofs.Shapes.{IsAsked, IsOthers, Shape, by_shape}

-- nobody is among none, and one is among one
none_told : {A : Type 0} (a : Addr) → Contains {X = Addr} [] a → A
none_told a h = absurd (omega (arith, h.1))

only_told : (a d : Addr) → Contains (a ∷ []) d → d ≡ a
only_told a d h = same_addr a d (or_none (eq_by_cmp addr_cmp d a) ∙ list_any-from_Contains (eq_by_cmp_equiv addr_total) d (a ∷ []) h)

one_told : (a d : Addr) → d ≡ a → Contains (a ∷ []) d
one_told a d same = subst (λ x. Contains (a ∷ []) x) (sym same) (Contains-push [] a)

not_one : (b c : Bssid) → eq_by_cmp bssid_cmp c b ≡ false → c ≢ b
not_one b c apart same = differ (eq_by_cmp bssid_cmp c b) apart (ap (λ x. eq_by_cmp bssid_cmp x b) same ∙ tied bssid_total bssid_exact b)

still_some : {A B : Type 0} (f : A → B) (o : Option A) → option_map f o ≡ None → IsSome o → ⊥
still_some f None e known = cc
still_some f (Some x) e known = none_is_some (f x) (sym e)

-- ---- who lost what it had
module _ (s new : State) (c : Bssid) where
  same_lost : (d : Addr) → station_at new c d ≡ station_at s c d → HasLost s new c d → ⊥
  same_lost d same (inl ceased) = none_is (aid_at s c d) (sym (ap aid_of same) ∙ ceased.1) ceased.0
  same_lost d same (inr gone) = none_is (station_at s c d) (sym same ∙ gone.1) gone.0

  -- where one row alone is another, its station
  lost_here : (b : Bssid) (a d : Addr) → (is_row b a c d ≡ false → station_at new c d ≡ station_at s c d) → HasLost s new c d → (c ≡ b) × (d ≡ a)
  lost_here b a d other lost =
      elim (is_row b a c d) as (λ t. is_row b a c d ≡ t → (c ≡ b) × (d ≡ a)) [
        | true ↦ λ e. (let parts = and_parts (eq_by_cmp bssid_cmp c b) (eq_by_cmp addr_cmp d a) e in (same_bssid b c parts.0, same_addr a d parts.1))
        | false ↦ λ e. absurd (same_lost d (other e) lost)
      ] refl

  lost_row : (d : Addr) → HasLost s new c d → IsSome (station_at s c d)
  lost_row d (inl ceased) = station_of_aid (station_at s c d) ceased.0
  lost_row d (inr gone) = gone.0

  -- where a row is as it was or gone, it is gone
  lost_gone : (d : Addr) (t : Bool) → station_at new c d ≡ cond t (station_at s c d) None → HasLost s new c d → station_at new c d ≡ None
  lost_gone d true is lost = absurd (same_lost d is lost)
  lost_gone d false is lost = is

-- ---- the frames of one radio
module _ (s : State) (h : Happening) (c : Bssid) (v : Verdict) where
  -- none
  none_due : frames (here c v.outs) ≡ [] → ((d : Addr) → HasLost s v.state c d → HasLeft h c d ⊎ IsToAll h) → AreFramesDue s h c v
  none_due is left = record {
    told = [];
    notices = [];
    answer = [];
    all = is;
    are_notices = tt;
    once = none_rise;
    those = λ a. (λ h. none_told a h, λ lost. absurd (elim (left a lost.0) [ inl own ↦ lost.1 own | inr all ↦ lost.2 all ]));
    is_answer = inl refl;
  }

  -- one to whom the event names
  answer_due : (reply : Reply) → frames (here c v.outs) ≡ wire reply ∷ [] → reply.bssid ≡ c → Names h c reply.to → ((d : Addr) → HasLost s v.state c d → IsToAll h) → AreFramesDue s h c v
  answer_due reply is its named left = record {
    told = [];
    notices = [];
    answer = wire reply ∷ [];
    all = is;
    are_notices = tt;
    once = none_rise;
    those = λ a. (λ h. none_told a h, λ lost. absurd (lost.2 (left a lost.0)));
    is_answer = inr (reply, refl, its, named, λ h. none_told reply.to h);
  }

  -- one for each of some who lost what they had
  notices_due : (told : List Addr) (notices : List (List ℕ)) → frames (here c v.outs) ≡ notices → AreNotices c told notices → Rise told → ((d : Addr) → Contains told d ↔ HasLost s v.state c d) → IsOthers h → AreFramesDue s h c v
  notices_due told notices is are rise those others = record {
    told = told;
    notices = notices;
    answer = [];
    all = is ∙ sym (append-nil notices);
    are_notices = are;
    once = rise;
    those = λ a. (λ h. ((those a).0 h, others.0 c a, others.1), λ lost. (those a).1 lost.0);
    is_answer = inl refl;
  }

-- ---- a frame alone
module _ (s : State) (h : Happening) (c : Bssid) (v : Verdict) (reply : Reply) where
  reply_due : here c v.outs ≡ where_it_is c reply.bssid (Frame (wire reply) ∷ []) → Names h reply.bssid reply.to → ((d : Addr) → HasLost s v.state c d → ⊥) → AreFramesDue s h c v
  reply_due at named none =
      elim (one_or_apart bssid_total bssid_exact c reply.bssid) [
        | inl same ↦
            let its : eq_by_cmp bssid_cmp c reply.bssid ≡ true = ap (λ x. eq_by_cmp bssid_cmp x reply.bssid) same ∙ tied bssid_total bssid_exact reply.bssid in
            answer_due s h c v reply (ap frames (at ∙ ap (λ t. cond t (Frame (wire reply) ∷ []) []) its)) (sym same) (subst (λ x. Names h x reply.to) (sym same) named) (λ d lost. absurd (none d lost))
        | inr apart ↦ none_due s h c v (ap frames (at ∙ ap (λ t. cond t (Frame (wire reply) ∷ []) []) apart)) (λ d lost. absurd (none d lost))
      ]

-- ---- stations of one BSSID
module _ (s : State) (h : Happening) (c b : Bssid) (v : Verdict) (outs : List Out) (at : (x : Bssid) → here x v.outs ≡ where_it_is x b outs) where
  -- what is so at its radio, and at every other
  by_radio : AreFramesDue s h b v → (eq_by_cmp bssid_cmp c b ≡ false → AreFramesDue s h c v) → AreFramesDue s h c v
  by_radio its others =
      elim (one_or_apart bssid_total bssid_exact c b) [
        | inl same ↦ subst (λ x. AreFramesDue s h x v) (sym same) its
        | inr apart ↦ others apart
      ]

  frames_here : frames (here b v.outs) ≡ frames outs
  frames_here = ap frames (at b ∙ ap (λ t. cond t outs []) (tied bssid_total bssid_exact b))

  frames_there : eq_by_cmp bssid_cmp c b ≡ false → frames (here c v.outs) ≡ []
  frames_there apart = ap frames (at c ∙ ap (λ t. cond t outs []) apart)

  module _ (a : Addr) (other : (x : Bssid) (d : Addr) → is_row b a x d ≡ false → station_at v.state x d ≡ station_at s x d) where
    lost_there : (x : Bssid) (d : Addr) → HasLost s v.state x d → (x ≡ b) × (d ≡ a)
    lost_there x d = lost_here s v.state x b a d (other x d)

    nobody_there : eq_by_cmp bssid_cmp c b ≡ false → (d : Addr) → HasLost s v.state c d → ⊥
    nobody_there apart d lost = not_one b c apart (lost_there c d lost).0

    -- a station left by itself
    left_due : frames outs ≡ [] → HasLeft h b a → AreFramesDue s h c v
    left_due none own =
        by_radio (none_due s h b v (frames_here ∙ none) (λ d lost. inl (subst (λ x. HasLeft h b x) (sym (lost_there b d lost).1) own)))
        (λ apart. none_due s h c v (frames_there apart) (λ d lost. absurd (nobody_there apart d lost)))

    -- or is told
    told_due : (bytes : List ℕ) → frames outs ≡ bytes ∷ [] → AreNotices b (a ∷ []) (bytes ∷ []) → HasLost s v.state b a → IsOthers h → AreFramesDue s h c v
    told_due bytes one are its others =
        by_radio (notices_due s h b v (a ∷ []) (bytes ∷ []) (frames_here ∙ one) are (one_rises a)
        (λ d. (λ h. subst (λ x. HasLost s v.state b x) (sym (only_told a d h)) its, λ lost. one_told a d (lost_there b d lost).1)) others)
        (λ apart. none_due s h c v (frames_there apart) (λ d lost. absurd (nobody_there apart d lost)))

-- ---- association
module _ (s : State) (confs : List Conf) (conf : Conf) (b : Bssid) (kind : Kind) (request : AssociationRequest) (sound : Sound s) (aid : Aid) (own : identifier_for s b (station_at s b request.sender) ≡ Some aid) (c : Bssid) (configured : IsSome (conf_at confs c)) (h : Happening) (asked : IsAsked h b request.sender) where
  abbrev a : Addr
  a = request.sender

  abbrev v : Verdict
  v = rule.acceptance s confs conf b kind request aid

  nobody_left : IsOthers h
  nobody_left = (λ x d own. asked.3 d (subst (λ y. HasLeft y x d) asked.1 own).1, λ all. subst IsToAll asked.1 all)

  abbrev among : Bool
  among = is_bssid_among c (bssids_elsewhere s b a)

  -- at another radio
  module _ (other : eq_by_cmp bssid_cmp c b ≡ false) where
    station_there : (d : Addr) → station_at v.state c d ≡ station_at (cleared s b a) c d
    station_there d = associated_station s confs conf b kind request aid c d ∙ ap (λ t. cond (t && eq_by_cmp addr_cmp d a) (Some (row_of request aid)) (station_at (cleared s b a) c d)) other

    lost_its : (d : Addr) → HasLost s v.state c d → (among ≡ true) × (d ≡ a)
    lost_its d (inl ceased) =
        let parts = and_parts among (eq_by_cmp addr_cmp d a) (taken_out (among && eq_by_cmp addr_cmp d a) (aid_at s c d) (sym (aid_there s confs conf b kind request sound aid own c configured other d) ∙ ceased.1) ceased.0) in
        (parts.0, same_addr a d parts.1)
    lost_its d (inr gone) = absurd (still_some _ (station_at s c d) (sym (station_there d ∙ cleared_station s b a c d) ∙ gone.1) gone.0)

    was_lost : among ≡ true → HasLost s v.state c a
    was_lost e = inl (
      its_own s confs conf b kind request sound aid own c configured other e,
      aid_there s confs conf b kind request sound aid own c configured other a ∙ (λ i. cond (e i && tied addr_total addr_exact a i) None (aid_at s c a)),
    )

    there_due : AreFramesDue s h c v
    there_due =
        let at = ends_there s confs conf b kind request sound aid own c configured other in
        let notice = wire (disassociation c a UNSPECIFIED) in
        elim among as (λ t. among ≡ t → AreFramesDue s h c v) [
          | true ↦ λ e. notices_due s h c v (a ∷ []) (notice ∷ []) (ap frames (at ∙ ap (λ t. cond t (Remove a ∷ Frame notice ∷ []) []) e)) ((UNSPECIFIED, inl refl), tt) (one_rises a)
              (λ d. (λ h. subst (λ x. HasLost s v.state c x) (sym (only_told a d h)) (was_lost e), λ lost. one_told a d (lost_its d lost).1)) nobody_left
          | false ↦ λ e. none_due s h c v (ap frames (at ∙ ap (λ t. cond t (Remove a ∷ Frame notice ∷ []) []) e)) (λ d lost. differ among e (lost_its d lost).0)
        ] refl

  -- at this one
  lost_nothing : (d : Addr) → HasLost s v.state b d → ⊥
  lost_nothing d lost =
      elim (is_row b a b d) as (λ t. station_at v.state b d ≡ cond t (Some (row_of request aid)) (station_at (cleared s b a) b d) → ⊥) [
        | true ↦ λ is. elim lost [
          | inl ceased ↦ none_is_some aid.number (sym ceased.1 ∙ ap aid_of is)
          | inr gone ↦ none_is_some (row_of request aid) (sym gone.1 ∙ is)
        ]
        | false ↦ λ is. same_lost s v.state b d (is ∙ cleared_here s b a d) lost
      ] (associated_station s confs conf b kind request aid b d)

  response_alone : frames (here b v.outs) ≡ wire (association_response conf b kind a Success (Some aid)) ∷ []
  response_alone =
      elim (is_some (aid_at s b a)) as (λ t. is_some (aid_at s b a) ≡ t → frames (here b v.outs) ≡ wire (association_response conf b kind a Success (Some aid)) ∷ []) [
        | true ↦ λ known. ap frames (at_again s confs conf b kind request sound aid own known)
        | false ↦ λ e. ap frames (at_anew s confs conf b kind request sound aid own (no_value (aid_at s b a) e))
      ] refl

  here_due : AreFramesDue s h b v
  here_due = answer_due s h b v (association_response conf b kind a Success (Some aid)) response_alone refl (subst (λ x. Names x b a) (sym asked.1) (refl, asked.2)) (λ d lost. absurd (lost_nothing d lost))

  associated_due : AreFramesDue s h c v
  associated_due =
      elim (one_or_apart bssid_total bssid_exact c b) [
        | inl same ↦ subst (λ x. AreFramesDue s h x v) (sym same) here_due
        | inr other ↦ there_due other
      ]

-- ---- those whom an edit or a start denies
are_told : (b : Bssid) (as' : List Addr) → AreNotices b as' (list_map (λ a. wire (deauthentication b a UNSPECIFIED)) as')
are_told b [] = tt
are_told b (a ∷ as') = ((UNSPECIFIED, inr refl), are_told b as')

module _ (s : State) (h : Happening) (b : Bssid) (p : BssPolicy) (change : Change) (l : SetOf list_cmp) (q : FinMap bssid_cmp BssPolicy) (others : IsOthers h) (c : Bssid) where
  abbrev w : Verdict
  w = enforcement.v s b p change l q

  abbrev gone : List Addr
  gone = denied s b p change l q

  gone_lost : (d : Addr) → Contains gone d ↔ HasLost s w.state b d
  gone_lost d = (
    λ h.
        let among = list_any-from_Contains (eq_by_cmp_equiv addr_total) d gone h in
        let row = (denied_among (new s b p change l q) b p.mode d among).0 in
        inr (ap is_some row.1, enforced_dropped s b p change l q d among),
    λ lost.
        let none = lost_gone s w.state b d _ (enforced_here s b p change l q d) lost in
        Contains-from_any (λ x y e. same_addr y x e) d gone (enforced_gone s b p change l q d (lost_row s w.state b d lost) none),
  )

  enforced_due : AreFramesDue s h c w
  enforced_due =
      let outs = flat_map (dropped_at s b UNSPECIFIED) gone in
      let at = λ (x : Bssid). each_at x b (λ a. outs_of_drop s b a UNSPECIFIED) (dropped_at s b UNSPECIFIED) (drop_at x s b UNSPECIFIED) gone in
      let notices = list_map (λ a. wire (deauthentication b a UNSPECIFIED)) gone in
      by_radio s h c b w outs at
      (notices_due s h b w gone notices (frames_here s h c b w outs at ∙ frames-each (dropped_at s b UNSPECIFIED) (λ a. wire (deauthentication b a UNSPECIFIED)) (λ a. told_frames s b a (wire (deauthentication b a UNSPECIFIED))) gone) (are_told b gone) (denied_rise (new s b p change l q) b p.mode) gone_lost others)
      (λ apart. none_due s h c w (frames_there s h c b w outs at apart) (λ d lost. absurd (same_lost s w.state c d (enforced_elsewhere s b p change l q c (not_one b c apart) d) lost)))

still_there : (t : Bool) (o : Option Station) → cond t (Some Authenticated) o ≡ None → IsSome o → ⊥
still_there true o e known = none_is_some Authenticated (sym e)
still_there false o e known = none_is o e known

back_same : (s : State) (b : Bssid) (a : Addr) (c : Bssid) (d : Addr) → is_row b a c d ≡ false → station_at (back s b a) c d ≡ station_at s c d
back_same s b a c d e = back_station s b a c d ∙ turned_not (is_row b a c d) (station_at s c d) e

out_same : (s : State) (b : Bssid) (a : Addr) (c : Bssid) (d : Addr) → is_row b a c d ≡ false → station_at (out s b a) c d ≡ station_at s c d
out_same s b a c d e = out_station s b a c d ∙ ap (λ t. cond t None (station_at s c d)) e

-- ---- any event
module _ (s : State) (confs : List Conf) (sound : Sound s) (c : Bssid) (configured : IsSome (conf_at confs c)) where
  shape_due : (h : Happening) (v : Verdict) → Shape s confs h v → AreFramesDue s h c v
  shape_due h v shape.silent = none_due s h c v refl (λ d lost. absurd (same_lost s s c d refl lost))
  shape_due h v (shape.told reply there so one named) = reply_due s h c v reply (sent_at c reply) named (λ d lost. same_lost s s c d refl lost)
  shape_due h v (shape.admitted conf b request there is e) =
      let reply = auth_response b request (auth_status s conf b request) in
      reply_due s h c v reply (sent_at c reply) (subst (λ x. Names x b request.sender) (sym is) (refl, refl)) (admitted_lost conf b request e)
    where
      admitted_lost : (conf : Conf) (b : Bssid) (request : Authentication) → is_admitted s conf b request ≡ true → (d : Addr) → HasLost s (put_station b request.sender Authenticated s) c d → ⊥
      admitted_lost conf b request e d (inl ceased) = none_is (aid_at s c d) (sym (admitted_aid s conf b request e c d) ∙ ceased.1) ceased.0
      admitted_lost conf b request e d (inr gone) = still_there (is_row b request.sender c d) (station_at s c d) (sym (station_put s b request.sender Authenticated c d) ∙ gone.1) gone.0
  shape_due h v (shape.left b a there own known) = left_due s h c b v (gone_at s b a) (λ x. left_at x s b a known) a (back_same s b a) (gone_frames s b a) own
  shape_due h v (shape.gone b a there own known) = left_due s h c b v (gone_at s b a) (λ x. removal_at x s b a) a (out_same s b a) (gone_frames s b a) own
  shape_due h v (shape.ended b a reason there known others) =
      let bytes = wire (disassociation b a reason) in
      told_due s h c b v (gone_at s b a ++ Frame bytes ∷ []) (λ x. end_at x s b a known reason) a (back_same s b a) bytes (told_frames s b a bytes) ((reason, inl refl), tt) (inl (known, put_back_aid s b a)) others
  shape_due h v (shape.dropped b a reason there known others) =
      let bytes = wire (deauthentication b a reason) in
      told_due s h c b v (dropped_at s b reason a) (λ x. drop_at x s b reason a) a (out_same s b a) bytes (told_frames s b a bytes) ((reason, inr refl), tt) (inr (known, out_row s b a)) others
  shape_due h v (shape.associated conf b kind request aid there known own asked made) = associated_due s confs conf b kind request sound aid own c configured h asked
  shape_due h v (shape.emptied b reason deauth there to_all) =
      let all = addresses_at s b in
      let reply = farewell b BROADCAST reason deauth in
      let outs = flat_map (gone_at s b) all ++ Frame (wire reply) ∷ [] in
      let at = λ (x : Bssid). all_at x s b all reply (farewell_bssid b BROADCAST reason deauth) in
      by_radio s h c b v outs at
      (answer_due s h b v reply (frames_here s h c b v outs at ∙ frames-append (flat_map (gone_at s b) all) (Frame (wire reply) ∷ []) ∙ ap (λ zs. zs ++ wire reply ∷ []) (frames-none (gone_at s b) (gone_frames s b) all))
      (farewell_bssid b BROADCAST reason deauth) (subst (Names h b) (sym (farewell_to b BROADCAST reason deauth)) to_all.1) (λ d lost. to_all.0))
      (λ apart. none_due s h c v (frames_there s h c b v outs at apart) (λ d lost. inr to_all.0))
  shape_due h w (shape.enforced b p change l q there makes keep short others needed) = enforced_due s h b p change l q others c
  shape_due h v (shape.started conf b accept deny is first) = none_due s h c v refl (λ d lost. absurd (same_lost s v.state c d refl lost))

  answered_due : (h : Happening) (tag : ℕ) (answer : Answer) (v : Verdict) → AreFramesDue s h c v → AreFramesDue s h c (with_answer tag answer v)
  answered_due h tag answer v due = record {
    told = due.told;
    notices = due.notices;
    answer = due.answer;
    all = ap frames (answered_at c tag answer v.outs) ∙ due.all;
    are_notices = due.are_notices;
    once = due.once;
    those = due.those;
    is_answer = due.is_answer;
  }

  pub verdict_due : (h : Happening) → AreFramesDue s h c (verdict s confs h)
  verdict_due h = by_shape s confs (AreFramesDue s h c) (answered_due h) h (shape_due h)
