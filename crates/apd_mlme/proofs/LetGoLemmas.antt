-- Whom drivers let go: whoever has ceased to be associated, once and in address order.
use Rattle.std.proofs.Common.{◌≡◌, ℕ, Bool, true, false, cond, ◌&&◌, ◌||◌, List, [], ◌∷◌, ◌++◌, Some, None, inl, inr, refl, sym, ap, subst, ◌∙◌, IsSome, append-nil, arith, ◌↔◌}
use Rattle.std.specs.Prelude.{filter}
use Rattle.apd_mlme.proofs.Words.{Addr, Aid, Answer, AreLetGo, AssociationRequest, BROADCAST, Bssid, Conf, Contains, Contains-from_any, Frame, Happening, HasCeased, Kind, Less, Out, Radio, Remove, Reply, Rise, Sound, State, UNSPECIFIED, Verdict, addr_cmp, addr_total, addresses_at, aid_at, aid_of, and_parts, any-filter_same, auth_response, auth_status, both_true, bssid_cmp, bssid_exact, bssid_total, bssids_elsewhere, conf_at, deauthentication, disassociation, eq_by_cmp, eq_by_cmp_equiv, farewell, identifier_for, is_among, is_some, list_any-from_Contains, no_value, none_is, none_is_some, one_or_apart, outs_of_drop, outs_to, reply_out, same_addr, station_at, stations_let_go, tied, verdict, wire, with_answer}
use Rattle.std.specs.List.{flat_map}
use Rattle.std.specs.FinMap as map
use Rattle.std.proofs.lemmas.List.Kept.{AllPairs-filter}
use Rattle.apd_mlme.specs.rules.Association as rule
use Rattle.apd_mlme.proofs.AssociationLemmas.{associated_aid, cleared, cleared_aid, cleared_here}
use Rattle.apd_mlme.proofs.AssociationResponseLemmas.{at_again, at_anew, at_other, ends_at}
use Rattle.apd_mlme.proofs.AuthenticationLemmas.{admitted_aid}
use Rattle.apd_mlme.proofs.DropLemmas.{kept_aid, all_leave, is_elsewhere, taken_out}
use Rattle.apd_mlme.proofs.ElsewhereLemmas.{is_bssid_among, among-filter, among_elsewhere}
use Rattle.apd_mlme.proofs.EnforcementLemmas.{denied, enforced_aid, new}
use Rattle.apd_mlme.proofs.RisingLemmas.{addresses_rise, apart-filter, denied_rise, keys_apart, none_rise, one_rises}
use Rattle.apd_mlme.proofs.RowLemmas.{back_aid, is_row, out_aid}
use Rattle.apd_mlme.proofs.Shapes as shape
use Rattle.apd_mlme.proofs.Shapes.{Shape, by_shape}
use Rattle.apd_mlme.proofs.RadioLemmas.{farewell_bssid, here, sent_at, each_at, answered_at, where_it_is, gone_at, dropped_at, removal_at, drop_at, left_at, end_at, all_at, stations_let_go-append, stations_let_go-each, gone_let_go, told_let_go}

pub or_none : (t : Bool) → t ≡ (t || false)
or_none true = refl
or_none false = refl

swapped : (t m p : Bool) → t ≡ true → (p && m) ≡ ((t && m) && p)
swapped true true true e = refl
swapped true true false e = refl
swapped true false true e = refl
swapped true false false e = refl
swapped false m p e = cc

-- they are those that passed a test, and had an identifier
module _ (s : State) (c : Bssid) (v : Verdict) where
  by_test : (xs : List Addr) (t : Addr → Bool) → stations_let_go (here c v.outs) ≡ xs → Rise xs → ((d : Addr) → aid_at v.state c d ≡ cond (t d) None (aid_at s c d)) → ((d : Addr) → is_among d xs ≡ (t d && is_some (aid_at s c d))) → AreLetGo s c v
  by_test xs t is rise new among = record {
    once = subst Rise (sym is) rise;
    those = λ a. (
      λ h.
          let parts = and_parts (t a) (is_some (aid_at s c a)) (sym (among a) ∙ list_any-from_Contains (eq_by_cmp_equiv addr_total) a xs (subst (λ ys. Contains ys a) is h)) in
          (parts.1, new a ∙ ap (λ u. cond u None (aid_at s c a)) parts.0),
      λ ceased.
          subst (λ ys. Contains ys a) (sym is) (Contains-from_any (λ x y e. same_addr y x e) a xs (among a ∙ both_true (t a) (is_some (aid_at s c a)) (taken_out (t a) (aid_at s c a) (sym (new a) ∙ ceased.1) ceased.0) ceased.0)),
    );
  }

  -- nobody
  nobody : stations_let_go (here c v.outs) ≡ [] → ((d : Addr) → HasCeased s v.state c d → ⊥) → AreLetGo s c v
  nobody is none = record {
    once = subst Rise (sym is) none_rise;
    those = λ a. (λ h. nowhere a (subst (λ ys. Contains ys a) is h), λ ceased. absurd (none a ceased));
  }
    where
      nowhere : {A : Type 0} (a : Addr) → Contains {X = Addr} [] a → A
      nowhere a h = absurd (omega (arith, h.1))

  unchanged : ((d : Addr) → aid_at v.state c d ≡ aid_at s c d) → (d : Addr) → HasCeased s v.state c d → ⊥
  unchanged same d ceased = none_is (aid_at s c d) (sym (same d) ∙ ceased.1) ceased.0

-- ---- several stations of a BSSID
module _ (s : State) (c b : Bssid) (v : Verdict) (outs : List Out) (as' : List Addr) where
  abbrev had : Addr → Bool
  had a = is_some (aid_at s b a)

  several : Rise as' → here c v.outs ≡ where_it_is c b outs → stations_let_go outs ≡ filter had as' → ((d : Addr) → aid_at v.state c d ≡ cond (eq_by_cmp bssid_cmp c b && is_among d as') None (aid_at s c d)) → AreLetGo s c v
  several rise at go new =
      elim (one_or_apart bssid_total bssid_exact c b) [
        | inl same ↦
            let its : eq_by_cmp bssid_cmp c b ≡ true = ap (λ x. eq_by_cmp bssid_cmp x b) same ∙ tied bssid_total bssid_exact b in
            by_test s c v (filter had as') (λ d. eq_by_cmp bssid_cmp c b && is_among d as') (ap stations_let_go (at ∙ ap (λ t. cond t outs []) its) ∙ go) (AllPairs-filter (λ x y. addr_cmp x y ≡ Less) had as' rise) new
            (λ d. any-filter_same (eq_by_cmp addr_cmp d) had (had d) (λ k e. ap had (sym (same_addr k d e))) as' ∙ swapped (eq_by_cmp bssid_cmp c b) (is_among d as') (had d) its
            ∙ ap (λ x. (eq_by_cmp bssid_cmp c b && is_among d as') && is_some (aid_at s x d)) (sym same))
        | inr apart ↦ nobody s c v (ap stations_let_go (at ∙ ap (λ t. cond t outs []) apart))
            (unchanged s c v (λ d. new d ∙ ap (λ t. cond (t && is_among d as') None (aid_at s c d)) apart))
      ]

-- one station
module _ (s : State) (c b : Bssid) (a : Addr) (v : Verdict) (outs : List Out) where
  one_goes : here c v.outs ≡ where_it_is c b outs → stations_let_go outs ≡ cond (is_some (aid_at s b a)) (a ∷ []) [] → ((d : Addr) → aid_at v.state c d ≡ cond (is_row b a c d) None (aid_at s c d)) → AreLetGo s c v
  one_goes at go new =
      several s c b v outs (a ∷ []) (one_rises a) at go (λ d. new d ∙ ap (λ t. cond (eq_by_cmp bssid_cmp c b && t) None (aid_at s c d)) (or_none (eq_by_cmp addr_cmp d a)))

-- ---- a frame alone
sent_lets_go : (c : Bssid) (reply : Reply) → stations_let_go (here c (reply_out reply ∷ [])) ≡ []
sent_lets_go c reply = ap stations_let_go (sent_at c reply) ∙ elim (eq_by_cmp bssid_cmp c reply.bssid) as (λ t. stations_let_go (cond t (Frame (wire reply) ∷ []) []) ≡ []) [ true ↦ refl | false ↦ refl ]

-- ---- association
module _ (s : State) (confs : List Conf) (conf : Conf) (b : Bssid) (kind : Kind) (request : AssociationRequest) (sound : Sound s) (aid : Aid) (own : identifier_for s b (station_at s b request.sender) ≡ Some aid) (c : Bssid) (configured : IsSome (conf_at confs c)) where
  abbrev a : Addr
  a = request.sender

  abbrev v : Verdict
  v = rule.acceptance s confs conf b kind request aid

  abbrev among : Bool
  among = is_bssid_among c (bssids_elsewhere s b a)

  -- at another radio
  module _ (other : eq_by_cmp bssid_cmp c b ≡ false) where
    pub ends_there : here c v.outs ≡ cond among (Remove a ∷ (reply_out (disassociation c a UNSPECIFIED)).1 ∷ []) []
    ends_there =
        at_other s confs conf b kind request sound aid own c other
        ∙ ends_at c a (filter (λ x. is_some (conf_at confs x)) (bssids_elsewhere s b a)) (apart-filter (λ x. is_some (conf_at confs x)) (bssids_elsewhere s b a) (apart-filter (rule.is_elsewhere s b a) (map.keys s.policies) (keys_apart s.policies)))
        ∙ ap (λ t. cond t (Remove a ∷ (reply_out (disassociation c a UNSPECIFIED)).1 ∷ []) []) (among-filter (λ x. is_some (conf_at confs x)) c (bssids_elsewhere s b a) ∙ ap (λ t. t && among) configured)

    pub aid_there : (d : Addr) → aid_at v.state c d ≡ cond (among && eq_by_cmp addr_cmp d a) None (aid_at s c d)
    aid_there d = associated_aid s confs conf b kind request aid c d ∙ ap (λ t. cond (t && eq_by_cmp addr_cmp d a) (Some aid.number) (aid_at (cleared s b a) c d)) other ∙ cleared_aid s b a c d

    -- where it was associated
    pub its_own : among ≡ true → is_some (aid_at s c a) ≡ true
    its_own e = (and_parts _ _ (and_parts _ _ (sym (among_elsewhere s b a c) ∙ e)).0).1

    was_its : (d : Addr) (m : Bool) → (m ≡ true → is_some (aid_at s c a) ≡ true) → is_among d (cond m (a ∷ []) []) ≡ ((m && eq_by_cmp addr_cmp d a) && is_some (aid_at s c d))
    was_its d false known = refl
    was_its d true known =
        elim (eq_by_cmp addr_cmp d a) as (λ t. eq_by_cmp addr_cmp d a ≡ t → (t || false) ≡ (t && is_some (aid_at s c d))) [
          | true ↦ λ e. sym (ap (λ x. is_some (aid_at s c x)) (same_addr a d e) ∙ known refl)
          | false ↦ λ e. refl
        ] refl

    one_or_none : (m : Bool) → Rise (cond m (a ∷ []) [])
    one_or_none true = one_rises a
    one_or_none false = none_rise

    there_let_go : AreLetGo s c v
    there_let_go =
        by_test s c v (cond among (a ∷ []) []) (λ d. among && eq_by_cmp addr_cmp d a)
        (ap stations_let_go ends_there ∙ elim among as (λ t. stations_let_go (cond t (Remove a ∷ (reply_out (disassociation c a UNSPECIFIED)).1 ∷ []) []) ≡ cond t (a ∷ []) []) [ true ↦ refl | false ↦ refl ])
        (one_or_none among) aid_there (λ d. was_its d among its_own)

  -- at this one nobody ceases
  here_stays : c ≡ b → (d : Addr) → HasCeased s v.state c d → ⊥
  here_stays same d ceased =
      elim (is_row b a c d) as (λ t. aid_at v.state c d ≡ cond t (Some aid.number) (aid_at (cleared s b a) c d) → ⊥) [
        | true ↦ λ is. none_is_some aid.number (sym ceased.1 ∙ is)
        | false ↦ λ is. none_is (aid_at s c d) (sym (is ∙ ap (λ x. aid_at (cleared s b a) x d) same ∙ ap aid_of (cleared_here s b a d) ∙ ap (λ x. aid_at s x d) (sym same)) ∙ ceased.1) ceased.0
      ] (associated_aid s confs conf b kind request aid c d)

  installation_lets_go : stations_let_go (outs_to (Radio b) v.outs) ≡ []
  installation_lets_go =
      elim (is_some (aid_at s b a)) as (λ t. is_some (aid_at s b a) ≡ t → stations_let_go (outs_to (Radio b) v.outs) ≡ []) [
        | true ↦ λ known. ap stations_let_go (at_again s confs conf b kind request sound aid own known)
        | false ↦ λ e. ap stations_let_go (at_anew s confs conf b kind request sound aid own (no_value (aid_at s b a) e))
      ] refl

  associated_let_go : AreLetGo s c v
  associated_let_go =
      elim (one_or_apart bssid_total bssid_exact c b) [
        | inl same ↦ nobody s c v (ap (λ x. stations_let_go (here x v.outs)) same ∙ installation_lets_go) (here_stays same)
        | inr other ↦ there_let_go other
      ]

-- ---- any event
module _ (s : State) (confs : List Conf) (sound : Sound s) (c : Bssid) (configured : IsSome (conf_at confs c)) where
  shape_let_go : (h : Happening) (v : Verdict) → Shape s confs h v → AreLetGo s c v
  shape_let_go h v shape.silent = nobody s c v refl (unchanged s c v (λ d. refl))
  shape_let_go h v (shape.told reply there so one named) = nobody s c v (sent_lets_go c reply) (unchanged s c v (λ d. refl))
  shape_let_go h v (shape.admitted conf b request there is e) = nobody s c v (sent_lets_go c (auth_response b request (auth_status s conf b request))) (unchanged s c v (admitted_aid s conf b request e c))
  shape_let_go h v (shape.left b a there own known) = one_goes s c b a v (gone_at s b a) (left_at c s b a known) (gone_let_go s b a) (back_aid s b a c)
  shape_let_go h v (shape.gone b a there own known) = one_goes s c b a v (gone_at s b a) (removal_at c s b a) (gone_let_go s b a) (out_aid s b a c)
  shape_let_go h v (shape.ended b a reason there known others) = one_goes s c b a v (gone_at s b a ++ Frame (wire (disassociation b a reason)) ∷ []) (end_at c s b a known reason) (told_let_go s b a (wire (disassociation b a reason))) (back_aid s b a c)
  shape_let_go h v (shape.dropped b a reason there known others) = one_goes s c b a v (dropped_at s b reason a) (drop_at c s b reason a) (told_let_go s b a (wire (deauthentication b a reason))) (out_aid s b a c)
  shape_let_go h v (shape.associated conf b kind request aid there known own asked made) = associated_let_go s confs conf b kind request sound aid own c configured
  shape_let_go h v (shape.emptied b reason deauth there to_all) =
      let all = addresses_at s b in
      let reply = farewell b BROADCAST reason deauth in
      several s c b v (flat_map (gone_at s b) all ++ Frame (wire reply) ∷ []) all (addresses_rise s b) (all_at c s b all reply (farewell_bssid b BROADCAST reason deauth))
      (stations_let_go-append (flat_map (gone_at s b) all) (Frame (wire reply) ∷ []) ∙ append-nil (stations_let_go (flat_map (gone_at s b) all)) ∙ stations_let_go-each (gone_at s b) (λ a. is_some (aid_at s b a)) (gone_let_go s b) all)
      (kept_aid s b (is_elsewhere s b) all (all_leave s b) c)
  shape_let_go h w (shape.enforced b p change l q there makes keep short others needed) =
      let gone = denied s b p change l q in
      several s c b w (flat_map (dropped_at s b UNSPECIFIED) gone) gone (denied_rise (new s b p change l q) b p.mode) (each_at c b (λ a. outs_of_drop s b a UNSPECIFIED) (dropped_at s b UNSPECIFIED) (drop_at c s b UNSPECIFIED) gone)
      (stations_let_go-each (dropped_at s b UNSPECIFIED) (λ a. is_some (aid_at s b a)) (λ a. told_let_go s b a (wire (deauthentication b a UNSPECIFIED))) gone)
      (enforced_aid s b p change l q c)
  shape_let_go h v (shape.started conf b accept deny is first) = nobody s c v refl (unchanged s c v (λ d. refl))

  answered_let_go : (tag : ℕ) (answer : Answer) (v : Verdict) → AreLetGo s c v → AreLetGo s c (with_answer tag answer v)
  answered_let_go tag answer v are = record {
    once = subst (λ outs. Rise (stations_let_go outs)) (sym (answered_at c tag answer v.outs)) are.once;
    those = λ a. subst (λ outs. Contains (stations_let_go outs) a ↔ HasCeased s v.state c a) (sym (answered_at c tag answer v.outs)) (are.those a);
  }

  pub verdict_lets_go : (h : Happening) → AreLetGo s c (verdict s confs h)
  verdict_lets_go h = by_shape s confs (AreLetGo s c) answered_let_go h (shape_let_go h)
