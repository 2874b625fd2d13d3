-- A station whose association ends is told so, unless it ended it itself; and its driver lets it go before.
use Rattle.std.proofs.Common.{◌≡◌, Bool, true, false, cond, ◌&&◌, ◌||◌, List, [], ◌∷◌, ◌++◌, Option, Some, None, ◌⊎◌, inl, inr, refl, sym, ap, subst, ◌∙◌, IsSome, ℕ}
use Rattle.std.specs.Prelude.{filter}
use Rattle.apd_mlme.proofs.Words.{Addr, Aid, Answer, Association, AssociationRequest, Authenticated, BROADCAST, Bssid, Change, Conf, Configure, Contains, Contains-append_left, Contains-append_right, Contains-push, FinMap, Happening, HasLeft, Install, IsMeant, IsToldOfEnd, Kind, Out, Policy, Radio, Reason, Reassociation, Recipient, Remove, SetOf, State, Success, UNSPECIFIED, Verdict, addr_cmp, addresses_at, aid_at, and_parts, append_assoc, association_response, bssid_cmp, bssids_elsewhere, conf_at, eq_by_cmp, farewell, first_start, installation, is_among, is_some, kick_of_all, later_start, list_any, list_cmp, none_is, octets_of, outs_elsewhere, outs_of_drop, outs_of_end, policy_at, policy_of, put_back, put_station, rates_element, rates_in, removal, reply_out, row_drop, same_addr, same_aid, same_bssid, same_some, station_at, text, verdict, verdict_under, with_answer}
use Rattle.std.specs.List.{flat_map}
use Rattle.std.specs.FinMap as map
use Rattle.apd_mlme.specs.rules.Association as rule
use Rattle.apd_mlme.specs.laws.Order.{Precedes, IsLetGoFirst, IsTakenInFirst}
use Rattle.apd_record.specs.declared.change.Change.TheVariants.{Policy as SetPolicy}
use Rattle.apd_mlme.specs.rules.Leaving as told
use Rattle.apd_mlme.specs.laws.Start.{AreDroppedTold}
use Rattle.apd_mlme.proofs.AssociationLemmas.{cleared, cleared_aid, associated_aid}
use Rattle.apd_mlme.proofs.AuthenticationLemmas.{admitted_aid}
use Rattle.apd_mlme.proofs.EnforcementLemmas.{denied, v, enforced_aid, enforced_gone}
use Rattle.apd_mlme.proofs.RowLemmas.{is_row, back_aid, out_aid}
use Rattle.apd_mlme.proofs.DropLemmas.{taken_out, kept_aid, all_leave, is_elsewhere}
use Rattle.apd_mlme.proofs.ElsewhereLemmas as elsewhere_laws
use Rattle.apd_mlme.proofs.Shapes as shape
use Rattle.apd_mlme.proofs.Shapes.{Shape, by_shape}

-- the association of one station ends
record Ends (s new : State) (b : Bssid) (a : Addr) : Type 0 where
  before : IsSome (aid_at s b a)
  after : aid_at new b a ≡ None

kept : {A : Type 0} (s new : State) (b : Bssid) (a : Addr) → Ends s new b a → aid_at new b a ≡ aid_at s b a → A
kept s new b a ends same = none_is (aid_at s b a) (sym same ∙ ends.after) ends.before

-- ---- what stands before another out, and what tells a station, does so among more outs
module _ (xs ys : List (Recipient × Out)) where
  module _ (x y : Recipient × Out) where
    pub precedes : Contains xs x → Contains ys y → Precedes (xs ++ ys) x y
    precedes first second = (xs, ys, refl, first, second)

    before_more : Precedes xs x y → Precedes (xs ++ ys) x y
    before_more p = (p.0, p.1 ++ ys, ap (λ zs. zs ++ ys) p.2 ∙ append_assoc p.0 p.1 ys, p.3, Contains-append_left p.1 ys y p.4)

    behind_more : Precedes ys x y → Precedes (xs ++ ys) x y
    behind_more p = (xs ++ p.0, p.1, ap (λ zs. xs ++ zs) p.2 ∙ sym (append_assoc xs p.0 p.1), Contains-append_right xs p.0 x p.3, p.4)

  first_part : (b : Bssid) (a : Addr) → IsLetGoFirst xs b a → IsLetGoFirst (xs ++ ys) b a
  first_part b a h = (h.0, h.1, h.2, elim h.3 [ inl p ↦ inl (before_more _ _ p) | inr p ↦ inr (before_more _ _ p) ])

  second_part : (b : Bssid) (a : Addr) → IsLetGoFirst ys b a → IsLetGoFirst (xs ++ ys) b a
  second_part b a h = (h.0, h.1, h.2, elim h.3 [ inl p ↦ inl (behind_more _ _ p) | inr p ↦ inr (behind_more _ _ p) ])

-- what the outs for one of several have, and any outs before and behind leave, those for all have
module _ {K : Type 0} (eq : K → K → Bool) (exact : (x y : K) → eq x y ≡ true → y ≡ x) (f : K → List (Recipient × Out)) (P : List (Recipient × Out) → Type 0)
    (more : (xs ys : List (Recipient × Out)) → P xs → P (xs ++ ys)) (later : (xs ys : List (Recipient × Out)) → P ys → P (xs ++ ys)) where
  somewhere : (k : K) (ks : List K) → P (f k) → list_any (eq k) ks ≡ true → P (flat_map f ks)
  somewhere k [] h among = cc
  somewhere k (x ∷ ks) h among =
      elim (eq k x) as (λ t. eq k x ≡ t → (t || list_any (eq k) ks) ≡ true → P (f x ++ flat_map f ks)) [
        | true ↦ λ e _. more (f x) (flat_map f ks) (subst (λ y. P (f y)) (sym (exact k x e)) h)
        | false ↦ λ e rest. later (f x) (flat_map f ks) (somewhere k ks h rest)
      ] refl among

-- ---- one station
-- the row of the event's own station is meant
row_meant : (s : State) (b : Bssid) (a : Addr) (c : Bssid) (d : Addr) (o : Option ℕ) → o ≡ cond (is_row b a c d) None (aid_at s c d) → o ≡ None → IsSome (aid_at s c d) → (c ≡ b) × (d ≡ a)
row_meant s b a c d o is gone known =
    let parts = and_parts (eq_by_cmp bssid_cmp c b) (eq_by_cmp addr_cmp d a) (taken_out (is_row b a c d) (aid_at s c d) (sym is ∙ gone) known) in
    (same_bssid b c parts.0, same_addr a d parts.1)

moved : (outs : List (Recipient × Out)) (b : Bssid) (a : Addr) (c : Bssid) (d : Addr) → (c ≡ b) × (d ≡ a) → IsLetGoFirst outs b a → IsLetGoFirst outs c d
moved outs b a c d same h = subst (λ x. IsLetGoFirst outs x d) (sym same.0) (subst (λ x. IsLetGoFirst outs b x) (sym same.1) h)

module _ (s : State) (b : Bssid) (a : Addr) where
  -- a frame behind the driver's call
  farewell_first : (to : Addr) (reason : Reason) (t : Bool) (outs : List (Recipient × Out)) → IsMeant to a → Contains outs (Radio b, Remove a) → IsLetGoFirst (outs ++ reply_out (farewell b to reason t) ∷ []) b a
  farewell_first to reason true outs meant go = (to, meant, reason.0, inr (precedes outs (reply_out (farewell b to reason true) ∷ []) _ _ go (Contains-push [] (reply_out (farewell b to reason true)))))
  farewell_first to reason false outs meant go = (to, meant, reason.0, inl (precedes outs (reply_out (farewell b to reason false) ∷ []) _ _ go (Contains-push [] (reply_out (farewell b to reason false)))))

  end_first : (reason : Reason) → IsLetGoFirst (outs_of_end b a reason) b a
  end_first reason = farewell_first a reason false ((Radio b, Remove a) ∷ []) (inl refl) (Contains-push [] (Radio b, Remove a))

  let_go : IsSome (aid_at s b a) → Contains (removal s b a) (Radio b, Remove a)
  let_go known =
      let go : Recipient × Out = (Radio b, Remove a) in
      subst (λ t. Contains (cond t (go ∷ []) []) go) (sym known) (Contains-push [] go)

  drop_first : (reason : Reason) → IsSome (aid_at s b a) → IsLetGoFirst (outs_of_drop s b a reason) b a
  drop_first reason known = farewell_first a reason true (removal s b a) (inl refl) (let_go known)

  put_back_ends : (outs : List (Recipient × Out)) (c : Bssid) (d : Addr) → Ends s (put_back s b a outs).state c d → (c ≡ b) × (d ≡ a)
  put_back_ends outs c d ends = row_meant s b a c d (aid_at (put_back s b a outs).state c d) (back_aid s b a c d) ends.after ends.before

  dropped_ends : (outs : List (Recipient × Out)) (c : Bssid) (d : Addr) → Ends s (row_drop s b a outs).state c d → (c ≡ b) × (d ≡ a)
  dropped_ends outs c d ends = row_meant s b a c d (aid_at (row_drop s b a outs).state c d) (out_aid s b a c d) ends.after ends.before

  -- the station that is dropped was associated
  was_known : (c : Bssid) (d : Addr) → (c ≡ b) × (d ≡ a) → IsSome (aid_at s c d) → IsSome (aid_at s b a)
  was_known c d same known = subst IsSome (λ i. aid_at s (same.0 i) (same.1 i)) known

  module _ (c : Bssid) (d : Addr) where
    put_back_first : (reason : Reason) → Ends s (put_back s b a (outs_of_end b a reason)).state c d → IsLetGoFirst (outs_of_end b a reason) c d
    put_back_first reason ends = moved (outs_of_end b a reason) b a c d (put_back_ends [] c d ends) (end_first reason)

    dropped_first : (reason : Reason) → Ends s (row_drop s b a (outs_of_drop s b a reason)).state c d → IsLetGoFirst (outs_of_drop s b a reason) c d
    dropped_first reason ends =
        let same = dropped_ends [] c d ends in
        moved (outs_of_drop s b a reason) b a c d same (drop_first reason (was_known c d same ends.before))

-- ---- association
module _ (s : State) (confs : List Conf) (conf : Conf) (b : Bssid) (kind : Kind) (request : AssociationRequest) where
  abbrev a : Addr
  a = request.sender

  abbrev gone_outs : List (Recipient × Out)
  gone_outs = outs_elsewhere confs a (bssids_elsewhere s b a)

  module _ (c : Bssid) (configured : IsSome (conf_at confs c)) (d : Addr) where
    not_none : {A B : Type 0} (t : Bool) (x : A) (o : Option A) → cond t (Some x) o ≡ None → (t ≡ false → o ≡ None → B) → B
    not_none true x o e more = cc
    not_none false x o e more = more refl e

    associated_ended : (aid : Aid) → Ends s (rule.acceptance s confs conf b kind request aid).state c d → IsLetGoFirst (rule.acceptance s confs conf b kind request aid).outs c d
    associated_ended aid ends =
        not_none (is_row b a c d) aid.number _ (sym (associated_aid s confs conf b kind request aid c d) ∙ ends.after) (λ _ gone.
        let out = taken_out (elsewhere_laws.is_bssid_among c (bssids_elsewhere s b a) && eq_by_cmp addr_cmp d a) (aid_at s c d) (sym (cleared_aid s b a c d) ∙ gone) ends.before in
        let parts = and_parts (elsewhere_laws.is_bssid_among c (bssids_elsewhere s b a)) (eq_by_cmp addr_cmp d a) out in
        let among : elsewhere_laws.is_bssid_among c (filter (λ x. is_some (conf_at confs x)) (bssids_elsewhere s b a)) ≡ true =
        elsewhere_laws.among-filter (λ x. is_some (conf_at confs x)) c (bssids_elsewhere s b a) ∙ (λ i. configured i && parts.0 i) in
        let first : IsLetGoFirst gone_outs c a =
        somewhere (eq_by_cmp bssid_cmp) (λ x y e. sym (same_bssid y x e)) (λ x. outs_of_end x a UNSPECIFIED) (λ outs. IsLetGoFirst outs c a) (λ xs ys. first_part xs ys c a) (λ xs ys. second_part xs ys c a)
        c (filter (λ x. is_some (conf_at confs x)) (bssids_elsewhere s b a)) (end_first s c a UNSPECIFIED) among in
        moved (rule.acceptance s confs conf b kind request aid).outs c a c d (refl, same_addr a d parts.1)
        (first_part (gone_outs ++ installation s b a aid) (reply_out (association_response conf b kind a Success (Some aid)) ∷ []) c a (first_part gone_outs (installation s b a aid) c a first)))

  -- a station that was not associated here is taken in before it is told so
  taken_first : (k : Kind) (aid : Aid) (outs : List (Recipient × Out)) → Contains outs (Radio b, Install a aid) → IsTakenInFirst (outs ++ reply_out (association_response conf b k a Success (Some aid)) ∷ []) b a aid
  taken_first Association aid outs go =
      let answer = reply_out (association_response conf b Association a Success (Some aid)) in
      (1, inl refl, octets_of (rates_element (rates_in conf.hw_mode) ∷ []), precedes outs (answer ∷ []) _ answer go (Contains-push [] answer))
  taken_first Reassociation aid outs go =
      let answer = reply_out (association_response conf b Reassociation a Success (Some aid)) in
      (3, inr refl, octets_of (rates_element (rates_in conf.hw_mode) ∷ []), precedes outs (answer ∷ []) _ answer go (Contains-push [] answer))

  associated_first : (aid : Aid) → aid_at s b a ≡ None → IsTakenInFirst (rule.acceptance s confs conf b kind request aid).outs b a aid
  associated_first aid none =
      let go : Recipient × Out = (Radio b, Install a aid) in
      taken_first kind aid (gone_outs ++ installation s b a aid)
      (Contains-append_right gone_outs (installation s b a aid) go (subst (λ o. Contains (cond (is_some o) [] (go ∷ [])) go) (sym none) (Contains-push [] go)))

-- ---- several stations
-- a station whose row is gone with those of some was one of them
of_them : (s : State) (b : Bssid) (as' : List Addr) (c : Bssid) (d : Addr) (o : Option ℕ) → o ≡ cond (eq_by_cmp bssid_cmp c b && is_among d as') None (aid_at s c d) → o ≡ None → IsSome (aid_at s c d) → (c ≡ b) × (is_among d as' ≡ true) × IsSome (aid_at s b d)
of_them s b as' c d o is gone known =
    let parts = and_parts (eq_by_cmp bssid_cmp c b) (is_among d as') (taken_out (eq_by_cmp bssid_cmp c b && is_among d as') (aid_at s c d) (sym is ∙ gone) known) in
    let same = same_bssid b c parts.0 in
    (same, parts.1, subst (λ x. IsSome (aid_at s x d)) same known)

-- whoever is dropped is told so, and an associated one after its driver
module _ (s : State) (b : Bssid) (d : Addr) (as' : List Addr) (among : is_among d as' ≡ true) where
  abbrev drop_outs : Addr → List (Recipient × Out)
  drop_outs x = outs_of_drop s b x UNSPECIFIED

  abbrev frame : Recipient × Out
  frame = reply_out (told.deauthentication b d UNSPECIFIED)

  pub contains_drop : Contains (flat_map drop_outs as') frame
  contains_drop =
      somewhere (eq_by_cmp addr_cmp) (λ x y e. sym (same_addr y x e)) drop_outs (λ outs. Contains outs frame) (λ xs ys. Contains-append_left xs ys frame) (λ xs ys. Contains-append_right xs ys frame)
      d as' (Contains-push (removal s b d) frame) among

  drops_first : IsSome (aid_at s b d) → IsLetGoFirst (flat_map drop_outs as') b d
  drops_first known =
      somewhere (eq_by_cmp addr_cmp) (λ x y e. sym (same_addr y x e)) drop_outs (λ outs. IsLetGoFirst outs b d) (λ xs ys. first_part xs ys b d) (λ xs ys. second_part xs ys b d)
      d as' (drop_first s b d UNSPECIFIED known) among

  all_go : IsSome (aid_at s b d) → Contains (flat_map (removal s b) as') (Radio b, Remove d)
  all_go known =
      let go : Recipient × Out = (Radio b, Remove d) in
      somewhere (eq_by_cmp addr_cmp) (λ x y e. sym (same_addr y x e)) (removal s b) (λ outs. Contains outs go) (λ xs ys. Contains-append_left xs ys go) (λ xs ys. Contains-append_right xs ys go)
      d as' (let_go s b d known) among

module _ (s : State) (b : Bssid) (p : Policy) (change : Change) (l : SetOf list_cmp) (q : FinMap bssid_cmp Policy) where
  enforced_ended : (c : Bssid) (d : Addr) → Ends s (v s b p change l q).state c d → IsLetGoFirst (v s b p change l q).outs c d
  enforced_ended c d ends =
      let was = of_them s b (denied s b p change l q) c d (aid_at (v s b p change l q).state c d) (enforced_aid s b p change l q c d) ends.after ends.before in
      moved (v s b p change l q).outs b d c d (was.0, refl) (drops_first s b d (denied s b p change l q) was.1 was.2)

  pub enforced_told : (d : Addr) → IsSome (station_at s b d) → station_at (v s b p change l q).state b d ≡ None → Contains (v s b p change l q).outs (reply_out (told.deauthentication b d UNSPECIFIED))
  enforced_told d known gone = contains_drop s b d (denied s b p change l q) (enforced_gone s b p change l q d known gone)

-- ---- control commands
module _ (s : State) (b : Bssid) (c : Bssid) (d : Addr) where
  all_ended : (reason : Reason) (t : Bool) → Ends s (kick_of_all s b reason t).state c d → IsLetGoFirst (kick_of_all s b reason t).outs c d
  all_ended reason t ends =
      let all = addresses_at s b in
      let was = of_them s b all c d (aid_at (kick_of_all s b reason t).state c d) (kept_aid s b (is_elsewhere s b) all (all_leave s b) c d) ends.after ends.before in
      moved (kick_of_all s b reason t).outs b d c d (was.0, refl) (farewell_first s b d BROADCAST reason t (flat_map (removal s b) all) (inr refl) (all_go s b d all was.1 was.2))

-- ---- any event
module _ (s : State) (confs : List Conf) (c : Bssid) (configured : IsSome (conf_at confs c)) (d : Addr) where
  abbrev IsEnded : Happening → Verdict → Type 0
  IsEnded h v = Ends s v.state c d → HasLeft h c d ⊎ IsLetGoFirst v.outs c d

  itself : (h : Happening) (b : Bssid) (a : Addr) → (c ≡ b) × (d ≡ a) → HasLeft h b a → HasLeft h c d
  itself h b a same own = subst (λ x. HasLeft h x d) (sym same.0) (subst (λ x. HasLeft h b x) (sym same.1) own)

  shape_ended : (h : Happening) (v : Verdict) → Shape s confs h v → IsEnded h v
  shape_ended h _ shape.silent ends = kept s s c d ends refl
  shape_ended h _ (shape.told reply there so one named) ends = kept s s c d ends refl
  shape_ended h _ (shape.admitted conf b request there is e) ends = kept s (put_station b request.sender Authenticated s) c d ends (admitted_aid s conf b request e c d)
  shape_ended h _ (shape.left b a there own known) ends = inl (itself h b a (put_back_ends s b a [] c d ends) own)
  shape_ended h _ (shape.gone b a there own known) ends = inl (itself h b a (dropped_ends s b a [] c d ends) own)
  shape_ended h _ (shape.ended b a reason there known others) ends = inr (put_back_first s b a c d reason ends)
  shape_ended h _ (shape.dropped b a reason there known others) ends = inr (dropped_first s b a c d reason ends)
  shape_ended h _ (shape.associated conf b kind request aid there known own asked made) ends = inr (associated_ended s confs conf b kind request c configured d aid ends)
  shape_ended h _ (shape.emptied b reason deauth there to_all) ends = inr (all_ended s b c d reason deauth ends)
  shape_ended h _ (shape.enforced b p change l q there makes keep short others needed) ends = inr (enforced_ended s b p change l q c d ends)
  shape_ended h _ (shape.started conf b accept deny is first) ends = kept s (first_start s conf b accept deny).state c d ends refl

  answered_ended : (h : Happening) (tag : ℕ) (answer : Answer) (v : Verdict) → IsEnded h v → IsEnded h (with_answer tag answer v)
  answered_ended h tag answer v is ends = elim (is (record { before = ends.before; after = ends.after })) [ inl own ↦ inl own | inr first ↦ inr (first_part v.outs (text tag answer ∷ []) c d first) ]

  pub verdict_ended : (h : Happening) → IsSome (aid_at s c d) → aid_at (verdict s confs h).state c d ≡ None → HasLeft h c d ⊎ IsLetGoFirst (verdict s confs h).outs c d
  verdict_ended h before after = by_shape s confs (IsEnded h) (answered_ended h) h (shape_ended h) (record { before = before; after = after })

-- a station that was not associated, and is so now, is the sender of a request that is accepted
module _ (s : State) (confs : List Conf) (c : Bssid) (d : Addr) (aid : Aid) where
  abbrev IsBegun : Verdict → Type 0
  IsBegun v = aid_at s c d ≡ None → aid_at v.state c d ≡ Some aid.number → IsTakenInFirst v.outs c d aid

  not_now : {A : Type 0} (t : Bool) (o : Option ℕ) → o ≡ cond t None (aid_at s c d) → aid_at s c d ≡ None → o ≡ Some aid.number → A
  not_now true o is none now = none_is o is (ap is_some now)
  not_now false o is none now = none_is o (is ∙ none) (ap is_some now)

  -- it is the sender's own row, since every other is as it was or put back
  associated_begun : (conf : Conf) (b : Bssid) (kind : Kind) (request : AssociationRequest) (own : Aid) → IsBegun (rule.acceptance s confs conf b kind request own)
  associated_begun conf b kind request own none now =
      let a = request.sender in
      let outs = (rule.acceptance s confs conf b kind request own).outs in
      elim (is_row b a c d) as (λ t. is_row b a c d ≡ t → cond t (Some own.number) (aid_at (cleared s b a) c d) ≡ Some aid.number → IsTakenInFirst outs c d aid) [
        | true ↦ λ e same.
            let parts = and_parts (eq_by_cmp bssid_cmp c b) (eq_by_cmp addr_cmp d a) e in
            let here = same_bssid b c parts.0 in
            let it = same_addr a d parts.1 in
            subst (λ x. IsTakenInFirst outs x d aid) (sym here) (subst (λ x. IsTakenInFirst outs b x aid) (sym it)
            (subst (IsTakenInFirst outs b a) (same_aid own aid (same_some own.number aid.number same))
            (associated_first s confs conf b kind request own ((λ i. aid_at s (sym here i) (sym it i)) ∙ none))))
        | false ↦ λ e other. not_now (elsewhere_laws.is_bssid_among c (bssids_elsewhere s b a) && eq_by_cmp addr_cmp d a) _ (cleared_aid s b a c d) none other
      ] refl (sym (associated_aid s confs conf b kind request own c d) ∙ now)

  shape_begun : (h : Happening) (v : Verdict) → Shape s confs h v → IsBegun v
  shape_begun h _ shape.silent none now = not_now false (aid_at s c d) refl none now
  shape_begun h _ (shape.told reply there so one named) none now = not_now false (aid_at s c d) refl none now
  shape_begun h _ (shape.admitted conf b request there is e) none now = not_now false _ (admitted_aid s conf b request e c d) none now
  shape_begun h _ (shape.left b a there own known) none now = not_now (is_row b a c d) _ (back_aid s b a c d) none now
  shape_begun h _ (shape.gone b a there own known) none now = not_now (is_row b a c d) _ (out_aid s b a c d) none now
  shape_begun h _ (shape.ended b a reason there known others) none now = not_now (is_row b a c d) _ (back_aid s b a c d) none now
  shape_begun h _ (shape.dropped b a reason there known others) none now = not_now (is_row b a c d) _ (out_aid s b a c d) none now
  shape_begun h _ (shape.associated conf b kind request own there known is asked made) none now = associated_begun conf b kind request own none now
  shape_begun h _ (shape.emptied b reason deauth there to_all) none now = not_now (eq_by_cmp bssid_cmp c b && is_among d (addresses_at s b)) _ (kept_aid s b (is_elsewhere s b) (addresses_at s b) (all_leave s b) c d) none now
  shape_begun h _ (shape.enforced b p change l q there makes keep short others needed) none now = not_now (eq_by_cmp bssid_cmp c b && is_among d (denied s b p change l q)) _ (enforced_aid s b p change l q c d) none now
  shape_begun h _ (shape.started conf b accept deny is first) none now = not_now false (aid_at s c d) refl none now

  answered_begun : (tag : ℕ) (answer : Answer) (v : Verdict) → IsBegun v → IsBegun (with_answer tag answer v)
  answered_begun tag answer v is none now =
      let first = is none now in
      (first.0, first.1, first.2, before_more v.outs (text tag answer ∷ []) _ _ first.3)

  pub verdict_begun : (h : Happening) → IsBegun (verdict s confs h)
  verdict_begun h = by_shape s confs IsBegun answered_begun h (shape_begun h)

-- a start tells whom it drops
pub start_tells : (s : State) (confs : List Conf) (b : Bssid) (accept deny : List Addr) (o : Option Conf) → AreDroppedTold s b (verdict_under s confs o (Configure b accept deny))
start_tells s confs b accept deny None = λ d known gone. none_is (station_at s b d) gone known
start_tells s confs b accept deny (Some conf) =
    elim (is_some (policy_at s b)) as (λ t. AreDroppedTold s b (cond t (later_start s conf b) (first_start s conf b accept deny))) [
      | true ↦ enforced_told s b (policy_of conf) (SetPolicy b (policy_of conf)) s.lists (map.insert s.policies b (policy_of conf))
      | false ↦ λ d known gone. none_is (station_at s b d) gone known
    ]

-- who is told behind its driver is told
pub is_told : (outs : List (Recipient × Out)) (b : Bssid) (a : Addr) → IsLetGoFirst outs b a → IsToldOfEnd outs b a
is_told outs b a h =
    let stands : (x y : Recipient × Out) → Precedes outs x y → Contains outs y = λ x y p. subst (λ zs. Contains zs y) (sym p.2) (Contains-append_right p.0 p.1 y p.4) in
    (h.0, h.1, record { 0 = h.2 }, elim h.3 [ inl p ↦ inl (stands _ _ p) | inr p ↦ inr (stands _ _ p) ])
