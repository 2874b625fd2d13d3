-- What leaves is so in the state after, and goes to a radio that is there.
use Rattle.std.proofs.Common.{◌≡◌, ◌≢◌, inl, inr, Bool, true, false, cond, not, ◌&&◌, ◌||◌, List, [], ◌∷◌, ◌++◌, Some, None, refl, sym, ap, subst, ◌∙◌, IsSome}
use Rattle.std.specs.Prelude.{filter}
use Rattle.apd_mlme.proofs.Words.{AclMode, Addr, Aid, AllByRecursion, Association, AssociationRequest, Authenticated, BROADCAST, BodyIsTrue, Bssid, Change, Conf, Control, FinMap, Happening, Install, IsFromStation, IsMeant, Kind, NoBroadcastRow, NoneIsBroadcast, Out, OutIsTrue, OutIsTrueForAll, OutsAreTrue, OutsAreTrueForAll, Policy, Radio, Reason, Reassociation, Recipient, RecipientIsThere, RecipientsAreThere, Remove, Reply, SetOf, Sound, State, Success, UNSPECIFIED, Verdict, addr_cmp, addr_exact, addr_total, addresses_at, aid_at, aid_of, and_parts, association_response, auth_response, auth_status, bssid_cmp, bssids_elsewhere, conf_at, denials_by, denied_among, eq_by_cmp, farewell, identifier_for, installation, is_among, is_some, kick_of_all, list_cmp, none_is, other_way, outs_elsewhere, outs_of_drop, outs_of_end, outs_to, put_station, removal, reply_out, second_true, station_at, station_of_aid, text, tied, verdict}
use Rattle.std.specs.List.{flat_map}
use Rattle.apd_mlme.specs.rules.Association as rule
use Rattle.apd_mlme.specs.rules.Leaving as leaving
use Rattle.apd_mlme.proofs.AssociationResponseLemmas.{row_here, row_elsewhere}
use Rattle.apd_mlme.proofs.AssociationLemmas.{cleared_elsewhere}
use Rattle.apd_mlme.proofs.Shapes as shape
use Rattle.apd_mlme.proofs.Shapes.{Shape, by_shape}
use Rattle.apd_mlme.proofs.DropLemmas.{all_gone}
use Rattle.apd_mlme.proofs.RowLemmas.{put_row, back, out, out_row, put_back_aid}
use Rattle.apd_mlme.proofs.ElsewhereLemmas as elsewhere_laws
use Rattle.apd_mlme.proofs.EnforcementLemmas.{new, denied, v, enforced_dropped}

-- of each in two lists
pub all_both : {X : Type 0} (P : X → Type 0) (xs ys : List X) → AllByRecursion P xs → AllByRecursion P ys → AllByRecursion P (xs ++ ys)
all_both P [] ys h k = k
all_both P (x ∷ xs) ys h k = (h.0, all_both P xs ys h.1 k)

-- of each in a list, what follows from what is so of it
pub each : {X : Type 0} (P Q : X → Type 0) → ((x : X) → P x → Q x) → (xs : List X) → AllByRecursion P xs → AllByRecursion Q xs
each P Q f [] h = tt
each P Q f (x ∷ xs) h = (f x h.0, each P Q f xs h.1)

not_here : (t u : Bool) → (not t && u) ≡ true → t ≡ false
not_here true u e = cc
not_here false u e = refl

meant_one : (to a : Addr) → to ≢ BROADCAST → IsMeant to a → to ≡ a
meant_one to a one (inl same) = same
meant_one to a one (inr all) = absurd (one all)

-- a radio of a configured BSSID, and not whoever gave a command
abbrev pub IsRadio : List Conf → Recipient × Out → Type 0
IsRadio confs (Radio b, what) = IsSome (conf_at confs b)
IsRadio confs (Control, what) = ⊥

pub radios_only : (confs : List Conf) (outs : List (Recipient × Out)) → AllByRecursion (IsRadio confs) outs → outs_to Control outs ≡ []
radios_only confs [] h = refl
radios_only confs ((Radio b, what) ∷ outs) h = radios_only confs outs h.1
radios_only confs ((Control, what) ∷ outs) h = absurd h.0

-- what leaves over a sound state s is so of the receiver, and where no station has the broadcast address, as E says, of all
-- that it is meant for; and it goes to a radio
module _ (s : State) (E : Type 0) (confs : List Conf) where
  abbrev pub IsRight : State → Recipient × Out → Type 0
  IsRight new x = (Sound s → OutIsTrue new x) × (Sound s → E → OutIsTrueForAll new x) × IsRadio confs x

  abbrev AreRight : State → List (Recipient × Out) → Type 0
  AreRight new outs = AllByRecursion (IsRight new) outs

  -- it is the address of one station
  abbrev IsOne : Addr → Type 0
  IsOne a = E → a ≢ BROADCAST

  -- a frame whose body says what is so
  said : (new : State) (reply : Reply) → IsSome (conf_at confs reply.bssid) → (Sound s → BodyIsTrue new reply.bssid reply.to reply.body) → IsOne reply.to → IsRight new (reply_out reply)
  said new reply there h one = (
    λ sound. (reply, refl, refl, h sound),
    λ sound e. (reply, refl, refl, λ a meant. subst (λ x. BodyIsTrue new reply.bssid x reply.body) (meant_one reply.to a (one e) meant) (h sound)),
    there,
  )

  -- and one whose body says what is so of everyone
  said_to_all : (new : State) (reply : Reply) → IsSome (conf_at confs reply.bssid) → ((a : Addr) → BodyIsTrue new reply.bssid a reply.body) → IsRight new (reply_out reply)
  said_to_all t reply there h = (λ _. (reply, refl, refl, h reply.to), λ _ _. (reply, refl, refl, λ a _. h a), there)

  all_right : (new : State) (xs ys : List (Recipient × Out)) → AreRight new xs → AreRight new ys → AreRight new (xs ++ ys)
  all_right new = all_both (IsRight new)

  row_is_one : (t : State) → (E → NoBroadcastRow t) → (b : Bssid) (a : Addr) → IsSome (station_at t b a) → IsOne a
  row_is_one t rows b a known e same = none_is (station_at t b a) (ap (λ y. station_at t b y) same ∙ rows e b) known

  -- ---- at a radio that is there
  module _ (b : Bssid) (there : IsSome (conf_at confs b)) where
    removed : (new : State) (a : Addr) → (Sound s → aid_at new b a ≡ None) → IsRight new (Radio b, Remove a)
    removed t a gone = (gone, λ _ _. tt, there)

    -- one row: the station has none in the state after, or is put back
    module _ (a : Addr) where
      removal_right : (new : State) → station_at new b a ≡ None → AreRight new (removal s b a)
      removal_right new gone = elim (is_some (aid_at s b a)) as (λ t. AreRight new (cond t ((Radio b, Remove a) ∷ []) [])) [ true ↦ (removed new a (λ _. ap aid_of gone), tt) | false ↦ tt ]

      drop_right : (new : State) → station_at new b a ≡ None → (reason : Reason) → IsOne a → AreRight new (outs_of_drop s b a reason)
      drop_right new gone reason one = all_right new (removal s b a) (reply_out (leaving.deauthentication b a reason) ∷ []) (removal_right new gone) (said new (leaving.deauthentication b a reason) there (λ _. gone) one, tt)

      put_back_right : (reason : Reason) → IsOne a → AreRight (back s b a) (outs_of_end b a reason)
      put_back_right reason one =
          let new = back s b a in
          (removed new a (λ _. put_back_aid s b a), (said new (leaving.disassociation b a reason) there (λ _. put_back_aid s b a) one, tt))

    -- several stations have no row in the state after
    module _ (new : State) where
      drops_right : (as' : List Addr) → ((d : Addr) → is_among d as' ≡ true → (station_at new b d ≡ None) × IsOne d) → AreRight new (flat_map (λ d. outs_of_drop s b d UNSPECIFIED) as')
      drops_right [] gone = tt
      drops_right (d ∷ as') gone =
          let first = gone d (ap (λ t. t || is_among d as') (tied addr_total addr_exact d)) in
          all_right new (outs_of_drop s b d UNSPECIFIED) (flat_map (λ x. outs_of_drop s b x UNSPECIFIED) as')
          (drop_right d new first.0 UNSPECIFIED first.1)
          (drops_right as' (λ x among. gone x (second_true (eq_by_cmp addr_cmp x d) (is_among x as') among)))

      removals_right : (as' : List Addr) → ((d : Addr) → station_at new b d ≡ None) → AreRight new (flat_map (removal s b) as')
      removals_right [] gone = tt
      removals_right (d ∷ as') gone = all_right new (removal s b d) (flat_map (removal s b) as') (removal_right d new (gone d)) (removals_right as' gone)

    -- ---- association
    module _ (conf : Conf) (kind : Kind) (request : AssociationRequest) (one : IsOne request.sender) (aid : Aid) (own : identifier_for s b (station_at s b request.sender) ≡ Some aid) where
      abbrev a : Addr
      a = request.sender

      abbrev answered : Verdict
      answered = rule.acceptance s confs conf b kind request aid

      ended : (c : Bssid) → elsewhere_laws.is_bssid_among c (filter (λ x. is_some (conf_at confs x)) (bssids_elsewhere s b a)) ≡ true → (Sound s → aid_at answered.state c a ≡ None) × IsSome (conf_at confs c)
      ended c among =
          let parts = and_parts _ _ (sym (elsewhere_laws.among-filter (λ x. is_some (conf_at confs x)) c (bssids_elsewhere s b a)) ∙ among) in
          let other = not_here (eq_by_cmp bssid_cmp b c) (is_some (aid_at s c a)) (and_parts _ _ (sym (elsewhere_laws.among_elsewhere s b a c) ∙ parts.1)).0 in
          (λ sound. ap aid_of (row_elsewhere s confs conf b kind request sound aid own c (other_way c b other) a) ∙ cleared_elsewhere s b a sound c other, parts.0)

      ends_right : (bssids : List Bssid) → ((c : Bssid) → elsewhere_laws.is_bssid_among c bssids ≡ true → (Sound s → aid_at answered.state c a ≡ None) × IsSome (conf_at confs c))
          → AreRight answered.state (flat_map (λ c. outs_of_end c a UNSPECIFIED) bssids)
      ends_right [] gone = tt
      ends_right (x ∷ bssids) gone =
          let here = gone x (elsewhere_laws.first_among x bssids) in
          ((here.0, λ _ _. tt, here.1), (said answered.state (leaving.disassociation x a UNSPECIFIED) here.1 here.0 one, ends_right bssids (λ c among. gone c (second_true (eq_by_cmp bssid_cmp c x) (elsewhere_laws.is_bssid_among c bssids) among))))

      aid_here : Sound s → aid_at answered.state b a ≡ Some aid.number
      aid_here sound = ap aid_of (row_here s confs conf b kind request sound aid own)

      installation_right : AreRight answered.state (installation s b a aid)
      installation_right = elim (is_some (aid_at s b a)) as (λ t. AreRight answered.state (cond t [] ((Radio b, Install a aid) ∷ []))) [ true ↦ tt | false ↦ ((aid_here, λ _ _. tt, there), tt) ]

      response_right : (k : Kind) → IsRight answered.state (reply_out (association_response conf b k a Success (Some aid)))
      response_right Association = said answered.state (association_response conf b Association a Success (Some aid)) there (λ sound _. aid_here sound) one
      response_right Reassociation = said answered.state (association_response conf b Reassociation a Success (Some aid)) there (λ sound _. aid_here sound) one

      associated_right : AreRight answered.state answered.outs
      associated_right =
          all_right answered.state (outs_elsewhere confs a (bssids_elsewhere s b a) ++ installation s b a aid) (reply_out (association_response conf b kind a Success (Some aid)) ∷ [])
          (all_right answered.state (outs_elsewhere confs a (bssids_elsewhere s b a)) (installation s b a aid) (ends_right (filter (λ x. is_some (conf_at confs x)) (bssids_elsewhere s b a)) ended) installation_right)
          (response_right kind, tt)

    -- ---- a start, and control commands
    denied_is_one : (t : State) → (E → NoBroadcastRow t) → (mode : AclMode) (d : Addr) → is_among d (denials_by t b mode) ≡ true → IsOne d
    denied_is_one t rows mode d among = let row = (denied_among t b mode d among).0 in row_is_one t rows b d (ap is_some row.1)

    enforced_right : (E → NoBroadcastRow s) → (p : Policy) (change : Change) (l : SetOf list_cmp) (q : FinMap bssid_cmp Policy) → AreRight (v s b p change l q).state (v s b p change l q).outs
    enforced_right rows p change l q = drops_right (v s b p change l q).state (denied s b p change l q)
        (λ d among. (enforced_dropped s b p change l q d among, denied_is_one (new s b p change l q) rows p.mode d among))

    farewell_right : (new : State) (reason : Reason) (t : Bool) → ((a : Addr) → station_at new b a ≡ None) → IsRight new (reply_out (farewell b BROADCAST reason t))
    farewell_right new reason true gone = said_to_all new (leaving.deauthentication b BROADCAST reason) there gone
    farewell_right new reason false gone = said_to_all new (leaving.disassociation b BROADCAST reason) there (λ a. ap aid_of (gone a))

    all_kicked_right : (reason : Reason) (t : Bool) → let v = kick_of_all s b reason t in AreRight v.state v.outs
    all_kicked_right reason t =
        let v = kick_of_all s b reason t in
        all_right v.state (flat_map (removal s b) (addresses_at s b)) (reply_out (farewell b BROADCAST reason t) ∷ [])
        (removals_right v.state (addresses_at s b) (all_gone s b)) (farewell_right v.state reason t (all_gone s b), tt)

-- ---- any event
module _ (s : State) (confs : List Conf) (h : Happening) where
  abbrev E : Type 0
  E = NoneIsBroadcast s h

  from_row : (b : Bssid) (a : Addr) → IsSome (station_at s b a) → E → a ≢ BROADCAST
  from_row = row_is_one s E confs s (λ nobody. nobody.rows)

  pub shape_right : (v : Verdict) → Shape s confs h v → AllByRecursion (IsRight s E confs v.state) v.outs
  shape_right _ shape.silent = tt
  shape_right _ (shape.told reply there so one named) = (said s E confs s reply there (λ _. so) one, tt)
  shape_right _ (shape.admitted conf b request there is e) = (
    said s E confs (put_station b request.sender Authenticated s) (auth_response b request (auth_status s conf b request)) there
        (λ _ _. ap is_some (put_row s b request.sender Authenticated)) (λ nobody. subst IsFromStation is nobody.sender),
    tt,
  )
  shape_right _ (shape.left b a there own known) = (removed s E confs b there (back s b a) a (λ _. put_back_aid s b a), tt)
  shape_right _ (shape.gone b a there own known) = removal_right s E confs b there a (out s b a) (out_row s b a)
  shape_right _ (shape.ended b a reason there known others) = put_back_right s E confs b there a reason (from_row b a (station_of_aid _ known))
  shape_right _ (shape.dropped b a reason there known others) = drop_right s E confs b there a (out s b a) (out_row s b a) reason (from_row b a known)
  shape_right _ (shape.associated conf b kind request aid there known own asked made) = associated_right s E confs b there conf kind request (from_row b request.sender known) aid own
  shape_right _ (shape.emptied b reason deauth there to_all) = all_kicked_right s E confs b there reason deauth
  shape_right _ (shape.enforced b p change l q there makes keep short others needed) = enforced_right s E confs b there (λ nobody. nobody.rows) p change l q
  shape_right _ (shape.started conf b accept deny is first) = tt

  pub shape_radios : (v : Verdict) → Shape s confs h v → AllByRecursion (IsRadio confs) v.outs
  shape_radios v shape = each (IsRight s E confs v.state) (IsRadio confs) (λ x right. right.2) v.outs (shape_right v shape)

  -- an answer to a command says nothing of a station, and whoever gave it is there
  abbrev Is : State → Recipient × Out → Type 0
  Is new x = (Sound s → OutIsTrue new x) × (Sound s → E → OutIsTrueForAll new x) × RecipientIsThere confs x

  radio_there : (x : Recipient × Out) → IsRadio confs x → RecipientIsThere confs x
  radio_there (Radio b, what) there = there
  radio_there (Control, what) there = absurd there

  verdict_is : AllByRecursion (Is (verdict s confs h).state) (verdict s confs h).outs
  verdict_is =
      by_shape s confs (λ v. AllByRecursion (Is v.state) v.outs)
      (λ tag answer v is. all_both (Is v.state) v.outs (text tag answer ∷ []) is ((λ _. tt, λ _ _. tt, tt), tt)) h
      (λ v shape. each (IsRight s E confs v.state) (Is v.state) (λ x right. (right.0, right.1, radio_there x right.2)) v.outs (shape_right v shape))

  pub verdict_there : RecipientsAreThere confs (verdict s confs h).outs
  verdict_there = each (Is (verdict s confs h).state) (RecipientIsThere confs) (λ x is. is.2) (verdict s confs h).outs verdict_is

module _ (s : State) (confs : List Conf) (sound : Sound s) (h : Happening) where
  pub verdict_is_true : OutsAreTrue (verdict s confs h).state (verdict s confs h).outs
  verdict_is_true = each (Is s confs h (verdict s confs h).state) (OutIsTrue (verdict s confs h).state) (λ x is. is.0 sound) (verdict s confs h).outs (verdict_is s confs h)

  pub verdict_is_true_for_all : NoneIsBroadcast s h → OutsAreTrueForAll (verdict s confs h).state (verdict s confs h).outs
  verdict_is_true_for_all nobody = each (Is s confs h (verdict s confs h).state) (OutIsTrueForAll (verdict s confs h).state) (λ x is. is.1 sound nobody) (verdict s confs h).outs (verdict_is s confs h)
