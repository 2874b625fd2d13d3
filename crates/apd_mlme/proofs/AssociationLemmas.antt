-- What an association or a reassociation request leaves.
use Rattle.std.proofs.Common.{◌≡◌, true, false, cond, not, ◌&&◌, List, [], ◌∷◌, ◌++◌, Option, Some, None, inl, inr, refl, sym, ap, subst, ◌∙◌, IsSome}
use Rattle.apd_mlme.proofs.Words.{Addr, Aid, Associated, AssociationRequest, Authenticated, Bssid, CanPut, Change, Conf, Cursor, Install, Kind, Put, Radio, Sound, State, Station, StaySound, Success, Verdict, acceptance, addr_cmp, addr_exact, addr_total, aid_at, aid_of, and_parts, apart, association_response, bssid_cmp, bssid_exact, bssid_total, bssids_elsewhere, conf_at, cursor_changes, either, eq_by_cmp, first_false, identifier_for, installation, is_some, meaning_of, meaning_of-append, no_value, none_is, one_or_apart, option_map, outs_elsewhere, policy_at, put_backs, put_station, reply_out, row_of, second_false, sound_put, station_at, station_of_aid, tied, with_put_backs}
use Rattle.std.specs.FinMap as map
use Rattle.apd_table.proofs.Cursors.{sound_cursor}
use Rattle.apd_mlme.specs.rules.Identifiers.{number_of}
use Rattle.apd_mlme.proofs.RowLemmas.{is_row, station_put, aid_cond, left_by, left_by-append, Follows, aid_turned, authenticated_station, turned_not}
use Rattle.apd_mlme.proofs.ElsewhereLemmas.{is_bssid_among, among_elsewhere, put_backs_meaning, HasRows, put_backs_stay, elsewhere_driven}
use Rattle.apd_mlme.proofs.IdentifierLemmas.{nobody_has}

-- ---- at the other BSSIDs
module _ (s : State) (b : Bssid) (a : Addr) where
  abbrev pub others : List Bssid
  others = bssids_elsewhere s b a

  -- the state once the station was put back there
  abbrev pub cleared : State
  cleared = record s { stations = with_put_backs a others s.stations }

  pub cleared_station : (c : Bssid) (d : Addr) → station_at cleared c d ≡ option_map (λ x. cond (is_bssid_among c others && eq_by_cmp addr_cmp d a) Authenticated x) (station_at s c d)
  cleared_station c d = authenticated_station (λ key. is_bssid_among key.0 others && eq_by_cmp addr_cmp key.1 a) s.stations (c, d)

  pub elsewhere_rows : HasRows s a others
  elsewhere_rows c among =
      let parts = and_parts _ _ (and_parts _ _ (sym (among_elsewhere s b a c) ∙ among)).0 in
      station_of_aid (station_at s c a) parts.1

  pub not_here : is_bssid_among b others ≡ false
  not_here = among_elsewhere s b a b ∙ ap (λ t. (not t && is_some (aid_at s b a)) && is_some (policy_at s b)) (tied bssid_total bssid_exact b)

  pub cleared_here : (d : Addr) → station_at cleared b d ≡ station_at s b d
  cleared_here d = cleared_station b d ∙ turned_not _ (station_at s b d) (first_false (is_bssid_among b others) (eq_by_cmp addr_cmp d a) not_here)

  pub cleared_aid : (c : Bssid) (d : Addr) → aid_at cleared c d ≡ cond (is_bssid_among c others && eq_by_cmp addr_cmp d a) None (aid_at s c d)
  cleared_aid c d = ap aid_of (cleared_station c d) ∙ aid_turned (is_bssid_among c others && eq_by_cmp addr_cmp d a) (station_at s c d)

  pub cleared_is : meaning_of (put_backs a others) s ≡ cleared
  cleared_is = put_backs_meaning a others s elsewhere_rows

  -- it is associated nowhere else then
  pub cleared_elsewhere : Sound s → (c : Bssid) → eq_by_cmp bssid_cmp b c ≡ false → aid_at cleared c a ≡ None
  cleared_elsewhere sound c other =
      elim (is_some (aid_at s c a)) as (λ t. is_some (aid_at s c a) ≡ t → aid_at cleared c a ≡ None) [
        | true ↦ λ e.
            let known = sound.stations_have_policy c a (station_of_aid (station_at s c a) e) in
            let among : is_bssid_among c others ≡ true = among_elsewhere s b a c ∙ (λ i. (not (other i) && e i) && known i) in
            cleared_aid c a ∙ (λ i. cond (among i && tied addr_total addr_exact a i) None (aid_at s c a))
        | false ↦ λ e. cleared_aid c a ∙ ap (λ o. cond (is_bssid_among c others && eq_by_cmp addr_cmp a a) None o) (no_value (aid_at s c a) e) ∙ either (is_bssid_among c others && eq_by_cmp addr_cmp a a) None
      ] refl

  -- an identifier that the station gets is its own, or nobody's
  pub own_or_free : Sound s → (aid : Aid) (o : Option Station) → station_at s b a ≡ o → identifier_for s b o ≡ Some aid → (c : Addr) → aid_at s b c ≡ Some aid.number → a ≡ c
  own_or_free sound aid None row is c h = absurd (nobody_has s b aid is c h)
  own_or_free sound aid (Some Authenticated) row is c h = absurd (nobody_has s b aid is c h)
  own_or_free sound aid (Some (Associated x)) row is c h =
      let same : x.aid ≡ aid = cc in
      sound.distinct b a c aid.number (ap aid_of row ∙ ap (λ (y : Aid). Some y.number) same) h

  -- a station that is associated here keeps its own
  pub own_kept : (aid : Aid) (o : Option Station) → station_at s b a ≡ o → identifier_for s b o ≡ Some aid → IsSome (aid_at s b a) → aid_at s b a ≡ Some aid.number
  own_kept aid None row is h = none_is (aid_at s b a) (ap aid_of row) h
  own_kept aid (Some Authenticated) row is h = none_is (aid_at s b a) (ap aid_of row) h
  own_kept aid (Some (Associated x)) row is h = let same : x.aid ≡ aid = cc in ap aid_of row ∙ ap (λ (y : Aid). Some y.number) same

-- ---- a request that is accepted
module _ (s : State) (confs : List Conf) (conf : Conf) (b : Bssid) (kind : Kind) (request : AssociationRequest) (aid : Aid) where
  abbrev sender : Addr
  sender = request.sender

  abbrev row : Station
  row = row_of request aid

  abbrev answered : Verdict
  answered = acceptance s confs conf b kind request aid

  abbrev IsItsOwn : Type 0
  IsItsOwn = identifier_for s b (station_at s b sender) ≡ Some aid

  -- the row, and behind it the identifier, where it was given
  abbrev given : List Change
  given = cursor_changes s b sender aid

  abbrev placed : State
  placed = put_station b sender row (cleared s b sender)

  given_meaning : meaning_of given placed ≡ answered.state
  given_meaning =
      elim (is_some (aid_at s b sender)) as (λ t. meaning_of (cond t [] (Cursor b (number_of aid) ∷ [])) placed ≡ record placed { cursors = cond t s.cursors (map.insert s.cursors b (number_of aid)) }) [
        | true ↦ refl
        | false ↦ refl
      ]

  pub associated_meaning : meaning_of answered.changes s ≡ answered.state
  associated_meaning =
      meaning_of-append (put_backs sender (bssids_elsewhere s b sender)) (Put b sender row ∷ given) s
      ∙ ap (λ x. meaning_of given (put_station b sender row x)) (cleared_is s b sender)
      ∙ given_meaning

  can_put : Sound s → IsSome (station_at s b sender) → IsItsOwn → CanPut (cleared s b sender) b sender row
  can_put sound known own = record {
    identified = record {
      free = λ c h. own_or_free s b sender sound aid (station_at s b sender) refl own c (sym (ap aid_of (cleared_here s b sender c)) ∙ h);
      alone = λ c h. elim (one_or_apart bssid_total bssid_exact b c) [
        | inl same ↦ same
        | inr apart ↦ none_is (aid_at (cleared s b sender) c sender) (cleared_elsewhere s b sender sound c apart) h
      ];
    };
    allowed = (sound.stations_have_policy b sender known, sound.none_denied b sender known);
    room = inl (subst IsSome (sym (cleared_here s b sender sender)) known);
  }

  given_stays : IsSome (policy_at s b) → Sound placed → StaySound given placed
  given_stays there sound =
      elim (is_some (aid_at s b sender)) as (λ t. StaySound (cond t [] (Cursor b (number_of aid) ∷ [])) placed) [
        | true ↦ sound
        | false ↦ (sound, sound_cursor placed b (number_of aid) sound there)
      ]

  pub associated_sound : Sound s → IsSome (station_at s b sender) → IsItsOwn → StaySound answered.changes s
  associated_sound sound known own =
      put_backs_stay sender (bssids_elsewhere s b sender) (Put b sender row ∷ given) s (elsewhere_rows s b sender) sound
      (λ left. (let before = subst Sound (cleared_is s b sender) left in
      subst (StaySound (Put b sender row ∷ given)) (sym (cleared_is s b sender)) (before, given_stays (sound.stations_have_policy b sender known) (sound_put (cleared s b sender) b sender row before (can_put sound known own)))))

  -- the rows and the identifiers afterwards
  pub associated_station : (c : Bssid) (d : Addr) → station_at answered.state c d ≡ cond (is_row b sender c d) (Some row) (station_at (cleared s b sender) c d)
  associated_station = station_put (cleared s b sender) b sender row

  pub associated_aid : (c : Bssid) (d : Addr) → aid_at answered.state c d ≡ cond (is_row b sender c d) (Some aid.number) (aid_at (cleared s b sender) c d)
  associated_aid c d = ap aid_of (associated_station c d) ∙ aid_cond (is_row b sender c d) (Some row) (station_at (cleared s b sender) c d)

  -- the driver, once the other BSSIDs let the station go
  module _ (c : Bssid) (configured : IsSome (conf_at confs c)) where
    let_go : (d : Addr) → left_by c d (outs_elsewhere confs sender (bssids_elsewhere s b sender)) (aid_at s c d) ≡ aid_at (cleared s b sender) c d
    let_go d = elsewhere_driven c sender d confs configured (bssids_elsewhere s b sender) (aid_at s c d) ∙ sym (cleared_aid s b sender c d)

    -- where it was associated here, the driver has it already
    has_it : IsItsOwn → IsSome (aid_at s b sender) → (d : Addr) → aid_at (cleared s b sender) c d ≡ cond (is_row b sender c d) (Some aid.number) (aid_at (cleared s b sender) c d)
    has_it own known d =
        let another : is_row b sender c d ≡ false → aid_at (cleared s b sender) c d ≡ cond (is_row b sender c d) (Some aid.number) (aid_at (cleared s b sender) c d) =
        λ e. sym (ap (λ t. cond t (Some aid.number) (aid_at (cleared s b sender) c d)) e) in
        elim (one_or_apart bssid_total bssid_exact c b) [
          | inl here ↦ elim (one_or_apart addr_total addr_exact d sender) [
            | inl it ↦
                let now : aid_at (cleared s b sender) c d ≡ Some aid.number =
                (λ i. aid_at (cleared s b sender) (here i) (it i)) ∙ ap aid_of (cleared_here s b sender sender) ∙ own_kept s b sender aid (station_at s b sender) refl own known in
                rw now (sym (either (is_row b sender c d) (Some aid.number)))
            | inr apart ↦ another (second_false (eq_by_cmp bssid_cmp c b) (eq_by_cmp addr_cmp d sender) apart)
          ]
          | inr apart ↦ another (first_false (eq_by_cmp bssid_cmp c b) (eq_by_cmp addr_cmp d sender) apart)
        ]

    installed : IsItsOwn → (d : Addr) → left_by c d (installation s b sender aid) (aid_at (cleared s b sender) c d) ≡ cond (is_row b sender c d) (Some aid.number) (aid_at (cleared s b sender) c d)
    installed own d =
        elim (is_some (aid_at s b sender)) as (λ t. is_some (aid_at s b sender) ≡ t → left_by c d (cond t [] ((Radio b, Install sender aid) ∷ [])) (aid_at (cleared s b sender) c d) ≡ cond (is_row b sender c d) (Some aid.number) (aid_at (cleared s b sender) c d)) [
          | true ↦ λ e. has_it own e d
          | false ↦ λ e. refl
        ] refl

    pub associated_follows : IsItsOwn → Follows c s answered
    associated_follows own d =
        let gone = outs_elsewhere confs sender (bssids_elsewhere s b sender) in
        let taken_in = installation s b sender aid in
        left_by-append c d (gone ++ taken_in) (reply_out (association_response conf b kind sender Success (Some aid)) ∷ []) (aid_at s c d)
        ∙ left_by-append c d gone taken_in (aid_at s c d)
        ∙ ap (left_by c d taken_in) (let_go d)
        ∙ installed own d
        ∙ sym (associated_aid c d)
