-- Identifiers are given in turn, so every other one comes between two givings of the same.
use Rattle.std.proofs.Common.{◌≡◌, ◌≢◌, ℕ, ◌<◌, ◌≤◌, Bool, true, false, cond, ◌&&◌, List, [], ◌∷◌, Option, Some, None, ◌⊎◌, inl, inr, refl, sym, ap, subst, ◌∙◌, IsSome, arith}
use Rattle.apd_mlme.proofs.Words.{Addr, Aid, AreFit, AssociationRequest, Bssid, Conf, Happening, IsNextFree, IsTaken, Kind, Sound, State, Verdict, addr_cmp, addresses_at, aid_at, aid_of, and_parts, bssid_cmp, bssid_exact, bssid_total, bssids_elsewhere, cases_lt, cursor_at, eq_by_cmp, get_insert_other, get_inserted, identifier_for, is_among, is_some, last_given, no_value, none_given, none_is, number_or_0, one_or_apart, policy_at, run, same_addr, same_some, station_at, verdict}
use Rattle.std.specs.FinMap as map
use Rattle.apd_mlme.specs.rules.Association as rule
use Rattle.apd_mlme.specs.laws.Turns.{AreGivenInTurn, IsGiven, WasTaken}
use Rattle.apd_mlme.proofs.AssociationLemmas.{cleared, cleared_aid, associated_aid}
use Rattle.apd_mlme.proofs.AssociationResponseLemmas.{cursor_elsewhere, cursors_kept, last_told, next_told, row_here}
use Rattle.apd_mlme.proofs.AuthenticationLemmas.{admitted_aid}
use Rattle.apd_mlme.proofs.DropLemmas.{kept_aid, all_leave, is_elsewhere}
use Rattle.apd_mlme.proofs.ElsewhereLemmas as elsewhere_laws
use Rattle.apd_mlme.proofs.EnforcementLemmas.{denied, enforced_aid}
use Rattle.apd_mlme.proofs.IdentifierLemmas.{taken_or_free}
use Rattle.apd_mlme.proofs.RowLemmas.{is_row, back_aid, out_aid}
use Rattle.apd_mlme.proofs.Shapes as shape
use Rattle.apd_mlme.proofs.Shapes.{Shape, by_shape}
use Rattle.apd_mlme.proofs.VerdictLemmas.{after_sound}

-- ---- what one event gives
module _ (s : State) (b : Bssid) where
  -- one identifier, which is the next one, and the one given last from then on
  record Gives (new : State) : Type 0 where
    number : ℕ
    given : IsGiven s new b number
    next : IsNextFree s b number
    last : last_given new b ≡ number
    alone : (i : ℕ) → IsGiven s new b i → i ≡ number

  -- or none
  record Keeps (new : State) : Type 0 where
    none : (i : ℕ) → ¬ (IsGiven s new b i)
    stays : last_given new b ≡ last_given s b

  abbrev IsTurn : State → Type 0
  IsTurn new = Gives new ⊎ Keeps new

  -- who has an identifier had it before, or none has it
  had : {A : Type 0} (t : Bool) (a : Addr) (i : ℕ) (o : Option ℕ) → o ≡ cond t None (aid_at s b a) → aid_at s b a ≡ None → o ≡ Some i → A
  had true a i o is none now = none_is o is (ap is_some now)
  had false a i o is none now = none_is o (is ∙ none) (ap is_some now)

  keeps : (new : State) (t : Addr → Bool) → ((a : Addr) → aid_at new b a ≡ cond (t a) None (aid_at s b a)) → last_given new b ≡ last_given s b → IsTurn new
  keeps new t is same = inr (record { none = λ i given. had (t given.0) given.0 i _ (is given.0) given.1 given.2; stays = same })

  -- ---- a station with a row associates at this BSSID
  module _ (confs : List Conf) (conf : Conf) (kind : Kind) (request : AssociationRequest) (sound : Sound s) (aid : Aid) (own : identifier_for s b (station_at s b request.sender) ≡ Some aid) where
    abbrev a : Addr
    a = request.sender

    abbrev new : State
    new = (rule.acceptance s confs conf b kind request aid).state

    -- nobody else is given one
    its_own : (i : ℕ) (d : Addr) → aid_at s b d ≡ None → aid_at new b d ≡ Some i → (d ≡ a) × (i ≡ aid.number)
    its_own i d none now =
        elim (is_row b a b d) as (λ t. is_row b a b d ≡ t → cond t (Some aid.number) (aid_at (cleared s b a) b d) ≡ Some i → (d ≡ a) × (i ≡ aid.number)) [
          | true ↦ λ e same. (same_addr a d (and_parts (eq_by_cmp bssid_cmp b b) (eq_by_cmp addr_cmp d a) e).1, sym (same_some aid.number i same))
          | false ↦ λ e other. had (elsewhere_laws.is_bssid_among b (bssids_elsewhere s b a) && eq_by_cmp addr_cmp d a) d i _ (cleared_aid s b a b d) none other
        ] refl (sym (associated_aid s confs conf b kind request aid b d) ∙ now)

    again : IsSome (aid_at s b a) → IsTurn new
    again known = inr (record {
      none = λ i given. none_is (aid_at s b a) (ap (aid_at s b) (sym (its_own i given.0 given.1 given.2).0) ∙ given.1) known;
      stays = ap (λ m. number_or_0 (map.get m b)) (cursors_kept s confs conf b kind request sound aid own known);
    })

    anew : aid_at s b a ≡ None → IsTurn new
    anew none = inl (record {
      number = aid.number;
      given = (a, none, ap aid_of (row_here s confs conf b kind request sound aid own));
      next = next_told s confs conf b kind request sound aid own none (station_at s b a) refl own;
      last = last_told s confs conf b kind request sound aid own none;
      alone = λ i given. (its_own i given.0 given.1 given.2).1;
    })

    associated_here : IsTurn new
    associated_here =
        elim (is_some (aid_at s b a)) as (λ t. is_some (aid_at s b a) ≡ t → IsTurn new) [
          | true ↦ λ known. again known
          | false ↦ λ e. anew (no_value (aid_at s b a) e)
        ] refl

  -- at another BSSID
  associated_there : (confs : List Conf) (conf : Conf) (c : Bssid) (kind : Kind) (request : AssociationRequest) → Sound s → (aid : Aid) → identifier_for s c (station_at s c request.sender) ≡ Some aid → eq_by_cmp bssid_cmp b c ≡ false
      → IsTurn (rule.acceptance s confs conf c kind request aid).state
  associated_there confs conf c kind request sound aid own other =
      let a = request.sender in
      keeps (rule.acceptance s confs conf c kind request aid).state (λ d. elsewhere_laws.is_bssid_among b (bssids_elsewhere s c a) && eq_by_cmp addr_cmp d a)
      (λ d. associated_aid s confs conf c kind request aid b d ∙ ap (λ t. cond (t && eq_by_cmp addr_cmp d a) (Some aid.number) (aid_at (cleared s c a) b d)) other ∙ cleared_aid s c a b d)
      (ap number_or_0 (cursor_elsewhere s confs conf c kind request sound aid own b other))

  associated_turn : (confs : List Conf) (conf : Conf) (c : Bssid) (kind : Kind) (request : AssociationRequest) → Sound s → (aid : Aid) → identifier_for s c (station_at s c request.sender) ≡ Some aid
      → IsTurn (rule.acceptance s confs conf c kind request aid).state
  associated_turn confs conf c kind request sound aid own =
      elim (one_or_apart bssid_total bssid_exact b c) [
        | inl same ↦ subst (λ x. identifier_for s x (station_at s x request.sender) ≡ Some aid → IsTurn (rule.acceptance s confs conf x kind request aid).state) same (λ here. associated_here confs conf kind request sound aid here) own
        | inr other ↦ associated_there confs conf c kind request sound aid own other
      ]

  -- ---- a first start has given none, and nothing was given before it
  first_last : (c : Bssid) → Sound s → is_some (policy_at s c) ≡ false → number_or_0 (map.get (map.insert s.cursors c none_given) b) ≡ last_given s b
  first_last c sound first =
      elim (one_or_apart bssid_total bssid_exact b c) [
        | inl same ↦
            let none : cursor_at s b ≡ None = no_value (cursor_at s b) (sound.cursors_have_policy b ∙ ap (λ x. is_some (policy_at s x)) same ∙ first) in
            ap (λ x. number_or_0 (map.get (map.insert s.cursors c none_given) x)) same ∙ ap number_or_0 (get_inserted bssid_total bssid_exact s.cursors c none_given) ∙ sym (ap number_or_0 none)
        | inr other ↦ ap number_or_0 (get_insert_other bssid_total bssid_exact s.cursors c none_given b other)
      ]

  -- ---- any event
  module _ (confs : List Conf) (sound : Sound s) where
    shape_turn : (h : Happening) (v : Verdict) → Shape s confs h v → IsTurn v.state
    shape_turn h _ shape.silent = keeps s (λ a. false) (λ a. refl) refl
    shape_turn h _ (shape.told reply there so one named) = keeps s (λ a. false) (λ a. refl) refl
    shape_turn h v (shape.admitted conf c request there is e) = keeps v.state (λ a. false) (admitted_aid s conf c request e b) refl
    shape_turn h v (shape.left c a there own known) = keeps v.state (is_row c a b) (back_aid s c a b) refl
    shape_turn h v (shape.gone c a there own known) = keeps v.state (is_row c a b) (out_aid s c a b) refl
    shape_turn h v (shape.ended c a reason there known others) = keeps v.state (is_row c a b) (back_aid s c a b) refl
    shape_turn h v (shape.dropped c a reason there known others) = keeps v.state (is_row c a b) (out_aid s c a b) refl
    shape_turn h _ (shape.associated conf c kind request aid there known own asked made) = associated_turn confs conf c kind request sound aid own
    shape_turn h v (shape.emptied c reason deauth there to_all) =
        keeps v.state (λ a. eq_by_cmp bssid_cmp b c && is_among a (addresses_at s c)) (kept_aid s c (is_elsewhere s c) (addresses_at s c) (all_leave s c) b) refl
    shape_turn h w (shape.enforced c p change l q there makes keep short others needed) = keeps w.state (λ a. eq_by_cmp bssid_cmp b c && is_among a (denied s c p change l q)) (enforced_aid s c p change l q b) refl
    shape_turn h v (shape.started conf c accept deny is first) = keeps v.state (λ a. false) (λ a. refl) (first_last c sound first)

    turn : (h : Happening) → IsTurn (verdict s confs h).state
    turn h = by_shape s confs (λ v. IsTurn v.state) (λ tag answer v is. is) h (shape_turn h)

  given_in_turn : (new : State) → IsTurn new → AreGivenInTurn s new b
  given_in_turn after (inl gives) = record {
    next = λ i given. subst (IsNextFree s b) (sym (gives.alone i given)) gives.next;
    last = λ i given. gives.last ∙ sym (gives.alone i given);
    stays = λ none. absurd (none gives.number gives.given);
  }
  given_in_turn after (inr keeps) = record {
    next = λ i given. absurd (keeps.none i given);
    last = λ i given. absurd (keeps.none i given);
    stays = λ _. keeps.stays;
  }

  pub in_turn : (confs : List Conf) (h : Happening) → Sound s → AreGivenInTurn s (verdict s confs h).state b
  in_turn confs h sound = given_in_turn (verdict s confs h).state (turn confs sound h)

-- ---- between two givings of an identifier i, while another one, j, is on no row
module _ (confs : List Conf) (b : Bssid) (i : ℕ) (other : Aid) (ne : other.number ≢ i) where
  abbrev j : ℕ
  j = other.number

  -- going round from i, a number comes before j
  abbrev IsBefore : ℕ → Type 0
  IsBefore c = ((i ≤ c) × (c < j)) ⊎ ((j < i) × ((i ≤ c) ⊎ (c < j)))

  -- so does the next one, and it isn't i
  abbrev IsPast : ℕ → Type 0
  IsPast n = IsBefore n × (n ≢ i)

  module _ (s : State) (free : (a : Addr) → aid_at s b a ≢ Some j) where
    not_taken : IsTaken s b j → ⊥
    not_taken taken = free taken.0 taken.1

    next_past : (n : ℕ) → n ≢ j → IsBefore (last_given s b) → IsNextFree s b n → IsPast n
    next_past n apart (inl before) (inl above) =
        let below : ¬ (j < n) = λ less. not_taken (above.smaller j before.1 less) in
        (inl (omega (arith, before.0, above.low), omega arith), λ same. omega (arith, before.0, above.low))
    next_past n apart (inl before) (inr round) = absurd (not_taken (round.0 j before.1 other.high))
    next_past n apart (inr (less, inl high)) (inl above) = (inr (less, inl (omega (arith, above.low))), λ same. omega (arith, above.low))
    next_past n apart (inr (less, inl high)) (inr round) =
        let below : ¬ (j < n) = λ more. not_taken (round.1.smaller j (omega (arith, other.low)) more) in
        (inr (less, inr (omega arith)), λ same. omega arith)
    next_past n apart (inr (less, inr low)) (inl above) =
        let below : ¬ (j < n) = λ more. not_taken (above.smaller j low more) in
        (inr (less, inr (omega arith)), λ same. omega arith)
    next_past n apart (inr (less, inr low)) (inr round) = absurd (not_taken (round.0 j low other.high))

  -- one event more
  module _ (s : State) (h : Happening) (free : (a : Addr) → aid_at s b a ≢ Some j) (before : IsBefore (last_given s b)) where
    abbrev after : State
    after = (verdict s confs h).state

    turned_past : ((a : Addr) → aid_at after b a ≢ Some j) → IsTurn s b after → IsBefore (last_given after b)
    turned_past free_then (inl gives) =
        subst IsBefore (sym gives.last) (next_past s free gives.number (λ same. free_then gives.given.0 (gives.given.2 ∙ ap Some same)) before gives.next).0
    turned_past free_then (inr keeps) = subst IsBefore (sym keeps.stays) before

    not_again : Sound s → ¬ (IsGiven s after b i)
    not_again sound given = (next_past s free i (λ same. ne (sym same)) before ((in_turn s b confs h sound).next i given)).1 refl

  abbrev Later : State → Happening → List Happening → Type 0
  Later s h hs = WasTaken s confs (h ∷ hs) b j

  one_later : (s : State) (h : Happening) (hs : List Happening) → WasTaken (verdict s confs h).state confs hs b j → Later s h hs
  one_later s h hs was = (h ∷ was.0, was.1, ap (λ xs. h ∷ xs) was.2, was.3)

  -- j is on a row of the first state, or it comes later
  pub comes_between : (hs : List Happening) (s : State) → Sound s → AreFit s confs hs → IsBefore (last_given s b) → (second : Happening) → let again = run s confs hs in IsGiven again (verdict again confs second).state b i → WasTaken s confs hs b j
  comes_between [] s sound fit before second given =
      elim (taken_or_free s b other) [
        | inl taken ↦ ([], [], refl, taken)
        | inr free ↦ absurd (not_again s second free before sound given)
      ]
  comes_between (h ∷ hs) s sound fit before second given =
      let next = (verdict s confs h).state in
      elim (taken_or_free s b other) [
        | inl taken ↦ ([], h ∷ hs, refl, taken)
        | inr free ↦ elim (taken_or_free next b other) [
          | inl taken ↦ one_later s h hs ([], hs, refl, taken)
          | inr free_then ↦ one_later s h hs (comes_between hs next (after_sound s confs h fit.0 sound) fit.1 (turned_past s h free before free_then (turn s b confs sound h)) second given)
        ]
      ]

  at_first : (s : State) → last_given s b ≡ i → IsBefore (last_given s b)
  at_first s is = subst IsBefore (sym is) (elim (cases_lt i j) [ inl less ↦ inl (omega arith, less) | inr more ↦ inr (omega (arith, ne), inl (omega arith)) ])

  pub all_between : (s : State) (first : Happening) (between : List Happening) (second : Happening) → Sound s → AreFit s confs (first ∷ between) → let once = (verdict s confs first).state in let again = run once confs between in
      IsGiven s once b i → IsGiven again (verdict again confs second).state b i → WasTaken once confs between b j
  all_between s first between second sound fit given again =
      let once = (verdict s confs first).state in
      comes_between between once (after_sound s confs first fit.0 sound) fit.1 (at_first once ((in_turn s b confs first sound).last i given)) second again
