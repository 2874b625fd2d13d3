-- No two changes of an event are of one row.
use Rattle.std.proofs.Common.{◌≡◌, ◌≢◌, true, false, cond, ◌||◌, List, [], ◌∷◌, ◌++◌, inl, inr, refl, sym, ap, subst, ◌∙◌, arith, suc, AllPairs, map as list_map}
use Rattle.apd_mlme.proofs.Words.{Accept, Addr, Aid, All-from_recursion, All-map, All-nil, AllByRecursion, AllPairs-cons, AreApart, AssociationRequest, Authenticated, Bssid, Change, Conf, Cursor, Deny, Drop, Happening, IsFit, IsList, Kind, Less, ListAdd, Put, Rise, Row, State, StationRow, Verdict, Which, Writes, additions, addr_cmp, addr_exact, addr_total, addresses_at, aid_at, bssid_cmp, bssid_exact, bssid_total, bssids_elsewhere, cursor_changes, differ, drops, eq_by_cmp, first_changes, is_eq, is_some, policy_of, put_backs, recursion_from_All, row_of, tied, verdict}
use Rattle.std.specs.FinMap as map
use Rattle.apd_record.specs.declared.change.Change.TheVariants.{Policy}
use Rattle.apd_mlme.specs.rules.Association as rule
use Rattle.apd_mlme.specs.rules.Identifiers.{number_of}
use Rattle.apd_mlme.proofs.AssociationLemmas.{not_here}
use Rattle.apd_mlme.proofs.ElsewhereLemmas.{is_bssid_among}
use Rattle.apd_mlme.proofs.EnforcementLemmas.{denied, new}
use Rattle.apd_mlme.proofs.RisingLemmas.{Apart, addresses_rise, apart-filter, denied_rise, keys_apart}
use Rattle.apd_mlme.proofs.Shapes as shape
use Rattle.apd_mlme.proofs.Shapes.{Shape, by_shape}
use Rattle.apd_mlme.proofs.TrueOutsLemmas.{all_both}

-- two changes are of no one row
abbrev AreTwo : Change → Change → Type 0
AreTwo x y = (row : Row) → Writes x row → ¬ (Writes y row)

none_apart : AreApart []
none_apart = λ i j d lt within. absurd (omega arith)

one_apart : (x : Change) → AreApart (x ∷ [])
one_apart x = AllPairs-cons AreTwo x [] (All-nil (AreTwo x)) none_apart

first_apart : (x : Change) (xs : List Change) → AllByRecursion (AreTwo x) xs → AreApart xs → AreApart (x ∷ xs)
first_apart x xs first rest = AllPairs-cons AreTwo x xs (All-from_recursion (AreTwo x) xs first) rest

-- in two parts
both_apart : (xs ys : List Change) → AreApart xs → AreApart ys → AllByRecursion (λ x. AllByRecursion (AreTwo x) ys) xs → AreApart (xs ++ ys)
both_apart [] ys first second across = second
both_apart (x ∷ xs) ys first second across =
    first_apart x (xs ++ ys)
    (all_both (AreTwo x) xs ys (recursion_from_All (AreTwo x) xs (λ k d within. first 0 (suc k) d (omega arith) (omega arith))) across.0)
    (both_apart xs ys (λ i j d lt within. first (suc i) (suc j) d (omega arith) (omega arith)) second across.1)

-- one for each of a list
module _ {X : Type 0} (change : X → Change) where
  each_apart : (Q : X → X → Type 0) → ((x y : X) → Q x y → AreTwo (change x) (change y)) → (xs : List X) → AllPairs Q xs → AreApart (list_map change xs)
  each_apart Q two [] pairs = none_apart
  each_apart Q two (x ∷ xs) pairs =
      AllPairs-cons AreTwo (change x) (list_map change xs)
      (All-map (AreTwo (change x)) change xs (λ k d within. two x _ (pairs 0 (suc k) d (omega arith) (omega arith))))
      (each_apart Q two xs (λ i j d lt within. pairs (suc i) (suc j) d (omega arith) (omega arith)))

  each_is : (P : Change → Type 0) → ((x : X) → P (change x)) → (xs : List X) → AllByRecursion P (list_map change xs)
  each_is P is [] = tt
  each_is P is (x ∷ xs) = (is x, each_is P is xs)

less_differ : {A : Type 0} (a d : Addr) → addr_cmp a d ≡ Less → a ≡ d → A
less_differ a d less same = differ (eq_by_cmp addr_cmp a d) (ap is_eq less) (ap (λ x. eq_by_cmp addr_cmp x d) same ∙ tied addr_total addr_exact d)

-- those of stations that rise
drops_apart : (b : Bssid) (as' : List Addr) → Rise as' → AreApart (drops b as')
drops_apart b as' rise = each_apart (λ a. Drop b a) (λ x y. addr_cmp x y ≡ Less) (λ x y less row first second. less_differ x y less cc) as' rise

additions_apart : (b : Bssid) (w : Which) (as' : List Addr) → Rise as' → AreApart (additions b w as')
additions_apart b w as' rise = each_apart (λ a. ListAdd b w a) (λ x y. addr_cmp x y ≡ Less) (λ x y less row first second. less_differ x y less cc) as' rise

-- those of a station at several BSSIDs
not_among : (c : Bssid) (bssids : List Bssid) → is_bssid_among c bssids ≡ false → AllByRecursion (λ x. c ≢ x) bssids
not_among c [] e = tt
not_among c (x ∷ bssids) e =
    elim (eq_by_cmp bssid_cmp c x) as (λ t. eq_by_cmp bssid_cmp c x ≡ t → (t || is_bssid_among c bssids) ≡ false → (c ≢ x) × AllByRecursion (λ y. c ≢ y) bssids) [
      | true ↦ λ is e. cc
      | false ↦ λ is e. (λ same. differ (eq_by_cmp bssid_cmp c x) is (ap (λ y. eq_by_cmp bssid_cmp y x) same ∙ tied bssid_total bssid_exact x), not_among c bssids e)
    ] refl e

bssids_differ : (bssids : List Bssid) → Apart bssids → AllPairs (λ x y. x ≢ y) bssids
bssids_differ [] apart = λ i j d lt within. absurd (omega arith)
bssids_differ (x ∷ bssids) apart = AllPairs-cons (λ y z. y ≢ z) x bssids (All-from_recursion (λ y. x ≢ y) bssids (not_among x bssids apart.0)) (bssids_differ bssids apart.1)

module _ (s : State) (confs : List Conf) (conf : Conf) (b : Bssid) (kind : Kind) (request : AssociationRequest) (aid : Aid) where
  abbrev a : Addr
  a = request.sender

  abbrev at_its_own : List Change
  at_its_own = Put b a (row_of request aid) ∷ cursor_changes s b a aid

  own_apart : AreApart at_its_own
  own_apart =
      elim (is_some (aid_at s b a)) as (λ t. AreApart (Put b a (row_of request aid) ∷ cond t [] (Cursor b (number_of aid) ∷ []))) [
        | true ↦ one_apart (Put b a (row_of request aid))
        | false ↦ first_apart (Put b a (row_of request aid)) (Cursor b (number_of aid) ∷ []) (λ row first second. cc, tt) (one_apart (Cursor b (number_of aid)))
      ]

  other_own : (c : Bssid) → b ≢ c → AllByRecursion (AreTwo (Put c a Authenticated)) at_its_own
  other_own c other = (
    λ row first second. other (let e : StationRow c a ≡ StationRow b a = sym first ∙ second in let same : c ≡ b = cc in sym same),
    elim (is_some (aid_at s b a)) as (λ t. AllByRecursion (AreTwo (Put c a Authenticated)) (cond t [] (Cursor b (number_of aid) ∷ []))) [ true ↦ tt | false ↦ (λ row first second. cc, tt) ],
  )

  others_own : (bssids : List Bssid) → AllByRecursion (λ x. b ≢ x) bssids → AllByRecursion (λ x. AllByRecursion (AreTwo x) at_its_own) (put_backs a bssids)
  others_own [] others = tt
  others_own (c ∷ bssids) others = (other_own c others.0, others_own bssids others.1)

  associated_apart : AreApart (rule.acceptance s confs conf b kind request aid).changes
  associated_apart =
      let others = bssids_elsewhere s b a in
      both_apart (put_backs a others) at_its_own
      (each_apart (λ c. Put c a Authenticated) (λ x y. x ≢ y) (λ x y other row first second. other cc) others
      (bssids_differ others (apart-filter (rule.is_elsewhere s b a) (map.keys s.policies) (keys_apart s.policies))))
      own_apart (others_own others (not_among b others (not_here s b a)))

started_apart : (conf : Conf) (b : Bssid) (accept deny : List Addr) → IsList accept → IsList deny → AreApart (first_changes conf b accept deny)
started_apart conf b accept deny accept_list deny_list =
    let policy = Policy b (policy_of conf) in
    let not_listed : (w : Which) (as' : List Addr) → AllByRecursion (AreTwo policy) (additions b w as') =
    λ w as'. each_is (λ a. ListAdd b w a) (AreTwo policy) (λ a row first second. elim first [ inl e ↦ cc | inr e ↦ cc ]) as' in
    first_apart policy (additions b Accept accept ++ additions b Deny deny)
    (all_both (AreTwo policy) (additions b Accept accept) (additions b Deny deny) (not_listed Accept accept) (not_listed Deny deny))
    (both_apart (additions b Accept accept) (additions b Deny deny) (additions_apart b Accept accept accept_list.rising) (additions_apart b Deny deny deny_list.rising)
    (each_is (λ a. ListAdd b Accept a) (λ x. AllByRecursion (AreTwo x) (additions b Deny deny)) (λ a. each_is (λ d. ListAdd b Deny d) (AreTwo (ListAdd b Accept a)) (λ d row first second. cc) deny) accept))

-- ---- any event
module _ (s : State) (confs : List Conf) (h : Happening) (fit : IsFit s confs h) where
  shape_apart : (v : Verdict) → Shape s confs h v → AreApart v.changes
  shape_apart v shape.silent = none_apart
  shape_apart v (shape.told reply there so one named) = none_apart
  shape_apart v (shape.admitted conf b request there is e) = one_apart _
  shape_apart v (shape.left b a there own known) = one_apart _
  shape_apart v (shape.gone b a there own known) = one_apart _
  shape_apart v (shape.ended b a reason there known others) = one_apart _
  shape_apart v (shape.dropped b a reason there known others) = one_apart _
  shape_apart v (shape.associated conf b kind request aid there known own asked made) = associated_apart s confs conf b kind request aid
  shape_apart v (shape.emptied b reason deauth there to_all) = drops_apart b (addresses_at s b) (addresses_rise s b)
  shape_apart w (shape.enforced b p change l q there makes keep short others needed) =
      let gone = denied s b p change l q in
      both_apart (drops b gone) (change ∷ []) (drops_apart b gone (denied_rise (new s b p change l q) b p.mode)) (one_apart change)
      (each_is (λ a. Drop b a) (λ x. AllByRecursion (AreTwo x) (change ∷ [])) (λ a. (λ row first second. needed.0 b a (subst (Writes change) first second), tt)) gone)
  shape_apart v (shape.started conf b accept deny is first) =
      let fits = subst (IsFit s confs) is fit in
      started_apart conf b accept deny fits.2 fits.3

  pub verdict_apart : AreApart (verdict s confs h).changes
  verdict_apart = by_shape s confs (λ v. AreApart v.changes) (λ tag answer v are. are) h shape_apart
