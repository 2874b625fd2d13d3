-- How many bytes the records of a verdict have.
use Rattle.std.proofs.Common.{◌≡◌, arith, ◌*◌, ◌≤◌, Bool, true, false, cond, ◌&&◌, not, List, [], ◌∷◌, ◌++◌, Result, Ok, Err, IfOk, length, subst}
use Rattle.apd_mlme.proofs.Words.{Accept, Addr, Aid, AreChanges, AssociationRequest, Authenticated, Bssid, Change, Conf, Cursor, Decision, Deny, Drop, FinMap, Happening, IsChange, IsFit, IsList, Kind, ListAdd, Put, Reason, SetOf, Sound, State, Station, Verdict, Which, additions, addresses_at, addresses_few, aid_at, bssid_cmp, bssids_elsewhere, cursor_changes, cursor_length, denied_few, drops, each_length, eq_by_cmp, first_changes, fronts, is_some, kick_of_all, length-append, length-map, list_cmp, list_length, policy_length, policy_of, put_backs, put_length, record_of, records_of, row_of, verdict}
use Rattle.std.specs.FinMap as map
use Rattle.std.proofs.lemmas.List.Sums.{length-filter, count_by-le-length}
use Rattle.apd_base.specs.declared.station.Policy.{Policy as BssPolicy}
use Rattle.apd_record.specs.declared.change.Change.TheVariants.{Policy}
use Rattle.apd_record.proofs.Lengths.{records_length-append, records_length-push}
use Rattle.apd_mlme.specs.declared.decision.TheConstants.{MAX_RECORD_BYTES}
use Rattle.apd_mlme.specs.rules.Association as rule
use Rattle.apd_mlme.specs.rules.Identifiers.{number_of}
use Rattle.apd_mlme.proofs.EnforcementLemmas.{new, denied, v}
use Rattle.apd_mlme.proofs.Shapes as shape
use Rattle.apd_mlme.proofs.Shapes.{Shape, by_shape}

-- ---- each record
drop_length : (b : Bssid) (a : Addr) → IsChange (Drop b a) → length (record_of (Drop b a)) ≡ 13
drop_length b a known = omega (arith, length-append b.0.0 a.0, known.0.0, known.1.0)

-- ---- several
put_backs_length : (a : Addr) (bssids : List Bssid) → AreChanges (put_backs a bssids) → length (records_of (put_backs a bssids)) ≡ 20 * length bssids
put_backs_length a bssids known = each_length (λ c. Put c a Authenticated) 20 (λ c is. put_length c a Authenticated is.0 is.1) bssids known

drops_length : (b : Bssid) (as' : List Addr) → AreChanges (drops b as') → length (records_of (drops b as')) ≡ 13 * length as'
drops_length b as' known = each_length (λ a. Drop b a) 13 (drop_length b) as' known

additions_length : (b : Bssid) (w : Which) (as' : List Addr) → AreChanges (additions b w as') → length (records_of (additions b w as')) ≡ 14 * length as'
additions_length b w as' known = each_length (λ a. ListAdd b w a) 14 (λ a is. list_length b w a is.0 is.1) as' known

-- ---- what a verdict has
none_long : length (records_of []) ≤ MAX_RECORD_BYTES
none_long = omega arith

one_put : (b : Bssid) (a : Addr) (station : Station) → AreChanges (Put b a station ∷ []) → length (records_of (Put b a station ∷ [])) ≤ MAX_RECORD_BYTES
one_put b a station known = omega (arith, put_length b a station known.0.0 known.0.1, length-append (record_of (Put b a station)) [])

one_drop : (b : Bssid) (a : Addr) → AreChanges (Drop b a ∷ []) → length (records_of (Drop b a ∷ [])) ≤ MAX_RECORD_BYTES
one_drop b a known = omega (arith, drop_length b a known.0, length-append (record_of (Drop b a)) [])

-- a verdict whose changes have few enough bytes, where they can be written
abbrev pub IsShort : Verdict → Type 0
IsShort v = AreChanges v.changes → length (records_of v.changes) ≤ MAX_RECORD_BYTES

module _ (s : State) where
  enforced_length : (b : Bssid) (p : BssPolicy) (change : Change) (l : SetOf list_cmp) (q : FinMap bssid_cmp BssPolicy) → (IsChange change → length (record_of change) ≤ 14) → Sound s → IsShort (v s b p change l q)
  enforced_length b p change l q short sound known =
      let denied = denied s b p change l q in
      let parts = fronts (drops b denied) (change ∷ []) known in
      omega (arith, records_length-push (drops b denied) change, drops_length b denied parts.0, short parts.1.0, denied_few (new s b p change l q) b p.mode, sound.few_stations b)

  first_length : (conf : Conf) (b : Bssid) (accept deny : List Addr) → IsList accept → IsList deny → AreChanges (first_changes conf b accept deny) → length (records_of (first_changes conf b accept deny)) ≤ MAX_RECORD_BYTES
  first_length conf b accept deny accept_list deny_list known =
      let policy = Policy b (policy_of conf) in
      let accepts = additions b Accept accept in
      let denials = additions b Deny deny in
      let parts = fronts accepts denials known.1 in
      omega (arith, length-append (record_of policy) (records_of (accepts ++ denials)), policy_length b (policy_of conf) known.0, records_length-append accepts denials, additions_length b Accept accept parts.0, additions_length b Deny deny parts.1, accept_list.few, deny_list.few)

  given_length : (b : Bssid) (a : Addr) (aid : Aid) → AreChanges (cursor_changes s b a aid) → length (records_of (cursor_changes s b a aid)) ≤ 9
  given_length b a aid =
      elim (is_some (aid_at s b a)) as (λ t. let given = cond t [] (Cursor b (number_of aid) ∷ []) in AreChanges given → length (records_of given) ≤ 9) [
        | true ↦ λ known. omega arith
        | false ↦ λ known. omega (arith, cursor_length b (number_of aid) known.0, length-append (record_of (Cursor b (number_of aid))) [])
      ]

  -- at most one row at each of the eight BSSIDs, and a cursor
  associated_length : (confs : List Conf) (conf : Conf) (b : Bssid) (kind : Kind) (request : AssociationRequest) (aid : Aid) → Sound s → IsShort (rule.acceptance s confs conf b kind request aid)
  associated_length confs conf b kind request aid sound known =
      let a = request.sender in
      let here = Put b a (row_of request aid) in
      let others = bssids_elsewhere s b a in
      let is_other = λ (c : Bssid). not (eq_by_cmp bssid_cmp b c) && is_some (aid_at s c a) in
      let given = cursor_changes s b a aid in
      let parts = fronts (put_backs a others) (here ∷ given) known in
      let filtered = length-filter is_other (map.keys s.policies) in
      let fewer = count_by-le-length is_other (map.keys s.policies) in
      let keys = length-map (map.entries s.policies) (λ row. row.0) in
      omega (arith, records_length-append (put_backs a others) (here ∷ given), length-append (record_of here) (records_of given), given_length b a aid parts.1.1, put_backs_length a others parts.0, put_length b a (row_of request aid) parts.1.0.0 parts.1.0.1, filtered, fewer, keys, map.len-entries s.policies, sound.few_bss)

  all_length : (b : Bssid) (reason : Reason) (t : Bool) → Sound s → IsShort (kick_of_all s b reason t)
  all_length b reason t sound known = omega (arith, drops_length b (addresses_at s b) known, addresses_few s b, sound.few_stations b)

  shape_length : (confs : List Conf) (h : Happening) → IsFit s confs h → Sound s → (v : Verdict) → Shape s confs h v → IsShort v
  shape_length confs h fit sound _ shape.silent known = none_long
  shape_length confs h fit sound _ (shape.told reply there so one named) known = none_long
  shape_length confs h fit sound _ (shape.admitted conf b request there is e) known = one_put b request.sender Authenticated known
  shape_length confs h fit sound _ (shape.left b a there own row) known = one_put b a Authenticated known
  shape_length confs h fit sound _ (shape.gone b a there own row) known = one_drop b a known
  shape_length confs h fit sound _ (shape.ended b a reason there row others) known = one_put b a Authenticated known
  shape_length confs h fit sound _ (shape.dropped b a reason there row others) known = one_drop b a known
  shape_length confs h fit sound _ (shape.associated conf b kind request aid there row own asked made) known = associated_length confs conf b kind request aid sound known
  shape_length confs h fit sound _ (shape.emptied b reason deauth there to_all) known = all_length b reason deauth sound known
  shape_length confs h fit sound _ (shape.enforced b p change l q there makes keep short others needed) known = enforced_length b p change l q short sound known
  shape_length confs h fit sound _ (shape.started conf b accept deny is first) known = let fits = subst (IsFit s confs) is fit in first_length conf b accept deny fits.2 fits.3 known

pub decided_length : {E : Type 0} (s : State) (confs : List Conf) (h : Happening) (r : Result Decision E) → IsFit s confs h → Sound s → IfOk r (λ d. d.changes ≡ (verdict s confs h).changes) → IfOk r (λ d. AreChanges d.changes) → IfOk r (λ d. length (records_of d.changes) ≤ MAX_RECORD_BYTES)
decided_length s confs h (Ok d) fit sound same known = rw same (by_shape s confs IsShort (λ tag answer v short. short) h (shape_length s confs h fit sound) (subst AreChanges same known))
decided_length s confs h (Err lack) fit sound same known = tt
