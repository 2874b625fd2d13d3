-- Whom drivers take in: whoever has newly become associated, once.
use Rattle.std.proofs.Common.{◌≡◌, ℕ, ◌≤◌, zero, suc, Bool, true, false, cond, ◌&&◌, List, [], ◌∷◌, ◌++◌, ◌↔◌, length, Some, None, refl, sym, ap, subst, ◌∙◌, append-nil, append_assoc, arith, filter, map as list_map}
use Rattle.apd_mlme.proofs.Words.{Addr, Aid, AllByRecursion, Answer, AreTakenIn, AssociationRequest, Bssid, Conf, Contains, Contains-push, Frame, Happening, HasBegun, Install, Kind, Out, Radio, Reason, Recipient, Remove, State, Success, Text, UNSPECIFIED, Verdict, addr_cmp, addr_exact, addr_total, addresses_at, aid_at, and_parts, association_response, bssid_cmp, bssid_exact, bssid_total, bssids_elsewhere, conf_at, deauthentication, differ, eq_by_cmp, installation, is_among, is_same, is_some, no_value, none_is, outs_elsewhere, outs_of_drop, outs_of_end, removal, reply_out, same_addr, same_bssid, same_some, stations_taken_in, tied, verdict, with_answer}
use Rattle.std.specs.List.{flat_map}
use Rattle.apd_mlme.specs.rules.Association as rule
use Rattle.apd_mlme.proofs.AssociationLemmas.{associated_aid, cleared, cleared_aid}
use Rattle.apd_mlme.proofs.AuthenticationLemmas.{admitted_aid}
use Rattle.apd_mlme.proofs.DropLemmas.{kept_aid, all_leave, is_elsewhere}
use Rattle.apd_mlme.proofs.ElsewhereLemmas.{is_bssid_among}
use Rattle.apd_mlme.proofs.EnforcementLemmas.{denied, enforced_aid}
use Rattle.apd_mlme.proofs.RadioLemmas.{answered_at, here}
use Rattle.apd_mlme.proofs.RowLemmas.{back_aid, is_row, out_aid}
use Rattle.apd_mlme.proofs.Shapes as shape
use Rattle.apd_mlme.proofs.Shapes.{Shape, by_shape}
use Rattle.apd_mlme.proofs.TrueOutsLemmas.{all_both}

-- ---- outs that take nobody in
abbrev TakesNoneIn : Recipient × Out → Type 0
TakesNoneIn (r, Install a aid) = ⊥
TakesNoneIn (r, other) = Unit {0}

abbrev TakeNoneIn : List (Recipient × Out) → Type 0
TakeNoneIn outs = AllByRecursion TakesNoneIn outs

each_none : {X : Type 0} (f : X → List (Recipient × Out)) → ((x : X) → TakeNoneIn (f x)) → (xs : List X) → TakeNoneIn (flat_map f xs)
each_none f none [] = tt
each_none f none (x ∷ xs) = all_both TakesNoneIn (f x) (flat_map f xs) (none x) (each_none f none xs)

removal_none : (s : State) (b : Bssid) (a : Addr) → TakeNoneIn (removal s b a)
removal_none s b a = elim (is_some (aid_at s b a)) as (λ t. TakeNoneIn (cond t ((Radio b, Remove a) ∷ []) [])) [ true ↦ (tt, tt) | false ↦ tt ]

drop_none : (s : State) (b : Bssid) (reason : Reason) (a : Addr) → TakeNoneIn (outs_of_drop s b a reason)
drop_none s b reason a = all_both TakesNoneIn (removal s b a) (reply_out (deauthentication b a reason) ∷ []) (removal_none s b a) (tt, tt)

module _ (c : Bssid) where
  -- what a radio gets of an out and of those behind it
  abbrev with_out : Recipient × Out → List (Recipient × Out) → Bool → List Out
  with_out x outs t = let rest = filter (λ z. is_same (Radio c) z.0) outs in list_map (λ (z : Recipient × Out). z.1) (cond t (x ∷ rest) rest)

  -- they are passed over
  passed : (xs ys : List (Recipient × Out)) → TakeNoneIn xs → stations_taken_in (here c (xs ++ ys)) ≡ stations_taken_in (here c ys)
  passed [] ys none = refl
  passed ((r, Install a aid) ∷ xs) ys none = absurd none.0
  passed ((r, Remove a) ∷ xs) ys none = elim (is_same (Radio c) r) as (λ t. stations_taken_in (with_out (r, Remove a) (xs ++ ys) t) ≡ stations_taken_in (here c ys)) [ true ↦ passed xs ys none.1 | false ↦ passed xs ys none.1 ]
  passed ((r, Frame bytes) ∷ xs) ys none = elim (is_same (Radio c) r) as (λ t. stations_taken_in (with_out (r, Frame bytes) (xs ++ ys) t) ≡ stations_taken_in (here c ys)) [ true ↦ passed xs ys none.1 | false ↦ passed xs ys none.1 ]
  passed ((r, Text tag bytes) ∷ xs) ys none = elim (is_same (Radio c) r) as (λ t. stations_taken_in (with_out (r, Text tag bytes) (xs ++ ys) t) ≡ stations_taken_in (here c ys)) [ true ↦ passed xs ys none.1 | false ↦ passed xs ys none.1 ]

  none_in : (xs : List (Recipient × Out)) → TakeNoneIn xs → stations_taken_in (here c xs) ≡ []
  none_in xs none = ap (λ outs. stations_taken_in (here c outs)) (sym (append-nil xs)) ∙ passed xs [] none

-- ---- nobody, and one
module _ (s : State) (c : Bssid) (v : Verdict) where
  nobody : stations_taken_in (here c v.outs) ≡ [] → ((d : Addr) (i : ℕ) → HasBegun s v.state c d i → ⊥) → AreTakenIn s c v
  nobody is none = record {
    once = subst (λ xs. length xs ≤ 1) (sym is) (omega arith);
    those = λ d i. (λ h. (let none_there = subst (λ xs. Contains xs (d, i)) is h in absurd (omega (arith, none_there.1))), λ begun. absurd (none d i begun));
  }

  one_taken : (a : Addr) (n : ℕ) → stations_taken_in (here c v.outs) ≡ (a, n) ∷ [] → HasBegun s v.state c a n → ((d : Addr) (i : ℕ) → HasBegun s v.state c d i → (a ≡ d) × (n ≡ i)) → AreTakenIn s c v
  one_taken a n is begun alone = record {
    once = subst (λ xs. length xs ≤ 1) (sym is) (omega arith);
    those = λ d i. (
      λ h. only d i (subst (λ xs. Contains xs (d, i)) is h),
      λ it.
          let same = alone d i it in
          subst (λ xs. Contains xs (d, i)) (sym is) (subst (λ x. Contains {X = Addr × ℕ} ((a, n) ∷ []) x) (λ j. (same.0 j, same.1 j)) (Contains-push {X = Addr × ℕ} [] (a, n))),
    );
  }
    where
      only : (d : Addr) (i : ℕ) → Contains {X = Addr × ℕ} ((a, n) ∷ []) (d, i) → HasBegun s v.state c d i
      only d i (zero, within, same) = subst (λ x. HasBegun s v.state c x.0 x.1) same begun
      only d i (suc k, within, same) = absurd (omega arith)

  -- who had an identifier has it, or has none
  not_begun : ((d : Addr) → (t : Bool) × (aid_at v.state c d ≡ cond t None (aid_at s c d))) → (d : Addr) (i : ℕ) → HasBegun s v.state c d i → ⊥
  not_begun new d i begun = not_by (new d).0 (new d).1
    where
      not_by : (t : Bool) → aid_at v.state c d ≡ cond t None (aid_at s c d) → ⊥
      not_by true is = none_is (aid_at v.state c d) is (ap is_some begun.1)
      not_by false is = none_is (aid_at v.state c d) (is ∙ begun.0) (ap is_some begun.1)

  quiet : TakeNoneIn v.outs → ((d : Addr) → (t : Bool) × (aid_at v.state c d ≡ cond t None (aid_at s c d))) → AreTakenIn s c v
  quiet none new = nobody (none_in c v.outs none) (not_begun new)

-- ---- association
module _ (s : State) (confs : List Conf) (conf : Conf) (b : Bssid) (kind : Kind) (request : AssociationRequest) (aid : Aid) (c : Bssid) where
  abbrev a : Addr
  a = request.sender

  abbrev v : Verdict
  v = rule.acceptance s confs conf b kind request aid

  abbrev ends : List (Recipient × Out)
  ends = outs_elsewhere confs a (bssids_elsewhere s b a)

  abbrev response : Recipient × Out
  response = reply_out (association_response conf b kind a Success (Some aid))

  taken_here : stations_taken_in (here c v.outs) ≡ stations_taken_in (here c (installation s b a aid ++ response ∷ []))
  taken_here =
      ap (λ outs. stations_taken_in (here c outs)) (append_assoc ends (installation s b a aid) (response ∷ []))
      ∙ passed c ends (installation s b a aid ++ response ∷ []) (each_none (λ x. outs_of_end x a UNSPECIFIED) (λ x. (tt, (tt, tt))) (filter (λ x. is_some (conf_at confs x)) (bssids_elsewhere s b a)))

  -- whoever has newly an identifier is the sender here
  begun_here : (d : Addr) (i : ℕ) → HasBegun s v.state c d i → ((c ≡ b) × (d ≡ a)) × (aid.number ≡ i)
  begun_here d i begun =
      elim (is_row b a c d) as (λ t. is_row b a c d ≡ t → aid_at v.state c d ≡ cond t (Some aid.number) (aid_at (cleared s b a) c d) → ((c ≡ b) × (d ≡ a)) × (aid.number ≡ i)) [
        | true ↦ λ e is. (let parts = and_parts (eq_by_cmp bssid_cmp c b) (eq_by_cmp addr_cmp d a) e in ((same_bssid b c parts.0, same_addr a d parts.1), same_some aid.number i (sym is ∙ begun.1)))
        | false ↦ λ e is. absurd (not_begun s c (record v { state = cleared s b a }) (λ x. (is_bssid_among c (bssids_elsewhere s b a) && eq_by_cmp addr_cmp x a, cleared_aid s b a c x)) d i (begun.0, sym is ∙ begun.1))
      ] refl (associated_aid s confs conf b kind request aid c d)

  associated_taken : AreTakenIn s c v
  associated_taken =
      elim (is_some (aid_at s b a)) as (λ t. is_some (aid_at s b a) ≡ t → stations_taken_in (here c v.outs) ≡ stations_taken_in (here c (cond t [] ((Radio b, Install a aid) ∷ []) ++ response ∷ [])) → AreTakenIn s c v) [
        | true ↦ λ known is. nobody s c v (is ∙ none_in c (response ∷ []) (tt, tt))
            (λ d i begun. (let its = begun_here d i begun in none_is (aid_at s b a) (sym (λ j. aid_at s ((its.0).0 j) ((its.0).1 j)) ∙ begun.0) known))
        | false ↦ λ none is.
            elim (eq_by_cmp bssid_cmp c b) as (λ t. eq_by_cmp bssid_cmp c b ≡ t → stations_taken_in (here c v.outs) ≡ stations_taken_in (with_out c (Radio b, Install a aid) (response ∷ []) t) → AreTakenIn s c v) [
              | true ↦ λ same at. one_taken s c v a aid.number (at ∙ ap (λ xs. (a, aid.number) ∷ xs) (none_in c (response ∷ []) (tt, tt))) (
                ap (λ x. aid_at s x a) (same_bssid b c same) ∙ no_value (aid_at s b a) none,
                associated_aid s confs conf b kind request aid c a ∙ (λ j. cond (same j && tied addr_total addr_exact a j) (Some aid.number) (aid_at (cleared s b a) c a)),
              )
                  (λ d i begun. (let its = begun_here d i begun in (sym (its.0).1, its.1)))
              | false ↦ λ other at. nobody s c v (at ∙ none_in c (response ∷ []) (tt, tt))
                  (λ d i begun. (let its = begun_here d i begun in differ _ other (ap (λ x. eq_by_cmp bssid_cmp x b) (its.0).0 ∙ tied bssid_total bssid_exact b)))
            ] refl is
      ] refl taken_here

-- ---- any event
module _ (s : State) (confs : List Conf) (c : Bssid) where
  shape_taken : (h : Happening) (v : Verdict) → Shape s confs h v → AreTakenIn s c v
  shape_taken h v shape.silent = quiet s c v tt (λ d. (false, refl))
  shape_taken h v (shape.told reply there so one named) = quiet s c v (tt, tt) (λ d. (false, refl))
  shape_taken h v (shape.admitted conf b request there is e) = quiet s c v (tt, tt) (λ d. (false, admitted_aid s conf b request e c d))
  shape_taken h v (shape.left b a there own known) = quiet s c v (tt, tt) (λ d. (is_row b a c d, back_aid s b a c d))
  shape_taken h v (shape.gone b a there own known) = quiet s c v (removal_none s b a) (λ d. (is_row b a c d, out_aid s b a c d))
  shape_taken h v (shape.ended b a reason there known others) = quiet s c v (tt, (tt, tt)) (λ d. (is_row b a c d, back_aid s b a c d))
  shape_taken h v (shape.dropped b a reason there known others) = quiet s c v (drop_none s b reason a) (λ d. (is_row b a c d, out_aid s b a c d))
  shape_taken h v (shape.associated conf b kind request aid there known own asked made) = associated_taken s confs conf b kind request aid c
  shape_taken h v (shape.emptied b reason deauth there to_all) =
      let all = addresses_at s b in
      quiet s c v (all_both TakesNoneIn (flat_map (removal s b) all) _ (each_none (removal s b) (removal_none s b) all) (tt, tt))
      (λ d. (eq_by_cmp bssid_cmp c b && is_among d all, kept_aid s b (is_elsewhere s b) all (all_leave s b) c d))
  shape_taken h w (shape.enforced b p change l q there makes keep short others needed) =
      let gone = denied s b p change l q in
      quiet s c w (each_none (λ a. outs_of_drop s b a UNSPECIFIED) (drop_none s b UNSPECIFIED) gone) (λ d. (eq_by_cmp bssid_cmp c b && is_among d gone, enforced_aid s b p change l q c d))
  shape_taken h v (shape.started conf b accept deny is first) = quiet s c v tt (λ d. (false, refl))

  answered_taken : (tag : ℕ) (answer : Answer) (v : Verdict) → AreTakenIn s c v → AreTakenIn s c (with_answer tag answer v)
  answered_taken tag answer v are = record {
    once = subst (λ outs. length (stations_taken_in outs) ≤ 1) (sym (answered_at c tag answer v.outs)) are.once;
    those = λ a i. subst (λ outs. Contains (stations_taken_in outs) (a, i) ↔ HasBegun s v.state c a i) (sym (answered_at c tag answer v.outs)) (are.those a i);
  }

  pub verdict_takes_in : (h : Happening) → AreTakenIn s c (verdict s confs h)
  verdict_takes_in h = by_shape s confs (AreTakenIn s c) answered_taken h (shape_taken h)
