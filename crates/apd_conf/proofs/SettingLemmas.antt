-- The name and the value of a line, and what a rule takes of a file without a fault.
use Rattle.std.proofs.Common.{◌≡◌, ℕ, suc, ◌+◌, ◌-◌, ◌<◌, Bool, true, false, cond, List, [], ◌∷◌, Option, Some, None, Bor, refl, sym, ap, subst, ◌∙◌, arith, take, drop, length, length-drop, inl, inr, below_more}
use Rattle.std.specs.Prelude.{nat_lt, slice_get, IfSome}
use Rattle.std.specs.List.{position, position_or_len, filter_map, cons_option, last_or}
use Rattle.std.specs.Option.{option_map, option_copied}
use Rattle.std.specs.Str.{bytes_eq}
use Rattle.std.proofs.lemmas.Bool.{lt-ltb, le-ltb, cases_lt}
use Rattle.std.proofs.lemmas.List.{take_all}
use Rattle.std.proofs.lemmas.List.Sums.{position_or_len_is}
use Rattle.std.proofs.lemmas.Slice.Eq.{bytes_eq-Decides}
use Rattle.bstr.specs.Find.{IsFirstByte, is_byte}
use Rattle.apd_conf.specs.declared.rule.Rule.{Rule}
use Rattle.apd_conf.specs.declared.rule.Rule.TheVariants.{Interface, Bssid, Ssid, Band, Number, File, Ignored, Security}
use Rattle.apd_conf.specs.declared.conf_fault.ConfFault.{ConfFault}
use Rattle.apd_conf.specs.declared.conf_fault.ConfFault.TheVariants.{NoEquals, Unknown}
use Rattle.apd_conf.specs.Faults.{IsFirstFault, IsFaultless}
use Rattle.apd_conf.specs.Lines.{is_skipped}
use Rattle.apd_conf.specs.Table.{rule_of}
use Rattle.apd_conf.specs.Values.{accepts}
use Rattle.apd_conf.specs.ConfFile.{setting_of, refusal, value_fault, setting_fault, line_fault, fault_by, fault_at, value_for, value_in, value_of, IsFaultOf}
use Rattle.apd_conf.proofs.LineLemmas.{IsNext, behind_none}
use Rattle.apd_base.proofs.Cases.{same_some}

is_equals : ℕ → Bool
is_equals = is_byte 61

failed : (b : Bool) → ¬ (b ≡ true) → b ≡ false
failed true h = absurd (h refl)
failed false h = refl

found_place : (xs : List ℕ) (n : ℕ) → position_or_len (is_byte 61) xs ≡ n → n < length xs → position (is_byte 61) xs ≡ Some n
found_place xs n e lt = (λ i. cond (nat_lt (e i) (length xs)) (Some (e i)) None) ∙ ap (λ b. cond b (Some n) None) (lt-ltb n (length xs) lt)

no_place : (xs : List ℕ) → position_or_len (is_byte 61) xs ≡ length xs → position (is_byte 61) xs ≡ None
no_place xs e = (λ i. cond (nat_lt (e i) (length xs)) (Some (e i)) None) ∙ ap (λ b. cond b (Some (length xs)) None) (le-ltb (length xs) (length xs) (omega arith))

first_place : (xs : List ℕ) (r : Option ℕ) → IsFirstByte (is_byte 61) xs r → position (is_byte 61) xs ≡ r
first_place xs None none =
    no_place xs (position_or_len_is (is_byte 61) xs (length xs) 0 (omega arith) (λ k lt. failed _ (none k (omega arith) lt)) (λ lt. absurd (omega arith)))
first_place xs (Some n) (h, there) =
    let lt : n < length xs = h.high in
    found_place xs n (position_or_len_is (is_byte 61) xs n 0 (omega arith) (λ k below. failed _ (h.before k (omega arith) below)) (λ _. there)) lt

-- a line with no '='
pub no_setting : (line : List ℕ) → IsFirstByte (is_byte 61) line None → setting_of line ≡ None
unfolding setting_of
no_setting line none = ap (option_map (λ place. (take place line, drop (place + 1) line))) (first_place line None none)

-- and one whose first '=' stands at a place
pub split_setting : (line : List ℕ) (place : ℕ) → IsFirstByte (is_byte 61) line (Some place)
    → setting_of line ≡ Some (take place line, take (length line - (place + 1)) (drop (place + 1) line))
unfolding setting_of
split_setting line place first =
    let rest : length (drop (place + 1) line) ≡ length line - (place + 1) = length-drop (place + 1) line in
    ap (option_map (λ place. (take place line, drop (place + 1) line))) (first_place line (Some place) first)
    ∙ ap (λ value. Some (take place line, value)) (sym (take_all (length line - (place + 1)) (drop (place + 1) line) (omega arith)))

module _ (all : List (List ℕ)) (n : ℕ) (line : List ℕ) (rest : List (List ℕ)) (next : IsNext all n line rest) (before : (m : ℕ) → m < n → fault_at all m ≡ None) where
  -- a faulty line
  pub first_fault : (fault : ConfFault) → line_fault (n + 1) line ≡ Some fault → IsFirstFault (fault_at all) fault
  first_fault fault is = record { place = n; there = ap (fault_by n) next.there ∙ is; none_before = before }

  -- and one that is not
  pub no_fault : line_fault (n + 1) line ≡ None → (m : ℕ) → m < n + 1 → fault_at all m ≡ None
  no_fault is = below_more _ _ before (ap (fault_by n) next.there ∙ is)

pub all_faultless : (all : List (List ℕ)) (n : ℕ) → n ≡ length all → ((m : ℕ) → m < n → fault_at all m ≡ None) → IsFaultless (fault_at all)
all_faultless all n end none m = elim (cases_lt m n) [ inl lt ↦ none m lt | inr le ↦ ap (fault_by m) (behind_none all m (omega arith)) ]

by_bytes : (xs ys : List ℕ) → bytes_eq xs ys ≡ true → xs ≡ ys
by_bytes xs ys h = (bytes_eq-Decides xs ys).0 h

accepted : (b : Bool) (fault : ConfFault) → cond b None (Some fault) ≡ None → b ≡ true
accepted true fault e = refl
accepted false fault e = cc

-- what a line without a fault gives a name, the name's rule takes
taken_by : (n : ℕ) (name : List ℕ) (rule : Rule) (setting : Option (List ℕ × List ℕ)) (value : List ℕ) → rule_of name ≡ Some rule → setting_fault n setting ≡ None
    → value_for name setting ≡ Some value → accepts rule value ≡ true
taken_by n name rule None value ruled none is = cc
taken_by n name rule (Some setting) value ruled none is =
    elim (bytes_eq name setting.0) as (λ b. bytes_eq name setting.0 ≡ b → cond b (Some setting.1) None ≡ Some value → accepts rule value ≡ true) [
      | false ↦ λ other e. cc
      | true ↦ λ same e.
          let name_is : name ≡ setting.0 = by_bytes name setting.0 same in
          let value_is : setting.1 ≡ value = cc in
          let fault : value_fault n setting.1 (Some rule) ≡ None = ap (value_fault n setting.1) (sym ruled ∙ ap rule_of name_is) ∙ none in
          subst (λ v. accepts rule v ≡ true) value_is (accepted (accepts rule setting.1) (refusal n rule) fault)
    ] refl is

pub taken_in : (n : ℕ) (name line value : List ℕ) (rule : Rule) → rule_of name ≡ Some rule → line_fault n line ≡ None → value_in name line ≡ Some value → accepts rule value ≡ true
taken_in n name line value rule ruled none is =
    elim (is_skipped line) as (λ b. cond b None (setting_fault n (setting_of line)) ≡ None → cond b None (value_for name (setting_of line)) ≡ Some value → accepts rule value ≡ true) [
      | true ↦ λ h e. cc
      | false ↦ λ h e. taken_by n name rule (setting_of line) value ruled h e
    ] none is

module _ (name : List ℕ) (rule : Rule) (ruled : rule_of name ≡ Some rule) where
  -- and so of the last line
  taken_last : (n : ℕ) (all : List (List ℕ)) (last : Option (List ℕ)) → ((m : ℕ) → fault_by (n + m) (slice_get all m) ≡ None) → IfSome last (λ value. accepts rule value ≡ true)
      → IfSome (last_or last (filter_map (value_in name) all)) (λ value. accepts rule value ≡ true)
  taken_last n [] last none good = good
  taken_last n (line ∷ lines) last none good =
      let later : (m : ℕ) → fault_by (n + 1 + m) (slice_get lines m) ≡ None = λ m. subst (λ k. fault_by k (slice_get lines m) ≡ None) (omega arith) (none (suc m)) in
      let here : line_fault (n + 0 + 1) line ≡ None = none 0 in
      elim (value_in name line) as (λ o. value_in name line ≡ o → IfSome (last_or last (cons_option o (filter_map (value_in name) lines))) (λ value. accepts rule value ≡ true)) [
        | None ↦ λ is. taken_last (n + 1) lines last later good
        | Some value ↦ λ is. taken_last (n + 1) lines (Some value) later (taken_in (n + 0 + 1) name line value rule ruled here is)
      ] refl

  pub taken_of : (all : List (List ℕ)) → IsFaultless (fault_at all) → IfSome (value_of name all) (λ value. accepts rule value ≡ true)
  unfolding value_of
  taken_of all none = taken_last 0 all None (λ m. subst (λ k. fault_by k (slice_get all m) ≡ None) (omega arith) (none m)) tt

  pub taken_value : (all : List (List ℕ)) → IsFaultless (fault_at all) → (value : List ℕ) → value_of name all ≡ Some value → accepts rule value ≡ true
  taken_value all none value is = subst (λ o. IfSome o (λ v. accepts rule v ≡ true)) is (taken_of all none)

-- the same of a value that is lent
pub lent_taken : (rule : Rule) (lent : Option (Bor (List ℕ))) (value : Option (List ℕ)) → option_copied lent ≡ value → IfSome value (λ v. accepts rule v ≡ true)
    → IfSome lent (λ v. accepts rule v.now ≡ true)
lent_taken rule None value is taken = tt
lent_taken rule (Some v) value is taken = subst (λ o. IfSome o (λ w. accepts rule w ≡ true)) (sym is) taken

module _ (all : List (List ℕ)) where
  told_refusal : (n : ℕ) (rule : Rule) → IsFirstFault (fault_at all) (refusal n rule) → IsFaultOf all (refusal n rule)
  told_refusal n Security h = h
  told_refusal n Interface h = h
  told_refusal n Bssid h = h
  told_refusal n Ssid h = h
  told_refusal n Band h = h
  told_refusal n (Number range) h = h
  told_refusal n File h = h
  told_refusal n Ignored h = h

  told_value : (n : ℕ) (value : List ℕ) (ruled : Option Rule) (fault : ConfFault) → value_fault n value ruled ≡ Some fault → IsFirstFault (fault_at all) fault → IsFaultOf all fault
  told_value n value None fault is = subst (λ f. IsFirstFault (fault_at all) f → IsFaultOf all f) (same_some (Unknown n) fault is) (λ h. h)
  told_value n value (Some rule) fault is =
      elim (accepts rule value) as (λ b. cond b None (Some (refusal n rule)) ≡ Some fault → IsFirstFault (fault_at all) fault → IsFaultOf all fault) [
        | true ↦ λ e. cc
        | false ↦ λ e. subst (λ f. IsFirstFault (fault_at all) f → IsFaultOf all f) (same_some (refusal n rule) fault e) (told_refusal n rule)
      ] is

  told_setting : (n : ℕ) (setting : Option (List ℕ × List ℕ)) (fault : ConfFault) → setting_fault n setting ≡ Some fault → IsFirstFault (fault_at all) fault → IsFaultOf all fault
  told_setting n None fault is = subst (λ f. IsFirstFault (fault_at all) f → IsFaultOf all f) (same_some (NoEquals n) fault is) (λ h. h)
  told_setting n (Some setting) fault is = told_value n setting.1 (rule_of setting.0) fault is

  -- the first fault of a line is what is told of the file
  pub told_line : (n : ℕ) (line : List ℕ) (fault : ConfFault) → line_fault n line ≡ Some fault → IsFirstFault (fault_at all) fault → IsFaultOf all fault
  told_line n line fault is =
      elim (is_skipped line) as (λ b. cond b None (setting_fault n (setting_of line)) ≡ Some fault → IsFirstFault (fault_at all) fault → IsFaultOf all fault) [
        | true ↦ λ e. cc
        | false ↦ λ e. told_setting n (setting_of line) fault e
      ] is
