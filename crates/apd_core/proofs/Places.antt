-- The place of a recipient's queue.
use Rattle.std.proofs.Common.{◌≡◌, ℕ, ◌+◌, ◌<◌, ◌≤◌, suc, true, false, cond, not, List, [], ◌∷◌, length, Option, Some, None, IsSome, IfSome, inl, inr, refl, sym, ap, subst, ◌∙◌, arith}
use Rattle.std.specs.Prelude.{nat_lt}
use Rattle.apd_core.proofs.Words.{Bssid, Conf, Control, Out, Radio, Recipient, RecipientIsThere, bssid_cmp, bssid_exact, bssid_total, cases_lt, conf_at, eq_by_cmp, is_same, le-ltb, lt-ltb, option_map, position_or_len, queue_place, radio_place, same_bssid, tied}
use Rattle.std.specs.List.{position}

abbrev pub next : Option ℕ → Option ℕ
next o = option_map (λ i. i + 1) o

one_more : (o : Option ℕ) (i : ℕ) → next o ≡ Some i → (j : ℕ) × (o ≡ Some j) × (i ≡ j + 1)
one_more None i e = cc
one_more (Some j) i e = (j, refl, (cc))

not_first : (o : Option ℕ) (i : ℕ) → Some 0 ≡ Some i → next o ≡ Some i → ⊥
not_first o i z e =
    let zero_is : 0 ≡ i = cc in
    let m = one_more o i e in
    let is : i ≡ m.0 + 1 = m.2 in
    omega arith

pub place_below : (confs : List Conf) (b : Bssid) (i : ℕ) → radio_place confs b ≡ Some i → i < length confs
place_below [] b i e = cc
place_below (c ∷ cs) b i e =
    elim (eq_by_cmp bssid_cmp b c.bssid) as (λ t. cond t (Some 0) (next (radio_place cs b)) ≡ Some i → i < suc (length cs)) [
      | true ↦ λ f. let z : 0 ≡ i = cc in omega arith
      | false ↦ λ f. let m = one_more (radio_place cs b) i f in let l : m.0 < length cs = place_below cs b m.0 m.1 in let is : i ≡ m.0 + 1 = m.2 in omega arith
    ] e

same_place : (confs : List Conf) (b c : Bssid) (i : ℕ) → radio_place confs b ≡ Some i → radio_place confs c ≡ Some i → eq_by_cmp bssid_cmp b c ≡ true
same_place [] b c i e f = cc
same_place (x ∷ xs) b c i e f =
    elim (eq_by_cmp bssid_cmp b x.bssid) as (λ s. eq_by_cmp bssid_cmp b x.bssid ≡ s → cond s (Some 0) (next (radio_place xs b)) ≡ Some i → eq_by_cmp bssid_cmp b c ≡ true) [
      | true ↦ λ p e'.
          elim (eq_by_cmp bssid_cmp c x.bssid) as (λ t. eq_by_cmp bssid_cmp c x.bssid ≡ t → cond t (Some 0) (next (radio_place xs c)) ≡ Some i → eq_by_cmp bssid_cmp b c ≡ true) [
            | true ↦ λ q f'. subst (λ (z : Bssid). eq_by_cmp bssid_cmp b z ≡ true) (same_bssid x.bssid b p ∙ sym (same_bssid x.bssid c q)) (tied bssid_total bssid_exact b)
            | false ↦ λ q f'. absurd (not_first (radio_place xs c) i e' f')
          ] refl f
      | false ↦ λ p e'.
          elim (eq_by_cmp bssid_cmp c x.bssid) as (λ t. eq_by_cmp bssid_cmp c x.bssid ≡ t → cond t (Some 0) (next (radio_place xs c)) ≡ Some i → eq_by_cmp bssid_cmp b c ≡ true) [
            | true ↦ λ q f'. absurd (not_first (radio_place xs b) i f' e')
            | false ↦ λ q f'.
                let m = one_more (radio_place xs b) i e' in let n = one_more (radio_place xs c) i f' in
                let same : n.0 ≡ m.0 = omega (arith, m.2, n.2) in
                same_place xs b c m.0 m.1 (n.1 ∙ ap Some same)
          ] refl f
    ] refl e

is_some_next : (o : Option ℕ) → IsSome o → IsSome (next o)
is_some_next None h = cc
is_some_next (Some j) h = refl

place_there : (confs : List Conf) (b : Bssid) → IsSome (conf_at confs b) → IsSome (radio_place confs b)
place_there [] b h = cc
place_there (c ∷ cs) b h =
    elim (eq_by_cmp bssid_cmp b c.bssid) as (λ t. IsSome (cond t (Some c) (conf_at cs b)) → IsSome (cond t (Some 0) (next (radio_place cs b)))) [
      | true ↦ λ _. refl
      | false ↦ λ g. is_some_next (radio_place cs b) (place_there cs b g)
    ] h

pub some_is : {A : Type 0} (o : Option A) → IsSome o → (a : A) × (o ≡ Some a)
some_is None h = cc
some_is (Some a) h = (a, refl)

-- a recipient that is there has a queue
pub there : (confs : List Conf) (x : Recipient × Out) → RecipientIsThere confs x → (i : ℕ) × (queue_place confs x.0 ≡ Some i) × (i < length confs + 1)
there confs (Radio b, out) h =
    let at = some_is (radio_place confs b) (place_there confs b h) in
    let l : at.0 < length confs = place_below confs b at.0 at.1 in
    (at.0, at.1, omega arith)
there confs (Control, out) h = (length confs, refl, omega arith)

pub queue_place_below : (confs : List Conf) (r : Recipient) (i : ℕ) → queue_place confs r ≡ Some i → i < length confs + 1
queue_place_below confs (Radio b) i e = let l : i < length confs = place_below confs b i e in omega arith
queue_place_below confs Control i e = let z : length confs ≡ i = cc in omega arith

-- two recipients have one place exactly where they are one
pub same_recipient : (confs : List Conf) (r q : Recipient) → is_same r q ≡ true → queue_place confs r ≡ queue_place confs q
same_recipient confs (Radio b) (Radio c) e = ap (radio_place confs) (same_bssid c b e)
same_recipient confs (Radio b) Control e = cc
same_recipient confs Control (Radio c) e = cc
same_recipient confs Control Control e = refl

pub apart : (confs : List Conf) (r q : Recipient) (i : ℕ) → is_same r q ≡ false → queue_place confs r ≡ Some i → queue_place confs q ≡ Some i → ⊥
apart confs (Radio b) (Radio c) i e f g = let t = same_place confs b c i f g in cc
apart confs (Radio b) Control i e f g =
    let l : i < length confs = place_below confs b i f in let z : length confs ≡ i = cc in omega arith
apart confs Control (Radio c) i e f g =
    let l : i < length confs = place_below confs c i g in let z : length confs ≡ i = cc in omega arith
apart confs Control Control i e f g = cc

stepped : (m n : ℕ) → cond (nat_lt (1 + m) (suc n)) (Some (1 + m)) None ≡ next (cond (nat_lt m n) (Some m) None)
stepped m n =
    let sum : 1 + m ≡ m + 1 = omega arith in
    elim (cases_lt m n) [
      | inl h ↦
          ap (λ b. cond b (Some (1 + m)) None) (lt-ltb (1 + m) (suc n) (omega arith)) ∙ ap Some sum
          ∙ sym (ap (λ b. next (cond b (Some m) None)) (lt-ltb m n h))
      | inr h ↦
          ap (λ b. cond b (Some (1 + m)) None) (le-ltb (1 + m) (suc n) (omega arith))
          ∙ sym (ap (λ b. next (cond b (Some m) None)) (le-ltb m n h))
    ]

-- as a search from the front finds it
pub place_is : (confs : List Conf) (b : Bssid) → position (λ c. eq_by_cmp bssid_cmp b c.bssid) confs ≡ radio_place confs b
place_is [] b = refl
place_is (c ∷ cs) b =
    let n = position_or_len (λ x. eq_by_cmp bssid_cmp b x.bssid) cs in
    elim (eq_by_cmp bssid_cmp b c.bssid) as (λ t. cond (nat_lt (cond (not t) (1 + n) 0) (suc (length cs))) (Some (cond (not t) (1 + n) 0)) None ≡ cond t (Some 0) (next (radio_place cs b))) [
      | true ↦ ap (λ b. cond b (Some 0) None) (lt-ltb 0 (suc (length cs)) (omega arith))
      | false ↦ stepped n (length cs) ∙ ap next (place_is cs b)
    ]

pub place_small : (confs : List Conf) (b : Bssid) (r : Option ℕ) → r ≡ radio_place confs b → length confs ≤ 8 → IfSome r (λ i. i ≤ 8)
place_small confs b None e h = tt
place_small confs b (Some i) e h = let l : i < length confs = place_below confs b i (sym e) in omega arith
