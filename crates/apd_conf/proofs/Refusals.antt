-- A list is taken, or refused with one fault.
use Rattle.std.proofs.Common.{◌≡◌, ℕ, ◌<◌, ◌↔◌, List, Result, Ok, Err, IsOk, refl, sym, ap, subst, ◌∙◌, arith}
use Rattle.apd_conf.specs.declared.conf.Conf.{Conf}
use Rattle.apd_conf.specs.declared.confs_fault.ConfsFault.{ConfsFault}
use Rattle.apd_conf.specs.declared.confs_fault.ConfsFault.TheVariants.{Empty, TooMany, SameInterface, SameBssid}
use Rattle.apd_conf.specs.Confs.{IsLeastRepeated, AreConfs, IsRefused}
use Rattle.apd_conf.proofs.FaultLemmas.{same_err, ok_err}

least_below : {A : Type 0} (xs : List A) (p q : ℕ) → IsLeastRepeated xs p → IsLeastRepeated xs q → p < q → ⊥
least_below xs p q hp hq lt = hq.least p lt hp.repeated

one_least : {A : Type 0} (xs : List A) (p q : ℕ) → IsLeastRepeated xs p → IsLeastRepeated xs q → p ≡ q
one_least xs p q hp hq =
    let pq : p < q → ⊥ = least_below xs p q hp hq in
    let qp : q < p → ⊥ = least_below xs q p hq hp in
    omega (arith, pq, qp)

pub one_fault : (xs : List Conf) (f g : ConfsFault) → IsRefused xs f → IsRefused xs g → f ≡ g
one_fault xs Empty Empty h k = refl
one_fault xs Empty TooMany h k = absurd (omega (arith, h, k))
one_fault xs Empty (SameInterface q) h k = absurd (omega (arith, h, k.0.0))
one_fault xs Empty (SameBssid q) h k = absurd (omega (arith, h, k.0.0))
one_fault xs TooMany Empty h k = absurd (omega (arith, h, k))
one_fault xs TooMany TooMany h k = refl
one_fault xs TooMany (SameInterface q) h k = absurd (omega (arith, h, k.0.1))
one_fault xs TooMany (SameBssid q) h k = absurd (omega (arith, h, k.0.1))
one_fault xs (SameInterface p) Empty h k = absurd (omega (arith, k, h.0.0))
one_fault xs (SameInterface p) TooMany h k = absurd (omega (arith, k, h.0.1))
one_fault xs (SameInterface p) (SameInterface q) h k = ap SameInterface (one_least _ p q h.1 k.1)
one_fault xs (SameInterface p) (SameBssid q) h k = absurd (k.1 p h.1.repeated)
one_fault xs (SameBssid p) Empty h k = absurd (omega (arith, k, h.0.0))
one_fault xs (SameBssid p) TooMany h k = absurd (omega (arith, k, h.0.1))
one_fault xs (SameBssid p) (SameInterface q) h k = absurd (h.1 q k.1.repeated)
one_fault xs (SameBssid p) (SameBssid q) h k = ap SameBssid (one_least _ p q h.2 k.2)

pub not_both : (xs : List Conf) (f : ConfsFault) → AreConfs xs → IsRefused xs f → ⊥
not_both xs Empty h k = omega (arith, h.count.0, k)
not_both xs TooMany h k = omega (arith, h.count.1, k)
not_both xs (SameInterface p) h k = h.interfaces p k.1.repeated
not_both xs (SameBssid p) h k = h.bssids p k.2.repeated

not_ok : (T : Type 0) (f : ConfsFault) → IsOk {T = T} (Err f) → ⊥
not_ok T f e = cc

-- the answer at a fault that holds
pub told : {T : Type 0} (xs : List Conf) (f : ConfsFault) (r : Result T ConfsFault) → IsRefused xs f → r ≡ Err f → (fault : ConfsFault) → (r ≡ Err fault) ↔ IsRefused xs fault
told xs f r h e fault = (λ t. subst (λ g. IsRefused xs g) (same_err f fault (sym e ∙ t)) h, λ k. e ∙ ap Err (one_fault xs f fault h k))

-- and where none does
pub taken : {T : Type 0} (xs : List Conf) (x : T) (r : Result T ConfsFault) → AreConfs xs → r ≡ Ok x → (fault : ConfsFault) → (r ≡ Err fault) ↔ IsRefused xs fault
taken xs x r h e fault = (λ t. absurd (ok_err x fault (sym e ∙ t)), λ k. absurd (not_both xs fault h k))

pub untaken : {T : Type 0} (xs : List Conf) (f : ConfsFault) (r : Result T ConfsFault) → IsRefused xs f → r ≡ Err f → IsOk r ↔ AreConfs xs
untaken {T = T} xs f r h e = (λ ok. absurd (not_ok T f (subst IsOk e ok)), λ k. absurd (not_both xs f k h))
