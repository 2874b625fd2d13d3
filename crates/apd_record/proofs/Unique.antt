-- No record begins another, and so records are read in one way.
use Rattle.std.proofs.Common.{◌≡◌, ℕ, List, [], ◌∷◌, ◌++◌, length, refl, sym, ap, ◌∙◌, append_assoc, arith}
use Rattle.std.specs.Int.{to_le_bytes, w16}
use Rattle.apd_base.specs.Mode.{mode_number}
use Rattle.apd_base.specs.State.{which_number}
use Rattle.apd_base.specs.declared.address.Addr.{Addr}
use Rattle.apd_base.specs.declared.station.Policy.{Policy as BssPolicy}
use Rattle.apd_base.specs.declared.station.Station.{Station}
use Rattle.apd_base.specs.declared.station.Station.TheVariants.{Authenticated, Associated}
use Rattle.apd_base.proofs.StationLemmas.{same_aid, same_station_number, same_mode, same_which}
use Rattle.apd_record.specs.declared.change.Change.{Change}
use Rattle.apd_record.specs.declared.change.Change.TheVariants.{Put, Drop, ListAdd, ListDel, ListClear, Policy, Cursor}
use Rattle.apd_record.specs.Ranges.{IsStation, IsChange, AreChanges}
use Rattle.apd_record.specs.Record.{station_bytes, record_of, records_of}
use Rattle.apd_record.proofs.Fronts.{same_front, same_number}
use Rattle.apd_record.proofs.Parts.{tag_of, bssid_of, body_of, record_parts, bssid_range, parts_behind}

-- ---- fields

address_once : (x y : Addr) (r s : List ℕ) → length x.0 ≡ 6 → length y.0 ≡ 6 → x.0 ++ r ≡ y.0 ++ s → (x ≡ y) × (r ≡ s)
address_once x y r s p q e =
    let both = same_front x.0 y.0 r s (p ∙ sym q) e in
    (ap (λ bytes. record { 0 = bytes }) both.0, both.1)

station_once : (x y : Station) (r s : List ℕ) → IsStation x → IsStation y → station_bytes x ++ r ≡ station_bytes y ++ s → (x ≡ y) × (r ≡ s)
station_once Authenticated Authenticated r s p q e = (refl, cc)
station_once Authenticated (Associated y) r s p q e =
    let first : ◌≡◌ {A = ℕ} 1 2 = cc in absurd (omega arith)
station_once (Associated x) Authenticated r s p q e =
    let first : ◌≡◌ {A = ℕ} 2 1 = cc in absurd (omega arith)
station_once (Associated x) (Associated y) r s p q e =
    let fields : to_le_bytes w16 x.aid.number ++ (to_le_bytes w16 x.capability ++ (to_le_bytes w16 x.listen_interval ++ r)) ≡ to_le_bytes w16 y.aid.number ++ (to_le_bytes w16 y.capability ++ (to_le_bytes w16 y.listen_interval ++ s)) = cc in
    let aid = same_number x.aid.number y.aid.number _ _ (omega (arith, x.aid.high)) (omega (arith, y.aid.high)) fields in
    let capability = same_number x.capability y.capability _ _ p.0 q.0 aid.1 in
    let listen = same_number x.listen_interval y.listen_interval r s p.1 q.1 capability.1 in
    let aids = same_aid x.aid y.aid aid.0 in
    (λ i. Associated (record { aid = aids i; capability = capability.0 i; listen_interval = listen.0 i }), listen.1)

policy_once : (x y : BssPolicy) (r s : List ℕ) → mode_number x.mode ∷ to_le_bytes w16 x.max.number ++ r ≡ mode_number y.mode ∷ to_le_bytes w16 y.max.number ++ s → (x ≡ y) × (r ≡ s)
policy_once x y r s e =
    let first : mode_number x.mode ≡ mode_number y.mode = cc in
    let behind : to_le_bytes w16 x.max.number ++ r ≡ to_le_bytes w16 y.max.number ++ s = cc in
    let count = same_number x.max.number y.max.number r s (omega (arith, x.max.in_range)) (omega (arith, y.max.in_range)) behind in
    let modes = same_mode x.mode y.mode first in
    let limits = same_station_number x.max y.max count.0 in
    (λ i. record { mode = modes i; max = limits i }, count.1)

-- ---- records

body_once : (x y : Change) (r s : List ℕ) → IsChange x → IsChange y → tag_of x ≡ tag_of y → bssid_of x ≡ bssid_of y → body_of x ++ r ≡ body_of y ++ s → (x ≡ y) × (r ≡ s)
body_once (Put b a x) (Put c d y) r s p q t h e =
    let addr = address_once a d (station_bytes x ++ r) (station_bytes y ++ s) p.1.0 q.1.0 (sym (append_assoc a.0 (station_bytes x) r) ∙ e ∙ append_assoc d.0 (station_bytes y) s) in
    let station = station_once x y r s p.2 q.2 addr.1 in
    (λ i. Put (h i) (addr.0 i) (station.0 i), station.1)
body_once (Drop b a) (Drop c d) r s p q t h e =
    let addr = address_once a d r s p.1.0 q.1.0 e in
    (λ i. Drop (h i) (addr.0 i), addr.1)
body_once (ListAdd b v a) (ListAdd c w d) r s p q t h e =
    let first : which_number v ≡ which_number w = cc in
    let behind : a.0 ++ r ≡ d.0 ++ s = cc in
    let which = same_which v w first in
    let addr = address_once a d r s p.1.0 q.1.0 behind in
    (λ i. ListAdd (h i) (which i) (addr.0 i), addr.1)
body_once (ListDel b v a) (ListDel c w d) r s p q t h e =
    let first : which_number v ≡ which_number w = cc in
    let behind : a.0 ++ r ≡ d.0 ++ s = cc in
    let which = same_which v w first in
    let addr = address_once a d r s p.1.0 q.1.0 behind in
    (λ i. ListDel (h i) (which i) (addr.0 i), addr.1)
body_once (ListClear b v) (ListClear c w) r s p q t h e =
    let first : which_number v ≡ which_number w = cc in
    let behind : r ≡ s = cc in
    let which = same_which v w first in
    (λ i. ListClear (h i) (which i), behind)
body_once (Policy b x) (Policy c y) r s p q t h e =
    let policy = policy_once x y r s e in
    (λ i. Policy (h i) (policy.0 i), policy.1)
body_once (Cursor b x) (Cursor c y) r s p q t h e =
    let count = same_number x.number y.number r s (omega (arith, x.in_range)) (omega (arith, y.in_range)) e in
    let limits = same_station_number x y count.0 in
    (λ i. Cursor (h i) (limits i), count.1)
body_once x y r s p q t h e = absurd (omega arith)

pub record_once : (x y : Change) (r s : List ℕ) → IsChange x → IsChange y → record_of x ++ r ≡ record_of y ++ s → (x ≡ y) × (r ≡ s)
record_once x y r s p q e =
    let whole = sym (append_assoc (bssid_of x).0.0 (body_of x) r) in
    let split : tag_of x ∷ (bssid_of x).0.0 ++ (body_of x ++ r) ≡ record_of y ++ s = ap (λ bytes. tag_of x ∷ bytes) whole ∙ ap (λ bytes. bytes ++ r) (sym (record_parts x)) ∙ e in
    let parts = parts_behind (tag_of x) (bssid_of x) (body_of x ++ r) y s (bssid_range x p).0 q split in
    body_once x y r s p q parts.0 parts.1 parts.2

-- no record is empty
pub not_empty : (x : Change) (r : List ℕ) → [] ≡ record_of x ++ r → ⊥
not_empty x r e = let whole : [] ≡ (tag_of x ∷ (bssid_of x).0.0 ++ body_of x) ++ r = e ∙ ap (λ bytes. bytes ++ r) (record_parts x) in cc

pub records_once : (xs ys : List Change) → AreChanges xs → AreChanges ys → records_of xs ≡ records_of ys → xs ≡ ys
records_once [] [] p q e = refl
records_once [] (y ∷ ys) p q e = absurd (not_empty y (records_of ys) e)
records_once (x ∷ xs) [] p q e = absurd (not_empty x (records_of xs) (sym e))
records_once (x ∷ xs) (y ∷ ys) p q e =
    let first = record_once x y (records_of xs) (records_of ys) p.0 q.0 e in
    let behind = records_once xs ys p.1 q.1 first.1 in
    (λ i. first.0 i ∷ behind i)

-- bytes that go on behind records, but not with a record, are no records
pub unread : (xs ys : List Change) (rest : List ℕ) → AreChanges xs → AreChanges ys → (rest ≡ [] → ⊥) → ((x : Change) (r : List ℕ) → IsChange x → rest ≡ record_of x ++ r → ⊥)
    → records_of ys ≡ records_of xs ++ rest → ⊥
unread [] [] rest p q some none e = some (sym e)
unread [] (y ∷ ys) rest p q some none e = none y (records_of ys) q.0 (sym e)
unread (x ∷ xs) [] rest p q some none e = not_empty x (records_of xs ++ rest) (e ∙ append_assoc (record_of x) (records_of xs) rest)
unread (x ∷ xs) (y ∷ ys) rest p q some none e =
    let first = record_once y x (records_of ys) (records_of xs ++ rest) q.0 p.0 (e ∙ append_assoc (record_of x) (records_of xs) rest) in
    unread xs ys rest p.1 q.1 some none first.1
