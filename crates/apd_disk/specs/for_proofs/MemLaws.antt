-- Proofs of the laws of a disk in memory. They stand here since an impl may cite nothing of its own crate's proofs/.
use Rattle.std.proofs.Common.{◌≡◌, ◌≤◌, ◌+◌, zero, suc, ℕ, nat_le, IsTrue, List, [], ◌∷◌, ◌++◌, length, take, drop, refl, sym, ◌∙◌, ap, subst, arith, length-append, length-take, length-drop}
use Rattle.std.proofs.lemmas.List.{append-nil, take_at, drop_at, take_all, append_assoc, length-take-le}
use Rattle.std.proofs.lemmas.Bool.{and_parts, and_from, leb-true}
use Rattle.apd_disk.specs.Disk.{with_bytes, TornWithin}
use Rattle.apd_disk.specs.Mem.{reads_after, all_fit, TornFrom, Leaves, LeftAfter, LeftBetween, CallsGoOn}
use Rattle.apd_disk.specs.declared.call.Call.{Call}
use Rattle.apd_disk.specs.declared.call.Call.TheVariants.{Read, Write, Sync}

pub calls_stay : (initial : List ℕ) (calls : List Call) → CallsGoOn initial calls initial calls
calls_stay initial calls = record { same = refl; since = []; all = sym (append-nil calls) }

pub calls_go_further : (a : List ℕ) (x : List Call) (b : List ℕ) (y : List Call) (c : List ℕ) (z : List Call)
    → CallsGoOn a x b y → CallsGoOn b y c z → CallsGoOn a x c z
calls_go_further a x b y c z first next = record {
  same = next.same ∙ first.same;
  since = first.since ++ next.since;
  all = next.all ∙ ap (λ (calls : List Call). calls ++ next.since) first.all ∙ append_assoc x first.since next.since;
}

pub length-with_bytes : (image : List ℕ) (at : ℕ) (bytes : List ℕ) → at + length bytes ≤ length image
    → length (with_bytes image at bytes) ≡ length image
length-with_bytes image at bytes fits =
    omega (
      arith,
      length-append (take at image ++ bytes) (drop (at + length bytes) image),
      length-append (take at image) bytes,
      length-take at image,
      length-drop (at + length bytes) image,
    )

pub torn_overwritten : (image : List ℕ) (at : ℕ) (bytes : List ℕ) → at + length bytes ≤ length image
    → TornWithin at (length bytes) image (with_bytes image at bytes)
torn_overwritten image at bytes fits =
    let front : length (take at image) ≡ at = length-take-le at image (omega arith) in
    let both : length (take at image ++ bytes) ≡ at + length bytes =
    omega (arith, front, length-append (take at image) bytes) in
    record {
      before = ap (λ (l : List ℕ). take at l) (append_assoc (take at image) bytes (drop (at + length bytes) image))
          ∙ take_at (take at image) (bytes ++ drop (at + length bytes) image) at front;
      after = drop_at (take at image ++ bytes) (drop (at + length bytes) image) (at + length bytes) both;
      same_length = length-with_bytes image at bytes fits;
    }

pub first_fits : (n at : ℕ) (bytes : List ℕ) (calls : List Call) → IsTrue (all_fit n (Write at bytes ∷ calls))
    → (at + length bytes ≤ n) × IsTrue (all_fit n calls)
first_fits n at bytes calls fit =
    let both = and_parts (nat_le (at + length bytes) n) (all_fit n calls) fit in
    (leb-true (at + length bytes) n both.0, both.1)

reads_leave : (images : List ℕ → Type 0) (reads : List ℕ) (n : ℕ) (calls : List Call) → length reads ≡ n → images reads
    → IsTrue (all_fit n calls) → Leaves images reads calls (reads_after reads calls)
reads_leave images reads n [] size here fit = here
reads_leave images reads n (Read at m ∷ calls) size here fit = reads_leave images reads n calls size here fit
reads_leave images reads n (Write at bytes ∷ calls) size here fit =
    let fits = first_fits n at bytes calls fit in
    let inside : at + length bytes ≤ length reads = omega (arith, fits.0, size) in
    reads_leave (TornFrom images at (length bytes)) (with_bytes reads at bytes) n calls
    (length-with_bytes reads at bytes inside ∙ size) (reads, here, torn_overwritten reads at bytes inside) fits.1
reads_leave images reads n (Sync ∷ calls) size here fit = reads_leave (λ d. d ≡ reads) reads n calls size refl fit

pub reads_left : (initial : List ℕ) (calls : List Call) (bytes : List ℕ) → bytes ≡ reads_after initial calls
    → IsTrue (all_fit (length initial) calls) → LeftAfter initial calls bytes
reads_left initial calls bytes is fit =
    subst (LeftAfter initial calls) (sym is)
    (reads_leave (λ d. d ≡ initial) initial (length initial) calls refl refl fit)

pub now_left : (initial : List ℕ) (calls : List Call) (t : ℕ) (c : List ℕ) → t ≤ length calls
    → LeftAfter initial calls c → LeftBetween initial calls t c
now_left initial calls t c le left = (
  length calls,
  le,
  omega arith,
  subst (λ (l : List Call). LeftAfter initial l c)
      (sym (take_all (length calls) calls (omega arith))) left,
)

pub only_last : (initial : List ℕ) (calls : List Call) (c : List ℕ) → LeftBetween initial calls (length calls) c
    → LeftAfter initial calls c
only_last initial calls c left = subst (λ (l : List Call). LeftAfter initial l c) (take_all left.0 calls left.1) left.3

-- a stop since a later moment is one since an earlier moment
pub earlier_left : (initial : List ℕ) (calls : List Call) (t u : ℕ) (c : List ℕ) → t ≤ u
    → LeftBetween initial calls u c → LeftBetween initial calls t c
earlier_left initial calls t u c le left = (left.0, omega (arith, le, left.1), left.2, left.3)

pub leaves_length : (n : ℕ) (images : List ℕ → Type 0) (reads : List ℕ) (calls : List Call) (c : List ℕ)
    → ((d : List ℕ) → images d → length d ≡ n) → length reads ≡ n → IsTrue (all_fit n calls)
    → Leaves images reads calls c → length c ≡ n
leaves_length n images reads [] c each size fit left = each c left
leaves_length n images reads (Read at m ∷ calls) c each size fit left =
    leaves_length n images reads calls c each size fit left
leaves_length n images reads (Write at bytes ∷ calls) c each size fit left =
    let fits = first_fits n at bytes calls fit in
    let inside : at + length bytes ≤ length reads = omega (arith, fits.0, size) in
    leaves_length n (TornFrom images at (length bytes)) (with_bytes reads at bytes) calls c
    (λ d torn. torn.2.same_length ∙ each torn.0 torn.1)
    (length-with_bytes reads at bytes inside ∙ size) fits.1 left
leaves_length n images reads (Sync ∷ calls) c each size fit left =
    leaves_length n (λ d. d ≡ reads) reads calls c (λ d is. ap length is ∙ size) size fit left

-- the front of calls that fit fits
pub fit_front : (n k : ℕ) (calls : List Call) → IsTrue (all_fit n calls) → IsTrue (all_fit n (take k calls))
fit_front n zero calls fit = refl
fit_front n (suc k) [] fit = refl
fit_front n (suc k) (Read at m ∷ calls) fit = fit_front n k calls fit
fit_front n (suc k) (Write at bytes ∷ calls) fit =
    let both = and_parts (nat_le (at + length bytes) n) (all_fit n calls) fit in
    and_from (nat_le (at + length bytes) n) (all_fit n (take k calls)) both.0 (fit_front n k calls both.1)
fit_front n (suc k) (Sync ∷ calls) fit = fit_front n k calls fit

-- what a read gives has the first image's length
pub length-reads : (initial : List ℕ) (calls : List Call) (bytes : List ℕ) → bytes ≡ reads_after initial calls
    → IsTrue (all_fit (length initial) calls) → length bytes ≡ length initial
length-reads initial calls bytes is fit =
    leaves_length (length initial) (λ d. d ≡ initial) initial calls bytes (λ d same. ap length same) refl fit
    (reads_left initial calls bytes is fit)

pub left_length : (initial : List ℕ) (calls : List Call) (bytes : List ℕ) (t : ℕ) (c : List ℕ)
    → bytes ≡ reads_after initial calls → IsTrue (all_fit (length initial) calls) → LeftBetween initial calls t c
    → length c ≡ length bytes
left_length initial calls bytes t c is fit left =
    let each : (d : List ℕ) → d ≡ initial → length d ≡ length initial = λ d same. ap length same in
    leaves_length (length initial) (λ d. d ≡ initial) initial (take left.0 calls) c each refl
    (fit_front (length initial) left.0 calls fit) left.3
    ∙ sym (length-reads initial calls bytes is fit)
