-- What a list of calls leaves of a first image.
use Rattle.std.specs.Prelude.{◌≡◌, ◌≤◌, ◌<◌, ◌+◌, ℕ, Bool, true, false, nat_le, nat_lt, ◌&&◌, ◌||◌, ◌⊎◌, IsTrue, List, [], ◌∷◌, ◌++◌, length, take, drop, get_or, replicate}
use Rattle.apd_disk.specs.Disk.{with_bytes, TornWithin}
use Rattle.apd_disk.specs.declared.call.Call.{Call}
use Rattle.apd_disk.specs.declared.call.Call.TheVariants.{Read, Write, Sync}
use Rattle.apd_disk.specs.declared.torn.Torn.{Torn}
use Rattle.apd_disk.specs.declared.torn.Torn.TheVariants.{Old, New, Byte}

-- what a read gives after the calls
abbrev pub reads_after : List ℕ → List Call → List ℕ
reads_after image [] = image
reads_after image (Read at n ∷ calls) = reads_after image calls
reads_after image (Write at bytes ∷ calls) = reads_after (with_bytes image at bytes) calls
reads_after image (Sync ∷ calls) = reads_after image calls

-- each write lies inside n bytes
abbrev pub all_fit : ℕ → List Call → Bool
all_fit n [] = true
all_fit n (Read at m ∷ calls) = all_fit n calls
all_fit n (Write at bytes ∷ calls) = nat_le (at + length bytes) n && all_fit n calls
all_fit n (Sync ∷ calls) = all_fit n calls

-- an image of before, torn in a range
abbrev pub TornFrom : (List ℕ → Type 0) → ℕ → ℕ → List ℕ → Type 0
TornFrom images at n c = (d : List ℕ) × images d × TornWithin at n d c

-- the images that a stop after the calls may leave, where before them it might leave these and a read gave that
abbrev pub Leaves : (List ℕ → Type 0) → List ℕ → List Call → List ℕ → Type 0
Leaves images reads [] c = images c
Leaves images reads (Read at n ∷ calls) c = Leaves images reads calls c
Leaves images reads (Write at bytes ∷ calls) c =
    Leaves (TornFrom images at (length bytes)) (with_bytes reads at bytes) calls c
Leaves images reads (Sync ∷ calls) c = Leaves (λ d. d ≡ reads) reads calls c

abbrev pub LeftAfter : List ℕ → List Call → List ℕ → Type 0
LeftAfter initial calls = Leaves (λ d. d ≡ initial) initial calls

-- after some number of the calls, from t on
abbrev pub LeftBetween : List ℕ → List Call → ℕ → List ℕ → Type 0
LeftBetween initial calls t c = (k : ℕ) × (t ≤ k) × (k ≤ length calls) × LeftAfter initial (take k calls) c

-- the same first image, and the same calls with others behind them
pub record CallsGoOn (initial : List ℕ) (calls : List Call) (initial_now : List ℕ) (calls_now : List Call)
    : Type 0 where
  pub same : initial_now ≡ initial
  pub since : List Call
  pub all : calls_now ≡ calls ++ since

-- what a read gave at the last sync, where one gave that at the last before the calls, and gives this now
abbrev pub synced_after : List ℕ → List ℕ → List Call → List ℕ
synced_after synced reads [] = synced
synced_after synced reads (Read at n ∷ calls) = synced_after synced reads calls
synced_after synced reads (Write at bytes ∷ calls) = synced_after synced (with_bytes reads at bytes) calls
synced_after synced reads (Sync ∷ calls) = synced_after reads reads calls

-- whether byte i lies in the range of n bytes at this place
abbrev pub covers : ℕ → ℕ → ℕ → Bool
covers at n i = nat_le at i && nat_lt i (at + n)

-- whether byte i was written after the last sync, where it was or wasn't before the calls
abbrev pub is_unsynced : ℕ → Bool → List Call → Bool
is_unsynced i was [] = was
is_unsynced i was (Read at n ∷ calls) = is_unsynced i was calls
is_unsynced i was (Write at bytes ∷ calls) = is_unsynced i (was || covers at (length bytes) i) calls
is_unsynced i was (Sync ∷ calls) = is_unsynced i false calls

-- a byte after a stop, if unsynced the old one, the new one or a given one
abbrev pub torn_byte : Torn → Bool → ℕ → ℕ → ℕ
torn_byte torn false old new = old
torn_byte Old true old new = old
torn_byte New true old new = new
torn_byte (Byte b) true old new = b

-- each byte is the one of the last sync or, where it was written since, what the kind of stop makes of it
pub record IsCrashImage (torn : Torn) (initial : List ℕ) (calls : List Call) (image : List ℕ) : Type 0 where
  pub same_length : length image ≡ length initial
  pub each : (i : ℕ) → i < length initial
      → get_or image i 0
      ≡ torn_byte torn (is_unsynced i false calls) (get_or (synced_after initial initial calls) i 0)
      (get_or (reads_after initial calls) i 0)

-- none of the calls is a sync
abbrev pub has_no_sync : List Call → Bool
has_no_sync [] = true
has_no_sync (Read at n ∷ calls) = has_no_sync calls
has_no_sync (Write at bytes ∷ calls) = has_no_sync calls
has_no_sync (Sync ∷ calls) = false

-- so many calls end with the last sync; none where there is no sync
pub record EndsWithTheLastSync (n : ℕ) (calls : List Call) : Type 0 where
  pub inside : n ≤ length calls
  pub none_later : IsTrue (has_no_sync (drop n calls))
  pub a_sync : (n ≡ 0) ⊎ ((before : List Call) × (take n calls ≡ before ++ Sync ∷ []))

-- one write after such a stop
abbrev pub torn_write : Torn → List ℕ → ℕ → List ℕ → List ℕ
torn_write Old image at bytes = image
torn_write New image at bytes = with_bytes image at bytes
torn_write (Byte b) image at bytes = with_bytes image at (replicate (length bytes) b)

-- each write of the calls
abbrev pub torn_writes : Torn → List ℕ → List Call → List ℕ
torn_writes torn image [] = image
torn_writes torn image (Read at n ∷ calls) = torn_writes torn image calls
torn_writes torn image (Write at bytes ∷ calls) = torn_writes torn (torn_write torn image at bytes) calls
torn_writes torn image (Sync ∷ calls) = torn_writes torn image calls
