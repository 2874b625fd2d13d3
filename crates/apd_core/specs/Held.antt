-- What is held for the recipients: the outs that they were not given yet, each with the number of its entry (own).
use Rattle.std.specs.Prelude.{◌≡◌, ℕ, ◌+◌, ◌<◌, ◌≤◌, IsSome, ◌-◌, ◌==◌, List, [], ◌∷◌, ◌++◌, length, filter, nat_le, nat_lt, Option, None, Some, if◌then◌else◌, slice_index_or, slice_set}
use Rattle.std.specs.List.{AllByRecursion, count_by, sum_by}
use Rattle.std.specs.Ordering.{nat_cmp, eq_by_cmp}
use Rattle.std.specs.Option.{option_map}
use Rattle.std.specs.FinMap as maps
use Rattle.std.specs.FinMap.{FinMap}
use Rattle.apd_base.specs.Addr.{bssid_cmp}
use Rattle.apd_base.specs.declared.address.Bssid.{Bssid}
use Rattle.apd_conf.specs.declared.conf.Conf.{Conf}
use Rattle.apd_mlme.specs.declared.decision.Recipient.{Recipient}
use Rattle.apd_mlme.specs.declared.decision.Recipient.TheVariants.{Radio, Control}
use Rattle.apd_mlme.specs.declared.decision.Out.{Out}

-- the outs held for one recipient, in order
abbrev pub Queue : Type 0
Queue = List (ℕ × Out)

-- a queue for each radio, in the order of the configurations, and one for whoever gave control commands; for each kept
-- entry, by its number, how many of its outs are held; and the greatest number of an entry of which an out was given
pub record HeldOuts : Type 0 where
  pub queues : List Queue
  pub left : FinMap nat_cmp ℕ
  pub given : ℕ

-- the place of the queue of a BSSID's radio
abbrev pub radio_place : List Conf → Bssid → Option ℕ
radio_place [] b = None
radio_place (conf ∷ confs) b =
    if eq_by_cmp bssid_cmp b conf.bssid then Some 0 else option_map (λ i. i + 1) (radio_place confs b)

-- the place of a recipient's queue
abbrev pub queue_place : List Conf → Recipient → Option ℕ
queue_place confs (Radio b) = radio_place confs b
queue_place confs Control = Some (length confs)

abbrev pub queue_at : List Queue → Option ℕ → Queue
queue_at queues None = []
queue_at queues (Some i) = slice_index_or queues i []

-- a recipient's queue
abbrev pub queue_of : List Conf → HeldOuts → Recipient → Queue
queue_of confs held r = queue_at held.queues (queue_place confs r)

abbrev pub no_queues : List Conf → List Queue
no_queues [] = [] ∷ []
no_queues (conf ∷ confs) = [] ∷ no_queues confs

-- nothing is held
abbrev pub no_outs : List Conf → HeldOuts
no_outs confs = record { queues = no_queues confs; left = maps.empty; given = 0 }

-- an out more, at the end of a queue
abbrev pub queues_with_out : List Queue → Option ℕ → ℕ × Out → List Queue
queues_with_out queues None out = queues
queues_with_out queues (Some i) out = slice_set queues i (slice_index_or queues i [] ++ out ∷ [])

-- the outs of an entry more, each in its recipient's queue
abbrev pub queues_with_outs : List Conf → ℕ → List (Recipient × Out) → List Queue → List Queue
queues_with_outs confs number [] queues = queues
queues_with_outs confs number (x ∷ xs) queues =
    queues_with_outs confs number xs (queues_with_out queues (queue_place confs x.0) (number, x.1))

-- an entry more is kept
abbrev pub with_outs : List Conf → ℕ → List (Recipient × Out) → HeldOuts → HeldOuts
with_outs confs number outs held =
    record held {
      queues = queues_with_outs confs number outs held.queues;
      left = maps.insert held.left number (length outs);
    }

-- of a queue the outs of the entries up to a number, and those of later ones
abbrev pub up_to : ℕ → Queue → Queue
up_to number queue = filter (λ x. nat_le x.0 number) queue

abbrev pub beyond : ℕ → Queue → Queue
beyond number queue = filter (λ x. nat_lt number x.0) queue

-- an out of an entry is given: with the last of them the entry goes
abbrev pub less_one : FinMap nat_cmp ℕ → ℕ → Option ℕ → FinMap nat_cmp ℕ
less_one left k None = left
less_one left k (Some count) = if nat_le count 1 then maps.remove left k else maps.insert left k (count - 1)

abbrev pub after_given : FinMap nat_cmp ℕ → Queue → FinMap nat_cmp ℕ
after_given left [] = left
after_given left (x ∷ xs) = after_given (less_one left x.0 (maps.get left x.0)) xs

abbrev pub greatest_number : ℕ → Queue → ℕ
greatest_number n [] = n
greatest_number n (x ∷ xs) = greatest_number (if nat_le n x.0 then x.0 else n) xs

abbrev pub queues_after_hand : List Queue → Option ℕ → ℕ → List Queue
queues_after_hand queues None number = queues
queues_after_hand queues (Some i) number = slice_set queues i (beyond number (slice_index_or queues i []))

-- a recipient is given the outs of the entries up to a number
abbrev pub after_hand : List Conf → ℕ → Recipient → HeldOuts → HeldOuts
after_hand confs number r held =
    let outs = up_to number (queue_of confs held r) in
    record {
      queues = queues_after_hand held.queues (queue_place confs r) number;
      left = after_given held.left outs;
      given = greatest_number held.given outs;
    }

-- an entry is settled: one without outs goes
abbrev pub left_after_settled : FinMap nat_cmp ℕ → ℕ → Option ℕ → FinMap nat_cmp ℕ
left_after_settled left k None = left
left_after_settled left k (Some count) = if count == 0 then maps.remove left k else left

abbrev pub after_settled : ℕ → HeldOuts → HeldOuts
after_settled k held = record held { left = left_after_settled held.left k (maps.get held.left k) }

-- the numbers of a queue don't fall
abbrev pub IsInOrder : Queue → Type 0
IsInOrder [] = Unit {0}
IsInOrder (x ∷ xs) = AllByRecursion (λ y. x.0 ≤ y.0) xs × IsInOrder xs

-- how many outs of an entry a queue has, and all queues together
abbrev pub outs_in : ℕ → Queue → ℕ
outs_in k queue = count_by (λ x. x.0 == k) queue

abbrev pub outs_of : ℕ → List Queue → ℕ
outs_of k queues = sum_by (λ q. outs_in k q) queues

-- each entry of which an out is held is kept, and its count is right
pub record AreHeld (held : HeldOuts) : Type 0 where
  pub in_order : AllByRecursion IsInOrder held.queues
  pub counted : (k count : ℕ) → maps.get held.left k ≡ Some count → count ≡ outs_of k held.queues
  pub known : (k : ℕ) → 0 < outs_of k held.queues → IsSome (maps.get held.left k)
