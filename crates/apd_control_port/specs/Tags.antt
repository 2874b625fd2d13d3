-- Tags of commands: a new number for each, kept with the command's sender until the reply (own).
use Rattle.std.specs.Prelude.{◌≡◌, ℕ, ◌+◌, ◌==◌, Option, Some, None, if◌then◌else◌}
use Rattle.std.specs.Ordering.{nat_cmp}
use Rattle.std.specs.BTreeMap.{get}
use Rattle.std.specs.declared.net.socket_addr.SocketAddr.{SocketAddr}
use Rattle.apd_control_port.specs.declared.senders.Senders.{Senders}

-- the sender of the command of this tag, where the command has no reply yet
abbrev pub sender_of : Senders → ℕ → Option SocketAddr
sender_of senders tag = get nat_cmp senders.waiting tag

-- no command came, and none got its reply
abbrev pub AreSame : Senders → Senders → Type 0
AreSame old new = (new.given ≡ old.given) × ((other : ℕ) → sender_of new other ≡ sender_of old other)

-- a command of this sender got this tag, the next number, which no command had; the others wait on
abbrev pub Adds : Senders → ℕ → SocketAddr → Senders → Type 0
Adds old tag sender new =
    (tag ≡ old.given) × (sender_of old tag ≡ None) × (new.given ≡ old.given + 1)
    × ((other : ℕ) → sender_of new other ≡ (if other == tag then Some sender else sender_of old other))

-- the command of this tag waits no more; the others wait on
abbrev pub Forgets : Senders → ℕ → Senders → Type 0
Forgets old tag new =
    (new.given ≡ old.given) × ((other : ℕ) → sender_of new other ≡ (if other == tag then None else sender_of old other))
