-- What the driver of a radio is told, and what it says: words, each a datagram (own format).
use Rattle.std.specs.Prelude.{◌≡◌, ◌≢◌, ℕ, ◌+◌, ◌%◌, ◌^◌, Bool, true, false, ◌⊎◌, ◌&&◌, nat_le, List, [], ◌∷◌, ◌++◌, flat_map, Option, Some, None, ◌↔◌, codes}
use Rattle.std.specs.FinMap as map
use Rattle.std.specs.Fmt.{decimal}
use Rattle.std.specs.Net.Addr.{ipv4_octets}
use Rattle.std.specs.Net.Socket.{v4_ip, v4_port}
use Rattle.std.specs.declared.net.socket_addr.SocketAddr.{SocketAddr}
use Rattle.std.specs.declared.net.socket_addr.SocketAddr.TheVariants.{V4, V6}
use Rattle.apd_base.specs.declared.address.Addr.{Addr}
use Rattle.apd_base.specs.Addr.{addr_cmp, text_of}
use Rattle.apd_base.specs.Text.{blank, newline, decimal_number}
use Rattle.apd_radio.specs.declared.heard.Heard.{Heard}
use Rattle.apd_radio.specs.declared.heard.Heard.TheVariants.{Nothing, Stranger, Datagram}

-- a datagram that begins with a lower-case letter is a word; any other is a frame
abbrev pub is_word : List ℕ → Bool
is_word [] = false
is_word (b ∷ bs) = nat_le 97 b && nat_le b 122

-- the number behind this one; behind the greatest comes 0
abbrev pub next_number : ℕ → ℕ
next_number n = (n + 1) % 2 ^ 64

-- a station: its address, a blank and its identifier
abbrev pub station_text : Addr → ℕ → List ℕ
station_text addr aid = text_of addr ++ blank ∷ decimal aid

-- the words by their numbers: a station comes in, or over what was at its address
abbrev pub install_text : ℕ → Addr → ℕ → List ℕ
install_text number addr aid = codes "install " ++ decimal number ++ blank ∷ station_text addr aid

-- a station goes
abbrev pub remove_text : ℕ → Addr → List ℕ
remove_text number addr = codes "remove " ++ decimal number ++ blank ∷ text_of addr

-- a line of its own for each station
abbrev pub station_line : Addr × ℕ → List ℕ
station_line row = newline ∷ station_text row.0 row.1

-- all stations go, and these are there
abbrev pub map_text : ℕ → List (Addr × ℕ) → List ℕ
map_text number rows = (codes "map " ++ decimal number ++ codes " down") ++ flat_map station_line rows

-- what a driver says: it wants the whole map
abbrev pub IsUp : List ℕ → Type 0
IsUp text = text ≡ codes "up"

-- it did not do what the word of this number told, 1 to 20 digits below 2^64
abbrev pub IsFaultAt : ℕ → List ℕ → Type 0
IsFaultAt number text = (digits : List ℕ) × (text ≡ codes "fault " ++ digits) × (decimal_number 20 18446744073709551615 digits ≡ Some number)

abbrev pub IsFault : List ℕ → Type 0
IsFault text = (number : ℕ) × IsFaultAt number text

-- a datagram that came in at a port: its sender and its bytes
abbrev pub Received : Type 0
Received = SocketAddr × List ℕ

-- this port of 127.0.0.1
abbrev pub IsLocal : SocketAddr → ℕ → Type 0
IsLocal (V4 address) port = (ipv4_octets (v4_ip address) ≡ 127 ∷ 0 ∷ 0 ∷ 1 ∷ []) × (v4_port address ≡ port)
IsLocal (V6 address) port = ⊥

-- what is heard of a peer where these datagrams came in, one at most: its bytes if the peer sent it, and none of what
-- others sent
abbrev pub IsHeard : SocketAddr → List Received → Heard → Type 0
IsHeard peer came Nothing = came ≡ []
IsHeard peer came Stranger = (sender : SocketAddr) × (bytes : List ℕ) × (came ≡ (sender, bytes) ∷ []) × (sender ≢ peer)
IsHeard peer came (Datagram bytes) = came ≡ (peer, bytes.items) ∷ []

-- behind what came in at a port before, this is heard of a peer next
abbrev pub HearsNext : SocketAddr → List Received → Heard → List Received → Type 0
HearsNext peer before heard now = (came : List Received) × (now ≡ before ++ came) × IsHeard peer came heard

-- the peer said such a word among these datagrams
abbrev pub HasSaid : SocketAddr → (List ℕ → Type 0) → List Received → Type 0
HasSaid peer Word [] = ⊥
HasSaid peer Word (next ∷ more) = ((next.0 ≡ peer) × Word next.1) ⊎ HasSaid peer Word more

abbrev pub IsFrame : List ℕ → Type 0
IsFrame text = is_word text ≡ false

-- behind what came in at a port before, more came in, and no frame of the peer's among it
abbrev pub PassesOver : SocketAddr → List Received → List Received → Type 0
PassesOver peer before now = (came : List Received) × (now ≡ before ++ came) × (HasSaid peer IsFrame came → ⊥)

-- the peer's next frame is given, which came in last, if one came in; what came in before it is passed over
abbrev pub Gives : SocketAddr → List Received → Option (List ℕ) → List Received → Type 0
Gives peer before None now = PassesOver peer before now
Gives peer before (Some frame) now =
    IsFrame frame × ((passed : List Received) × PassesOver peer before passed × (now ≡ passed ++ (peer, frame) ∷ []))

-- behind what came in at a port before: the datagram that waited for memory waits on, and none came in, or it came in first
abbrev pub WaitsOrCame : Option Received → List Received → Option Received → List Received → Type 0
WaitsOrCame None before waiting now = Unit {0}
WaitsOrCame (Some waited) before waiting now =
    ((waiting ≡ Some waited) × (now ≡ before)) ⊎ ((more : List Received) × (now ≡ before ++ waited ∷ more))

-- behind what came in at a port before, more came in: the map is due then, and the driver's failure is to be answered, if
-- it was before, or the driver said so
pub record Heeds (driver : SocketAddr) (before now : List Received) (due failed due_then failed_then : Bool) : Type 0 where
  pub came : List Received
  pub received : now ≡ before ++ came
  pub map : (due_then ≡ true) ↔ ((due ≡ true) ⊎ HasSaid driver IsUp came)
  pub fault : (failed_then ≡ true) ↔ ((failed ≡ true) ⊎ HasSaid driver IsFault came)

-- behind what a driver was sent before, it was sent this word, and the next word has the next number
pub record IsSaid (word : List ℕ) (number : ℕ) (sent : List (List ℕ)) (number_then : ℕ) (sent_then : List (List ℕ)) : Type 0 where
  pub said : sent_then ≡ sent ++ word ∷ []
  pub next : number_then ≡ next_number number

-- what is told of a map before anything else: where it is due, all of it
abbrev pub words_due : Bool → map.FinMap addr_cmp ℕ → ℕ → List (List ℕ)
words_due true stations number = map_text number (map.entries stations) ∷ []
words_due false stations number = []

-- behind what was told before, a call is told by its word, unless the map is due then, which has what the call changed
abbrev pub IsTold : List ℕ → List (List ℕ) → Bool → List (List ℕ) → Type 0
IsTold word told true told_then = told_then ≡ told
IsTold word told false told_then = told_then ≡ told ++ word ∷ []

-- behind what was told before, the map is told where it is due, unless it stays due
abbrev pub IsToldMap : Bool → List ℕ → List (List ℕ) → Bool → List (List ℕ) → Type 0
IsToldMap true word told true told_then = told_then ≡ told
IsToldMap true word told false told_then = told_then ≡ told ++ word ∷ []
IsToldMap false word told true told_then = ⊥
IsToldMap false word told false told_then = told_then ≡ told
