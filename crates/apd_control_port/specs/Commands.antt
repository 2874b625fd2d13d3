-- Commands that wait at the control port (own).
use Rattle.std.specs.Prelude.{◌≡◌, ℕ, List, [], ◌∷◌, Option}
use Rattle.std.specs.Option.{option_map, option_or}
use Rattle.std.specs.Net.Addr.{ipv4_octets}
use Rattle.std.specs.Net.Socket.{socket_ip, socket_port}
use Rattle.std.specs.declared.net.ip_addr.IpAddr.{IpAddr}
use Rattle.std.specs.declared.net.ip_addr.IpAddr.TheVariants.{V4, V6}
use Rattle.std.specs.declared.net.socket_addr.SocketAddr.{SocketAddr}
use Rattle.apd_control_port.specs.declared.control_port.ControlPort.{ControlPort}

-- the datagram that was received and not given yet, by its sender and its bytes
abbrev pub waiting_datagram : ControlPort → Option (SocketAddr × List ℕ)
waiting_datagram port = option_or (option_map (λ datagram. (datagram.0, datagram.1.items)) port.received) port.datagrams

-- the four octets of an IPv4 address; one of IPv6 has none
abbrev pub four_octets : IpAddr → List ℕ
four_octets (V4 address) = ipv4_octets address
four_octets (V6 address) = []

-- this port of 127.0.0.1
abbrev pub IsLocal : SocketAddr → ℕ → Type 0
IsLocal address port = (four_octets (socket_ip address) ≡ 127 ∷ 0 ∷ 0 ∷ 1 ∷ []) × (socket_port address ≡ port)
