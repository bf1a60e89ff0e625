-- The texts of addresses, and the addresses of routes.
use Rattle.std.specs.Prelude.{ℕ, List, [], ◌∷◌, string_bytes, ⊤}
use Rattle.std.specs.declared.net.socket_addr.SocketAddr.{SocketAddr}
use Rattle.std.specs.Net.Grammar.{IsSocketText}
use Rattle.gateway.specs.declared.config.Route.{Route}

-- The text is that of an address.
abbrev pub IsAddress : List ℕ → Type 0
IsAddress text = (address : SocketAddr) × IsSocketText text address

-- The text is that of no address.
abbrev pub IsNoAddress : List ℕ → Type 0
IsNoAddress text = (address : SocketAddr) → IsSocketText text address → ⊥

-- One address for each route, in their order: the one that its upstream's text says.
abbrev pub AreAddresses : List Route → List SocketAddr → Type 0
AreAddresses [] [] = ⊤
AreAddresses [] (address ∷ addresses) = ⊥
AreAddresses (route ∷ routes) [] = ⊥
AreAddresses (route ∷ routes) (address ∷ addresses) = IsSocketText (string_bytes route.upstream) address × AreAddresses routes addresses
