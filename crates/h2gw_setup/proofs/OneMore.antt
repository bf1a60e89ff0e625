-- One route more has one address more.
use Rattle.std.proofs.Common.{◌≡◌, ◌<◌, ◌+◌, ℕ, List, [], ◌∷◌, ◌++◌, length, take, get_or, string_bytes, arith}
use Rattle.std.proofs.lemmas.Grind.{common_steps}
use Rattle.std.specs.declared.net.socket_addr.SocketAddr.{SocketAddr}
use Rattle.std.specs.Net.Grammar.{IsSocketText}
use Rattle.gateway.specs.declared.config.Route.{Route}
use Rattle.h2gw_setup.specs.Addresses.{AreAddresses}

pub one_more : (routes : List Route) (addresses : List SocketAddr) (route : Route) (address : SocketAddr)
    → AreAddresses routes addresses → IsSocketText (string_bytes route.upstream) address → AreAddresses (routes ++ route ∷ []) (addresses ++ address ∷ [])
one_more [] [] route address are is = (is, tt)
one_more [] (a ∷ others) route address are is = absurd are
one_more (r ∷ rs) [] route address are is = absurd are
one_more (r ∷ rs) (a ∷ others) route address are is = (are.0, one_more rs others route address are.1 is)

-- The address of the route at a place was found, and those before it.
pub next_address : (routes : List Route) (i : ℕ) (route : Route) (addresses new : List SocketAddr) (address : SocketAddr)
    → i < length routes → route ≡ get_or routes i route → AreAddresses (take i routes) addresses
    → IsSocketText (string_bytes route.upstream) address → new ≡ addresses ++ address ∷ [] → AreAddresses (take (i + 1) routes) new
next_address routes i route addresses new address within found are is same =
    let taken : take (i + 1) routes ≡ take i routes ++ route ∷ [] = grind (arith, common_steps) in
    rw (taken, same) (one_more (take i routes) addresses route address are is)
