-- Octets that came on a connection.
use Rattle.std.proofs.Common.{◌≡◌, ℕ, List, [], ◌∷◌, ◌++◌, Option, Some, None, refl}
use Rattle.std.specs.Ordering.{nat_cmp}
use Rattle.std.specs.BTreeMap.{BTreeMap, get, Updates}
use Rattle.exchange_log.specs.Exchanges.{IsHeard, IsHeardBy, HeardAt}
use Rattle.exchange_log.specs.declared.exchange.Exchange.{Exchange}
use Rattle.exchange_log.specs.declared.exchanges.LoggedConnection.{LoggedConnection}
use Rattle.exchange_log.specs.declared.exchanges.Over.{Over}

-- its exchange goes on with them
pub goes_on : (route : ℕ) (x : Option Exchange) (e e' : Exchange) (octets : List ℕ) → x ≡ Some e → IsHeard e octets None e' → IsHeardBy route x octets None (Some e')
goes_on route x e e' octets same heard = rw same (e', refl, heard)

-- its exchange is over with them
pub is_over : (k : ℕ) (octets : List ℕ) (old new : BTreeMap ℕ LoggedConnection) (overs overs' : List Over) (c c' : LoggedConnection) (over : Over) → get nat_cmp old k ≡ Some c
    → Updates nat_cmp old new k (Some c') → overs' ≡ overs ++ over ∷ [] → c'.route ≡ c.route → IsHeardBy c.route c.exchange octets (Some over) c'.exchange → HeardAt k octets old new overs overs'
is_over k octets old new overs overs' c c' over found updates more route heard = rw found (c', Some over, updates, more, route, heard)
