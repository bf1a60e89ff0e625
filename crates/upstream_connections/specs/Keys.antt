-- Idle connections by their keys: one route behind the other, and those of a route by number.
use Rattle.std.specs.Prelude.{ℕ, nat_lt, suc, ◌+◌, ◌-◌, ◌*◌, ◌^◌, Bool, not, ◌&&◌, if◌then◌else◌, List, [], ◌∷◌, Option, Some, None}
use Rattle.theory_requests.specs.Lines.{Line, is_idle}
use Rattle.upstream_connections.specs.Connections.{Connection, lives, among}

-- the key of a connection, by its route and its number, of which there are 2 ^ 32
abbrev pub key : ℕ → ℕ → ℕ
key route k = route * 2 ^ 32 + k

-- whether a key is one of the route: not less than its first, and less than the first of the next
abbrev pub is_key_of : ℕ → ℕ → Bool
is_key_of route x = not (nat_lt x (key route 0)) && nat_lt x (key (suc route) 0)

-- the number of the first that is
abbrev pub least_key : ℕ → List ℕ → Option ℕ
least_key route [] = None
least_key route (x ∷ xs) = if is_key_of route x then Some (x - key route 0) else least_key route xs

-- the keys of those that are idle
abbrev pub keys_of : List Line → List ℕ
keys_of [] = []
keys_of (l ∷ ls) = if is_idle l.answer then key l.route l.k ∷ keys_of ls else keys_of ls

-- numbers by rising number: each stands among the others
abbrev pub rising : List ℕ → List ℕ
rising [] = []
rising (x ∷ xs) = among x (rising xs)

-- the keys of those that are idle, by rising key
abbrev pub idle_keys : List Connection → List ℕ
idle_keys cs = rising (keys_of (lives cs))

-- the route of a connection that may be open, where it is, and is idle
abbrev pub idle_route : Option Connection → Option ℕ
idle_route None = None
idle_route (Some c) = if is_idle c.live.answer then Some c.live.route else None
