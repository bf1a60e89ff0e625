-- What a gateway is set up with, and the route that a request takes.
use Rattle.std.specs.Prelude.{◌≡◌, ℕ, ◌+◌, ◌<◌, ◌⊎◌, Bool, List, [], slice_get, Some, codes}
use Rattle.model.specs.Limits.{first_window}
use Rattle.model.specs.Octets.{IsFront, lower}

-- A route to one upstream: the authority that it is for, empty where it is for any, and a front of the paths.
pub record Route : Type 0 where
  pub authority : List ℕ
  pub path : List ℕ

-- The names of how blocks are written, and of how bodies are passed on.
pub data Policy : Type 0 where
  Plain : Policy
  Indexing : Policy

pub data Passing : Type 0 where
  Whole : Passing
  Streaming : Passing

pub record Setup : Type 0 where
  pub routes : List Route
  pub policy : Policy
  pub passing : Passing
  pub max_body : ℕ
  pub max_response : ℕ
  -- upstream connections are kept for further requests
  pub keep : Bool
  -- the most that are idle then
  pub most_idle : ℕ
  -- by so many octets the windows in which the gateway receives are larger at first than 65,535 (RFC 9113, section 6.9.2)
  pub more_room : ℕ

-- the size with which these windows begin, of the connection and of each stream
abbrev pub own_window : Setup → ℕ
own_window setup = first_window + setup.more_room

-- The authority is the route's, in letters of either case (RFC 9110, section 4.2.3).
abbrev pub IsForAuthority : Route → List ℕ → Type 0
IsForAuthority route authority = (route.authority ≡ []) ⊎ (lower route.authority ≡ lower authority)

-- The path begins with the route's; the path of a request on the whole server goes with the route for all.
abbrev pub IsForPath : Route → List ℕ → Type 0
IsForPath route path = IsFront route.path path ⊎ ((path ≡ codes "*") × (route.path ≡ codes "/"))

abbrev pub Matches : Route → List ℕ → List ℕ → Type 0
Matches route authority path = IsForAuthority route authority × IsForPath route path

-- The route at a place matches, and none before it.
pub record IsFirstMatch (routes : List Route) (authority path : List ℕ) (place : ℕ) : Type 0 where
  pub route : Route
  pub found : slice_get routes place ≡ Some route
  pub matches : Matches route authority path
  pub none_before : (earlier : ℕ) → earlier < place → (other : Route) → slice_get routes earlier ≡ Some other → Matches other authority path → ⊥
