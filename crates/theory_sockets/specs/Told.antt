-- What a log tells of sockets: which octets came of each, and which were put out to it, in which order.
use Rattle.std.specs.Prelude.{◌+◌, ◌==◌, ◌||◌, ℕ, Bool, false, true, if◌then◌else◌, List, [], ◌∷◌, ◌++◌, map, reverse, Option, None, Some, option_map}
use Rattle.model.specs.Logs.{Event, Output, Step}
use Rattle.model.specs.Logs.Event.{Client, ClientEnd, ClientTook, Up, UpEnd, UpTook}
use Rattle.model.specs.Logs.Output.{ToClient, Does}
use Rattle.model.specs.Logs.Act.{Open, ToUp}

-- What happened, or was put out.
pub data Item : Type 0 where
  Came : Event → Item
  Put : Output → Item

-- all that steps tell, the newest first, as the steps stand
abbrev pub items : List Step → List Item
items [] = []
items (step ∷ log) = reverse (map Put step.outputs) ++ Came step.event ∷ items log

-- What is told of a socket: the octets that came of it, in order, and whether its end did; those that were put out to it, in order, and how many it took.
pub record Told : Type 0 where
  pub came : List ℕ
  pub ended : Bool
  pub put : List ℕ
  pub took : ℕ

abbrev pub nothing : Told
nothing = record { came = []; ended = false; put = []; took = 0 }

-- and more behind it
abbrev pub with_more : Told → Told → Told
with_more told more = record {
  came = told.came ++ more.came;
  ended = told.ended || more.ended;
  put = told.put ++ more.put;
  took = told.took + more.took;
}

-- ---- the client's socket

-- what is told of it by one item
abbrev pub of_client : Item → Told
of_client (Came (Client octets)) = record nothing { came = octets }
of_client (Came ClientEnd) = record nothing { ended = true }
of_client (Came (ClientTook count)) = record nothing { took = count }
of_client (Put (ToClient octets)) = record nothing { put = octets }
of_client item = nothing

-- and by all
abbrev pub client_told : List Item → Told
client_told [] = nothing
client_told (item ∷ earlier) = with_more (client_told earlier) (of_client item)

-- ---- connections to upstreams

-- what is told of one, if it has this number
abbrev pub if_same : ℕ → ℕ → Told → Told
if_same j k told = if j == k then told else nothing

abbrev pub of_connection : ℕ → Item → Told
of_connection k (Came (Up j octets)) = if_same j k (record nothing { came = octets })
of_connection k (Came (UpEnd j)) = if_same j k (record nothing { ended = true })
of_connection k (Came (UpTook j count)) = if_same j k (record nothing { took = count })
of_connection k (Put (Does (ToUp j octets))) = if_same j k (record nothing { put = octets })
of_connection k item = nothing

-- the route for which the item opens a connection with this number, if it does
abbrev pub opened_for : ℕ → Item → Option ℕ
opened_for k (Put (Does (Open j route))) = if j == k then Some route else None
opened_for k item = None

-- A connection: the route for which it was opened, and what is told of it since.
pub record Connection : Type 0 where
  pub route : ℕ
  pub told : Told

-- it is opened anew, or more is told of it, if it was opened
abbrev pub goes_on : Option ℕ → Told → Option Connection → Option Connection
goes_on (Some route) more before = Some (record { route = route; told = nothing })
goes_on None more before = option_map (λ (c : Connection). record { route = c.route; told = with_more c.told more }) before

-- the connection that was opened last under this number, if one was
abbrev pub connection : ℕ → List Item → Option Connection
connection k [] = None
connection k (item ∷ earlier) = goes_on (opened_for k item) (of_connection k item) (connection k earlier)
