-- A worked log: a request on a connection, its answer and its end, and a second request on another connection under the same number.
use Rattle.std.proofs.Common.{◌≡◌, List, [], ◌∷◌, refl}
use Rattle.std.specs.Prelude.{true, false, None, Some, codes}
use Rattle.model.specs.Logs.{Step}
use Rattle.model.specs.Logs.Event.{Client, ClientTook, Up, UpEnd}
use Rattle.model.specs.Logs.Output.{ToClient, Does}
use Rattle.model.specs.Logs.Act.{Open, ToUp, Close}
use Rattle.theory_sockets.specs.Told.{Item, items, client_told, connection}
use Rattle.theory_sockets.specs.Told.Item.{Came, Put}

asked : Step
asked = record { event = Client (codes "ask"); outputs = Does (Open 1 0) ∷ Does (ToUp 1 (codes "GET")) ∷ Does (ToUp 1 (codes " /")) ∷ [] }

answered : Step
answered = record { event = Up 1 (codes "200"); outputs = ToClient (codes "ok") ∷ [] }

ended : Step
ended = record { event = UpEnd 1; outputs = Does (Close 1) ∷ [] }

asked_again : Step
asked_again = record { event = Client (codes "in"); outputs = Does (Open 1 3) ∷ Does (ToUp 1 (codes "PUT")) ∷ [] }

taken : Step
taken = record { event = ClientTook 2; outputs = [] }

-- They stand with the newest first.
log : List Step
log = taken ∷ asked_again ∷ ended ∷ answered ∷ asked ∷ []

in_order : items (answered ∷ asked ∷ []) ≡ Put (ToClient (codes "ok")) ∷ Came (Up 1 (codes "200")) ∷ Put (Does (ToUp 1 (codes " /"))) ∷ Put (Does (ToUp 1 (codes "GET"))) ∷ Put (Does (Open 1 0)) ∷ Came (Client (codes "ask")) ∷ []
unfolding answered asked
in_order = refl

of_the_client : client_told (items log) ≡ (record { came = codes "askin"; ended = false; put = codes "ok"; took = 2 })
unfolding log taken asked_again ended answered asked
of_the_client = refl

-- While it is open.
of_the_first : connection 1 (items (answered ∷ asked ∷ [])) ≡ Some (record { route = 0; told = record { came = codes "200"; ended = false; put = codes "GET /"; took = 0 } })
unfolding answered asked
of_the_first = refl

at_its_end : connection 1 (items (ended ∷ answered ∷ asked ∷ [])) ≡ Some (record { route = 0; told = record { came = codes "200"; ended = true; put = codes "GET /"; took = 0 } })
unfolding ended answered asked
at_its_end = refl

-- The next one under its number begins anew.
of_the_next : connection 1 (items log) ≡ Some (record { route = 3; told = record { came = []; ended = false; put = codes "PUT"; took = 0 } })
unfolding log taken asked_again ended answered asked
of_the_next = refl

of_none : connection 2 (items log) ≡ None
unfolding log taken asked_again ended answered asked
of_none = refl
