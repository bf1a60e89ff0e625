-- What is done by the judgement's answer to a frame with a fragment of a header block, from what is kept behind the judgement.
use Rattle.std.specs.Prelude.{◌≡◌, ◌+◌, ℕ, Bool, true, false, nat_lt, List, [], length, Option, Some, None}
use Rattle.model.specs.Limits.{most_untaken}
use Rattle.model.specs.Frames.{spell}
use Rattle.model.specs.Http2.{HasLength}
use Rattle.model.specs.Messages.{Field}
use Rattle.model.specs.Logs.{Output}
use Rattle.model.specs.Logs.Output.{ToClient}
use Rattle.model.specs.Tapes.{put}
use Rattle.model.specs.Causes as model
use Rattle.model.specs.ErrorClause.{rst_stream}
use Rattle.local_replies.specs.Views.{cause_of}
use Rattle.theory_errors.specs.Rows.{find}
use Rattle.theory_errors.specs.Rows.Slot.{Over}
use Rattle.theory_responses.specs.State.{change, answered}
use Rattle.request_rules.specs.Heads.{HeadParts}
use Rattle.theory_requests.specs.State.{Due, held_of}
use Rattle.theory_requests.specs.State.Due.{Nothing}
use Rattle.streams.specs.Asked.{is_active, changed}
use Rattle.connection_state.specs.declared.answers.FrameError.TheVariants as fault
use Rattle.connection_state.specs.declared.answers.BlockJudged.{BlockJudged}
use Rattle.connection_state.specs.declared.answers.BlockJudged.TheVariants as judged
use Rattle.upstream_connections.specs.Connections.{lives}
use Rattle.upstream_connections.specs.Kept as upstreams
use Rattle.upstream_connections.specs.Kept.{Begins}
use Rattle.upstream_connections.specs.Requests.{due_by, MayTakeOf, Takes}
use Rattle.refinement.specs.View.{View, waiting_for}
use Rattle.event_handlers.specs.Forgetting.{forgotten}
use Rattle.event_handlers.specs.Stopping.{reset_marked}
use Rattle.event_handlers.specs.block_frames.Following.{followed, dropped_by, with_goaway, put_goaway, IsCalmedBehind}
use Rattle.event_handlers.specs.declared.block_frames.outlet.Outlet.{Outlet}
use Rattle.event_handlers.specs.declared.block_frames.taking.BlockTaken.{BlockTaken}
use Rattle.event_handlers.specs.declared.block_frames.taking.BlockTaken.TheVariants as taken

-- It ends with this code.
abbrev pub Ends : ℕ → BlockTaken → Type 0
Ends code (taken.Fatal told) = told ≡ code
Ends code (taken.Goes due goaway dropped) = ⊥

-- It goes on: nothing is due, this GOAWAY is owed yet, and so many octets that waited of the stream's DATA go back.
abbrev pub Goes : Option ℕ → ℕ → BlockTaken → Type 0
Goes last back (taken.Fatal code) = ⊥
Goes last back (taken.Goes due goaway dropped) = (due_by due ≡ Nothing) × (goaway ≡ last) × (dropped ≡ back)

-- What is kept of the stream follows, and nothing else is done.
pub record IsFollowed (id : ℕ) (last : Option ℕ) (old : View) (outputs : List Output) (answer : BlockTaken) (new : View) (put_out : List Output) : Type 0 where
  pub goes : Goes last (dropped_by id old) answer
  pub kept : new ≡ followed id old
  pub puts : put_out ≡ outputs

-- The stream is reset, behind the GOAWAY, and nothing is kept of it any more.
pub record IsReset (id code : ℕ) (last : Option ℕ) (old : View) (outputs : List Output) (answer : BlockTaken) (new : View)
    (put_out : List Output) : Type 0 where
  pub goes : Goes None (waiting_for id old) answer
  pub kept : new ≡ record (forgotten id old) { untaken = (with_goaway last old).untaken + length (spell (rst_stream id code)) }
  pub puts : put_out ≡ put (put_goaway last outputs) (ToClient (spell (rst_stream id code)))
  pub few : nat_lt most_untaken (with_goaway last old).untaken ≡ false

-- The gateway's reply is on offer.
pub record IsOffered (id : ℕ) (cause : model.Cause) (last : Option ℕ) (old : View) (outputs : List Output) (answer : BlockTaken) (new : View)
    (put_out : List Output) : Type 0 where
  pub goes : Goes last (dropped_by id old) answer
  pub kept : new ≡ record (followed id old) { offers = record (followed id old).offers { kept = change id (answered cause) (followed id old).offers.kept } }
  pub puts : put_out ≡ outputs

-- The gateway replies itself, or resets the stream where a final head is out.
abbrev pub IsReplied : Bool → Option ℕ → ℕ → model.Cause → Option ℕ → View → List Output → BlockTaken → View → List Output → Type 0
IsReplied true (Some code) id cause last old outputs answer new put_out =
    IsReset id code last (record old { inbound = record old.inbound { rows = changed id (Over true) old.inbound.rows } }) outputs answer new put_out
IsReplied _ _ id cause last old outputs answer new put_out = IsOffered id cause last old outputs answer new put_out

-- what is answered of a request that begins, and goes out so, with this GOAWAY, and octets that go back
abbrev pub IsBegun : ℕ → ℕ → HeadParts → Bool → Outlet → Option ℕ → ℕ → upstreams.State → BlockTaken → upstreams.State → Type 0
IsBegun id route parts ended outlet last back old (taken.Fatal code) new = ⊥
IsBegun id route parts ended outlet last back old (taken.Goes due goaway dropped) new =
    Begins old id route outlet.keep parts ended outlet.at_once (due_by due) new × (goaway ≡ last) × (dropped ≡ back)

-- A request began.
pub record HasBegun (id route : ℕ) (parts : HeadParts) (outlet : Outlet) (last : Option ℕ) (old : View) (outputs : List Output) (answer : BlockTaken)
    (new : View) (put_out : List Output) : Type 0 where
  pub begun : IsBegun id route parts (find old.inbound.rows id).ended_by_client outlet last (dropped_by id old) (followed id old).upstreams answer new.upstreams
  pub kept : new ≡ record (followed id old) { upstreams = new.upstreams }
  pub puts : put_out ≡ outputs

-- this is due, with this GOAWAY, and nothing that waited goes back
abbrev pub GoesWith : Due → Option ℕ → BlockTaken → Type 0
GoesWith due last (taken.Fatal code) = ⊥
GoesWith due last (taken.Goes answer goaway dropped) = (due_by answer ≡ due) × (goaway ≡ last) × (dropped ≡ 0)

-- It ended with trailers, of which these are passed on.
pub record HasEnded (id : ℕ) (trailers : List Field) (last : Option ℕ) (old : View) (outputs : List Output) (answer : BlockTaken) (new : View)
    (put_out : List Output) : Type 0 where
  pub due : Due
  pub goes : GoesWith due last answer
  pub takes : Takes (lives old.upstreams.live) id [] trailers true old.upstreams.held (held_of id old.upstreams.held) due new.upstreams.held
  pub kept : new ≡ record old { upstreams = record old.upstreams { held = new.upstreams.held } }
  pub puts : put_out ≡ outputs

-- All that is done by an answer, with the GOAWAY that is owed.
abbrev pub IsActed : ℕ → Outlet → BlockJudged → Option ℕ → View → List Output → BlockTaken → View → List Output → Type 0
IsActed id outlet (judged.Failed (fault.Connection code)) last old outputs answer new put_out = Ends code answer × (new ≡ old) × (put_out ≡ outputs)
IsActed id outlet (judged.Failed (fault.Stream code)) last old outputs answer new put_out = IsReset id code last old outputs answer new put_out
IsActed id outlet (judged.Begins head route) last old outputs answer new put_out = HasBegun id route head outlet last old outputs answer new put_out
IsActed id outlet (judged.Answered cause) last old outputs answer new put_out =
    IsReplied (find old.inbound.rows id).head_out (model.reset_code (cause_of cause)) id (cause_of cause) last old outputs answer new put_out
IsActed id outlet (judged.Trailers trailers) last old outputs answer new put_out = HasEnded id trailers.items last old outputs answer new put_out
IsActed id outlet other last old outputs answer new put_out = IsFollowed id last old outputs answer new put_out

-- The stream would be reset, as a final head is out, and the connection was ended in place of one of the frames.
abbrev pub IsCutShort : Bool → Option ℕ → ℕ → Option ℕ → View → List Output → List Output → Type 0
IsCutShort true (Some code) id last old outputs put_out = IsCalmedBehind last (reset_marked id old) outputs put_out
IsCutShort _ _ id last old outputs put_out = ⊥

-- A frame beside responses is called for, and the connection was ended in its place.
abbrev pub IsStopped : ℕ → BlockJudged → Option ℕ → View → List Output → List Output → Type 0
IsStopped id (judged.Failed (fault.Stream code)) last old outputs put_out = IsCalmedBehind last old outputs put_out
IsStopped id (judged.Answered cause) last old outputs put_out =
    IsCutShort (find old.inbound.rows id).head_out (model.reset_code (cause_of cause)) id last old outputs put_out
IsStopped id other last old outputs put_out = ⊥

-- A request that begins is on an active stream, and declares no body where its head ends it.
pub record MayBegin (id : ℕ) (parts : HeadParts) (old : View) : Type 0 where
  pub active : is_active old.inbound.rows id ≡ true
  pub no_body : (find old.inbound.rows id).ended_by_client ≡ true → HasLength parts.length []

-- What has to be so beside.
abbrev pub MayAct : ℕ → BlockJudged → View → Type 0
MayAct id (judged.Begins head route) old = MayBegin id head old
MayAct id (judged.Answered cause) old = is_active old.inbound.rows id ≡ true
MayAct id (judged.Trailers trailers) old = MayTakeOf [] true (held_of id old.upstreams.held)
MayAct id other old = Unit {0}
