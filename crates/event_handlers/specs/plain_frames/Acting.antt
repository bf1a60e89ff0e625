-- What is done by the judgement's answer, from what is kept behind the judgement.
use Rattle.std.specs.Prelude.{◌≡◌, ℕ, Bool, true, false, not, ◌&&◌, List, []}
use Rattle.model.specs.Frames.{enhance_your_calm}
use Rattle.model.specs.SettingValues.{Setting, smallest_value, last_value, values_of, header_table_size}
use Rattle.model.specs.Causes.{Cause}
use Rattle.theory_errors.specs.Rows.{Row, find}
use Rattle.theory_errors.specs.Rows.Slot.{Over}
use Rattle.theory_responses.specs.State.{change, answered}
use Rattle.theory_requests.specs.Lines.{without}
use Rattle.theory_requests.specs.State.{Due, id_of, held_of}
use Rattle.theory_requests.specs.State.Due.{Nothing}
use Rattle.event_handlers.specs.Forgetting.{forgotten}
use Rattle.settings.specs.declared.Change.{Change}
use Rattle.streams.specs.Asked.{is_active, changed}
use Rattle.connection_state.specs.declared.answers.FrameError.TheVariants as fault
use Rattle.connection_state.specs.declared.answers.Judged.{Judged}
use Rattle.connection_state.specs.declared.answers.Judged.TheVariants as judged
use Rattle.upstream_connections.specs.Connections.{lives}
use Rattle.upstream_connections.specs.Requests.{due_by, MayTakeOf, Takes}
use Rattle.refinement.specs.View.{View, waiting_for}
use Rattle.event_handlers.specs.plain_frames.Kept.{limited}
use Rattle.event_handlers.specs.declared.plain_frames.taking.Owed.{Owed}
use Rattle.event_handlers.specs.declared.plain_frames.taking.Owed.TheVariants as owed
use Rattle.event_handlers.specs.declared.plain_frames.taking.TakenFrame.{TakenFrame}
use Rattle.event_handlers.specs.declared.plain_frames.taking.TakenFrame.TheVariants as taken

-- items of a stream's request may come yet
abbrev pub goes_on : List Row → ℕ → Bool
goes_on rows id = is_active rows id && not (find rows id).outline.over

-- It ends with this code.
abbrev pub Ends : ℕ → TakenFrame → Type 0
Ends code (taken.Fatal told) = told ≡ code
Ends code (taken.Goes due owed dropped) = ⊥

-- It goes on: this is due, this is owed, and so many octets that waited of the stream's DATA go back.
abbrev pub Goes : Due → Owed → ℕ → TakenFrame → Type 0
Goes due owed back (taken.Fatal code) = ⊥
Goes due owed back (taken.Goes answer what dropped) = (due_by answer ≡ due) × (what ≡ owed) × (dropped ≡ back)

-- Nothing is done but that this is owed.
pub record IsLeft (owed : Owed) (old : View) (answer : TakenFrame) (new : View) : Type 0 where
  pub goes : Goes Nothing owed 0 answer
  pub kept : new ≡ old

-- Nothing is kept any more of a stream that is over.
pub record IsForgotten (owed : Owed) (id : ℕ) (old : View) (answer : TakenFrame) (new : View) : Type 0 where
  pub goes : Goes Nothing owed (waiting_for id old) answer
  pub kept : new ≡ forgotten id old

-- Settings were noted, and are to be acknowledged.
abbrev pub IsSet : Change → View → TakenFrame → View → Type 0
IsSet change old answer new =
    (settings : List Setting) → change.smallest ≡ smallest_value header_table_size settings → change.last ≡ last_value header_table_size settings
    → IsLeft owed.SettingsAck (record old { encoding = limited (values_of header_table_size settings) old.encoding }) answer new

-- Octets of a request's body were taken: by its way they wait, go out, or are dropped, and what is due for them is the answer.
pub record IsContent (ends : Bool) (id : ℕ) (octets : List ℕ) (old : View) (answer : TakenFrame) (new : View) : Type 0 where
  pub due : Due
  pub goes : Goes due owed.Nothing 0 answer
  pub takes : Takes (lives old.upstreams.live) id octets [] ends old.upstreams.held (held_of id old.upstreams.held) due new.upstreams.held
  pub kept : new ≡ record old { upstreams = record old.upstreams { held = new.upstreams.held } }

-- Where items may come yet they did; else nothing is done.
abbrev pub IsContentIf : Bool → Bool → ℕ → List ℕ → View → TakenFrame → View → Type 0
IsContentIf true ends id octets old answer new = IsContent ends id octets old answer new
IsContentIf false ends id octets old answer new = IsLeft owed.Nothing old answer new

-- The gateway replies itself: the stream is to be reset where a final head is out, and else the reply is on offer and nothing is held of its request.
pub record IsOffered (id : ℕ) (old : View) (answer : TakenFrame) (new : View) : Type 0 where
  pub goes : Goes Nothing owed.Nothing 0 answer
  pub kept : new ≡ record old {
    offers = record old.offers { kept = change id (answered Cause.LargeBody) old.offers.kept };
    upstreams = record old.upstreams { held = without id_of id old.upstreams.held };
  }

abbrev pub IsRepliedBy : Bool → ℕ → View → TakenFrame → View → Type 0
IsRepliedBy true id old answer new = IsForgotten (owed.Reset enhance_your_calm) id
    (record old { inbound = record old.inbound { rows = changed id (Over true) old.inbound.rows } }) answer new
IsRepliedBy false id old answer new = IsOffered id old answer new

-- All that is done by an answer, where items of the request may come yet or may not.
abbrev pub IsActed : Bool → ℕ → Judged → View → TakenFrame → View → Type 0
IsActed on id (judged.Failed (fault.Connection code)) old answer new = Ends code answer × (new ≡ old)
IsActed on id (judged.Failed (fault.Stream code)) old answer new = IsForgotten (owed.Reset code) id old answer new
IsActed on id (judged.Settings change) old answer new = IsSet change old answer new
IsActed on id (judged.Ping octets) old answer new = IsLeft owed.PingAck old answer new
IsActed on id judged.Reset old answer new = IsForgotten owed.Nothing id old answer new
IsActed on id (judged.Content octets ends) old answer new = IsContentIf on ends id octets.now old answer new
IsActed on id judged.LargeBody old answer new = IsRepliedBy (find old.inbound.rows id).head_out id old answer new
IsActed on id other old answer new = IsLeft owed.Nothing old answer new

-- What has to be so: octets of a body may come of what is held of its request, and the gateway replies to an active stream alone.
abbrev pub MayAct : Bool → ℕ → Judged → View → Type 0
MayAct on id (judged.Content octets ends) old = on ≡ true → MayTakeOf octets.now ends (held_of id old.upstreams.held)
MayAct on id judged.LargeBody old = is_active old.inbound.rows id ≡ true
MayAct on id other old = Unit {0}
