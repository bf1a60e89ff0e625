-- How the streams that are kept change.
use Rattle.std.specs.Prelude.{◌≡◌, ℕ, List, Some}
use Rattle.model.specs.Messages.{Field}
use Rattle.model.specs.ResponseHeads.{Head}
use Rattle.theory_responses.specs.Outbox.{Outbox, Part, part_of}
use Rattle.theory_responses.specs.Outbox.Part.{Trailing}
use Rattle.theory_responses.specs.State.{Kept, State, find, change, gone}
use Rattle.h1_reader.specs.HeadSizes.{CanTrail}
use Rattle.send_buffer.specs.Views.{IsHead}
use Rattle.upstream_response.specs.Waiting.{Answer}
use Rattle.upstream_response.specs.Hearing.{IsHeard, IsEnded}
use Rattle.upstream_response.specs.declared.answer.Heard.{Heard}
use Rattle.upstream_response.specs.declared.answer.AnswerEnd.{AnswerEnd}
use Rattle.send_queue.specs.Asked.{part_for}

-- the stream with this outbox
abbrev pub with_box : Outbox → Kept → Kept
with_box box k = record { id = k.id; box = box; cut = k.cut }

-- the state where one stream has this outbox
abbrev pub refilled : ℕ → Outbox → State → State
refilled id box s = record { kept = change id (with_box box) s.kept; last = s.last }

-- Octets of a stream's upstream come to this, by its outbox before and behind them; no other stream changes.
pub record IsHeardFor (old : State) (id : ℕ) (answer : Answer) (octets : List ℕ) (heard : Heard) (answer' : Answer) (new : State) : Type 0 where
  pub stream : Kept
  pub found : find id old.kept ≡ Some stream
  pub box : Outbox
  pub hears : IsHeard answer octets stream.box heard answer' box
  pub is : new ≡ refilled id box old

-- So does the end of its connection.
pub record IsEndedFor (old : State) (id : ℕ) (answer : Answer) (ended : AnswerEnd) (new : State) : Type 0 where
  pub stream : Kept
  pub found : find id old.kept ≡ Some stream
  pub box : Outbox
  pub ends : IsEnded answer stream.box ended box
  pub is : new ≡ refilled id box old

-- The head is what goes next on a stream, and it went.
pub record IsHeadTaken (old : Kept) (head : Head) (new : Kept) : Type 0 where
  pub part : Part
  pub next : (most : ℕ) → part_of most old.box ≡ Some part
  pub is_head : IsHead head part
  pub is : new ≡ gone part old

-- What goes next on it, where so many octets may, went.
pub record AreOctetsTaken (old : Kept) (most : ℕ) (new : Kept) : Type 0 where
  pub part : Part
  pub next : part_of most old.box ≡ Some part
  pub is : new ≡ gone part old

-- The trailers are what goes next on it, and they went.
pub record AreTrailersTaken (old : Kept) (trailers : List Field) (new : Kept) : Type 0 where
  pub next : (most : ℕ) → part_of most old.box ≡ Some (Trailing trailers)
  pub can_trail : CanTrail trailers
  pub is : new ≡ gone (Trailing trailers) old

-- the state where the next part of a stream went, which had its turn with it
abbrev pub behind_turn : ℕ → Part → State → State
behind_turn id part s = record { kept = change id (gone part) s.kept; last = id }

-- The head is what goes next on this stream, and it went.
pub record IsHeadGone (old : State) (id : ℕ) (head : Head) (new : State) : Type 0 where
  pub part : Part
  pub next : (most : ℕ) → part_for most id old.kept ≡ Some part
  pub is_head : IsHead head part
  pub is : new ≡ behind_turn id part old

-- What goes next on this stream, where so many octets may, went.
pub record AreOctetsGone (old : State) (id most : ℕ) (new : State) : Type 0 where
  pub part : Part
  pub next : part_for most id old.kept ≡ Some part
  pub is : new ≡ behind_turn id part old

-- The trailers are what goes next on this stream, and they went.
pub record AreTrailersGone (old : State) (id : ℕ) (trailers : List Field) (new : State) : Type 0 where
  pub next : (most : ℕ) → part_for most id old.kept ≡ Some (Trailing trailers)
  pub can_trail : CanTrail trailers
  pub is : new ≡ behind_turn id (Trailing trailers) old
