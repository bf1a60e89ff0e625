-- The clause on responses, where each connection carries one exchange: what is on offer for a stream is what came of the connection that
-- was opened for it.
use Rattle.std.specs.Prelude.{◌≡◌, ℕ, true, false, ◌⊎◌, List, ◌++◌, Some, None}
use Rattle.model.specs.Tables.{Table}
use Rattle.model.specs.Tapes.{Entry, sent}
use Rattle.model.specs.Decoding.{begun, Decodes}
use Rattle.model.specs.Openings.{Opened, opens}
use Rattle.model.specs.Deliveries.{Delivery, nothing, ReadsAs, IsPartOf}
use Rattle.model.specs.Available.{items_on, are_decoded, IsIn, IsShown}
use Rattle.model.specs.Known.{Known}
use Rattle.model.specs.Causes.{Cause, reply}
use Rattle.model.specs.Offers.{is_to_head, HasNoReply}
use Rattle.model.specs.ResponseClause.{EachKeeps, AreTogether}
use Rattle.one_exchange.specs.Connections.{heard, has_ended}
use Rattle.one_exchange.specs.Courses.{course_once, items_once}

-- the connection that was opened for the stream
pub record IsGivenOnce (t : List Entry) (stream : ℕ) (o : Opened) : Type 0 where
  pub is_opened : IsIn o (opens t)
  pub is_given : o.stream ≡ stream

-- The gateway answers the stream itself: a cause came before the final head of any response was out.
pub record IsRepliedOnce (known : Known) (t : List Entry) (stream : ℕ) (delivery : Delivery) : Type 0 where
  pub cause : Cause
  pub has_cause : (course_once known stream t).cause ≡ Some cause
  pub head_not_out : (course_once known stream t).head_out ≡ false
  pub says : delivery ≡ reply (course_once known stream t).heads_out cause

-- What the stream's connection has answered so far: all of a whole response, and of any other what may be passed on of it.
pub record IsPassedOnOnce (known : Known) (t : List Entry) (stream : ℕ) (delivery : Delivery) : Type 0 where
  pub no_reply : HasNoReply (course_once known stream t)
  pub o : Opened
  pub given : IsGivenOnce t stream o
  pub shows : IsShown known.setup.passing (heard o.k t) (has_ended o.k t) (is_to_head (items_once known stream t)) delivery

-- This is on offer for the stream.
abbrev pub IsOfferedOnce : Known → List Entry → ℕ → Delivery → Type 0
IsOfferedOnce known t stream delivery = IsRepliedOnce known t stream delivery ⊎ IsPassedOnOnce known t stream delivery

-- What has come on a stream is a front of what was on offer for it at a place of the tape, behind which nothing more came on it.
pub record WasOfferedOnce (known : Known) (t : List Entry) (stream : ℕ) (delivery : Delivery) : Type 0 where
  pub later : List Entry
  pub earlier : List Entry
  pub is : t ≡ later ++ earlier
  pub no_more : items_on stream (sent t) ≡ items_on stream (sent earlier)
  pub source : Delivery
  pub offered : IsOfferedOnce known earlier stream source
  pub part : IsPartOf delivery source

-- What the client reads on a stream is nothing, or was on offer for it.
pub record IsDeliveredOnce (known : Known) (t : List Entry) (stream : ℕ) : Type 0 where
  pub delivery : Delivery
  pub reads : ReadsAs (items_on stream (sent t)) delivery
  pub offered : (delivery ≡ nothing) ⊎ WasOfferedOnce known t stream delivery

-- The clause: the client reads each header block within its limits, and on each stream what was on offer for it.
pub record ResponsesHoldOnce (known : Known) (t : List Entry) : Type 0 where
  pub table : Table
  pub decodes : Decodes (sent t) table
  pub decoded : are_decoded (sent t) ≡ true
  pub together : AreTogether (sent t)
  pub none_begun : begun (sent t) ≡ None
  pub limits : EachKeeps t
  pub delivered : (stream : ℕ) → IsDeliveredOnce known t stream
