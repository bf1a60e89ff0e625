-- What a stream is to be sent: what its upstream answered so far, or the gateway's own reply.
use Rattle.std.specs.Prelude.{◌≡◌, ℕ, Bool, true, false, ◌⊎◌, List, ◌∷◌, ◌++◌, Some, None}
use Rattle.model.specs.Messages.{Item}
use Rattle.model.specs.Messages.Item.{Block}
use Rattle.model.specs.Tapes.{Entry, sent}
use Rattle.model.specs.Openings.{Opened, exchanges}
use Rattle.model.specs.Deliveries.{Delivery, nothing, ReadsAs, IsPartOf}
use Rattle.model.specs.Available.{heard_by, ended_by, items_on, asks_for_head, IsIn, IsShown}
use Rattle.model.specs.Known.{Known}
use Rattle.model.specs.Causes.{Cause, reply}
use Rattle.model.specs.Courses.{Course, course, items}

-- the request of some items has the method HEAD (RFC 9110, section 9.3.2)
abbrev pub is_to_head : List Item → Bool
is_to_head (Block fields ends ∷ items) = asks_for_head fields
is_to_head _ = false

-- an exchange of the stream
pub record IsGiven (t : List Entry) (stream : ℕ) (o : Opened) : Type 0 where
  pub is_opened : IsIn o (exchanges t)
  pub is_given : o.stream ≡ stream

-- The gateway answers the stream itself: a cause came before the final head of any response was out. Its reply stands behind
-- the interim heads that were out when the cause came, and behind no others.
pub record IsReplied (known : Known) (t : List Entry) (stream : ℕ) (delivery : Delivery) : Type 0 where
  pub cause : Cause
  pub has_cause : (course known stream t).cause ≡ Some cause
  pub head_not_out : (course known stream t).head_out ≡ false
  pub says : delivery ≡ reply (course known stream t).heads_out cause

-- the stream has no reply of the gateway's own
abbrev pub HasNoReply : Course → Type 0
HasNoReply course = (course.cause ≡ None) ⊎ (course.head_out ≡ true)

-- What the stream's connection has answered so far: all of a whole response, and of any other what may be passed on of it.
pub record IsPassedOn (known : Known) (t : List Entry) (stream : ℕ) (delivery : Delivery) : Type 0 where
  pub no_reply : HasNoReply (course known stream t)
  pub o : Opened
  pub given : IsGiven t stream o
  pub shows : IsShown known.setup.passing (heard_by o t) (ended_by o t) (is_to_head (items known stream t)) delivery

-- This is on offer for the stream.
abbrev pub IsOffered : Known → List Entry → ℕ → Delivery → Type 0
IsOffered known t stream delivery = IsReplied known t stream delivery ⊎ IsPassedOn known t stream delivery

-- What has come on a stream is a front of what was on offer for it at a place of the tape, behind which nothing more came on it.
pub record WasOffered (known : Known) (t : List Entry) (stream : ℕ) (delivery : Delivery) : Type 0 where
  pub later : List Entry
  pub earlier : List Entry
  pub is : t ≡ later ++ earlier
  pub no_more : items_on stream (sent t) ≡ items_on stream (sent earlier)
  pub source : Delivery
  pub offered : IsOffered known earlier stream source
  pub part : IsPartOf delivery source

-- What the client reads on a stream is nothing, or was on offer for it.
pub record IsDelivered (known : Known) (t : List Entry) (stream : ℕ) : Type 0 where
  pub delivery : Delivery
  pub reads : ReadsAs (items_on stream (sent t)) delivery
  pub offered : (delivery ≡ nothing) ⊎ WasOffered known t stream delivery
