-- What upstreams answered so far, and what of it may be passed on.
use Rattle.std.specs.Prelude.{◌≡◌, ℕ, Bool, true, false, ◌&&◌, ◌==◌, ◌⊎◌, if◌then◌else◌, List, [], ◌∷◌, ◌++◌, codes, bytes_eq, Option, Some, None}
use Rattle.model.specs.Messages.{Field, Item}
use Rattle.model.specs.Http2.{method_of}
use Rattle.model.specs.ResponseHeads.{Head}
use Rattle.model.specs.Responses.{Response, H1Response, IsComplete, Seen}
use Rattle.model.specs.Logs.Event.{Up, UpEnd}
use Rattle.model.specs.Setup.{Passing}
use Rattle.model.specs.Setup.Passing.{Whole, Streaming}
use Rattle.model.specs.Tapes.{Note, Noted, Entry}
use Rattle.model.specs.Tapes.Note.{NoBlock, Fields, Undecodable, Unread}
use Rattle.model.specs.Tapes.Entry.{Happened}
use Rattle.model.specs.Decoding.{completed}
use Rattle.model.specs.Streams.{frame_items}
use Rattle.model.specs.Openings.{Opened, exchanges, given, is_of}
use Rattle.model.specs.Deliveries.{Delivery}

-- All octets that came of an exchange: what came of its connection while that was given to its stream.
abbrev pub heard_by : Opened → List Entry → List ℕ
heard_by o [] = []
heard_by o (Happened (Up k piece) ∷ t) = if is_of o k (given k (exchanges t)) then heard_by o t ++ piece else heard_by o t
heard_by o (_ ∷ t) = heard_by o t

-- whether its upstream ended the connection then
abbrev pub ended_by : Opened → List Entry → Bool
ended_by o [] = false
ended_by o (Happened (UpEnd k) ∷ t) = if is_of o k (given k (exchanges t)) then true else ended_by o t
ended_by o (_ ∷ t) = ended_by o t

-- The items that frames to the client bring a stream, the oldest first; the frames stand with the newest first.
abbrev pub items_on : ℕ → List Noted → List Item
items_on stream [] = []
items_on stream (noted ∷ before) =
    items_on stream before ++ (if noted.frame.id == stream then frame_items (completed before noted.frame) noted else [])

-- A request with the method HEAD, whose response has no body (RFC 9110, section 9.3.2).
abbrev pub asks_for_head : List Field → Bool
asks_for_head head = bytes_eq (method_of head) (codes "HEAD")

abbrev pub IsIn : Opened → List Opened → Type 0
IsIn o [] = ⊥
IsIn o (p ∷ os) = (o ≡ p) ⊎ IsIn o os

-- The connection's octets, with its end if it ended, are a whole response; all of it is available.
pub record IsAnswered (text : List ℕ) (ended to_head : Bool) (delivery : Delivery) : Type 0 where
  pub response : Response
  pub is_whole : H1Response text ended to_head response
  pub says : delivery ≡ record { interims = response.interims; head = Some response.head; body = response.body; ends = Some response.trailers }

-- What is available of a response that isn't whole: where responses are passed on whole, the interim heads; else the final
-- head too, and the octets of the body. Trailers are available with the whole alone.
abbrev pub shown : Passing → List Head → Option Head → List ℕ → Delivery
shown Whole interims head octets = record { interims = interims; head = None; body = []; ends = None }
shown Streaming interims head octets = record { interims = interims; head = head; body = octets; ends = None }

-- The connection's octets are no whole response, and this of one stands in them.
pub record IsBegun (passing : Passing) (text : List ℕ) (ended to_head : Bool) (delivery : Delivery) : Type 0 where
  pub interims : List Head
  pub head : Option Head
  pub octets : List ℕ
  pub not_whole : IsComplete text ended to_head → ⊥
  pub seen : Seen text to_head interims head octets
  pub says : delivery ≡ shown passing interims head octets

-- This is shown of what an upstream answered: all of a whole response, and of any other what may be passed on of it.
abbrev pub IsShown : Passing → List ℕ → Bool → Bool → Delivery → Type 0
IsShown passing text ended to_head delivery = IsAnswered text ended to_head delivery ⊎ IsBegun passing text ended to_head delivery

-- the block that a frame completes, if it does, was read
abbrev pub is_decoded : Note → Bool
is_decoded NoBlock = true
is_decoded (Fields fields) = true
is_decoded Undecodable = false
is_decoded Unread = false

abbrev pub are_decoded : List Noted → Bool
are_decoded [] = true
are_decoded (noted ∷ before) = is_decoded noted.note && are_decoded before
