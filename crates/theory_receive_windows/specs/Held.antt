-- What is held of a response is what its stream's outbox has of the body, where frames go without padding.
use Rattle.std.specs.Prelude.{◌≡◌, ℕ, List, [], ◌∷◌, length}
use Rattle.model.specs.Frames.{data_kind, content}
use Rattle.model.specs.Setup.Passing.{Streaming}
use Rattle.model.specs.Tapes.{Noted, Entry, sent}
use Rattle.model.specs.Openings.{exchanges, exchange_on, given}
use Rattle.model.specs.Deliveries.{Delivery, ReadsAs}
use Rattle.model.specs.Available.{heard_by, ended_by, items_on, IsBegun}
use Rattle.model.specs.Known.{Known}
use Rattle.model.specs.Idle.{is_asked_for_head}
use Rattle.theory_responses.specs.Outbox.{Outbox, offered_by, Fits}
use Rattle.theory_responses.specs.Outbox.Outbox.{Before, Behind, Over}

-- the octets of the body that are on offer and weren't sent
abbrev pub body_in : Outbox → List ℕ
body_in (Before interims head body whole) = body
body_in (Behind body whole) = body
body_in Over = []

-- DATA goes without padding.
abbrev pub AreUnpadded : List Noted → Type 0
AreUnpadded [] = Unit {0}
AreUnpadded (noted ∷ before) = (noted.frame.kind ≡ data_kind → length (content noted.frame) ≡ length noted.frame.payload) × AreUnpadded before

-- The stream that the connection was given to last has this outbox: a response that isn't whole is on offer, and behind what was read stands
-- what the outbox has.
pub record HasOutbox (known : Known) (t : List Entry) (k : ℕ) (box : Outbox) : Type 0 where
  pub read : Delivery
  pub reads : ReadsAs (items_on (given k (exchanges t)) (sent t)) read
  pub fits : Fits read box
  pub begun : let o = exchange_on k t in IsBegun Streaming (heard_by o t) (ended_by o t) (is_asked_for_head known o t) (offered_by read box)
