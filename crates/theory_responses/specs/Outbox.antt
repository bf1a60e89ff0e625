-- The outbox of a stream: what is on offer for it and wasn't sent yet.
use Rattle.std.specs.Prelude.{◌≡◌, ◌≢◌, ℕ, ◌+◌, ◌<◌, ◌≤◌, Bool, true, false, ◌&&◌, List, [], ◌∷◌, ◌++◌, length, take, drop, Option, Some, None, is_some}
use Rattle.model.specs.Octets.{is_empty}
use Rattle.model.specs.Messages.{Field, Item}
use Rattle.model.specs.Messages.Item.{Block, Content}
use Rattle.model.specs.Http2.{pseudo_fields}
use Rattle.model.specs.ResponseHeads.{Head}
use Rattle.model.specs.Deliveries.{End, Delivery, IsSection}
use Rattle.model.specs.Causes.{Cause, reply_head}

-- the trailers of a response that is whole
abbrev pub trailers_at : End → List Field
trailers_at None = []
trailers_at (Some trailers) = trailers

-- the response is whole, and has no trailers
abbrev pub is_plain : End → Bool
is_plain None = false
is_plain (Some []) = true
is_plain (Some (field ∷ fields)) = false

-- the end without trailers, or none yet
abbrev pub end_if : Bool → End
end_if true = Some []
end_if false = None

-- the first end that is there
abbrev pub first_end : End → End → End
first_end None new = new
first_end (Some trailers) new = Some trailers

-- A stream's outbox, by how far its response was sent.
pub data Outbox : Type 0 where
  -- no final head was sent: interim heads, the final head if it is on offer, octets behind it, how it ends if it is whole with them
  Before : (interims : List Head) → (head : Option Head) → (body : List ℕ) → (whole : End) → Outbox
  -- the final head was sent: octets behind what was sent, how the response ends if it is whole with them
  Behind : (body : List ℕ) → (whole : End) → Outbox
  -- all was sent, with the end
  Over : Outbox

-- nothing is on offer yet
abbrev pub silent : Outbox
silent = Before [] None [] None

-- the gateway's own reply
abbrev pub replied : Cause → Outbox
replied cause = Before [] (Some (reply_head cause)) [] (Some [])

-- what is on offer: what was read, and the outbox behind it
abbrev pub offered_by : Delivery → Outbox → Delivery
offered_by read (Before interims head body whole) = record { interims = read.interims ++ interims; head = head; body = body; ends = whole }
offered_by read (Behind body whole) = record { interims = read.interims; head = read.head; body = read.body ++ body; ends = whole }
offered_by read Over = read

-- The outbox knows whether the final head was read, and whether the end was.
abbrev pub Fits : Delivery → Outbox → Type 0
Fits read (Before interims head body whole) = read.head ≡ None
Fits read (Behind body whole) = (is_some read.head ≡ true) × (read.ends ≡ None)
Fits read Over = (is_some read.head ≡ true) × (is_some read.ends ≡ true)

-- ---- the next part

-- What goes out at once: an interim head, a final head, octets of the body, or trailers; the middle two with the end or without, the last
-- with it.
pub data Part : Type 0 where
  Early : (head : Head) → Part
  Final : (head : Head) → (ends : Bool) → Part
  Octets : (octets : List ℕ) → (ends : Bool) → Part
  Trailing : (fields : List Field) → Part

-- the end goes with the last octets of a whole response without trailers
abbrev pub MayEnd : List ℕ → End → Bool → Type 0
MayEnd rest whole true = (rest ≡ []) × (whole ≡ Some [])
MayEnd rest whole false = Unit {0}

-- The part may go next.
abbrev pub IsNext : Outbox → Part → Type 0
IsNext (Before (first ∷ interims) head body whole) (Early sent) = sent ≡ first
IsNext (Before [] head body whole) (Final sent ends) = (head ≡ Some sent) × MayEnd body whole ends
IsNext (Behind body whole) (Octets octets ends) = (rest : List ℕ) × (body ≡ octets ++ rest) × MayEnd rest whole ends × (octets ≡ [] → ends ≡ true)
IsNext (Behind body whole) (Trailing fields) = (body ≡ []) × (whole ≡ Some fields) × (fields ≢ [])
IsNext _ _ = ⊥

-- what is left behind a head or octets
abbrev pub rest_of : List ℕ → End → Bool → Outbox
rest_of body whole true = Over
rest_of body whole false = Behind body whole

-- the outbox once the part is sent
abbrev pub left : Outbox → Part → Outbox
left (Before (first ∷ interims) head body whole) (Early sent) = Before interims head body whole
left (Before [] head body whole) (Final sent ends) = rest_of body whole ends
left (Behind body whole) (Octets octets ends) = rest_of (drop (length octets) body) whole ends
left (Behind body whole) (Trailing fields) = Over
left box _ = box

-- what was read, once the part is
abbrev pub read_more : Delivery → Part → Delivery
read_more read (Early head) = record { interims = read.interims ++ head ∷ []; head = read.head; body = read.body; ends = read.ends }
read_more read (Final head ends) = record { interims = read.interims; head = Some head; body = read.body; ends = end_if ends }
read_more read (Octets octets ends) = record { interims = read.interims; head = read.head; body = read.body ++ octets; ends = end_if ends }
read_more read (Trailing fields) = record { interims = read.interims; head = read.head; body = read.body; ends = Some fields }

-- The item that a frame brings the client is the part.
abbrev pub IsItemOf : Item → Part → Type 0
IsItemOf (Block fields ends) (Early head) = (ends ≡ false) × IsSection fields head × (head.status < 200)
IsItemOf (Block fields ends) (Final head last) = (ends ≡ last) × IsSection fields head × (200 ≤ head.status)
IsItemOf (Block fields ends) (Trailing trailers) = (ends ≡ true) × (fields ≡ trailers) × (pseudo_fields fields ≡ [])
IsItemOf (Content octets ends) (Octets some last) = (octets ≡ some) × (ends ≡ last)
IsItemOf _ _ = ⊥

-- something can go; octets only where the windows are open
abbrev pub can_go : Bool → Outbox → Bool
can_go windows (Before (first ∷ interims) head body whole) = true
can_go windows (Before [] (Some head) body whole) = true
can_go windows (Before [] None body whole) = false
can_go windows (Behind (octet ∷ octets) whole) = windows
can_go windows (Behind [] whole) = is_some whole
can_go windows Over = false

-- the part that goes next, where so many octets may: with the end where nothing is held behind it
abbrev pub part_of : ℕ → Outbox → Option Part
part_of most (Before (first ∷ interims) head body whole) = Some (Early first)
part_of most (Before [] (Some head) body whole) = Some (Final head (is_plain whole && is_empty body))
part_of most (Before [] None body whole) = None
part_of most (Behind (octet ∷ octets) whole) = Some (Octets (take most (octet ∷ octets)) (is_plain whole && is_empty (drop most (octet ∷ octets))))
part_of most (Behind [] (Some [])) = Some (Octets [] true)
part_of most (Behind [] (Some (field ∷ fields))) = Some (Trailing (field ∷ fields))
part_of most (Behind [] None) = None
part_of most Over = None

-- the octets of a part
abbrev pub octets_of : Part → List ℕ
octets_of (Octets octets ends) = octets
octets_of _ = []

-- how many parts can go at most, one octet at a time
abbrev pub weight : Outbox → ℕ
weight (Before interims head body whole) = length interims + length body + 3
weight (Behind body whole) = length body + 1
weight Over = 0

-- ---- more is on offer

-- What comes on offer at once is a delivery too: interim heads, the final head, octets of its body, the end, with trailers or without.

-- the first head that is there
abbrev pub first_head : Option Head → Option Head → Option Head
first_head None new = new
first_head (Some head) new = Some head

-- what is on offer with the news
abbrev pub with_news : Delivery → Delivery → Delivery
with_news d news = record {
  interims = d.interims ++ news.interims;
  head = first_head d.head news.head;
  body = d.body ++ news.body;
  ends = first_end d.ends news.ends;
}

-- the outbox with the news
abbrev pub grown : Outbox → Delivery → Outbox
grown (Before interims head body whole) news = Before (interims ++ news.interims) (first_head head news.head) (body ++ news.body) (first_end whole news.ends)
grown (Behind body whole) news = Behind (body ++ news.body) (first_end whole news.ends)
grown Over news = Over
