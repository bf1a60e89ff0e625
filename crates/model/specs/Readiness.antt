-- Which stream may be sent a frame of its response next: what it read so far is less than what is on offer for it, and windows
-- leave room for the next part (RFC 9113, sections 5.2 and 6.9).
use Rattle.std.specs.Prelude.{◌≡◌, ℕ, true, ◌⊎◌, List, ◌∷◌, ◌++◌, Some, None, is_some, pos, ◌<ℤ◌}
use Rattle.model.specs.Tapes.{Entry, sent}
use Rattle.model.specs.ResponseHeads.{Head}
use Rattle.model.specs.Deliveries.{Delivery, ReadsAs}
use Rattle.model.specs.Available.{items_on}
use Rattle.model.specs.Known.{Known}
use Rattle.model.specs.Lifetimes.{is_active}
use Rattle.model.specs.WindowsOnTape.{stream_window, connection_window}
use Rattle.model.specs.Offers.{IsOffered}

-- The next part is an interim head.
pub record IsNextInterim (read offered : Delivery) : Type 0 where
  pub head : Head
  pub more : List Head
  pub not_begun : read.head ≡ None
  pub is : offered.interims ≡ read.interims ++ head ∷ more

-- The next part is the final head.
pub record IsNextFinal (read offered : Delivery) : Type 0 where
  pub head : Head
  pub not_begun : read.head ≡ None
  pub same_interims : offered.interims ≡ read.interims
  pub is : offered.head ≡ Some head

-- The same heads were read as are on offer.
pub record IsBehindHead (read offered : Delivery) : Type 0 where
  pub head : Head
  pub is_read : read.head ≡ Some head
  pub is_offered : offered.head ≡ Some head
  pub same_interims : offered.interims ≡ read.interims

-- The next part is octets of the body.
pub record IsNextBody (read offered : Delivery) : Type 0 where
  pub behind : IsBehindHead read offered
  pub octet : ℕ
  pub more : List ℕ
  pub is : offered.body ≡ read.body ++ octet ∷ more

-- The next part is the end: trailers, or the end alone.
pub record IsNextEnd (read offered : Delivery) : Type 0 where
  pub behind : IsBehindHead read offered
  pub same_body : offered.body ≡ read.body
  pub is_whole : is_some offered.ends ≡ true
  pub not_ended : read.ends ≡ None

-- Both windows of the stream are above 0.
pub record HasWindows (t : List Entry) (stream : ℕ) : Type 0 where
  pub own : pos 0 <ℤ stream_window stream t
  pub shared : pos 0 <ℤ connection_window t

-- What comes next for the stream can go out: heads and an end need no window.
abbrev pub CanGo : List Entry → ℕ → Delivery → Delivery → Type 0
CanGo t stream read offered =
    IsNextInterim read offered ⊎ (IsNextFinal read offered ⊎ (IsNextEnd read offered ⊎ (IsNextBody read offered × HasWindows t stream)))

-- The stream is active, and only octets that its client hasn't taken may hold the next frame of its response back.
pub record IsReady (known : Known) (t : List Entry) (stream : ℕ) : Type 0 where
  pub is_active : is_active stream t ≡ true
  pub read : Delivery
  pub offered : Delivery
  pub reads : ReadsAs (items_on stream (sent t)) read
  pub is_offered : IsOffered known t stream offered
  pub can_go : CanGo t stream read offered
