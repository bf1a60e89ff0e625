-- The clause on windows, where each connection carries one exchange: octets of DATA are kept by what the stream's connection was sent.
use Rattle.std.specs.Prelude.{◌≡◌, ℕ, ◌<◌, true, false, ◌⊎◌, List, pos, ◌-ℤ◌, ◌≤ℤ◌, ◌<ℤ◌, sum_by}
use Rattle.model.specs.Setup.{Passing, own_window}
use Rattle.model.specs.Setup.Passing.{Whole, Streaming}
use Rattle.model.specs.Tapes.{Entry, is_closed}
use Rattle.model.specs.Known.{Known}
use Rattle.model.specs.Lifetimes.{active, is_active, is_ended_by_client}
use Rattle.model.specs.WindowsOnTape.{room_on, room_on_connection}
use Rattle.model.specs.WindowClause.{KeepsWindows, waiting_for, GivesNoMore}
use Rattle.one_exchange.specs.Connections.{opened_for}

-- the octets of DATA that are kept for a stream
abbrev pub kept_once : Passing → ℕ → List Entry → ℕ
kept_once Whole stream t = 0
kept_once Streaming stream t = waiting_for (opened_for stream t) t

-- those kept for all active streams
abbrev pub kept_in_all_once : Passing → List Entry → ℕ
kept_in_all_once passing t = sum_by (λ stream. kept_once passing stream t) (active t)

-- Each receiving window is as at first, but for what is kept.
pub record GivesBackOnce (known : Known) (t : List Entry) : Type 0 where
  pub shared : room_on_connection t ≡ pos (own_window known.setup) -ℤ pos (kept_in_all_once known.setup.passing t)
  pub own : (stream : ℕ) → is_active stream t ≡ true → is_ended_by_client stream t ≡ false
      → room_on (own_window known.setup) stream t ≡ pos (own_window known.setup) -ℤ pos (kept_once known.setup.passing stream t)

-- No stream has more room than at first, less what is kept for it.
abbrev pub HoldsBackOnce : ℕ → Passing → List Entry → Type 0
HoldsBackOnce own passing t = (stream : ℕ) → 0 < stream → room_on own stream t ≤ℤ (pos own -ℤ pos (kept_once passing stream t))

-- Octets go back: there is less room than at first, but for what is kept.
abbrev pub GoesBackOnce : ℕ → Passing → List Entry → Type 0
GoesBackOnce own passing t =
    (room_on_connection t <ℤ (pos own -ℤ pos (kept_in_all_once passing t)))
    ⊎ ((stream : ℕ) × (is_active stream t ≡ true) × (is_ended_by_client stream t ≡ false)
    × (room_on own stream t <ℤ (pos own -ℤ pos (kept_once passing stream t))))

-- The clause: DATA goes out within both windows, and octets that came are given back once they are passed on.
pub record WindowsHoldOnce (known : Known) (t : List Entry) : Type 0 where
  pub keeps : KeepsWindows t
  pub no_more : GivesNoMore (own_window known.setup) t
  pub holds_back : HoldsBackOnce (own_window known.setup) known.setup.passing t
  pub gives_back : is_closed t ≡ false → GivesBackOnce known t
