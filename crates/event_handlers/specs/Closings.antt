-- Which connections a step leaves done with: those of the stream that it was about alone.
use Rattle.std.specs.Prelude.{◌≡◌, ℕ, ◌==◌, ◌||◌, false}
use Rattle.std.specs.List.{list_any}
use Rattle.theory_requests.specs.Told.{Told}
use Rattle.theory_requests.specs.Rule.{is_done}
use Rattle.streams.specs.Sending.{is_served}
use Rattle.upstream_connections.specs.Connections.{lives}
use Rattle.refinement.specs.View.{View}
use Rattle.refinement.specs.Rest.{told_view}

-- what is told, where a stream counts as served
abbrev pub told_but : ℕ → View → Told
told_but id kept = record (told_view kept) { served = λ stream. id == stream || (told_view kept).served stream }

-- No connection is done with, but perhaps those of a stream, since it isn't served any more: none is where the stream counts as served.
abbrev pub NoneDoneBut : ℕ → View → Type 0
NoneDoneBut id kept = list_any (is_done (told_but id kept)) (lives kept.upstreams.live) ≡ false

-- A change was about a stream: every other stream is served as before, and the same connections are open.
pub record IsAbout (id : ℕ) (old new : View) : Type 0 where
  pub served : (other : ℕ) → (id == other) ≡ false → is_served new.inbound.rows other ≡ is_served old.inbound.rows other
  pub live : lives new.upstreams.live ≡ lives old.upstreams.live
