-- What is kept of receiving windows behind a frame to the client that gives nothing back.
use Rattle.std.proofs.Common.{◌≡◌, ℕ, ◌+◌, false, ◌==◌, refl, ◌∙◌, ap, arith}
use Rattle.model.specs.Frames.{window_update_kind}
use Rattle.model.specs.Setup.{Passing}
use Rattle.model.specs.Tapes.{Noted}
use Rattle.theory_responses.specs.Sight.{Sight}
use Rattle.theory_receive_windows.specs.Policy.{Gates}
use Rattle.theory_receive_windows.specs.Rule.{is_over_by, state_with}
use Rattle.theory_receive_windows.specs.State.{State, Kept, kept_of, after, dropped, with_sent}
use Rattle.theory.specs.Moves.{given_or_sent}

none_more : (n m : ℕ) → m ≡ 0 → n + m ≡ n
none_more n m none = omega (arith, none)

-- A frame to the client that gives nothing back and with which no stream is over leaves what is kept.
pub windows_sent : (passing : Passing) (gates : Gates) (k : Kept) (before behind : Sight) (noted : Noted) → (noted.frame.kind == window_update_kind) ≡ false → is_over_by before behind noted.frame.id ≡ false
    → kept_of (after passing (state_with gates k) (given_or_sent (noted.frame.kind == window_update_kind) before behind noted)) ≡ k
windows_sent passing gates k before behind noted other on =
    ap (λ b. kept_of (after passing (state_with gates k) (given_or_sent b before behind noted))) other
    ∙ ap (λ b. record k { debt = k.debt + dropped b (state_with gates k) noted.frame.id }) on
    ∙ ap (λ n. record k { debt = n }) (none_more k.debt 0 refl)

-- so it does the state
pub rooms_sent : (passing : Passing) (s : State) (before behind : Sight) (noted : Noted) → (noted.frame.kind == window_update_kind) ≡ false → is_over_by before behind noted.frame.id ≡ false
    → after passing s (given_or_sent (noted.frame.kind == window_update_kind) before behind noted) ≡ with_sent s noted false
rooms_sent passing s before behind noted other on =
    ap (λ b. after passing s (given_or_sent b before behind noted)) other ∙ ap (λ b. with_sent s noted b) on
