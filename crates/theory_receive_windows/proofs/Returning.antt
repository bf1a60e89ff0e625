-- As an upstream's side takes octets, only the stream of its connection changes.
use Rattle.std.proofs.Common.{◌≡◌, ℕ, ◌+◌, true, false, ◌==◌, List, sym, ap, ◌∙◌, if◌then◌else◌}
use Rattle.std.specs.Prelude.{◌≢◌}
use Rattle.std.proofs.lemmas.Bool.{eq-eqb, ne_eqb}
use Rattle.model.specs.Setup.{Passing}
use Rattle.model.specs.Setup.Passing.{Whole, Streaming}
use Rattle.model.specs.Tapes.{Entry}
use Rattle.model.specs.Lifetimes.{is_active}
use Rattle.theory_receive_windows.specs.Marks.{released}
use Rattle.theory_receive_windows.specs.State.{State, Move, add, with_taken, tape_of, state_of}
use Rattle.theory_receive_windows.specs.Policy.{AreAllowed}
use Rattle.theory_receive_windows.proofs.Queues.{none_popped}
use Rattle.theory_receive_windows.proofs.Sums.{only_among}
use Rattle.theory_receive_windows.proofs.Keeping.{StandsIn}
use Rattle.theory_receive_windows.proofs.Incoming.{live_apart, live_among}
use Rattle.theory_receive_windows.proofs.Resting.{Receiving, receiving}

-- nothing of a stream goes back while no more is taken of its connection
none_returned : (passing : Passing) (t : List Entry) (s : State) (id : ℕ) → StandsIn passing t s id → released (s.took (s.row id).k) (s.row id).queue ≡ 0
none_returned Whole t s id h = ap (λ ms. released (s.took (s.row id).k) ms) h.queue
none_returned Streaming t s id h = (none_popped (s.took (s.row id).k) (s.row id).queue h.queue.above).1

module _ (more : ℕ) (passing : Passing) (t : List Entry) (s : State) (h : Receiving more passing t s) (k count id : ℕ) (on : is_active id t ≡ true) (apart : (other : ℕ) → other ≢ id → is_active other t ≡ true → (s.row other).k ≢ k) where
  -- nothing of another stream goes back
  others_return_none : (other : ℕ) → is_active other t ≡ true → (other == id) ≡ false → released (add k count s.took (s.row other).k) (s.row other).queue ≡ 0
  others_return_none other active off =
      let elsewhere : ((s.row other).k == k) ≡ false = ne_eqb (s.row other).k k (apart other (λ same. absurd (let no : true ≡ false = sym (eq-eqb other id same) ∙ off in cc)) active) in
      ap (λ b. released (if b then s.took (s.row other).k + count else s.took (s.row other).k) (s.row other).queue) elsewhere ∙ none_returned passing t s other (h.keeping.streams other active)

  -- what goes back is the one stream's
  pub one_returns : (with_taken s k count).debt ≡ s.debt + released (add k count s.took (s.row id).k) (s.row id).queue
  one_returns = ap (λ n. s.debt + n) (only_among (λ other. released (add k count s.took (s.row other).k) (s.row other).queue) id s.live (live_apart more passing t s h.keeping) (live_among more passing t s id h.keeping ∙ on) (λ other among off. others_return_none other (sym (live_among more passing t s other h.keeping) ∙ among) off))

-- the same behind moves that are allowed
pub one_returns_of_moves : (more : ℕ) (passing : Passing) (moves : List Move) (k count id : ℕ) → AreAllowed more passing moves → is_active id (tape_of moves) ≡ true → ((other : ℕ) → other ≢ id → is_active other (tape_of moves) ≡ true → ((state_of more passing moves).row other).k ≢ k)
    → (with_taken (state_of more passing moves) k count).debt ≡ (state_of more passing moves).debt + released (add k count (state_of more passing moves).took ((state_of more passing moves).row id).k) ((state_of more passing moves).row id).queue
one_returns_of_moves more passing moves k count id all on apart = one_returns more passing (tape_of moves) (state_of more passing moves) (receiving more passing moves all) k count id on apart
