-- What goes on of a request that goes out, as the rule of requests has it.
use Rattle.std.proofs.Common.{◌≡◌, ℕ, true, false, List, Some, None, refl, sym, ap}
use Rattle.model.specs.Messages.{Field}
use Rattle.request_buffer.specs.Going.{GoesOn}
use Rattle.h1_writer.specs.Sending.{Stage}
use Rattle.h1_writer.specs.Sending.Stage.{Whole, Counting, Holding, Chunking}
use Rattle.theory_requests.specs.State.{Way, Due, is_whole, unless_whole, to_send}
use Rattle.theory_requests.specs.State.Way.{Going}
use Rattle.upstream_connections.specs.Requests.{IsPassed}

-- nothing is held of what is whole, and its way of what isn't
pub held_whole : (stage : Stage) (way : Way) → stage ≡ Whole → unless_whole stage way ≡ None
held_whole stage way e = ap (λ s. unless_whole s way) e

part_is : (stage : Stage) → (stage ≡ Whole → ⊥) → is_whole stage ≡ false
part_is Whole part = absurd (part refl)
part_is (Counting left) part = refl
part_is (Holding octet) part = refl
part_is Chunking part = refl

pub held_part : (stage : Stage) (way : Way) → (stage ≡ Whole → ⊥) → unless_whole stage way ≡ Some way
held_part Whole way part = absurd (part refl)
held_part (Counting left) way part = refl
held_part (Holding octet) way part = refl
held_part Chunking way part = refl

module _ (octets : List ℕ) (trailers : List Field) (k : ℕ) (old new : Stage) (text : List ℕ) (due : Due) where
  -- it goes on
  pub passes : GoesOn old octets trailers false text new → due ≡ to_send k text → IsPassed octets trailers false k old due (Some (Going k new))
  passes on is = record {
    written = text;
    stage = new;
    continues = on.continues;
    whole = part_is new (on.part refl);
    due_is = is;
    next_is = sym (held_part new (Going k new) (on.part refl));
  }

  -- it ends
  pub passes_last : GoesOn old octets trailers true text new → due ≡ to_send k text → IsPassed octets trailers true k old due None
  passes_last on is = record {
    written = text;
    stage = new;
    continues = on.continues;
    whole = ap is_whole (on.whole refl);
    due_is = is;
    next_is = sym (held_whole new (Going k new) (on.whole refl));
  }
