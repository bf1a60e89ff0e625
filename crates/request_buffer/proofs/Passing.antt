-- Octets of a body that go out as they come.
use Rattle.std.proofs.Common.{◌≡◌, ℕ, Bool, true, false, List, [], ◌++◌, length, refl, sym, ap, ◌∙◌, subst, append-nil}
use Rattle.std.specs.Prelude.{Option}
use Rattle.std.specs.List.{concat}
use Rattle.model.specs.Messages.{Field}
use Rattle.model.specs.Http2.{HasLength}
use Rattle.request_rules.specs.Heads.{HeadParts}
use Rattle.h1_writer.specs.Sending.{Stage, Sending, Continues, MayFinish, HasRoom, piece_of}
use Rattle.h1_writer.specs.Sending.Stage.{Whole, Counting, Holding, Chunking}
use Rattle.h1_writer.proofs.Stages.{concat_more}
use Rattle.h1_writer.proofs.Wholes.{room_to_push, end_to_finish}
use Rattle.request_buffer.specs.Going.{MayGo, GoesOn}
use Rattle.request_buffer.proofs.Ending.{both, unended}

-- behind octets that end the body the text may be ended
pub may_finish : (old new : Stage) (octets written : List ℕ) → MayGo old octets true → Continues old written octets [] new → (new ≡ Whole → ⊥) → MayFinish new
may_finish old new octets written m continues part =
    end_to_finish m.keep m.parts m.ended (m.text ++ written) (m.pieces ++ piece_of octets) new (continues m.keep m.parts m.ended m.text m.pieces m.sending) part
    (subst (HasLength m.parts.length) (sym (concat_more m.pieces octets)) (m.has_length refl))

-- what goes on behind octets that don't end the body
pub goes_on : (old new : Stage) (octets written : List ℕ) (trailers : List Field) (ends : Bool) → ends ≡ false → Continues old written octets [] new → (new ≡ Whole → ⊥) → GoesOn old octets trailers ends written new
goes_on old new octets written trailers ends e continues part = record {
  continues = unended old new written octets trailers part continues;
  whole = λ t. absurd (let clash : true ≡ false = sym t ∙ e in cc);
  part = λ f. part;
}

-- what goes on with octets that end it, and with the end
pub goes_out : (old between new : Stage) (octets first second : List ℕ) (trailers : List Field) (ends : Bool) → ends ≡ true → Continues old first octets [] between → Continues between second [] trailers new → new ≡ Whole → GoesOn old octets trailers ends (first ++ second) new
goes_out old between new octets first second trailers ends e one two whole = record {
  continues = both old between new first second octets trailers one two;
  whole = λ t. whole;
  part = λ f. absurd (let clash : true ≡ false = sym e ∙ f in cc);
}

-- octets may go out behind the first ones, as far as they find room there
pub goes_further : (keep : Bool) (parts : HeadParts) (text : List ℕ) (old new : Stage) (octets written more : List ℕ) (trailers : List Field) (ends : Bool) → Sending keep parts false text [] [] old → GoesOn old octets trailers false written new
    → HasRoom parts.length (piece_of octets) (length more) → (ends ≡ true → HasLength parts.length (concat (piece_of octets) ++ more)) → MayGo new more ends
goes_further keep parts text old new octets written more trailers ends s on room whole = record {
  keep = keep;
  parts = parts;
  ended = false;
  text = text ++ written;
  pieces = piece_of octets;
  sending = unfinished new (on.part refl) (on.continues keep parts false text [] s);
  may_push = room_to_push keep parts false (text ++ written) (piece_of octets) new (length more) (unfinished new (on.part refl) (on.continues keep parts false text [] s)) (on.part refl) room;
  has_length = whole;
}
  where
    unfinished : (stage : Stage) → (stage ≡ Whole → ⊥) → Sending keep parts false (text ++ written) (piece_of octets) trailers stage → Sending keep parts false (text ++ written) (piece_of octets) [] stage
    unfinished Whole none s = absurd (none refl)
    unfinished (Counting left) none s = s
    unfinished (Holding octet) none s = s
    unfinished Chunking none s = s
