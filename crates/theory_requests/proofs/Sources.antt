-- What the errors' concern tells of a frame and of its stream, as this concern reads it.
use Rattle.std.proofs.Common.{◌≡◌, ℕ, Bool, true, false, ◌==◌, ◌&&◌, ◌||◌, List, [], ◌∷◌, ◌++◌, refl, sym, ap, ◌∙◌, inl, inr, if◌then◌else◌}
use Rattle.std.specs.Prelude.{Option, None, is_some, is_none}
use Rattle.std.proofs.lemmas.Bool.{cases_Bool, eq-eqb, or_from}
use Rattle.model.specs.Messages.{Item}
use Rattle.model.specs.Frames.{rst_stream_kind}
use Rattle.model.specs.Tapes.{Noted, Entry, came}
use Rattle.model.specs.Tapes.Entry.{Came}
use Rattle.model.specs.Decoding.{completed}
use Rattle.model.specs.Streams.{frame_items, items_of, is_reset, is_ended_by}
use Rattle.model.specs.Known.{Known}
use Rattle.model.specs.Causes.{Cause}
use Rattle.model.specs.Lifetimes.{is_active, is_ended_by_client}
use Rattle.model.specs.Courses.{course, items, cause, cause_of, fault, interrupts}
use Rattle.theory_requests.specs.Told.{is_served}
use Rattle.theory_requests.specs.Meaning.{Brings}
use Rattle.model.proofs.ItemLaws.{is_interrupted}

-- Where it is told which streams are active, and of active ones why the gateway answers them, it is told which are served.
pub served_by_parts : (known : Known) (t : List Entry) (active : ℕ → Bool) (why : ℕ → Option Cause) → ((stream : ℕ) → active stream ≡ is_active stream t) → ((stream : ℕ) → is_active stream t ≡ true → why stream ≡ cause known stream t) → (stream : ℕ) → (active stream && is_none (why stream)) ≡ is_served known stream t
served_by_parts known t active why actives causes stream = elim (cases_Bool (is_active stream t)) [
  | inl is ↦ ap (λ b. b && is_none (why stream)) (actives stream) ∙ ap (λ c. is_active stream t && is_none c) (causes stream is)
  | inr lost ↦ ap (λ b. b && is_none (why stream)) (actives stream ∙ lost) ∙ sym (ap (λ b. b && is_none (cause known stream t)) lost)
]

-- a frame that interrupts no items adds its item, if it has one
pub brings_by : (known : Known) (t : List Entry) (noted : Noted) (item : Item) → (course known noted.frame.id t).over ≡ false → fault known t (Came noted) ≡ None → (noted.frame.kind == rst_stream_kind) ≡ false → cause_of known noted.frame.id t (Came noted) ≡ None → frame_items (completed (came t) noted.frame) noted ≡ item ∷ [] → is_ended_by_client noted.frame.id t ≡ false → Brings known t noted item
brings_by known t noted item not_over no_fault no_reset no_cause is goes_on = record {
  adds =
      ap (λ b. if b then items known noted.frame.id t else items known noted.frame.id t ++ items_of noted.frame.id t (Came noted)) goes
      ∙ ap (λ b. items known noted.frame.id t ++ (if b then frame_items (completed (came t) noted.frame) noted else [])) (eq-eqb noted.frame.id noted.frame.id refl)
      ∙ ap (λ xs. items known noted.frame.id t ++ xs) is;
  goes_on = goes_on;
}
  where
    goes : is_interrupted known noted.frame.id t (Came noted) ≡ false
    goes =
        or_from (course known noted.frame.id t).over (interrupts noted.frame.id (Came noted) (fault known t (Came noted)) (cause_of known noted.frame.id t (Came noted))) not_over
        (or_from (is_ended_by (noted.frame.id == noted.frame.id) (fault known t (Came noted)) || is_reset noted.frame.id (Came noted)) (is_some (cause_of known noted.frame.id t (Came noted)))
        (or_from (is_ended_by (noted.frame.id == noted.frame.id) (fault known t (Came noted))) (is_reset noted.frame.id (Came noted)) (ap (is_ended_by (noted.frame.id == noted.frame.id)) no_fault) (ap (λ b. b && noted.frame.id == noted.frame.id) no_reset))
        (ap is_some no_cause))
