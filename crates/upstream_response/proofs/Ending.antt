-- Where the upstream ends its connection and its response is whole with that, the reader's end is news of the offer.
use Rattle.std.proofs.Common.{◌≡◌, ℕ, Bool, true, false, List, [], ◌∷◌, ◌++◌, refl, sym, ap, ◌∙◌, subst, inl, if◌then◌else◌}
use Rattle.std.specs.Prelude.{Option, Some, None, ◌||◌}
use Rattle.std.proofs.lemmas.List.{append-nil}
use Rattle.model.specs.ResponseHeads.Framing.{UntilEnd as IsUntilEnd}
use Rattle.model.specs.Responses.{IsComplete}
use Rattle.model.specs.Setup.{Passing}
use Rattle.model.specs.Setup.Passing.{Whole, Streaming}
use Rattle.model.specs.Deliveries.{Delivery}
use Rattle.model.specs.Available.{IsAnswered, IsShown}
use Rattle.h1_reader.specs.Parts.{Part}
use Rattle.h1_reader.specs.Standing.{Held, State, StandsAt, Stands, IsPast, is_done}
use Rattle.h1_reader.specs.declared.reader.Place.{Place}
use Rattle.h1_reader.specs.declared.reader.Place.TheVariants.{Head, Sized, UntilEnd, Line, Chunk, ChunkEnd, ChunkReturn, Trailers, Past, Broken}
use Rattle.h1_reader.proofs.ChunkEnds.{line_short, chunk_short, end_short, trailers_short, no_octets, one_octet}
use Rattle.h1_reader.proofs.Ends.{head_short, sized_short, past_complete}
use Rattle.h1_reader.proofs.Telling as telling
use Rattle.theory_responses.specs.Outbox.{trailers_at, first_head, first_end, with_news}
use Rattle.theory_responses.specs.Shown.{Tells}
use Rattle.model.proofs.OfferLaws.{one_shown}
use Rattle.theory_responses.proofs.Parts.{same_delivery}
use Rattle.upstream_response.specs.Telling.{interims_of, head_of, body_of, trailers_of, end_of, all_told, begun, shown_of, news_at_end}
use Rattle.upstream_response.proofs.Reading.{told_behind, none_told, told_shown, not_whole}

-- all that was told, and that it is whole
abbrev pub all_at_end : List Part → Delivery
all_at_end parts = record { interims = interims_of parts; head = head_of parts; body = body_of parts; ends = Some (trailers_at (trailers_of parts)) }

-- A response that its end completes is all that was told.
whole_at_end : (place : Place) (to_head : Bool) (held : Held) (text : List ℕ) (parts : List Part) → StandsAt place to_head held text parts → (IsPast to_head text parts → ⊥) → IsComplete text true to_head → IsAnswered text true to_head (all_at_end parts)
whole_at_end (Head count) to_head held text parts b p w = absurd (head_short true to_head count held.octets text parts b w)
whole_at_end (Sized left) to_head held text parts b p w = absurd (sized_short true to_head left text parts b w)
whole_at_end (Line line) to_head held text parts b p w = absurd (line_short true to_head line text parts b w)
whole_at_end (Chunk left) to_head held text parts b p w = absurd (chunk_short true to_head left text parts b w)
whole_at_end ChunkEnd to_head held text parts b p w = absurd (end_short true to_head [] text parts no_octets b w)
whole_at_end ChunkReturn to_head held text parts b p w = absurd (end_short true to_head (13 ∷ []) text parts one_octet b w)
whole_at_end Trailers to_head held text parts b p w = absurd (trailers_short true to_head held.octets text parts b w)
whole_at_end UntilEnd to_head held text parts b p w =
    let r = b.body in
    let is = told_behind parts [] r.interims r.head r.bodies (inl refl) r.told in
    record {
      response = record { interims = r.interims; head = r.head; body = b.octets; trailers = [] };
      is_whole = record { front = r.front; head_text = r.head_text; rest = b.octets; framing = IsUntilEnd; is = r.is; are_interims = r.are_interims; few_interims = r.few; is_final = r.is_final; body = (refl, refl, refl) };
      says = same_delivery is.0 is.1 (is.2 ∙ sym r.has_octets) (ap (λ t. Some (trailers_at t)) (none_told parts r.interims r.head r.bodies r.told));
    }
whole_at_end Past to_head held text parts b p w = absurd (p b)
whole_at_end (Broken fault) to_head held text parts b p w = absurd b

-- what is on offer with that
with_end : (passing : Passing) (parts : List Part) → is_done parts ≡ false → with_news (shown_of passing parts) (news_at_end passing parts) ≡ all_at_end parts
with_end Whole parts more = ap (λ b. with_news (if b then all_told parts else begun parts) (news_at_end Whole parts)) more ∙ same_delivery (append-nil (interims_of parts)) refl refl refl
with_end Streaming parts more = same_delivery (append-nil (interims_of parts)) (no_other (head_of parts)) (append-nil (body_of parts)) (ap (λ b. first_end (end_of b (trailers_of parts)) (Some (trailers_at (trailers_of parts)))) more)
  where
    no_other : (h : Option _) → first_head h None ≡ h
    no_other None = refl
    no_other (Some head) = refl

no_late : (passing : Passing) (parts : List Part) → (news_at_end passing parts).interims ≡ []
no_late Whole parts = refl
no_late Streaming parts = refl

-- The end of the connection is news, where it completes a response that wasn't whole.
pub ends_news : (passing : Passing) (text : List ℕ) (parts : List Part) (state : State) → Stands text parts state → is_done parts ≡ false → IsComplete text true state.to_head → Tells passing text false text true state.to_head (news_at_end passing parts)
ends_news passing text parts state s more w =
    let was : IsShown passing text false state.to_head (shown_of passing parts) = told_shown passing text parts state s in
    let same : (d : Delivery) → IsShown passing text false state.to_head d → d ≡ shown_of passing parts = λ d p. one_shown passing text false state.to_head d (shown_of passing parts) p was in
    let past : IsPast state.to_head text parts → ⊥ = λ b. telling.not_done text parts state s more (past_complete false state.to_head text parts b) in
    let now : IsAnswered text true state.to_head (all_at_end parts) = whole_at_end state.place state.to_head state.held text parts s past w in
    record {
      not_whole = λ d p. ap (λ (x : Delivery). x.ends) (same d p) ∙ not_whole passing parts more;
      none_late = λ d p some. no_late passing parts;
      shows = λ d p. inl (subst (IsAnswered text true state.to_head) (sym (ap (λ x. with_news x (news_at_end passing parts)) (same d p) ∙ with_end passing parts more)) now);
    }
