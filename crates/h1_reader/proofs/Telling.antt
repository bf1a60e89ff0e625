-- What was told stands in the octets.
use Rattle.std.proofs.Common.{◌≡◌, ℕ, ◌+◌, ◌<◌, ◌≤◌, Bool, true, false, List, [], ◌∷◌, ◌++◌, length, take, map, refl, sym, ap, ◌∙◌, subst, append_assoc, inl, inr, arith}
use Rattle.std.specs.Prelude.{◌||◌, ◌⊎◌}
use Rattle.std.specs.List.{concat}
use Rattle.std.proofs.lemmas.List.{append-nil, take_all}
use Rattle.std.proofs.lemmas.List.Folds.{list_any-append}
use Rattle.std.proofs.Math.Seq.{take-append_seam}
use Rattle.model.specs.ResponseHeads as model
use Rattle.model.specs.ResponseHeads.Framing.{Bodiless as IsBodiless, Chunks as IsChunks, Sized as IsSized, UntilEnd as IsUntilEnd}
use Rattle.model.specs.Responses.{BehindChunks, HasBody, StandsIn, IsComplete}
use Rattle.model.specs.Octets.{IsStrictFront}
use Rattle.model.specs.Http1.{crlf}
use Rattle.model.proofs.ResponseHeadReadings.{one_front}
use Rattle.model.specs.Messages.{Field}
use Rattle.h1_reader.specs.Parts.{Part, ends_with}
use Rattle.h1_reader.specs.Parts.Part.{Interim, Final, Body}
use Rattle.h1_reader.specs.Standing.{Held, State, InBody, InRest, IsPast, InChunked, BehindChunk, StandsAt, Stands, Tells, TellsBehind, TellsWhole, is_done, is_end}
use Rattle.h1_reader.specs.declared.reader.Place.{Place}
use Rattle.h1_reader.specs.declared.reader.Place.TheVariants.{Head, Sized, UntilEnd, Line, Chunk, ChunkEnd, ChunkReturn, Trailers, Past, Broken}
use Rattle.response_texts.proofs.ChunkLineLemmas.{line_begun}
use Rattle.h1_reader.proofs.ChunkEnds.{line_short, chunk_short, end_short, trailers_short, no_octets, one_octet}
use Rattle.h1_reader.proofs.Ends.{head_short, sized_short, past_complete}

false_true : ◌≡◌ {A = Bool} false true → ⊥
false_true e = cc

-- a whole body stands in its text
stands_whole : (framing : model.Framing) (rest octets : List ℕ) (trailers : List Field) → HasBody framing false rest octets trailers → StandsIn framing rest octets
stands_whole IsBodiless rest octets trailers w = w.0
stands_whole (IsChunks named) rest octets trailers w = record {
  chunks = w.chunks;
  front = w.front;
  behind = w.line ++ (w.section ++ w.past);
  next = [];
  is = w.is ∙ append_assoc (w.front ++ w.line) w.section w.past ∙ append_assoc w.front w.line (w.section ++ w.past);
  are_chunks = w.are_chunks;
  behind_them = inl (refl, inr (inr (record { line = w.line; trailers = w.section; past = w.past; is = sym (append_assoc w.line w.section w.past); is_last = w.is_last; are_trailers = w.are_trailers })));
  has_octets = w.is_body ∙ sym (append-nil (concat w.chunks));
}
stands_whole (IsSized count) rest octets trailers w = sym (ap (take count) w.0.is ∙ ap (λ n. take n (octets ++ w.0.past)) (sym w.0.has_count) ∙ take-append_seam octets w.0.past)
stands_whole IsUntilEnd rest octets trailers w = absurd (false_true w.0)

tells_behind : (to_head : Bool) (framing : model.Framing) (text rest octets : List ℕ) (parts ends : List Part) → InBody to_head framing text rest octets parts ends
    → StandsIn framing rest octets → (ends ≡ []) ⊎ ((trailers : List Field) × (ends ≡ ends_with trailers)) → TellsBehind text to_head parts
tells_behind to_head framing text rest octets parts ends b s e = record {
  interims = b.interims;
  head = b.head;
  bodies = b.bodies;
  ends = ends;
  seen = record { front = b.front; head_text = b.head_text; rest = rest; framing = framing; is = b.is; are_interims = b.are_interims; few_interims = b.few; is_final = b.is_final; body = subst (λ (o : List ℕ). StandsIn framing rest o) b.has_octets s };
  told = b.told;
  ends_are = e;
}

tells_chunked : {named : List (List ℕ)} (to_head : Bool) (behind next text : List ℕ) (parts : List Part) (c : InChunked named to_head behind next text parts) → BehindChunks behind next → TellsBehind text to_head parts
tells_chunked {named} to_head behind next text parts c p =
    tells_behind to_head (IsChunks named) text (c.front ++ behind) (concat c.chunks ++ next) parts [] c.body
    (record { chunks = c.chunks; front = c.front; behind = behind; next = next; is = refl; are_chunks = c.are_chunks; behind_them = p; has_octets = refl }) (inl refl)

tells_end : {named : List (List ℕ)} (to_head : Bool) (end text : List ℕ) (parts : List Part) → BehindChunk named to_head end text parts → IsStrictFront end crlf → TellsBehind text to_head parts
tells_end {named} to_head end text parts b f =
    tells_chunked to_head (b.line ++ b.next ++ end) b.next text parts b.chunked
    (inr (record { line = b.line; size = length b.next; end = end; is = refl; is_line = b.is_line; is_not_last = b.some; is_part = inr (refl, f) }))

tells_at : (place : Place) (to_head : Bool) (held : Held) (text : List ℕ) (parts : List Part) → StandsAt place to_head held text parts → Tells text to_head parts
tells_at (Head count) to_head held text parts b =
    let counted : count ≡ length b.interims = b.has_count in
    let few : count ≤ 8 = b.few in
    inl (record { interims = b.interims; seen = (record { front = b.front; rest = held.octets; is = b.is; are_interims = b.are_interims; few_interims = omega arith; no_head = b.no_head }, refl); told = b.told })
tells_at (Line line) to_head held text parts b = inr (tells_chunked to_head b.behind [] text parts b.chunked (inl (refl, inl (line_begun line b.behind b.is_part))))
tells_at (Chunk left) to_head held text parts b =
    let sum : length b.next + left ≡ b.size = b.has_size in
    let some : 0 < left = b.some in
    let less : length b.next < b.size = omega arith in
    inr (tells_chunked to_head (b.line ++ b.next) b.next text parts b.chunked
    (inr (record { line = b.line; size = b.size; end = []; is = sym (append-nil (b.line ++ b.next)); is_line = b.is_line; is_not_last = omega arith; is_part = inl (less, refl) })))
tells_at ChunkEnd to_head held text parts b = inr (tells_end to_head [] text parts b (record { next = 13; rest = 10 ∷ []; is = refl }))
tells_at ChunkReturn to_head held text parts b = inr (tells_end to_head (13 ∷ []) text parts b (record { next = 10; rest = []; is = refl }))
tells_at Trailers to_head held text parts b =
    inr (tells_chunked to_head (b.line ++ held.octets) [] text parts b.chunked
    (inl (refl, inr (inl (record { line = b.line; tail = held.octets; is = refl; is_last = b.is_last; no_trailers = b.no_trailers; may_become = b.may_become })))))
tells_at (Sized left) to_head held text parts b =
    let sum : length b.octets + left ≡ b.count = b.has_count in
    let all : b.octets ≡ take b.count b.octets = sym (take_all b.count b.octets (omega arith)) in
    inr (tells_behind to_head (IsSized b.count) text b.octets b.octets parts [] b.body all (inl refl))
tells_at UntilEnd to_head held text parts b = inr (tells_behind to_head IsUntilEnd text b.octets b.octets parts [] b.body refl (inl refl))
tells_at Past to_head held text parts b = inr (tells_behind to_head b.framing text b.rest b.octets parts (ends_with b.trailers) b.body (stands_whole b.framing b.rest b.octets b.trailers b.whole) (inr (b.trailers, refl)))
tells_at (Broken fault) to_head held text parts b = absurd b

pub tells : (text : List ℕ) (parts : List Part) (state : State) → Stands text parts state → Tells text state.to_head parts
tells text parts state s = tells_at state.place state.to_head state.held text parts s

-- ---- the last piece

no_interim_ends : (heads : List model.Head) → is_done (map Interim heads) ≡ false
no_interim_ends [] = refl
no_interim_ends (head ∷ heads) = no_interim_ends heads

no_body_ends : (bodies : List (List ℕ)) → is_done (map Body bodies) ≡ false
no_body_ends [] = refl
no_body_ends (body ∷ bodies) = no_body_ends bodies

-- the end is told with trailers or without any
end_told : (trailers : List Field) → is_done (ends_with trailers) ≡ true
end_told [] = refl
end_told (field ∷ fields) = refl

ends_done : (to_head : Bool) (framing : model.Framing) (text rest octets : List ℕ) (parts ends : List Part) → InBody to_head framing text rest octets parts ends → is_done parts ≡ is_done ends
ends_done to_head framing text rest octets parts ends b =
    ap is_done b.told ∙ list_any-append is_end (map Interim b.interims) (Final b.head ∷ map Body b.bodies ++ ends)
    ∙ ap (λ t. t || is_done (map Body b.bodies ++ ends)) (no_interim_ends b.interims)
    ∙ list_any-append is_end (map Body b.bodies) ends ∙ ap (λ t. t || is_done ends) (no_body_ends b.bodies)

rest_framed : (framing : model.Framing) (rest body : List ℕ) (trailers : List Field) → IsUntilEnd ≡ framing → HasBody framing false rest body trailers → ⊥
rest_framed framing rest body trailers e w =
    let open_end : HasBody IsUntilEnd false rest body trailers = subst (λ (f : model.Framing). HasBody f false rest body trailers) (sym e) w in
    false_true open_end.0

pub rest_short : (to_head : Bool) (text : List ℕ) (parts : List Part) → InRest to_head text parts → IsComplete text false to_head → ⊥
rest_short to_head text parts b whole =
    let p = whole.1 in
    let same = one_front to_head b.body.front p.front b.body.head_text p.head_text b.octets p.rest b.body.interims whole.0.interims b.body.head whole.0.head IsUntilEnd p.framing
    b.body.are_interims p.are_interims b.body.is_final p.is_final (sym b.body.is ∙ p.is) in
    rest_framed p.framing p.rest whole.0.body whole.0.trailers same.final.framing p.body

done_at : (place : Place) (to_head : Bool) (held : Held) (text : List ℕ) (parts : List Part) → StandsAt place to_head held text parts → is_done parts ≡ true → IsComplete text false to_head
done_at (Head count) to_head held text parts b d = absurd (false_true (sym (ap is_done b.told ∙ no_interim_ends b.interims) ∙ d))
done_at (Sized left) to_head held text parts b d = absurd (false_true (sym (ends_done to_head (IsSized b.count) text b.octets b.octets parts [] b.body) ∙ d))
done_at (Line line) to_head held text parts b d = absurd (false_true (sym (ends_done to_head _ text _ _ parts [] b.chunked.body) ∙ d))
done_at (Chunk left) to_head held text parts b d = absurd (false_true (sym (ends_done to_head _ text _ _ parts [] b.chunked.body) ∙ d))
done_at ChunkEnd to_head held text parts b d = absurd (false_true (sym (ends_done to_head _ text _ _ parts [] b.chunked.body) ∙ d))
done_at ChunkReturn to_head held text parts b d = absurd (false_true (sym (ends_done to_head _ text _ _ parts [] b.chunked.body) ∙ d))
done_at Trailers to_head held text parts b d = absurd (false_true (sym (ends_done to_head _ text _ _ parts [] b.chunked.body) ∙ d))
done_at UntilEnd to_head held text parts b d = absurd (false_true (sym (ends_done to_head IsUntilEnd text b.octets b.octets parts [] b.body) ∙ d))
done_at Past to_head held text parts b d = past_complete false to_head text parts b
done_at (Broken fault) to_head held text parts b d = absurd b

pub done : (text : List ℕ) (parts : List Part) (state : State) → Stands text parts state → is_done parts ≡ true → IsComplete text false state.to_head
done text parts state s d = done_at state.place state.to_head state.held text parts s d

not_done_at : (place : Place) (to_head : Bool) (held : Held) (text : List ℕ) (parts : List Part) → StandsAt place to_head held text parts → is_done parts ≡ false → IsComplete text false to_head → ⊥
not_done_at (Head count) to_head held text parts b d w = head_short false to_head count held.octets text parts b w
not_done_at (Sized left) to_head held text parts b d w = sized_short false to_head left text parts b w
not_done_at (Line line) to_head held text parts b d w = line_short false to_head line text parts b w
not_done_at (Chunk left) to_head held text parts b d w = chunk_short false to_head left text parts b w
not_done_at ChunkEnd to_head held text parts b d w = end_short false to_head [] text parts no_octets b w
not_done_at ChunkReturn to_head held text parts b d w = end_short false to_head (13 ∷ []) text parts one_octet b w
not_done_at Trailers to_head held text parts b d w = trailers_short false to_head held.octets text parts b w
not_done_at UntilEnd to_head held text parts b d w = rest_short to_head text parts b w
not_done_at Past to_head held text parts b d w = false_true (sym d ∙ ends_done to_head b.framing text b.rest b.octets parts (ends_with b.trailers) b.body ∙ end_told b.trailers)
not_done_at (Broken fault) to_head held text parts b d w = b

pub not_done : (text : List ℕ) (parts : List Part) (state : State) → Stands text parts state → is_done parts ≡ false → IsComplete text false state.to_head → ⊥
not_done text parts state s d w = not_done_at state.place state.to_head state.held text parts s d w

-- ---- a whole response

told_past : (to_head : Bool) (text : List ℕ) (parts : List Part) → IsPast to_head text parts → TellsWhole text to_head parts
told_past to_head text parts b = record {
  response = record { interims = b.body.interims; head = b.body.head; body = b.octets; trailers = b.trailers };
  is_whole = record { front = b.body.front; head_text = b.body.head_text; rest = b.rest; framing = b.framing; is = b.body.is; are_interims = b.body.are_interims; few_interims = b.body.few; is_final = b.body.is_final; body = b.whole };
  bodies = b.body.bodies;
  has_body = b.body.has_octets;
  told = b.body.told;
}

whole_at : (place : Place) (to_head : Bool) (held : Held) (text : List ℕ) (parts : List Part) → StandsAt place to_head held text parts → is_done parts ≡ true → TellsWhole text to_head parts
whole_at (Head count) to_head held text parts b d = absurd (false_true (sym (ap is_done b.told ∙ no_interim_ends b.interims) ∙ d))
whole_at (Sized left) to_head held text parts b d = absurd (false_true (sym (ends_done to_head (IsSized b.count) text b.octets b.octets parts [] b.body) ∙ d))
whole_at (Line line) to_head held text parts b d = absurd (false_true (sym (ends_done to_head _ text _ _ parts [] b.chunked.body) ∙ d))
whole_at (Chunk left) to_head held text parts b d = absurd (false_true (sym (ends_done to_head _ text _ _ parts [] b.chunked.body) ∙ d))
whole_at ChunkEnd to_head held text parts b d = absurd (false_true (sym (ends_done to_head _ text _ _ parts [] b.chunked.body) ∙ d))
whole_at ChunkReturn to_head held text parts b d = absurd (false_true (sym (ends_done to_head _ text _ _ parts [] b.chunked.body) ∙ d))
whole_at Trailers to_head held text parts b d = absurd (false_true (sym (ends_done to_head _ text _ _ parts [] b.chunked.body) ∙ d))
whole_at UntilEnd to_head held text parts b d = absurd (false_true (sym (ends_done to_head IsUntilEnd text b.octets b.octets parts [] b.body) ∙ d))
whole_at Past to_head held text parts b d = told_past to_head text parts b
whole_at (Broken fault) to_head held text parts b d = absurd b

pub whole : (text : List ℕ) (parts : List Part) (state : State) → Stands text parts state → is_done parts ≡ true → TellsWhole text state.to_head parts
whole text parts state s d = whole_at state.place state.to_head state.held text parts s d
