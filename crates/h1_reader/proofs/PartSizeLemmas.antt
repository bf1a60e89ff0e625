-- The names and values of each head that was told, and of trailers, are no longer than a section.
use Rattle.std.proofs.Common.{ℕ, ◌≤◌, Bool, false, List, [], ◌∷◌, length, map, sym, subst, arith}
use Rattle.std.proofs.lemmas.List.Elements.{All-append, All-cons, All-nil}
use Rattle.model.specs.Messages.{Field}
use Rattle.model.specs.Octets.{Joined}
use Rattle.model.specs.ResponseHeads as model
use Rattle.model.specs.ResponseHeads.{trailers_passed}
use Rattle.model.specs.ResponseHeads.Framing.{Bodiless as IsBodiless, Chunks as IsChunks, Sized as IsSized, UntilEnd as IsUntilEnd}
use Rattle.model.specs.Responses.{HasBody}
use Rattle.response_texts.specs.HeadSizes.{field_octets}
use Rattle.response_texts.proofs.HeadSizeLemmas.{interim_size, final_size, section_size}
use Rattle.h1_reader.specs.Parts.{Part, ends_with}
use Rattle.h1_reader.specs.Parts.Part.{Interim, Final, Body, Trailing, Done}
use Rattle.h1_reader.specs.PartSizes.{head_octets, HeadsAreShort}
use Rattle.h1_reader.specs.Standing.{Held, State, InBody, StandsAt, Stands}
use Rattle.h1_reader.specs.declared.reader.Place.{Place}
use Rattle.h1_reader.specs.declared.reader.Place.TheVariants.{Head, Sized, UntilEnd, Line, Chunk, ChunkEnd, ChunkReturn, Trailers, Past, Broken}

abbrev is_short : Part → Type 0
is_short part = head_octets part ≤ 16384

interims_short : (text : List ℕ) (heads : List model.Head) → Joined model.Interim text heads → HeadsAreShort (map Interim heads)
interims_short text [] joined = All-nil is_short
interims_short text (head ∷ heads) joined =
    let size : field_octets head.fields ≤ length joined.0 = interim_size joined.0 head joined.2 in
    let short : length joined.0 ≤ 16384 = joined.2.taken.is_short in
    All-cons is_short (Interim head) (map Interim heads) (omega arith) (interims_short joined.1 heads joined.4)

bodies_short : (bodies : List (List ℕ)) → HeadsAreShort (map Body bodies)
bodies_short [] = All-nil is_short
bodies_short (body ∷ bodies) = All-cons is_short (Body body) (map Body bodies) (omega arith) (bodies_short bodies)

behind_short : (to_head : Bool) (framing : model.Framing) (text rest octets : List ℕ) (parts ends : List Part) → InBody to_head framing text rest octets parts ends
    → HeadsAreShort ends → HeadsAreShort parts
behind_short to_head framing text rest octets parts ends b e =
    let size : field_octets b.head.fields ≤ length b.head_text = final_size to_head b.head_text b.head framing b.is_final in
    let short : length b.head_text ≤ 16384 = b.is_final.taken.is_short in
    subst HeadsAreShort (sym b.told) (All-append is_short (map Interim b.interims) _ (interims_short b.front b.interims b.are_interims)
    (All-cons is_short (Final b.head) _ (omega arith) (All-append is_short (map Body b.bodies) ends (bodies_short b.bodies) e)))

no_end_short : HeadsAreShort []
no_end_short = All-nil is_short

end_short : (trailers : List Field) → field_octets trailers ≤ 16384 → HeadsAreShort (ends_with trailers)
end_short [] short = All-cons is_short Done [] (omega arith) (All-nil is_short)
end_short (field ∷ fields) short = All-cons is_short (Trailing (field ∷ fields)) (Done ∷ []) short (All-cons is_short Done [] (omega arith) (All-nil is_short))

trailers_short : (framing : model.Framing) (rest octets : List ℕ) (trailers : List Field) → HasBody framing false rest octets trailers → field_octets trailers ≤ 16384
trailers_short IsBodiless rest octets trailers w = rw w.1 (omega arith)
trailers_short (IsChunks named) rest octets trailers w =
    let size : field_octets (trailers_passed named w.are_trailers.lines) ≤ length w.section = section_size named w.section w.are_trailers in
    let short : length w.section ≤ 16384 = w.are_trailers.is_short in
    rw w.passes (omega (arith, size, short))
trailers_short (IsSized count) rest octets trailers w = rw w.1 (omega arith)
trailers_short IsUntilEnd rest octets trailers w = rw w.2 (omega arith)

short_at : (place : Place) (to_head : Bool) (held : Held) (text : List ℕ) (parts : List Part) → StandsAt place to_head held text parts → HeadsAreShort parts
short_at (Head count) to_head held text parts b = subst HeadsAreShort (sym b.told) (interims_short b.front b.interims b.are_interims)
short_at (Line line) to_head held text parts b = behind_short to_head _ text _ _ parts [] b.chunked.body no_end_short
short_at (Chunk left) to_head held text parts b = behind_short to_head _ text _ _ parts [] b.chunked.body no_end_short
short_at ChunkEnd to_head held text parts b = behind_short to_head _ text _ _ parts [] b.chunked.body no_end_short
short_at ChunkReturn to_head held text parts b = behind_short to_head _ text _ _ parts [] b.chunked.body no_end_short
short_at Trailers to_head held text parts b = behind_short to_head _ text _ _ parts [] b.chunked.body no_end_short
short_at (Sized left) to_head held text parts b = behind_short to_head _ text b.octets b.octets parts [] b.body no_end_short
short_at UntilEnd to_head held text parts b = behind_short to_head _ text b.octets b.octets parts [] b.body no_end_short
short_at Past to_head held text parts b = behind_short to_head b.framing text b.rest b.octets parts (ends_with b.trailers) b.body (end_short b.trailers (trailers_short b.framing b.rest b.octets b.trailers b.whole))
short_at (Broken fault) to_head held text parts b = absurd b

pub told_short : (text : List ℕ) (parts : List Part) (state : State) → Stands text parts state → HeadsAreShort parts
told_short text parts state s = short_at state.place state.to_head state.held text parts s
