use Rattle.std.proofs.Common.{true, ◌∙◌, sym, ap, [], ◌∷◌}
use Rattle.h1_reader.specs.Standing.{State}
use Rattle.h1_reader.specs.declared.reader.Place.TheVariants.{Head, Sized, UntilEnd, Line, Chunk, ChunkEnd, ChunkReturn, Trailers, Past, Broken}
use Rattle.h1_reader.proofs.Ends.{at, head_short, sized_short, rest_complete, past_complete}
use Rattle.h1_reader.proofs.ChunkEnds.{line_short, chunk_short, end_short, trailers_short, no_octets, one_octet}
use Rattle.h1_reader.proofs.reader.Reader.end.Goals as goal

pub returns-in-Head-clause-is : goal.returns-in-Head-clause-is
returns-in-Head-clause-is c =
    λ text parts s. head_short true c.args.self.now.to_head c.in-Head.field-0 c.args.self.now.held.octets text parts
    (at (Head c.in-Head.field-0) c.args.self.now text parts (ap (λ (s : State). s.place) (sym c.self.view_is) ∙ c.in-Head.is) s)

pub returns-in-Sized-clause-is : goal.returns-in-Sized-clause-is
returns-in-Sized-clause-is c =
    λ text parts s. sized_short true c.args.self.now.to_head c.in-Sized.field-0 text parts
    (at (Sized c.in-Sized.field-0) c.args.self.now text parts (ap (λ (s : State). s.place) (sym c.self.view_is) ∙ c.in-Sized.is) s)

pub returns-in-UntilEnd-clause-is : goal.returns-in-UntilEnd-clause-is
returns-in-UntilEnd-clause-is c =
    λ text parts s. rest_complete c.args.self.now.to_head text parts
    (at UntilEnd c.args.self.now text parts (ap (λ (s : State). s.place) (sym c.self.view_is) ∙ c.in-UntilEnd.is) s)

pub returns-in-Line-clause-is : goal.returns-in-Line-clause-is
returns-in-Line-clause-is c =
    λ text parts s. line_short true c.args.self.now.to_head c.in-Line.field-0 text parts
    (at (Line c.in-Line.field-0) c.args.self.now text parts (ap (λ (s : State). s.place) (sym c.self.view_is) ∙ c.in-Line.is) s)

pub returns-in-Chunk-clause-is : goal.returns-in-Chunk-clause-is
returns-in-Chunk-clause-is c =
    λ text parts s. chunk_short true c.args.self.now.to_head c.in-Chunk.field-0 text parts
    (at (Chunk c.in-Chunk.field-0) c.args.self.now text parts (ap (λ (s : State). s.place) (sym c.self.view_is) ∙ c.in-Chunk.is) s)

pub returns-in-ChunkEnd-clause-is : goal.returns-in-ChunkEnd-clause-is
returns-in-ChunkEnd-clause-is c =
    λ text parts s. end_short true c.args.self.now.to_head [] text parts no_octets
    (at ChunkEnd c.args.self.now text parts (ap (λ (s : State). s.place) (sym c.self.view_is) ∙ c.in-ChunkEnd.is) s)

pub returns-in-ChunkReturn-clause-is : goal.returns-in-ChunkReturn-clause-is
returns-in-ChunkReturn-clause-is c =
    λ text parts s. end_short true c.args.self.now.to_head (13 ∷ []) text parts one_octet
    (at ChunkReturn c.args.self.now text parts (ap (λ (s : State). s.place) (sym c.self.view_is) ∙ c.in-ChunkReturn.is) s)

pub returns-in-Trailers-clause-is : goal.returns-in-Trailers-clause-is
returns-in-Trailers-clause-is c =
    λ text parts s. trailers_short true c.args.self.now.to_head c.args.self.now.held.octets text parts
    (at Trailers c.args.self.now text parts (ap (λ (s : State). s.place) (sym c.self.view_is) ∙ c.in-Trailers.is) s)

pub returns-in-Past-clause-is : goal.returns-in-Past-clause-is
returns-in-Past-clause-is c =
    λ text parts s. past_complete true c.args.self.now.to_head text parts
    (at Past c.args.self.now text parts (ap (λ (s : State). s.place) (sym c.self.view_is) ∙ c.in-Past.is) s)

pub returns-in-Broken-clause-is : goal.returns-in-Broken-clause-is
returns-in-Broken-clause-is c =
    λ text parts s w. at (Broken c.in-Broken.field-0) c.args.self.now text parts (ap (λ (s : State). s.place) (sym c.self.view_is) ∙ c.in-Broken.is) s
