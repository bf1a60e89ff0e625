use Rattle.std.proofs.Common.{◌≡◌, ◌∙◌, ◌∷◌, [], length, take, refl, ap, sym, arith}
use Rattle.h1_reader.specs.Parts.Part.{Body}
use Rattle.h1_reader.specs.Standing.{State}
use Rattle.h1_reader.proofs.Steps.{hears_rest, all_taken}
use Rattle.h1_reader.proofs.Joining.{goes_on, first_goes}
use Rattle.h1_reader.proofs.FaultSteps.{first_fails}
use Rattle.h1_reader.specs.declared.reader.Place.TheVariants.{Head, Sized, UntilEnd, Line, Chunk, ChunkEnd, ChunkReturn, Trailers}
use Rattle.h1_reader.proofs.KeepSteps.{learns_behind, octet_learns, steps_learn}
use Rattle.h1_reader.proofs.Ending.{ends_not, first_ends}
use Rattle.h1_reader.proofs.reader.Reader.take.Goals as goal

pub returns-in_ok-body-in-UntilEnd-clause-ok : goal.returns-in_ok-body-in-UntilEnd-clause-ok
returns-in_ok-body-in-UntilEnd-clause-ok c = (
  c.requires.octets,
  omega arith,
  goes_on _ _ _ _ _ (
    Body c.args.octets.now ∷ [],
    c.in_ok-body-in-UntilEnd.ensures,
    all_taken c.args.self.now c.args.self.now c.args.octets.now (Body c.args.octets.now ∷ [])
        (hears_rest c.args.self.now c.args.octets.now (ap (λ (s : State). s.place) (sym c.self.view_is) ∙ c.in-UntilEnd.is)),
  ),
)

pub returns-in-Line-clause-fault : goal.returns-in-Line-clause-fault
returns-in-Line-clause-fault c = first_fails c.args.self.now c.args.octets.now c.take_line.result c.requires.octets c.take_line.ensures.fault

pub returns-in-ChunkEnd-clause-fault : goal.returns-in-ChunkEnd-clause-fault
returns-in-ChunkEnd-clause-fault c = first_fails c.args.self.now c.args.octets.now c.take_return.result c.requires.octets c.take_return.ensures.fault

pub returns-in-ChunkReturn-clause-fault : goal.returns-in-ChunkReturn-clause-fault
returns-in-ChunkReturn-clause-fault c = first_fails c.args.self.now c.args.octets.now c.take_feed.result c.requires.octets c.take_feed.ensures.fault

pub returns-in-Line-clause-ok : goal.returns-in-Line-clause-ok
returns-in-Line-clause-ok c = first_goes c.args.self.now c.take_line.new.self c.args.told.now c.args.octets.now c.take_line.result c.requires.octets c.take_line.ensures.ok

pub returns-in-ChunkEnd-clause-ok : goal.returns-in-ChunkEnd-clause-ok
returns-in-ChunkEnd-clause-ok c = first_goes c.args.self.now c.take_return.new.self c.args.told.now c.args.octets.now c.take_return.result c.requires.octets c.take_return.ensures.ok

pub returns-in-ChunkReturn-clause-ok : goal.returns-in-ChunkReturn-clause-ok
returns-in-ChunkReturn-clause-ok c = first_goes c.args.self.now c.take_feed.new.self c.args.told.now c.args.octets.now c.take_feed.result c.requires.octets c.take_feed.ensures.ok

pub returns-in-Line-clause-ends : goal.returns-in-Line-clause-ends
returns-in-Line-clause-ends c = first_ends c.args.self.now c.take_line.new.self c.args.octets.now c.take_line.result c.take_line.ensures.on

pub returns-in-ChunkEnd-clause-ends : goal.returns-in-ChunkEnd-clause-ends
returns-in-ChunkEnd-clause-ends c = first_ends c.args.self.now c.take_return.new.self c.args.octets.now c.take_return.result c.take_return.ensures.on

pub returns-in-ChunkReturn-clause-ends : goal.returns-in-ChunkReturn-clause-ends
returns-in-ChunkReturn-clause-ends c = first_ends c.args.self.now c.take_feed.new.self c.args.octets.now c.take_feed.result c.take_feed.ensures.on

pub returns-in-Chunk-clause-ends : goal.returns-in-Chunk-clause-ends
returns-in-Chunk-clause-ends c = first_ends c.args.self.now c.take_chunk.new.self c.args.octets.now c.take_chunk.result c.take_chunk.ensures.on

pub returns-in_ok-body-in-UntilEnd-clause-ends : goal.returns-in_ok-body-in-UntilEnd-clause-ends
returns-in_ok-body-in-UntilEnd-clause-ends c = ends_not c.args.self.now c.args.self.now (take (length c.args.octets.now) c.args.octets.now) c.requires.place

pub returns-in-Line-clause-learns : goal.returns-in-Line-clause-learns
returns-in-Line-clause-learns c =
    octet_learns c.args.self.now c.take_line.new.self _ c.args.octets.now c.take_line.result
    (λ count head. let clash : Line c.in-Line.line ≡ Head count = sym (ap (λ (s : State). s.place) (sym c.self.view_is) ∙ c.in-Line.is) ∙ head in cc) c.take_line.ensures.ok c.take_line.ensures.kept

pub returns-in-ChunkEnd-clause-learns : goal.returns-in-ChunkEnd-clause-learns
returns-in-ChunkEnd-clause-learns c =
    octet_learns c.args.self.now c.take_return.new.self _ c.args.octets.now c.take_return.result
    (λ count head. let clash : ChunkEnd ≡ Head count = sym (ap (λ (s : State). s.place) (sym c.self.view_is) ∙ c.in-ChunkEnd.is) ∙ head in cc) c.take_return.ensures.ok c.take_return.ensures.kept

pub returns-in-ChunkReturn-clause-learns : goal.returns-in-ChunkReturn-clause-learns
returns-in-ChunkReturn-clause-learns c =
    octet_learns c.args.self.now c.take_feed.new.self _ c.args.octets.now c.take_feed.result
    (λ count head. let clash : ChunkReturn ≡ Head count = sym (ap (λ (s : State). s.place) (sym c.self.view_is) ∙ c.in-ChunkReturn.is) ∙ head in cc) c.take_feed.ensures.ok c.take_feed.ensures.kept

pub returns-in-Sized-clause-learns : goal.returns-in-Sized-clause-learns
returns-in-Sized-clause-learns c =
    steps_learn c.args.self.now c.take_sized.new.self c.args.told.now c.take_sized.new.told c.args.octets.now c.take_sized.result
    (λ count head. let clash : Sized c.in-Sized.left ≡ Head count = sym (ap (λ (s : State). s.place) (sym c.self.view_is) ∙ c.in-Sized.is) ∙ head in cc) c.take_sized.ensures.ok c.take_sized.ensures.kept

pub returns-in-Chunk-clause-learns : goal.returns-in-Chunk-clause-learns
returns-in-Chunk-clause-learns c =
    steps_learn c.args.self.now c.take_chunk.new.self c.args.told.now c.take_chunk.new.told c.args.octets.now c.take_chunk.result
    (λ count head. let clash : Chunk c.in-Chunk.left ≡ Head count = sym (ap (λ (s : State). s.place) (sym c.self.view_is) ∙ c.in-Chunk.is) ∙ head in cc) c.take_chunk.ensures.ok c.take_chunk.ensures.kept

pub returns-in-Trailers-clause-learns : goal.returns-in-Trailers-clause-learns
returns-in-Trailers-clause-learns c =
    steps_learn c.args.self.now c.take_trailers.new.self c.args.told.now c.take_trailers.new.told c.args.octets.now c.take_trailers.result
    (λ count head. let clash : Trailers ≡ Head count = sym (ap (λ (s : State). s.place) (sym c.self.view_is) ∙ c.in-Trailers.is) ∙ head in cc) c.take_trailers.ensures.ok c.take_trailers.ensures.kept

pub returns-in_ok-body-in-UntilEnd-clause-learns : goal.returns-in_ok-body-in-UntilEnd-clause-learns
returns-in_ok-body-in-UntilEnd-clause-learns c =
    learns_behind c.args.self.now c.args.self.now (take (length c.args.octets.now) c.args.octets.now)
    (λ count head. let clash : UntilEnd ≡ Head count = sym (ap (λ (s : State). s.place) (sym c.self.view_is) ∙ c.in-UntilEnd.is) ∙ head in cc) refl refl
