use Rattle.std.proofs.Common.{◌≡◌, ℕ, ◌+◌, ◌≤◌, ◌<◌, List, ◌++◌, length, Option, Some, sym, ◌∙◌, ap, subst, arith}
use Rattle.std.specs.Prelude.{is_some, option_map}
use Rattle.model.specs.Frames.{Frame, content}
use Rattle.model.specs.Decoding.{Partial}
use Rattle.model.specs.Limits.{longest_block, most_continuations}
use Rattle.theory_errors.specs.Rows.{find}
use Rattle.frames.specs.Views.{frame_of}
use Rattle.header_blocks.specs.Joining.{Joining}
use Rattle.connection_state.specs.Inbound.{Inbound, book_of}
use Rattle.connection_state.specs.Judgement.{behind}
use Rattle.connection_state.specs.contracts.connection.Connection.{the_view}
use Rattle.connection_state.proofs.Answering.{IsSound}
use Rattle.connection_state.proofs.Gathering.{of_continuation, IsBegun, continuation_later, IsShort, still_short, gathered_fault, more_book}
use Rattle.connection_state.proofs.connection.Connection.keep_more.Goals as goal

pub more-requires : goal.more-requires
more-requires c =
    let i : Inbound = the_view c.self.inside in
    let frame : Frame = frame_of c.args.view in
    let sound : IsSound i frame = subst (λ (x : Inbound). IsSound x frame) (sym c.self.view_is) c.requires.sound in
    let begun : IsBegun i frame = continuation_later i frame c.requires.kind sound in
    let short : IsShort i frame begun.block = still_short i frame c.requires.kind sound begun in
    record {
      block = begun.block;
      is_begun = begun.is;
      octets = subst (λ (xs : List ℕ). length begun.block.fragments + length xs ≤ longest_block) (sym c.requires.fragment) short.octets;
      frames = subst (λ n. n < most_continuations) (c.self.invariant.counted (ap is_some begun.is)) short.frames;
    }

pub overflow_add-self : goal.overflow_add-self
overflow_add-self c =
    let i : Inbound = the_view c.self.inside in
    let frame : Frame = frame_of c.args.view in
    let sound : IsSound i frame = subst (λ (x : Inbound). IsSound x frame) (sym c.self.view_is) c.requires.sound in
    let begun : IsBegun i frame = continuation_later i frame c.requires.kind sound in
    let frames : c.self.inside.continuations < 64 = (still_short i frame c.requires.kind sound begun).frames in
    grind (arith, frames)

pub returns-clause-faultless : goal.returns-clause-faultless
returns-clause-faultless c = λ outside. gathered_fault c.args.self.now (frame_of c.args.view) (of_continuation (frame_of c.args.view) c.requires.kind) c.requires.goes_on c.requires.sound outside (find c.args.self.now.rows c.args.view.id).outline

pub returns-clause-left : goal.returns-clause-left
returns-clause-left c = λ setup outside.
    let i : Inbound = the_view c.self.inside in
    let frame : Frame = frame_of c.args.view in
    let sound : IsSound i frame = subst (λ (x : Inbound). IsSound x frame) (sym c.self.view_is) c.requires.sound in
    let by : IsBegun i frame = continuation_later i frame c.requires.kind sound in
    let begun : c.more.new.self.begun ≡ Some (record by.block { fragments = by.block.fragments ++ content frame }) =
    ap (λ (j : Joining). j.begun) c.in_ok-more.ensures.begun
    ∙ ap (λ (o : Option Partial). option_map {T = Partial} (λ block. record block { fragments = block.fragments ++ c.args.fragment.now }) o) by.is
    ∙ ap (λ (xs : List ℕ). Some (record by.block { fragments = by.block.fragments ++ xs })) c.requires.fragment in
    more_book i frame c.requires.kind c.requires.goes_on sound c.self.invariant.kept setup outside by c.more.new.self.begun (c.self.inside.continuations + 1) begun (omega arith)
    ∙ ap (λ (x : Inbound). behind setup (book_of outside x) frame) c.self.view_is
