use Rattle.std.proofs.Common.{◌≡◌, ◌==◌, Bool, List, ℕ, Some, sym, ◌∙◌, ap, subst}
use Rattle.model.specs.Frames.{Frame, ends_stream, content}
use Rattle.theory_errors.specs.Rows.{find}
use Rattle.frames.specs.Views.{frame_of}
use Rattle.header_blocks.specs.Joining.{Joining}
use Rattle.connection_state.specs.Inbound.{Inbound, book_of}
use Rattle.connection_state.specs.Judgement.{behind}
use Rattle.connection_state.specs.contracts.connection.Connection.{the_view}
use Rattle.connection_state.proofs.Answering.{IsSound}
use Rattle.connection_state.proofs.Gathering.{of_headers, headers_first, headers_of_stream, gathered_fault, first_book, id_of}
use Rattle.connection_state.proofs.connection.Connection.keep_first.Goals as goal

pub first-requires-clause-nothing : goal.first-requires-clause-nothing
first-requires-clause-nothing c = headers_first (the_view c.self.inside) (frame_of c.args.view) c.requires.kind (subst (λ (x : Inbound). IsSound x (frame_of c.args.view)) (sym c.self.view_is) c.requires.sound)

pub returns-clause-faultless : goal.returns-clause-faultless
returns-clause-faultless c = λ outside. gathered_fault c.args.self.now (frame_of c.args.view) (of_headers (frame_of c.args.view) c.requires.kind) c.requires.goes_on c.requires.sound outside (find c.args.self.now.rows c.args.view.id).outline

pub returns-clause-left : goal.returns-clause-left
returns-clause-left c = λ setup outside.
    let i : Inbound = the_view c.self.inside in
    let frame : Frame = frame_of c.args.view in
    let sound : IsSound i frame = subst (λ (x : Inbound). IsSound x frame) (sym c.self.view_is) c.requires.sound in
    let begun : c.first.new.self.begun ≡ Some (record { id = frame.id; ends = ends_stream frame; fragments = content frame }) =
    ap (λ (j : Joining). j.begun) c.in_ok-first.ensures.begun
    ∙ ap (λ (e : Bool). Some (record { id = frame.id; ends = e; fragments = c.args.fragment.now })) c.ends_stream.ensures
    ∙ ap (λ (xs : List ℕ). Some (record { id = frame.id; ends = ends_stream frame; fragments = xs })) c.requires.fragment in
    first_book i frame c.requires.kind c.requires.goes_on sound c.self.invariant.kept setup outside c.first.new.self.begun begun
    ∙ ap (λ (x : Inbound). behind setup (book_of outside x) frame) c.self.view_is

pub invariant_of-self-2 : goal.invariant_of-self-2
invariant_of-self-2 c =
    let i : Inbound = the_view c.self.inside in
    let frame : Frame = frame_of c.args.view in
    let sound : IsSound i frame = subst (λ (x : Inbound). IsSound x frame) (sym c.self.view_is) c.requires.sound in
    record {
      small = c.self.invariant.small;
      kept = c.self.invariant.kept;
      counted = λ some. sym (ap (λ (j : Joining). j.continuations) c.in_ok-first.ensures.begun);
      of_stream = λ block is. ap (λ n. n == 0) (ap id_of (sym is ∙ ap (λ (j : Joining). j.begun) c.in_ok-first.ensures.begun)) ∙ headers_of_stream i frame c.requires.kind sound;
      readable = c.self.invariant.readable;
    }
