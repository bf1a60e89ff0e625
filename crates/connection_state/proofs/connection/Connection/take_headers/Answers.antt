use Rattle.std.proofs.Common.{◌≡◌, true, false, if◌then◌else◌, None, sym, ◌∙◌, ap, subst}
use Rattle.std.specs.Prelude.{is_some}
use Rattle.model.specs.Frames.{ends_stream, content}
use Rattle.model.specs.Decoding.{joined}
use Rattle.frames.specs.Views.{frame_of}
use Rattle.connection_state.specs.Inbound.{Inbound}
use Rattle.connection_state.specs.contracts.connection.Connection.{the_view}
use Rattle.connection_state.proofs.Answering.{IsSound}
use Rattle.connection_state.proofs.Fragmenting.{goes_on_judged}
use Rattle.connection_state.proofs.Kept.{if_ok}
use Rattle.connection_state.proofs.Gathering.{headers_first, headers_of_stream, headers_complete}
use Rattle.connection_state.proofs.connection.Connection.take_headers.Goals as goal

pub invariant_of-self : goal.invariant_of-self
invariant_of-self c =
    let none = headers_first (the_view c.self.inside) (frame_of c.args.view) c.requires.kind (subst (λ (x : Inbound). IsSound x (frame_of c.args.view)) (sym c.self.view_is) c.requires.sound) in
    record {
      small = c.self.invariant.small;
      kept = c.self.invariant.kept;
      counted = λ some. absurd (let no : false ≡ true = sym (ap is_some none) ∙ some in cc);
      of_stream = c.self.invariant.of_stream;
      readable = c.self.invariant.readable;
    }

pub take_block-requires-clause-none_begun : goal.take_block-requires-clause-none_begun
take_block-requires-clause-none_begun c = headers_first (the_view c.self.inside) (frame_of c.args.view) c.requires.kind (subst (λ (x : Inbound). IsSound x (frame_of c.args.view)) (sym c.self.view_is) c.requires.sound)

pub take_block-requires-clause-of_stream : goal.take_block-requires-clause-of_stream
take_block-requires-clause-of_stream c = headers_of_stream c.args.self.now (frame_of c.args.view) c.requires.kind c.requires.sound

pub returns : goal.returns
returns c = if_ok c.take_block.result c.take_block.ensures (λ answer told setup outside for crowded.
    told setup outside c.args.self.now (record { id = c.args.view.id; ends = ends_stream (frame_of c.args.view); fragments = content (frame_of c.args.view) }) for crowded
    (headers_complete c.args.self.now _ (frame_of c.args.view) c.requires.kind (sym c.ends_headers.ensures ∙ c.if-not-ends_headers.false) c.requires.sound (ap (λ (o : Inbound). record o { continuations = 0 }) c.self.view_is))
    (sym c.ends_stream.ensures)
    (sym c.requires.fragment))

pub returns-then-not-ends_headers : goal.returns-then-not-ends_headers
returns-then-not-ends_headers c = λ setup outside for crowded.
    goes_on_judged setup outside c.args.self.now c.keep_first.new.self (frame_of c.args.view) (ap (λ b. if b then joined c.args.self.now.block (frame_of c.args.view) else None) (sym c.ends_headers.ensures ∙ c.if-not-ends_headers.true))
    (c.in_ok-keep_first.ensures.faultless outside) (c.in_ok-keep_first.ensures.left setup outside) c.in_ok-keep_first.ensures.table
