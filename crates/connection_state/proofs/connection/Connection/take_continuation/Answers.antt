use Rattle.std.proofs.Common.{◌≡◌, ◌==◌, if◌then◌else◌, ℕ, suc, ◌+◌, ◌≤◌, ◌<◌, List, ◌++◌, length, Option, Some, None, sym, ◌∙◌, ap, subst, arith}
use Rattle.std.specs.Prelude.{is_some, option_map}
use Rattle.std.proofs.lemmas.Bool.{eqb-true}
use Rattle.model.specs.Frames.{Frame, content}
use Rattle.model.specs.Decoding.{Partial, joined}
use Rattle.model.specs.Limits.{longest_block, most_continuations}
use Rattle.frames.specs.Views.{frame_of}
use Rattle.header_blocks.specs.Joining.{Joining, continues}
use Rattle.connection_state.specs.Inbound.{Inbound}
use Rattle.connection_state.specs.contracts.connection.Connection.{the_view}
use Rattle.connection_state.proofs.Answering.{IsSound}
use Rattle.connection_state.proofs.Fragmenting.{goes_on_judged}
use Rattle.connection_state.proofs.Kept.{if_ok}
use Rattle.connection_state.proofs.Gathering.{IsBegun, continuation_later, IsShort, still_short, continuation_completes}
use Rattle.connection_state.proofs.connection.Connection.take_continuation.Goals as goal

-- the block with one fragment more
more_is : (j : Joining) (begun : Partial) (fragment octets : List ℕ) → j.begun ≡ Some begun → fragment ≡ octets → (continues j fragment).begun ≡ Some (record begun { fragments = begun.fragments ++ octets })
more_is j begun fragment octets is same =
    ap (λ (o : Option Partial). option_map {T = Partial} (λ block. record block { fragments = block.fragments ++ fragment }) o) is
    ∙ ap (λ (xs : List ℕ). Some (record begun { fragments = begun.fragments ++ xs })) same

some_same : (a b : Partial) → Some a ≡ Some b → a ≡ b
some_same a b is = cc

pub more-requires : goal.more-requires
more-requires c =
    let i : Inbound = the_view c.self.inside in
    let frame : Frame = frame_of c.args.view in
    let sound : IsSound i frame = subst (λ (x : Inbound). IsSound x frame) (sym c.self.view_is) c.requires.sound in
    let begun : IsBegun i frame = continuation_later i frame c.requires.kind sound in
    let short : IsShort i frame begun.block = still_short i frame c.requires.kind sound begun in
    record {
      block = begun.block;
      is_begun = begun.is;
      octets = subst (λ (xs : List ℕ). length begun.block.fragments + length xs ≤ longest_block) (sym c.requires.fragment) short.octets;
      frames = subst (λ n. n < most_continuations) (c.self.invariant.counted (ap is_some begun.is)) short.frames;
    }

pub unreachable-requires : goal.unreachable-requires
unreachable-requires c =
    let i : Inbound = the_view c.self.inside in
    let frame : Frame = frame_of c.args.view in
    let sound : IsSound i frame = subst (λ (x : Inbound). IsSound x frame) (sym c.self.view_is) c.requires.sound in
    let begun : IsBegun i frame = continuation_later i frame c.requires.kind sound in
    let no : None ≡ Some (record begun.block { fragments = begun.block.fragments ++ content frame }) =
    sym c.in_default.is ∙ c.finish.ensures.block ∙ ap (λ (j : Joining). j.begun) c.in_ok-more.ensures.begun ∙ more_is c.self.inside.joiner begun.block c.args.fragment.now (content frame) begun.is c.requires.fragment in
    cc

pub take_block-requires-clause-of_stream : goal.take_block-requires-clause-of_stream
take_block-requires-clause-of_stream c =
    let i : Inbound = the_view c.self.inside in
    let frame : Frame = frame_of c.args.view in
    let sound : IsSound i frame = subst (λ (x : Inbound). IsSound x frame) (sym c.self.view_is) c.requires.sound in
    let begun : IsBegun i frame = continuation_later i frame c.requires.kind sound in
    ap (λ n. n == 0) (eqb-true frame.id begun.block.id begun.same) ∙ c.self.invariant.of_stream begun.block begun.is

pub returns : goal.returns
returns c = if_ok c.take_block.result c.take_block.ensures (λ answer told setup outside for crowded.
    let i : Inbound = the_view c.self.inside in
    let frame : Frame = frame_of c.args.view in
    let by : IsBegun c.args.self.now frame = continuation_later c.args.self.now frame c.requires.kind c.requires.sound in
    let block : Partial = record by.block { fragments = by.block.fragments ++ content frame } in
    let whole : c.in-Some.block ≡ block = some_same c.in-Some.block block (
    sym c.in-Some.is ∙ c.finish.ensures.block ∙ ap (λ (j : Joining). j.begun) c.in_ok-more.ensures.begun
    ∙ more_is c.self.inside.joiner by.block c.args.fragment.now (content frame) (ap (λ (o : Inbound). o.block) c.self.view_is ∙ by.is) c.requires.fragment
    ) in
    told setup outside c.args.self.now block for crowded
    (continuation_completes c.args.self.now _ frame c.requires.kind (sym c.ends_headers.ensures ∙ c.if-not-ends_headers.false) c.requires.sound by (
    ap (λ (j : Joining). record i { block = j.begun; continuations = c.self.inside.continuations + 1 }) c.finish.ensures.nothing
    ∙ ap (λ n. record i { block = None; continuations = n }) (omega arith)
    ∙ ap (λ (o : Inbound). record o { block = None; continuations = suc o.continuations }) c.self.view_is
    ))
    (sym (c.ends.ensures ∙ ap (λ (p : Partial). p.ends) whole))
    (sym (c.fragments.ensures ∙ ap (λ (p : Partial). p.fragments) whole)))

pub returns-then-not-ends_headers : goal.returns-then-not-ends_headers
returns-then-not-ends_headers c = λ setup outside for crowded.
    goes_on_judged setup outside c.args.self.now c.keep_more.new.self (frame_of c.args.view) (ap (λ b. if b then joined c.args.self.now.block (frame_of c.args.view) else None) (sym c.ends_headers.ensures ∙ c.if-not-ends_headers.true))
    (c.in_ok-keep_more.ensures.faultless outside) (c.in_ok-keep_more.ensures.left setup outside) c.in_ok-keep_more.ensures.table
