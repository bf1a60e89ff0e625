use Rattle.std.proofs.Common.{◌≡◌, Bool, true, false, List, Some, sym, ◌∙◌, ap, subst}
use Rattle.model.specs.Tables.{Table}
use Rattle.model.specs.Tapes.Note.{Fields}
use Rattle.frames.specs.Views.{frame_of}
use Rattle.theory_errors.specs.Rows.{Row}
use Rattle.theory_errors.specs.Tidy.{AreKept}
use Rattle.theory_header_tables.specs.Rule.{IsNoted}
use Rattle.connection_state.specs.Inbound.{Inbound, told_of}
use Rattle.theory_errors.specs.Judging.{is_crowded_in}
use Rattle.connection_state.specs.Blocks.{SettlesBy, fault_with}
use Rattle.model.specs.StreamStates.Standing.{Beyond}
use Rattle.streams.specs.Asked.{standing}
use Rattle.connection_state.specs.Draining.{AreAsEver}
use Rattle.connection_state.specs.declared.answers.FrameError.TheVariants as told
use Rattle.connection_state.specs.declared.answers.BlockJudged.TheVariants as judged
use Rattle.connection_state.specs.Fragments.{IsFragmentJudged, IsUndecodable}
use Rattle.connection_state.proofs.Kept.{if_ok, some_so, none_so}
use Rattle.connection_state.proofs.Fragmenting.{block_judged, block_unread, block_beyond}
use Rattle.connection_state.proofs.connection.Connection.take_block.Goals as goal

pub returns-in_default : goal.returns-in_default
returns-in_default c = λ setup outside before block for crowded by ends octets.
    let unread = none_so c.in_ok-decoded.field-0 c.in_default.is c.in_ok-decoded.ensures.unread in
    block_unread setup outside before c.args.self.now (frame_of c.args.view) block by c.read.new.self (ap (λ (o : Inbound). o.rows) c.in_ok-decoded.ensures.rest) (
    subst (λ (t : Table). IsUndecodable t block.fragments) (ap (λ (o : Inbound). o.table) by.same) (subst (λ xs. IsUndecodable c.args.self.now.table xs) (sym octets) unread)
    )

pub returns-then-is_beyond : goal.returns-then-is_beyond
returns-then-is_beyond c = λ setup outside before block for crowded by ends octets.
    let read = some_so _ c.in_ok-decoded.field-0 c.in-Some.decoded c.in-Some.is c.in_ok-decoded.ensures.read in
    let next : Table = c.read.new.self.table in
    let now = c.self.view_is ∙ c.in_ok-decoded.ensures.rest in
    let whole = now ∙ ap (λ (o : Inbound). record o { table = next }) by.same in
    let same : c.self.inside.streams ≡ before.rows = ap (λ (o : Inbound). o.rows) whole in
    let beyond = c.is_beyond.ensures.beyond c.if-is_beyond.true in
    let stands : standing before.drained before.rows c.args.view.id ≡ Beyond =
    sym (ap (λ (o : Inbound). standing o.drained o.rows c.args.view.id) whole) ∙ ap (λ d. standing d c.self.inside.streams c.args.view.id) beyond.0 ∙ beyond.1 in
    let noted : IsNoted (Some block) false before.table (Fields read.fields) next = subst (λ (t : Table). IsNoted (Some block) false t (Fields read.fields) next) (ap (λ (o : Inbound). o.table) by.same) (read.is_noted block octets) in
    subst (λ (o : Inbound). IsFragmentJudged setup outside before (frame_of c.args.view) (record o { has_come = true; last = c.args.view.id }) (judged.Failed told.Discarded)) (sym now) (
    subst (λ (rows : List Row). IsFragmentJudged setup outside before (frame_of c.args.view) (record c.args.self.now { has_come = true; last = c.args.view.id; rows = rows; table = next }) (judged.Failed told.Discarded)) (sym (ap (λ (o : Inbound). o.rows) by.same))
    (block_beyond setup outside before c.args.self.now (frame_of c.args.view) block by c.requires.of_stream (subst AreKept same c.self.invariant.kept) stands read.fields next noted))

pub returns : goal.returns
returns c = if_ok c.settle.result c.settle.ensures.settled (λ answer settles setup outside before block for crowded by ends octets.
    let read = some_so _ c.in_ok-decoded.field-0 c.in-Some.decoded c.in-Some.is c.in_ok-decoded.ensures.read in
    let same : c.self.inside.streams ≡ before.rows = ap (λ (o : Inbound). o.rows) (c.self.view_is ∙ c.in_ok-decoded.ensures.rest ∙ ap (λ (o : Inbound). record o { table = c.read.new.self.table }) by.same) in
    let next : Table = c.read.new.self.table in
    let ever : AreAsEver before.drained before.rows c.args.view.id =
    subst (λ (o : Inbound). AreAsEver o.drained o.rows c.args.view.id) (c.self.view_is ∙ c.in_ok-decoded.ensures.rest ∙ ap (λ (o : Inbound). record o { table = next }) by.same) (c.is_beyond.ensures.as_ever c.if-is_beyond.false) in
    let noted : IsNoted (Some block) false before.table (Fields read.fields) next = subst (λ (t : Table). IsNoted (Some block) false t (Fields read.fields) next) (ap (λ (o : Inbound). o.table) by.same) (read.is_noted block octets) in
    let settled : SettlesBy (fault_with c.args.crowded before.rows c.args.view.id read.fields block.ends) setup before.rows c.args.view.id read.fields block.ends c.settle.new.streams answer =
    subst (λ (rows : List Row). SettlesBy (fault_with c.args.crowded rows c.args.view.id read.fields block.ends) setup rows c.args.view.id read.fields block.ends c.settle.new.streams answer) same (subst (λ (e : Bool). SettlesBy (fault_with c.args.crowded c.self.inside.streams c.args.view.id read.fields e) setup c.self.inside.streams c.args.view.id read.fields e c.settle.new.streams answer) (sym ends) (settles setup read.fields for read.of_answer)) in
    let fits : SettlesBy (fault_with (is_crowded_in (told_of outside before)) before.rows c.args.view.id read.fields block.ends) setup before.rows c.args.view.id read.fields block.ends c.settle.new.streams answer =
    subst (λ (x : Bool). SettlesBy (fault_with x before.rows c.args.view.id read.fields block.ends) setup before.rows c.args.view.id read.fields block.ends c.settle.new.streams answer) (sym crowded) settled in
    subst (λ (o : Inbound). IsFragmentJudged setup outside before (frame_of c.args.view) (record o { has_come = true; last = c.args.view.id; rows = c.settle.new.streams }) answer) (sym (c.self.view_is ∙ c.in_ok-decoded.ensures.rest))
    (block_judged setup outside before c.args.self.now (frame_of c.args.view) block by c.requires.of_stream (subst AreKept same c.self.invariant.kept) ever read.fields next c.settle.new.streams answer noted fits))
