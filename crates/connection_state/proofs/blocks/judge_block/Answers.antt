use Rattle.std.proofs.Common.{◌≡◌, ◌==◌, ℕ, true, false, List, Some, None, sym, ◌∙◌, ap}
use Rattle.std.specs.Prelude.{option_map}
use Rattle.model.specs.Errors.{Fault}
use Rattle.model.specs.Errors.Fault.{Connection, Stream, Discarded}
use Rattle.model.specs.ErrorTable.{fault_of, unless_of_stream}
use Rattle.stream_state.specs.Views.{verdict_in}
use Rattle.stream_state.specs.declared.verdicts.Verdict.{Verdict as Answer}
use Rattle.theory_errors.specs.Rows.{Row}
use Rattle.streams.specs.Asked as asked
use Rattle.streams.specs.Asked.{AllowsOpening}
use Rattle.connection_state.specs.Judgement.{fault_told, is_of_stream}
use Rattle.connection_state.specs.Blocks.{IsOpenOrIdle}
use Rattle.connection_state.proofs.BlockRows.{wanted_by}
use Rattle.connection_state.proofs.blocks.judge_block.Goals as goal

-- where the state of its stream allows a block
passing : (rows : List Row) (id : ℕ) (a : Answer) → (id == 0) ≡ false → verdict_in a ≡ asked.verdict false rows id 1 → AllowsOpening a rows id → fault_of (asked.verdict false rows id 1) ≡ None → IsOpenOrIdle rows id
passing rows id a of_stream is allows passes =
    wanted_by rows id a of_stream is allows (ap unless_of_stream passes) (λ discarded. let no : None ≡ Some Discarded = sym passes ∙ discarded in cc)

-- where it is an error of the stream
failing : (rows : List Row) (id : ℕ) (a : Answer) (f : Fault) → (id == 0) ≡ false → verdict_in a ≡ asked.verdict false rows id 1 → AllowsOpening a rows id → fault_of (asked.verdict false rows id 1) ≡ Some f → is_of_stream (Some f) ≡ true → IsOpenOrIdle rows id
failing rows id a (Stream code) of_stream is allows fails soft =
    wanted_by rows id a of_stream is allows (ap unless_of_stream fails) (λ discarded. let no : Some (Stream code) ≡ Some Discarded = sym fails ∙ discarded in cc)
failing rows id a (Connection code) of_stream is allows fails soft = absurd (let no : false ≡ true = soft in cc)
failing rows id a Discarded of_stream is allows fails soft = absurd (let no : false ≡ true = soft in cc)

pub refuse-requires-clause-wanted : goal.refuse-requires-clause-wanted
refuse-requires-clause-wanted c = failing c.args.streams.now c.args.id c.verdict.result (fault_told c.in-Some.fault) c.requires.of_stream c.verdict.ensures.is c.verdict.ensures.allows
    (ap fault_of (sym c.verdict.ensures.is) ∙ sym c.fault_of.ensures ∙ ap (option_map fault_told) c.in-Some.is)

pub kept_before-before-requires : goal.kept_before-before-requires
kept_before-before-requires c = record { wanted = passing c.args.streams.now c.args.id c.verdict.result c.requires.of_stream c.verdict.ensures.is c.verdict.ensures.allows (ap fault_of (sym c.verdict.ensures.is) ∙ sym c.fault_of.ensures ∙ ap (option_map fault_told) c.in_default.is) }

pub pass_over-requires-clause-wanted : goal.pass_over-requires-clause-wanted
pass_over-requires-clause-wanted c = passing c.args.streams.now c.args.id c.verdict.result c.requires.of_stream c.verdict.ensures.is c.verdict.ensures.allows (ap fault_of (sym c.verdict.ensures.is) ∙ sym c.fault_of.ensures ∙ ap (option_map fault_told) c.in_default.is)

pub answer-requires-clause-wanted : goal.answer-requires-clause-wanted
answer-requires-clause-wanted c = passing c.args.streams.now c.args.id c.verdict.result c.requires.of_stream c.verdict.ensures.is c.verdict.ensures.allows (ap fault_of (sym c.verdict.ensures.is) ∙ sym c.fault_of.ensures ∙ ap (option_map fault_told) c.in_default.is)

pub take_fields-requires-clause-wanted : goal.take_fields-requires-clause-wanted
take_fields-requires-clause-wanted c = passing c.args.streams.now c.args.id c.verdict.result c.requires.of_stream c.verdict.ensures.is c.verdict.ensures.allows (ap fault_of (sym c.verdict.ensures.is) ∙ sym c.fault_of.ensures ∙ ap (option_map fault_told) c.in_default.is)
