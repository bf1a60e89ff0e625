use Rattle.std.proofs.Common.{ℕ, ap, ◌∙◌}
use Rattle.model.specs.StreamStates as states
use Rattle.model.specs.StreamStates.{Standing}
use Rattle.stream_state.specs.Views.{kind_in}
use Rattle.streams.specs.Asked.{standing}
use Rattle.streams.proofs.Asked.{active_is, count_rows}
use Rattle.streams.proofs.Openings.{allows}
use Rattle.std.proofs.Common.{arith, ◌≡◌, ◌≤◌, length}
use Rattle.model.specs.Limits.{most_streams}
use Rattle.stream_state.specs.Views.{verdict_in}
use Rattle.streams.specs.Records.{rows_in}
use Rattle.streams.specs.Asked.{verdict}
use Rattle.streams.proofs.StreamTable.verdict.Goals as goal

pub returns-clause-is : goal.returns-clause-is
returns-clause-is c =
    let counted = active_is c.self.inside.entries.items c.self.inside.records.slots c.self.invariant in
    c.verdict_at.ensures
    ∙ ap (λ (s : Standing). states.verdict c.len.result s (kind_in c.args.kind)) c.standing-standing.ensures
    ∙ ap (λ (n : ℕ). states.verdict n (standing c.args.drained c.args.self.now c.args.id) (kind_in c.args.kind)) (c.len.ensures ∙ rw (← c.self.view_is) counted)

pub returns-clause-allows : goal.returns-clause-allows
returns-clause-allows c =
    let counted = active_is c.self.inside.entries.items c.self.inside.records.slots c.self.invariant in
    let few : length (rows_in c.self.inside.entries.items c.self.inside.records.slots) ≤ most_streams = omega (arith, count_rows c.self.inside.entries.items c.self.inside.records.slots, c.self.invariant.few) in
    let is : verdict_in c.verdict_at.result ≡ verdict c.args.drained c.args.self.now c.args.id (kind_in c.args.kind) =
    c.verdict_at.ensures
    ∙ ap (λ (s : Standing). states.verdict c.len.result s (kind_in c.args.kind)) c.standing-standing.ensures
    ∙ ap (λ (n : ℕ). states.verdict n (standing c.args.drained c.args.self.now c.args.id) (kind_in c.args.kind)) (c.len.ensures ∙ rw (← c.self.view_is) counted) in
    allows c.args.drained c.args.self.now c.args.id (kind_in c.args.kind) c.verdict_at.result (rw (← c.self.view_is) few) is
