use Rattle.std.proofs.Common.{rules, ◌≡◌, inl, inr, true, false, Some, None, sym, ap, ◌∙◌}
use Rattle.model.specs.Octets.{is_empty}
use Rattle.theory_responses.specs.Outbox.{part_of}
use Rattle.theory_responses.specs.Outbox.Outbox.{Behind}
use Rattle.send_buffer.specs.Views.{end_in}
use Rattle.send_buffer.proofs.Sent as laws
use Rattle.send_buffer.proofs.outbox.Outbox.take_trailers.Goals as goal
use Rattle.send_buffer.proofs.outbox.Outbox.take_trailers.Goals.{in_default-whole-via-in-Some+in-None-1, in_default-whole-via-in-None-1}

pub returns-then-not-is_empty-clause-none : goal.returns-then-not-is_empty-clause-none
returns-then-not-is_empty-clause-none c =
    let old : c.args.self.now ≡ Behind c.in-Behind.body (end_in c.in-Behind.whole) = search rules in
    let some : is_empty c.in-Behind.body ≡ false = search rules in
    λ part is. laws.octets_first c.in-Behind.body (end_in c.in-Behind.whole) some part (sym (ap (part_of 1) old) ∙ is)

pub returns-in_default-whole-clause-none : goal.returns-in_default-whole-clause-none
returns-in_default-whole-clause-none c =
    let old : c.args.self.now ≡ Behind c.in-Behind.body (end_in c.in-Behind.whole) = search rules in
    let none : is_empty c.in-Behind.body ≡ true = search rules in
    elim c.in_default-whole-1.branch [
      | in_default-whole-via-in-Some+in-None-1 w ↦ let bare : c.in-Behind.whole ≡ Some None = search rules in λ part is. laws.none_at_end c.in-Behind.body c.in-Behind.whole none (inr bare) part (sym (ap (part_of 1) old) ∙ is)
      | in_default-whole-via-in-None-1 w ↦ let unknown : c.in-Behind.whole ≡ None = search rules in λ part is. laws.none_at_end c.in-Behind.body c.in-Behind.whole none (inl unknown) part (sym (ap (part_of 1) old) ∙ is)
    ]
