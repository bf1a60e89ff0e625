use Rattle.std.proofs.Common.{sym, ap, ◌∙◌, take, length, ◌-◌}
use Rattle.model.specs.Http1Text.{chunk_text}
use Rattle.h1_writer.specs.Views.{stage_of}
use Rattle.h1_writer.proofs.Stages.{counts_on, holds_last, adds_chunk, on_ok}
use Rattle.h1_writer.proofs.sender.Sender.push.Goals as goal

pub returns-in_ok-extend_from_slice-in-Octets-clause-ok : goal.returns-in_ok-extend_from_slice-in-Octets-clause-ok
returns-in_ok-extend_from_slice-in-Octets-clause-ok c = (
  c.args.octets.now,
  c.in_ok-extend_from_slice-in-Octets.ensures.items,
  counts_on c.args.self.now c.in-Octets.left c.args.octets.now (sym c.self.view_is ∙ ap stage_of c.in-Octets.is) c.if-count-left.true,
)

pub returns-in_ok-extend_from_slice-in-Octets-2-clause-ok : goal.returns-in_ok-extend_from_slice-in-Octets-2-clause-ok
returns-in_ok-extend_from_slice-in-Octets-2-clause-ok c = (
  take (length c.args.octets.now - 1) c.args.octets.now,
  c.in_ok-extend_from_slice-in-Octets-2.ensures.items,
  holds_last c.args.self.now c.in-Octets.left c.args.octets.now (sym c.self.view_is ∙ ap stage_of c.in-Octets.is) c.in-len1-up.len_at_least c.if-count-left.false c.requires,
)

pub returns-in-Chunks-clause-ok : goal.returns-in-Chunks-clause-ok
returns-in-Chunks-clause-ok c =
    on_ok c.push_chunk.result
    (λ e. (chunk_text c.args.octets.now, e, adds_chunk c.args.self.now c.args.octets.now (sym c.self.view_is ∙ ap stage_of c.in-Chunks.is) c.in-len1-up.len_at_least))
    c.push_chunk.ensures.ok
