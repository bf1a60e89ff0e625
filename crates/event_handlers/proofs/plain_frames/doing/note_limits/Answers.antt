use Rattle.std.proofs.Common.{◌∙◌, ap, sym, Option, Some}
use Rattle.model.specs.SettingValues.{header_table_size, values_of}
use Rattle.header_blocks.specs.Encoding.{Encoding, limits_with}
use Rattle.header_blocks.specs.declared.limits.Limits.{Limits}
use Rattle.event_handlers.proofs.plain_frames.Limits.{both_noted}
use Rattle.event_handlers.proofs.plain_frames.doing.note_limits.Goals as goal

pub returns : goal.returns
returns c = λ settings least last.
    c.peer_limit-2.ensures.noted
    ∙ ap (λ (e : Encoding). record e { limits = Some (limits_with e.limits c.unwrap_or.result) }) c.peer_limit.ensures.noted
    ∙ ap (λ (o : Option Limits). record c.args.encoder.now { limits = o }) (sym (both_noted c.args.encoder.now.limits (values_of header_table_size settings) c.in-Some.smallest c.unwrap_or.result c.args.change.last (sym c.in-Some.is ∙ least) last c.unwrap_or.ensures))
