use Rattle.hpack_table.proofs.Walked.{has_start}
use Rattle.hpack_table.proofs.static_table.start_of.Goals as goal

pub returns : goal.returns
returns c = has_start c.args.name.now c.octet_at.result (rw (← c.slot_of.ensures) c.octet_at.ensures)
