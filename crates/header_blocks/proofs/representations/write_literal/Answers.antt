use Rattle.std.proofs.lemmas.Result.{on_ok_weaker}
use Rattle.header_blocks.proofs.Wrote.{NameFollows, name_written, nothing_written, literal_added}
use Rattle.header_blocks.proofs.representations.write_literal.Goals as goal
use Rattle.header_blocks.proofs.representations.write_literal.Goals.{then-index-eq0+in_ok-write_string, else-index-eq0}

pub returns-clause-ok : goal.returns-clause-ok
returns-clause-ok c =
    let follows : NameFollows c.args.compress c.args.index c.args.field.now.name c.write.new.out.items c.if-index-eq0.out.items = elim c.if-index-eq0.branch [
      | then-index-eq0+in_ok-write_string w ↦ name_written c.args.compress c.args.index c.args.field.now.name c.write.new.out.items c.if-index-eq0.out.items w.if-index-eq0.true (rw (w.out-is, ← w.name.ensures) w.in_ok-write_string.ensures.ok)
      | else-index-eq0 w ↦ nothing_written c.args.compress c.args.index c.args.field.now.name c.write.new.out.items c.if-index-eq0.out.items w.if-index-eq0.false (rw w.out-is)
    ] in
    on_ok_weaker c.write_string-2.result
    (λ v table is. literal_added c.args.compress c.args.prefix c.args.mark table c.args.index c.args.field.now c.args.out.now.items c.write.new.out.items c.if-index-eq0.out.items c.write_string-2.new.out.items c.in_ok-write.ensures.ok follows is
    (rw (← c.value.ensures) v))
    c.write_string-2.ensures.ok
