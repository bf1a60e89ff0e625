use Rattle.std.proofs.Common.{◌≡◌, true, false, refl, ◌∙◌, ap, arith}
use Rattle.model.specs.Tables.{added}
use Rattle.std.proofs.lemmas.Result.{on_ok_weaker}
use Rattle.header_blocks.specs.Encoding.{is_indexing}
use Rattle.header_blocks.proofs.Bounded.{bounded_if_added}
use Rattle.header_blocks.proofs.Wrote.{IsAbsent, absent_named, absent_new, index_added, left_out_added, inserted_added}
use Rattle.header_blocks.proofs.representations.write_field.Goals as goal
use Rattle.header_blocks.proofs.representations.write_field.Goals.{in-Name, in-Absent}

pub returns-in-Both-clause-ok : goal.returns-in-Both-clause-ok
returns-in-Both-clause-ok c =
    let p = rw (c.name.ensures, c.value.ensures) at c.in-Both.ensures in
    on_ok_weaker c.write.result (λ w. index_added (is_indexing c.args.rules.policy) c.args.table.now c.args.table.now c.args.field.now c.in-Both.index c.args.out.now.items c.write.new.out.items c.requires.plain p w refl) c.write.ensures.ok

pub returns-then-not-inserts-clause-ok : goal.returns-then-not-inserts-clause-ok
returns-then-not-inserts-clause-ok c =
    let absent : IsAbsent c.args.table.now c.args.field.now c.match-find.index = elim c.match-find.branch [
      | in-Name w ↦ (let p = rw (c.name.ensures, c.value.ensures) at w.in-Name.ensures in rw w.index-is (absent_named c.args.table.now c.args.field.now w.in-Name.index p.0 p.1))
      | in-Absent w ↦ (let p = rw c.name.ensures at w.in-Absent.ensures in absent_new c.args.table.now c.args.field.now c.match-find.index p w.index-is)
    ] in
    on_ok_weaker c.write_literal.result (λ l. left_out_added (is_indexing c.args.rules.policy) c.args.table.now c.args.table.now c.args.field.now c.match-find.index c.args.out.now.items c.write_literal.new.out.items c.requires.plain absent
    (rw c.compresses-compress.ensures at (l c.args.table.now absent.name)) (λ on fits. let clash : false ≡ true = c.if-not-inserts.ensures.1 (record { is_indexing = on; fits = omega (arith, fits, c.requires.maximum) }) in cc) refl) c.write_literal.ensures.ok

pub returns-clause-ok : goal.returns-clause-ok
returns-clause-ok c =
    let absent : IsAbsent c.args.table.now c.args.field.now c.match-find.index = elim c.match-find.branch [
      | in-Name w ↦ (let p = rw (c.name.ensures, c.value.ensures) at w.in-Name.ensures in rw w.index-is (absent_named c.args.table.now c.args.field.now w.in-Name.index p.0 p.1))
      | in-Absent w ↦ (let p = rw c.name.ensures at w.in-Absent.ensures in absent_new c.args.table.now c.args.field.now c.match-find.index p w.index-is)
    ] in
    let inserts = c.if-not-inserts.ensures.0 refl in
    on_ok_weaker c.add.result (λ is. inserted_added (is_indexing c.args.rules.policy) c.args.table.now c.add.new.self c.args.field.now c.match-find.index c.args.out.now.items c.write_literal-2.new.out.items inserts.is_indexing absent
    (rw c.compresses-compress.ensures at (c.in_ok-write_literal.ensures.ok c.args.table.now absent.name)) (omega (arith, inserts.fits, c.requires.maximum)) (is ∙ ap (λ f. added f c.args.table.now) c.in_ok-copy.ensures)) c.add.ensures.ok

pub returns-clause-bounded : goal.returns-clause-bounded
returns-clause-bounded c = λ b. bounded_if_added c.add.result c.in_ok-copy.field-0 c.args.table.now c.add.new.self c.add.ensures.ok c.add.ensures.err b
