use Rattle.std.proofs.lemmas.Result.{on_ok_weaker}
use Rattle.header_blocks.proofs.Wrote.{not_shortened, raw_chosen, text_added}
use Rattle.header_blocks.proofs.representations.write_string.Goals as goal

pub returns-then-length-string-clause-ok : goal.returns-then-length-string-clause-ok
returns-then-length-string-clause-ok c =
    on_ok_weaker c.write_raw-then-length-string.result
    (λ r. raw_chosen c.args.compress c.args.string.now c.args.out.now.items c.write_raw-then-length-string.new.out.items (λ on. not_shortened c.args.string.now c.encoded_len-length.result c.encoded_len-length.ensures c.if-length-string.true) r)
    c.write_raw-then-length-string.ensures.ok

pub returns-clause-ok : goal.returns-clause-ok
returns-clause-ok c =
    rw c.if-not-compress.false
    (on_ok_weaker c.encode.result
    (λ e. text_added c.args.string.now c.args.out.now.items c.write.new.out.items c.encode.new.out.items c.encoded_len-length.result c.encoded_len-length.ensures c.if-length-string.false c.in_ok-write.ensures.ok e)
    c.encode.ensures.ok)
