use Rattle.std.proofs.Common.{rules, ◌<◌, false, Some, length, ap, ◌∙◌}
use Rattle.theory_responses.specs.Outbox.Part.{Octets}
use Rattle.send_buffer.specs.Views.{end_in}
use Rattle.send_buffer.proofs.Sent as laws
use Rattle.send_buffer.proofs.outbox.part_at.Goals as goal

pub returns-then-most-len : goal.returns-then-most-len
returns-then-most-len c =
    let more : c.args.most < length c.args.body.now = search rules in
    ap (λ octets. Some (Octets octets false)) c.front.ensures ∙ laws.some_left c.args.most c.args.body.now (end_in c.args.whole.now) more
