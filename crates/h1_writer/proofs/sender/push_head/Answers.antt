use Rattle.h1_writer.proofs.Texts.{head_steps}
use Rattle.h1_writer.proofs.sender.push_head.Goals as goal

pub returns : goal.returns
returns c =
    head_steps c.args.keep c.args.head.now c.args.ended _ _ _ _ _ _ _ _ _ _ _ _ _ _ _ _ c.method.ensures c.path.ensures c.authority.ensures c.fields.ensures c.length.ensures
    c.in_ok-extend_from_slice.ensures.items c.in_ok-extend_from_slice-2.ensures.items c.in_ok-extend_from_slice-3.ensures.items c.in_ok-extend_from_slice-4.ensures.items
    c.in_ok-push_line.ensures c.in_ok-push_lines.ensures c.in_ok-push_line-2.ensures c.in_ok-push_framing.ensures c.in_ok-push_closing.ensures c.in_ok-extend_from_slice-5.ensures.items
