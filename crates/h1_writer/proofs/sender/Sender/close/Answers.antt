use Rattle.std.proofs.Common.{◌++◌, drop, IfOk, Result, Ok, Err}
use Rattle.model.specs.Http1Text.{chunk_text, last_chunk}
use Rattle.h1_writer.proofs.Stages as stages
use Rattle.h1_writer.proofs.sender.Sender.close.Goals as goal

if_ok : {T E : Type 0} {P Q : T → Type 0} (r : Result T E) → ((x : T) → P x → Q x) → IfOk r P → IfOk r Q
if_ok (Ok x) to p = to x p
if_ok (Err e) to p = tt

pub returns : goal.returns
returns c =
    if_ok c.close_chunk.result
    (λ text is. (
      chunk_text (drop c.args.body c.args.octets.items) ++ last_chunk c.args.trailers.now,
      is,
      stages.closes c.args.self (drop c.args.body c.args.octets.items) c.args.trailers.now c.requires.chunked (stages.some_left c.args.octets.items c.args.body c.requires.some),
    ))
    c.close_chunk.ensures
