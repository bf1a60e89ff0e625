use Rattle.std.proofs.Common.{◌≡◌, ℕ, List, ◌∷◌, reverse, sym, ◌∙◌, ap, subst, []}
use Rattle.model.specs.Frames.{spell, goaway, enhance_your_calm}
use Rattle.model.specs.Logs.{Output}
use Rattle.model.specs.Logs.Act.{CloseClient}
use Rattle.model.specs.Logs.Output.{ToClient}
use Rattle.model.specs.Tapes.{put}
use Rattle.model.specs.Tapes.Entry.{Sent, Did}
use Rattle.theory_errors.specs.Owing.{highest_in}
use Rattle.theory_errors.specs.Quiet.{noted_of}
use Rattle.theory_errors.specs.Rows.{Row, ids_of}
use Rattle.upstream_connections.specs.Connections.{lives}
use Rattle.theory.specs.Ending.{closed_all}
use Rattle.refinement.specs.Performing.{put_all}
use Rattle.refinement.specs.View.{View}
use Rattle.refinement.proofs.Performing.{put_behind}
use Rattle.event_handlers.proofs.ending.Closes.{on_ok}
use Rattle.event_handlers.proofs.ending.closing.calm.Goals as goal

pub returns : goal.returns
returns c =
    let last : ℕ = highest_in (ids_of c.args.session.now.inbound.rows) in
    let told : c.send_goaway.new.self ≡ put c.args.out.now (ToClient (spell (goaway last enhance_your_calm))) =
    c.in_ok-send_goaway.ensures ∙ ap (λ (n : ℕ). put c.args.out.now (ToClient (spell (goaway n enhance_your_calm)))) (c.highest.ensures ∙ ap (λ (rows : List Row). highest_in (ids_of rows)) (c.streams.ensures.is ∙ ap (λ (v : View). v.inbound.rows) c.session.view_is)) in
    on_ok c.close_all.result
    (λ closes.
    subst (λ (v : View). c.close_all.new.out ≡ put_all c.send_goaway.new.self (Did CloseClient ∷ closed_all (reverse (lives v.upstreams.live)))) c.session.view_is closes
    ∙ ap (λ (o : List Output). put_all o (Did CloseClient ∷ closed_all (reverse (lives c.args.session.now.upstreams.live)))) told
    ∙ sym (put_behind c.args.out.now (Did CloseClient ∷ closed_all (reverse (lives c.args.session.now.upstreams.live))) (Sent (noted_of (goaway last enhance_your_calm)) ∷ [])))
    c.close_all.ensures
