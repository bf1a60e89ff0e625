use Rattle.std.proofs.Common.{◌≡◌, ℕ, List, ◌∷◌, reverse, Option, sym, ◌∙◌, ap, subst, Bool, nat_lt}
use Rattle.model.specs.Frames.{spell, goaway}
use Rattle.model.specs.Logs.Act.{CloseClient}
use Rattle.model.specs.Logs.Output.{ToClient}
use Rattle.model.specs.Tapes.{put}
use Rattle.model.specs.Tapes.Entry.{Did}
use Rattle.theory_errors.specs.Owing.{highest_in}
use Rattle.theory_errors.specs.Rows.{Row, ids_of}
use Rattle.upstream_connections.specs.Connections.{lives}
use Rattle.theory.specs.Ending.{frames_sent, closed_all}
use Rattle.refinement.specs.Performing.{put_all}
use Rattle.refinement.specs.View.{View}
use Rattle.model.specs.Limits.{most_untaken}
use Rattle.event_handlers.specs.ending.Reasons.{code_in}
use Rattle.event_handlers.proofs.ending.Closes.{on_ok}
use Rattle.event_handlers.proofs.ending.Goaways.{goaways, ends, code_told}
use Rattle.event_handlers.proofs.ending.closing.end.Goals as goal
use Rattle.event_handlers.proofs.ending.closing.end.Goals.{in-Some+in_ok-send_goaway, in_default}

pub returns : goal.returns
returns c =
    let last : ℕ = highest_in (ids_of c.args.session.now.inbound.rows) in
    -- the GOAWAY is put out, where there is one
    let crowded : Bool = nat_lt most_untaken c.args.session.now.untaken in
    let told : c.match-code.out ≡ put_all c.args.out.now (frames_sent (goaways last (code_told crowded (code_in c.args.why)))) = elim c.match-code.branch [
      | in-Some+in_ok-send_goaway w ↦
          w.out-is
          ∙ w.in_ok-send_goaway.ensures
          ∙ ap (λ (n : ℕ). put c.args.out.now (ToClient (spell (goaway n w.goaway_code-code.result)))) (w.highest.ensures ∙ ap (λ (rows : List Row). highest_in (ids_of rows)) (w.streams.ensures.is ∙ ap (λ (v : View). v.inbound.rows) c.session.view_is))
          ∙ ap (λ (n : ℕ). put c.args.out.now (ToClient (spell (goaway last n)))) w.goaway_code-code.ensures
          ∙ ap (λ (code : Option ℕ). put_all c.args.out.now (frames_sent (goaways last (code_told crowded code)))) (sym w.in-Some.is ∙ c.code.ensures)
      | in_default w ↦ w.out-is ∙ ap (λ (code : Option ℕ). put_all c.args.out.now (frames_sent (goaways last (code_told crowded code)))) (sym w.in_default.is ∙ c.code.ensures)
    ] in
    on_ok c.close_all.result
    (λ closes setup run s before d same rows untaken leads by.
    ends setup run s before c.args.session.now c.args.why d c.args.out.now c.match-code.out c.close_all.new.out told
    (subst (λ (v : View). c.close_all.new.out ≡ put_all c.match-code.out (Did CloseClient ∷ closed_all (reverse (lives v.upstreams.live)))) c.session.view_is closes)
    same rows untaken leads by)
    c.close_all.ensures
