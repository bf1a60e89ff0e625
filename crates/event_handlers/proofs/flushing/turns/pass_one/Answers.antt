use Rattle.std.proofs.Common.{◌<◌, ◌≤◌, sym, ◌∙◌, ap, subst, refl, if◌then◌else◌, arith, ◌≡◌, true, false}
use Rattle.connection_state.specs.Inbound.{Inbound}
use Rattle.theory_responses.specs.State as theory_responses
use Rattle.send_queue.specs.Asked.{windows_over}
use Rattle.streams.specs.Asked.{has}
use Rattle.upstream_connections.specs.Kept.{State as Upstream}
use Rattle.upstream_connections.specs.Connections.{lives}
use Rattle.refinement.specs.View.{View, balanced, waiting_for}
use Rattle.refinement.specs.Rest.{NoneCut, back_of}
use Rattle.refinement.specs.Bringing.{PerformsOwn}
use Rattle.refinement.proofs.Bringing.{own_then}
use Rattle.event_handlers.specs.Stopping.{EndsFrom}
use Rattle.event_handlers.proofs.Calming.{calm_behind}
use Rattle.event_handlers.proofs.Results.{stopped}
use Rattle.event_handlers.specs.flushing.Changes.{ended, put_at_end, IsPartSent}
use Rattle.event_handlers.proofs.flushing.Performing.{turn_active, turn_ready, part_performs, ends_then, active_has, part_over}
use Rattle.event_handlers.specs.Closings.{IsAbout}
use Rattle.event_handlers.proofs.Stays.{on_as}
use Rattle.event_handlers.proofs.Closings.{about_but, but_stays}
use Rattle.event_handlers.proofs.paying.Rows.{active_goes_on}
use Rattle.event_handlers.proofs.flushing.After.{Stays, sent_stays, sent_about, sent_waits, sent_none_done}
use Rattle.event_handlers.proofs.flushing.turns.pass_one.Goals as goal

pub send_part-requires-clause-ready : goal.send_part-requires-clause-ready
send_part-requires-clause-ready c =
    let u = c.args.session.now in
    turn_ready (windows_over u.inbound.rows u.inbound.first_size u.inbound.window) u.offers c.args.id c.requires.turn

pub send_part-requires-clause-live : goal.send_part-requires-clause-live
send_part-requires-clause-live c =
    let moves = c.requires.reached in
    turn_active moves.0 moves.3.0 moves.3.1 c.args.session.now (back_of moves.1) c.args.id moves.3.2 c.requires.turn

pub send_part-requires-clause-small : goal.send_part-requires-clause-small
send_part-requires-clause-small c = c.requires.numbered c.args.id (active_has c.args.session.now.inbound.rows c.args.id (send_part-requires-clause-live c))

pub end_stream-requires : goal.end_stream-requires
end_stream-requires c =
    let moves = c.requires.reached in
    record { small = c.requires.numbered c.args.id (active_has c.args.session.now.inbound.rows c.args.id (turn_active moves.0 moves.3.0 moves.3.1 c.args.session.now (back_of moves.1) c.args.id moves.3.2 c.requires.turn)) }

pub return_dropped-requires : goal.return_dropped-requires
return_dropped-requires c =
    let u = c.args.session.now in
    let v = c.send_part.new.session in
    let moves = c.requires.reached in
    let live = turn_active moves.0 moves.3.0 moves.3.1 u (back_of moves.1) c.args.id moves.3.2 c.requires.turn in
    let small = c.requires.numbered c.args.id (active_has u.inbound.rows c.args.id live) in
    let none = moves.2 (active_goes_on u c.args.id live) in
    let first = subst (λ n. Rattle.refinement.specs.View.Leads moves.0 moves.3.0 u (back_of n) moves.3.1) none moves.3.2 in
    let here =
    ends_then u c.args.id c.requires.none_cut c.requires.turn small c.requires.few moves.0 c.args.out.now v c.send_part.new.out (subst (λ b. IsPartSent u c.args.out.now c.args.id b v c.send_part.new.out) c.if-ends.true c.in_ok-ends.ensures.sent) c.in_ok-dropped.ensures.few c.in_ok-dropped.dropped c.end_stream.new.session c.end_stream.new.out
    (c.in_ok-dropped.ensures.dropped ∙ sent_waits u c.args.out.now c.args.id c.in_ok-ends.ends v c.send_part.new.out c.in_ok-ends.ensures.sent) c.in_ok-dropped.ensures.kept c.in_ok-dropped.ensures.puts moves.3.0 moves.3.1 first in
    record { reached = (moves.0, (_, here.segment.state, here.segment.leads)) }

pub close_unserved-requires : goal.close_unserved-requires
close_unserved-requires c =
    let u = c.args.session.now in
    let v = c.send_part.new.session in
    let back = c.in_ok-return_dropped.ensures.stays in
    but_stays c.args.id c.end_stream.new.session c.return_dropped.new.session back.served (ap (λ (x : Upstream). lives x.live) back.upstreams)
    (about_but c.args.id u c.end_stream.new.session
    (subst (λ (w : View). IsAbout c.args.id u w) (sym c.in_ok-dropped.ensures.kept) (sent_about u c.args.out.now c.args.id c.in_ok-ends.ends v c.send_part.new.out c.in_ok-ends.ensures.sent)) c.requires.none_done)

pub returns-in_ok-close_unserved-clause-performs : goal.returns-in_ok-close_unserved-clause-performs
returns-in_ok-close_unserved-clause-performs c back is_back =
    let u = c.args.session.now in
    let v = c.send_part.new.session in
    let moves = c.requires.reached in
    let live = turn_active moves.0 moves.3.0 moves.3.1 u (back_of moves.1) c.args.id moves.3.2 c.requires.turn in
    let small = c.requires.numbered c.args.id (active_has u.inbound.rows c.args.id live) in
    let none = is_back (active_goes_on u c.args.id live) in
    let returned = c.in_ok-return_dropped.ensures.performs in (
      returned.0,
      (λ on. returned.1 (on_as c.return_dropped.new.session c.close_unserved.new.session c.in_ok-close_unserved.ensures.inbound on)),
      λ setup.
          subst (λ n. PerformsOwn setup u (back_of n) c.args.out.now c.close_unserved.new.session (back_of returned.0) c.close_unserved.new.out) (sym none)
          (own_then setup u c.return_dropped.new.session c.close_unserved.new.session balanced (back_of returned.0) (back_of returned.0) c.args.out.now c.return_dropped.new.out c.close_unserved.new.out
          (own_then setup u c.end_stream.new.session c.return_dropped.new.session balanced (back_of c.in_ok-dropped.dropped) (back_of returned.0) c.args.out.now c.end_stream.new.out c.return_dropped.new.out
          (ends_then u c.args.id c.requires.none_cut c.requires.turn small c.requires.few setup c.args.out.now v c.send_part.new.out (subst (λ b. IsPartSent u c.args.out.now c.args.id b v c.send_part.new.out) c.if-ends.true c.in_ok-ends.ensures.sent) c.in_ok-dropped.ensures.few c.in_ok-dropped.dropped c.end_stream.new.session c.end_stream.new.out
          (c.in_ok-dropped.ensures.dropped ∙ sent_waits u c.args.out.now c.args.id c.in_ok-ends.ends v c.send_part.new.out c.in_ok-ends.ensures.sent) c.in_ok-dropped.ensures.kept c.in_ok-dropped.ensures.puts)
          (returned.2 setup))
          (c.in_ok-close_unserved.ensures.performs setup returned.0)),
    )

pub returns-in_ok-close_unserved-clause-none_cut : goal.returns-in_ok-close_unserved-clause-none_cut
returns-in_ok-close_unserved-clause-none_cut c =
    let v = c.send_part.new.session in
    let stays = subst (λ b. Stays c.args.session.now (if b then ended c.args.id v else v)) c.if-ends.true (sent_stays c.args.session.now c.args.out.now c.args.id c.in_ok-ends.ends v c.send_part.new.out c.in_ok-ends.ensures.sent) in
    subst (λ (o : theory_responses.State). NoneCut o) (sym (c.in_ok-close_unserved.ensures.offers ∙ c.in_ok-return_dropped.ensures.stays.offers ∙ ap (λ (w : View). w.offers) c.in_ok-dropped.ensures.kept)) (stays.none_cut c.requires.none_cut)

pub returns-in_ok-close_unserved-clause-numbered : goal.returns-in_ok-close_unserved-clause-numbered
returns-in_ok-close_unserved-clause-numbered c id there =
    let v = c.send_part.new.session in
    let stays = subst (λ b. Stays c.args.session.now (if b then ended c.args.id v else v)) c.if-ends.true (sent_stays c.args.session.now c.args.out.now c.args.id c.in_ok-ends.ends v c.send_part.new.out c.in_ok-ends.ensures.sent) in
    c.requires.numbered id (sym (stays.opened id) ∙ sym (ap (λ (i : Inbound). has i.rows id) c.in_ok-close_unserved.ensures.inbound ∙ c.in_ok-return_dropped.ensures.stays.opened id ∙ ap (λ (w : View). has w.inbound.rows id) c.in_ok-dropped.ensures.kept) ∙ there)

pub returns-in_ok-close_unserved-clause-more : goal.returns-in_ok-close_unserved-clause-more
returns-in_ok-close_unserved-clause-more c =
    let v = c.send_part.new.session in
    let stays = subst (λ b. Stays c.args.session.now (if b then ended c.args.id v else v)) c.if-ends.true (sent_stays c.args.session.now c.args.out.now c.args.id c.in_ok-ends.ends v c.send_part.new.out c.in_ok-ends.ensures.sent) in
    let first : c.args.session.now.untaken < c.end_stream.new.session.untaken = subst (λ n. c.args.session.now.untaken < n) (sym (ap (λ (w : View). w.untaken) c.in_ok-dropped.ensures.kept)) stays.more in
    let next : c.end_stream.new.session.untaken ≤ c.return_dropped.new.session.untaken = c.in_ok-return_dropped.ensures.stays.more in
    let last = c.in_ok-close_unserved.ensures.untaken in
    omega (arith, first, next, last)

pub returns-else-ends-clause-performs : goal.returns-else-ends-clause-performs
returns-else-ends-clause-performs c back is_back =
    let u = c.args.session.now in
    let v = c.send_part.new.session in
    let moves = c.requires.reached in
    let live = turn_active moves.0 moves.3.0 moves.3.1 u (back_of moves.1) c.args.id moves.3.2 c.requires.turn in
    let small = c.requires.numbered c.args.id (active_has u.inbound.rows c.args.id live) in (
      0,
      (λ on. refl),
      λ setup.
          subst (λ n. PerformsOwn setup u (back_of n) c.args.out.now v balanced c.send_part.new.out) (sym (is_back (active_goes_on u c.args.id live)))
          (subst (λ b. PerformsOwn setup u balanced c.args.out.now (if b then ended c.args.id v else v) (record balanced { shared = if b then waiting_for c.args.id u else 0 }) (if b then put_at_end c.args.id v c.send_part.new.out else c.send_part.new.out)) c.if-ends.false
          (part_performs u c.args.id c.requires.none_cut c.requires.turn small c.requires.few setup c.args.out.now c.in_ok-ends.ends v c.send_part.new.out c.in_ok-ends.ensures.sent (λ ends. absurd (let no : false ≡ true = sym c.if-ends.false ∙ ends in cc)))),
    )

pub returns-else-ends-clause-none_cut : goal.returns-else-ends-clause-none_cut
returns-else-ends-clause-none_cut c =
    let v = c.send_part.new.session in
    let stays = subst (λ b. Stays c.args.session.now (if b then ended c.args.id v else v)) c.if-ends.false (sent_stays c.args.session.now c.args.out.now c.args.id c.in_ok-ends.ends v c.send_part.new.out c.in_ok-ends.ensures.sent) in
    stays.none_cut c.requires.none_cut

pub returns-else-ends-clause-numbered : goal.returns-else-ends-clause-numbered
returns-else-ends-clause-numbered c id there =
    let v = c.send_part.new.session in
    let stays = subst (λ b. Stays c.args.session.now (if b then ended c.args.id v else v)) c.if-ends.false (sent_stays c.args.session.now c.args.out.now c.args.id c.in_ok-ends.ends v c.send_part.new.out c.in_ok-ends.ensures.sent) in
    c.requires.numbered id (sym (stays.opened id) ∙ there)

pub returns-else-ends-clause-more : goal.returns-else-ends-clause-more
returns-else-ends-clause-more c =
    let v = c.send_part.new.session in
    let stays = subst (λ b. Stays c.args.session.now (if b then ended c.args.id v else v)) c.if-ends.false (sent_stays c.args.session.now c.args.out.now c.args.id c.in_ok-ends.ends v c.send_part.new.out c.in_ok-ends.ensures.sent) in
    stays.more

pub returns-else-ends-clause-none_done : goal.returns-else-ends-clause-none_done
returns-else-ends-clause-none_done c =
    let u = c.args.session.now in
    let v = c.send_part.new.session in
    let moves = c.requires.reached in
    sent_none_done u c.args.out.now c.args.id v c.send_part.new.out (turn_active moves.0 moves.3.0 moves.3.1 u (back_of moves.1) c.args.id moves.3.2 c.requires.turn)
    (subst (λ b. IsPartSent u c.args.out.now c.args.id b v c.send_part.new.out) c.if-ends.false c.in_ok-ends.ensures.sent) c.requires.none_done

-- ---- the connection ends in place of a frame

pub returns-in_err-dropped-clause-over : goal.returns-in_err-dropped-clause-over
returns-in_err-dropped-clause-over c =
    let u = c.args.session.now in
    let v = c.send_part.new.session in
    let moves = c.requires.reached in
    let live = turn_active moves.0 moves.3.0 moves.3.1 u (back_of moves.1) c.args.id moves.3.2 c.requires.turn in
    let small = c.requires.numbered c.args.id (active_has u.inbound.rows c.args.id live) in
    stopped c.from_residual-in_err-dropped.result c.in_err-dropped.field-0.0 c.from_residual-in_err-dropped.ensures.1
    (λ is back is_back setup.
    subst (λ n. EndsFrom setup u (back_of n) c.args.out.now c.end_stream.new.out) (sym (is_back (active_goes_on u c.args.id live)))
    (part_over u c.args.id c.requires.none_cut c.requires.turn small c.requires.few setup c.args.out.now v c.send_part.new.out (subst (λ b. IsPartSent u c.args.out.now c.args.id b v c.send_part.new.out) c.if-ends.true c.in_ok-ends.ensures.sent) is.0 c.end_stream.new.out is.1))
    c.in_err-dropped.ensures.over

pub returns-in_err-return_dropped-clause-over : goal.returns-in_err-return_dropped-clause-over
returns-in_err-return_dropped-clause-over c =
    let u = c.args.session.now in
    let v = c.send_part.new.session in
    let moves = c.requires.reached in
    let live = turn_active moves.0 moves.3.0 moves.3.1 u (back_of moves.1) c.args.id moves.3.2 c.requires.turn in
    let small = c.requires.numbered c.args.id (active_has u.inbound.rows c.args.id live) in
    stopped c.from_residual-in_err-return_dropped.result c.in_err-return_dropped.field-0.0 c.from_residual-in_err-return_dropped.ensures.1
    (λ ends back is_back setup.
    subst (λ n. EndsFrom setup u (back_of n) c.args.out.now c.return_dropped.new.out) (sym (is_back (active_goes_on u c.args.id live)))
    (calm_behind setup u c.end_stream.new.session balanced (back_of c.in_ok-dropped.dropped) c.args.out.now c.end_stream.new.out c.return_dropped.new.out
    (ends_then u c.args.id c.requires.none_cut c.requires.turn small c.requires.few setup c.args.out.now v c.send_part.new.out (subst (λ b. IsPartSent u c.args.out.now c.args.id b v c.send_part.new.out) c.if-ends.true c.in_ok-ends.ensures.sent) c.in_ok-dropped.ensures.few c.in_ok-dropped.dropped c.end_stream.new.session c.end_stream.new.out
    (c.in_ok-dropped.ensures.dropped ∙ sent_waits u c.args.out.now c.args.id c.in_ok-ends.ends v c.send_part.new.out c.in_ok-ends.ensures.sent) c.in_ok-dropped.ensures.kept c.in_ok-dropped.ensures.puts)
    (ends setup)))
    c.in_err-return_dropped.ensures.over
