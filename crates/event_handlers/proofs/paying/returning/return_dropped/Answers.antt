use Rattle.std.proofs.Common.{◌≡◌, ◌<◌, true, false, List, refl, sym, ◌∙◌, ap, subst, arith}
use Rattle.model.specs.Frames.{spell}
use Rattle.model.specs.Logs.{Output}
use Rattle.model.specs.Logs.Output.{ToClient}
use Rattle.model.specs.Tapes.{put}
use Rattle.effects.specs.Sent.{window_update}
use Rattle.refinement.specs.View.{View, balanced}
use Rattle.refinement.specs.Rest.{GoesOn, back_of}
use Rattle.refinement.specs.Bringing.{PerformsOwn}
use Rattle.refinement.proofs.Bringing.{own_none}
use Rattle.event_handlers.specs.paying.Returning.{given_on_connection, IsReturned}
use Rattle.event_handlers.proofs.Results.{on_ok, on_three, on_over}
use Rattle.event_handlers.proofs.Stays.{ends_as}
use Rattle.event_handlers.proofs.paying.Fitting.{fits_shared}
use Rattle.event_handlers.proofs.paying.Returned.{returned_none, returned_on_connection}
use Rattle.event_handlers.proofs.paying.Settled.{none_back, dropped_back, dropped_ends}
use Rattle.event_handlers.proofs.paying.returning.return_dropped.Goals as goal

pub returns-then-dropped-eq0-clause-performs : goal.returns-then-dropped-eq0-clause-performs
returns-then-dropped-eq0-clause-performs c = (0, (λ on. refl), λ setup. none_back setup c.args.session.now c.args.dropped c.args.out.now c.if-dropped-eq0.true)

pub returns-then-dropped-eq0-clause-stays : goal.returns-then-dropped-eq0-clause-stays
returns-then-dropped-eq0-clause-stays c = returned_none c.args.session.now

-- a connection that is to end doesn't go on
pub returns-then-is_exhausted-clause-performs : goal.returns-then-is_exhausted-clause-performs
returns-then-is_exhausted-clause-performs c = (
  c.args.dropped,
  (λ on.
      let exhausted = ends_as c.args.session.now _ c.is_exhausted.result c.session.view_is c.is_exhausted.ensures ∙ c.if-is_exhausted.true in
      let clash : true ≡ false = sym exhausted ∙ on in cc),
  λ setup. own_none setup c.args.session.now (back_of c.args.dropped) c.args.out.now,
)

pub returns-then-is_exhausted-clause-stays : goal.returns-then-is_exhausted-clause-stays
returns-then-is_exhausted-clause-stays c = returned_none c.args.session.now

pub give_back-requires : goal.give_back-requires
give_back-requires c =
    let r = c.requires.reached in
    fits_shared r.0 r.1.0 c.args.session.now (back_of c.args.dropped) r.1.1 r.1.2 c.in_ok-octets.octets (let same = c.in_ok-octets.ensures.0 in omega (arith, same))

pub returns-clause-performs : goal.returns-clause-performs
returns-clause-performs c =
    let same = c.in_ok-octets.ensures.0 in
    let not_none = c.if-dropped-eq0.false in
    let some : 0 < c.args.dropped = omega (arith, not_none) in
    let few : c.args.dropped < 2147483648 = let least = c.in_ok-octets.ensures.1 in omega (arith, same, least) in
    let on : GoesOn c.args.session.now = ends_as c.args.session.now _ c.is_exhausted.result c.session.view_is c.is_exhausted.ensures ∙ c.if-is_exhausted.false in
    on_three c.give_back.result
    (λ given puts free. (
      0,
      (λ still. refl),
      λ setup.
          let views : c.give_back.new.session ≡ given_on_connection c.args.session.now c.args.dropped = given ∙ ap (given_on_connection c.args.session.now) same in
          let outs : c.give_back.new.out ≡ put c.args.out.now (ToClient (spell (window_update 0 c.args.dropped))) = puts ∙ ap (λ n. put c.args.out.now (ToClient (spell (window_update 0 n)))) same in
          subst (λ (v : View). PerformsOwn setup c.args.session.now (back_of c.args.dropped) c.args.out.now v balanced c.give_back.new.out) (sym views)
          (subst (λ (os : List Output). PerformsOwn setup c.args.session.now (back_of c.args.dropped) c.args.out.now (given_on_connection c.args.session.now c.args.dropped) balanced os) (sym outs)
          (dropped_back setup c.args.session.now c.args.dropped c.args.out.now some few on free)),
    )) c.give_back.ensures.given c.give_back.ensures.put_out c.give_back.ensures.few

pub returns-clause-stays : goal.returns-clause-stays
returns-clause-stays c =
    on_ok c.give_back.result
    (λ given. subst (λ (v : View). IsReturned c.args.session.now v) (sym given) (returned_on_connection c.args.session.now c.in_ok-octets.octets)) c.give_back.ensures.given

-- it can't go
pub returns-clause-over : goal.returns-clause-over
returns-clause-over c =
    let not_none = c.if-dropped-eq0.false in
    on_over c.give_back.result (λ is setup. dropped_ends setup c.args.session.now c.args.dropped c.args.out.now c.give_back.new.out (omega (arith, not_none)) is) c.give_back.ensures.over
