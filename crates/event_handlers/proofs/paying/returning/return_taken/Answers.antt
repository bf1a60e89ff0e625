use Rattle.std.proofs.Common.{◌≡◌, ℕ, ◌+◌, ◌<◌, false, nat_lt, List, sym, ◌∙◌, ap, subst, arith}
use Rattle.model.specs.Limits.{most_untaken}
use Rattle.model.specs.Frames.{spell}
use Rattle.model.specs.Logs.{Output}
use Rattle.model.specs.Logs.Output.{ToClient}
use Rattle.model.specs.Setup.{Setup}
use Rattle.model.specs.Tapes.{put}
use Rattle.window_credit.specs.declared.marks.TakenOctets.{TakenOctets}
use Rattle.effects.specs.Sent.{window_update}
use Rattle.refinement.specs.View.{View, balanced}
use Rattle.refinement.specs.Rest.{GoesOn}
use Rattle.refinement.specs.Bringing.{PerformsOwn}
use Rattle.refinement.proofs.Bringing.{own_then}
use Rattle.event_handlers.specs.paying.Returning.{back_on, due_on_stream, given_on_connection, IsReturned}
use Rattle.event_handlers.proofs.Calming.{calm_behind}
use Rattle.event_handlers.proofs.Results.{on_ok, on_over, stopped}
use Rattle.event_handlers.proofs.paying.Fitting.{fits_shared}
use Rattle.event_handlers.proofs.paying.Returned.{returned_on_connection, returned_then}
use Rattle.event_handlers.proofs.paying.Taken.{taken_ends, taken_on_connection}
use Rattle.event_handlers.proofs.paying.returning.return_taken.Goals as goal

-- all goes back on the connection first
gives_first : (setup : Setup) (old new : View) (stream : ℕ) (taken : TakenOctets) (octets : ℕ) (o p : List Output) → 0 < taken.own + taken.older → octets ≡ taken.own + taken.older → octets < 2147483648 → GoesOn old → nat_lt most_untaken old.untaken ≡ false
    → new ≡ given_on_connection old octets → p ≡ put o (ToClient (spell (window_update 0 octets))) → PerformsOwn setup old (back_on stream taken) o new (due_on_stream stream taken.own) p
gives_first setup old new stream taken octets o p some sum small on free given puts =
    let all : ℕ = taken.own + taken.older in
    subst (λ (v : View). PerformsOwn setup old (back_on stream taken) o v (due_on_stream stream taken.own) p) (sym (given ∙ ap (given_on_connection old) sum))
    (subst (λ (os : List Output). PerformsOwn setup old (back_on stream taken) o (given_on_connection old all) (due_on_stream stream taken.own) os) (sym (puts ∙ ap (λ n. put o (ToClient (spell (window_update 0 n)))) sum))
    (taken_on_connection setup old stream taken some (omega (arith, sum, small)) on free o))

pub give_back-requires : goal.give_back-requires
give_back-requires c =
    let r = c.requires.reached in
    let all : c.in_ok-octets.octets ≡ 0 + (c.args.taken.own + c.args.taken.older) = omega (arith, c.in_ok-octets.ensures.0, c.in-Some.ensures) in
    fits_shared r.0 r.1.0 c.args.session.now (back_on c.args.stream c.args.taken) r.1.1 r.1.2 c.in_ok-octets.octets all

pub return_own-requires-clause-reached : goal.return_own-requires-clause-reached
return_own-requires-clause-reached c =
    let r = c.requires.reached in
    let sum : c.in_ok-octets.octets ≡ c.args.taken.own + c.args.taken.older = omega (arith, c.in_ok-octets.ensures.0, c.in-Some.ensures) in
    let here = gives_first r.0 c.args.session.now c.give_back.new.session c.args.stream c.args.taken c.in_ok-octets.octets c.args.out.now c.give_back.new.out c.requires.some sum c.in_ok-octets.ensures.1 c.requires.goes_on c.in_ok-give_back.ensures.few c.in_ok-give_back.ensures.given c.in_ok-give_back.ensures.put_out r.1.0 r.1.1 r.1.2 in
    (r.0, (_, here.segment.state, here.segment.leads))

pub return_own-requires-clause-goes_on : goal.return_own-requires-clause-goes_on
return_own-requires-clause-goes_on c = subst GoesOn (sym c.in_ok-give_back.ensures.given) c.requires.goes_on

pub return_own-requires-clause-numbered : goal.return_own-requires-clause-numbered
return_own-requires-clause-numbered c id there = c.requires.numbered id (sym ((returned_on_connection c.args.session.now c.in_ok-octets.octets).opened id) ∙ ap (λ (v : View). Rattle.streams.specs.Asked.has v.inbound.rows id) (sym c.in_ok-give_back.ensures.given) ∙ there)

pub returns-clause-performs : goal.returns-clause-performs
returns-clause-performs c =
    let sum : c.in_ok-octets.octets ≡ c.args.taken.own + c.args.taken.older = omega (arith, c.in_ok-octets.ensures.0, c.in-Some.ensures) in
    on_ok c.return_own.result
    (λ performs setup.
    own_then setup c.args.session.now c.give_back.new.session c.return_own.new.session (back_on c.args.stream c.args.taken) (due_on_stream c.args.stream c.args.taken.own) balanced c.args.out.now c.give_back.new.out c.return_own.new.out
    (gives_first setup c.args.session.now c.give_back.new.session c.args.stream c.args.taken c.in_ok-octets.octets c.args.out.now c.give_back.new.out c.requires.some sum c.in_ok-octets.ensures.1 c.requires.goes_on c.in_ok-give_back.ensures.few c.in_ok-give_back.ensures.given c.in_ok-give_back.ensures.put_out)
    (performs setup)) c.return_own.ensures.performs

pub returns-clause-stays : goal.returns-clause-stays
returns-clause-stays c =
    on_ok c.return_own.result
    (λ stays. returned_then c.args.session.now c.give_back.new.session c.return_own.new.session (subst (λ (v : View). IsReturned c.args.session.now v) (sym c.in_ok-give_back.ensures.given) (returned_on_connection c.args.session.now c.in_ok-octets.octets)) stays) c.return_own.ensures.stays

-- ---- they can't go back

pub returns-in_err-give_back-clause-over : goal.returns-in_err-give_back-clause-over
returns-in_err-give_back-clause-over c =
    stopped c.from_residual-in_err-give_back.result c.in_err-give_back.field-0.0 c.from_residual-in_err-give_back.ensures.1
    (λ is setup. taken_ends setup c.args.session.now c.args.stream c.args.taken c.args.out.now c.give_back.new.out c.requires.some is) c.in_err-give_back.ensures.over

pub returns-clause-over : goal.returns-clause-over
returns-clause-over c =
    let sum : c.in_ok-octets.octets ≡ c.args.taken.own + c.args.taken.older = omega (arith, c.in_ok-octets.ensures.0, c.in-Some.ensures) in
    on_over c.return_own.result
    (λ ends setup.
    calm_behind setup c.args.session.now c.give_back.new.session (back_on c.args.stream c.args.taken) (due_on_stream c.args.stream c.args.taken.own) c.args.out.now c.give_back.new.out c.return_own.new.out
    (gives_first setup c.args.session.now c.give_back.new.session c.args.stream c.args.taken c.in_ok-octets.octets c.args.out.now c.give_back.new.out c.requires.some sum c.in_ok-octets.ensures.1 c.requires.goes_on c.in_ok-give_back.ensures.few c.in_ok-give_back.ensures.given c.in_ok-give_back.ensures.put_out)
    (ends setup)) c.return_own.ensures.over
