use Rattle.std.proofs.Common.{◌≡◌, ℕ, ◌+◌, ◌<◌, true, false, not, nat_lt, List, sym, ◌∙◌, ap, subst, arith}
use Rattle.std.proofs.lemmas.Bool.{and_parts}
use Rattle.model.specs.Limits.{most_untaken}
use Rattle.model.specs.Frames.{spell}
use Rattle.model.specs.Logs.{Output}
use Rattle.model.specs.Logs.Output.{ToClient}
use Rattle.model.specs.Setup.{Setup}
use Rattle.model.specs.Tapes.{put}
use Rattle.theory_errors.specs.Rows.{Row, find}
use Rattle.window_credit.specs.Sides.{change, waiting, has_untaken, is_past}
use Rattle.effects.specs.Sent.{window_update}
use Rattle.streams.specs.Asked.{has, is_active}
use Rattle.streams.specs.Sending.{AreReturnable}
use Rattle.refinement.specs.View.{View, balanced}
use Rattle.refinement.specs.Rest.{GoesOn, IsBack, back_of}
use Rattle.refinement.specs.Bringing.{PerformsOwn}
use Rattle.refinement.proofs.Bringing.{own_then}
use Rattle.event_handlers.specs.Stopping.{IsCalmed}
use Rattle.event_handlers.specs.paying.Returning.{goes_back_on, given_on_connection, given_on_stream, IsReturned}
use Rattle.event_handlers.proofs.Calming.{calm_behind}
use Rattle.event_handlers.proofs.Results.{on_ok, on_both, on_over, stopped}
use Rattle.event_handlers.proofs.paying.Settling.{fresh, defers}
use Rattle.event_handlers.proofs.paying.Fitting.{fits_shared, fits_own}
use Rattle.event_handlers.proofs.paying.Returned.{returned_marks, returned_on_connection, returned_on_stream, returned_then}
use Rattle.event_handlers.proofs.paying.Settled.{none_fresh, fresh_ends, own_ends, back_on_connection, back_on_both}
use Rattle.event_handlers.proofs.paying.returning.settle.Goals as goal

-- where the connection goes on nothing is left to go back
back_is : (setup : Setup) (old before new : View) (octets dropped : ℕ) (outputs : List Output) → PerformsOwn setup old (fresh octets dropped) outputs before (back_of dropped) outputs → (back : ℕ) → IsBack new back → (put_out : List Output) → PerformsOwn setup before (back_of dropped) outputs new (back_of back) put_out → GoesOn new
    → PerformsOwn setup old (fresh octets dropped) outputs new balanced put_out
back_is setup old before new octets dropped outputs first back is put_out then on =
    own_then setup old before new (fresh octets dropped) (back_of dropped) balanced outputs outputs put_out first (subst (λ n. PerformsOwn setup before (back_of dropped) outputs new (back_of n) put_out) (is on) then)

-- octets of the last frame wait
waits_here : (old new : View) (stream octets dropped : ℕ) (outputs : List Output) → stream ≡ old.inbound.last → has_untaken stream old.marks ≡ true → new ≡ record old { marks = change stream (waiting octets) old.marks }
    → (setup : Setup) → PerformsOwn setup old (fresh octets dropped) outputs new (back_of dropped) outputs
waits_here old new stream octets dropped outputs last waits kept setup =
    subst (λ (v : View). PerformsOwn setup old (fresh octets dropped) outputs v (back_of dropped) outputs) (sym (kept ∙ ap (λ n. record old { marks = change n (waiting octets) old.marks }) last))
    (defers setup old octets dropped outputs (subst (λ n. has_untaken n old.marks ≡ true) last waits))

pub return_dropped-requires : goal.return_dropped-requires
return_dropped-requires c =
    let r = c.requires.reached in
    let here = none_fresh r.0 c.args.session.now c.args.octets c.args.dropped c.args.out.now c.if-octets-eq0.true r.1.0 r.1.1 r.1.2 in
    record { reached = (r.0, (_, here.segment.state, here.segment.leads)) }

pub returns-then-octets-eq0-clause-performs : goal.returns-then-octets-eq0-clause-performs
returns-then-octets-eq0-clause-performs c =
    on_both c.return_dropped.result
    (λ performs stays setup.
    back_is setup c.args.session.now c.args.session.now c.return_dropped.new.session c.args.octets c.args.dropped c.args.out.now (none_fresh setup c.args.session.now c.args.octets c.args.dropped c.args.out.now c.if-octets-eq0.true)
    performs.0 performs.1 c.return_dropped.new.out (performs.2 setup) (stays.goes_on c.requires.goes_on)) c.return_dropped.ensures.performs c.return_dropped.ensures.stays

-- they wait
pub wait-requires-clause-some : goal.wait-requires-clause-some
wait-requires-clause-some c = let not_none = c.if-octets-eq0.false in omega (arith, not_none)

pub wait-requires-clause-newest : goal.wait-requires-clause-newest
wait-requires-clause-newest c = let not_none = c.if-octets-eq0.false in c.requires.newest (omega (arith, not_none))

pub return_dropped-requires-then-has_untaken : goal.return_dropped-requires-then-has_untaken
return_dropped-requires-then-has_untaken c =
    let r = c.requires.reached in
    let here = waits_here c.args.session.now c.wait.new.session c.args.stream c.args.octets c.args.dropped c.args.out.now c.requires.last (sym (c.has_untaken.ensures ∙ ap (λ (v : View). has_untaken c.args.stream v.marks) c.session.view_is) ∙ c.if-has_untaken.true) c.in_ok-wait.ensures r.0 r.1.0 r.1.1 r.1.2 in
    record { reached = (r.0, (_, here.segment.state, here.segment.leads)) }

pub returns-then-has_untaken-clause-performs : goal.returns-then-has_untaken-clause-performs
returns-then-has_untaken-clause-performs c =
    on_both c.return_dropped-then-has_untaken.result
    (λ performs stays setup.
    back_is setup c.args.session.now c.wait.new.session c.return_dropped-then-has_untaken.new.session c.args.octets c.args.dropped c.args.out.now
    (waits_here c.args.session.now c.wait.new.session c.args.stream c.args.octets c.args.dropped c.args.out.now c.requires.last (sym (c.has_untaken.ensures ∙ ap (λ (v : View). has_untaken c.args.stream v.marks) c.session.view_is) ∙ c.if-has_untaken.true) c.in_ok-wait.ensures setup)
    performs.0 performs.1 c.return_dropped-then-has_untaken.new.out (performs.2 setup) (stays.goes_on (subst GoesOn (sym c.in_ok-wait.ensures) c.requires.goes_on))) c.return_dropped-then-has_untaken.ensures.performs c.return_dropped-then-has_untaken.ensures.stays

pub returns-then-has_untaken-clause-stays : goal.returns-then-has_untaken-clause-stays
returns-then-has_untaken-clause-stays c =
    on_ok c.return_dropped-then-has_untaken.result
    (λ stays. returned_then c.args.session.now c.wait.new.session c.return_dropped-then-has_untaken.new.session (subst (λ (v : View). IsReturned c.args.session.now v) (sym c.in_ok-wait.ensures) (returned_marks c.args.session.now (change c.args.stream (waiting c.args.octets) c.args.session.now.marks))) stays) c.return_dropped-then-has_untaken.ensures.stays

-- they go back
pub give_back-requires : goal.give_back-requires
give_back-requires c =
    let r = c.requires.reached in
    fits_shared r.0 r.1.0 c.args.session.now (fresh c.args.octets c.args.dropped) r.1.1 r.1.2 c.in_ok-all.all (omega (arith, c.in_ok-all.ensures.0, c.in-Some.ensures))

-- the stream of the last frame is active and goes on
goes : (rows : List Row) (id : ℕ) → goes_back_on rows id ≡ true → is_active rows id ≡ true
goes rows id is = (and_parts (is_active rows id) (not (find rows id).ended_by_client) is).0

pub give_back_on-requires-clause-live : goal.give_back_on-requires-clause-live
give_back_on-requires-clause-live c = goes c.give_back.new.session.inbound.rows c.args.stream (sym c.goes_back_on.ensures ∙ c.if-goes_back_on.true)

pub give_back_on-requires-clause-fits : goal.give_back_on-requires-clause-fits
give_back_on-requires-clause-fits c =
    let r = c.requires.reached in
    let given = c.in_ok-give_back.ensures.given in
    let on : goes_back_on c.give_back.new.session.inbound.rows c.args.stream ≡ true = sym c.goes_back_on.ensures ∙ c.if-goes_back_on.true in
    let here : goes_back_on c.args.session.now.inbound.rows c.args.stream ≡ true = ap (λ (v : View). goes_back_on v.inbound.rows c.args.stream) (sym given) ∙ on in
    subst (λ (v : View). AreReturnable c.args.octets (find v.inbound.rows c.args.stream)) (sym given)
    (subst (λ n. AreReturnable c.args.octets (find c.args.session.now.inbound.rows n)) (sym c.requires.last)
    (fits_own r.0 r.1.0 c.args.session.now (fresh c.args.octets c.args.dropped) r.1.1 r.1.2 (ap (is_active c.args.session.now.inbound.rows) (sym c.requires.last) ∙ goes c.args.session.now.inbound.rows c.args.stream here)))

pub give_back_on-requires-clause-small : goal.give_back_on-requires-clause-small
give_back_on-requires-clause-small c =
    let given = c.in_ok-give_back.ensures.given in
    let on : goes_back_on c.give_back.new.session.inbound.rows c.args.stream ≡ true = sym c.goes_back_on.ensures ∙ c.if-goes_back_on.true in
    let here : goes_back_on c.args.session.now.inbound.rows c.args.stream ≡ true = ap (λ (v : View). goes_back_on v.inbound.rows c.args.stream) (sym given) ∙ on in
    c.requires.numbered c.args.stream (and_parts (has c.args.session.now.inbound.rows c.args.stream) _ (goes c.args.session.now.inbound.rows c.args.stream here)).0

pub returns-in_ok-give_back_on-clause-performs : goal.returns-in_ok-give_back_on-clause-performs
returns-in_ok-give_back_on-clause-performs c = λ setup.
    let given = c.in_ok-give_back.ensures.given in
    let out_first = c.in_ok-give_back.ensures.put_out in
    let second = c.in_ok-give_back_on.ensures.given in
    let out_second = c.in_ok-give_back_on.ensures.put_out in
    let all = c.in_ok-all.all in
    let on : goes_back_on c.give_back.new.session.inbound.rows c.args.stream ≡ true = sym c.goes_back_on.ensures ∙ c.if-goes_back_on.true in
    let here : goes_back_on c.args.session.now.inbound.rows c.args.stream ≡ true = ap (λ (v : View). goes_back_on v.inbound.rows c.args.stream) (sym given) ∙ on in
    let not_none = c.if-octets-eq0.false in let some : 0 < c.args.octets = omega (arith, not_none) in
    let has_row = and_parts (has c.args.session.now.inbound.rows c.args.stream) _ (goes c.args.session.now.inbound.rows c.args.stream here) in
    let sum : all ≡ c.args.octets + c.args.dropped = omega (arith, c.in_ok-all.ensures.0, c.in-Some.ensures) in
    let newest : is_past c.args.session.now.inbound.last c.args.session.now.marks ≡ false = subst (λ n. is_past n c.args.session.now.marks ≡ false) c.requires.last (c.requires.newest (omega (arith, not_none))) in
    let none : has_untaken c.args.session.now.inbound.last c.args.session.now.marks ≡ false = subst (λ n. has_untaken n c.args.session.now.marks ≡ false) c.requires.last (sym (c.has_untaken.ensures ∙ ap (λ (v : View). has_untaken c.args.stream v.marks) c.session.view_is) ∙ c.if-has_untaken.false) in
    let still_free : nat_lt most_untaken (given_on_connection c.args.session.now all).untaken ≡ false = ap (λ (v : View). nat_lt most_untaken v.untaken) (sym given) ∙ c.in_ok-give_back_on.ensures.few in
    let performs = back_on_both setup c.args.session.now c.args.octets c.args.dropped all some sum c.in_ok-all.ensures.1 c.requires.goes_on c.in_ok-give_back.ensures.few newest none c.args.out.now c.args.stream c.requires.last here (c.requires.numbered c.args.stream has_row.0) still_free in
    let views : c.give_back_on.new.session ≡ given_on_stream (given_on_connection c.args.session.now all) c.args.stream c.args.octets = second ∙ ap (λ (v : View). given_on_stream v c.args.stream c.args.octets) given in
    let outs : c.give_back_on.new.out ≡ put (put c.args.out.now (ToClient (spell (window_update 0 all)))) (ToClient (spell (window_update c.args.stream c.args.octets))) = out_second ∙ ap (λ (os : List Output). put os (ToClient (spell (window_update c.args.stream c.args.octets)))) out_first in
    subst (λ (v : View). PerformsOwn setup c.args.session.now (fresh c.args.octets c.args.dropped) c.args.out.now v balanced c.give_back_on.new.out) (sym views)
    (subst (λ (os : List Output). PerformsOwn setup c.args.session.now (fresh c.args.octets c.args.dropped) c.args.out.now (given_on_stream (given_on_connection c.args.session.now all) c.args.stream c.args.octets) balanced os) (sym outs) performs)

pub returns-in_ok-give_back_on-clause-stays : goal.returns-in_ok-give_back_on-clause-stays
returns-in_ok-give_back_on-clause-stays c =
    let given = c.in_ok-give_back.ensures.given in
    let second = c.in_ok-give_back_on.ensures.given in
    let on : goes_back_on c.give_back.new.session.inbound.rows c.args.stream ≡ true = sym c.goes_back_on.ensures ∙ c.if-goes_back_on.true in
    returned_then c.args.session.now c.give_back.new.session c.give_back_on.new.session
    (subst (λ (v : View). IsReturned c.args.session.now v) (sym given) (returned_on_connection c.args.session.now c.in_ok-all.all))
    (subst (λ (v : View). IsReturned c.give_back.new.session v) (sym second) (returned_on_stream c.give_back.new.session c.args.stream c.args.octets (goes c.give_back.new.session.inbound.rows c.args.stream on)))

pub returns-else-goes_back_on-clause-performs : goal.returns-else-goes_back_on-clause-performs
returns-else-goes_back_on-clause-performs c = λ setup.
    let given = c.in_ok-give_back.ensures.given in
    let out_first = c.in_ok-give_back.ensures.put_out in
    let all = c.in_ok-all.all in
    let over : goes_back_on c.give_back.new.session.inbound.rows c.args.stream ≡ false = sym c.goes_back_on.ensures ∙ c.if-goes_back_on.false in
    let here : goes_back_on c.args.session.now.inbound.rows c.args.session.now.inbound.last ≡ false = ap (goes_back_on c.args.session.now.inbound.rows) (sym c.requires.last) ∙ ap (λ (v : View). goes_back_on v.inbound.rows c.args.stream) (sym given) ∙ over in
    let not_none = c.if-octets-eq0.false in let some : 0 < c.args.octets = omega (arith, not_none) in
    let sum : all ≡ c.args.octets + c.args.dropped = omega (arith, c.in_ok-all.ensures.0, c.in-Some.ensures) in
    let newest : is_past c.args.session.now.inbound.last c.args.session.now.marks ≡ false = subst (λ n. is_past n c.args.session.now.marks ≡ false) c.requires.last (c.requires.newest (omega (arith, not_none))) in
    let none : has_untaken c.args.session.now.inbound.last c.args.session.now.marks ≡ false = subst (λ n. has_untaken n c.args.session.now.marks ≡ false) c.requires.last (sym (c.has_untaken.ensures ∙ ap (λ (v : View). has_untaken c.args.stream v.marks) c.session.view_is) ∙ c.if-has_untaken.false) in
    subst (λ (v : View). PerformsOwn setup c.args.session.now (fresh c.args.octets c.args.dropped) c.args.out.now v balanced c.give_back.new.out) (sym given)
    (subst (λ (os : List Output). PerformsOwn setup c.args.session.now (fresh c.args.octets c.args.dropped) c.args.out.now (given_on_connection c.args.session.now all) balanced os) (sym out_first)
    (back_on_connection setup c.args.session.now c.args.octets c.args.dropped all some sum c.in_ok-all.ensures.1 c.requires.goes_on c.in_ok-give_back.ensures.few newest none c.args.out.now here))

pub returns-else-goes_back_on-clause-stays : goal.returns-else-goes_back_on-clause-stays
returns-else-goes_back_on-clause-stays c = subst (λ (v : View). IsReturned c.args.session.now v) (sym c.in_ok-give_back.ensures.given) (returned_on_connection c.args.session.now c.in_ok-all.all)

-- ---- they can't go back

pub returns-then-octets-eq0-clause-over : goal.returns-then-octets-eq0-clause-over
returns-then-octets-eq0-clause-over c =
    on_over c.return_dropped.result
    (λ ends setup.
    calm_behind setup c.args.session.now c.args.session.now (fresh c.args.octets c.args.dropped) (back_of c.args.dropped) c.args.out.now c.args.out.now c.return_dropped.new.out
    (none_fresh setup c.args.session.now c.args.octets c.args.dropped c.args.out.now c.if-octets-eq0.true) (ends setup)) c.return_dropped.ensures.over

pub returns-then-has_untaken-clause-over : goal.returns-then-has_untaken-clause-over
returns-then-has_untaken-clause-over c =
    on_over c.return_dropped-then-has_untaken.result
    (λ ends setup.
    calm_behind setup c.args.session.now c.wait.new.session (fresh c.args.octets c.args.dropped) (back_of c.args.dropped) c.args.out.now c.args.out.now c.return_dropped-then-has_untaken.new.out
    (waits_here c.args.session.now c.wait.new.session c.args.stream c.args.octets c.args.dropped c.args.out.now c.requires.last (sym (c.has_untaken.ensures ∙ ap (λ (v : View). has_untaken c.args.stream v.marks) c.session.view_is) ∙ c.if-has_untaken.true) c.in_ok-wait.ensures setup)
    (ends setup)) c.return_dropped-then-has_untaken.ensures.over

pub returns-in_err-give_back-clause-over : goal.returns-in_err-give_back-clause-over
returns-in_err-give_back-clause-over c =
    let not_none = c.if-octets-eq0.false in
    let newest : is_past c.args.session.now.inbound.last c.args.session.now.marks ≡ false = subst (λ n. is_past n c.args.session.now.marks ≡ false) c.requires.last (c.requires.newest (omega (arith, not_none))) in
    let none : has_untaken c.args.session.now.inbound.last c.args.session.now.marks ≡ false = subst (λ n. has_untaken n c.args.session.now.marks ≡ false) c.requires.last (sym (c.has_untaken.ensures ∙ ap (λ (v : View). has_untaken c.args.stream v.marks) c.session.view_is) ∙ c.if-has_untaken.false) in
    stopped c.from_residual-in_err-give_back.result c.in_err-give_back.field-0.0 c.from_residual-in_err-give_back.ensures.1
    (λ is setup. fresh_ends setup c.args.session.now c.args.octets c.args.dropped c.args.out.now c.give_back.new.out (omega (arith, not_none)) newest none is) c.in_err-give_back.ensures.over

pub returns-in_err-give_back_on-clause-over : goal.returns-in_err-give_back_on-clause-over
returns-in_err-give_back_on-clause-over c =
    let given = c.in_ok-give_back.ensures.given in
    let all = c.in_ok-all.all in
    let on : goes_back_on c.give_back.new.session.inbound.rows c.args.stream ≡ true = sym c.goes_back_on.ensures ∙ c.if-goes_back_on.true in
    let here : goes_back_on c.args.session.now.inbound.rows c.args.session.now.inbound.last ≡ true = ap (goes_back_on c.args.session.now.inbound.rows) (sym c.requires.last) ∙ ap (λ (v : View). goes_back_on v.inbound.rows c.args.stream) (sym given) ∙ on in
    let not_none = c.if-octets-eq0.false in let some : 0 < c.args.octets = omega (arith, not_none) in
    let sum : all ≡ c.args.octets + c.args.dropped = omega (arith, c.in_ok-all.ensures.0, c.in-Some.ensures) in
    let newest : is_past c.args.session.now.inbound.last c.args.session.now.marks ≡ false = subst (λ n. is_past n c.args.session.now.marks ≡ false) c.requires.last (c.requires.newest (omega (arith, not_none))) in
    let none : has_untaken c.args.session.now.inbound.last c.args.session.now.marks ≡ false = subst (λ n. has_untaken n c.args.session.now.marks ≡ false) c.requires.last (sym (c.has_untaken.ensures ∙ ap (λ (v : View). has_untaken c.args.stream v.marks) c.session.view_is) ∙ c.if-has_untaken.false) in
    stopped c.from_residual-in_err-give_back_on.result c.in_err-give_back_on.field-0.0 c.from_residual-in_err-give_back_on.ensures.1
    (λ is setup.
    own_ends setup c.args.session.now c.args.octets c.args.dropped all some sum c.in_ok-all.ensures.1 c.requires.goes_on c.in_ok-give_back.ensures.few newest none c.args.out.now here c.give_back_on.new.out
    (subst (λ (v : View). IsCalmed v (put c.args.out.now (ToClient (spell (window_update 0 all)))) c.give_back_on.new.out) given
    (subst (λ (os : List Output). IsCalmed c.give_back.new.session os c.give_back_on.new.out) c.in_ok-give_back.ensures.put_out is))) c.in_err-give_back_on.ensures.over
