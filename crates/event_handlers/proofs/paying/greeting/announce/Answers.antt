use Rattle.std.proofs.Common.{◌≡◌, ◌==◌, ◌-◌, ◌<◌, true, false, nat_lt, List, sym, ◌∙◌, ap, subst, inl, arith}
use Rattle.std.proofs.lemmas.Bool.{eq-eqb, ne_eqb}
use Rattle.std.specs.Prelude.{pos, ◌+ℤ◌, ◌≤ℤ◌}
use Rattle.model.specs.Frames.{spell}
use Rattle.model.specs.Limits.{most_untaken}
use Rattle.model.specs.Logs.{Output}
use Rattle.model.specs.Logs.Output.{ToClient}
use Rattle.model.specs.Setup.{own_window}
use Rattle.model.specs.Tapes.{put}
use Rattle.effects.specs.Sent.{window_update}
use Rattle.refinement.specs.View.{View, balanced, first_pending}
use Rattle.refinement.specs.Rest.{GoesOn}
use Rattle.refinement.specs.Bringing.{PerformsOwn}
use Rattle.event_handlers.specs.paying.Greeting.{more_in, greeting, greeting_by, announced, behind_greeting, behind_greeting_by}
use Rattle.event_handlers.specs.paying.Returning.{given_on_connection}
use Rattle.event_handlers.proofs.Results.{on_ok, on_three, stopped}
use Rattle.event_handlers.proofs.paying.Fitting.{own_is, fits_shared}
use Rattle.event_handlers.proofs.paying.Greets.{more_is, announces, greets_alone, greets_both, few_behind, memory_alone}
use Rattle.event_handlers.proofs.paying.greeting.announce.Goals as goal

pub overflow_sub-more_room : goal.overflow_sub-more_room
overflow_sub-more_room c =
    let r = c.requires.reached in
    let own : c.receiving_window-more_room.result ≡ own_window r.0 = c.receiving_window-more_room.ensures.is ∙ ap (λ (v : View). v.inbound.own) c.session.view_is ∙ own_is r.0 r.1.0 c.args.session.now (first_pending r.0.more_room) r.1.1 r.1.2 in
    omega (arith, own)

pub pay-requires : goal.pay-requires
pay-requires c =
    let is = c.receiving_window-more_room.ensures.is in
    let most = c.receiving_window-more_room.ensures.in_range in
    omega (arith, is, most)

-- so many octets are missing in the connection's window
pub give_back-requires : goal.give_back-requires
give_back-requires c =
    let r = c.requires.reached in
    let more = c.receiving_window-more_room.result - 65535 in
    let is : more ≡ more_in c.args.session.now = ap (λ n. n - 65535) (c.receiving_window-more_room.ensures.is ∙ ap (λ (v : View). v.inbound.own) c.session.view_is) in
    let same : more ≡ r.0.more_room = is ∙ more_is r.0 r.1.0 c.args.session.now (first_pending r.0.more_room) r.1.1 r.1.2 in
    subst (λ (v : View). (v.inbound.room +ℤ pos more) ≤ℤ pos v.inbound.own) (sym c.in_ok-pay.ensures.counts)
    (fits_shared r.0 r.1.0 c.args.session.now (first_pending r.0.more_room) r.1.1 r.1.2 more (omega (arith, same)))

-- ---- the settings alone

pub returns-then-more_room-eq0-clause-performs : goal.returns-then-more_room-eq0-clause-performs
returns-then-more_room-eq0-clause-performs c = λ setup.
    let more = c.receiving_window-more_room.result - 65535 in
    let is : more ≡ more_in c.args.session.now = ap (λ n. n - 65535) (c.receiving_window-more_room.ensures.is ∙ ap (λ (v : View). v.inbound.own) c.session.view_is) in
    greets_alone setup c.args.session.now c.pay.new.session more is c.args.out.now c.pay.new.out
    (announces setup c.args.session.now c.pay.new.session more is c.args.out.now c.pay.new.out (λ rest pending owed nothing. c.in_ok-pay.ensures.performs setup rest pending tt owed (inl nothing))) c.if-more_room-eq0.true

pub returns-then-more_room-eq0-clause-puts : goal.returns-then-more_room-eq0-clause-puts
returns-then-more_room-eq0-clause-puts c =
    let more = c.receiving_window-more_room.result - 65535 in
    let is : more ≡ more_in c.args.session.now = ap (λ n. n - 65535) (c.receiving_window-more_room.ensures.is ∙ ap (λ (v : View). v.inbound.own) c.session.view_is) in
    c.in_ok-pay.ensures.puts
    ∙ sym (ap (λ b. greeting_by b more c.args.out.now) (eq-eqb more 0 c.if-more_room-eq0.true))
    ∙ ap (λ n. greeting n c.args.out.now) is

pub returns-then-more_room-eq0-clause-counts : goal.returns-then-more_room-eq0-clause-counts
returns-then-more_room-eq0-clause-counts c =
    let more = c.receiving_window-more_room.result - 65535 in
    let is : more ≡ more_in c.args.session.now = ap (λ n. n - 65535) (c.receiving_window-more_room.ensures.is ∙ ap (λ (v : View). v.inbound.own) c.session.view_is) in
    c.in_ok-pay.ensures.counts
    ∙ sym (ap (λ b. behind_greeting_by b more c.args.session.now) (eq-eqb more 0 c.if-more_room-eq0.true))
    ∙ ap (λ n. behind_greeting n c.args.session.now) is

-- ---- and what makes the connection's window larger

pub returns-clause-performs : goal.returns-clause-performs
returns-clause-performs c =
    let more = c.receiving_window-more_room.result - 65535 in
    let is : more ≡ more_in c.args.session.now = ap (λ n. n - 65535) (c.receiving_window-more_room.ensures.is ∙ ap (λ (v : View). v.inbound.own) c.session.view_is) in
    let not_none = c.if-more_room-eq0.false in
    let some : 0 < more = omega (arith, not_none) in
    let same = c.receiving_window-more_room.ensures.is in
    let most = c.receiving_window-more_room.ensures.in_range in
    let small : more < 2147483648 = omega (arith, same, most) in
    let on : GoesOn c.pay.new.session = subst (λ (v : View). GoesOn v) (sym c.in_ok-pay.ensures.counts) c.requires.goes_on in
    on_three c.give_back.result
    (λ given puts free setup.
    subst (λ (v : View). PerformsOwn setup c.args.session.now (first_pending setup.more_room) c.args.out.now v balanced c.give_back.new.out) (sym given)
    (subst (λ (os : List Output). PerformsOwn setup c.args.session.now (first_pending setup.more_room) c.args.out.now (given_on_connection c.pay.new.session more) balanced os) (sym puts)
    (greets_both setup c.args.session.now c.pay.new.session more is c.args.out.now c.pay.new.out
    (announces setup c.args.session.now c.pay.new.session more is c.args.out.now c.pay.new.out (λ rest pending owed nothing. c.in_ok-pay.ensures.performs setup rest pending tt owed (inl nothing))) some small on free)))
    c.give_back.ensures.given c.give_back.ensures.put_out c.give_back.ensures.few

pub returns-clause-puts : goal.returns-clause-puts
returns-clause-puts c =
    let more = c.receiving_window-more_room.result - 65535 in
    let is : more ≡ more_in c.args.session.now = ap (λ n. n - 65535) (c.receiving_window-more_room.ensures.is ∙ ap (λ (v : View). v.inbound.own) c.session.view_is) in
    let not_none = c.if-more_room-eq0.false in
    on_ok c.give_back.result
    (λ puts.
    puts
    ∙ ap (λ (os : List Output). put os (ToClient (spell (window_update 0 more)))) c.in_ok-pay.ensures.puts
    ∙ sym (ap (λ b. greeting_by b more c.args.out.now) (ne_eqb more 0 (λ e. omega (arith, e, not_none))))
    ∙ ap (λ n. greeting n c.args.out.now) is) c.give_back.ensures.put_out

pub returns-clause-counts : goal.returns-clause-counts
returns-clause-counts c =
    let more = c.receiving_window-more_room.result - 65535 in
    let is : more ≡ more_in c.args.session.now = ap (λ n. n - 65535) (c.receiving_window-more_room.ensures.is ∙ ap (λ (v : View). v.inbound.own) c.session.view_is) in
    let not_none = c.if-more_room-eq0.false in
    on_ok c.give_back.result
    (λ given.
    given
    ∙ ap (λ (v : View). given_on_connection v more) c.in_ok-pay.ensures.counts
    ∙ sym (ap (λ b. behind_greeting_by b more c.args.session.now) (ne_eqb more 0 (λ e. omega (arith, e, not_none))))
    ∙ ap (λ n. behind_greeting n c.args.session.now) is) c.give_back.ensures.given

-- ---- few octets wait for the client

pub returns-clause-few : goal.returns-clause-few
returns-clause-few c =
    let few : nat_lt most_untaken c.pay.new.session.untaken ≡ false = ap (λ (v : View). nat_lt most_untaken v.untaken) c.in_ok-pay.ensures.counts ∙ few_behind c.args.session.now (c.receiving_window-more_room.result - 65535) c.requires.fresh in
    memory_alone c.give_back.result (λ calmed. let clash : true ≡ false = sym calmed.0 ∙ few in cc) c.give_back.ensures.over

pub returns-in_err-pay-clause-few : goal.returns-in_err-pay-clause-few
returns-in_err-pay-clause-few c =
    let few : nat_lt most_untaken c.args.session.now.untaken ≡ false = ap (nat_lt most_untaken) c.requires.fresh in
    memory_alone {A = ⊥} c.from_residual.result (λ never. never)
    (stopped c.from_residual.result c.in_err-pay.field-0.0 c.from_residual.ensures.1 (λ calmed. let clash : true ≡ false = sym calmed.0 ∙ few in cc) c.in_err-pay.ensures.over)
