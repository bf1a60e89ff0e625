use Rattle.std.proofs.Common.{◌≡◌, ◌+◌, ◌≤◌, false, nat_lt, List, length, sym, ◌∙◌, ap, subst, arith}
use Rattle.std.proofs.lemmas.Bool.{ltb-false}
use Rattle.model.specs.Limits.{most_untaken}
use Rattle.model.specs.Frames.{spell}
use Rattle.model.specs.Logs.{Output}
use Rattle.refinement.specs.View.{View}
use Rattle.refinement.specs.Bringing.{PerformsOwn}
use Rattle.event_handlers.specs.paying.Controls.{frame_of}
use Rattle.event_handlers.proofs.paying.Paying.{pays_control}
use Rattle.event_handlers.proofs.paying.control.pay.Goals as goal

pub returns-then-is_crowded-clause-over : goal.returns-then-is_crowded-clause-over
returns-then-is_crowded-clause-over c = (sym c.is_crowded.ensures ∙ c.if-is_crowded.true, c.in_ok-calm.ensures)

-- the bound on what is untaken shows that the sum has 64 bits
pub count_untaken-requires : goal.count_untaken-requires
count_untaken-requires c =
    let few : nat_lt most_untaken c.args.session.now.untaken ≡ false = sym c.is_crowded.ensures ∙ c.if-is_crowded.false in
    let most : c.args.session.now.untaken ≤ most_untaken = ltb-false most_untaken c.args.session.now.untaken few in
    omega (arith, most, c.spelled_length.ensures.few)

pub returns-clause-performs : goal.returns-clause-performs
returns-clause-performs c setup rest pending owed front none =
    let few : nat_lt most_untaken c.args.session.now.untaken ≡ false = sym c.is_crowded.ensures ∙ c.if-is_crowded.false in
    let counted : c.count_untaken.new.session ≡ record c.args.session.now { untaken = c.args.session.now.untaken + length (spell (frame_of c.args.control)) } =
    c.count_untaken.ensures ∙ ap (λ n. record c.args.session.now { untaken = c.args.session.now.untaken + n }) c.spelled_length.ensures.is in
    subst (λ (v : View). PerformsOwn setup c.args.session.now pending c.args.out.now v (record pending { owed = rest }) c.put_out.new.out) (sym counted)
    (subst (λ (os : List Output). PerformsOwn setup c.args.session.now pending c.args.out.now (record c.args.session.now { untaken = c.args.session.now.untaken + length (spell (frame_of c.args.control)) }) (record pending { owed = rest }) os) (sym c.in_ok-put_out.ensures)
    (pays_control setup c.args.session.now pending rest c.args.control c.requires.short owed few front none c.args.out.now))

pub returns-clause-few : goal.returns-clause-few
returns-clause-few c = sym c.is_crowded.ensures ∙ c.if-is_crowded.false
