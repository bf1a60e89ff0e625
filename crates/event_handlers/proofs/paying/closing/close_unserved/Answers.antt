use Rattle.std.proofs.Common.{◌≡◌, ℕ, suc, ◌<◌, false, List, length, map, Option, Some, None, refl, sym, ◌∙◌, ap, subst}
use Rattle.std.specs.Prelude.{option_map}
use Rattle.model.specs.Logs.{Output}
use Rattle.model.specs.Logs.Output.{Does}
use Rattle.model.specs.Logs.Act.{Close}
use Rattle.model.specs.Tapes.{put}
use Rattle.theory_requests.specs.Lines.{find, without}
use Rattle.theory_requests.specs.State.{drop_from}
use Rattle.connection_state.specs.Inbound.{Inbound}
use Rattle.streams.specs.Sending.{is_served}
use Rattle.upstream_connections.specs.Kept.{State}
use Rattle.upstream_connections.specs.Connections.{Connection, number_of, works_for}
use Rattle.refinement.specs.View.{View}
use Rattle.refinement.specs.Rest.{told_view, back_of}
use Rattle.refinement.specs.Bringing.{PerformsOwn}
use Rattle.refinement.proofs.Bringing.{own_none, own_then}
use Rattle.refinement.proofs.Lives.{IsDone}
use Rattle.event_handlers.specs.Closings.{NoneDoneBut}
use Rattle.event_handlers.proofs.Closings.{closed_but, fewer, none_open, none_served, unserved_done}
use Rattle.event_handlers.proofs.paying.Closes.{closes}
use Rattle.event_handlers.proofs.paying.closing.close_unserved.Goals as goal

pub returns-then-is_served-clause-performs : goal.returns-then-is_served-clause-performs
returns-then-is_served-clause-performs c setup back = own_none setup c.args.session.now (back_of back) c.args.out.now

pub returns-then-is_served-clause-none_done : goal.returns-then-is_served-clause-none_done
returns-then-is_served-clause-none_done c = none_served c.args.id c.args.session.now (ap (λ (v : View). (told_view v).served c.args.id) (sym c.session.view_is) ∙ sym c.is_served.ensures ∙ c.if-is_served.true) c.requires

pub loop-k-init : goal.loop-k-init
loop-k-init c = record { performs = λ setup back. own_none setup c.args.session.now (back_of back) c.args.out.now; none_but = c.requires; inbound = refl; offers = refl; encoding = refl; untaken = refl }

-- where a number is found, a connection of the stream is
record IsNewest (id : ℕ) (cs : List Connection) (k : ℕ) : Type 0 where
  pub connection : Connection
  pub found : find works_for (suc id) cs ≡ Some connection
  pub number : connection.live.k ≡ k

newest : (id : ℕ) (cs : List Connection) (k : ℕ) → option_map number_of (find works_for (suc id) cs) ≡ Some k → IsNewest id cs k
newest id cs k is = by (find works_for (suc id) cs) refl is
  where
    by : (o : Option Connection) → find works_for (suc id) cs ≡ o → option_map number_of o ≡ Some k → IsNewest id cs k
    by None found none = let clash : ◌≡◌ {A = Option ℕ} None (Some k) = none in cc
    by (Some c) found some = let same : c.live.k ≡ k = cc in record { connection = c; found = found; number = same }

absent : (id : ℕ) (cs : List Connection) → option_map number_of (find works_for (suc id) cs) ≡ None → find works_for (suc id) cs ≡ None
absent id cs is = by (find works_for (suc id) cs) is
  where
    by : (o : Option Connection) → option_map number_of o ≡ None → o ≡ None
    by None none = refl
    by (Some c) some = let clash : ◌≡◌ {A = Option ℕ} (Some c.live.k) None = some in cc

pub loop-k-smaller : goal.loop-k-smaller
loop-k-smaller c =
    let it = newest c.args.id c.loop-k.session.upstreams.live c.in-Some.k (sym c.newest_of.ensures ∙ c.in-Some.is) in
    let same : c.close.new.self.live ≡ without number_of c.in-Some.k c.loop-k.session.upstreams.live = ap (λ (u : State). u.live) c.close.ensures ∙ ap (λ (v : View). without number_of c.in-Some.k v.upstreams.live) c.session-in-loop-k.view_is in
    subst (λ (cs : List Connection). length cs < length c.loop-k.session.upstreams.live) (sym same)
    (subst (λ k. length (without number_of k c.loop-k.session.upstreams.live) < length c.loop-k.session.upstreams.live) it.number (fewer c.args.id c.loop-k.session.upstreams.live it.connection it.found))

pub loop-k-preserved : goal.loop-k-preserved
loop-k-preserved c =
    let i = c.loop-k.invariant in
    let k = c.in-Some.k in
    let it = newest c.args.id c.loop-k.session.upstreams.live k (sym c.newest_of.ensures ∙ c.in-Some.is) in
    let off : (told_view c.loop-k.session).served c.args.id ≡ false =
    ap (λ (b : Inbound). is_served b.rows c.args.id) i.inbound ∙ ap (λ (v : View). (told_view v).served c.args.id) (sym c.session.view_is) ∙ sym c.is_served.ensures ∙ c.if-is_served.false in
    let closed : View = record c.loop-k.session { upstreams = record c.loop-k.session.upstreams { held = map (drop_from k) c.loop-k.session.upstreams.held; live = without number_of k c.loop-k.session.upstreams.live } } in
    let out : c.close_up.new.self ≡ put c.loop-k.out (Does (Close k)) = c.in_ok-close_up.ensures in
    let view_is : record { inbound = c.session-in-loop-k.inside.inbound; offers = c.session-in-loop-k.inside.offers; upstreams = c.close.new.self; marks = c.session-in-loop-k.inside.marks; encoding = c.session-in-loop-k.inside.encoder; untaken = c.session-in-loop-k.inside.untaken } ≡ closed =
    ap (λ (u : State). record { inbound = c.session-in-loop-k.inside.inbound; offers = c.session-in-loop-k.inside.offers; upstreams = u; marks = c.session-in-loop-k.inside.marks; encoding = c.session-in-loop-k.inside.encoder; untaken = c.session-in-loop-k.inside.untaken }) c.close.ensures
    ∙ ap (λ (v : View). record v { upstreams = record v.upstreams { held = map (drop_from k) v.upstreams.held; live = without number_of k v.upstreams.live } }) c.session-in-loop-k.view_is in
    record {
      performs = λ setup back.
          subst (λ (v : View). PerformsOwn setup c.args.session.now (back_of back) c.args.out.now v (back_of back) c.close_up.new.self) (sym view_is)
          (subst (λ (os : List Output). PerformsOwn setup c.args.session.now (back_of back) c.args.out.now closed (back_of back) os) (sym out)
          (own_then setup c.args.session.now c.loop-k.session closed (back_of back) (back_of back) (back_of back) c.args.out.now c.loop-k.out (put c.loop-k.out (Does (Close k)))
          (i.performs setup back)
          (closes setup c.loop-k.session back k
          (λ top below. subst (λ n. IsDone (told_view c.loop-k.session) c.loop-k.session.upstreams.live n) it.number (unserved_done (told_view c.loop-k.session) top c.args.id c.loop-k.session.upstreams.live it.connection off below it.found)) c.loop-k.out)));
      none_but = subst (NoneDoneBut c.args.id) (sym view_is) (closed_but c.args.id k c.loop-k.session i.none_but);
      inbound = ap (λ (v : View). v.inbound) c.session-in-loop-k.view_is ∙ i.inbound;
      offers = ap (λ (v : View). v.offers) c.session-in-loop-k.view_is ∙ i.offers;
      encoding = ap (λ (v : View). v.encoding) c.session-in-loop-k.view_is ∙ i.encoding;
      untaken = ap (λ (v : View). v.untaken) c.session-in-loop-k.view_is ∙ i.untaken;
    }

pub returns-clause-none_done : goal.returns-clause-none_done
returns-clause-none_done c = none_open c.args.id c.loop-k.session (absent c.args.id c.loop-k.session.upstreams.live (sym c.newest_of.ensures ∙ c.in_default.is)) c.loop-k.invariant.none_but
