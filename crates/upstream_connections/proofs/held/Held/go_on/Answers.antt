use Rattle.std.proofs.Common.{◌≡◌, ◌++◌, refl, false, [], Some, Result, Ok, IfOk, sym, ap, ◌∙◌, subst}
use Rattle.request_buffer.specs.Waits.{Request}
use Rattle.theory_requests.specs.State.{Way, Held}
use Rattle.theory_requests.specs.State.Way.{Waiting, Going, Dropped}
use Rattle.theory_requests.specs.State.Due.{Nothing}
use Rattle.upstream_connections.specs.declared.held.Due.TheVariants as due
use Rattle.upstream_connections.specs.declared.held.Held.TheInside.{Inside}
use Rattle.upstream_connections.specs.declared.held.Way.TheVariants as way
use Rattle.upstream_connections.specs.Ways.{way_of}
use Rattle.upstream_connections.specs.Requests.{due_by, GoesBy, IsPassed}
use Rattle.upstream_connections.proofs.Passed.{passes}
use Rattle.upstream_connections.proofs.held.Held.go_on.Goals.{in-Waiting+in_ok-gather-in-Waiting, in-Going+in_ok-text-in-Going, in-Dropped}
use Rattle.upstream_connections.proofs.held.Held.go_on.Goals as goal

ok_so : {T E : Type 0} (r : Result T E) (x : T) (P : T → Type 0) → r ≡ Ok x → P x → IfOk r P
ok_so r x P is so = subst (λ (q : Result _ _). IfOk q P) (sym is) so

pub returns-clause-goes : goal.returns-clause-goes
returns-clause-goes c =
    let was : c.args.self.now.way ≡ way_of c.self.inside.way = sym (ap (λ (h : Held). h.way) c.self.view_is) in elim c.match-self.branch [
      | in-Waiting+in_ok-gather-in-Waiting w ↦
          let own : c.args.self.now.way ≡ way_of (way.Waiting w.in-Waiting.request) = was ∙ ap way_of w.in-Waiting.is in
          let now : way_of c.match-self.self-inside.way ≡ Waiting w.in-Waiting.request.route w.in-Waiting.request.text w.in-Waiting.request.stage (w.in-Waiting.request.body ++ c.args.octets.now) =
          ap (λ (i : Inside). way_of i.way) w.self-inside-is ∙ ap (λ (r : Request). way_of (way.Waiting r)) w.in_ok-gather-in-Waiting.ensures.added in
          ok_so c.match-self.result due.Nothing _ w.result-is
          (subst (λ (v : Way). GoesBy [] c.args.self.now.id c.args.octets.now c.args.trailers.now false v Nothing (Some (way_of c.match-self.self-inside.way))) (sym own) (refl, ap Some now))
      | in-Going+in_ok-text-in-Going w ↦
          let own : c.args.self.now.way ≡ Going w.in-Going.number w.in-Going.going = was ∙ ap way_of w.in-Going.is in
          let now : way_of c.match-self.self-inside.way ≡ Going w.in-Going.number w.pass.new.self = ap (λ (i : Inside). way_of i.way) w.self-inside-is in
          ok_so c.match-self.result w.to_send.result _ w.result-is
          (subst (λ (v : Way). GoesBy [] c.args.self.now.id c.args.octets.now c.args.trailers.now false v (due_by w.to_send.result) (Some (way_of c.match-self.self-inside.way))) (sym own)
          (subst (λ (v : Way). IsPassed c.args.octets.now c.args.trailers.now false w.in-Going.number w.in-Going.going (due_by w.to_send.result) (Some v)) (sym now)
          (passes c.args.octets.now c.args.trailers.now w.in-Going.number w.in-Going.going w.pass.new.self w.in_ok-text-in-Going.text.items (due_by w.to_send.result) w.in_ok-text-in-Going.ensures w.to_send.ensures)))
      | in-Dropped w ↦
          let own : c.args.self.now.way ≡ Dropped = was ∙ ap way_of w.in-Dropped.is in
          let now : way_of c.match-self.self-inside.way ≡ Dropped = ap (λ (i : Inside). way_of i.way) w.self-inside-is ∙ ap way_of w.in-Dropped.is in
          ok_so c.match-self.result due.Nothing _ w.result-is
          (subst (λ (v : Way). GoesBy [] c.args.self.now.id c.args.octets.now c.args.trailers.now false v Nothing (Some (way_of c.match-self.self-inside.way))) (sym own) (refl, ap Some now))
    ]
