use Rattle.std.proofs.Common.{◌≡◌, ◌∙◌, reverse, ap, sym, subst, true, false}
use Rattle.std.proofs.lemmas.Bool.{and_parts}
use Rattle.model.specs.Logs.{client_in}
use Rattle.effects.specs.Views.{event_of}
use Rattle.event_handlers.specs.Admission.{admits as admits_kept}
use Rattle.gateway.specs.declared.phase.Phase.TheVariants as phase
use Rattle.gateway.specs.Stands.{Standing, StandsNext, is_open}
use Rattle.gateway.proofs.Admitting.{admitted_in}
use Rattle.gateway.proofs.Going.{open_in, serves_mid, mid_leads, stands_next, ended, on_ok_map}
use Rattle.gateway.proofs.gateway.Gateway.try_step.Goals.{in-Over, in_default, then-matches, else-matches}
use Rattle.gateway.proofs.gateway.Gateway.try_step.Goals as goal

pub greet-requires-clause-fresh : goal.greet-requires-clause-fresh
greet-requires-clause-fresh c =
    let st = c.requires.stands in
    let goes = (and_parts (is_open c.args.self.now.phase) (admits_kept c.args.self.now.kept (event_of c.args.event.now)) c.requires.admitted).0 in
    (open_in c.args.self.now.phase st.0 c.args.self.now.partial c.args.self.now.kept (client_in st.1) st.2 goes st.3.is_in).fresh

pub greet-requires-clause-reached : goal.greet-requires-clause-reached
greet-requires-clause-reached c =
    let st = c.requires.stands in
    let goes = (and_parts (is_open c.args.self.now.phase) (admits_kept c.args.self.now.kept (event_of c.args.event.now)) c.requires.admitted).0 in
    let o = open_in c.args.self.now.phase st.0 c.args.self.now.partial c.args.self.now.kept (client_in st.1) st.2 goes st.3.is_in in
    (st.0, (st.2, o.state, o.leads))

pub happen-requires-clause-reached : goal.happen-requires-clause-reached
happen-requires-clause-reached c =
    let st = c.requires.stands in
    let goes = (and_parts (is_open c.args.self.now.phase) (admits_kept c.args.self.now.kept (event_of c.args.event.now)) c.requires.admitted).0 in
    let leads = mid_leads st.0 c.args.self.now c.greet.new.self c.greet.new.out st.1 st.2 st.3 c.in_ok-greet.ensures goes in
    (st.0, serves_mid st.0 c.args.self.now c.greet.new.self c.greet.new.out st.1 st.2 st.3 c.in_ok-greet.ensures goes, (leads.0, leads.1, leads.2))

pub returns-clause-steps : goal.returns-clause-steps
returns-clause-steps c =
    let goes = (and_parts (is_open c.args.self.now.phase) (admits_kept c.args.self.now.kept (event_of c.args.event.now)) c.requires.admitted).0 in
    let closed : c.if-matches.self ≡ ended c.in_ok-went.went c.happen.new.self = elim c.match-matches.branch [
      | in-Over w ↦ elim c.if-matches.branch [
        | then-matches v ↦ v.self-is ∙ ap (λ (g : Standing). record g { phase = phase.Closed }) c.self-2.view_is ∙ sym (ap (λ x. ended x c.happen.new.self) w.in-Over.is)
        | else-matches v ↦ absurd (let no : false ≡ true = sym v.if-matches.false ∙ w.matches-is in cc)
      ]
      | in_default w ↦ elim c.if-matches.branch [
        | then-matches v ↦ absurd (let no : false ≡ true = sym w.matches-is ∙ v.if-matches.true in cc)
        | else-matches v ↦ v.self-is ∙ sym (ap (λ x. ended x c.happen.new.self) w.in_default.is)
      ]
    ] in
    on_ok_map c.append_to.result (λ put. (
      reverse c.happen.new.out,
      put,
      λ setup log run stands. subst (λ g. StandsNext setup g log run (event_of c.args.event.now) (reverse c.happen.new.out)) (sym closed)
          (stands_next setup c.args.self.now c.greet.new.self c.greet.new.out log run stands c.in_ok-greet.ensures goes (event_of c.args.event.now) (admitted_in setup c.args.self.now log run stands (event_of c.args.event.now) c.requires.admitted)
          c.happen.new.self c.happen.new.out c.in_ok-went.ensures.terms c.in_ok-went.went c.in_ok-went.ensures.rests c.in_ok-went.ensures.happens),
    )) c.append_to.ensures.ok
