use Rattle.std.proofs.Common.{arith, rules, ◌≡◌, ◌+◌, ◌∙◌, [], ◌∷◌, ◌++◌, length, map, sym, subst}
use Rattle.std.proofs.lemmas.List.{length-map, map-append}
use Rattle.replay.proofs.ScriptsLemmas.{SoFar, one_more, fault_here}
use Rattle.std.proofs.lemmas.Grind.{common_steps}
use Rattle.gateway.specs.Views.{event_of}
use Rattle.replay.specs.Scripts.{lines_of, IsFirstFault, Says, SaysNothing}
use Rattle.replay.proofs.scripts.read_script.Goals as goal

pub returns-in-Err-NotALine-clause-err : goal.returns-in-Err-NotALine-clause-err
returns-in-Err-NotALine-clause-err c =
    let place : c.len.result ≡ length (map event_of c.loop-line.events.items) = c.len.ensures ∙ (search rules) ∙ sym (length-map c.loop-line.events.items event_of) in
    let nothing : SaysNothing c.in-Some.line.now = rw c.in-Err-NotALine.field-0-is at c.in-Err-NotALine.ensures.err in
    subst (λ n. IsFirstFault (lines_of c.args.script.now) (n + 1)) (sym place) (fault_here c.args.script.now c.loop-line.rest.now c.in-Some.line.now c.in-Some.after.now _ c.loop-line.invariant c.in-Some.ensures nothing)

pub loop-line-preserved : goal.loop-line-preserved
loop-line-preserved c =
    let says : Says c.in-Some.line.now (event_of c.in-Ok.event) = c.in-Ok.ensures.ok in
    let items : c.push.new.self.items ≡ c.loop-line.events.items ++ c.in-Ok.event ∷ [] = grind (arith, common_steps) in
    let events : map event_of c.push.new.self.items ≡ map event_of c.loop-line.events.items ++ event_of c.in-Ok.event ∷ [] = rw items (map-append event_of c.loop-line.events.items (c.in-Ok.event ∷ [])) in
    subst (SoFar c.args.script.now c.in-Some.after.now) (sym events) (one_more c.args.script.now c.loop-line.rest.now c.in-Some.line.now c.in-Some.after.now _ c.loop-line.invariant c.in-Some.ensures (event_of c.in-Ok.event) says)
