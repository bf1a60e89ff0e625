use Rattle.std.proofs.Common.{◌≡◌, ◌∙◌, List, map, true, ap, refl}
use Rattle.std.proofs.lemmas.Result.{IfOk-weaker, IfErr-weaker}
use Rattle.clap.specs.Words.{Text, app_of, found_of, is_simple, is_simple_and_free}
use Rattle.clap.proofs.OnLiterals.{clap_on_literals}
use Rattle.command_line.specs.Gateways.{gateway_app, Refuses}
use Rattle.command_line.proofs.Meant.{Parses, gateway_means, gateway_refuses, gateway_fails}
use Rattle.command_line.proofs.gateways.read_gateway_words.Goals as goal

simple : is_simple gateway_app ≡ true
unfolding clap_on_literals
simple = refl

free : is_simple_and_free gateway_app ≡ true
unfolding clap_on_literals
free = refl

pub returns-in_default-clause-err : goal.returns-in_default-clause-err
unfolding Refuses
returns-in_default-clause-err c = tt

pub returns-in-Ok-try_get_matches_from : goal.returns-in-Ok-try_get_matches_from
returns-in-Ok-try_get_matches_from c =
    let words : List Text = map (λ s. s.now) c.args.words.now in
    let app = c.in-Ok.ensures in
    let parses : Parses (found_of c.in-Ok-try_get_matches_from.matches) (app_of c.in-Ok.command) gateway_app words = record {
      same = app;
      taken = c.in-Ok-try_get_matches_from.ensures.kinds (ap is_simple_and_free app ∙ free);
      rows = (c.in-Ok-try_get_matches_from.ensures.matches (ap is_simple app ∙ simple)).0;
    } in record {
      ok = IfOk-weaker c.gateway_values.result _ _ (λ v has. gateway_means _ _ words v parses has) c.gateway_values.ensures.ok;
      err = IfErr-weaker c.gateway_values.result _ _ (λ r lacks. gateway_refuses _ _ words r parses lacks) c.gateway_values.ensures.err;
    }

pub returns-in-Err-clause-err : goal.returns-in-Err-clause-err
returns-in-Err-clause-err c =
    let app = c.in-Ok.ensures in
    gateway_fails _ (map (λ s. s.now) c.args.words.now) c.in-Err.error c.fault_of.result app (c.in-Err.ensures.kinds (ap is_simple_and_free app ∙ free)) c.fault_of.ensures
