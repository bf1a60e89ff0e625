use Rattle.std.proofs.lemmas.Result.{IfOk-weaker, IfErr-weaker}
use Rattle.h2gw_setup.proofs.Refused.{few_clients, status_of_words, words_stop}
use Rattle.h2gw_setup.proofs.setting.read_command_line.Goals as goal

pub returns : goal.returns
returns g c = record {
  few = IfOk-weaker c.words_of.result _ _ (few_clients _) c.words_of.ensures.words;
  stops = IfErr-weaker c.words_of.result _ _ (words_stop _) c.words_of.ensures.stops;
  status = IfErr-weaker c.words_of.result _ _ (λ stop lacks. status_of_words stop (words_stop _ stop lacks)) c.words_of.ensures.stops;
}
