use Rattle.std.proofs.Common.{ℕ, List, subst}
use Rattle.h2replay_setup.specs.Settings.{SaysConfig}
use Rattle.h2replay_setup.proofs.setting.read_config_text.Goals as goal

pub returns-clause-says : goal.returns-clause-says
returns-clause-says c = subst (λ (text : List ℕ). SaysConfig text) c.deref.ensures c.in_ok-judge_config.ensures.says
