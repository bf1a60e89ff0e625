use Rattle.std.proofs.Common.{refl}
use Rattle.std.proofs.lemmas.Result.{IfOk-weaker}
use Rattle.toml.specs.Parse.{parse_document}
use Rattle.gateway.specs.Setups.{setup_of}
use Rattle.configuration.specs.Configs.{Configures}
use Rattle.replay.specs.Printing.{IsSetup}
use Rattle.std.specs.Option.{option_copied}
use Rattle.replay.proofs.replays.config_of.Goals as goal

pub returns-in-Some-clause-ok : goal.returns-in-Some-clause-ok
returns-in-Some-clause-ok c =
    IfOk-weaker c.read_config.result (λ config. Configures (parse_document c.in-Some.text.now) config) (λ config. IsSetup (option_copied c.args.text) (setup_of config))
    (λ config says. rw c.in-Some.is (config, says, refl)) c.read_config.ensures.ok
