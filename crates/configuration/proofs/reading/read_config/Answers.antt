use Rattle.std.proofs.lemmas.Result.{IfOk-weaker}
use Rattle.configuration.proofs.Servable.{servable}
use Rattle.configuration.proofs.ConfigsLemmas.{no_toml, not_both}
use Rattle.configuration.proofs.reading.read_config.Goals as goal

pub returns-else-is_memory-clause-err : goal.returns-else-is_memory-clause-err
returns-else-is_memory-clause-err c =
    no_toml _ (c.in-Err.ensures.refused (λ m. not_both c.is_memory.result (c.is_memory.ensures.1 m) c.if-is_memory.false))

pub returns-in-Ok-clause-servable : goal.returns-in-Ok-clause-servable
returns-in-Ok-clause-servable c = IfOk-weaker c.read_table.result _ _ (λ config is. servable _ config is) c.read_table.ensures.ok
