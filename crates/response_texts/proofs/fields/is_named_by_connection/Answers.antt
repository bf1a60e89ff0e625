use Rattle.std.proofs.Common.{◌∙◌}
use Rattle.response_texts.proofs.FieldLists.{some_names}
use Rattle.response_texts.proofs.fields.is_named_by_connection.Goals as goal

pub returns : goal.returns
returns c = c.some_names.ensures ∙ some_names c.args.name.now c.args.fields.now
