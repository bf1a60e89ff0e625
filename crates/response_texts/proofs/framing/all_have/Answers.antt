use Rattle.std.proofs.Common.{◌∙◌}
use Rattle.std.specs.Prelude.{bytes_eq}
use Rattle.response_texts.proofs.FieldLists.{named_all}
use Rattle.response_texts.proofs.framing.all_have.Goals as goal

pub returns : goal.returns
returns c = c.all_agree.ensures ∙ named_all c.args.name.now (bytes_eq c.args.value.now) c.args.fields.now
