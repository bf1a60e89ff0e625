use Rattle.std.proofs.Common.{◌∙◌, ap}
use Rattle.effects.specs.Sections.{three_digits}
use Rattle.effects.proofs.HeadFields.{are_section, is_section, is_short}
use Rattle.effects.proofs.sections.section_of.Goals as goal

pub returns-clause-section : goal.returns-clause-section
returns-clause-section c =
    is_section c.insert.new.self.items c.args.head c.into_fields-fields.ensures.passed
    (are_section c.insert.new.self.items c.into_fields-fields.result.items c.in_ok-status.status c.args.head c.in_ok-insert.ensures.items c.in_ok-status.ensures.name (c.in_ok-status.ensures.value ∙ ap three_digits c.status-status.ensures) c.into_fields-fields.ensures.are)

pub returns-clause-short : goal.returns-clause-short
returns-clause-short c =
    is_short c.insert.new.self.items c.args.head c.into_fields-fields.ensures.passed
    (are_section c.insert.new.self.items c.into_fields-fields.result.items c.in_ok-status.status c.args.head c.in_ok-insert.ensures.items c.in_ok-status.ensures.name (c.in_ok-status.ensures.value ∙ ap three_digits c.status-status.ensures) c.into_fields-fields.ensures.are)
