use Rattle.std.proofs.Common.{ℕ, rules, tests}
use Rattle.std.proofs.lemmas.Iterator.Consumers.{YieldsList-from_first}
use Rattle.std.proofs.lemmas.Iterator.Search.{any_from_yields_List}
use Rattle.streams.specs.declared.records.StreamRecord.{StreamRecord}
use Rattle.streams.specs.Records.{is_shifted_past}
use Rattle.streams.proofs.records.shifts_past.Goals as goal

-- the records are walked, each with its key
pub returns : goal.returns
returns c =
    any_from_yields_List (λ (entry : ℕ × StreamRecord). is_shifted_past c.args.first entry.1) _ _ c.any.result c.any.ensures.ran
    (YieldsList-from_first (λ item. (item.0, item.1.now)) (λ rest. rest) _ c.iter.ensures.rest) (λ x b q k. search (rules, tests))
