use Rattle.std.proofs.Common.{false, refl, arith}
use Rattle.h1_reader.proofs.Steps.{stands_new}
use Rattle.h1_reader.proofs.KeepSteps.{knows_new}
use Rattle.response_texts.proofs.FrontLemmas.{none_in_nothing}
use Rattle.h1_reader.proofs.reader.Reader.new.Goals as goal

pub invariant_of-result : goal.invariant_of-result
invariant_of-result c = rw (c.new.ensures.items, c.new-2.ensures.items) (omega arith, omega arith, none_in_nothing)

pub returns-clause-stands : goal.returns-clause-stands
returns-clause-stands c = stands_new c.args.to_head (record { octets = c.new.result.items; connections = c.new-2.result.items; keeps = false }) c.new.ensures.items

pub returns-clause-knows : goal.returns-clause-knows
returns-clause-knows c = knows_new c.args.to_head (record { octets = c.new.result.items; connections = c.new-2.result.items; keeps = false }) refl
