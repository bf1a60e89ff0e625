use Rattle.std.proofs.Common.{◌≡◌, false, true, arith}
use Rattle.std.proofs.lemmas.Bool.Decides.{nat_tests}
use Rattle.model.specs.Octets.{is_space}
use Rattle.response_texts.proofs.ChunkLineLemmas.{breaks_spaces, breaks_other, space_goes, mark_goes, return_goes}
use Rattle.response_texts.proofs.chunk_line.space_step.Goals as goal

pub returns-then-spaces-ge-MOST_OCTETS : goal.returns-then-spaces-ge-MOST_OCTETS
returns-then-spaces-ge-MOST_OCTETS c =
    let space : is_space c.args.octet ≡ true = grind (arith, nat_tests) in
    λ text b. breaks_spaces c.args.size c.args.spaces c.args.octet text c.if-spaces-ge-MOST_OCTETS.true space b

pub returns-else-spaces-ge-MOST_OCTETS : goal.returns-else-spaces-ge-MOST_OCTETS
returns-else-spaces-ge-MOST_OCTETS c =
    let space : is_space c.args.octet ≡ true = grind (arith, nat_tests) in
    record { range = omega arith; goes = λ text b. space_goes c.args.size c.args.spaces c.args.octet text c.if-spaces-ge-MOST_OCTETS.false space b }

pub returns-in-59 : goal.returns-in-59
returns-in-59 c = record { range = tt; goes = λ text b. mark_goes c.args.size c.args.spaces c.args.octet text c.in-59.is b }

pub returns-in-13 : goal.returns-in-13
returns-in-13 c = record { range = tt; goes = λ text b. return_goes c.args.size c.args.spaces c.args.octet text c.in-13.is b }

pub returns-in_default : goal.returns-in_default
returns-in_default c =
    let other : is_space c.args.octet ≡ false = grind (arith, nat_tests) in
    λ text b. breaks_other c.args.size c.args.spaces c.args.octet text c.requires other (λ e. absurd (grind (arith, nat_tests))) (λ e. absurd (grind (arith, nat_tests))) b
