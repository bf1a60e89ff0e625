use Rattle.std.proofs.Common.{◌≡◌, false, true, arith}
use Rattle.std.proofs.lemmas.Bool.Decides.{nat_tests}
use Rattle.model.specs.Responses.{is_extension_octet}
use Rattle.response_texts.proofs.ChunkLineLemmas.{breaks_extension, breaks_control, octet_goes, extension_returns}
use Rattle.response_texts.proofs.chunk_line.extension_step.Goals as goal

pub returns-then-octets-ge-MOST_OCTETS : goal.returns-then-octets-ge-MOST_OCTETS
returns-then-octets-ge-MOST_OCTETS c =
    let inside : is_extension_octet c.args.octet ≡ true = grind (arith, nat_tests) in
    λ text x. breaks_extension c.args.size c.args.octets c.args.octet text c.if-octets-ge-MOST_OCTETS.true inside x

pub returns-in-13 : goal.returns-in-13
returns-in-13 c = record { range = tt; goes = λ text x. extension_returns c.args.size c.args.octets c.args.octet text c.in-13.is x }

pub returns-in-10 : goal.returns-in-10
returns-in-10 c =
    let outside : is_extension_octet c.args.octet ≡ false = grind (arith, nat_tests) in
    λ text x. breaks_control c.args.size c.args.octets c.args.octet text outside (λ e. absurd (omega arith)) x

pub returns-else-octets-ge-MOST_OCTETS : goal.returns-else-octets-ge-MOST_OCTETS
returns-else-octets-ge-MOST_OCTETS c =
    let inside : is_extension_octet c.args.octet ≡ true = grind (arith, nat_tests) in
    record { range = tt; goes = λ text x. octet_goes c.args.size c.args.octets c.args.octet text c.if-octets-ge-MOST_OCTETS.false inside x }
