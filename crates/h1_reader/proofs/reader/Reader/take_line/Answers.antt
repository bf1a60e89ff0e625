use Rattle.std.proofs.Common.{◌≡◌, ◌∙◌, refl, ap}
use Rattle.h1_reader.specs.Standing.{State}
use Rattle.response_texts.specs.declared.chunk_line.LineStep.TheVariants.{Whole}
use Rattle.h1_reader.specs.declared.reader.Place.TheVariants.{Line, Trailers}
use Rattle.response_texts.proofs.TrailerLemmas.{no_trailers_yet, trailers_may_come}
use Rattle.h1_reader.proofs.ChunkSteps.{hears_line, hears_last}
use Rattle.h1_reader.proofs.FaultSteps.{fails_line}
use Rattle.h1_reader.proofs.reader.Reader.take_line.Goals as goal

pub returns-in-None-clause-fault : goal.returns-in-None-clause-fault
returns-in-None-clause-fault c = fails_line c.args.self.now c.args.line c.args.octet c.requires.place c.in-None.ensures

pub returns-in-Some-On-clause-ok : goal.returns-in-Some-On-clause-ok
returns-in-Some-On-clause-ok c =
    let step = rw c.in-Some-On.field-0-is at c.in-Some-On.ensures in (
      refl,
      hears_line c.args.self.now _ c.args.line c.in-Some-On.next c.args.octet c.requires.place step.goes
          (ap (λ (s : State). record { to_head = s.to_head; place = Line c.in-Some-On.next; held = s.held }) c.self.view_is),
    )

pub returns-in-Some-Whole-eq0-clause-ok : goal.returns-in-Some-Whole-eq0-clause-ok
returns-in-Some-Whole-eq0-clause-ok c =
    let size : c.in-Some-Whole-eq0.field-0 ≡ Whole 0 = c.in-Some-Whole-eq0.field-0-is ∙ ap (λ n. Whole n) c.in-Some-Whole-eq0.field-0-0-test in
    let step = rw size at c.in-Some-Whole-eq0.ensures in (
      refl,
      hears_last c.args.self.now _ c.args.line c.args.octet c.requires.place step.goes no_trailers_yet trailers_may_come
          (λ i. record { to_head = (c.self.view_is i).to_head; place = Trailers; held = record { octets = c.new.ensures.items i; connections = (c.self.view_is i).held.connections; keeps = (c.self.view_is i).held.keeps } }),
    )
