use Rattle.std.proofs.Common.{ap, sym, ◌∙◌, refl}
use Rattle.gateway.specs.Stands.{Standing}
use Rattle.gateway.proofs.Pieces.{reads_rest, reads_over, wait_behind}
use Rattle.gateway.proofs.gateway.Gateway.read_frames.Goals as goal

pub returns-in_ok-extend_from_slice-in-Rest-clause-reads : goal.returns-in_ok-extend_from_slice-in-Rest-clause-reads
returns-in_ok-extend_from_slice-in-Rest-clause-reads c =
    rw (← c.self.view_is) (reads_rest _ _ (sym c.deref.ensures.value) refl refl refl c.args.out.now c.take_frames.new.out c.args.text.now c.take_frames.new.session c.extend_from_slice.new.self.items c.in_ok-used.field-0 c.in-Rest.used c.in-Rest.is
    (wait_behind c.self.inside.partial.items c.extend_from_slice.new.self.items c.args.text.now c.in-Rest.used (ap (λ (g : Standing). g.partial) c.self.view_is ∙ c.requires.none_wait) c.in_ok-extend_from_slice-in-Rest.ensures.items)
    c.in_ok-used.ensures.reads)

pub returns-in-Over-clause-reads : goal.returns-in-Over-clause-reads
returns-in-Over-clause-reads c =
    rw (← c.self.view_is) (reads_over _ _ (sym c.deref.ensures.value) refl refl refl c.args.out.now c.take_frames.new.out c.args.text.now _ c.in_ok-used.field-0 c.in-Over.is c.in_ok-used.ensures.reads)
