use Rattle.std.proofs.Common.{◌≡◌, ◌<◌, ◌∙◌, ◌-◌, length, take, ap, subst, refl, length-take-le, arith}
use Rattle.h1_reader.specs.Standing.{State, IsKept}
use Rattle.h1_reader.specs.declared.reader.Place.{Place}
use Rattle.h1_reader.specs.declared.reader.Place.TheVariants.{Chunk, ChunkEnd}
use Rattle.h1_reader.proofs.ChunkSteps.{hears_chunk, hears_chunk_all}
use Rattle.h1_reader.proofs.Joining.{goes_joined, goes_all, in_chunk_joins, behind_chunk_joins}
use Rattle.h1_reader.proofs.reader.Reader.take_chunk.Goals as goal

pub returns-then-count-left-clause-ok : goal.returns-then-count-left-clause-ok
returns-then-count-left-clause-ok c =
    let new = ap (λ (s : State). record { to_head = s.to_head; place = Chunk (c.args.left - length c.args.octets.now); held = s.held }) c.self.view_is in (
      c.requires.octets,
      omega arith,
      goes_all _ _ _ _ c.args.octets.now
          (goes_joined c.args.self.now (record { to_head = c.self.inside.to_head; place = Chunk (c.args.left - length c.args.octets.now); held = record { octets = c.self.inside.held.items; connections = c.self.inside.connections.items; keeps = c.self.inside.keeps } }) _ _ c.args.octets.now (hears_chunk c.args.self.now (record { to_head = c.self.inside.to_head; place = Chunk (c.args.left - length c.args.octets.now); held = record { octets = c.self.inside.held.items; connections = c.self.inside.connections.items; keeps = c.self.inside.keeps } }) c.args.left c.args.octets.now c.requires.place c.if-count-left.true new)
          (in_chunk_joins (record { to_head = c.self.inside.to_head; place = Chunk (c.args.left - length c.args.octets.now); held = record { octets = c.self.inside.held.items; connections = c.self.inside.connections.items; keeps = c.self.inside.keeps } }) (c.args.left - length c.args.octets.now) refl) c.in_ok-chunk.ensures),
    )

pub returns-clause-ok : goal.returns-clause-ok
returns-clause-ok c =
    let fits : length (take c.args.left c.args.octets.now) ≡ c.args.left = length-take-le c.args.left c.args.octets.now c.if-count-left.false in
    let some : 0 < c.args.left = subst (λ (p : Place). IsKept p c.self.inside.held.items) (ap (λ (s : State). s.place) c.self.view_is ∙ c.requires.place) c.self.invariant.2 in (
      some,
      c.if-count-left.false,
      goes_joined c.args.self.now (record { to_head = c.self.inside.to_head; place = ChunkEnd; held = record { octets = c.self.inside.held.items; connections = c.self.inside.connections.items; keeps = c.self.inside.keeps } }) _ _ (take c.args.left c.args.octets.now)
          (hears_chunk_all c.args.self.now (record { to_head = c.self.inside.to_head; place = ChunkEnd; held = record { octets = c.self.inside.held.items; connections = c.self.inside.connections.items; keeps = c.self.inside.keeps } }) c.args.left (take c.args.left c.args.octets.now) c.requires.place fits
          (ap (λ (s : State). record { to_head = s.to_head; place = ChunkEnd; held = s.held }) c.self.view_is))
          (behind_chunk_joins (record { to_head = c.self.inside.to_head; place = ChunkEnd; held = record { octets = c.self.inside.held.items; connections = c.self.inside.connections.items; keeps = c.self.inside.keeps } }) refl) c.in_ok-chunk-2.ensures,
    )
