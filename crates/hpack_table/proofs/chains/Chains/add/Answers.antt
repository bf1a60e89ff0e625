use Rattle.std.proofs.Common.{◌≡◌, ℕ, ◌+◌, ◌%◌, ◌^◌, List, length, slice_get, ap, refl, ◌∙◌}
use Rattle.hpack_table.specs.Chaining.{bucket, entries_since, with_number}
use Rattle.hpack_table.proofs.Chained.{chained_more, written_back, noted_length}
use Rattle.hpack_table.proofs.chains.Chains.add.Goals as goal

pub invariant_of-self-in_err-push_front : goal.invariant_of-self-in_err-push_front
invariant_of-self-in_err-push_front c = rw c.in_err-push_front.ensures.items (c.make_buckets.ensures c.self.inside.links.items c.self.invariant)

pub invariant_of-self-2 : goal.invariant_of-self-2
invariant_of-self-2 c =
    let newest : List ℕ = c.make_buckets.new.newest.items in
    let added : ℕ = c.self.inside.added in
    let next : ℕ = (added + 1) % 2 ^ 32 in
    let noted : c.note.new.newest ≡ with_number newest (bucket c.args.hash) next = c.note.ensures ∙ ap (λ ns. with_number ns c.bucket_of-2.result next) c.deref_mut.ensures.value ∙ ap (λ b. with_number newest b next) c.bucket_of-2.ensures in
    let gap : c.since-gap.result ≡ entries_since added (slice_get newest (bucket c.args.hash)) =
    c.since-gap.ensures ∙ ap (λ ns. entries_since added (slice_get ns c.bucket_of.result)) c.deref.ensures.value ∙ ap (λ b. entries_since added (slice_get newest b)) c.bucket_of.ensures in
    let back = written_back newest c.note.new.newest c.make_buckets.new.newest.len (ap length noted ∙ noted_length newest (bucket c.args.hash) next) c.make_buckets.new.newest.ok.0 in
    rw (back, noted, c.in_ok-push_front.ensures.items) (chained_more newest added next c.args.hash c.since-gap.result c.self.inside.links.items _ (c.make_buckets.ensures c.self.inside.links.items c.self.invariant) refl refl gap)
