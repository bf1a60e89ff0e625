-- How many octets the frames of a header block are, and that a block that is written into nothing is all that is written.
use Rattle.std.proofs.Common.{◌≡◌, ℕ, zero, suc, ◌+◌, ◌*◌, ◌-◌, ◌/◌, Bool, List, [], ◌++◌, length, take, drop, sym, ◌∙◌, ap, subst, arith, if◌then◌else◌, length-append}
use Rattle.std.proofs.lemmas.List.{take-append-drop}
use Rattle.model.specs.Messages.{Field}
use Rattle.model.specs.Tables.{Table}
use Rattle.header_blocks.specs.Encoding.{Encoding}
use Rattle.header_blocks.specs.Encodes.{IsWrittenBy, Encodes}
use Rattle.effects.specs.Blocks.{frames_of, filled_before, block_frames}
use Rattle.event_handlers.specs.flushing.Changes.{octets_of_frames}

-- both parts of a list are as long as the list
both_parts : (n : ℕ) (octets : List ℕ) → length (take n octets) + length (drop n octets) ≡ length octets
both_parts n octets = sym (length-append (take n octets) (drop n octets)) ∙ ap (λ (xs : List ℕ). length xs) (take-append-drop n octets)

-- so many filled frames, and the last
each_header : (filled kind flags stream : ℕ) (octets : List ℕ) → octets_of_frames (frames_of filled kind flags stream octets) ≡ length octets + 9 * (filled + 1)
each_header zero kind flags stream octets = omega arith
each_header (suc filled) kind flags stream octets =
    let rest = each_header filled 9 0 stream (drop 16384 octets) in
    let parts = both_parts 16384 octets in
    omega (arith, rest, parts)

-- The frames of a block are its octets and a header for each.
pub block_octets : (stream : ℕ) (ends : Bool) (block : List ℕ) → octets_of_frames (block_frames stream ends block) ≡ length block + 9 * ((length block - 1) / 16384 + 1)
block_octets stream ends block = each_header (filled_before block) 1 (if ends then 1 else 0) stream block

-- What is written into nothing is all there is then.
pub written_all : (encoding : Encoding) (fields : List Field) (next : Table) (before after : List ℕ) → before ≡ [] → Encodes encoding fields next before after → IsWrittenBy encoding fields next after
written_all encoding fields next before after none encodes = subst (IsWrittenBy encoding fields next) (sym (encodes.added ∙ ap (λ (xs : List ℕ). xs ++ encodes.written) none)) encodes.is_written
