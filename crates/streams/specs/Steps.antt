-- What comes to an active stream.
use Rattle.std.specs.Prelude.{ℕ, Bool, ◌||◌, pos, ◌+ℤ◌, ◌-ℤ◌}
use Rattle.theory_errors.specs.Summary.{Outline, Stream as Kept}

-- a stream to which octets are granted (RFC 9113, section 6.9.1)
abbrev pub granted : ℕ → Kept → Kept
granted count kept = record kept { balance = kept.balance +ℤ pos count }

-- one that took so many octets of DATA (RFC 9113, section 6.9.1), or trailers, behind which this is its course, and which its client
-- ended with them or before, or not yet
abbrev pub taken : ℕ → Outline → Bool → Kept → Kept
taken count outline ended kept = record kept {
  ended_by_client = ended || kept.ended_by_client;
  room = kept.room -ℤ pos count;
  outline = outline;
}
