-- Worked examples of frames, each by computation.
use Rattle.std.proofs.Common.{arith, ◌++◌, ◌≡◌, [], ◌∷◌, refl}
use Rattle.model.specs.Frames.{spell, settings_frame, settings_ack, goaway, content, preface, enhance_your_calm, Spells, IsTooLong, IsConnection}
use Rattle.model.proofs.FramesFronts.{no_header}

-- 00000c 04 00 00000000 0003 00000064 0006 00004000
pub settings_spelling : spell (settings_frame 0) ≡ 0 ∷ 0 ∷ 12 ∷ 4 ∷ 0 ∷ 0 ∷ 0 ∷ 0 ∷ 0 ∷ 0 ∷ 3 ∷ 0 ∷ 0 ∷ 0 ∷ 100 ∷ 0 ∷ 6 ∷ 0 ∷ 0 ∷ 64 ∷ 0 ∷ []
settings_spelling = refl

-- 000000 04 01 00000000
pub ack_spelling : spell settings_ack ≡ 0 ∷ 0 ∷ 0 ∷ 4 ∷ 1 ∷ 0 ∷ 0 ∷ 0 ∷ 0 ∷ []
ack_spelling = refl

-- 000008 07 00 00000000 00000102 0000000b
pub goaway_spelling : spell (goaway 258 enhance_your_calm) ≡ 0 ∷ 0 ∷ 8 ∷ 7 ∷ 0 ∷ 0 ∷ 0 ∷ 0 ∷ 0 ∷ 0 ∷ 0 ∷ 1 ∷ 2 ∷ 0 ∷ 0 ∷ 0 ∷ 11 ∷ []
goaway_spelling = refl

-- 505249202a20485454502f322e300d0a0d0a534d0d0a0d0a
pub preface_octets : preface ≡ 80 ∷ 82 ∷ 73 ∷ 32 ∷ 42 ∷ 32 ∷ 72 ∷ 84 ∷ 84 ∷ 80 ∷ 47 ∷ 50 ∷ 46 ∷ 48 ∷ 13 ∷ 10 ∷ 13 ∷ 10 ∷ 83 ∷ 77 ∷ 13 ∷ 10 ∷ 13 ∷ 10 ∷ []
preface_octets = refl

-- DATA with two octets of padding: 02 6869 0000 is `hi`
pub padded_data : content (record { kind = 0; flags = 9; id = 1; payload = 2 ∷ 104 ∷ 105 ∷ 0 ∷ 0 ∷ [] }) ≡ 104 ∷ 105 ∷ []
padded_data = refl

-- HEADERS with padding and a priority: 01 80000003 10 8286 00 is 8286
pub padded_headers : content (record { kind = 1; flags = 45; id = 5; payload = 1 ∷ 128 ∷ 0 ∷ 0 ∷ 3 ∷ 16 ∷ 130 ∷ 134 ∷ 0 ∷ [] }) ≡ 130 ∷ 134 ∷ []
padded_headers = refl

-- CONTINUATION has no padding: its bit 08 is ignored
pub whole_continuation : content (record { kind = 9; flags = 12; id = 5; payload = 1 ∷ 130 ∷ 134 ∷ [] }) ≡ 1 ∷ 130 ∷ 134 ∷ []
whole_continuation = refl

-- the reserved bit is ignored: 000000 04 01 80000000 is read as the same frame
pub reserved_bit : Spells (0 ∷ 0 ∷ 0 ∷ 4 ∷ 1 ∷ 128 ∷ 0 ∷ 0 ∷ 0 ∷ []) settings_ack
reserved_bit = record { fits = record { kind = omega arith; flags = omega arith; id = omega arith; payload = omega arith }; bit = 1; is_bit = omega arith; is = refl }

-- a header with a length of 16,385 is too long: 004001 00 00 00000001
pub too_long_header : IsTooLong (0 ∷ 64 ∷ 1 ∷ 0 ∷ 0 ∷ 0 ∷ 0 ∷ 0 ∷ 1 ∷ [])
too_long_header = record { header = omega arith; length_over = omega arith }

-- the preface, a frame and three octets more are read as that frame and a rest of three octets
pub short_connection : IsConnection (preface ++ spell settings_ack ++ 0 ∷ 0 ∷ 0 ∷ []) (settings_ack ∷ []) (0 ∷ 0 ∷ 0 ∷ [])
short_connection = record {
  after_preface = spell settings_ack ++ 0 ∷ 0 ∷ 0 ∷ [];
  begins = refl;
  reading = (spell settings_ack, 0 ∷ 0 ∷ 0 ∷ [], record { fits = reserved_bit.fits; bit = 0; is_bit = omega arith; is = refl }, refl, refl);
  ends = no_header (0 ∷ 0 ∷ 0 ∷ []) (omega arith);
}
