-- Parts of the worked runs: frames, and a request with its block.
use Rattle.std.proofs.Common.{ℕ, true, false, List, [], ◌∷◌, Some, None, refl, inl, inr, arith}
use Rattle.std.specs.Prelude.{codes}
use Rattle.model.specs.Messages.{Field}
use Rattle.model.specs.Tables.{Table, static_table, first_table, added, field_of}
use Rattle.model.specs.Blocks.{Block}
use Rattle.model.specs.Frames.{Frame}
use Rattle.model.specs.Tapes.{Note, Noted}
use Rattle.model.specs.Decoding.{Partial}
use Rattle.theory_header_tables.specs.State.{Verdict}

-- a frame by its parts
abbrev pub frame : ℕ → ℕ → ℕ → List ℕ → Frame
frame kind flags id payload = record { kind = kind; flags = flags; id = id; payload = payload }

-- a frame with its note
abbrev pub noted : Frame → Note → Noted
noted f note = record { frame = f; note = note }

-- nothing is wrong with a frame, and it has no settings and completes no block
abbrev pub fine : Verdict
fine = record { is_error = false; is_taken = false; block = None }

-- it completes this one
abbrev pub completes : Partial → Verdict
completes block = record { is_error = false; is_taken = false; block = Some block }

-- it has settings that are taken
abbrev pub settled : Verdict
settled = record { is_error = false; is_taken = true; block = None }

-- the fields of the request
abbrev pub request : List Field
request = field_of (codes ":method") (codes "GET") ∷ field_of (codes ":scheme") (codes "http") ∷ field_of (codes ":path") (codes "/") ∷ field_of (codes ":authority") (codes "a") ∷ []

-- the table that it leaves
abbrev pub decoded : Table
decoded = added (field_of (codes ":authority") (codes "a")) first_table

-- its block, in which the authority is inserted
pub request_read : Block first_table (130 ∷ 134 ∷ 132 ∷ 65 ∷ 1 ∷ 97 ∷ []) request decoded
unfolding static_table
request_read = record {
  maxima = [];
  is_block = record {
    front = [];
    rest = 130 ∷ 134 ∷ 132 ∷ 65 ∷ 1 ∷ 97 ∷ [];
    between = first_table;
    is = refl;
    are_maxima = (refl, refl);
    are_fields = (
      130 ∷ [],
      134 ∷ 132 ∷ 65 ∷ 1 ∷ 97 ∷ [],
      first_table,
      refl,
      inl (record { index = 2; marked = record { int = inl (record { first = 130; is = refl; low_bits = refl; not_ones = omega arith }); marked = refl }; found = refl; same = refl }),
      (
        134 ∷ [],
        132 ∷ 65 ∷ 1 ∷ 97 ∷ [],
        first_table,
        refl,
        inl (record { index = 6; marked = record { int = inl (record { first = 134; is = refl; low_bits = refl; not_ones = omega arith }); marked = refl }; found = refl; same = refl }),
        (
          132 ∷ [],
          65 ∷ 1 ∷ 97 ∷ [],
          first_table,
          refl,
          inl (record { index = 4; marked = record { int = inl (record { first = 132; is = refl; low_bits = refl; not_ones = omega arith }); marked = refl }; found = refl; same = refl }),
          (
            65 ∷ 1 ∷ 97 ∷ [],
            [],
            decoded,
            refl,
            inr (inl (record {
              literal = record {
                index = 1;
                index_octets = 65 ∷ [];
                name_octets = [];
                value_octets = 1 ∷ 97 ∷ [];
                is = refl;
                marked = record { int = inl (record { first = 65; is = refl; low_bits = refl; not_ones = omega arith }); marked = refl };
                name = inr (record { is_empty = refl; entry = field_of (codes ":authority") []; found = refl; same = refl });
                string = inl (record { header = 1 ∷ []; is = refl; number = record { int = inl (record { first = 1; is = refl; low_bits = refl; not_ones = omega arith }); marked = refl } });
              };
              inserted = refl;
            })),
            (refl, refl),
          ),
        ),
      ),
    );
  };
}
