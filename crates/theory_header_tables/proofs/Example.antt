-- A run by the rule: a request whose block comes in two frames; a limit that falls to 0 and rises to 4,096; a block with both
-- maxima in two frames, which inserts a field; and a block that has it by its index.
use Rattle.std.proofs.Common.{◌≡◌, ℕ, zero, suc, ◌<◌, ◌==◌, Bool, true, false, List, [], ◌∷◌, ◌++◌, length, Option, Some, None, refl, ap, subst, sym, inl, inr, arith, get_or}
use Rattle.std.specs.Prelude.{codes}
use Rattle.model.specs.Messages.{Field}
use Rattle.model.specs.Tables.{Table, static_table, keep, look_up, first_table, added, resized, field_of}
use Rattle.model.specs.Blocks.{AreMaxima}
use Rattle.model.specs.Frames.{headers_kind, continuation_kind, settings_kind, setting, settings_frame, settings_ack}
use Rattle.model.specs.Maxima.{Maxima}
use Rattle.model.specs.Setup.Policy.{Indexing}
use Rattle.model.specs.Tapes.Note.{NoBlock, Fields}
use Rattle.header_blocks.specs.Encoding.{Encoding, StandsFor}
use Rattle.header_blocks.specs.Chosen.{GoesAsIndex, GoesIn}
use Rattle.header_blocks.specs.Encodes.{IsWrittenBy}
use Rattle.header_blocks.proofs.Announced.{some_due}
use Rattle.header_blocks.proofs.RawStrings.{one_octet, one_octet_chosen}
use Rattle.theory_header_tables.specs.Spelling.{block_of}
use Rattle.theory_header_tables.specs.State.{Move, encoding_after, state_of, tape_of}
use Rattle.theory_header_tables.specs.State.Move.{Takes, Sends}
use Rattle.theory_header_tables.specs.Rule.{AllCame}
use Rattle.theory_header_tables.specs.Kept.{AllJudged, KeepTables}
use Rattle.theory_header_tables.proofs.Searching.{absent, absent_below}
use Rattle.theory_header_tables.proofs.Requests.{frame, noted, fine, completes, settled, request, decoded, request_read}
use Rattle.theory_header_tables.proofs.Tables.{run_holds, tables_kept}

-- ---- the entries

-- the fields of the two responses
abbrev ok : Field
ok = field_of (codes ":status") (codes "200")

-- the one that is inserted
abbrev more : Field
more = field_of (codes "x") (codes "y")

-- the tables that they leave: behind the maxima, and behind the field
abbrev emptied : Table
emptied = resized 4096 (resized 0 first_table)

-- with that field
abbrev encoded : Table
encoded = added more emptied

-- the moves, the newest first
abbrev pub run : List Move
run =
    Sends (noted (frame headers_kind 4 1 (136 ∷ 190 ∷ [])) (Fields (ok ∷ more ∷ []))) None encoded
    ∷ Sends (noted (frame continuation_kind 4 1 (136 ∷ 64 ∷ 1 ∷ 120 ∷ 1 ∷ 121 ∷ [])) (Fields (ok ∷ more ∷ []))) (Some (block_of 1 false (32 ∷ 63 ∷ 225 ∷ 31 ∷ []))) encoded
    ∷ Sends (noted (frame headers_kind 0 1 (32 ∷ 63 ∷ 225 ∷ 31 ∷ [])) NoBlock) None first_table
    ∷ Sends (noted settings_ack NoBlock) None first_table
    ∷ Takes (noted (frame settings_kind 0 0 (setting 1 0 ++ setting 1 4096)) NoBlock) settled decoded
    ∷ Takes (noted (frame continuation_kind 4 1 (132 ∷ 65 ∷ 1 ∷ 97 ∷ [])) (Fields request)) (completes (block_of 1 true (130 ∷ 134 ∷ 132 ∷ 65 ∷ 1 ∷ 97 ∷ []))) decoded
    ∷ Takes (noted (frame headers_kind 1 1 (130 ∷ 134 ∷ [])) NoBlock) fine first_table
    ∷ Sends (noted settings_ack NoBlock) None first_table
    ∷ Takes (noted (frame settings_kind 0 0 []) NoBlock) settled first_table
    ∷ Sends (noted (settings_frame 0) NoBlock) None first_table
    ∷ []

-- the verdicts are right
pub run_judged : AllJudged run
run_judged = (
    ((((((((((tt, refl), record { error = refl; taken = refl; block = refl }), refl), record { error = refl; taken = refl; block = refl }), record { error = refl; taken = refl; block = refl }), record { error = refl; taken = refl; block = refl }), refl), refl), refl), refl)
    )

-- ---- the responses

-- what the encoder keeps before the first, and before the second
abbrev pub fell_and_rose : Encoding
fell_and_rose = record { table = first_table; limits = Some (record { least = 0; last = 4096 }); indexing = true; refused = false }

-- the same behind the first block
abbrev settled_again : Encoding
settled_again = encoding_after (Some (record { id = 1; ends = false; fragments = [] })) encoded fell_and_rose

-- the name is one octet
abbrev is_short : List ℕ → Bool
is_short name = length name == 1

-- the value begins with a 2
abbrev begins_with_two : Field → Bool
begins_with_two field = get_or field.value 0 0 == 50

-- the status goes as its index, by any such table
status_indexed : (table : Table) → look_up table 8 ≡ Some ok → GoesAsIndex true table (136 ∷ []) ok table
unfolding static_table
status_indexed table found = record {
  indexed = record { index = 8; marked = record { int = inl (record { first = 136; is = refl; low_bits = refl; not_ones = omega arith }); marked = refl }; found = found; same = refl };
  least = record { here = found; least = lower };
}
  where
    lower : (index : ℕ) → index < 8 → look_up table index ≡ Some ok → ⊥
    lower zero lt is = let clash : ◌≡◌ {A = Option Field} None (Some ok) = is in cc
    lower (suc place) lt is = absent_below begins_with_two ok refl 7 (static_table ++ table.fields) refl place (omega (arith, lt)) is

-- the other is inserted
more_inserted : GoesIn true emptied (64 ∷ 1 ∷ 120 ∷ 1 ∷ 121 ∷ []) more encoded
unfolding static_table keep
more_inserted = record {
  absent = nowhere;
  inserted = record {
    literal = record {
      index = 0;
      index_octets = 64 ∷ [];
      name_octets = 1 ∷ 120 ∷ [];
      value_octets = 1 ∷ 121 ∷ [];
      is = refl;
      marked = record { int = inl (record { first = 64; is = refl; low_bits = refl; not_ones = omega arith }); marked = refl };
      name = inl (record { is_zero = refl; string = inl (one_octet 120) });
      string = inl (one_octet 121);
    };
    inserted = refl;
  };
  name = inr (unnamed, refl);
  is_indexing = refl;
  fits = omega arith;
  strings = record { name = λ is_zero. one_octet_chosen 120; value = one_octet_chosen 121 };
}
  where
    nowhere : (index : ℕ) → look_up emptied index ≡ Some more → ⊥
    nowhere zero is = let clash : ◌≡◌ {A = Option Field} None (Some more) = is in cc
    nowhere (suc place) is = absent (λ (e : Field). is_short e.name) more refl (static_table ++ emptied.fields) refl place is

    unnamed : (index : ℕ) (entry : Field) → look_up emptied index ≡ Some entry → entry.name ≡ more.name → ⊥
    unnamed zero entry is same = let clash : ◌≡◌ {A = Option Field} None (Some entry) = is in cc
    unnamed (suc place) entry is same = absent (λ (e : Field). is_short e.name) entry (ap is_short same) (static_table ++ emptied.fields) refl place is

-- and then goes as its index
more_indexed : GoesAsIndex true encoded (190 ∷ []) more encoded
unfolding static_table keep
more_indexed = record {
  indexed = record { index = 62; marked = record { int = inl (record { first = 190; is = refl; low_bits = refl; not_ones = omega arith }); marked = refl }; found = refl; same = refl };
  least = record { here = refl; least = lower };
}
  where
    lower : (index : ℕ) → index < 62 → look_up encoded index ≡ Some more → ⊥
    lower zero lt is = let clash : ◌≡◌ {A = Option Field} None (Some more) = is in cc
    lower (suc place) lt is = absent_below (λ (e : Field). is_short e.name) more refl 61 (static_table ++ encoded.fields) refl place (omega (arith, lt)) is

-- the two maxima
maxima_spelled : AreMaxima first_table (32 ∷ 63 ∷ 225 ∷ 31 ∷ []) (0 ∷ 4096 ∷ []) emptied
maxima_spelled = (
  32 ∷ [],
  63 ∷ 225 ∷ 31 ∷ [],
  refl,
  record { marked = record { int = inl (record { first = 32; is = refl; low_bits = refl; not_ones = omega arith }); marked = refl }; in_range = omega arith },
  (63 ∷ 225 ∷ 31 ∷ [], [], refl, record { marked = record { int = inr (record { first = 63; groups = 225 ∷ 31 ∷ []; is = refl; ones = refl; are_groups = (omega arith, omega arith); few = omega arith; sum = refl; in_range = omega arith }); marked = refl }; in_range = omega arith }, (refl, refl)),
)

pub first_due : (limits : List ℕ) → StandsFor limits fell_and_rose.limits → Maxima 4096 limits (0 ∷ 4096 ∷ [])
first_due limits stands =
    (some_due 4096 (record { least = 0; last = 4096 }) (record { least = Some 0; last = Some 4096; reached = 4096 }) (record { least = omega arith; last = omega arith }) refl refl refl).maxima limits stands

first_encoded : IsWrittenBy fell_and_rose (ok ∷ more ∷ []) settled_again.table (32 ∷ 63 ∷ 225 ∷ 31 ∷ 136 ∷ 64 ∷ 1 ∷ 120 ∷ 1 ∷ 121 ∷ [])
unfolding static_table
first_encoded = record {
  maxima = 0 ∷ 4096 ∷ [];
  is_block = record {
    front = 32 ∷ 63 ∷ 225 ∷ 31 ∷ [];
    rest = 136 ∷ 64 ∷ 1 ∷ 120 ∷ 1 ∷ 121 ∷ [];
    between = emptied;
    is = refl;
    are_maxima = maxima_spelled;
    are_fields = (136 ∷ [], 64 ∷ 1 ∷ 120 ∷ 1 ∷ 121 ∷ [], emptied, refl, inl (status_indexed emptied refl).indexed, (64 ∷ 1 ∷ 120 ∷ 1 ∷ 121 ∷ [], [], encoded, refl, inr (inl more_inserted.inserted), (refl, refl)));
  };
  due = first_due;
  chosen = (136 ∷ [], 64 ∷ 1 ∷ 120 ∷ 1 ∷ 121 ∷ [], emptied, refl, inl (status_indexed emptied refl), (64 ∷ 1 ∷ 120 ∷ 1 ∷ 121 ∷ [], [], encoded, refl, inr (inl more_inserted), (refl, refl)));
}

second_encoded : IsWrittenBy settled_again (ok ∷ more ∷ []) settled_again.table (136 ∷ 190 ∷ [])
unfolding static_table
second_encoded = record {
  maxima = [];
  is_block = record {
    front = [];
    rest = 136 ∷ 190 ∷ [];
    between = encoded;
    is = refl;
    are_maxima = (refl, refl);
    are_fields = (136 ∷ [], 190 ∷ [], encoded, refl, inl (status_indexed encoded refl).indexed, (190 ∷ [], [], encoded, refl, inl more_indexed.indexed, (refl, refl)));
  };
  due = λ limits none. subst (λ l. Maxima 4096 l []) (sym none) refl;
  chosen = (136 ∷ [], 190 ∷ [], encoded, refl, inl (status_indexed encoded refl), (190 ∷ [], [], encoded, refl, inl more_indexed, (refl, refl)));
}

-- ---- each move might come

run_came : AllCame Indexing run
run_came = (
  (
    (
      (
        (
          (
            (
              (
                (
                  (
                    tt,
                    record { together = refl; is_given = refl },
                  ),
                  record { all_read = refl; is_taken = record { is_noted = refl } },
                ),
                record { together = refl; is_given = refl },
              ),
              record { all_read = refl; is_taken = record { is_noted = refl } },
            ),
            record { all_read = refl; is_taken = record { is_noted = request_read } },
          ),
          record { all_read = refl; is_taken = record { is_noted = refl } },
        ),
        record { together = refl; is_given = refl },
      ),
      record { together = refl; is_given = refl },
    ),
    record { together = refl; is_given = record { fields = ok ∷ more ∷ []; is_noted = refl; encodes = first_encoded } },
  ),
  record { together = refl; is_given = record { fields = ok ∷ more ∷ []; is_noted = refl; encodes = second_encoded } },
)

-- The tables are in step behind them.
pub run_keeps : KeepTables Indexing (tape_of run) (state_of Indexing run)
run_keeps = tables_kept Indexing (tape_of run) (state_of Indexing run) (run_holds Indexing run run_judged run_came)
