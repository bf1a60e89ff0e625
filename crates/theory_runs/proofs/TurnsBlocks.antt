-- Two responses take turns: what each of the gateway's three blocks means, and the table that it leaves.
use Rattle.std.proofs.Common.{◌≡◌, ℕ, zero, suc, ◌<◌, ◌==◌, ◌&&◌, Bool, true, false, [], ◌∷◌, ◌++◌, length, Option, Some, None, refl, sym, ap, subst, inl, inr, arith, get_or}
use Rattle.std.specs.Prelude.{codes}
use Rattle.model.specs.Messages.{Field}
use Rattle.model.specs.Maxima.{Maxima}
use Rattle.model.specs.Tables.{Table, total_size, static_table, keep, look_up, first_table, field_of}
use Rattle.model.specs.Huffman.{Huff, huffman_code, bits, rows, row_codes, codes_from}
use Rattle.model.specs.Tapes.Note.{Fields}
use Rattle.header_blocks.specs.Chosen.{GoesIn}
use Rattle.header_blocks.proofs.RawStrings.{one_octet, one_octet_chosen}
use Rattle.header_blocks.proofs.ShortStrings.{huffman_text, few_octets, few_octets_chosen}
use Rattle.theory_header_tables.specs.Rule.{IsEncoded}
use Rattle.theory_header_tables.proofs.Searching.{absent, absent_below}
use Rattle.theory_runs.proofs.Answer.{ok, sized, is_length_name, begins_with_two}
use Rattle.theory_runs.proofs.Failure.{status_named_above}
use Rattle.theory_runs.proofs.Turns.{early, with_early, with_both, at_told, at_first_closed, at_second_closed}

-- ---- the blocks

-- the value begins with a 1 and ends with a 3
abbrev pub is_early : Field → Bool
is_early field = get_or field.value 0 0 == 49 && get_or field.value 2 0 == 51

-- the name is that of a length, and the value has one octet
abbrev pub is_sized : Field → Bool
is_sized field = is_length_name field.name && length field.value == 1

pub early_nowhere : (index : ℕ) → look_up first_table index ≡ Some early → ⊥
unfolding static_table
early_nowhere zero is = let clash : ◌≡◌ {A = Option Field} None (Some early) = is in cc
early_nowhere (suc place) is = absent is_early early refl (static_table ++ []) refl place is

-- below its place no entry of any table is the status
pub ok_above : (table : Table) (index : ℕ) → index < 8 → look_up table index ≡ Some ok → ⊥
unfolding static_table
ok_above table zero lt is = let clash : ◌≡◌ {A = Option Field} None (Some ok) = is in cc
ok_above table (suc place) lt is = absent_below begins_with_two ok refl 7 (static_table ++ table.fields) refl place (omega (arith, lt)) is

-- the length stands nowhere at first, and then nowhere below its place; below that of its name no entry has the name
pub sized_nowhere : (index : ℕ) → look_up with_early index ≡ Some sized → ⊥
unfolding static_table keep
sized_nowhere zero is = let clash : ◌≡◌ {A = Option Field} None (Some sized) = is in cc
sized_nowhere (suc place) is = absent is_sized sized refl (static_table ++ with_early.fields) refl place is

pub sized_above : (index : ℕ) → index < 62 → look_up with_both index ≡ Some sized → ⊥
unfolding static_table keep
sized_above zero lt is = let clash : ◌≡◌ {A = Option Field} None (Some sized) = is in cc
sized_above (suc place) lt is = absent_below is_sized sized refl 61 (static_table ++ with_both.fields) refl place (omega (arith, lt)) is

pub length_named_above : (index : ℕ) (other : Field) → index < 28 → look_up with_early index ≡ Some other → other.name ≡ sized.name → ⊥
unfolding static_table keep
length_named_above zero other lt is same = let clash : ◌≡◌ {A = Option Field} None (Some other) = is in cc
length_named_above (suc place) other lt is same = absent_below (λ (e : Field). is_length_name e.name) other (ap is_length_name same) 27 (static_table ++ with_early.fields) refl place (omega (arith, lt)) is

-- the early status in the Huffman code, which is shorter than it
early_text : Huff (8 ∷ 25 ∷ []) (codes "103")
unfolding huffman_code codes_from row_codes rows bits
early_text = huffman_text (8 ∷ 25 ∷ []) (codes "103") 0 refl (omega arith) refl

-- it goes into the table, and then the length does, each with the name of an entry
early_inserted : GoesIn true first_table (72 ∷ 130 ∷ 8 ∷ 25 ∷ []) early with_early
unfolding static_table
early_inserted = record {
  absent = early_nowhere;
  inserted = record {
    literal = record {
      index = 8;
      index_octets = 72 ∷ [];
      name_octets = [];
      value_octets = 130 ∷ 8 ∷ 25 ∷ [];
      is = refl;
      marked = record { int = inl (record { first = 72; is = refl; low_bits = refl; not_ones = omega arith }); marked = refl };
      name = inr (record { is_empty = refl; entry = field_of (codes ":status") (codes "200"); found = refl; same = refl });
      string = inr (few_octets (8 ∷ 25 ∷ []) (codes "103") (omega arith) early_text);
    };
    inserted = refl;
  };
  name = inl (record { entry = field_of (codes ":status") (codes "200"); here = refl; named = refl; least = status_named_above });
  is_indexing = refl;
  fits = omega arith;
  strings = record {
    name = λ is_zero. absurd (let clash : 8 ≡ 0 = is_zero in omega (arith, clash));
    value = few_octets_chosen (8 ∷ 25 ∷ []) (codes "103") (omega arith) (omega arith) early_text;
  };
}

sized_inserted : GoesIn true with_early (92 ∷ 1 ∷ 50 ∷ []) sized with_both
unfolding static_table keep
sized_inserted = record {
  absent = sized_nowhere;
  inserted = record {
    literal = record {
      index = 28;
      index_octets = 92 ∷ [];
      name_octets = [];
      value_octets = 1 ∷ 50 ∷ [];
      is = refl;
      marked = record { int = inl (record { first = 92; is = refl; low_bits = refl; not_ones = omega arith }); marked = refl };
      name = inr (record { is_empty = refl; entry = field_of (codes "content-length") []; found = refl; same = refl });
      string = inl (one_octet 50);
    };
    inserted = refl;
  };
  name = inl (record { entry = field_of (codes "content-length") []; here = refl; named = refl; least = length_named_above });
  is_indexing = refl;
  fits = omega arith;
  strings = record { name = λ is_zero. absurd (let clash : 28 ≡ 0 = is_zero in omega (arith, clash)); value = one_octet_chosen 50 };
}

pub early_encoded : IsEncoded at_told.tables.encoding (record { id = 1; ends = false; fragments = 72 ∷ 130 ∷ 8 ∷ 25 ∷ [] }) (Fields (early ∷ [])) with_early
early_encoded = record {
  fields = early ∷ [];
  is_noted = refl;
  encodes = record {
    maxima = [];
    is_block = record {
      front = [];
      rest = 72 ∷ 130 ∷ 8 ∷ 25 ∷ [];
      between = first_table;
      is = refl;
      are_maxima = (refl, refl);
      are_fields = (72 ∷ 130 ∷ 8 ∷ 25 ∷ [], [], with_early, refl, inr (inl early_inserted.inserted), (refl, refl));
    };
    due = λ limits none. subst (λ l. Maxima 4096 l []) (sym none) refl;
    chosen = (72 ∷ 130 ∷ 8 ∷ 25 ∷ [], [], with_early, refl, inr (inl early_inserted), (refl, refl));
  };
}

pub first_encoded : IsEncoded at_first_closed.tables.encoding (record { id = 1; ends = false; fragments = 136 ∷ 92 ∷ 1 ∷ 50 ∷ [] }) (Fields (ok ∷ sized ∷ [])) with_both
unfolding static_table
first_encoded = record {
  fields = ok ∷ sized ∷ [];
  is_noted = refl;
  encodes = record {
    maxima = [];
    is_block = record {
      front = [];
      rest = 136 ∷ 92 ∷ 1 ∷ 50 ∷ [];
      between = with_early;
      is = refl;
      are_maxima = (refl, refl);
      are_fields = (
        136 ∷ [],
        92 ∷ 1 ∷ 50 ∷ [],
        with_early,
        refl,
        inl (record { index = 8; marked = record { int = inl (record { first = 136; is = refl; low_bits = refl; not_ones = omega arith }); marked = refl }; found = refl; same = refl }),
        (92 ∷ 1 ∷ 50 ∷ [], [], with_both, refl, inr (inl sized_inserted.inserted), (refl, refl)),
      );
    };
    due = λ limits none. subst (λ l. Maxima 4096 l []) (sym none) refl;
    chosen = (
      136 ∷ [],
      92 ∷ 1 ∷ 50 ∷ [],
      with_early,
      refl,
      inl (record { indexed = record { index = 8; marked = record { int = inl (record { first = 136; is = refl; low_bits = refl; not_ones = omega arith }); marked = refl }; found = refl; same = refl }; least = record { here = refl; least = ok_above with_early } }),
      (92 ∷ 1 ∷ 50 ∷ [], [], with_both, refl, inr (inl sized_inserted), (refl, refl)),
    );
  };
}

pub second_encoded : IsEncoded at_second_closed.tables.encoding (record { id = 3; ends = false; fragments = 136 ∷ 190 ∷ [] }) (Fields (ok ∷ sized ∷ [])) with_both
unfolding static_table keep total_size
second_encoded = record {
  fields = ok ∷ sized ∷ [];
  is_noted = refl;
  encodes = record {
    maxima = [];
    is_block = record {
      front = [];
      rest = 136 ∷ 190 ∷ [];
      between = with_both;
      is = refl;
      are_maxima = (refl, refl);
      are_fields = (
        136 ∷ [],
        190 ∷ [],
        with_both,
        refl,
        inl (record { index = 8; marked = record { int = inl (record { first = 136; is = refl; low_bits = refl; not_ones = omega arith }); marked = refl }; found = refl; same = refl }),
        (190 ∷ [], [], with_both, refl, inl (record { index = 62; marked = record { int = inl (record { first = 190; is = refl; low_bits = refl; not_ones = omega arith }); marked = refl }; found = refl; same = refl }), (refl, refl)),
      );
    };
    due = λ limits none. subst (λ l. Maxima 4096 l []) (sym none) refl;
    chosen = (
      136 ∷ [],
      190 ∷ [],
      with_both,
      refl,
      inl (record { indexed = record { index = 8; marked = record { int = inl (record { first = 136; is = refl; low_bits = refl; not_ones = omega arith }); marked = refl }; found = refl; same = refl }; least = record { here = refl; least = ok_above with_both } }),
      (
        190 ∷ [],
        [],
        with_both,
        refl,
        inl (record { indexed = record { index = 62; marked = record { int = inl (record { first = 190; is = refl; low_bits = refl; not_ones = omega arith }); marked = refl }; found = refl; same = refl }; least = record { here = refl; least = sized_above } }),
        (refl, refl),
      ),
    );
  };
}
