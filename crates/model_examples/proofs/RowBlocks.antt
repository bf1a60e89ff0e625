-- Blocks of worked rows: they spell the fields that are noted with them.
use Rattle.std.proofs.Common.{◌≡◌, ℕ, [], ◌∷◌, List, ◌++◌, length, append-nil, refl, sym, inl, inr, arith}
use Rattle.std.specs.Prelude.{Some, codes}
use Rattle.model.specs.Messages.{Field}
use Rattle.model.specs.Tables.{Table, first_table, static_table, look_up, keep}
use Rattle.model.specs.Integers.{IsMarkedInt}
use Rattle.model.specs.Blocks as blocks
use Rattle.model.specs.Tapes.{sent, came}
use Rattle.model.specs.Decoding.{Decodes}
use Rattle.model.proofs.FirstLog.{short}
use Rattle.model.proofs.AnswerTexts as answer
use Rattle.model_examples.proofs.RowTapes.{field, begun, get, get_block, next_get_block, ok_two, ok_block, bad_gateway, bad_gateway_block, hints, hints_block}

-- ---- representations of a field

-- a number below the ones of its prefix, in one octet
by_index : (table : Table) (first index : ℕ) (entry : Field) → IsMarkedInt 7 1 (first ∷ []) index → look_up table index ≡ Some entry
    → blocks.Represents table (first ∷ []) entry table
by_index table first index entry marked found = inl (record { index = index; marked = marked; found = found; same = refl })

-- the name of an entry, and a value whose length stands in one octet
literal : (table : Table) (prefix mark index size : ℕ) (index_octets value : List ℕ) (entry : Field)
    → IsMarkedInt prefix mark index_octets index → look_up table index ≡ Some entry → IsMarkedInt 7 0 (size ∷ []) (length value)
    → blocks.IsLiteral prefix mark table (index_octets ++ [] ++ (size ∷ value)) (field entry.name value)
literal table prefix mark index size index_octets value entry marked found number = record {
  index = index;
  index_octets = index_octets;
  name_octets = [];
  value_octets = size ∷ value;
  is = refl;
  marked = marked;
  name = inr (record { is_empty = refl; entry = entry; found = found; same = refl });
  string = inl (record { header = size ∷ []; is = refl; number = number });
}

status_at : look_up first_table 8 ≡ Some (field (codes ":status") (codes "200"))
unfolding static_table
status_at = refl

length_at : look_up first_table 28 ≡ Some (field (codes "content-length") [])
unfolding static_table
length_at = refl

eight : IsMarkedInt 4 0 (8 ∷ []) 8
eight = short 4 0 8 8 (record { first = 8; is = refl; low_bits = refl; not_ones = omega arith }) refl

twenty_eight : IsMarkedInt 4 0 (15 ∷ 13 ∷ []) 28
twenty_eight = record {
  int = inr (record { first = 15; groups = 13 ∷ []; is = refl; ones = refl; are_groups = omega arith; few = omega arith; sum = refl; in_range = omega arith });
  marked = refl;
}

one : IsMarkedInt 7 0 (1 ∷ []) 1
one = short 7 0 1 1 (record { first = 1; is = refl; low_bits = refl; not_ones = omega arith }) refl

three : IsMarkedInt 7 0 (3 ∷ []) 3
three = short 7 0 3 3 (record { first = 3; is = refl; low_bits = refl; not_ones = omega arith }) refl

sixty_two : IsMarkedInt 7 1 (190 ∷ []) 62
sixty_two = short 7 1 190 62 (record { first = 190; is = refl; low_bits = refl; not_ones = omega arith }) refl

-- ---- what the gateway sends

pub ok_spelled : blocks.Block first_table ok_block ok_two first_table
ok_spelled = record { maxima = []; is_block = answer.is_block }

not_inserted : (size : ℕ) (value : List ℕ) → IsMarkedInt 7 0 (size ∷ []) (length value)
    → blocks.Represents first_table (8 ∷ size ∷ value) (field (codes ":status") value) first_table
not_inserted size value number = inr (inr (inl (record { literal = literal first_table 4 0 8 size (8 ∷ []) value _ eight status_at number; same = refl })))

pub hints_spelled : blocks.Block first_table hints_block hints first_table
hints_spelled = record {
  maxima = [];
  is_block = record {
    front = [];
    rest = hints_block;
    between = first_table;
    is = refl;
    are_maxima = (refl, refl);
    are_fields = (hints_block, [], first_table, refl, not_inserted 3 (codes "103") three, (refl, refl));
  };
}

pub bad_gateway_spelled : blocks.Block first_table bad_gateway_block bad_gateway first_table
bad_gateway_spelled = record {
  maxima = [];
  is_block = record {
    front = [];
    rest = bad_gateway_block;
    between = first_table;
    is = refl;
    are_maxima = (refl, refl);
    are_fields = (
      8 ∷ 3 ∷ codes "502",
      15 ∷ 13 ∷ 1 ∷ codes "0",
      first_table,
      refl,
      not_inserted 3 (codes "502") three,
      (
        15 ∷ 13 ∷ 1 ∷ codes "0",
        [],
        first_table,
        refl,
        inr (inr (inl (record { literal = literal first_table 4 0 28 1 (15 ∷ 13 ∷ []) (codes "0") _ twenty_eight length_at one; same = refl }))),
        (refl, refl),
      ),
    );
  };
}

-- a status that stands in no table, and that goes into it
abbrev pub found_table : Table
found_table = record { fields = field (codes ":status") (codes "302") ∷ []; maximum = 4096 }

pub found_inserted : blocks.Block first_table (72 ∷ 3 ∷ codes "302") (field (codes ":status") (codes "302") ∷ []) found_table
unfolding keep
found_inserted = record {
  maxima = [];
  is_block = record {
    front = [];
    rest = 72 ∷ 3 ∷ codes "302";
    between = first_table;
    is = refl;
    are_maxima = (refl, refl);
    are_fields = (72 ∷ 3 ∷ codes "302", [], found_table, refl, inr (inl (record { literal = goes_in; inserted = refl })), (refl, refl));
  };
}
  where
    number : IsMarkedInt 6 1 (72 ∷ []) 8
    number = short 6 1 72 8 (record { first = 72; is = refl; low_bits = refl; not_ones = omega arith }) refl

    goes_in : blocks.IsLiteral 6 1 first_table (72 ∷ 3 ∷ codes "302") (field (codes ":status") (codes "302"))
    goes_in = literal first_table 6 1 8 3 (72 ∷ []) (codes "302") _ number status_at three

-- where it is the newest of the table, at index 62
found_at : look_up found_table 62 ≡ Some (field (codes ":status") (codes "302"))
unfolding static_table
found_at = refl

pub found_indexed : blocks.Block found_table (190 ∷ []) (field (codes ":status") (codes "302") ∷ []) found_table
found_indexed = record {
  maxima = [];
  is_block = record {
    front = [];
    rest = 190 ∷ [];
    between = found_table;
    is = refl;
    are_maxima = (refl, refl);
    are_fields = (190 ∷ [], [], found_table, refl, by_index found_table 190 62 _ sixty_two found_at, (refl, refl));
  };
}

-- ---- what the client sends

abbrev authority : Field
authority = field (codes ":authority") (codes "www.example.com")

-- the authority of a GET goes into the table
abbrev pub get_table : Table
get_table = record { fields = authority ∷ []; maximum = 4096 }

method_at : (fields : List Field) → look_up (record { fields = fields; maximum = 4096 }) 2 ≡ Some (field (codes ":method") (codes "GET"))
unfolding static_table
method_at fields = refl

scheme_at : (fields : List Field) → look_up (record { fields = fields; maximum = 4096 }) 6 ≡ Some (field (codes ":scheme") (codes "http"))
unfolding static_table
scheme_at fields = refl

path_at : (fields : List Field) → look_up (record { fields = fields; maximum = 4096 }) 4 ≡ Some (field (codes ":path") (codes "/"))
unfolding static_table
path_at fields = refl

no_authority_at : look_up first_table 1 ≡ Some (field (codes ":authority") [])
unfolding static_table
no_authority_at = refl

authority_at : look_up get_table 62 ≡ Some authority
unfolding static_table
authority_at = refl

authority_goes_in : blocks.Represents first_table (65 ∷ 15 ∷ codes "www.example.com") authority get_table
unfolding keep
authority_goes_in = inr (inl (record {
  literal = literal first_table 6 1 1 15 (65 ∷ []) (codes "www.example.com") _
      (short 6 1 65 1 (record { first = 65; is = refl; low_bits = refl; not_ones = omega arith }) refl) no_authority_at
      (short 7 0 15 15 (record { first = 15; is = refl; low_bits = refl; not_ones = omega arith }) refl);
  inserted = refl;
}))

authority_indexed : blocks.Represents get_table (190 ∷ []) authority get_table
authority_indexed = by_index get_table 190 62 authority sixty_two authority_at

-- the other fields of a GET stand in front
get_with : (fields : List Field) (rest : List ℕ) (next : Table) → blocks.Represents (record { fields = fields; maximum = 4096 }) rest authority next
    → blocks.Block (record { fields = fields; maximum = 4096 }) (130 ∷ 134 ∷ 132 ∷ rest) get next
get_with fields rest next last = record {
  maxima = [];
  is_block = record {
    front = [];
    rest = 130 ∷ 134 ∷ 132 ∷ rest;
    between = table;
    is = refl;
    are_maxima = (refl, refl);
    are_fields = (
      130 ∷ [],
      134 ∷ 132 ∷ rest,
      table,
      refl,
      by_index table 130 2 _ (short 7 1 130 2 (record { first = 130; is = refl; low_bits = refl; not_ones = omega arith }) refl) (method_at fields),
      (
        134 ∷ [],
        132 ∷ rest,
        table,
        refl,
        by_index table 134 6 _ (short 7 1 134 6 (record { first = 134; is = refl; low_bits = refl; not_ones = omega arith }) refl) (scheme_at fields),
        (
          132 ∷ [],
          rest,
          table,
          refl,
          by_index table 132 4 _ (short 7 1 132 4 (record { first = 132; is = refl; low_bits = refl; not_ones = omega arith }) refl) (path_at fields),
          (rest, [], next, sym (append-nil rest), last, (refl, refl)),
        ),
      ),
    );
  };
}
  where
    table : Table
    table = record { fields = fields; maximum = 4096 }

pub get_spelled : blocks.Block first_table get_block get get_table
get_spelled = get_with [] (65 ∷ 15 ∷ codes "www.example.com") get_table authority_goes_in

-- and behind the first GET its index stands for it
pub next_get_spelled : blocks.Block get_table next_get_block get get_table
next_get_spelled = get_with (authority ∷ []) (190 ∷ []) get_table authority_indexed

-- ---- whole directions

-- No block comes at the beginning of a connection,
pub settings_decode : Decodes (came begun) first_table
settings_decode = (first_table, refl, (refl, refl), refl)

-- and none is sent.
pub begun_decodes : Decodes (sent begun) first_table
begun_decodes = (first_table, (first_table, refl, (refl, refl), refl), (refl, refl), refl)
