-- What is taken from the front of octets.
use Rattle.std.proofs.Common.{◌≡◌, ℕ, ◌+◌, ◌-◌, ◌/◌, ◌^◌, ◌<◌, ◌≤◌, ◌⊎◌, List, ◌++◌, length, Some, take, drop, get_or, refl, ap, sym, ◌∙◌, subst, inl, inr, arith, length-drop}
use Rattle.std.proofs.lemmas.List.{take_rest, length-take-le}
use Rattle.std.proofs.lemmas.Bool.{cases_lt}
use Rattle.std.proofs.Math.Seq.{take-add}
use Rattle.model.specs.Messages.{Field}
use Rattle.model.specs.Integers.{IsMarkedInt}
use Rattle.model.specs.Huffman.{Huff}
use Rattle.model.specs.Tables.{Table, added, look_up}
use Rattle.model.specs.Blocks.{IsString, IsNewName, IsNameOfEntry, IsLiteral, Represents}
use Rattle.hpack_int.specs.Reading.{ReadsValue}
use Rattle.header_blocks.specs.Represented.{TakesString, TakesName, TakesLiteral, SkipsField}
use Rattle.header_blocks.proofs.Spelled.{raw_string, marked, some}

pub taken_raw : (octets : List ℕ) (number start : ℕ) (string : List ℕ) → ReadsValue 7 octets number start → get_or octets 0 0 < 128 → number ≤ length octets - start
    → string ≡ take number (take (length octets - start) (drop start octets)) → TakesString octets string (start + number)
taken_raw octets number start string p low fits is = let r = raw_string octets number start string p low fits is in record { within = r.within; is_string = inl r.is_string }

pub taken_huffman : (octets : List ℕ) (number start : ℕ) (string : List ℕ) → ReadsValue 7 octets number start → get_or octets 0 0 < 256 → 128 ≤ get_or octets 0 0 → number ≤ length octets - start
    → Huff (take number (take (length octets - start) (drop start octets))) string → TakesString octets string (start + number)
taken_huffman octets number start string p small high fits h =
    let within = p.within in
    let tail : take number (take (length octets - start) (drop start octets)) ≡ take number (drop start octets) = ap (take number) (take_rest octets start) in
    let room : number ≤ length (drop start octets) = simp length-drop (omega arith) in
    let long : length (take number (drop start octets)) ≡ number = length-take-le number (drop start octets) room in
    let mark : get_or octets 0 0 / 2 ^ 7 ≡ 1 = omega arith in
    record {
      within = omega (arith, within);
      is_string = inr (record {
        header = take start octets;
        text = take number (drop start octets);
        is = take-add start number octets;
        number = subst (λ n. IsMarkedInt 7 1 (take start octets) n) (sym long) (subst (λ m. IsMarkedInt 7 m (take start octets) number) mark (marked 7 octets number start p));
        huffman = subst (λ t. Huff t string) tail h;
      });
    }

pub taken_literal : (table : Table) (prefix : ℕ) (octets : List ℕ) (index start : ℕ) (name : List ℕ) (name_length : ℕ) (value : List ℕ) (value_length : ℕ) (field : Field)
    → ReadsValue prefix octets index start → TakesName table index (take (length octets - start) (drop start octets)) name name_length
    → TakesString (take (length octets - (start + name_length)) (drop (start + name_length) octets)) value value_length
    → field.name ≡ name → field.value ≡ value → TakesLiteral table prefix octets field (start + name_length + value_length)
taken_literal table prefix octets index start name name_length value value_length field p n v is_name is_value =
    let some_octets = some prefix octets index start p in
    let within = p.within in
    let n2 : TakesName table index (drop start octets) name name_length = subst (λ t. TakesName table index t name name_length) (take_rest octets start) n in
    let v2 : TakesString (drop (start + name_length) octets) value value_length = subst (λ t. TakesString t value value_length) (take_rest octets (start + name_length)) v in
    record {
      some = omega (arith, some_octets);
      within =
          let a : name_length ≤ length octets - start = simp length-drop at n2.within in
          let b : value_length ≤ length octets - (start + name_length) = simp length-drop at v2.within in
          omega (arith, within);
      is_literal = record {
        index = index;
        index_octets = take start octets;
        name_octets = take name_length (drop start octets);
        value_octets = take value_length (drop (start + name_length) octets);
        is = take-add (start + name_length) value_length octets ∙ ap (λ t. t ++ take value_length (drop (start + name_length) octets)) (take-add start name_length octets);
        marked = marked prefix octets index start p;
        name = subst (λ t. IsNewName index (take name_length (drop start octets)) t ⊎ IsNameOfEntry table index (take name_length (drop start octets)) t) (sym is_name) n2.is_name;
        string = subst (λ t. IsString (take value_length (drop (start + name_length) octets)) t) (sym is_value) v2.is_string;
      };
    }

pub skipped : (table : Table) (octets : List ℕ) (index used : ℕ) (entry : Field) → ReadsValue 7 octets index used → 128 ≤ get_or octets 0 0 → get_or octets 0 0 < 256 → look_up table index ≡ Some entry → SkipsField table octets used
skipped table octets index used entry p high small found =
    let mark : get_or octets 0 0 / 2 ^ 7 ≡ 1 = omega arith in
    record {
      field = entry;
      some = some 7 octets index used p;
      within = p.within;
      is_field = inl (record { index = index; marked = subst (λ m. IsMarkedInt 7 m (take used octets) index) mark (marked 7 octets index used p); found = found; same = refl });
    }

pub taken_inserted : (table : Table) (octets : List ℕ) (field : Field) (used : ℕ) → get_or octets 0 0 / 64 ≡ 1 → TakesLiteral table 6 octets field used → Represents table (take used octets) field (added field table)
taken_inserted table octets field used mark p = inr (inl (record { literal = subst (λ m. IsLiteral 6 m table (take used octets) field) mark p.is_literal; inserted = refl }))

pub taken_not_inserted : (table : Table) (octets : List ℕ) (field : Field) (used : ℕ) → get_or octets 0 0 < 32 → TakesLiteral table 4 octets field used → Represents table (take used octets) field table
taken_not_inserted table octets field used low p = elim (cases_lt (get_or octets 0 0) 16) [
  | inl less ↦ (let mark : get_or octets 0 0 / 16 ≡ 0 = omega arith in inr (inr (inl (record { literal = subst (λ m. IsLiteral 4 m table (take used octets) field) mark p.is_literal; same = refl }))))
  | inr more ↦ (let mark : get_or octets 0 0 / 16 ≡ 1 = omega arith in inr (inr (inr (record { literal = subst (λ m. IsLiteral 4 m table (take used octets) field) mark p.is_literal; same = refl }))))
]
