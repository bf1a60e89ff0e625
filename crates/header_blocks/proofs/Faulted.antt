-- Which fault stands where a block can't be read on.
use Rattle.std.proofs.Common.{◌≡◌, ℕ, zero, suc, ◌+◌, ◌-◌, ◌/◌, ◌<◌, ◌≤◌, List, [], ◌∷◌, length, take, drop, get_or, Result, Ok, Err, IfErr, Option, None, refl, sym, subst, inl, inr, arith}
use Rattle.std.proofs.lemmas.List.{take_rest, append-nil}
use Rattle.model.specs.Messages.{Field}
use Rattle.model.specs.Huffman.{Huff}
use Rattle.model.specs.Tables.{Table, look_up}
use Rattle.hpack_int.specs.Reading.{ReadsValue}
use Rattle.header_blocks.specs.Represented.{UnlessMemory, TakesName}
use Rattle.header_blocks.specs.Decoding.{TakesMaxima, GathersFrom}
use Rattle.header_blocks.proofs.NoBlocks.{get_drop}
use Rattle.header_blocks.specs.Faults.{IsIntFault, IsStringFault, IsNameFault, IsLiteralFault, IsFieldFault, IsMaximumFault, IsFaultOf}
use Rattle.header_blocks.specs.declared.fault.DecodeFault.{DecodeFault}
use Rattle.header_blocks.specs.declared.fault.DecodeFault.TheVariants.{Integer, Text, Index, Maximum, Late, Cut, Memory}

pub unless_then : (fault : DecodeFault) (P Q : DecodeFault → Type 0) → ((f : DecodeFault) → P f → Q f) → UnlessMemory fault (P fault) → UnlessMemory fault (Q fault)
unless_then Integer P Q h p = h Integer p
unless_then Text P Q h p = h Text p
unless_then Index P Q h p = h Index p
unless_then Maximum P Q h p = h Maximum p
unless_then Late P Q h p = h Late p
unless_then Cut P Q h p = h Cut p
unless_then Memory P Q h p = tt

pub if_err_then : {U : Type 0} (r : Result U DecodeFault) (P Q : DecodeFault → Type 0) → ((f : DecodeFault) → P f → Q f) → IfErr r (λ f. UnlessMemory f (P f)) → IfErr r (λ f. UnlessMemory f (Q f))
if_err_then (Ok value) P Q h p = tt
if_err_then (Err fault) P Q h p = unless_then fault P Q h p

-- strings
pub string_int : (octets : List ℕ) (fault : DecodeFault) → IsIntFault 7 octets fault → IsStringFault octets fault
string_int octets Integer p = p
string_int octets Text p = absurd p
string_int octets Index p = absurd p
string_int octets Maximum p = absurd p
string_int octets Late p = absurd p
string_int octets Cut p = inl p
string_int octets Memory p = absurd p

pub string_cut : (octets : List ℕ) (number start : ℕ) → ReadsValue 7 octets number start → length octets - start < number → IsStringFault octets Cut
string_cut octets number start p short = let within = p.within in inr (record { number = number; used = start; read = p; short = omega (arith, within, short) })

string_text : (octets : List ℕ) (number start : ℕ) → ReadsValue 7 octets number start → 128 ≤ get_or octets 0 0 → number ≤ length octets - start
    → ((string : List ℕ) → Huff (take number (take (length octets - start) (drop start octets))) string → ⊥) → IsStringFault octets Text
string_text octets number start p high fits none =
    let within = p.within in
    record {
      number = number;
      used = start;
      read = p;
      marked = high;
      whole = omega (arith, within, fits);
      no_text = λ string h. none string (subst (λ t. Huff (take number t) string) (sym (take_rest octets start)) h);
    }

pub string_bad : (fault : DecodeFault) (octets : List ℕ) (number start : ℕ) → ReadsValue 7 octets number start → 128 ≤ get_or octets 0 0 → number ≤ length octets - start → UnlessMemory fault (fault ≡ Text)
    → UnlessMemory fault ((string : List ℕ) → Huff (take number (take (length octets - start) (drop start octets))) string → ⊥) → UnlessMemory fault (IsStringFault octets fault)
string_bad Integer octets number start p high fits is none = let clash : Integer ≡ Text = is in cc
string_bad Text octets number start p high fits is none = string_text octets number start p high fits none
string_bad Index octets number start p high fits is none = let clash : Index ≡ Text = is in cc
string_bad Maximum octets number start p high fits is none = let clash : Maximum ≡ Text = is in cc
string_bad Late octets number start p high fits is none = let clash : Late ≡ Text = is in cc
string_bad Cut octets number start p high fits is none = let clash : Cut ≡ Text = is in cc
string_bad Memory octets number start p high fits is none = tt

-- names and literals
pub no_entry : (table : Table) (index : ℕ) (octets : List ℕ) → (index ≡ 0 → ⊥) → look_up table index ≡ None → IsNameFault table index octets Index
no_entry table zero octets some nothing = absurd (some refl)
no_entry table (suc index) octets some nothing = inr (omega arith, record { nothing = nothing; is = refl })

pub literal_int : (table : Table) (prefix : ℕ) (octets : List ℕ) (fault : DecodeFault) → IsIntFault prefix octets fault → IsLiteralFault table prefix octets fault
literal_int table prefix octets fault p = inl p

pub literal_name : (table : Table) (prefix : ℕ) (octets : List ℕ) (index start : ℕ) (fault : DecodeFault) → ReadsValue prefix octets index start → IsNameFault table index (take (length octets - start) (drop start octets)) fault
    → IsLiteralFault table prefix octets fault
literal_name table prefix octets index start fault p s = inr (inl (record { index = index; used = start; read = p; stops = subst (λ t. IsNameFault table index t fault) (take_rest octets start) s }))

pub literal_value : (table : Table) (prefix : ℕ) (octets : List ℕ) (index start : ℕ) (name : List ℕ) (name_length : ℕ) (fault : DecodeFault) → ReadsValue prefix octets index start
    → TakesName table index (take (length octets - start) (drop start octets)) name name_length → IsStringFault (take (length octets - (start + name_length)) (drop (start + name_length) octets)) fault
    → IsLiteralFault table prefix octets fault
literal_value table prefix octets index start name name_length fault p n s = inr (inr (record {
  index = index;
  used = start;
  read = p;
  name = name;
  name_used = name_length;
  named = subst (λ t. TakesName table index t name name_length) (take_rest octets start) n;
  stops = subst (λ t. IsStringFault t fault) (take_rest octets (start + name_length)) s;
}))

-- fields, by their mark
pub indexed_int : (table : Table) (octets : List ℕ) (fault : DecodeFault) → 128 ≤ get_or octets 0 0 → get_or octets 0 0 < 256 → IsIntFault 7 octets fault → IsFieldFault table octets fault
indexed_int table octets fault high small p = inl (omega arith, inl p)

pub indexed_entry : (table : Table) (octets : List ℕ) (index used : ℕ) → 128 ≤ get_or octets 0 0 → get_or octets 0 0 < 256 → ReadsValue 7 octets index used → look_up table index ≡ None → IsFieldFault table octets Index
indexed_entry table octets index used high small p nothing = inl (omega arith, inr (record { index = index; used = used; read = p; stops = record { nothing = nothing; is = refl } }))

pub field_inserted : (table : Table) (octets : List ℕ) (fault : DecodeFault) → 64 ≤ get_or octets 0 0 → get_or octets 0 0 < 128 → IsLiteralFault table 6 octets fault → IsFieldFault table octets fault
field_inserted table octets fault low high p = inr (inl (omega arith, p))

pub field_other : (table : Table) (octets : List ℕ) (fault : DecodeFault) → get_or octets 0 0 < 32 → IsLiteralFault table 4 octets fault → IsFieldFault table octets fault
field_other table octets fault low p = inr (inr (omega arith, p))

-- maxima
pub maximum_int : (fields : List Field) (octets : List ℕ) (fault : DecodeFault) → IsIntFault 5 octets fault → IsMaximumFault fields octets fault
maximum_int [] octets fault p = inl p
maximum_int (field ∷ fields) octets fault p = inl p

pub maximum_passes : (octets : List ℕ) (maximum used : ℕ) → ReadsValue 5 octets maximum used → 4096 < maximum → IsMaximumFault [] octets Maximum
maximum_passes octets maximum used p over = inr (record { maximum = maximum; used = used; read = p; over = over; is = refl })

-- the place at which a block can't be read on
marked : (block : List ℕ) (start : ℕ) → 32 ≤ get_or block start 0 → get_or block start 0 < 64 → get_or (drop start block) 0 0 / 32 ≡ 1
marked block start low high = let at = get_drop block start in omega (arith, at)

pub maxima_stop : (first now : Table) (block : List ℕ) (start : ℕ) (fault : DecodeFault) → TakesMaxima first block start now → start < length block → 32 ≤ get_or block start 0 → get_or block start 0 < 64
    → IsMaximumFault [] (take (length block - start) (drop start block)) fault → IsFaultOf first block fault
maxima_stop first now block start fault p within low high s = record {
  place = start;
  within = within;
  maxima = p.maxima;
  fields = [];
  now = now;
  is_block = record { front = take start block; rest = []; between = now; is = sym (append-nil (take start block)); are_maxima = p.are_maxima; are_fields = (refl, refl) };
  stops = inr (marked block start low high, subst (λ t. IsMaximumFault [] t fault) (take_rest block start) s);
}

module _ (first now : Table) (block : List ℕ) (start cap : ℕ) (kept : List Field) (room : Option ℕ) (g : GathersFrom first (take start block) cap kept room now) (within : start < length block) where
  pub fields_stop : (fault : DecodeFault) → IsFieldFault now (take (length block - start) (drop start block)) fault → IsFaultOf first block fault
  fields_stop fault s = record {
    place = start;
    within = within;
    maxima = g.maxima;
    fields = g.all;
    now = now;
    is_block = g.is_block;
    stops = inl (subst (λ t. IsFieldFault now t fault) (take_rest block start) s);
  }

  late_stop : (fault : DecodeFault) → 32 ≤ get_or block start 0 → get_or block start 0 < 64 → IsMaximumFault g.all (drop start block) fault → IsFaultOf first block fault
  late_stop fault low high s = record {
    place = start;
    within = within;
    maxima = g.maxima;
    fields = g.all;
    now = now;
    is_block = g.is_block;
    stops = inr (marked block start low high, s);
  }

  pub late_int : (fault : DecodeFault) → 32 ≤ get_or block start 0 → get_or block start 0 < 64 → IsIntFault 5 (take (length block - start) (drop start block)) fault → IsFaultOf first block fault
  late_int fault low high s = late_stop fault low high (maximum_int g.all (drop start block) fault (subst (λ t. IsIntFault 5 t fault) (take_rest block start) s))

  comes_late : (fields : List Field) (octets : List ℕ) (maximum used : ℕ) → (fields ≡ [] → ⊥) → ReadsValue 5 octets maximum used → IsMaximumFault fields octets Late
  comes_late [] octets maximum used some p = absurd (some refl)
  comes_late (field ∷ fields) octets maximum used some p = inr (record { maximum = maximum; used = used; read = p; is = refl })

  pub late : (maximum used : ℕ) → 32 ≤ get_or block start 0 → get_or block start 0 < 64 → ReadsValue 5 (take (length block - start) (drop start block)) maximum used
      → (g.all ≡ [] → get_or (drop start block) 0 0 / 32 ≡ 1 → ⊥) → IsFaultOf first block Late
  late maximum used low high p unmarked =
      late_stop Late low high (comes_late g.all (drop start block) maximum used (λ e. unmarked e (marked block start low high)) (subst (λ t. ReadsValue 5 t maximum used) (take_rest block start) p))
