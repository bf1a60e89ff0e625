-- What is written.
use Rattle.std.proofs.Common.{◌≡◌, ℕ, zero, suc, ◌+◌, ◌/◌, ◌^◌, ◌<◌, ◌≤◌, ◌⊎◌, Bool, true, false, if◌then◌else◌, List, [], ◌∷◌, ◌++◌, length, take, get_or, Option, Some, Result, Ok, Err, OnOk, is_ok, refl, ap, sym, ◌∙◌, subst, inl, inr, arith, append_assoc}
use Rattle.std.specs.Prelude.{option_to_list}
use Rattle.std.proofs.lemmas.List.{append-nil, take_more}
use Rattle.std.proofs.lemmas.Bool.{cases_lt}
use Rattle.std.proofs.Math.Seq.{take-append_seam}
use Rattle.model.specs.Octets.{IsFront}
use Rattle.model.specs.Messages.{Field}
use Rattle.model.specs.Tables.{Table, look_up, added, resized, keep, field_size}
use Rattle.model.specs.Limits.{first_maximum}
use Rattle.model.specs.Huffman.{Huff}
use Rattle.model.specs.Integers.{IsMarkedInt}
use Rattle.model.specs.Blocks.{IsString, IsNewName, IsNameOfEntry, Represents, AreFields, AreMaxima}
use Rattle.hpack_table.specs.Finding.{FindsBoth, FindsName, HasNone, HasNoName}
use Rattle.hpack_int.specs.Writing.{Writes}
use Rattle.huffman.specs.Encoding.{Encodes as EncodesText}
use Rattle.header_blocks.specs.Chosen.{sought, IsShortened, IsChosenString, IsNameIndex, IsChosen, AreChosen}
use Rattle.model.specs.Maxima.{Maxima}
use Rattle.header_blocks.specs.Encodes.{AddsRaw, AddsString, AddsLiteral, AddsField, AddsFields, AddsMaxima, Encodes}
use Rattle.header_blocks.specs.Due.{IsDue}
use Rattle.header_blocks.specs.declared.limits.Limits.{Limits}
use Rattle.header_blocks.specs.Writing.{AddsBlock}
use Rattle.header_blocks.specs.declared.limits.SizeUpdates.{SizeUpdates}

-- fronts
pub front_same : (old new : List ℕ) → new ≡ old → IsFront old new
front_same old new e = record { rest = []; is = e ∙ sym (append-nil old) }

pub front_then : (a b c : List ℕ) → IsFront a b → IsFront b c → IsFront a c
front_then a b c p q = record { rest = p.rest ++ q.rest; is = q.is ∙ ap (λ o. o ++ q.rest) p.is ∙ append_assoc a p.rest q.rest }

pub taken_back : (old new : List ℕ) → IsFront old new → take (length old) new ≡ old
taken_back old new p = ap (take (length old)) p.is ∙ take-append_seam old p.rest

-- a raw string
raw : (string old between new : List ℕ) → Writes 7 0 (length string) old between → new ≡ between ++ string → AddsRaw string old new
raw string old between new w is = record {
  text = w.text ++ string;
  added = is ∙ ap (λ o. o ++ string) w.added ∙ append_assoc old w.text string;
  is_raw = record { header = w.text; is = refl; number = w.shortest.marked };
}

pub raw_added : {U E : Type 0} (r : Result U E) (string old between new : List ℕ) → Writes 7 0 (length string) old between → new ≡ (if is_ok r then between ++ string else between) → OnOk r (AddsRaw string old new)
raw_added (Ok done) string old between new w is = raw string old between new w is
raw_added (Err error) string old between new w is = tt

-- a string, raw or as its Huffman text
pub raw_chosen : (compress : Bool) (string old new : List ℕ) → (compress ≡ true → IsShortened string → ⊥) → AddsRaw string old new → AddsString compress string old new
raw_chosen compress string old new not_shorter r = record { text = r.text; added = r.added; chosen = inl (record { is_raw = r.is_raw; not_shorter = not_shorter }) }

pub text_added : (string old between new : List ℕ) (count : ℕ) → ((text : List ℕ) → Huff text string → length text ≡ count) → count < length string → Writes 7 128 count old between → EncodesText string between new → AddsString true string old new
text_added string old between new count counted shorter w e =
    let is = counted e.text e.huffman in
    record {
      text = w.text ++ e.text;
      added = e.added ∙ ap (λ o. o ++ e.text) w.added ∙ append_assoc old w.text e.text;
      chosen = inr (record {
        is_text = record { header = w.text; text = e.text; is = refl; number = subst (λ n. IsMarkedInt 7 1 w.text n) (sym is) w.shortest.marked; huffman = e.huffman };
        is_taken = refl;
        shortened = record { text = e.text; huffman = e.huffman; shorter = omega (arith, is, shorter) };
      });
    }

-- a text that isn't shorter
pub not_shortened : (string : List ℕ) (count : ℕ) → ((text : List ℕ) → Huff text string → length text ≡ count) → length string ≤ count → IsShortened string → ⊥
not_shortened string count counted long s = let is = counted s.text s.huffman in let shorter = s.shorter in omega (arith, is, shorter, long)

string_of : (compress : Bool) (octets string : List ℕ) → IsChosenString compress octets string → IsString octets string
string_of compress octets string (inl c) = inl c.is_raw
string_of compress octets string (inr c) = inr c.is_text

-- the name of an index
none_at_zero : (table : Table) (index : ℕ) (entry : Field) → index ≡ 0 → look_up table index ≡ Some entry → ⊥
none_at_zero table zero entry e f = cc
none_at_zero table (suc place) entry e f = omega (arith, e)

pub new_name : (table : Table) (index : ℕ) (name text : List ℕ) → index ≡ 0 → IsNameIndex table name index → IsString text name → IsNewName index text name ⊎ IsNameOfEntry table index text name
new_name table index name text zero_index is s = inl (record { is_zero = zero_index; string = s })

pub old_name : (table : Table) (index : ℕ) (name : List ℕ) → (index ≡ 0 → ⊥) → IsNameIndex table name index → IsNewName index [] name ⊎ IsNameOfEntry table index [] name
old_name table index name some (inl p) = inr (record { is_empty = refl; entry = p.entry; found = p.here; same = p.named })
old_name table index name some (inr p) = absurd (some p.1)

-- what follows a name index
pub record NameFollows (compress : Bool) (index : ℕ) (name old new : List ℕ) : Type 0 where
  pub text : List ℕ
  pub is : new ≡ old ++ text
  pub chosen : index ≡ 0 → IsChosenString compress text name
  pub named : (table : Table) → IsNameIndex table name index → IsNewName index text name ⊎ IsNameOfEntry table index text name

pub name_written : (compress : Bool) (index : ℕ) (name old new : List ℕ) → index ≡ 0 → AddsString compress name old new → NameFollows compress index name old new
name_written compress index name old new zero_index s =
    record { text = s.text; is = s.added; chosen = λ zero_again. s.chosen; named = λ table is. new_name table index name s.text zero_index is (string_of compress s.text name s.chosen) }

pub nothing_written : (compress : Bool) (index : ℕ) (name old new : List ℕ) → (index ≡ 0 → ⊥) → new ≡ old → NameFollows compress index name old new
nothing_written compress index name old new some is = record { text = []; is = is ∙ sym (append-nil old); chosen = λ zero_index. absurd (some zero_index); named = λ table p. old_name table index name some p }

-- a literal, in parts
pub literal_added : (compress : Bool) (prefix mark : ℕ) (table : Table) (index : ℕ) (field : Field) (old a b new : List ℕ) → Writes prefix mark index old a → NameFollows compress index field.name a b → IsNameIndex table field.name index
    → AddsString compress field.value b new → AddsLiteral compress prefix (mark / 2 ^ prefix) table index field old new
literal_added compress prefix mark table index field old a b new w n is v = record {
  text = w.text ++ n.text ++ v.text;
  added = v.added ∙ ap (λ o. o ++ v.text) (n.is ∙ ap (λ o. o ++ n.text) w.added) ∙ append_assoc (old ++ w.text) n.text v.text ∙ append_assoc old w.text (n.text ++ v.text)
      ∙ ap (λ o. old ++ o) (sym (append_assoc w.text n.text v.text));
  literal = record {
    index = index;
    index_octets = w.text;
    name_octets = n.text;
    value_octets = v.text;
    is = refl;
    marked = w.shortest.marked;
    name = n.named table is;
    string = string_of compress v.text field.value v.chosen;
  };
  same = refl;
  strings = record { name = n.chosen; value = v.chosen };
}

-- where a field is sought
sought_same : (indexing : Bool) (table : Table) → (indexing ≡ false → table.fields ≡ []) → sought indexing table ≡ table
sought_same true table plain = refl
sought_same false table plain = ap (λ (fields : List Field). let t : Table = record { fields = fields; maximum = table.maximum } in t) (sym (plain refl))

-- What is known of a field that stands nowhere.
pub record IsAbsent (table : Table) (field : Field) (index : ℕ) : Type 0 where
  pub none : HasNone table field.name field.value
  pub name : IsNameIndex table field.name index

pub absent_named : (table : Table) (field : Field) (index : ℕ) → FindsName table field.name index → HasNone table field.name field.value → IsAbsent table field index
absent_named table field index p none = record { none = none; name = inl p }

pub absent_new : (table : Table) (field : Field) (index : ℕ) → HasNoName table field.name → index ≡ 0 → IsAbsent table field index
absent_new table field index none is_zero = record { none = λ other e. none other field e refl; name = inr (none, is_zero) }

pub index_added : (indexing : Bool) (table next : Table) (field : Field) (index : ℕ) (old new : List ℕ) → (indexing ≡ false → table.fields ≡ []) → FindsBoth table field.name field.value index → Writes 7 128 index old new → next ≡ table
    → AddsField indexing table field next old new
index_added indexing table next field index old new plain p w same = record {
  text = w.text;
  added = w.added;
  chosen = inl (record {
    indexed = record { index = index; marked = w.shortest.marked; found = p.here; same = same };
    least = subst (λ t. FindsBoth t field.name field.value index) (sym (sought_same indexing table plain)) p;
  });
}

pub inserted_added : (indexing : Bool) (table next : Table) (field : Field) (index : ℕ) (old new : List ℕ) → indexing ≡ true → IsAbsent table field index → AddsLiteral indexing 6 1 table index field old new
    → field_size field ≤ table.maximum → next ≡ added field table → AddsField indexing table field next old new
inserted_added indexing table next field index old new is_on p l fits is =
    let same : sought indexing table ≡ table = sought_same indexing table (λ e. let clash : true ≡ false = sym is_on ∙ e in cc) in
    record {
      text = l.text;
      added = l.added;
      chosen = inr (inl (record {
        absent = subst (λ t. HasNone t field.name field.value) (sym same) p.none;
        inserted = record { literal = l.literal; inserted = is };
        name = subst (λ t. IsNameIndex t field.name l.literal.index) (sym same) (subst (λ i. IsNameIndex table field.name i) (sym l.same) p.name);
        is_indexing = is_on;
        fits = fits;
        strings = l.strings;
      }));
    }

pub left_out_added : (indexing : Bool) (table next : Table) (field : Field) (index : ℕ) (old new : List ℕ) → (indexing ≡ false → table.fields ≡ []) → IsAbsent table field index → AddsLiteral indexing 4 0 table index field old new
    → (indexing ≡ true → field_size field ≤ table.maximum → ⊥) → next ≡ table → AddsField indexing table field next old new
left_out_added indexing table next field index old new plain p l never is =
    let same : sought indexing table ≡ table = sought_same indexing table plain in
    record {
      text = l.text;
      added = l.added;
      chosen = inr (inr (record {
        absent = subst (λ t. HasNone t field.name field.value) (sym same) p.none;
        left_out = record { literal = l.literal; same = is };
        name = subst (λ t. IsNameIndex t field.name l.literal.index) (sym same) (subst (λ i. IsNameIndex table field.name i) (sym l.same) p.name);
        strings = l.strings;
        too_large = λ on. elim (cases_lt table.maximum (field_size field)) [ inl over ↦ over | inr fits ↦ absurd (never on fits) ];
      }));
    }

-- fields, one after another
pub chosen_then : (indexing : Bool) (table next last : Table) (a b : List ℕ) (fields : List Field) (field : Field) → AreChosen indexing table a fields next → IsChosen indexing next b field last
    → AreChosen indexing table (a ++ b) (fields ++ field ∷ []) last
chosen_then indexing table next last a b [] field p c =
    (b, [], last, ap (λ o. o ++ b) p.0 ∙ sym (append-nil b), subst (λ t. IsChosen indexing t b field last) p.1 c, (refl, refl))
chosen_then indexing table next last a b (first ∷ fields) field p c =
    (p.0, p.1 ++ b, p.2, ap (λ o. o ++ b) p.3 ∙ append_assoc p.0 p.1 b, p.4, chosen_then indexing p.2 next last p.1 b fields field p.5 c)

pub no_fields : (indexing : Bool) (table : Table) (old : List ℕ) → AddsFields indexing table [] table old old
no_fields indexing table old = record { text = []; added = sym (append-nil old); chosen = (refl, refl) }

pub more_fields : (indexing : Bool) (first now next : Table) (fields : List Field) (field : Field) (old between new : List ℕ) → AddsFields indexing first fields now old between → AddsField indexing now field next between new
    → AddsFields indexing first (fields ++ field ∷ []) next old new
more_fields indexing first now next fields field old between new p c = record {
  text = p.text ++ c.text;
  added = c.added ∙ ap (λ o. o ++ c.text) p.added ∙ append_assoc old p.text c.text;
  chosen = chosen_then indexing first now next p.text c.text fields field p.chosen c.chosen;
}

-- what is chosen represents the field
is_represented : (indexing : Bool) (table next : Table) (octets : List ℕ) (field : Field) → IsChosen indexing table octets field next → Represents table octets field next
is_represented indexing table next octets field (inl p) = inl p.indexed
is_represented indexing table next octets field (inr (inl p)) = inr (inl p.inserted)
is_represented indexing table next octets field (inr (inr p)) = inr (inr (inl p.left_out))

pub are_represented : (indexing : Bool) (table next : Table) (octets : List ℕ) (fields : List Field) → AreChosen indexing table octets fields next → AreFields table octets fields next
are_represented indexing table next octets [] p = p
are_represented indexing table next octets (field ∷ fields) p =
    (p.0, p.1, p.2, p.3, is_represented indexing table p.2 p.0 field p.4, are_represented indexing p.2 next p.1 fields p.5)

-- maxima, and a block
pub no_maximum : (table : Table) (old new : List ℕ) → new ≡ old → AddsMaxima table [] table old new
no_maximum table old new is = record { text = []; added = is ∙ sym (append-nil old); are_maxima = (refl, refl) }

pub one_maximum : (table next : Table) (maximum : ℕ) (old new : List ℕ) → maximum ≤ first_maximum → Writes 5 32 maximum old new → next ≡ resized maximum table → AddsMaxima table (maximum ∷ []) next old new
one_maximum table next maximum old new fits w is = record {
  text = w.text;
  added = w.added;
  are_maxima = (w.text, [], sym (append-nil w.text), record { marked = w.shortest.marked; in_range = fits }, (refl, is));
}

maxima_and : (table next last : Table) (a b : List ℕ) (xs ys : List ℕ) → AreMaxima table a xs next → AreMaxima next b ys last → AreMaxima table (a ++ b) (xs ++ ys) last
maxima_and table next last a b [] ys p q = subst (λ o. AreMaxima table (o ++ b) ys last) (sym p.0) (subst (λ t. AreMaxima t b ys last) p.1 q)
maxima_and table next last a b (x ∷ xs) ys p q =
    (p.0, p.1 ++ b, ap (λ o. o ++ b) p.2 ∙ append_assoc p.0 p.1 b, p.3, maxima_and (resized x table) next last p.1 b xs ys p.4 q)

pub block_added : (indexing : Bool) (table first last next : Table) (due : SizeUpdates) (fields : List Field) (old a b new : List ℕ) → AddsMaxima table (option_to_list due.least) first old a → AddsMaxima first (option_to_list due.last) last a b
    → AddsFields indexing last fields next b new → AddsBlock indexing table due fields next old new
block_added indexing table first last next due fields old a b new p q c = record {
  written = p.text ++ q.text ++ c.text;
  added = c.added ∙ ap (λ o. o ++ c.text) (q.added ∙ ap (λ o. o ++ q.text) p.added ∙ append_assoc old p.text q.text) ∙ append_assoc old (p.text ++ q.text) c.text;
  is_block = record {
    front = p.text ++ q.text;
    rest = c.text;
    between = last;
    is = refl;
    are_maxima = maxima_and table first last p.text q.text (option_to_list due.least) (option_to_list due.last) p.are_maxima q.are_maxima;
    are_fields = are_represented indexing last next c.text fields c.chosen;
  };
  chosen = c.chosen;
}

pub kept_none : (maximum : ℕ) (table next : Table) → table.fields ≡ [] → next ≡ resized maximum table → next.fields ≡ []
unfolding keep
kept_none maximum table next none is = ap (λ (t : Table). t.fields) is ∙ ap (keep maximum) none

-- a field of a list
pub fields_and : (indexing : Bool) (first now next : Table) (fields : List Field) (place : ℕ) (field : Field) (old between new : List ℕ) → place < length fields → field ≡ get_or fields place field
    → AddsFields indexing first (take place fields) now old between → AddsField indexing now field next between new → AddsFields indexing first (take (place + 1) fields) next old new
fields_and indexing first now next fields place field old between new within at p c =
    let more : take (place + 1) fields ≡ take place fields ++ field ∷ [] = take_more fields place field within ∙ ap (λ f. take place fields ++ f ∷ []) (sym at) in
    subst (λ fs. AddsFields indexing first fs next old new) (sym more) (more_fields indexing first now next (take place fields) field old between new p c)

pub encoded : (table : Table) (limits : Option Limits) (indexing : Bool) (maximum : ℕ) (due : SizeUpdates) (next : Table) (fields : List Field) (before after : List ℕ) → IsDue maximum limits due → maximum ≡ table.maximum
    → AddsBlock indexing table due fields next before after
    → Encodes (record { table = table; limits = limits; indexing = indexing; refused = false }) fields next before after
encoded table limits indexing maximum due next fields before after d same p = record {
  written = p.written;
  added = p.added;
  is_written = record {
    maxima = option_to_list due.least ++ option_to_list due.last;
    is_block = p.is_block;
    due = λ named q. subst (λ m. Maxima m named (option_to_list due.least ++ option_to_list due.last)) same (d.maxima named q);
    chosen = p.chosen;
  };
}
