-- A block has one fault.
use Rattle.std.proofs.Common.{◌≡◌, ℕ, ◌+◌, ◌/◌, ◌<◌, ◌⊎◌, List, [], ◌∷◌, ◌++◌, length, take, drop, get_or, refl, ap, sym, ◌∙◌, subst, inl, inr, arith, append_assoc, length-drop, length-take-le}
use Rattle.std.proofs.lemmas.List.{append-nil, take_rest, take-append-drop, take-take, drop-append-le}
use Rattle.std.proofs.lemmas.Bool.{cases_lt}
use Rattle.model.specs.Messages.{Field}
use Rattle.model.specs.Huffman.{Huff}
use Rattle.model.specs.Integers.{BeginsNoInt}
use Rattle.model.specs.Tables.{Table}
use Rattle.model.specs.Blocks.{IsBlock}
use Rattle.model.proofs.BlockLemmas.{one_name, cancel}
use Rattle.model.proofs.BlockLaws.{SameBlock, one_chain}
use Rattle.hpack_int.specs.Reading.{ReadsValue, NeedsMore, IsBad}
use Rattle.header_blocks.specs.Represented.{BeginsNoString, BeginsNoName, BeginsNoLiteral, BeginsNoField, BeginsNoMaximum, TakesName}
use Rattle.header_blocks.specs.Faults.{IsIntFault, IsCutString, IsBadText, IsStringFault, IsNameFault, StopsAtName, StopsAtValue, IsLiteralFault, StopsAtIndex, IsFieldFault, IsMaximumFault, IsFaultOf}
use Rattle.header_blocks.specs.declared.fault.DecodeFault.{DecodeFault}
use Rattle.header_blocks.specs.declared.fault.DecodeFault.TheVariants.{Integer, Text, Cut}
use Rattle.header_blocks.proofs.Refused.{bad, same_value, behind, no_number, cut_string, bad_string, no_new_name, no_entry_name, no_index, no_literal_name, no_literal_value, no_indexed_int, no_indexed_entry, no_inserted, no_other, drop_add}
use Rattle.header_blocks.proofs.NoBlocks.{no_block, no_field_at, no_maximum_at, no_maximum_int, maximum_over}

-- integers
int_stops : (prefix : ℕ) (octets : List ℕ) (fault : DecodeFault) → IsIntFault prefix octets fault → BeginsNoInt prefix octets
int_stops prefix octets Cut p = p.no_front
int_stops prefix octets Integer p = bad prefix octets p
int_stops prefix octets _ p = absurd p

bad_or_more : (prefix : ℕ) (octets : List ℕ) → IsBad prefix octets → NeedsMore prefix octets → ⊥
bad_or_more prefix octets b n = b n.more (octets ++ n.more) [] n.value (sym (append-nil (octets ++ n.more))) n.continued

one_int_fault : (prefix : ℕ) (octets : List ℕ) (f g : DecodeFault) → IsIntFault prefix octets f → IsIntFault prefix octets g → f ≡ g
one_int_fault prefix octets Cut Cut p q = refl
one_int_fault prefix octets Cut Integer p q = absurd (bad_or_more prefix octets q p)
one_int_fault prefix octets Cut _ p q = absurd q
one_int_fault prefix octets Integer Integer p q = refl
one_int_fault prefix octets Integer Cut p q = absurd (bad_or_more prefix octets p q)
one_int_fault prefix octets Integer _ p q = absurd q
one_int_fault prefix octets _ g p q = absurd p

-- an integer that is read
not_stopped : (prefix : ℕ) (octets : List ℕ) (value used : ℕ) → ReadsValue prefix octets value used → BeginsNoInt prefix octets → ⊥
not_stopped prefix octets value used p none = none (take used octets) (drop used octets) value (sym (take-append-drop used octets)) p.text

read_or_stops : (prefix : ℕ) (octets : List ℕ) (value used : ℕ) (fault : DecodeFault) → ReadsValue prefix octets value used → IsIntFault prefix octets fault → ⊥
read_or_stops prefix octets value used fault p s = not_stopped prefix octets value used p (int_stops prefix octets fault s)

one_value : (prefix : ℕ) (octets : List ℕ) (v u w t : ℕ) → ReadsValue prefix octets v u → ReadsValue prefix octets w t → v ≡ w
one_value prefix octets v u w t p q = same_value prefix octets v u p (take t octets) (drop t octets) w q.text (sym (take-append-drop t octets))

one_rest : (prefix : ℕ) (octets : List ℕ) (v u w t : ℕ) → ReadsValue prefix octets v u → ReadsValue prefix octets w t → drop u octets ≡ drop t octets
one_rest prefix octets v u w t p q = behind prefix octets v u p (take t octets) (drop t octets) w q.text (sym (take-append-drop t octets))

one_used : (prefix : ℕ) (octets : List ℕ) (v u w t : ℕ) → ReadsValue prefix octets v u → ReadsValue prefix octets w t → u ≡ t
one_used prefix octets v u w t p q =
    let rests = ap length (one_rest prefix octets v u w t p q) in
    let left = length-drop u octets in
    let right = length-drop t octets in
    let a = p.within in
    let b = q.within in
    omega (arith, rests, left, right, a, b)

-- strings
string_stops : (octets : List ℕ) (fault : DecodeFault) → IsStringFault octets fault → BeginsNoString octets
string_stops octets Integer p = no_number octets (bad 7 octets p)
string_stops octets Cut (inl n) = no_number octets n.no_front
string_stops octets Cut (inr c) = let within = c.read.within in let short = c.short in cut_string octets c.number c.used c.read (omega (arith, within, short))
string_stops octets Text p = bad_string octets p.number p.used p.read p.marked (λ string h. p.no_text string (subst (λ t. Huff (take p.number t) string) (take_rest octets p.used) h))
string_stops octets _ p = absurd p

cut_or_text : (octets : List ℕ) → NeedsMore 7 octets ⊎ IsCutString octets → IsBadText octets → ⊥
cut_or_text octets (inl n) q = not_stopped 7 octets q.number q.used q.read n.no_front
cut_or_text octets (inr c) q =
    let values = one_value 7 octets c.number c.used q.number q.used c.read q.read in
    let uses = one_used 7 octets c.number c.used q.number q.used c.read q.read in
    let short = c.short in
    let whole = q.whole in
    omega (arith, values, uses, short, whole)

bad_or_cut : (octets : List ℕ) → IsBad 7 octets → NeedsMore 7 octets ⊎ IsCutString octets → ⊥
bad_or_cut octets b (inl n) = bad_or_more 7 octets b n
bad_or_cut octets b (inr c) = not_stopped 7 octets c.number c.used c.read (bad 7 octets b)

bad_or_text : (octets : List ℕ) → IsBad 7 octets → IsBadText octets → ⊥
bad_or_text octets b q = not_stopped 7 octets q.number q.used q.read (bad 7 octets b)

one_string_fault : (octets : List ℕ) (f g : DecodeFault) → IsStringFault octets f → IsStringFault octets g → f ≡ g
one_string_fault octets Integer Integer p q = refl
one_string_fault octets Integer Cut p q = absurd (bad_or_cut octets p q)
one_string_fault octets Integer Text p q = absurd (bad_or_text octets p q)
one_string_fault octets Integer _ p q = absurd q
one_string_fault octets Cut Integer p q = absurd (bad_or_cut octets q p)
one_string_fault octets Cut Cut p q = refl
one_string_fault octets Cut Text p q = absurd (cut_or_text octets p q)
one_string_fault octets Cut _ p q = absurd q
one_string_fault octets Text Integer p q = absurd (bad_or_text octets q p)
one_string_fault octets Text Cut p q = absurd (cut_or_text octets q p)
one_string_fault octets Text Text p q = refl
one_string_fault octets Text _ p q = absurd q
one_string_fault octets _ g p q = absurd p

-- names
name_stops : (table : Table) (index : ℕ) (octets : List ℕ) (fault : DecodeFault) → IsNameFault table index octets fault → BeginsNoName table index octets
name_stops table index octets fault (inl p) = no_new_name table index octets p.0 (string_stops octets fault p.1)
name_stops table index octets fault (inr p) = let some = p.0 in no_entry_name table index octets (λ e. omega (arith, e, some)) p.1.nothing

one_name_fault : (table : Table) (index : ℕ) (octets : List ℕ) (f g : DecodeFault) → IsNameFault table index octets f → IsNameFault table index octets g → f ≡ g
one_name_fault table index octets f g (inl p) (inl q) = one_string_fault octets f g p.1 q.1
one_name_fault table index octets f g (inl p) (inr q) = let a = p.0 in let b = q.0 in absurd (omega (arith, a, b))
one_name_fault table index octets f g (inr p) (inl q) = let a = p.0 in let b = q.0 in absurd (omega (arith, a, b))
one_name_fault table index octets f g (inr p) (inr q) = p.1.is ∙ sym q.1.is

-- literals
module _ (table : Table) (prefix : ℕ) (octets : List ℕ) (f g : DecodeFault) where
  literal_stops : IsLiteralFault table prefix octets f → BeginsNoLiteral table prefix octets
  literal_stops (inl i) = no_index table prefix octets (int_stops prefix octets f i)
  literal_stops (inr (inl s)) = no_literal_name table prefix octets s.index s.used s.read (subst (λ t. BeginsNoName table s.index t) (sym (take_rest octets s.used)) (name_stops table s.index (drop s.used octets) f s.stops))
  literal_stops (inr (inr s)) =
      no_literal_value table prefix octets s.index s.used s.name s.name_used s.read (subst (λ t. TakesName table s.index t s.name s.name_used) (sym (take_rest octets s.used)) s.named)
      (subst BeginsNoString (sym (take_rest octets (s.used + s.name_used))) (string_stops (drop (s.used + s.name_used) octets) f s.stops))

  same_names : StopsAtName table prefix octets f → StopsAtName table prefix octets g → f ≡ g
  same_names p q =
      let value = one_value prefix octets p.index p.used q.index q.used p.read q.read in
      let rest = one_rest prefix octets p.index p.used q.index q.used p.read q.read in
      one_name_fault table p.index (drop p.used octets) f g p.stops (subst (λ i. IsNameFault table i (drop p.used octets) g) (sym value) (subst (λ o. IsNameFault table q.index o g) (sym rest) q.stops))

  name_or_value : StopsAtName table prefix octets f → StopsAtValue table prefix octets g → ⊥
  name_or_value p q =
      let value = one_value prefix octets p.index p.used q.index q.used p.read q.read in
      let rest = one_rest prefix octets p.index p.used q.index q.used p.read q.read in
      let named : TakesName table p.index (drop p.used octets) q.name q.name_used = subst (λ i. TakesName table i (drop p.used octets) q.name q.name_used) (sym value) (subst (λ o. TakesName table q.index o q.name q.name_used) (sym rest) q.named) in
      name_stops table p.index (drop p.used octets) f p.stops (take q.name_used (drop p.used octets)) (drop q.name_used (drop p.used octets)) q.name (sym (take-append-drop q.name_used (drop p.used octets))) named.is_name

  same_values : StopsAtValue table prefix octets f → StopsAtValue table prefix octets g → f ≡ g
  same_values p q =
      let value = one_value prefix octets p.index p.used q.index q.used p.read q.read in
      let rest = one_rest prefix octets p.index p.used q.index q.used p.read q.read in
      let tail : List ℕ = drop p.used octets in
      let named : TakesName table p.index tail q.name q.name_used = subst (λ i. TakesName table i tail q.name q.name_used) (sym value) (subst (λ o. TakesName table q.index o q.name q.name_used) (sym rest) q.named) in
      let whole : take p.name_used tail ++ drop p.name_used tail ≡ take q.name_used tail ++ drop q.name_used tail = take-append-drop p.name_used tail ∙ sym (take-append-drop q.name_used tail) in
      let names = one_name table p.index p.index (take p.name_used tail) (take q.name_used tail) (drop p.name_used tail) (drop q.name_used tail) p.name q.name refl p.named.is_name named.is_name whole in
      let last : drop p.name_used tail ≡ drop q.name_used tail = cancel (take p.name_used tail) (take q.name_used tail) (drop p.name_used tail) (drop q.name_used tail) names.0 whole in
      let places : drop (p.used + p.name_used) octets ≡ drop (q.used + q.name_used) octets =
      drop_add p.used p.name_used octets ∙ last ∙ ap (drop q.name_used) rest ∙ sym (drop_add q.used q.name_used octets) in
      one_string_fault (drop (p.used + p.name_used) octets) f g p.stops (subst (λ o. IsStringFault o g) (sym places) q.stops)

one_literal_fault : (table : Table) (prefix : ℕ) (octets : List ℕ) (f g : DecodeFault) → IsLiteralFault table prefix octets f → IsLiteralFault table prefix octets g → f ≡ g
one_literal_fault table prefix octets f g (inl p) (inl q) = one_int_fault prefix octets f g p q
one_literal_fault table prefix octets f g (inl p) (inr (inl q)) = absurd (read_or_stops prefix octets q.index q.used f q.read p)
one_literal_fault table prefix octets f g (inl p) (inr (inr q)) = absurd (read_or_stops prefix octets q.index q.used f q.read p)
one_literal_fault table prefix octets f g (inr (inl p)) (inl q) = absurd (read_or_stops prefix octets p.index p.used g p.read q)
one_literal_fault table prefix octets f g (inr (inl p)) (inr (inl q)) = same_names table prefix octets f g p q
one_literal_fault table prefix octets f g (inr (inl p)) (inr (inr q)) = absurd (name_or_value table prefix octets f g p q)
one_literal_fault table prefix octets f g (inr (inr p)) (inl q) = absurd (read_or_stops prefix octets p.index p.used g p.read q)
one_literal_fault table prefix octets f g (inr (inr p)) (inr (inl q)) = absurd (name_or_value table prefix octets g f q p)
one_literal_fault table prefix octets f g (inr (inr p)) (inr (inr q)) = same_values table prefix octets f g p q

-- fields
one_index_fault : (table : Table) (octets : List ℕ) (f g : DecodeFault) → IsIntFault 7 octets f ⊎ StopsAtIndex table octets f → IsIntFault 7 octets g ⊎ StopsAtIndex table octets g → f ≡ g
one_index_fault table octets f g (inl p) (inl q) = one_int_fault 7 octets f g p q
one_index_fault table octets f g (inl p) (inr q) = absurd (read_or_stops 7 octets q.index q.used f q.read p)
one_index_fault table octets f g (inr p) (inl q) = absurd (read_or_stops 7 octets p.index p.used g p.read q)
one_index_fault table octets f g (inr p) (inr q) = p.stops.is ∙ sym q.stops.is

one_field_fault : (table : Table) (octets : List ℕ) (f g : DecodeFault) → IsFieldFault table octets f → IsFieldFault table octets g → f ≡ g
one_field_fault table octets f g (inl p) (inl q) = one_index_fault table octets f g p.1 q.1
one_field_fault table octets f g (inl p) (inr (inl q)) = let a = p.0 in let b = q.0 in absurd (omega (arith, a, b))
one_field_fault table octets f g (inl p) (inr (inr q)) = let a = p.0 in let b = q.0 in absurd (omega (arith, a, b))
one_field_fault table octets f g (inr (inl p)) (inl q) = let a = p.0 in let b = q.0 in absurd (omega (arith, a, b))
one_field_fault table octets f g (inr (inl p)) (inr (inl q)) = one_literal_fault table 6 octets f g p.1 q.1
one_field_fault table octets f g (inr (inl p)) (inr (inr q)) = let a = p.0 in let b = q.0 in absurd (omega (arith, a, b))
one_field_fault table octets f g (inr (inr p)) (inl q) = let a = p.0 in let b = q.0 in absurd (omega (arith, a, b))
one_field_fault table octets f g (inr (inr p)) (inr (inl q)) = let a = p.0 in let b = q.0 in absurd (omega (arith, a, b))
one_field_fault table octets f g (inr (inr p)) (inr (inr q)) = one_literal_fault table 4 octets f g p.1 q.1

field_stops : (table : Table) (octets : List ℕ) (f : DecodeFault) → IsFieldFault table octets f → BeginsNoField table octets
field_stops table octets f (inl (mark, inl i)) = no_indexed_int table octets (omega (arith, mark)) (omega (arith, mark)) (int_stops 7 octets f i)
field_stops table octets f (inl (mark, inr s)) = no_indexed_entry table octets s.index s.used (omega (arith, mark)) (omega (arith, mark)) s.read s.stops.nothing
field_stops table octets f (inr (inl (mark, l))) = no_inserted table octets (omega (arith, mark)) (omega (arith, mark)) (literal_stops table 6 octets f f l)
field_stops table octets f (inr (inr (mark, l))) = no_other table octets (omega (arith, mark)) (literal_stops table 4 octets f f l)

unmarked : (table : Table) (octets : List ℕ) (f : DecodeFault) → IsFieldFault table octets f → get_or octets 0 0 / 32 ≡ 1 → ⊥
unmarked table octets f (inl p) mark = let a = p.0 in omega (arith, a, mark)
unmarked table octets f (inr (inl p)) mark = let a = p.0 in omega (arith, a, mark)
unmarked table octets f (inr (inr p)) mark = let a = p.0 in omega (arith, a, mark)

-- maxima
one_maximum_fault : (fields : List Field) (octets : List ℕ) (f g : DecodeFault) → IsMaximumFault fields octets f → IsMaximumFault fields octets g → f ≡ g
one_maximum_fault [] octets f g (inl p) (inl q) = one_int_fault 5 octets f g p q
one_maximum_fault [] octets f g (inl p) (inr q) = absurd (read_or_stops 5 octets q.maximum q.used f q.read p)
one_maximum_fault [] octets f g (inr p) (inl q) = absurd (read_or_stops 5 octets p.maximum p.used g p.read q)
one_maximum_fault [] octets f g (inr p) (inr q) = p.is ∙ sym q.is
one_maximum_fault (field ∷ fields) octets f g (inl p) (inl q) = one_int_fault 5 octets f g p q
one_maximum_fault (field ∷ fields) octets f g (inl p) (inr q) = absurd (read_or_stops 5 octets q.maximum q.used f q.read p)
one_maximum_fault (field ∷ fields) octets f g (inr p) (inl q) = absurd (read_or_stops 5 octets p.maximum p.used g p.read q)
one_maximum_fault (field ∷ fields) octets f g (inr p) (inr q) = p.is ∙ sym q.is

maximum_stops : (fields : List Field) (octets : List ℕ) (f : DecodeFault) → IsMaximumFault fields octets f → fields ≡ [] → BeginsNoMaximum octets
maximum_stops [] octets f (inl i) e = no_maximum_int octets (int_stops 5 octets f i)
maximum_stops [] octets f (inr s) e = maximum_over octets s.maximum s.used s.read s.over
maximum_stops (field ∷ fields) octets f s e = cc

-- what stands at a place
abbrev pub Stops : Table → List Field → List ℕ → DecodeFault → Type 0
Stops now fields octets fault = IsFieldFault now octets fault ⊎ ((get_or octets 0 0 / 32 ≡ 1) × IsMaximumFault fields octets fault)

one_stop : (now : Table) (fields : List Field) (octets : List ℕ) (f g : DecodeFault) → Stops now fields octets f → Stops now fields octets g → f ≡ g
one_stop now fields octets f g (inl p) (inl q) = one_field_fault now octets f g p q
one_stop now fields octets f g (inl p) (inr q) = absurd (unmarked now octets f p q.0)
one_stop now fields octets f g (inr p) (inl q) = absurd (unmarked now octets g q p.0)
one_stop now fields octets f g (inr p) (inr q) = one_maximum_fault fields octets f g p.1 q.1

stops_field : (now : Table) (fields : List Field) (octets : List ℕ) (f : DecodeFault) → Stops now fields octets f → BeginsNoField now octets
stops_field now fields octets f (inl p) = field_stops now octets f p
stops_field now fields octets f (inr p) = let mark = p.0 in no_field_at now octets (omega (arith, mark)) (omega (arith, mark))

stops_maximum : (now : Table) (fields : List Field) (octets : List ℕ) (f : DecodeFault) → Stops now fields octets f → fields ≡ [] → BeginsNoMaximum octets
stops_maximum now fields octets f (inl p) e = no_maximum_at octets (λ h. let low = h.0 in let high = h.1 in unmarked now octets f p (omega (arith, low, high)))
stops_maximum now fields octets f (inr p) e = maximum_stops fields octets f p.1 e

-- a front begins with nothing with which the whole doesn't begin
front_field : (now : Table) (octets front more : List ℕ) → octets ≡ front ++ more → BeginsNoField now octets → BeginsNoField now front
front_field now octets front more e none a rest field next is r = none a (rest ++ more) field next (e ∙ ap (λ o. o ++ more) is ∙ append_assoc a rest more) r

front_maximum : (octets front more : List ℕ) → octets ≡ front ++ more → BeginsNoMaximum octets → BeginsNoMaximum front
front_maximum octets front more e none a rest maximum is m = none a (rest ++ more) maximum (e ∙ ap (λ o. o ++ more) is ∙ append_assoc a rest more) m

-- no place stands before another
no_earlier : (table : Table) (block : List ℕ) (f g : DecodeFault) (p : IsFaultOf table block f) (q : IsFaultOf table block g) → p.place < q.place → ⊥
no_earlier table block f g p q less =
    let within = q.within in
    let left : List ℕ = take q.place block in
    let long : length left ≡ q.place = length-take-le q.place block (omega (arith, within)) in
    let z : List ℕ = drop p.place left in
    let front : take p.place left ≡ take p.place block = take-take p.place q.place block (omega (arith, less)) in
    let whole : left ≡ take p.place block ++ z = sym (take-append-drop p.place left) ∙ ap (λ o. o ++ z) front in
    let behind_it : drop p.place block ≡ z ++ drop q.place block =
    ap (drop p.place) (sym (take-append-drop q.place block)) ∙ drop-append-le p.place left (drop q.place block) (omega (arith, less, long)) in
    let sizes = length-drop p.place left in
    no_block table p.now (take p.place block) z left p.maxima p.fields p.is_block whole (omega (arith, sizes, long, less))
    (front_field p.now (drop p.place block) z (drop q.place block) behind_it (stops_field p.now p.fields (drop p.place block) f p.stops))
    (λ e. front_maximum (drop p.place block) z (drop q.place block) behind_it (stops_maximum p.now p.fields (drop p.place block) f p.stops e))
    q.fields q.now (record { maxima = q.maxima; is_block = q.is_block })

same_block : (table n m : Table) (a b is js : List ℕ) (fs gs : List Field) → a ≡ b → IsBlock table a is fs n → IsBlock table b js gs m → SameBlock n m is js fs gs
same_block table n m a b is js fs gs e p q =
    one_chain table p.between q.between n m p.front q.front p.rest q.rest is js fs gs p.are_maxima p.are_fields q.are_maxima q.are_fields (sym p.is ∙ e ∙ q.is)

one_at : (table : Table) (block : List ℕ) (f g : DecodeFault) (p : IsFaultOf table block f) (q : IsFaultOf table block g) → p.place ≡ q.place → f ≡ g
one_at table block f g p q same =
    let blocks = same_block table p.now q.now (take p.place block) (take q.place block) p.maxima q.maxima p.fields q.fields (ap (λ n. take n block) same) p.is_block q.is_block in
    one_stop p.now p.fields (drop p.place block) f g p.stops
    (subst (λ t. Stops t p.fields (drop p.place block) g) (sym blocks.table_same)
    (subst (λ fs. Stops q.now fs (drop p.place block) g) (sym blocks.fields) (subst (λ n. Stops q.now q.fields (drop n block) g) (sym same) q.stops)))

pub one_fault : (table : Table) (block : List ℕ) (f g : DecodeFault) → IsFaultOf table block f → IsFaultOf table block g → f ≡ g
one_fault table block f g p q = elim (cases_lt p.place q.place) [
  | inl less ↦ absurd (no_earlier table block f g p q less)
  | inr least ↦ elim (cases_lt q.place p.place) [
    | inl more ↦ absurd (no_earlier table block g f q p more)
    | inr most ↦ one_at table block f g p q (omega (arith, least, most))
  ]
]
