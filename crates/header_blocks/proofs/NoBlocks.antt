-- Octets that aren't a block, by a place that can't be read.
use Rattle.std.proofs.Common.{◌≡◌, ℕ, zero, suc, ◌+◌, ◌-◌, ◌/◌, ◌<◌, ◌≤◌, List, [], ◌∷◌, ◌++◌, length, take, drop, get_or, refl, ap, sym, ◌∙◌, subst, inl, inr, arith, append_assoc, length-drop, false, Option, None, Some}
use Rattle.std.specs.Prelude.{is_some}
use Rattle.std.proofs.lemmas.List.{append-nil, take_rest, take-append-drop, get_or_past}
use Rattle.std.proofs.lemmas.Bool.{cases_lt}
use Rattle.model.specs.Messages.{Field}
use Rattle.model.specs.Integers.{BeginsNoInt}
use Rattle.model.specs.Tables.{Table, resized}
use Rattle.model.specs.Blocks.{Represents, AreFields, AreMaxima, IsNewMaximum, IsBlock, NoBlock}
use Rattle.model.proofs.IntegerLemmas.{one_int}
use Rattle.model.proofs.BlockLemmas.{head_mark, cancel}
use Rattle.model.proofs.BlockLaws.{one_field, none_longer, field_some, field_head, maximum_apart, fields_apart}
use Rattle.hpack_int.specs.Reading.{ReadsValue}
use Rattle.header_blocks.specs.Represented.{BeginsNoField, BeginsNoMaximum, TakesField, SkipsField}
use Rattle.header_blocks.specs.Decoding.{TakesMaxima, GathersFrom, Settles}
use Rattle.header_blocks.specs.Gathering.{Holds}
use Rattle.header_blocks.specs.declared.fields.TakenField.{TakenField}
use Rattle.header_blocks.proofs.Chained.{gathers_start, gathers_field}
use Rattle.header_blocks.proofs.Gathered.{stays_over, within_rest}
use Rattle.header_blocks.proofs.Refused.{same_value}

nothing_left : (x z : List ℕ) → 0 < length z → x ++ z ≡ [] → ⊥
nothing_left [] [] h e = omega arith
nothing_left [] (o ∷ z) h e = cc
nothing_left (o ∷ x) z h e = cc

-- behind fields stands no list of fields
no_list : (table n m : Table) (x z y : List ℕ) (fs gs : List Field) → AreFields table x fs n → AreFields table y gs m → x ++ z ≡ y → 0 < length z → BeginsNoField n z → ⊥
no_list table n m x z y [] [] p q e some none = nothing_left x z some (e ∙ q.0)
no_list table n m x z y [] (g ∷ gs) p q e some none =
    none q.0 q.1 g q.2 (sym (ap (λ o. o ++ z) p.0) ∙ e ∙ q.3) (subst (λ t. Represents t q.0 g q.2) (sym p.1) q.4)
no_list table n m x z y (f ∷ fs) [] p q e some none =
    none_longer p.0 (p.1 ++ z) (field_some table p.2 p.0 f p.4) (sym q.0 ∙ sym e ∙ ap (λ o. o ++ z) p.3 ∙ append_assoc p.0 p.1 z)
no_list table n m x z y (f ∷ fs) (g ∷ gs) p q e some none =
    let whole : p.0 ++ (p.1 ++ z) ≡ q.0 ++ q.1 = sym (append_assoc p.0 p.1 z) ∙ sym (ap (λ o. o ++ z) p.3) ∙ e ∙ q.3 in
    let same = one_field table p.2 q.2 p.0 q.0 (p.1 ++ z) q.1 f g p.4 q.4 whole in
    let rest = cancel p.0 q.0 (p.1 ++ z) q.1 same.octets whole in
    no_list p.2 n m p.1 z q.1 fs gs p.5 (subst (λ t. AreFields t q.1 gs m) (sym same.table_same) q.5) rest some none

fields_or_maximum : (table n : Table) (x z b y : List ℕ) (fs : List Field) (maximum : ℕ) → AreFields table x fs n → IsNewMaximum b maximum → x ++ z ≡ b ++ y → (fs ≡ [] → BeginsNoMaximum z) → ⊥
fields_or_maximum table n x z b y [] maximum p m e none = none refl b y maximum (sym (ap (λ o. o ++ z) p.0) ∙ e) m
fields_or_maximum table n x z b y (f ∷ fs) maximum p m e none = maximum_apart table p.2 b y p.0 (p.1 ++ z) maximum f m p.4 (sym e ∙ ap (λ o. o ++ z) p.3 ∙ append_assoc p.0 p.1 z)

no_chain : (table s t n m : Table) (a b x y z is js : List ℕ) (fs gs : List Field) → AreMaxima table a is s → AreFields s x fs n → AreMaxima table b js t → AreFields t y gs m → a ++ (x ++ z) ≡ b ++ y
    → 0 < length z → BeginsNoField n z → (fs ≡ [] → BeginsNoMaximum z) → ⊥
no_chain table s t n m a b x y z [] [] fs gs p u q v e some none fresh =
    let whole : x ++ z ≡ y = sym (ap (λ o. o ++ (x ++ z)) p.0) ∙ e ∙ ap (λ o. o ++ y) q.0 in
    no_list s n m x z y fs gs u (subst (λ w. AreFields w y gs m) (q.1 ∙ sym p.1) v) whole some none
no_chain table s t n m a b x y z [] (j ∷ js) fs gs p u q v e some none fresh =
    fields_or_maximum s n x z q.0 (q.1 ++ y) fs j u q.3 (sym (ap (λ o. o ++ (x ++ z)) p.0) ∙ e ∙ ap (λ o. o ++ y) q.2 ∙ append_assoc q.0 q.1 y) fresh
no_chain table s t n m a b x y z (i ∷ is) [] fs gs p u q v e some none fresh =
    fields_apart t m p.0 (p.1 ++ (x ++ z)) y i gs p.3 v (sym (append_assoc p.0 p.1 (x ++ z)) ∙ sym (ap (λ o. o ++ (x ++ z)) p.2) ∙ e ∙ ap (λ o. o ++ y) q.0)
no_chain table s t n m a b x y z (i ∷ is) (j ∷ js) fs gs p u q v e some none fresh =
    let whole : p.0 ++ (p.1 ++ (x ++ z)) ≡ q.0 ++ (q.1 ++ y) = sym (append_assoc p.0 p.1 (x ++ z)) ∙ sym (ap (λ o. o ++ (x ++ z)) p.2) ∙ e ∙ ap (λ o. o ++ y) q.2 ∙ append_assoc q.0 q.1 y in
    let same = one_int 5 p.0 q.0 (p.1 ++ (x ++ z)) (q.1 ++ y) i j p.3.marked.int q.3.marked.int whole in
    let rest = cancel p.0 q.0 (p.1 ++ (x ++ z)) (q.1 ++ y) same.0 whole in
    no_chain (resized i table) s t n m p.1 q.1 x y z is js fs gs p.4 u (subst (λ k. AreMaxima (resized k table) q.1 js t) (sym same.1) q.4) v rest some none fresh

pub no_block : (table n : Table) (done z octets is : List ℕ) (fs : List Field) → IsBlock table done is fs n → octets ≡ done ++ z → 0 < length z → BeginsNoField n z → (fs ≡ [] → BeginsNoMaximum z) → NoBlock table octets
no_block table n done z octets is fs b e some none fresh = λ gs m other.
    let c = other.is_block in
    no_chain table b.between c.between n m b.front c.front b.rest c.rest z is other.maxima fs gs b.are_maxima b.are_fields c.are_maxima c.are_fields
    (sym (append_assoc b.front b.rest z) ∙ sym (ap (λ o. o ++ z) b.is) ∙ sym e ∙ c.is) some none fresh

-- what a first octet tells
pub no_field_at : (table : Table) (octets : List ℕ) → 32 ≤ get_or octets 0 0 → get_or octets 0 0 < 64 → BeginsNoField table octets
no_field_at table octets low high = λ front rest field next e r.
    let head = ap (λ (o : List ℕ). get_or o 0 0) e in
    elim (field_head table next front rest field r) [
      | inl i ↦ omega (arith, i, head)
      | inr (inl i) ↦ omega (arith, i, head)
      | inr (inr i) ↦ omega (arith, i, head)
    ]

pub no_maximum_at : (octets : List ℕ) → ((32 ≤ get_or octets 0 0) × (get_or octets 0 0 < 64) → ⊥) → BeginsNoMaximum octets
no_maximum_at octets never = λ front rest maximum e m.
    let head = ap (λ (o : List ℕ). get_or o 0 0) e in
    let mark = head_mark 5 1 front rest maximum m.marked in
    never (omega (arith, head, mark), omega (arith, head, mark))

pub no_maximum_int : (octets : List ℕ) → BeginsNoInt 5 octets → BeginsNoMaximum octets
no_maximum_int octets none = λ front rest maximum e m. none front rest maximum e m.marked.int

pub maximum_over : (octets : List ℕ) (maximum used : ℕ) → ReadsValue 5 octets maximum used → 4096 < maximum → BeginsNoMaximum octets
maximum_over octets maximum used p over = λ front rest other e m.
    let same = same_value 5 octets maximum used p front rest other m.marked.int e in
    omega (arith, same, over, m.in_range)

-- the place at which a block is read
pub get_drop : (octets : List ℕ) (start : ℕ) → get_or (drop start octets) 0 0 ≡ get_or octets start 0
get_drop [] zero = refl
get_drop [] (suc start) = refl
get_drop (x ∷ octets) zero = refl
get_drop (x ∷ octets) (suc start) = get_drop octets start

pub left_some : (octets : List ℕ) (start : ℕ) → start < length octets → 0 < length (drop start octets)
left_some octets start h = simp length-drop (omega arith)

-- a block whose maxima can't be read on
pub no_maxima_on : (first now : Table) (block : List ℕ) (start : ℕ) → TakesMaxima first block start now → start < length block → 32 ≤ get_or block start 0 → get_or block start 0 < 64
    → BeginsNoMaximum (take (length block - start) (drop start block)) → NoBlock first block
no_maxima_on first now block start p within low high none =
    let at = get_drop block start in
    let z : List ℕ = drop start block in
    no_block first now (take start block) z block p.maxima []
    (record { front = take start block; rest = []; between = now; is = sym (append-nil (take start block)); are_maxima = p.are_maxima; are_fields = (refl, refl) })
    (sym (take-append-drop start block)) (left_some block start within) (no_field_at now z (omega (arith, at)) (omega (arith, at)))
    (λ e. subst BeginsNoMaximum (take_rest block start) none)

pub maxima_end : (block : List ℕ) (start : ℕ) → (start < length block → (32 ≤ get_or block start 0) × (get_or block start 0 < 64) → ⊥) → start ≤ length block → BeginsNoMaximum (drop start block)
maxima_end block start never within = no_maximum_at (drop start block) (λ h. let at = get_drop block start in elim (cases_lt start (length block)) [
  | inl less ↦ never less (omega (arith, at, h.0), omega (arith, at, h.1))
  | inr past ↦ (let gone : get_or block start 0 ≡ 0 = get_or_past block start 0 past in omega (arith, at, gone, h.0))
])

pub unmarked_end : (block : List ℕ) (start : ℕ) → (start < length block → (32 ≤ get_or block start 0) × (get_or block start 0 < 64) → ⊥) → get_or (drop start block) 0 0 / 32 ≡ 1 → ⊥
unmarked_end block start never mark = let at = get_drop block start in elim (cases_lt start (length block)) [
  | inl less ↦ never less (omega (arith, at, mark), omega (arith, at, mark))
  | inr past ↦ (let gone : get_or block start 0 ≡ 0 = get_or_past block start 0 past in omega (arith, at, gone, mark))
]

-- a block whose fields can't be read on
pub no_fields_on : (first now : Table) (block : List ℕ) (start cap : ℕ) (kept : List Field) (room : Option ℕ) (g : GathersFrom first (take start block) cap kept room now) → start < length block
    → BeginsNoField now (take (length block - start) (drop start block)) → (g.all ≡ [] → BeginsNoMaximum (drop start block)) → NoBlock first block
no_fields_on first now block start cap kept room g within none fresh =
    no_block first now (take start block) (drop start block) block g.maxima g.all g.is_block (sym (take-append-drop start block)) (left_some block start within)
    (subst (BeginsNoField now) (take_rest block start) none) fresh

pub late_on : (first now : Table) (block : List ℕ) (start cap : ℕ) (kept : List Field) (room : Option ℕ) (g : GathersFrom first (take start block) cap kept room now) → start < length block
    → 32 ≤ get_or block start 0 → get_or block start 0 < 64 → (g.all ≡ [] → BeginsNoMaximum (drop start block)) → NoBlock first block
late_on first now block start cap kept room g within low high fresh =
    let at = get_drop block start in
    no_block first now (take start block) (drop start block) block g.maxima g.all g.is_block (sym (take-append-drop start block)) (left_some block start within)
    (no_field_at now (drop start block) (omega (arith, at)) (omega (arith, at))) fresh

-- what the loop over fields keeps
pub record Decoding (first : Table) (block : List ℕ) (start cap : ℕ) (kept : List Field) (room : Option ℕ) (now : Table) : Type 0 where
  pub within : start ≤ length block
  pub gathers : GathersFrom first (take start block) cap kept room now
  pub fresh : gathers.all ≡ [] → BeginsNoMaximum (drop start block)
  pub unmarked : gathers.all ≡ [] → get_or (drop start block) 0 0 / 32 ≡ 1 → ⊥

pub decoding_start : (first now : Table) (block : List ℕ) (start cap : ℕ) (kept : List Field) (room : Option ℕ) → TakesMaxima first block start now → BeginsNoMaximum (drop start block) → (get_or (drop start block) 0 0 / 32 ≡ 1 → ⊥) → Holds cap [] kept room
    → Decoding first block start cap kept room now
decoding_start first now block start cap kept room p ends unmarked h = record { within = p.within; gathers = gathers_start first now block start cap kept room p h; fresh = λ e. ends; unmarked = λ e. unmarked }

last_of : (all : List Field) (field : Field) → all ++ field ∷ [] ≡ [] → ⊥
last_of [] field e = cc
last_of (f ∷ all) field e = cc

pub decoding_field : (first now next : Table) (block : List ℕ) (start cap : ℕ) (taken : TakenField) (kept more : List Field) (room rest : Option ℕ) → Decoding first block start cap kept room now
    → TakesField now (take (length block - start) (drop start block)) taken → Settles taken now next kept room more rest → Decoding first block (start + taken.used) cap more rest next
decoding_field first now next block start cap taken kept more room rest d t s =
    let fits = within_rest block start taken.used t.within in
    let within = d.within in
    record {
      within = omega (arith, fits, within);
      gathers = gathers_field first now next block start cap taken kept more room rest d.gathers t s;
      fresh = λ e. absurd (last_of d.gathers.all taken.field e);
      unmarked = λ e. absurd (last_of d.gathers.all taken.field e);
    }

pub is_none_at : (room : Option ℕ) → is_some room ≡ false → room ≡ None
is_none_at None e = refl
is_none_at (Some r) e = cc

-- an indexed field that isn't kept, since those before passed the maximum
pub decoding_skipped : (first now : Table) (block : List ℕ) (start cap used : ℕ) (kept : List Field) (room : Option ℕ) → Decoding first block start cap kept room now
    → SkipsField now (take (length block - start) (drop start block)) used → room ≡ None → Decoding first block (start + used) cap kept room now
decoding_skipped first now block start cap used kept room d s none =
    let taken : TakenField = record { field = s.field; used = used; inserts = false } in
    decoding_field first now now block start cap taken kept kept room room d (record { some = s.some; within = s.within; is_field = s.is_field }) (record { table = refl; gathered = stays_over s.field kept room none })
