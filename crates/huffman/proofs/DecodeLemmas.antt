-- Codes are taken off bits.
use Rattle.std.proofs.Common.{◌≡◌, ℕ, ◌+◌, ◌-◌, ◌/◌, ◌%◌, ◌^◌, ◌*◌, ◌<◌, ◌≤◌, Bool, true, false, nat_eq, nat_le, List, [], ◌∷◌, ◌++◌, length, take, drop, get_or, refl, ap, sym, ◌∙◌, subst, arith, append_assoc, length-drop, eqb-true, eq-eqb}
use Rattle.std.specs.Bool.{OnTrue, OnFalse}
use Rattle.std.proofs.Math.Nat.{div-div-eq-div-mul}
use Rattle.std.proofs.lemmas.Grind.{flat_map-append}
use Rattle.std.proofs.lemmas.List.{append-nil, take_rest}
use Rattle.std.proofs.lemmas.Nat.{pow-add}
use Rattle.model.specs.Huffman.{bits, octet_bits, IsCode, AreCodes}
use Rattle.model.proofs.HuffmanLemmas.{one_code}
use Rattle.huffman.specs.Decoding.{EndsString, IsBadlyPadded, IsPadding, Decodes, IsFaultOf, Adds}
use Rattle.huffman.specs.Fronts.{IsFront, IsUnended}
use Rattle.huffman.specs.Taking.{Joins, Stops, Takes}
use Rattle.huffman.specs.Upcoming.{IsAligned, upcoming_bits}
use Rattle.huffman.specs.declared.decoder.HuffFault.{HuffFault}
use Rattle.huffman.specs.declared.decoder.HuffFault.TheVariants.{Eos, Padding, Memory}
use Rattle.huffman.specs.declared.upcoming.Upcoming.{Upcoming}
use Rattle.huffman.proofs.BitLemmas.{all_ones, ones, one_shifted}
use Rattle.huffman.specs.declared.codes.Symbol.TheVariants.{Octet}
use Rattle.huffman.proofs.TableLemmas.{short_front}
use Rattle.huffman.proofs.UpcomingLemmas.{is_raised, low_below, low_number}
use Rattle.huffman.proofs.WindowLemmas.{unended}

pub codes_more : (coded string code : List ℕ) (octet : ℕ) → AreCodes coded string → octet < 256 → IsCode octet code → AreCodes (coded ++ code) (string ++ octet ∷ [])
codes_more coded [] code octet p small is_code = (code, [], small, is_code, ap (λ c. c ++ code) p ∙ sym (append-nil code), refl)
codes_more coded (first ∷ string) code octet p small is_code =
    (p.0, p.1 ++ code, p.2, p.3, ap (λ c. c ++ code) p.4 ∙ append_assoc p.0 p.1 code, codes_more p.1 string code octet p.5 small is_code)

codes_append : (coded more string others : List ℕ) → AreCodes coded string → AreCodes more others → AreCodes (coded ++ more) (string ++ others)
codes_append coded more [] others p q = subst (λ c. AreCodes (c ++ more) others) (sym p) q
codes_append coded more (first ∷ string) others p q =
    (p.0, p.1 ++ more, p.2, p.3, ap (λ c. c ++ more) p.4 ∙ append_assoc p.0 p.1 more, codes_append p.1 more string others p.5 q)

pub takes_none : (all : Upcoming) (old : List ℕ) → IsAligned all → Takes all all old old
takes_none all old aligned = record { string = []; coded = []; added = sym (append-nil old); are_codes = refl; is = refl; aligned = aligned }

pub takes_more : (all rest next : Upcoming) (octet width : ℕ) (old mid new : List ℕ) → Takes all rest old mid → octet < 256 → IsCode octet (bits width (rest.number / 2 ^ (64 - width)))
    → upcoming_bits rest ≡ bits width (rest.number / 2 ^ (64 - width)) ++ upcoming_bits next → IsAligned next → new ≡ mid ++ octet ∷ [] → Takes all next old new
takes_more all rest next octet width old mid new t small is_code split aligned grows =
    let code : List ℕ = bits width (rest.number / 2 ^ (64 - width)) in
    record {
      string = t.string ++ octet ∷ [];
      coded = t.coded ++ code;
      added = grows ∙ ap (λ m. m ++ octet ∷ []) t.added ∙ append_assoc old t.string (octet ∷ []);
      are_codes = codes_more t.coded t.string code octet t.are_codes small is_code;
      is = t.is ∙ ap (λ b. t.coded ++ b) split ∙ sym (append_assoc t.coded code (upcoming_bits next));
      aligned = aligned;
    }

pub stops_at_memory : (all rest : Upcoming) (old mid : List ℕ) → Takes all rest old mid → Stops all old mid Memory
stops_at_memory all rest old mid t = record { string = t.string; added = t.added; stands = tt }

-- the code of the end stands behind codes of octets
end_here : (coded string code more all : List ℕ) → AreCodes coded string → IsCode 256 code → all ≡ coded ++ (code ++ more) → EndsString all
end_here coded string code more all are_codes is_code is = record {
  string = string;
  rest = code ++ more;
  run = record {
    coded = coded;
    are_codes = are_codes;
    is = is;
    ends = λ octet small b.
        let same = one_code octet 256 b.code code b.more more b.is_code is_code (sym b.is) in
        omega (arith, same.0);
  };
  eos = record { code = code; more = more; is_code = is_code; is = refl };
}

end_within : (before given ended later all : List ℕ) → AreCodes before given → EndsString ended → all ≡ before ++ (ended ++ later) → EndsString all
end_within before given ended later all are_codes e is =
    let coded : List ℕ = e.run.coded in
    let code : List ℕ = e.eos.code in
    let more : List ℕ = e.eos.more in
    let front : ended ++ later ≡ coded ++ (code ++ (more ++ later)) =
    ap (λ b. b ++ later) e.run.is ∙ append_assoc coded e.rest later ∙ ap (λ r. coded ++ (r ++ later)) e.eos.is ∙ ap (λ r. coded ++ r) (append_assoc code more later) in
    end_here (before ++ coded) (given ++ e.string) code (more ++ later) all (codes_append before coded given e.string are_codes e.run.are_codes) e.eos.is_code
    (is ∙ ap (λ b. before ++ b) front ∙ sym (append_assoc before coded (code ++ (more ++ later))))

pub stops_at_end : (all rest : Upcoming) (width : ℕ) (more old mid : List ℕ) → Takes all rest old mid → IsCode 256 (bits width (rest.number / 2 ^ (64 - width)))
    → upcoming_bits rest ≡ bits width (rest.number / 2 ^ (64 - width)) ++ more → Stops all old mid Eos
stops_at_end all rest width more old mid t is_code split =
    let code : List ℕ = bits width (rest.number / 2 ^ (64 - width)) in
    record { string = t.string; added = t.added; stands = end_here t.coded t.string code more (upcoming_bits all) t.are_codes is_code (t.is ∙ ap (λ b. t.coded ++ b) split) }

-- what the loop of the octets keeps
pub record Reading (octets : List ℕ) (coming : Upcoming) (old new : List ℕ) : Type 0 where
  pub string : List ℕ
  pub coded : List ℕ
  pub added : new ≡ old ++ string
  pub are_codes : AreCodes coded string
  pub is : octet_bits octets ≡ coded ++ upcoming_bits coming
  pub aligned : IsAligned coming

pub reading_none : (coming : Upcoming) (old : List ℕ) → coming.number ≡ 0 → coming.width ≡ 0 → Reading [] coming old old
unfolding bits
reading_none coming old no_number no_width =
    let aligned = (is_raised coming 0 0 (omega arith) (omega arith) no_number no_width).1 in
    record { string = []; coded = []; added = sym (append-nil old); are_codes = refl; is = sym (ap (λ w. bits w (low_number coming)) no_width); aligned = aligned }

pub reading_takes : (octets : List ℕ) (coming rest : Upcoming) (old mid new : List ℕ) → Reading octets coming old mid → Takes coming rest mid new → Reading octets rest old new
reading_takes octets coming rest old mid new r t = record {
  string = r.string ++ t.string;
  coded = r.coded ++ t.coded;
  added = t.added ∙ ap (λ m. m ++ t.string) r.added ∙ append_assoc old r.string t.string;
  are_codes = codes_append r.coded t.coded r.string t.string r.are_codes t.are_codes;
  is = r.is ∙ ap (λ b. r.coded ++ b) t.is ∙ sym (append_assoc r.coded t.coded (upcoming_bits rest));
  aligned = t.aligned;
}

-- the first octets, and the others
split_one : (octets : List ℕ) → 1 ≤ length octets → octets ≡ (get_or octets 0 0 ∷ []) ++ drop 1 octets
split_one [] some = absurd (omega arith)
split_one (octet ∷ more) some = refl

split_four : (octets : List ℕ) → 4 ≤ length octets → octets ≡ (get_or octets 0 0 ∷ get_or octets 1 0 ∷ get_or octets 2 0 ∷ get_or octets 3 0 ∷ []) ++ drop 4 octets
split_four [] some = absurd (omega arith)
split_four (a ∷ []) some = absurd (omega arith)
split_four (a ∷ b ∷ []) some = absurd (omega arith)
split_four (a ∷ b ∷ c ∷ []) some = absurd (omega arith)
split_four (a ∷ b ∷ c ∷ d ∷ more) some = refl

joins_front : (count : ℕ) (coming all : Upcoming) (octets taken : List ℕ) → 0 < count → count ≤ length octets → octets ≡ taken ++ drop count octets → IsAligned all → upcoming_bits all ≡ upcoming_bits coming ++ octet_bits taken
    → Joins coming octets all (take (length octets - count) (drop count octets))
joins_front count coming all octets taken some few split aligned is =
    let rest : take (length octets - count) (drop count octets) ≡ drop count octets = take_rest octets count in
    let shorter : length (take (length octets - count) (drop count octets)) ≡ length octets - count = ap length rest ∙ length-drop count octets in
    record { taken = taken; some = omega (arith, shorter); split = split ∙ ap (λ more. taken ++ more) (sym rest); bits = is; aligned = aligned }

pub joins_one : (coming all : Upcoming) (octets : List ℕ) → 1 ≤ length octets → IsAligned all → upcoming_bits all ≡ upcoming_bits coming ++ bits 8 (get_or octets 0 0)
    → Joins coming octets all (take (length octets - 1) (drop 1 octets))
joins_one coming all octets some aligned is =
    joins_front 1 coming all octets (get_or octets 0 0 ∷ []) (omega arith) some (split_one octets some) aligned (is ∙ ap (λ b. upcoming_bits coming ++ b) (sym (append-nil (bits 8 (get_or octets 0 0)))))

pub joins_four : (coming all : Upcoming) (octets : List ℕ) → 4 ≤ length octets → IsAligned all
    → upcoming_bits all ≡ upcoming_bits coming ++ octet_bits (get_or octets 0 0 ∷ get_or octets 1 0 ∷ get_or octets 2 0 ∷ get_or octets 3 0 ∷ []) → Joins coming octets all (take (length octets - 4) (drop 4 octets))
joins_four coming all octets some aligned is =
    joins_front 4 coming all octets (get_or octets 0 0 ∷ get_or octets 1 0 ∷ get_or octets 2 0 ∷ get_or octets 3 0 ∷ []) (omega arith) some (split_four octets some) aligned is

-- The octets before the rest are read, and their bits that wait begin no code.
pub record ReadingOn (octets left : List ℕ) (coming : Upcoming) (old new : List ℕ) : Type 0 where
  pub front : List ℕ
  pub split : octets ≡ front ++ left
  pub reading : Reading front coming old new
  pub unended : IsUnended coming

zero_front : (number : ℕ) → number ≡ 0 → IsFront 38 (number / 2 ^ 26) (record { symbol = Octet 48; width = 5 })
zero_front number none = subst (λ w. IsFront 38 w (record { symbol = Octet 48; width = 5 })) (sym (ap (λ n. n / 2 ^ 26) none)) (short_front 0 48 5 refl)

pub reading_begins : (octets : List ℕ) (coming : Upcoming) (old : List ℕ) → coming.number ≡ 0 → coming.width ≡ 0 → ReadingOn octets octets coming old old
reading_begins octets coming old no_number no_width =
    let none = reading_none coming old no_number no_width in
    record {
      front = [];
      split = refl;
      reading = none;
      unended = unended coming (record { symbol = Octet 48; width = 5 }) none.aligned (omega arith) (zero_front coming.number no_number);
    }

reading_joins : (front octets more old new : List ℕ) (coming all : Upcoming) → Reading front coming old new → (j : Joins coming octets all more) → Reading (front ++ j.taken) all old new
reading_joins front octets more old new coming all r j = record {
  string = r.string;
  coded = r.coded;
  added = r.added;
  are_codes = r.are_codes;
  is = flat_map-append (bits 8) front j.taken ∙ ap (λ b. b ++ octet_bits j.taken) r.is ∙ append_assoc r.coded (upcoming_bits coming) (octet_bits j.taken) ∙ ap (λ b. r.coded ++ b) (sym j.bits);
  aligned = j.aligned;
}

joined_split : (octets front left taken more : List ℕ) → octets ≡ front ++ left → left ≡ taken ++ more → octets ≡ (front ++ taken) ++ more
joined_split octets front left taken more e f = e ∙ ap (λ l. front ++ l) f ∙ sym (append_assoc front taken more)

pub reading_goes_on : (octets left more old mid new : List ℕ) (coming all rest : Upcoming) → ReadingOn octets left coming old mid → Joins coming left all more → Takes all rest mid new → IsUnended rest
    → ReadingOn octets more rest old new
reading_goes_on octets left more old mid new coming all rest r j t u = record {
  front = r.front ++ j.taken;
  split = joined_split octets r.front left j.taken more r.split j.split;
  reading = reading_takes (r.front ++ j.taken) all rest old mid new (reading_joins r.front left more old mid coming all r.reading j) t;
  unended = u;
}

pub reading_stops : (octets left more old mid new : List ℕ) (coming all : Upcoming) (fault : HuffFault) → ReadingOn octets left coming old mid → Joins coming left all more → Stops all mid new fault → IsFaultOf octets fault
reading_stops octets left more old mid new coming all Eos r j t =
    let front : List ℕ = r.front ++ j.taken in
    let read : Reading front all old mid = reading_joins r.front left more old mid coming all r.reading j in
    let later : List ℕ = octet_bits more in
    let whole : octet_bits octets ≡ read.coded ++ (upcoming_bits all ++ later) =
    ap octet_bits (joined_split octets r.front left j.taken more r.split j.split) ∙ flat_map-append (bits 8) front more ∙ ap (λ b. b ++ later) read.is ∙ append_assoc read.coded (upcoming_bits all) later in
    end_within read.coded read.string (upcoming_bits all) later (octet_bits octets) read.are_codes t.stands whole
reading_stops octets left more old mid new coming all Padding r j t = absurd t.stands
reading_stops octets left more old mid new coming all Memory r j t = tt

pub reading_adds : (octets left old mid new : List ℕ) (coming all : Upcoming) (fault : HuffFault) → ReadingOn octets left coming old mid → Stops all mid new fault → Adds old new
reading_adds octets left old mid new coming all fault r t =
    record { string = r.reading.string ++ t.string; added = t.added ∙ ap (λ m. m ++ t.string) r.reading.added ∙ append_assoc old r.reading.string t.string }

pub all_read : (octets left : List ℕ) (coming : Upcoming) (old new : List ℕ) → ReadingOn octets left coming old new → left ≡ [] → Reading octets coming old new
all_read octets left coming old new r e = subst (λ o. Reading o coming old new) (sym (r.split ∙ ap (λ l. r.front ++ l) e ∙ append-nil r.front)) r.reading

pub reading_ends : (octets : List ℕ) (coming : Upcoming) (old new : List ℕ) → Reading octets coming old new → Adds old new
reading_ends octets coming old new r = record { string = r.string; added = r.added }

pub padded : (octets : List ℕ) (rest : Upcoming) (old new : List ℕ) → Reading octets rest old new → IsPadding (upcoming_bits rest) → Decodes octets old new
padded octets rest old new r p = record {
  string = r.string;
  added = r.added;
  text = record { coded = r.coded; padding = p.padding; are_codes = r.are_codes; is_short = p.is_short; is = r.is ∙ ap (λ b. r.coded ++ b) p.is };
}

pub badly_padded : (octets : List ℕ) (rest : Upcoming) (old new : List ℕ) → Reading octets rest old new → IsUnended rest → (IsPadding (upcoming_bits rest) → ⊥) → IsBadlyPadded (octet_bits octets)
badly_padded octets rest old new r unended apart = record {
  string = r.string;
  rest = upcoming_bits rest;
  run = record { coded = r.coded; are_codes = r.are_codes; is = r.is; ends = λ octet small b. unended.none octet b };
  no_eos = λ b. unended.none 256 b;
  no_padding = apart;
}

-- whether bits are padding, as the code asks it
is_full : (width number : ℕ) → number < 2 ^ width → IsPadding (bits width number) → (width < 8) × (number + 1 ≡ 2 ^ width)
is_full width number below p =
    let full = all_ones width number p.padding below p.is in
    let short = p.is_short in
    (omega (arith, full.0, short), full.1)

brought_down : (rest : Upcoming) → rest.width < 8 → rest.number / 2 ^ 1 / 2 ^ (63 - rest.width) ≡ low_number rest
brought_down rest few =
    let whole : 1 + (63 - rest.width) ≡ 64 - rest.width = omega (arith, few) in
    div-div-eq-div-mul rest.number (2 ^ 1) (2 ^ (63 - rest.width)) ∙ ap (λ p. rest.number / p) (sym (pow-add 2 1 (63 - rest.width)) ∙ ap (λ e. 2 ^ e) whole)

pub padding_yes : (rest : Upcoming) → rest.width < 8 → OnTrue (nat_eq (rest.number / 2 ^ 1 / 2 ^ (63 - rest.width)) (1 * 2 ^ rest.width % 18446744073709551616 - 1)) (IsPadding (upcoming_bits rest))
padding_yes rest few = tested (nat_eq (rest.number / 2 ^ 1 / 2 ^ (63 - rest.width)) (1 * 2 ^ rest.width % 18446744073709551616 - 1)) refl
  where
    tested : (b : Bool) → nat_eq (rest.number / 2 ^ 1 / 2 ^ (63 - rest.width)) (1 * 2 ^ rest.width % 18446744073709551616 - 1) ≡ b → OnTrue b (IsPadding (upcoming_bits rest))
    tested true e =
        let full : low_number rest ≡ 2 ^ rest.width - 1 =
        sym (brought_down rest few) ∙ eqb-true (rest.number / 2 ^ 1 / 2 ^ (63 - rest.width)) (1 * 2 ^ rest.width % 18446744073709551616 - 1) e ∙ ap (λ p. p - 1) (one_shifted rest.width (omega arith)) in
        record { padding = rest.width; is_short = few; is = ap (bits rest.width) full ∙ ones rest.width (omega arith) }
    tested false e = tt

pub padding_no : (rest : Upcoming) → IsAligned rest → rest.width < 8
    → OnFalse (nat_eq (rest.number / 2 ^ 1 / 2 ^ (63 - rest.width)) (1 * 2 ^ rest.width % 18446744073709551616 - 1)) (IsPadding (upcoming_bits rest) → ⊥)
padding_no rest aligned few = tested (nat_eq (rest.number / 2 ^ 1 / 2 ^ (63 - rest.width)) (1 * 2 ^ rest.width % 18446744073709551616 - 1)) refl
  where
    tested : (b : Bool) → nat_eq (rest.number / 2 ^ 1 / 2 ^ (63 - rest.width)) (1 * 2 ^ rest.width % 18446744073709551616 - 1) ≡ b → OnFalse b (IsPadding (upcoming_bits rest) → ⊥)
    tested true e = tt
    tested false e = λ p.
        let full = is_full rest.width (low_number rest) (low_below rest aligned) p in
        let power : 1 * 2 ^ rest.width % 18446744073709551616 ≡ 2 ^ rest.width = one_shifted rest.width (omega arith) in
        let same : rest.number / 2 ^ 1 / 2 ^ (63 - rest.width) ≡ 1 * 2 ^ rest.width % 18446744073709551616 - 1 = brought_down rest few ∙ omega (arith, full.1, power) in
        let yes : nat_eq (rest.number / 2 ^ 1 / 2 ^ (63 - rest.width)) (1 * 2 ^ rest.width % 18446744073709551616 - 1) ≡ true = eq-eqb (rest.number / 2 ^ 1 / 2 ^ (63 - rest.width)) (1 * 2 ^ rest.width % 18446744073709551616 - 1) same in
        cc

pub no_padding : (rest : Upcoming) → IsAligned rest → 8 ≤ rest.width → OnFalse (nat_le rest.width 7) (IsPadding (upcoming_bits rest) → ⊥)
no_padding rest aligned many = tested (nat_le rest.width 7)
  where
    tested : (b : Bool) → OnFalse b (IsPadding (upcoming_bits rest) → ⊥)
    tested true = tt
    tested false = λ p. let full = is_full rest.width (low_number rest) (low_below rest aligned) p in omega (arith, full.0)
