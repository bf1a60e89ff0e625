-- What the first octets spell, whatever the table is.
use Rattle.std.proofs.Common.{◌≡◌, ℕ, ◌+◌, ◌-◌, ◌/◌, ◌^◌, ◌<◌, ◌≤◌, List, ◌++◌, length, take, drop, get_or, ap, sym, ◌∙◌, subst, inl, inr, arith, length-take, length-drop}
use Rattle.std.proofs.lemmas.List.{get_or-take, take_rest, length-take-le}
use Rattle.std.proofs.Math.Seq.{take-add}
use Rattle.model.specs.Integers.{IsInt, IsMarkedInt}
use Rattle.hpack_int.specs.Reading.{ReadsValue}
use Rattle.header_blocks.specs.Gathering.{ReadsString}

-- a text of an integer has a first octet
int_some : (prefix : ℕ) (octets : List ℕ) (value : ℕ) → IsInt prefix octets value → 0 < length octets
int_some prefix octets value (inl s) = omega (arith, ap length s.is)
int_some prefix octets value (inr s) = omega (arith, ap length s.is)

module _ (prefix : ℕ) (octets : List ℕ) (value used : ℕ) (p : ReadsValue prefix octets value used) where
  pub some : 0 < used
  some = let n : 0 < length (take used octets) = int_some prefix (take used octets) value p.text in omega (arith, simp length-take at n)

  -- its mark is that of the first octet
  pub marked : IsMarkedInt prefix (get_or octets 0 0 / 2 ^ prefix) (take used octets) value
  marked = let h = some in record { int = p.text; marked = ap (λ o. o / 2 ^ prefix) (get_or-take used octets 0 0 h) }

pub raw_string : (octets : List ℕ) (number start : ℕ) (string : List ℕ) → ReadsValue 7 octets number start → get_or octets 0 0 < 128
    → number ≤ length octets - start → string ≡ take number (take (length octets - start) (drop start octets)) → ReadsString octets string (start + number)
raw_string octets number start string p low fits is =
    let within = p.within in
    let tail : string ≡ take number (drop start octets) = is ∙ ap (take number) (take_rest octets start) in
    let room : number ≤ length (drop start octets) = simp length-drop (omega arith) in
    let long : length string ≡ number = ap length tail ∙ length-take-le number (drop start octets) room in
    record {
      within = omega (arith, within);
      is_string = record {
        header = take start octets;
        is = take-add start number octets ∙ ap (λ t. take start octets ++ t) (sym tail);
        number =
            let mark : get_or octets 0 0 / 2 ^ 7 ≡ 0 = omega arith in
            subst (λ n. IsMarkedInt 7 0 (take start octets) n) (sym long) (subst (λ m. IsMarkedInt 7 m (take start octets) number) mark (marked 7 octets number start p));
      };
    }
