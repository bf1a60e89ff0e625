-- Worked examples of the definitions of HPACK, from RFC 7541 and its appendices.
use Rattle.std.proofs.Common.{◌≡◌, ℕ, ◌≤◌, List, [], ◌∷◌, length, Some, None, refl, arith}
use Rattle.std.proofs.lemmas.List.Elements.{All-cons, All-nil}
use Rattle.std.specs.Prelude.{codes}
use Rattle.model.specs.Huffman.{huffman_code, bits, rows, row_codes, codes_from}
use Rattle.model.specs.Maxima.{Maxima}
use Rattle.model.proofs.MaximaLaws.{one_maxima}
use Rattle.model.specs.Tables.{static_table, look_up, first_table, field_of, added, keep}

entries : length static_table ≡ 61
unfolding static_table
entries = refl

get : look_up first_table 2 ≡ Some (field_of (codes ":method") (codes "GET"))
unfolding static_table
get = refl

last : look_up first_table 61 ≡ Some (field_of (codes "www-authenticate") [])
unfolding static_table
last = refl

past : look_up first_table 62 ≡ None
unfolding static_table
past = refl

newest : look_up (added (field_of (codes "a") (codes "b")) first_table) 62 ≡ Some (field_of (codes "a") (codes "b"))
unfolding static_table keep
newest = refl

symbols : length huffman_code ≡ 257
unfolding huffman_code codes_from row_codes rows bits
symbols = refl

-- a limit that fell and rose is announced by both; neither alone, nor nothing, is enough
fell_and_rose : Maxima 4096 (0 ∷ 4096 ∷ []) (0 ∷ 4096 ∷ [])
fell_and_rose = record {
  least = 0;
  last = 4096;
  is_least = record { named = (0, omega arith, refl); below = λ k d h. omega arith };
  is_last = record { before = 0 ∷ []; is = refl };
  is = refl;
}

not_the_last_alone : Maxima 4096 (0 ∷ 4096 ∷ []) [] → ⊥
not_the_last_alone p = let same : ◌≡◌ {A = List ℕ} [] (0 ∷ 4096 ∷ []) = one_maxima 4096 (0 ∷ 4096 ∷ []) [] (0 ∷ 4096 ∷ []) p fell_and_rose in cc

-- a limit over the first maximum changes nothing
not_above : Maxima 4096 (65536 ∷ []) []
not_above = record {
  least = 4096;
  last = 4096;
  is_least = record { named = (0, omega arith, refl); below = All-cons (λ n. 4096 ≤ n) 4096 [] (omega arith) (All-nil (λ n. 4096 ≤ n)) };
  is_last = record { before = []; is = refl };
  is = refl;
}
