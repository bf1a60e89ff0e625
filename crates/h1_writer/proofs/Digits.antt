-- Digits as they are written.
use Rattle.std.proofs.Common.{◌≡◌, ℕ, ◌+◌, ◌/◌, ◌%◌, ◌^◌, ◌<◌, ◌≤◌, List, [], ◌∷◌, ◌++◌, map, length, decimal, sym, ap, ◌∙◌, append_assoc, length-append, arith}
use Rattle.std.specs.Int.Digits.{digits_of}
use Rattle.std.proofs.lemmas.List.{map-append}
use Rattle.std.proofs.lemmas.Int.Digits.{digits_of_step}
use Rattle.std.proofs.lemmas.Fmt.{decimal_step}
use Rattle.model.specs.Http1Text.{hex_digit, hex_size}

-- one digit more at the end
pub hex_more : (old : List ℕ) (n : ℕ) → 0 < n → (old ++ hex_size (n / 16)) ++ hex_digit (n % 16) ∷ [] ≡ old ++ hex_size n
hex_more old n some =
    append_assoc old (hex_size (n / 16)) (hex_digit (n % 16) ∷ [])
    ∙ ap (λ (digits : List ℕ). old ++ digits) (sym (ap (map hex_digit) (digits_of_step 16 n (omega arith) some) ∙ map-append hex_digit (digits_of 16 (n / 16)) (n % 16 ∷ [])))

-- and so its text is longer by one
pub hex_longer : (n : ℕ) → 0 < n → length (hex_size n) ≡ length (hex_size (n / 16)) + 1
hex_longer n some = sym (ap length (hex_more [] n some)) ∙ length-append (hex_size (n / 16)) (hex_digit (n % 16) ∷ [])

pub decimal_more : (old : List ℕ) (n : ℕ) → 10 ≤ n → n < 2 ^ 64 → (old ++ decimal (n / 10)) ++ (48 + n % 10) ∷ [] ≡ old ++ decimal n
decimal_more old n some fits =
    append_assoc old (decimal (n / 10)) ((48 + n % 10) ∷ []) ∙ ap (λ (digits : List ℕ). old ++ digits) (sym (decimal_step n some fits))
