-- Words of a line.
use Rattle.std.proofs.Common.{◌≡◌, ◌≢◌, ◌≤◌, ◌<◌, ◌+◌, ◌*◌, ◌-◌, ℕ, List, [], ◌∷◌, ◌++◌, length, take, drop, get_or, All, false, ◌==◌, refl, sym, ap, ◌∙◌, subst, arith, Result, Ok, Err, IfErr, eq-eqb, length-take, length-append}
use Rattle.std.proofs.lemmas.Int.Digits.{digits_more, digits_value_more}
use Rattle.std.proofs.lemmas.Str.{digit_value_digit}
use Rattle.std.proofs.lemmas.Str.Parse.{digit_at, digits_value_short, numerals_by_value, tells_digits}
use Rattle.std.proofs.lemmas.Grind.{get_or_default_zero}
use Rattle.std.proofs.lemmas.Bool.{ne_eqb}
use Rattle.std.proofs.lemmas.List.{append_cancel_left}
use Rattle.std.proofs.Math.Seq.{take-length, get_or-append_seam}
use Rattle.std.proofs.lemmas.List.Splits.{slice_split_at}
use Rattle.std.specs.List.{slice_split}
use Rattle.std.specs.Char.{digit_value, IsNotAsciiDigit}
use Rattle.std.specs.Str.Parse.{AllDigits, digits_value}
use Rattle.replay.specs.declared.lines.LineFault.{LineFault}
use Rattle.replay.specs.declared.lines.LineFault.TheVariants.{NotALine, Memory}
use Rattle.replay.specs.Scripts.{IsNumber, IsHex, AreNumberAndHex, AreTwoNumbers, SaysNothing}
use Rattle.model.specs.Logs.Event.{Client, ClientEnd, ClientTook, Up, UpEnd, UpFailed, UpTook, Drain}
use Rattle.replay.specs.Faults.{IsSeparated, IsNoNumber, AreNotTwoNumbers, RefusesHex, RefusesNumberAndHex, Refuses}

-- the first so many octets are digits, and this is their number
pub record Counted (word : List ℕ) (count number : ℕ) : Type 0 where
  pub digits : AllDigits 10 (take count word)
  pub value : number ≡ digits_value 10 (take count word)

-- one digit more
pub counted_more : (word : List ℕ) (i number : ℕ) → i < length word → (48 ≤ get_or word i 0) × (get_or word i 0 ≤ 57) → Counted word i number
    → Counted word (i + 1) (number * 10 + (get_or word i 0 - 48))
counted_more word i number inside digit so_far =
    let value : digit_value (get_or word i 0) + 48 ≡ get_or word i 0 = digit_value_digit (get_or word i 0) digit in
    record {
      digits = digits_more 10 word i inside so_far.digits (omega arith);
      value = omega (arith, digits_value_more 10 word i inside, so_far.value);
    }

-- eight digits write a number that has room for one more
pub counted_small : (word : List ℕ) (i number : ℕ) → i < length word → length word ≤ 9 → Counted word i number → number < 100000000
counted_small word i number inside short so_far =
    let size : length (take i word) ≤ 8 = simp length-take (omega arith) in
    omega (arith, so_far.value, digits_value_short (numerals_by_value _ tells_digits) (take i word) 8 so_far.digits size)

-- a word with an octet that is no digit is no number
pub not_a_number : (word : List ℕ) (i : ℕ) → i < length word → IsNotAsciiDigit (get_or word i 0) → (number : ℕ) → IsNumber word number → ⊥
not_a_number word i inside out number is =
    let digit = digit_at word i is.digits inside in
    grind arith

-- all octets of a text were counted
pub counted_all : (word : List ℕ) (number : ℕ) → 1 ≤ length word → length word ≤ 9 → Counted word (length word) number → IsNumber word number
counted_all word number some short so_far =
    let whole : take (length word) word ≡ word = take-length word in
    record {
      some = some;
      at_most = short;
      digits = subst (AllDigits 10) whole so_far.digits;
      value = so_far.value ∙ ap (digits_value 10) whole;
    }

-- a number has no space
pub no_space : (word : List ℕ) (number : ℕ) → IsNumber word number → All (λ octet. octet ≢ 32) word
no_space word number is k d inside space =
    omega (arith, digit_at word k is.digits inside, get_or_default_zero word k d inside)

-- what holds of all others, as a test
pub lacks : (octet : ℕ) (text : List ℕ) → All (λ other. other ≢ octet) text → All (λ other. (other == octet) ≡ false) text
lacks octet text without k d inside = ne_eqb _ octet (without k d inside)

-- the first such octet stands in one place
pub one_place : (octet : ℕ) (a b p q : List ℕ) → All (λ other. other ≢ octet) a → All (λ other. other ≢ octet) p → a ++ octet ∷ b ≡ p ++ octet ∷ q → (a ≡ p) × (b ≡ q)
one_place octet a b p q without_a without_p e =
    let cut_a = slice_split_at (λ other. other == octet) a octet b (lacks octet a without_a) (eq-eqb octet octet refl) in
    let cut_p = slice_split_at (λ other. other == octet) p octet q (lacks octet p without_p) (eq-eqb octet octet refl) in
    let same : ◌≡◌ {A = List (List ℕ)} (a ∷ slice_split (λ other. other == octet) b) (p ∷ slice_split (λ other. other == octet) q) = sym cut_a ∙ ap (slice_split (λ other. other == octet)) e ∙ cut_p in
    let first : a ≡ p = cc in
    let more : octet ∷ b ≡ octet ∷ q = append_cancel_left p (octet ∷ b) (octet ∷ q) (ap (λ t. t ++ octet ∷ b) (sym first) ∙ e) in
    let after : b ≡ q = cc in
    (first, after)

-- a text that has the octet doesn't lack it
pub has_octet : (octet : ℕ) (before after : List ℕ) → All (λ other. other ≢ octet) (before ++ octet ∷ after) → ⊥
has_octet octet before after without =
    without (length before) octet (simp length-append (omega arith)) (get_or-append_seam before octet after octet)

-- words of which the first is a number are cut at their first space
pub first_word : (words before after first second : List ℕ) (number : ℕ) → IsSeparated 32 words before after → words ≡ first ++ 32 ∷ second → IsNumber first number → (before ≡ first) × (after ≡ second)
first_word words before after first second number cut parts is =
    one_place 32 before after first second cut.without (no_space first number is) (sym cut.parts ∙ parts)

-- words without a space are no two words
module _ (words : List ℕ) (without : All (λ octet. octet ≢ 32) words) where
  one_word : (first second : List ℕ) → words ≡ first ++ 32 ∷ second → ⊥
  one_word first second parts = has_octet 32 first second (subst (All (λ octet. octet ≢ 32)) parts without)

  pub no_two_numbers : AreNotTwoNumbers words
  no_two_numbers number other are = one_word are.0 are.1 are.2

  pub no_number_and_hex : (number : ℕ) (octets : List ℕ) → AreNumberAndHex words number octets → ⊥
  no_number_and_hex number octets are = one_word are.0 are.1 are.2

-- words of which the first or the second isn't what it should be
module _ (words before after : List ℕ) (cut : IsSeparated 32 words before after) where
  bad_first : IsNoNumber before → (first second : List ℕ) (number : ℕ) → words ≡ first ++ 32 ∷ second → IsNumber first number → ⊥
  bad_first bad first second number parts is =
      bad number (subst (λ word. IsNumber word number) (sym (first_word words before after first second number cut parts is).0) is)

  bad_second : (P : List ℕ → Type 0) → (P after → ⊥) → (first second : List ℕ) (number : ℕ) → words ≡ first ++ 32 ∷ second → IsNumber first number → P second → ⊥
  bad_second P bad first second number parts is good =
      bad (subst P (sym (first_word words before after first second number cut parts is).1) good)

  pub bad_first_number : IsNoNumber before → AreNotTwoNumbers words
  bad_first_number bad number other are = bad_first bad are.0 are.1 number are.2 are.3

  pub bad_second_number : IsNoNumber after → AreNotTwoNumbers words
  bad_second_number bad number other are = bad_second (λ word. IsNumber word other) (bad other) are.0 are.1 number are.2 are.3 are.4

  pub bad_number_before_hex : IsNoNumber before → (number : ℕ) (octets : List ℕ) → AreNumberAndHex words number octets → ⊥
  bad_number_before_hex bad number octets are = bad_first bad are.0 are.1 number are.2 are.3

  pub bad_hex : ((octets : List ℕ) → IsHex after octets → ⊥) → (number : ℕ) (octets : List ℕ) → AreNumberAndHex words number octets → ⊥
  bad_hex bad number octets are = bad_second (λ word. IsHex word octets) (bad octets) are.0 are.1 number are.2 are.3 are.4

  pub refuses_hex : (fault : LineFault) → RefusesHex after fault → RefusesNumberAndHex words fault
  refuses_hex NotALine bad = bad_hex bad
  refuses_hex Memory bad = tt

-- a line of two octets or more, by them and the rest
pub two_octets : (line : List ℕ) (a b : ℕ) → 2 ≤ length line → get_or line 0 0 ≡ a → get_or line 1 0 ≡ b → line ≡ a ∷ b ∷ take (length line - 2) (drop 2 line)
two_octets [] a b long first second = absurd (omega arith)
two_octets (x ∷ []) a b long first second = absurd (omega arith)
two_octets (x ∷ y ∷ more) a b long first second =
    let size : length more ≡ length (x ∷ y ∷ more) - 2 = omega arith in
    let rest : more ≡ take (length (x ∷ y ∷ more) - 2) more = sym (take-length more) ∙ ap (λ n. take n more) size in
    ap (λ v. v ∷ y ∷ more) first ∙ ap (λ v. a ∷ v ∷ more) second ∙ ap (λ v. a ∷ b ∷ v) rest

-- the same of three
pub three_octets : (line : List ℕ) (a b d : ℕ) → 3 ≤ length line → get_or line 0 0 ≡ a → get_or line 1 0 ≡ b → get_or line 2 0 ≡ d → line ≡ a ∷ b ∷ d ∷ take (length line - 3) (drop 3 line)
three_octets [] a b d long first second third = absurd (omega arith)
three_octets (x ∷ []) a b d long first second third = absurd (omega arith)
three_octets (x ∷ y ∷ []) a b d long first second third = absurd (omega arith)
three_octets (x ∷ y ∷ z ∷ more) a b d long first second third =
    let size : length more ≡ length (x ∷ y ∷ z ∷ more) - 3 = omega arith in
    let rest : more ≡ take (length (x ∷ y ∷ z ∷ more) - 3) more = sym (take-length more) ∙ ap (λ n. take n more) size in
    ap (λ v. v ∷ y ∷ z ∷ more) first ∙ ap (λ v. a ∷ v ∷ z ∷ more) second ∙ ap (λ v. a ∷ b ∷ v ∷ more) third ∙ ap (λ v. a ∷ b ∷ d ∷ v) rest

-- a line that begins as an upstream's octets or takings says something only where its words do
says_up : (words : List ℕ) → ((number : ℕ) (octets : List ℕ) → AreNumberAndHex words number octets → ⊥) → SaysNothing (85 ∷ 32 ∷ words)
says_up words bad (Client piece) is = omega (arith, ap (λ t. get_or t 0 0) is.1)
says_up words bad ClientEnd is = omega (arith, ap (λ t. get_or t 0 0) is)
says_up words bad (ClientTook count) is = omega (arith, ap (λ t. get_or t 0 0) is.1)
says_up words bad (Up k piece) is = bad k piece (subst (λ w. AreNumberAndHex w k piece) (sym (ap (drop 2) is.1)) is.2)
says_up words bad (UpEnd k) is = omega (arith, ap (λ t. get_or t 1 0) is.1)
says_up words bad (UpFailed k) is = omega (arith, ap (λ t. get_or t 1 0) is.1)
says_up words bad (UpTook k count) is = omega (arith, ap (λ t. get_or t 1 0) is.1)
says_up words bad Drain is = omega (arith, ap (λ t. get_or t 0 0) is)

says_up_took : (words : List ℕ) → AreNotTwoNumbers words → SaysNothing (85 ∷ 84 ∷ 32 ∷ words)
says_up_took words bad (Client piece) is = omega (arith, ap (λ t. get_or t 0 0) is.1)
says_up_took words bad ClientEnd is = omega (arith, ap (λ t. get_or t 0 0) is)
says_up_took words bad (ClientTook count) is = omega (arith, ap (λ t. get_or t 0 0) is.1)
says_up_took words bad (Up k piece) is = omega (arith, ap (λ t. get_or t 1 0) is.1)
says_up_took words bad (UpEnd k) is = omega (arith, ap (λ t. get_or t 1 0) is.1)
says_up_took words bad (UpFailed k) is = omega (arith, ap (λ t. get_or t 1 0) is.1)
says_up_took words bad (UpTook k count) is = bad k count (subst (λ w. AreTwoNumbers w k count) (sym (ap (drop 3) is.1)) is.2)
says_up_took words bad Drain is = omega (arith, ap (λ t. get_or t 0 0) is)

pub up_took_nothing : (line words : List ℕ) → line ≡ 85 ∷ 84 ∷ 32 ∷ words → AreNotTwoNumbers words → SaysNothing line
up_took_nothing line words parts bad = subst SaysNothing (sym parts) (says_up_took words bad)

up_refused : (line words : List ℕ) → line ≡ 85 ∷ 32 ∷ words → (fault : LineFault) → RefusesNumberAndHex words fault → Refuses line fault
up_refused line words parts NotALine bad = subst SaysNothing (sym parts) (says_up words bad)
up_refused line words parts Memory bad = tt

pub up_answered : {E : Type 0} (line words : List ℕ) (answer : Result E LineFault) → line ≡ 85 ∷ 32 ∷ words → IfErr answer (RefusesNumberAndHex words) → IfErr answer (Refuses line)
up_answered line words (Ok event) parts bad = tt
up_answered line words (Err fault) parts bad = up_refused line words parts fault bad
