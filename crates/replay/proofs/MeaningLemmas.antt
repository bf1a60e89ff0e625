-- A line says at most one event.
use Rattle.std.proofs.Common.{◌≡◌, ℕ, List, [], ◌∷◌, ◌++◌, drop, get_or, refl, sym, ap, ◌∙◌, arith}
use Rattle.model.specs.Logs.{Event}
use Rattle.model.specs.Logs.Event.{Client, ClientEnd, ClientTook, Up, UpEnd, UpFailed, UpTook, Drain}
use Rattle.replay.specs.Scripts.{IsNumber, IsHex, Says, AllSay}
use Rattle.std.specs.Str.Parse.{digits_value}
use Rattle.replay.proofs.LinesLemmas.{no_space, one_place}

-- the first octet of an event's line, and the second, or 0 where there is none
abbrev first : Event → ℕ
first (Client piece) = 67
first ClientEnd = 67
first (ClientTook count) = 67
first (Up k piece) = 85
first (UpEnd k) = 85
first (UpFailed k) = 85
first (UpTook k count) = 85
first Drain = 68

abbrev second : Event → ℕ
second (Client piece) = 32
second ClientEnd = 69
second (ClientTook count) = 84
second (Up k piece) = 32
second (UpEnd k) = 69
second (UpFailed k) = 70
second (UpTook k count) = 84
second Drain = 0

begins : (line : List ℕ) (event : Event) → Says line event → (get_or line 0 0 ≡ first event) × (get_or line 1 0 ≡ second event)
begins line (Client piece) says = (ap (λ t. get_or t 0 0) says.1, ap (λ t. get_or t 1 0) says.1)
begins line ClientEnd says = (ap (λ t. get_or t 0 0) says, ap (λ t. get_or t 1 0) says)
begins line (ClientTook count) says = (ap (λ t. get_or t 0 0) says.1, ap (λ t. get_or t 1 0) says.1)
begins line (Up k piece) says = (ap (λ t. get_or t 0 0) says.1, ap (λ t. get_or t 1 0) says.1)
begins line (UpEnd k) says = (ap (λ t. get_or t 0 0) says.1, ap (λ t. get_or t 1 0) says.1)
begins line (UpFailed k) says = (ap (λ t. get_or t 0 0) says.1, ap (λ t. get_or t 1 0) says.1)
begins line (UpTook k count) says = (ap (λ t. get_or t 0 0) says.1, ap (λ t. get_or t 1 0) says.1)
begins line Drain says = (ap (λ t. get_or t 0 0) says, ap (λ t. get_or t 1 0) says)

one_number : (word other : List ℕ) (m n : ℕ) → word ≡ other → IsNumber word m → IsNumber other n → m ≡ n
one_number word other m n same p q = p.value ∙ ap (digits_value 10) same ∙ sym q.value

one_hex : (word other xs ys : List ℕ) → word ≡ other → IsHex word xs → IsHex other ys → xs ≡ ys
one_hex word other xs ys same p q = cc

-- two words with a space between them are the same two words
same_words : (words others a b p q : List ℕ) (m n : ℕ) → words ≡ others → words ≡ a ++ 32 ∷ b → others ≡ p ++ 32 ∷ q → IsNumber a m → IsNumber p n → (a ≡ p) × (b ≡ q)
same_words words others a b p q m n same cut_words cut_others is_m is_n =
    one_place 32 a b p q (no_space a m is_m) (no_space p n is_n) (sym cut_words ∙ same ∙ cut_others)

pub one_event : (line : List ℕ) (event other : Event) → Says line event → Says line other → event ≡ other
one_event line (Client xs) (Client ys) p q = ap Client (one_hex p.0 q.0 xs ys (ap (drop 2) (sym p.1 ∙ q.1)) p.2 q.2)
one_event line ClientEnd ClientEnd p q = refl
one_event line (ClientTook m) (ClientTook n) p q = ap ClientTook (one_number p.0 q.0 m n (ap (drop 3) (sym p.1 ∙ q.1)) p.2 q.2)
one_event line (Up m xs) (Up n ys) p q =
    let words = same_words p.0 q.0 p.2.0 p.2.1 q.2.0 q.2.1 m n (ap (drop 2) (sym p.1 ∙ q.1)) p.2.2 q.2.2 p.2.3 q.2.3 in
    ap (λ k. Up k xs) (one_number p.2.0 q.2.0 m n words.0 p.2.3 q.2.3) ∙ ap (Up n) (one_hex p.2.1 q.2.1 xs ys words.1 p.2.4 q.2.4)
one_event line (UpEnd m) (UpEnd n) p q = ap UpEnd (one_number p.0 q.0 m n (ap (drop 3) (sym p.1 ∙ q.1)) p.2 q.2)
one_event line (UpFailed m) (UpFailed n) p q = ap UpFailed (one_number p.0 q.0 m n (ap (drop 3) (sym p.1 ∙ q.1)) p.2 q.2)
one_event line (UpTook m x) (UpTook n y) p q =
    let words = same_words p.0 q.0 p.2.0 p.2.1 q.2.0 q.2.1 m n (ap (drop 3) (sym p.1 ∙ q.1)) p.2.2 q.2.2 p.2.3 q.2.3 in
    ap (λ k. UpTook k x) (one_number p.2.0 q.2.0 m n words.0 p.2.3 q.2.3) ∙ ap (UpTook n) (one_number p.2.1 q.2.1 x y words.1 p.2.4 q.2.4)
one_event line Drain Drain p q = refl
one_event line event other p q =
    let heads = begins line event p in
    let others = begins line other q in
    absurd (omega (arith, heads.0, heads.1, others.0, others.1))

pub one_script : (lines : List (List ℕ)) (events others : List Event) → AllSay lines events → AllSay lines others → events ≡ others
one_script [] [] [] p q = refl
one_script [] [] (f ∷ fs) p q = absurd q
one_script [] (e ∷ es) fs p q = absurd p
one_script (line ∷ lines) [] fs p q = absurd p
one_script (line ∷ lines) (e ∷ es) [] p q = absurd q
one_script (line ∷ lines) (e ∷ es) (f ∷ fs) p q = ap (λ x. x ∷ es) (one_event line e f p.0 q.0) ∙ ap (λ xs. f ∷ xs) (one_script lines es fs p.1 q.1)
