-- What stands at the front of a text: a whole frame, less than one, or a header that is too long.
use Rattle.std.proofs.Common.{◌≡◌, ℕ, suc, ◌+◌, ◌-◌, ◌*◌, ◌/◌, ◌%◌, ◌<◌, ◌≤◌, List, [], ◌∷◌, ◌++◌, length, take, drop, get_or, refl, sym, ap, ◌∙◌, subst, arith, length-take, length-append}
use Rattle.std.proofs.Common.{inl, inr}
use Rattle.std.proofs.lemmas.Bool.{cases_lt}
use Rattle.std.proofs.lemmas.List.{take-append-drop}
use Rattle.model.specs.Frames.{Frame, Spells, spelled, BeginsNoFrame, IsTooLong, length_field}

-- nine octets and the payload after them spell a frame
pub whole : (a b c kind flags i j k l : ℕ) (payload : List ℕ) → a < 256 → b < 256 → c < 256 → kind < 256 → flags < 256 → i < 256 → j < 256 → k < 256 → l < 256
    → length payload ≡ a * 65536 + b * 256 + c → length payload ≤ 16384
    → Spells (a ∷ b ∷ c ∷ kind ∷ flags ∷ i ∷ j ∷ k ∷ l ∷ payload) (record { kind = kind; flags = flags; id = i % 128 * 16777216 + j * 65536 + k * 256 + l; payload = payload })
whole a b c kind flags i j k l payload ha hb hc hk hf hi hj hk2 hl n m =
    record {
      fits = record { kind = hk; flags = hf; id = omega arith; payload = m };
      bit = i / 128;
      is_bit = omega arith;
      is = parts a b c kind flags i j k l payload ha hb hc hi hj hk2 hl n;
    }
  where
    parts : (a b c kind flags i j k l : ℕ) (payload : List ℕ) → a < 256 → b < 256 → c < 256 → i < 256 → j < 256 → k < 256 → l < 256
        → length payload ≡ a * 65536 + b * 256 + c
        → ◌≡◌ {A = List ℕ} (a ∷ b ∷ c ∷ kind ∷ flags ∷ i ∷ j ∷ k ∷ l ∷ payload) (spelled (i / 128) (record { kind = kind; flags = flags; id = i % 128 * 16777216 + j * 65536 + k * 256 + l; payload = payload }))
    parts a b c kind flags i j k l payload ha hb hc hi hj hk hl n =
        let number : ℕ = 2147483648 * (i / 128) + (i % 128 * 16777216 + j * 65536 + k * 256 + l) in
        let e0 : a ≡ length payload / 65536 = omega arith in
        let e1 : b ≡ (length payload / 256) % 256 = omega arith in
        let e2 : c ≡ length payload % 256 = omega arith in
        let e5 : i ≡ (2147483648 * (i / 128) + (i % 128 * 16777216 + j * 65536 + k * 256 + l)) / 16777216 = omega arith in
        let e6 : j ≡ ((2147483648 * (i / 128) + (i % 128 * 16777216 + j * 65536 + k * 256 + l)) / 65536) % 256 = omega arith in
        let e7 : k ≡ ((2147483648 * (i / 128) + (i % 128 * 16777216 + j * 65536 + k * 256 + l)) / 256) % 256 = omega arith in
        let e8 : l ≡ (2147483648 * (i / 128) + (i % 128 * 16777216 + j * 65536 + k * 256 + l)) % 256 = omega arith in
        cc

-- the front of a text that has a whole header and the payload
pub at_front : (text : List ℕ) (n : ℕ) → ((i : ℕ) → get_or text i 0 < 256) → n ≡ get_or text 0 0 * 65536 + get_or text 1 0 * 256 + get_or text 2 0 → n ≤ 16384 → 9 + n ≤ length text
    → Spells (take (9 + n) text) (record { kind = get_or text 3 0; flags = get_or text 4 0; id = get_or text 5 0 % 128 * 16777216 + get_or text 6 0 * 65536 + get_or text 7 0 * 256 + get_or text 8 0; payload = take (9 + n - 9) (drop 9 text) })
at_front ([]) n fits e' m h = absurd (omega arith)
at_front (a ∷ []) n fits e' m h = absurd (omega arith)
at_front (a ∷ b ∷ []) n fits e' m h = absurd (omega arith)
at_front (a ∷ b ∷ c ∷ []) n fits e' m h = absurd (omega arith)
at_front (a ∷ b ∷ c ∷ d ∷ []) n fits e' m h = absurd (omega arith)
at_front (a ∷ b ∷ c ∷ d ∷ e ∷ []) n fits e' m h = absurd (omega arith)
at_front (a ∷ b ∷ c ∷ d ∷ e ∷ f ∷ []) n fits e' m h = absurd (omega arith)
at_front (a ∷ b ∷ c ∷ d ∷ e ∷ f ∷ g ∷ []) n fits e' m h = absurd (omega arith)
at_front (a ∷ b ∷ c ∷ d ∷ e ∷ f ∷ g ∷ i ∷ []) n fits e' m h = absurd (omega arith)
at_front (a ∷ b ∷ c ∷ d ∷ e ∷ f ∷ g ∷ i ∷ j ∷ more) n fits e' m h =
    let far : 9 + n ≡ suc (suc (suc (suc (suc (suc (suc (suc (suc n)))))))) = omega arith in
    let same : n ≡ 9 + n - 9 = omega arith in
    let long : length (take n more) ≡ n = simp length-take (omega arith) in
    let fine : Spells (take (suc (suc (suc (suc (suc (suc (suc (suc (suc n))))))))) (a ∷ b ∷ c ∷ d ∷ e ∷ f ∷ g ∷ i ∷ j ∷ more)) (record { kind = d; flags = e; id = f % 128 * 16777216 + g * 65536 + i * 256 + j; payload = take n more }) =
    whole a b c d e f g i j (take n more) (fits 0) (fits 1) (fits 2) (fits 3) (fits 4) (fits 5) (fits 6) (fits 7) (fits 8) (omega arith) (omega arith) in
    subst (λ (p : ℕ). Spells (take (9 + n) (a ∷ b ∷ c ∷ d ∷ e ∷ f ∷ g ∷ i ∷ j ∷ more)) (record { kind = d; flags = e; id = f % 128 * 16777216 + g * 65536 + i * 256 + j; payload = take p more })) same
    (subst (λ (t : ℕ). Spells (take t (a ∷ b ∷ c ∷ d ∷ e ∷ f ∷ g ∷ i ∷ j ∷ more)) (record { kind = d; flags = e; id = f % 128 * 16777216 + g * 65536 + i * 256 + j; payload = take n more })) (sym far) fine)

-- the length in the header of a text that begins with a frame
pub field_of_frame : (octets more : List ℕ) (frame : Frame) → Spells octets frame → (length_field (octets ++ more) ≡ length frame.payload) × (length octets ≡ 9 + length frame.payload)
field_of_frame octets more frame s = subst (λ (o : List ℕ). (length_field (o ++ more) ≡ length frame.payload) × (length o ≡ 9 + length frame.payload)) (sym s.is) (omega arith, omega arith)

-- what has fewer octets than its header says begins with no frame
pub unfinished : (text : List ℕ) → length text < 9 + length_field text → BeginsNoFrame text
unfinished text less octets more frame s is =
    let field : length_field text ≡ length frame.payload = ap length_field is ∙ (field_of_frame octets more frame s).0 in
    let size : length text ≡ length octets + length more = ap length is ∙ length-append octets more in
    omega (arith, (field_of_frame octets more frame s).1)

-- nor does what has no whole header
pub no_header : (text : List ℕ) → length text < 9 → BeginsNoFrame text
no_header text less octets more frame s is =
    let size : length text ≡ length octets + length more = ap length is ∙ length-append octets more in
    omega (arith, (field_of_frame octets more frame s).1)

-- nor what has a length that is too long
pub too_long : (text : List ℕ) → IsTooLong text → BeginsNoFrame text
too_long text over octets more frame s is =
    let field : length_field text ≡ length frame.payload = ap length_field is ∙ (field_of_frame octets more frame s).0 in
    omega (arith, over.length_over, s.fits.payload)

-- what begins with neither a frame nor a header that is too long is short
pub short : (text : List ℕ) → ((i : ℕ) → get_or text i 0 < 256) → BeginsNoFrame text → (IsTooLong text → ⊥) → length text < 16393
short text fits none fine = elim (cases_lt (length text) 16393) [
  | inl less ↦ less
  | inr more ↦ (let n : ℕ = get_or text 0 0 * 65536 + get_or text 1 0 * 256 + get_or text 2 0 in
      elim (cases_lt 16384 n) [
        | inl over ↦ absurd (fine (record { header = omega arith; length_over = omega arith }))
        | inr under ↦ absurd (none (take (9 + n) text) (drop (9 + n) text) _ (at_front text n fits refl under (omega arith)) (sym (take-append-drop (9 + n) text)))
      ])
]
