-- A payload without a fault has the padding that it says.
use Rattle.std.proofs.Common.{◌≡◌, ◌+◌, ◌-◌, ◌≤◌, ℕ, true, false, Bool, None, Some, List, ◌++◌, length, take, drop, refl, sym, ap, ◌∙◌, arith, length-drop, append_assoc}
use Rattle.std.proofs.lemmas.List.{take-append-drop, length-take-le}
use Rattle.std.specs.Prelude.{not, ◌&&◌, nat_le, if◌then◌else◌}
use Rattle.std.proofs.lemmas.Bool.{leb-true, ltb-false}
use Rattle.model.specs.Frames.{Frame, content_offset, pad_length}
use Rattle.model.specs.Payloads.{IsPadded, is_sized, is_over_padded, payload_fault}
use Rattle.model.specs.Payloads.PayloadFault.{WrongSize, OverPadded}

-- a list in three parts
three_parts : (xs : List ℕ) (n o : ℕ) → xs ≡ take o xs ++ take n (drop o xs) ++ drop n (drop o xs)
three_parts xs n o =
    sym (append_assoc (take o xs) (take n (drop o xs)) (drop n (drop o xs)) ∙ ap (λ ys. take o xs ++ ys) (take-append-drop n (drop o xs)) ∙ take-append-drop o xs)

faultless : (sized over : Bool) → (if not sized then Some WrongSize else (if over then Some OverPadded else None)) ≡ None → (sized ≡ true) × (over ≡ false)
faultless true false e = (refl, refl)
faultless true true e = absurd (cc)
faultless false over e = absurd (cc)

both : (a b : Bool) → (a && b) ≡ true → b ≡ true
both true b e = e
both false b e = absurd (cc)

-- where there is no fault, there is room for what stands before the content and for the padding
room : (frame : Frame) → payload_fault frame ≡ None → content_offset frame + pad_length frame ≤ length frame.payload
room frame e =
    let fine = faultless (is_sized frame) (is_over_padded frame) e in
    let offset_fits = leb-true (content_offset frame) (length frame.payload) (both _ (nat_le (content_offset frame) (length frame.payload)) fine.0) in
    let padding_fits = ltb-false (length frame.payload - content_offset frame) (pad_length frame) fine.1 in
    omega (arith, offset_fits, padding_fits)

pub padded_payload : (frame : Frame) → payload_fault frame ≡ None → IsPadded frame
padded_payload frame e =
    let h : content_offset frame + pad_length frame ≤ length frame.payload = room frame e in
    let n = length frame.payload - content_offset frame - pad_length frame in
    record {
      front = take (content_offset frame) frame.payload;
      padding = drop n (drop (content_offset frame) frame.payload);
      front_length = length-take-le (content_offset frame) frame.payload (omega arith);
      padding_length = simp length-drop (omega arith);
      is = three_parts frame.payload n (content_offset frame);
    }
