-- The frames of a block are its fragments in their order: only the last completes it.
use Rattle.std.proofs.Common.{◌≡◌, ℕ, zero, suc, ◌+◌, ◌-◌, ◌<◌, ◌≤◌, Bool, true, false, not, ◌==◌, List, [], ◌∷◌, ◌++◌, length, take, drop, refl, sym, ◌∙◌, ap, subst, arith, if◌then◌else◌, length-drop, append_assoc, eq-eqb}
use Rattle.std.specs.Prelude.{Option, Some, None}
use Rattle.std.proofs.lemmas.List.{take-append-drop, length-take-le}
use Rattle.std.proofs.Math.Seq.{take-length}
use Rattle.model.specs.Octets.{is_empty}
use Rattle.model.specs.Frames.{Frame, content}
use Rattle.model.specs.Decoding.{Partial, joined}
use Rattle.theory_errors.specs.Judging.{completed_in}
use Rattle.theory_errors.specs.After.{begun_after}
use Rattle.effects.specs.Blocks.{frames_of, filled_before, block_frames, IsFragment, Complete}
use Rattle.effects.proofs.Cuts.{more_filled}

some_octets : (octets : List ℕ) → 0 < length octets → is_empty octets ≡ false
some_octets [] some = absurd (omega arith)
some_octets (octet ∷ octets) some = refl

-- the payload of a frame without padding and priority is its content
pub whole_content : (octets : List ℕ) → take (length octets - 0 - 0) (drop 0 octets) ≡ octets
whole_content octets = ap (λ n. take n octets) (let e : length octets - 0 - 0 ≡ length octets = omega arith in e) ∙ take-length octets

-- ---- each frame

abbrev begun_of : ℕ → Bool → List ℕ → Option Partial
begun_of stream ends octets = Some (record { id = stream; ends = ends; fragments = octets })

-- HEADERS that is filled
abbrev first_frame : ℕ → Bool → List ℕ → Frame
first_frame stream ends octets = record { kind = 1; flags = if ends then 1 else 0; id = stream; payload = octets }

abbrev first_alone : ℕ → Bool → List ℕ → Frame
first_alone stream ends octets = record { kind = 1; flags = (if ends then 1 else 0) + 4; id = stream; payload = octets }

abbrev further_frame : ℕ → ℕ → List ℕ → Frame
further_frame flags stream octets = record { kind = 9; flags = flags; id = stream; payload = octets }

first_goes : (stream : ℕ) (ends : Bool) (octets : List ℕ) → stream < 2147483648 → length octets ≡ 16384 → IsFragment stream None (first_frame stream ends octets)
first_goes stream true octets id size = record {
  on_stream = refl;
  kind = refl;
  together = refl;
  passing = λ note. refl;
  plainly_flagged = refl;
  filled = ap (λ n. n == 16384) size;
  has_octets = some_octets octets (omega (arith, size));
  no_data = refl;
  no_reset = refl;
  no_update = refl;
  fits = record { kind = omega arith; flags = omega arith; id = id; payload = omega (arith, size) };
}
first_goes stream false octets id size = record {
  on_stream = refl;
  kind = refl;
  together = refl;
  passing = λ note. refl;
  plainly_flagged = refl;
  filled = ap (λ n. n == 16384) size;
  has_octets = some_octets octets (omega (arith, size));
  no_data = refl;
  no_reset = refl;
  no_update = refl;
  fits = record { kind = omega arith; flags = omega arith; id = id; payload = omega (arith, size) };
}

alone_goes : (stream : ℕ) (ends : Bool) (octets : List ℕ) → stream < 2147483648 → 0 < length octets → length octets ≤ 16384 → IsFragment stream None (first_alone stream ends octets)
alone_goes stream true octets id some short = record {
  on_stream = refl;
  kind = refl;
  together = refl;
  passing = λ note. refl;
  plainly_flagged = refl;
  filled = refl;
  has_octets = some_octets octets some;
  no_data = refl;
  no_reset = refl;
  no_update = refl;
  fits = record { kind = omega arith; flags = omega arith; id = id; payload = short };
}
alone_goes stream false octets id some short = record {
  on_stream = refl;
  kind = refl;
  together = refl;
  passing = λ note. refl;
  plainly_flagged = refl;
  filled = refl;
  has_octets = some_octets octets some;
  no_data = refl;
  no_reset = refl;
  no_update = refl;
  fits = record { kind = omega arith; flags = omega arith; id = id; payload = short };
}

further_goes : (stream : ℕ) (ends : Bool) (front octets : List ℕ) → stream < 2147483648 → length octets ≡ 16384 → IsFragment stream (begun_of stream ends front) (further_frame 0 stream octets)
further_goes stream ends front octets id size = record {
  on_stream = refl;
  kind = refl;
  together = ap not (eq-eqb stream stream refl);
  passing = λ note. refl;
  plainly_flagged = refl;
  filled = ap (λ n. n == 16384) size;
  has_octets = some_octets octets (omega (arith, size));
  no_data = refl;
  no_reset = refl;
  no_update = refl;
  fits = record { kind = omega arith; flags = omega arith; id = id; payload = omega (arith, size) };
}

last_goes : (stream : ℕ) (ends : Bool) (front octets : List ℕ) → stream < 2147483648 → 0 < length octets → length octets ≤ 16384 → IsFragment stream (begun_of stream ends front) (further_frame 4 stream octets)
last_goes stream ends front octets id some short = record {
  on_stream = refl;
  kind = refl;
  together = ap not (eq-eqb stream stream refl);
  passing = λ note. refl;
  plainly_flagged = refl;
  filled = refl;
  has_octets = some_octets octets some;
  no_data = refl;
  no_reset = refl;
  no_update = refl;
  fits = record { kind = omega arith; flags = omega arith; id = id; payload = short };
}

-- ---- what is begun behind each

first_begins : (stream : ℕ) (ends : Bool) (octets : List ℕ) → begun_after None (first_frame stream ends octets) ≡ begun_of stream ends octets
first_begins stream true octets = ap (λ (xs : List ℕ). begun_of stream true xs) (whole_content octets)
first_begins stream false octets = ap (λ (xs : List ℕ). begun_of stream false xs) (whole_content octets)

alone_completes : (stream : ℕ) (ends : Bool) (octets : List ℕ) → completed_in None (first_alone stream ends octets) ≡ begun_of stream ends octets
alone_completes stream true octets = ap (λ (xs : List ℕ). begun_of stream true xs) (whole_content octets)
alone_completes stream false octets = ap (λ (xs : List ℕ). begun_of stream false xs) (whole_content octets)

joins : (stream : ℕ) (ends : Bool) (flags : ℕ) (front octets : List ℕ) → joined (begun_of stream ends front) (further_frame flags stream octets) ≡ begun_of stream ends (front ++ octets)
joins stream ends flags front octets =
    ap (λ b. if b then begun_of stream ends (front ++ content (further_frame flags stream octets)) else None) (eq-eqb stream stream refl)
    ∙ ap (λ (xs : List ℕ). begun_of stream ends (front ++ xs)) (whole_content octets)

-- ---- all of them

goes_on : (block : Partial) (begun : Option Partial) (frame : Frame) (frames : List Frame) → IsFragment block.id begun frame → completed_in begun frame ≡ None → Complete block (begun_after begun frame) frames → Complete block begun (frame ∷ frames)
goes_on block begun frame [] is none rest = absurd rest
goes_on block begun frame (next ∷ frames) is none rest = (is, none, rest)

abbrev block_of : ℕ → Bool → List ℕ → Partial
block_of stream ends octets = record { id = stream; ends = ends; fragments = octets }

further_complete : (filled stream : ℕ) (ends : Bool) (front octets : List ℕ) → stream < 2147483648 → 0 < length octets → filled_before octets ≡ filled
    → Complete (block_of stream ends (front ++ octets)) (begun_of stream ends front) (frames_of filled 9 0 stream octets)
further_complete zero stream ends front octets id some count =
    let short : length octets ≤ 16384 = omega (arith, count, some) in
    (last_goes stream ends front octets id some short, joins stream ends 4 front octets, refl)
further_complete (suc filled) stream ends front octets id some count =
    let long : 16384 < length octets = omega (arith, count) in
    let size : length (take 16384 octets) ≡ 16384 = length-take-le 16384 octets (omega (arith, long)) in
    let left : length (drop 16384 octets) ≡ length octets - 16384 = length-drop 16384 octets in
    let fewer : filled_before (drop 16384 octets) ≡ filled = let more = more_filled octets long in omega (arith, more, count) in
    let together : (front ++ take 16384 octets) ++ drop 16384 octets ≡ front ++ octets = append_assoc front (take 16384 octets) (drop 16384 octets) ∙ ap (λ (xs : List ℕ). front ++ xs) (take-append-drop 16384 octets) in
    goes_on (block_of stream ends (front ++ octets)) (begun_of stream ends front) (further_frame 0 stream (take 16384 octets)) (frames_of filled 9 0 stream (drop 16384 octets))
    (further_goes stream ends front (take 16384 octets) id size) refl
    (subst (λ (begun : Option Partial). Complete (block_of stream ends (front ++ octets)) begun (frames_of filled 9 0 stream (drop 16384 octets))) (sym (joins stream ends 0 front (take 16384 octets)))
    (subst (λ (xs : List ℕ). Complete (block_of stream ends xs) (begun_of stream ends (front ++ take 16384 octets)) (frames_of filled 9 0 stream (drop 16384 octets))) together
    (further_complete filled stream ends (front ++ take 16384 octets) (drop 16384 octets) id (omega (arith, left, long)) fewer)))

all_complete : (filled stream : ℕ) (ends : Bool) (octets : List ℕ) → stream < 2147483648 → 0 < length octets → filled_before octets ≡ filled
    → Complete (block_of stream ends octets) None (frames_of filled 1 (if ends then 1 else 0) stream octets)
all_complete zero stream ends octets id some count =
    let short : length octets ≤ 16384 = omega (arith, count, some) in
    (alone_goes stream ends octets id some short, alone_completes stream ends octets, ends_there ends)
  where
    ends_there : (ends : Bool) → begun_after None (first_alone stream ends octets) ≡ None
    ends_there true = refl
    ends_there false = refl
all_complete (suc filled) stream ends octets id some count =
    let long : 16384 < length octets = omega (arith, count) in
    let size : length (take 16384 octets) ≡ 16384 = length-take-le 16384 octets (omega (arith, long)) in
    let left : length (drop 16384 octets) ≡ length octets - 16384 = length-drop 16384 octets in
    let fewer : filled_before (drop 16384 octets) ≡ filled = let more = more_filled octets long in omega (arith, more, count) in
    goes_on (block_of stream ends octets) None (first_frame stream ends (take 16384 octets)) (frames_of filled 9 0 stream (drop 16384 octets))
    (first_goes stream ends (take 16384 octets) id size) (goes_on_there ends)
    (subst (λ (begun : Option Partial). Complete (block_of stream ends octets) begun (frames_of filled 9 0 stream (drop 16384 octets))) (sym (first_begins stream ends (take 16384 octets)))
    (subst (λ (xs : List ℕ). Complete (block_of stream ends xs) (begun_of stream ends (take 16384 octets)) (frames_of filled 9 0 stream (drop 16384 octets))) (take-append-drop 16384 octets)
    (further_complete filled stream ends (take 16384 octets) (drop 16384 octets) id (omega (arith, left, long)) fewer)))
  where
    goes_on_there : (ends : Bool) → completed_in None (first_frame stream ends (take 16384 octets)) ≡ None
    goes_on_there true = refl
    goes_on_there false = refl

pub block_completes : (stream : ℕ) (ends : Bool) (block : List ℕ) → stream < 2147483648 → 0 < length block → Complete (record { id = stream; ends = ends; fragments = block }) None (block_frames stream ends block)
block_completes stream ends block id some = all_complete (filled_before block) stream ends block id some refl
