-- The first frame of a block's octets, and those behind it.
use Rattle.std.proofs.Common.{◌≡◌, ℕ, suc, ◌+◌, ◌-◌, ◌<◌, ◌≤◌, Bool, List, [], ◌∷◌, length, take, drop, sym, ◌∙◌, ap, arith, if◌then◌else◌, length-drop}
use Rattle.model.specs.Frames.{spell}
use Rattle.model.specs.Logs.{Output}
use Rattle.model.specs.Logs.Output.{ToClient}
use Rattle.model.specs.Tapes.{put}
use Rattle.effects.specs.Sent.{put_frames}
use Rattle.effects.specs.Blocks.{frames_of, filled_before, block_frames}

pub more_filled : (octets : List ℕ) → 16384 < length octets → filled_before octets ≡ suc (filled_before (drop 16384 octets))
more_filled octets long =
    let size : length (drop 16384 octets) ≡ length octets - 16384 = length-drop 16384 octets in omega (arith, size, long)

pub none_filled : (octets : List ℕ) → length octets ≤ 16384 → filled_before octets ≡ 0
none_filled octets short = omega (arith, short)

pub filled_goes : (out : List Output) (kind flags stream : ℕ) (octets : List ℕ) → 16384 < length octets
    → put_frames out (frames_of (filled_before octets) kind flags stream octets)
    ≡ put_frames (put out (ToClient (spell (record { kind = kind; flags = flags; id = stream; payload = take 16384 octets })))) (frames_of (filled_before (drop 16384 octets)) 9 0 stream (drop 16384 octets))
filled_goes out kind flags stream octets long = ap (λ n. put_frames out (frames_of n kind flags stream octets)) (more_filled octets long)

-- what is put out with the first frame of some octets, and then those of the others, is what is put out with all
pub goes_next : (out out' : List Output) (kind flags id stream : ℕ) (octets fragment rest : List ℕ) → 16384 < length octets → fragment ≡ take 16384 octets → rest ≡ drop 16384 octets → id ≡ stream
    → out' ≡ put out (ToClient (spell (record { kind = kind; flags = flags; id = id; payload = fragment })))
    → put_frames out' (frames_of (filled_before rest) 9 0 stream rest) ≡ put_frames out (frames_of (filled_before octets) kind flags id octets)
goes_next out out' kind flags id stream octets fragment rest long front back same goes =
    let put_first : out' ≡ put out (ToClient (spell (record { kind = kind; flags = flags; id = id; payload = take 16384 octets }))) =
    goes ∙ ap (λ (xs : List ℕ). put out (ToClient (spell (record { kind = kind; flags = flags; id = id; payload = xs })))) front in
    ap (λ (xs : List ℕ). put_frames out' (frames_of (filled_before xs) 9 0 stream xs)) back
    ∙ ap (λ n. put_frames out' (frames_of (filled_before (drop 16384 octets)) 9 0 n (drop 16384 octets))) (sym same)
    ∙ ap (λ o. put_frames o (frames_of (filled_before (drop 16384 octets)) 9 0 id (drop 16384 octets))) put_first
    ∙ sym (filled_goes out kind flags id octets long)

-- a block that fits one frame
pub in_one : (stream : ℕ) (ends : Bool) (block : List ℕ) → length block ≤ 16384 → block_frames stream ends block ≡ record { kind = 1; flags = (if ends then 1 else 0) + 4; id = stream; payload = block } ∷ []
in_one stream ends block short = ap (λ n. frames_of n 1 (if ends then 1 else 0) stream block) (none_filled block short)
