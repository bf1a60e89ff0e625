-- Octets of two texts, one behind the other.
use Rattle.std.specs.Prelude.{◌≡◌, ℕ, ◌-◌, ◌<◌, ◌≤◌, List, ◌++◌, length, slice_index}
use Rattle.std.proofs.Math.Seq.{get_or-append_right}
use Rattle.std.proofs.lemmas.List.{get_or_append_left}

pub in_front : (xs ys : List ℕ) (n : ℕ) → n < length xs → slice_index (xs ++ ys) n ≡ slice_index xs n
in_front xs ys n h = get_or_append_left xs ys 0 n h

pub behind : (xs ys : List ℕ) (n : ℕ) → length xs ≤ n → slice_index (xs ++ ys) n ≡ slice_index ys (n - length xs)
behind xs ys n h = get_or-append_right xs ys n 0 h
