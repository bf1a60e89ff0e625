-- What lies in a request that waits is what is seen of it, and room for a line.
use Rattle.std.proofs.Common.{◌≡◌, ℕ, ◌+◌, ◌≤◌, List, length, take, drop, arith}
use Rattle.std.proofs.lemmas.List.{length-take-le, length-drop}

-- a list whose first part ends no more than so many octets before its last one begins
pub parts_and_room : (room head body held : ℕ) (octets : List ℕ) → head ≤ body → body ≤ head + room → body ≤ length octets
    → length octets + held ≤ (length (take head octets) + length (drop body octets) + held) + room
parts_and_room room head body held octets before gap within =
    let front : length (take head octets) ≡ head = length-take-le head octets (omega (arith, before, within)) in
    omega (arith, front, length-drop body octets, before, gap, within)
