-- What a write leaves of the octets that were put out.
use Rattle.std.proofs.Common.{◌≡◌, ◌≤◌, ◌<◌, ◌+◌, ◌-◌, ◌^◌, ℕ, List, [], ◌∷◌, ◌++◌, length, min, take, drop, Option, Some, None, refl, sym, ap, ◌∙◌, append_assoc, append-nil, length-append, take-append-drop, arith}
use Rattle.std.proofs.lemmas.Grind.{common_steps}
use Rattle.std.specs.Io.KnownBytes.{Appends}
use Rattle.socket_io.specs.Transfers.{Way, Passes, Loses}

-- The front that was written, what waited, and the rest are what waited and all octets, if nothing was written past what waited.
in_order : (waiting octets : List ℕ) (n : ℕ) → (0 < length waiting → n ≡ 0) → take n octets ++ (waiting ++ drop n octets) ≡ waiting ++ octets
in_order [] octets n h = grind (arith, common_steps)
in_order (x ∷ xs) octets n h = let none : n ≡ 0 = h (omega arith) in rw none refl

-- Octets were put out, of which n were written at once.
pub put_out : (had has : Option (List ℕ)) (old new : Way) (octets : List ℕ) (n : ℕ) → n ≤ length octets → (0 < length old.waiting → n ≡ 0)
    → Appends had has (take n octets) → new.waiting ≡ old.waiting ++ drop n octets → new.untold ≡ min (old.untold + n) (2 ^ 64 - 1)
    → Passes had has old octets new
put_out had has old new octets n within behind appends waiting untold =
    let count : length (take n octets) ≡ n = grind (arith, common_steps) in
    record {
      written = take n octets;
      in_order = ap (λ ws. take n octets ++ ws) waiting ∙ in_order old.waiting octets n behind;
      are_written = appends;
      counted = untold ∙ ap (λ m. min (old.untold + m) (2 ^ 64 - 1)) (sym count);
    }

-- Octets were put out, of which n were written at once and the rest is lost.
pub lost_rest : (had has : Option (List ℕ)) (old new : Way) (octets : List ℕ) (n : ℕ) → n ≤ length octets → (0 < length old.waiting → n ≡ 0)
    → Appends had has (take n octets) → 0 < length (drop n octets) → new.waiting ≡ old.waiting → new.untold ≡ min (old.untold + n) (2 ^ 64 - 1)
    → Loses had has old octets new
lost_rest had has old new octets n within behind appends some waiting untold =
    let count : length (take n octets) ≡ n = grind (arith, common_steps) in
    record {
      written = take n octets;
      lost = drop n octets;
      parted = take-append-drop n octets;
      some = some;
      are_written = appends;
      behind = λ h. ap (λ m. take m octets) (behind h);
      waits = waiting;
      counted = untold ∙ ap (λ m. min (old.untold + m) (2 ^ 64 - 1)) (sym count);
    }

-- Of what waited n were written.
pub went_on : (had has : Option (List ℕ)) (old new : Way) (n : ℕ) → n ≤ length old.waiting
    → Appends had has (take n old.waiting) → new.waiting ≡ drop n old.waiting → new.untold ≡ min (old.untold + n) (2 ^ 64 - 1)
    → Passes had has old [] new
went_on had has old new n within appends waiting untold =
    let count : length (take n old.waiting) ≡ n = grind (arith, common_steps) in
    record {
      written = take n old.waiting;
      in_order = ap (λ ws. take n old.waiting ++ ws) waiting ∙ grind (arith, common_steps);
      are_written = appends;
      counted = untold ∙ ap (λ m. min (old.untold + m) (2 ^ 64 - 1)) (sym count);
    }

-- Known octets grow twice.
appends_twice : (a b c : Option (List ℕ)) (xs ys : List ℕ) → Appends a b xs → Appends b c ys → Appends a c (xs ++ ys)
appends_twice None b c xs ys p q = tt
appends_twice (Some us) None c xs ys p q = absurd p
appends_twice (Some us) (Some vs) None xs ys p q = absurd q
appends_twice (Some us) (Some vs) (Some ws) xs ys p q = q ∙ ap (λ zs. zs ++ ys) p ∙ append_assoc us xs ys

appends_nothing : (a : Option (List ℕ)) → Appends a a []
appends_nothing None = tt
appends_nothing (Some us) = sym (append-nil us)

-- Nothing was written yet.
pub not_begun : (has : Option (List ℕ)) (way : Way) → way.untold < 2 ^ 64 → Passes has has way [] way
not_begun has way small = record { written = []; in_order = sym (append-nil way.waiting); are_written = appends_nothing has; counted = grind arith }

-- Nothing else was put out, and more was written.
pub goes_on : (a b c : Option (List ℕ)) (old mid new : Way) → Passes a b old [] mid → Passes b c mid [] new → Passes a c old [] new
goes_on a b c old mid new p q =
    let lengths : length (p.written ++ q.written) ≡ length p.written + length q.written = length-append p.written q.written in
    let here = p.counted in
    let there = q.counted in
    record {
      written = p.written ++ q.written;
      in_order = append_assoc p.written q.written new.waiting ∙ ap (λ ws. p.written ++ ws) (q.in_order ∙ append-nil mid.waiting) ∙ p.in_order;
      are_written = appends_twice a b c p.written q.written p.are_written q.are_written;
      counted = grind (arith, common_steps);
    }
