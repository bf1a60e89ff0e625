-- Heads and trailers that go next.
use Rattle.std.proofs.Common.{◌≡◌, ℕ, true, false, List, [], ◌∷◌, refl, sym, ap, ◌∙◌}
use Rattle.std.specs.Prelude.{Option, Some, None, option_and_then}
use Rattle.theory_responses.specs.Outbox.{Outbox, Part, part_of, left}
use Rattle.theory_responses.specs.Outbox.Outbox.{Before, Behind, Over}
use Rattle.theory_responses.specs.Outbox.Part.{Early, Final, Octets, Trailing}
use Rattle.h1_reader.specs.HeadSizes.{CanTrail}
use Rattle.send_buffer.specs.Views.{IsBehindHead, AreNoTrailers}
use Rattle.theory_responses.specs.State.{Kept, find}
use Rattle.model.specs.Messages.{Field}
use Rattle.send_queue.specs.Changes.{AreTrailersTaken}
use Rattle.send_queue.specs.Asked.{is_head, are_trailers, part_for}

-- a head stands behind none
pub no_head : (box : Outbox) → is_head (part_of 1 box) ≡ true → ((part : Part) → part_of 1 box ≡ Some part → IsBehindHead part) → ⊥
no_head box head octets = by (part_of 1 box) head octets
  where
    by : (next : Option Part) → is_head next ≡ true → ((part : Part) → next ≡ Some part → IsBehindHead part) → ⊥
    by (Some (Early first)) e none = none (Early first) refl
    by (Some (Final first ends)) e none = none (Final first ends) refl
    by (Some (Octets octets ends)) e none = let no : false ≡ true = e in cc
    by (Some (Trailing trailers)) e none = let no : false ≡ true = e in cc
    by None e none = let no : false ≡ true = e in cc

-- whether a head goes next doesn't depend on how many octets may go
head_of : (most : ℕ) (box : Outbox) → is_head (part_of most box) ≡ is_head (part_of 1 box)
head_of most (Before (first ∷ interims) head body whole) = refl
head_of most (Before [] (Some head) body whole) = refl
head_of most (Before [] None body whole) = refl
head_of most (Behind (octet ∷ octets) whole) = refl
head_of most (Behind [] None) = refl
head_of most (Behind [] (Some [])) = refl
head_of most (Behind [] (Some (field ∷ fields))) = refl
head_of most Over = refl

pub head_for : (most id : ℕ) (ks : List Kept) → is_head (part_for most id ks) ≡ is_head (part_for 1 id ks)
head_for most id ks = by (find id ks)
  where
    by : (found : Option Kept) → is_head (option_and_then (λ (k : Kept). part_of most k.box) found) ≡ is_head (option_and_then (λ (k : Kept). part_of 1 k.box) found)
    by None = refl
    by (Some k) = head_of most k.box

-- ---- trailers that go next

pub no_trailers : (box : Outbox) → are_trailers (part_of 1 box) ≡ true → ((part : Part) → part_of 1 box ≡ Some part → AreNoTrailers part) → ⊥
no_trailers box trailers other = by (part_of 1 box) trailers other
  where
    by : (next : Option Part) → are_trailers next ≡ true → ((part : Part) → next ≡ Some part → AreNoTrailers part) → ⊥
    by (Some (Early first)) e none = let no : false ≡ true = e in cc
    by (Some (Final first ends)) e none = let no : false ≡ true = e in cc
    by (Some (Octets octets ends)) e none = let no : false ≡ true = e in cc
    by (Some (Trailing trailers)) e none = none (Trailing trailers) refl
    by None e none = let no : false ≡ true = e in cc

-- whether trailers go next doesn't either
trailers_of : (most : ℕ) (box : Outbox) → are_trailers (part_of most box) ≡ are_trailers (part_of 1 box)
trailers_of most (Before (first ∷ interims) head body whole) = refl
trailers_of most (Before [] (Some head) body whole) = refl
trailers_of most (Before [] None body whole) = refl
trailers_of most (Behind (octet ∷ octets) whole) = refl
trailers_of most (Behind [] None) = refl
trailers_of most (Behind [] (Some [])) = refl
trailers_of most (Behind [] (Some (field ∷ fields))) = refl
trailers_of most Over = refl

pub trailers_for : (most id : ℕ) (ks : List Kept) → are_trailers (part_for most id ks) ≡ are_trailers (part_for 1 id ks)
trailers_for most id ks = by (find id ks)
  where
    by : (found : Option Kept) → are_trailers (option_and_then (λ (k : Kept). part_of most k.box) found) ≡ are_trailers (option_and_then (λ (k : Kept). part_of 1 k.box) found)
    by None = refl
    by (Some k) = trailers_of most k.box

-- where they go next, they do however many octets may go, and nothing is left behind them
pub trailers_went : (k : Kept) (trailers : List Field) (new : Kept) → part_of 1 k.box ≡ Some (Trailing trailers) → new.id ≡ k.id → new.cut ≡ k.cut → new.box ≡ Over → CanTrail trailers → AreTrailersTaken k trailers new
trailers_went k trailers new is same_id same_cut over can = record {
  can_trail = can;
  next = λ most. by most k.box is;
  is = ap (λ n. let it : Kept = record { id = n; box = new.box; cut = new.cut } in it) same_id ∙ ap (λ b. let it : Kept = record { id = k.id; box = new.box; cut = b } in it) same_cut
      ∙ ap (λ b. let it : Kept = record { id = k.id; box = b; cut = k.cut } in it) (over ∙ sym (none_left k.box is));
}
  where
    by : (most : ℕ) (box : Outbox) → part_of 1 box ≡ Some (Trailing trailers) → part_of most box ≡ Some (Trailing trailers)
    by most (Before (first ∷ interims) head body whole) e = let clash : Early first ≡ Trailing trailers = cc in cc
    by most (Before [] (Some head) body whole) e = cc
    by most (Before [] None body whole) e = cc
    by most (Behind (octet ∷ octets) whole) e = cc
    by most (Behind [] None) e = cc
    by most (Behind [] (Some [])) e = cc
    by most (Behind [] (Some (field ∷ fields))) e = e
    by most Over e = cc

    none_left : (box : Outbox) → part_of 1 box ≡ Some (Trailing trailers) → left box (Trailing trailers) ≡ Over
    none_left (Before (first ∷ interims) head body whole) e = cc
    none_left (Before [] (Some head) body whole) e = cc
    none_left (Before [] None body whole) e = cc
    none_left (Behind (octet ∷ octets) whole) e = cc
    none_left (Behind [] None) e = cc
    none_left (Behind [] (Some [])) e = cc
    none_left (Behind [] (Some (field ∷ fields))) e = refl
    none_left Over e = cc
