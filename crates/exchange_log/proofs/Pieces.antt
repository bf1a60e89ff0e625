-- Pieces of a response: whether they are whole, and the status of the final head among them.
use Rattle.std.proofs.Common.{◌≡◌, ℕ, zero, suc, ◌+◌, ◌-◌, ◌^◌, ◌<◌, min, ◌||◌, List, [], ◌∷◌, ◌++◌, length, length-append, take, get_or, Option, Some, None, refl, sym, ◌∙◌, ap, add-one, arith}
use Rattle.std.proofs.Math.Seq.{take-suc}
use Rattle.std.specs.List.{list_any}
use Rattle.std.specs.Option.{option_or, option_map}
use Rattle.std.proofs.lemmas.List.{map-append}
use Rattle.h1_reader.specs.Parts.{Part}
use Rattle.h1_reader.specs.Parts.Part.{Interim, Final, Body, Trailing, Done}
use Rattle.h1_reader.specs.Told.{head_of, body_of}
use Rattle.h1_reader.specs.Views.{part_of, parts_of}
use Rattle.h1_reader.specs.Standing.{is_end, is_done}
use Rattle.h1_reader.specs.declared.piece.Piece.{Piece}
use Rattle.h1_reader.specs.declared.piece.Piece.TheVariants as piece
use Rattle.h1_reader.proofs.ToldLaws.{body_more}
use Rattle.model.specs.ResponseHeads.{Head}

-- the status of the final head among parts, and how many octets of a body they have
abbrev pub status_in : List Part → Option ℕ
status_in parts = option_map (λ (head : Head). head.status) (head_of parts)

abbrev pub octets_in : List Part → ℕ
octets_in parts = length (body_of parts)

-- one of them is the last
pub any_is_done : (pieces : List Piece) → list_any (λ piece. is_end (part_of piece)) pieces ≡ is_done (parts_of pieces)
any_is_done [] = refl
any_is_done (p ∷ pieces) = ap (λ b. is_end (part_of p) || b) (any_is_done pieces)

-- the status of parts and further ones
pub status_append : (front back : List Part) → status_in (front ++ back) ≡ option_or (status_in front) (status_in back)
status_append [] back = refl
status_append (Interim head ∷ parts) back = status_append parts back
status_append (Final head ∷ parts) back = refl
status_append (Body octets ∷ parts) back = status_append parts back
status_append (Trailing fields ∷ parts) back = status_append parts back
status_append (Done ∷ parts) back = status_append parts back

-- the pieces up to a place, with the piece there
pub parts_next : (pieces : List Piece) (i : ℕ) (p : Piece) → i < length pieces → p ≡ get_or pieces i p → parts_of (take (i + 1) pieces) ≡ parts_of (take i pieces) ++ part_of p ∷ []
parts_next pieces i p less at =
    ap (λ n. parts_of (take n pieces)) (add-one i)
    ∙ ap parts_of (take-suc pieces i p less ∙ ap (λ q. take i pieces ++ q ∷ []) (sym at))
    ∙ map-append part_of (take i pieces) (p ∷ [])

-- none of them has a status
pub none_more : (pieces : List Piece) (i : ℕ) (p : Piece) → i < length pieces → p ≡ get_or pieces i p → status_in (parts_of (take i pieces)) ≡ None → status_in (part_of p ∷ []) ≡ None → status_in (parts_of (take (i + 1) pieces)) ≡ None
none_more pieces i p less at before here =
    ap status_in (parts_next pieces i p less at)
    ∙ status_append (parts_of (take i pieces)) (part_of p ∷ [])
    ∙ ap (λ s. option_or s (status_in (part_of p ∷ []))) before
    ∙ here

-- one behind those has it
pub found : (pieces : List Piece) (i : ℕ) (p : Piece) (s : ℕ) → i < length pieces → p ≡ get_or pieces i p → status_in (parts_of (take i pieces)) ≡ None → ((rest : List Part) → status_in (part_of p ∷ rest) ≡ Some s) → status_in (parts_of pieces) ≡ Some s
found [] i p s less at none is = absurd (omega (arith, less))
found (q ∷ pieces) zero p s less at none is = ap (λ x. status_in (part_of x ∷ parts_of pieces)) (sym at) ∙ is (parts_of pieces)
found (piece.Interim head ∷ pieces) (suc i) p s less at none is = found pieces i p s (omega (arith, less)) at none is
found (piece.Head head ∷ pieces) (suc i) p s less at none is = absurd (cc)
found (piece.Body octets ∷ pieces) (suc i) p s less at none is = found pieces i p s (omega (arith, less)) at none is
found (piece.Trailers trailers ∷ pieces) (suc i) p s less at none is = found pieces i p s (omega (arith, less)) at none is
found (piece.Done ∷ pieces) (suc i) p s less at none is = found pieces i p s (omega (arith, less)) at none is

-- what is no final head has none
pub no_head : (p : Piece) → ((head : Head) → p ≡ piece.Head head → ⊥) → status_in (part_of p ∷ []) ≡ None
no_head (piece.Interim head) other = refl
no_head (piece.Head head) other = absurd (other head refl)
no_head (piece.Body octets) other = refl
no_head (piece.Trailers trailers) other = refl
no_head piece.Done other = refl

-- ---- octets of a body

-- those of parts and of further ones
pub octets_append : (front back : List Part) → octets_in (front ++ back) ≡ octets_in front + octets_in back
octets_append front back = ap length (body_more front back) ∙ length-append (body_of front) (body_of back)

-- a count goes on, as far as it can
pub counted_on : (front more : ℕ) → min (min front (2 ^ 64 - 1) + more) (2 ^ 64 - 1) ≡ min (front + more) (2 ^ 64 - 1)
counted_on front more = grind arith

-- a piece more is counted
pub counted_next : (pieces : List Piece) (i : ℕ) (p : Piece) (count more next : ℕ) → i < length pieces → p ≡ get_or pieces i p → count ≡ min (octets_in (parts_of (take i pieces))) (2 ^ 64 - 1) → more ≡ octets_in (part_of p ∷ []) → next ≡ min (count + more) (2 ^ 64 - 1)
    → next ≡ min (octets_in (parts_of (take (i + 1) pieces))) (2 ^ 64 - 1)
counted_next pieces i p count more next less at before here is =
    is
    ∙ ap (λ n. min (n + more) (2 ^ 64 - 1)) before
    ∙ counted_on (octets_in (parts_of (take i pieces))) more
    ∙ ap (λ n. min (octets_in (parts_of (take i pieces)) + n) (2 ^ 64 - 1)) here
    ∙ ap (λ n. min n (2 ^ 64 - 1)) (sym (ap octets_in (parts_next pieces i p less at) ∙ octets_append (parts_of (take i pieces)) (part_of p ∷ [])))
