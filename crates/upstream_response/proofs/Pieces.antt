-- Pieces one after another: whether they are the last, how many octets of a body they have, and what waits and goes on offer of them.
use Rattle.std.proofs.Common.{◌≡◌, ℕ, zero, suc, ◌+◌, ◌<◌, ◌≤◌, Bool, true, false, ◌||◌, List, [], ◌∷◌, ◌++◌, length, take, drop, get_or, Option, Some, None, refl, sym, ◌∙◌, ap, append_assoc, append-nil, length-append, add-one, arith}
use Rattle.std.proofs.Math.Seq.{take-suc}
use Rattle.std.proofs.lemmas.List.{map-append, take-append-drop}
use Rattle.std.proofs.lemmas.List.Folds.{list_any-append}
use Rattle.model.specs.ResponseHeads.{Head}
use Rattle.model.specs.Setup.{Passing}
use Rattle.model.specs.Setup.Passing.{Whole, Streaming}
use Rattle.model.specs.Deliveries.{Delivery, End}
use Rattle.theory_responses.specs.Outbox.{Outbox, first_head, first_end, grown}
use Rattle.theory_responses.specs.Outbox.Outbox.{Before, Behind, Over}
use Rattle.h1_reader.specs.Parts.{Part}
use Rattle.h1_reader.specs.Views.{part_of, parts_of}
use Rattle.h1_reader.specs.Standing.{is_end, is_done}
use Rattle.h1_reader.specs.declared.piece.Piece.{Piece}
use Rattle.upstream_response.specs.Telling.{interims_of, head_of, body_of, trailers_of}
use Rattle.upstream_response.proofs.Reading.{interims_more, head_more, body_more, trailers_more}
use Rattle.upstream_response.specs.Waiting.{Answer, waiting, news_at_once, passing_in}

-- ---- a piece more

-- the pieces up to a place, with the piece there
pub parts_next : (pieces : List Piece) (i : ℕ) (p : Piece) → i < length pieces → p ≡ get_or pieces i p → parts_of (take (i + 1) pieces) ≡ parts_of (take i pieces) ++ part_of p ∷ []
parts_next pieces i p less at =
    ap (λ n. parts_of (take n pieces)) (add-one i)
    ∙ ap parts_of (take-suc pieces i p less ∙ ap (λ q. take i pieces ++ q ∷ []) (sym at))
    ∙ map-append part_of (take i pieces) (p ∷ [])

-- none of them is the last
pub none_more : (pieces : List Piece) (i : ℕ) (p : Piece) → i < length pieces → p ≡ get_or pieces i p → is_done (parts_of (take i pieces)) ≡ false → is_end (part_of p) ≡ false → is_done (parts_of (take (i + 1) pieces)) ≡ false
none_more pieces i p less at before here =
    ap is_done (parts_next pieces i p less at)
    ∙ list_any-append is_end (parts_of (take i pieces)) (part_of p ∷ [])
    ∙ ap (λ b. b || (is_end (part_of p) || false)) before
    ∙ ap (λ b. b || false) here

-- a piece is the last
pub one_ends : (pieces : List Piece) (i : ℕ) (p : Piece) → i < length pieces → p ≡ get_or pieces i p → is_end (part_of p) ≡ true → is_done (parts_of pieces) ≡ true
one_ends [] i p less at here = absurd (omega (arith, less))
one_ends (q ∷ pieces) zero p less at here = ap (λ x. is_end (part_of x) || is_done (parts_of pieces)) (sym at) ∙ ap (λ b. b || is_done (parts_of pieces)) here
one_ends (q ∷ pieces) (suc i) p less at here = ap (λ b. is_end (part_of q) || b) (one_ends pieces i p (omega (arith, less)) at here) ∙ or_true (is_end (part_of q))
  where
    or_true : (a : Bool) → (a || true) ≡ true
    or_true true = refl
    or_true false = refl

-- ---- octets of a body

-- so many octets more
pub count_next : (pieces : List Piece) (i : ℕ) (p : Piece) → i < length pieces → p ≡ get_or pieces i p → length (body_of (parts_of (take (i + 1) pieces))) ≡ length (body_of (parts_of (take i pieces))) + length (body_of (part_of p ∷ []))
count_next pieces i p less at =
    ap (λ ps. length (body_of ps)) (parts_next pieces i p less at)
    ∙ ap length (body_more (parts_of (take i pieces)) (part_of p ∷ []))
    ∙ length-append (body_of (parts_of (take i pieces))) (body_of (part_of p ∷ []))

-- pieces up to a place have no more octets than all
pub count_front : (pieces : List Piece) (n : ℕ) → length (body_of (parts_of (take n pieces))) ≤ length (body_of (parts_of pieces))
count_front pieces n =
    let all : length (body_of (parts_of pieces)) ≡ length (body_of (parts_of (take n pieces))) + length (body_of (parts_of (drop n pieces))) =
    ap (λ ps. length (body_of (parts_of ps))) (sym (take-append-drop n pieces))
    ∙ ap (λ ps. length (body_of ps)) (map-append part_of (take n pieces) (drop n pieces))
    ∙ ap length (body_more (parts_of (take n pieces)) (parts_of (drop n pieces)))
    ∙ length-append (body_of (parts_of (take n pieces))) (body_of (parts_of (drop n pieces))) in
    omega (arith, all)

-- ---- what waits, and what goes on offer

first_twice : (a b c : Option Head) → first_head (first_head a b) c ≡ first_head a (first_head b c)
first_twice None b c = refl
first_twice (Some head) b c = refl

end_twice : (a b c : End) → first_end (first_end a b) c ≡ first_end a (first_end b c)
end_twice None b c = refl
end_twice (Some trailers) b c = refl

end_none : (end : End) → end ≡ first_end end None
end_none None = refl
end_none (Some trailers) = refl

-- news and news behind them
abbrev pub both : Delivery → Delivery → Delivery
both a b = record { interims = a.interims ++ b.interims; head = first_head a.head b.head; body = a.body ++ b.body; ends = first_end a.ends b.ends }

pub grown_twice : (box : Outbox) (a b : Delivery) → grown (grown box a) b ≡ grown box (both a b)
grown_twice (Before interims head body whole) a b =
    ap (λ hs. Before hs (first_head (first_head head a.head) b.head) ((body ++ a.body) ++ b.body) (first_end (first_end whole a.ends) b.ends)) (append_assoc interims a.interims b.interims)
    ∙ ap (λ h. Before (interims ++ (a.interims ++ b.interims)) h ((body ++ a.body) ++ b.body) (first_end (first_end whole a.ends) b.ends)) (first_twice head a.head b.head)
    ∙ ap (λ os. Before (interims ++ (a.interims ++ b.interims)) (first_head head (first_head a.head b.head)) os (first_end (first_end whole a.ends) b.ends)) (append_assoc body a.body b.body)
    ∙ ap (λ e. Before (interims ++ (a.interims ++ b.interims)) (first_head head (first_head a.head b.head)) (body ++ (a.body ++ b.body)) e) (end_twice whole a.ends b.ends)
grown_twice (Behind body whole) a b =
    ap (λ os. Behind os (first_end (first_end whole a.ends) b.ends)) (append_assoc body a.body b.body) ∙ ap (λ e. Behind (body ++ (a.body ++ b.body)) e) (end_twice whole a.ends b.ends)
grown_twice Over a b = refl

-- nothing new
pub grown_none : (box : Outbox) (passing : Passing) → box ≡ grown box (news_at_once passing [])
grown_none (Before interims head body whole) passing = cases passing
  where
    first_none : (h : Option Head) → h ≡ first_head h None
    first_none None = refl
    first_none (Some x) = refl

    same : Before interims head body whole ≡ Before (interims ++ []) (first_head head None) (body ++ []) (first_end whole None)
    same =
        ap (λ hs. Before hs head body whole) (sym (append-nil interims))
        ∙ ap (λ h. Before (interims ++ []) h body whole) (first_none head)
        ∙ ap (λ os. Before (interims ++ []) (first_head head None) os whole) (sym (append-nil body))
        ∙ ap (λ e. Before (interims ++ []) (first_head head None) (body ++ []) e) (end_none whole)

    cases : (p : Passing) → Before interims head body whole ≡ grown (Before interims head body whole) (news_at_once p [])
    cases Whole = same
    cases Streaming = same
grown_none (Behind body whole) passing = cases passing
  where
    same : Behind body whole ≡ Behind (body ++ []) (first_end whole None)
    same = ap (λ os. Behind os whole) (sym (append-nil body)) ∙ ap (λ e. Behind (body ++ []) e) (end_none whole)

    cases : (p : Passing) → Behind body whole ≡ grown (Behind body whole) (news_at_once p [])
    cases Whole = same
    cases Streaming = same
grown_none Over passing = refl

-- pieces and one more
pub once_more : (passing : Passing) (parts added : List Part) → both (news_at_once passing parts) (news_at_once passing added) ≡ news_at_once passing (parts ++ added)
once_more Whole parts added = ap (λ hs. let n : Delivery = record { interims = hs; head = None; body = []; ends = None } in n) (sym (interims_more parts added))
once_more Streaming parts added =
    ap (λ hs. let n : Delivery = record { interims = hs; head = first_head (head_of parts) (head_of added); body = body_of parts ++ body_of added; ends = None } in n) (sym (interims_more parts added))
    ∙ ap (λ h. let n : Delivery = record { interims = interims_of (parts ++ added); head = h; body = body_of parts ++ body_of added; ends = None } in n) (sym (head_more parts added))
    ∙ ap (λ os. let n : Delivery = record { interims = interims_of (parts ++ added); head = head_of (parts ++ added); body = os; ends = None } in n) (sym (body_more parts added))

pub offers_more : (passing : Passing) (box now next : Outbox) (parts added : List Part) → now ≡ grown box (news_at_once passing parts) → next ≡ grown now (news_at_once passing added) → next ≡ grown box (news_at_once passing (parts ++ added))
offers_more passing box now next parts added is more =
    more ∙ ap (λ b. grown b (news_at_once passing added)) is ∙ grown_twice box (news_at_once passing parts) (news_at_once passing added) ∙ ap (grown box) (once_more passing parts added)

pub waits_none : (passing : Passing) (a : Answer) → a ≡ waiting passing a None [] None
waits_none Whole a =
    ap (λ h. let r : Answer = record { reader = a.reader; way = a.way; head = h; body = a.body; trailers = a.trailers } in r) (first_none a.head)
    ∙ ap (λ os. let r : Answer = record { reader = a.reader; way = a.way; head = first_head a.head None; body = os; trailers = a.trailers } in r) (sym (append-nil a.body))
    ∙ ap (λ t. let r : Answer = record { reader = a.reader; way = a.way; head = first_head a.head None; body = a.body ++ []; trailers = t } in r) (end_none a.trailers)
  where
    first_none : (x : Option Head) → x ≡ first_head x None
    first_none None = refl
    first_none (Some x) = refl
waits_none Streaming a = ap (λ t. let r : Answer = record { reader = a.reader; way = a.way; head = a.head; body = a.body; trailers = t } in r) (end_none a.trailers)

pub waits_more : (passing : Passing) (a now next : Answer) (parts added : List Part) → passing_in now.way ≡ passing → now ≡ waiting passing a (head_of parts) (body_of parts) (trailers_of parts)
    → next ≡ waiting (passing_in now.way) now (head_of added) (body_of added) (trailers_of added) → next ≡ waiting passing a (head_of (parts ++ added)) (body_of (parts ++ added)) (trailers_of (parts ++ added))
waits_more passing a now next parts added way is more =
    more ∙ ap (λ p. waiting p now (head_of added) (body_of added) (trailers_of added)) way ∙ ap (λ n. waiting passing n (head_of added) (body_of added) (trailers_of added)) is ∙ joined passing
  where
    told : first_end (first_end a.trailers (trailers_of parts)) (trailers_of added) ≡ first_end a.trailers (trailers_of (parts ++ added))
    told = end_twice a.trailers (trailers_of parts) (trailers_of added) ∙ ap (first_end a.trailers) (sym (trailers_more parts added))

    joined : (p : Passing) → waiting p (waiting p a (head_of parts) (body_of parts) (trailers_of parts)) (head_of added) (body_of added) (trailers_of added) ≡ waiting p a (head_of (parts ++ added)) (body_of (parts ++ added)) (trailers_of (parts ++ added))
    joined Whole =
        ap (λ h. let r : Answer = record { reader = a.reader; way = a.way; head = h; body = (a.body ++ body_of parts) ++ body_of added; trailers = first_end (first_end a.trailers (trailers_of parts)) (trailers_of added) } in r) (first_twice a.head (head_of parts) (head_of added) ∙ ap (first_head a.head) (sym (head_more parts added)))
        ∙ ap (λ os. let r : Answer = record { reader = a.reader; way = a.way; head = first_head a.head (head_of (parts ++ added)); body = os; trailers = first_end (first_end a.trailers (trailers_of parts)) (trailers_of added) } in r) (append_assoc a.body (body_of parts) (body_of added) ∙ ap (λ os. a.body ++ os) (sym (body_more parts added)))
        ∙ ap (λ t. let r : Answer = record { reader = a.reader; way = a.way; head = first_head a.head (head_of (parts ++ added)); body = a.body ++ body_of (parts ++ added); trailers = t } in r) told
    joined Streaming = ap (λ t. let r : Answer = record { reader = a.reader; way = a.way; head = a.head; body = a.body; trailers = t } in r) told
