-- What is held of requests, where it is found, changed and taken out.
use Rattle.std.proofs.Common.{◌≡◌, ℕ, ◌<◌, ◌≤◌, Bool, true, false, List, [], ◌∷◌, ◌++◌, length, map, take, drop, set, get_or, Some, None, refl, sym, ap, ◌∙◌, subst, arith}
use Rattle.std.specs.Prelude.{Option, zero, suc, reverse, option_map, is_some, IfSome, IfNone}
use Rattle.std.specs.List.{remove}
use Rattle.std.proofs.lemmas.List.{reverse-append, map-append, set-get_or}
use Rattle.model.specs.Messages.{Field}
use Rattle.theory_requests.specs.Lines.{Line, without}
use Rattle.theory_requests.specs.State.{Way, Held, Due, id_of, held_of, held_at, held_with, with_way, to_send, drop_from}
use Rattle.theory_requests.specs.State.Way.{Waiting, Going, Dropped}
use Rattle.theory_requests.specs.State.Due.{Nothing}
use Rattle.h1_writer.specs.Sending.{Stage}
use Rattle.theory_requests.specs.Held.{AreApart}
use Rattle.theory_requests.proofs.Lists.{way_of_own, way_of_other, find_map}
use Rattle.upstream_connections.specs.Requests.{no_held, on_idle, IsHeldAt, IsHeldNowhere, MayTake, MayTakeOf, Gathers, GoesBy, Takes, TakesBy}
use Rattle.upstream_connections.proofs.Lists.{IsOnly, find_none, find_only, without_none, without_only, map_only, turned_none, turned_alone, nowhere}

-- a stream that is held stands at one place
once : (hs : List Held) → AreApart hs → (i j : ℕ) → i < length hs → j < length hs → id_of (get_or hs i no_held) ≡ id_of (get_or hs j no_held) → i ≡ j
once [] apart i j l m same = omega (arith, l)
once (h ∷ hs) apart zero zero l m same = refl
once (h ∷ hs) apart zero (suc j) l m same = absurd (nowhere id_of no_held h.id hs apart.0 j (omega arith) (sym same))
once (h ∷ hs) apart (suc i) zero l m same = absurd (nowhere id_of no_held h.id hs apart.0 i (omega arith) same)
once (h ∷ hs) apart (suc i) (suc j) l m same = ap suc (once hs apart.1 i j (omega arith) (omega arith) same)

module _ (hs : List Held) (apart : AreApart (reverse hs)) (id place : ℕ) where
  module _ (is : IsHeldAt hs id place) where
    only : IsOnly id_of no_held hs id place
    only = record { is = is; alone = turned_alone id_of no_held hs (once (reverse hs) apart) id place is }

    abbrev it : Held
    it = get_or hs place no_held

    pub found : held_of id (reverse hs) ≡ Some it
    found = find_only id_of no_held hs id place only

    pub taken_out : without id_of id (reverse hs) ≡ reverse (remove hs place)
    taken_out = without_only id_of no_held hs id place only

    -- it is changed in its place
    pub held_there : (way : Way) → reverse (set hs place (record { id = id; way = way })) ≡ held_with id (Some way) (reverse hs)
    held_there way =
        ap (λ n. reverse (set hs place (let h : Held = record { id = n; way = way } in h))) (sym is.has_key)
        ∙ ap (λ h. reverse (set hs place h)) (sym (way_of_own id way it is.has_key))
        ∙ sym (map_only id_of no_held hs id place only (with_way id way) (λ h other. way_of_other id way h other))
        ∙ ap (λ o. held_at id way o (reverse hs)) (sym found)

    -- it is on another way
    pub held_on : (x : Held) → x.id ≡ it.id → reverse (set hs place x) ≡ held_with id (Some x.way) (reverse hs)
    held_on x same = ap (λ n. reverse (set hs place (let h : Held = record { id = n; way = x.way } in h))) (same ∙ is.has_key) ∙ held_there x.way

    -- what may come of the stream may come of it
    pub may_there : (octets : List ℕ) (ends : Bool) → MayTakeOf octets ends (held_of id (reverse hs)) → MayTake octets ends it.way
    may_there octets ends may = subst (MayTakeOf octets ends) found may

    -- it stays as it is, where it is dropped
    pub stays_there : (octets : List ℕ) (trailers : List Field) (ends : Bool) → it.way ≡ Dropped → Takes [] id octets trailers ends (reverse hs) (held_of id (reverse hs)) Nothing (reverse hs)
    stays_there octets trailers ends e =
        subst (λ (o : Option Held). Takes [] id octets trailers ends (reverse hs) o Nothing (reverse hs)) (sym found)
        (subst (λ (way : Way). TakesBy [] id octets trailers ends (reverse hs) way Nothing (reverse hs)) (sym e) (refl, refl))

    -- more of its body came
    pub goes_there : (octets : List ℕ) (trailers : List Field) (ends : Bool) (due : Due) (x : Held) → ends ≡ false → x.id ≡ it.id → GoesBy [] it.id octets trailers false it.way due (Some x.way)
        → Takes [] id octets trailers ends (reverse hs) (held_of id (reverse hs)) due (reverse (set hs place x))
    goes_there octets trailers ends due x e same goes =
        subst (λ b. Takes [] id octets trailers b (reverse hs) (held_of id (reverse hs)) due (reverse (set hs place x))) (sym e)
        (subst (λ (o : Option Held). Takes [] id octets trailers false (reverse hs) o due (reverse (set hs place x))) (sym found)
        (by it.way refl (subst (λ n. GoesBy [] n octets trailers false it.way due (Some x.way)) is.has_key goes)))
      where
        by : (way : Way) → it.way ≡ way → GoesBy [] id octets trailers false way due (Some x.way) → TakesBy [] id octets trailers false (reverse hs) way due (reverse (set hs place x))
        by (Waiting route text old body) e g = (Some x.way, g, held_on x same)
        by (Going k old) e g = (Some x.way, g, held_on x same)
        by Dropped e g =
            let some : ◌≡◌ {A = Option Way} (Some x.way) (Some Dropped) = g.1 in
            let way : x.way ≡ it.way = cc in (
              g.0,
              ap (λ n. reverse (set hs place (let h : Held = record { id = n; way = x.way } in h))) same
                  ∙ ap (λ w. reverse (set hs place (let h : Held = record { id = it.id; way = w } in h))) way
                  ∙ ap reverse (set-get_or hs place no_held),
            )

    -- its body ended
    pub ends_there : (octets : List ℕ) (trailers : List Field) (ends : Bool) (due : Due) (left : List Held) → ends ≡ true → left ≡ remove hs place → (it.way ≡ Dropped → ⊥) → GoesBy [] it.id octets trailers true it.way due None
        → Takes [] id octets trailers ends (reverse hs) (held_of id (reverse hs)) due (reverse left)
    ends_there octets trailers ends due left e same on goes =
        subst (λ ys. Takes [] id octets trailers ends (reverse hs) (held_of id (reverse hs)) due (reverse ys)) (sym same)
        (subst (λ b. Takes [] id octets trailers b (reverse hs) (held_of id (reverse hs)) due (reverse (remove hs place))) (sym e)
        (subst (λ (o : Option Held). Takes [] id octets trailers true (reverse hs) o due (reverse (remove hs place))) (sym found)
        (by it.way refl (subst (λ n. GoesBy [] n octets trailers true it.way due None) is.has_key goes))))
      where
        by : (way : Way) → it.way ≡ way → GoesBy [] id octets trailers true way due None → TakesBy [] id octets trailers true (reverse hs) way due (reverse (remove hs place))
        by (Waiting route text old body) e g = (None, g, sym taken_out)
        by (Going k old) e g = (None, g, sym taken_out)
        by Dropped e g = absurd (on e)

-- ---- where nothing is held of a stream

module _ (hs : List Held) (id : ℕ) (none : IsHeldNowhere hs id) where
  pub not_found : held_of id (reverse hs) ≡ None
  not_found = find_none id_of no_held id (reverse hs) (turned_none id_of no_held id hs none)

  pub none_taken : without id_of id (reverse hs) ≡ reverse hs
  none_taken = without_none id_of no_held id (reverse hs) (turned_none id_of no_held id hs none)

  pub held_new : (way : Way) → reverse (hs ++ record { id = id; way = way } ∷ []) ≡ held_with id (Some way) (reverse hs)
  held_new way = reverse-append hs (record { id = id; way = way } ∷ []) ∙ ap (λ o. held_at id way o (reverse hs)) (sym not_found)

  pub none_there : (octets : List ℕ) (trailers : List Field) (ends : Bool) → Takes [] id octets trailers ends (reverse hs) (held_of id (reverse hs)) Nothing (reverse hs)
  none_there octets trailers ends = subst (λ (o : Option Held). Takes [] id octets trailers ends (reverse hs) o Nothing (reverse hs)) (sym not_found) (refl, refl)

-- ---- where connections are idle

-- octets that are due on a connection stay due there
sent_stays : (ls : List Line) (k : ℕ) (octets : List ℕ) → on_idle ls (to_send k octets) ≡ to_send k octets
sent_stays ls k [] = refl
sent_stays ls k (octet ∷ octets) = refl

-- what is due where none is idle is so where some are, with the least in the place of one that is to be opened
pub takes_idle : (ls : List Line) (id : ℕ) (octets : List ℕ) (trailers : List Field) (ends : Bool) (hs new : List Held) (o : Option Held) (due : Due)
    → Takes [] id octets trailers ends hs o due new → Takes ls id octets trailers ends hs o (on_idle ls due) new
takes_idle ls id octets trailers ends hs new None due takes = (ap (on_idle ls) takes.0, takes.1)
takes_idle ls id octets trailers ends hs new (Some h) due takes = by h.way takes
  where
    gathers : (b : Bool) (route : ℕ) (text : List ℕ) (stage : Stage) (body : List ℕ) (next : Option Way) → Gathers [] id octets trailers b route text stage body due next → Gathers ls id octets trailers b route text stage body (on_idle ls due) next
    gathers true route text stage body next g = (record { written = g.0.written; continues = g.0.continues; due_is = ap (on_idle ls) g.0.due_is }, g.1)
    gathers false route text stage body next g = (ap (on_idle ls) g.0, g.1)

    by : (way : Way) → TakesBy [] id octets trailers ends hs way due new → TakesBy ls id octets trailers ends hs way (on_idle ls due) new
    by (Waiting route text stage body) g = (g.0, gathers ends route text stage body g.0 g.1, g.2)
    by (Going k old) g = (
      g.0,
      record {
        written = g.1.written;
        stage = g.1.stage;
        continues = g.1.continues;
        whole = g.1.whole;
        due_is = ap (on_idle ls) g.1.due_is ∙ sent_stays ls k g.1.written;
        next_is = g.1.next_is;
      },
      g.2,
    )
    by Dropped g = (ap (on_idle ls) g.0, g.1)

-- ---- where a connection is closed

-- no stream is held twice, where each keeps its id
pub apart_dropped : (k : ℕ) (hs : List Held) → AreApart hs → AreApart (map (drop_from k) hs)
apart_dropped k [] apart = tt
apart_dropped k (h ∷ hs) apart = (find_map id_of (drop_from k) (λ x. refl) h.id hs ∙ ap (option_map (drop_from k)) apart.0, apart_dropped k hs apart.1)

-- the front of what is held is dropped, and the rest isn't yet
abbrev pub dropped_to : ℕ → ℕ → List Held → List Held
dropped_to k i hs = map (drop_from k) (take i hs) ++ drop i hs

dropped_at : (k i : ℕ) (hs : List Held) (d : Held) → get_or (dropped_to k i hs) i d ≡ get_or hs i d
dropped_at k zero hs d = refl
dropped_at k (suc i) [] d = refl
dropped_at k (suc i) (h ∷ hs) d = dropped_at k i hs d

dropped_more : (k i : ℕ) (hs : List Held) (d : Held) → i < length hs → set (dropped_to k i hs) i (drop_from k (get_or hs i d)) ≡ dropped_to k (suc i) hs
dropped_more k i [] d lt = absurd (omega (arith, lt))
dropped_more k zero (h ∷ hs) d lt = refl
dropped_more k (suc i) (h ∷ hs) d lt = ap (λ ys. drop_from k h ∷ ys) (dropped_more k i hs d (omega arith))

-- one more is dropped
pub dropped_next : (k i : ℕ) (hs now : List Held) (x y : Held) → now ≡ dropped_to k i hs → i < length hs → y ≡ drop_from k (get_or now i x) → set now i y ≡ dropped_to k (suc i) hs
dropped_next k i hs now x y front lt changed =
    let own : get_or now i x ≡ get_or hs i x = ap (λ ys. get_or ys i x) front ∙ dropped_at k i hs x in
    ap (λ ys. set ys i y) front ∙ ap (set (dropped_to k i hs) i) (changed ∙ ap (drop_from k) own) ∙ dropped_more k i hs x lt

dropped_past : (k i : ℕ) (hs : List Held) → length hs ≤ i → dropped_to k i hs ≡ map (drop_from k) hs
dropped_past k zero [] past = refl
dropped_past k zero (h ∷ hs) past = absurd (omega (arith, past))
dropped_past k (suc i) [] past = refl
dropped_past k (suc i) (h ∷ hs) past = ap (λ ys. drop_from k h ∷ ys) (dropped_past k i hs (omega (arith, past)))

front_taken : (xs ys : List Held) → take (length xs) (xs ++ ys) ≡ xs
front_taken [] ys = refl
front_taken (x ∷ xs) ys = ap (λ zs. x ∷ zs) (front_taken xs ys)

-- what is held when they are turned round
pub dropped_turned : (k : ℕ) (hs : List Held) → reverse (map (drop_from k) hs) ≡ map (drop_from k) (reverse hs)
dropped_turned k [] = refl
dropped_turned k (h ∷ hs) =
    reverse-append (drop_from k h ∷ []) (map (drop_from k) hs)
    ∙ ap (λ ys. ys ++ drop_from k h ∷ []) (dropped_turned k hs)
    ∙ sym (map-append (drop_from k) (reverse hs) (h ∷ []))
    ∙ ap (map (drop_from k)) (sym (reverse-append (h ∷ []) hs))

-- behind the last one all are dropped
pub dropped_out : (k i n : ℕ) (hs now : List Held) → now ≡ dropped_to k i hs → length hs ≤ i → n ≡ length now → reverse (take n (now ++ drop (length now) hs)) ≡ map (drop_from k) (reverse hs)
dropped_out k i n hs now front past all =
    ap (λ m. reverse (take m (now ++ drop (length now) hs))) all
    ∙ ap reverse (front_taken now (drop (length now) hs) ∙ front ∙ dropped_past k i hs past)
    ∙ dropped_turned k hs

-- something is held just where there is a place of it
pub holds_at : (hs : List Held) → AreApart (reverse hs) → (id : ℕ) (place : Option ℕ) → IfSome place (IsHeldAt hs id) → IfNone place (IsHeldNowhere hs id) → is_some place ≡ is_some (held_of id (reverse hs))
holds_at hs apart id None there nowhere = sym (ap is_some (not_found hs id nowhere))
holds_at hs apart id (Some place) there nowhere = sym (ap is_some (found hs apart id place there))
