-- What is on offer where nothing was heard of an upstream, and the items of streams that nothing came on.
use Rattle.std.proofs.Common.{◌≡◌, ℕ, ◌+◌, ◌<◌, Bool, true, false, List, [], ◌∷◌, ◌++◌, length, length-append, refl, sym, ap, ◌∙◌, subst, inl, inr, arith, if◌then◌else◌}
use Rattle.std.specs.Prelude.{Option, Some, None}
use Rattle.httparse.specs.Grammar as grammar
use Rattle.httparse.specs.Grammar.{ReadsResponse}
use Rattle.model.specs.Octets.{Joined}
use Rattle.model.specs.Messages.{Item}
use Rattle.model.specs.Setup.{Passing}
use Rattle.model.specs.Setup.Passing.{Whole, Streaming}
use Rattle.model.specs.Tapes.{Entry}
use Rattle.model.specs.Streams.{items_of}
use Rattle.model.specs.ResponseHeads.{Head, Framing, Interim, Final}
use Rattle.model.specs.Responses.{IsComplete, Seen}
use Rattle.model.specs.Deliveries.{Delivery}
use Rattle.model.specs.Available.{shown, IsAnswered, IsBegun}
use Rattle.model.specs.Readiness.{CanGo}
use Rattle.model.specs.Known.{Known}
use Rattle.model.specs.Courses.{course}

-- ---- nothing was heard

-- nothing is no head
none_in_nothing : (h : grammar.ResponseHead) → ReadsResponse [] h [] → ⊥
unfolding grammar.print_response
none_in_nothing h p =
    let e : 0 ≡ length (grammar.print_response h) + 0 = ap length p.1 ∙ length-append (grammar.print_response h) [] in
    let some : 0 < length (grammar.print_response h) = simp length-append (omega arith) in
    omega (arith, e, some)

empty_front : (xs ys : List ℕ) → [] ≡ xs ++ ys → xs ≡ []
empty_front [] ys e = refl
empty_front (x ∷ xs) ys e = cc

empty_rest : (xs ys : List ℕ) → [] ≡ xs ++ ys → ys ≡ []
empty_rest [] ys e = sym e
empty_rest (x ∷ xs) ys e = cc

no_interims : (heads : List Head) → Joined Interim [] heads → heads ≡ []
no_interims [] j = refl
no_interims (head ∷ heads) j =
    let first : j.0 ≡ [] = empty_front j.0 j.1 j.3 in
    let reads : ReadsResponse j.0 j.2.spelled [] = j.2.taken.reads in
    absurd (none_in_nothing j.2.spelled (subst (λ (x : List ℕ). ReadsResponse x j.2.spelled []) first reads))

no_final : (to_head : Bool) (a b c : List ℕ) (head : Head) (framing : Framing) → [] ≡ a ++ (b ++ c) → Final to_head b head framing → ⊥
no_final to_head a b c head framing e f =
    let empty : b ≡ [] = empty_front b c (sym (empty_rest a (b ++ c) e)) in
    none_in_nothing f.spelled (subst (λ (x : List ℕ). ReadsResponse x f.spelled []) empty f.taken.reads)

again : (a b c : List ℕ) → [] ≡ a ++ b ++ c → a ++ (b ++ c) ≡ []
again [] [] c e = sym e
again [] (x ∷ b) c e = cc
again (x ∷ a) b c e = cc

pub nothing_complete : (ended to_head : Bool) → IsComplete [] ended to_head → ⊥
nothing_complete ended to_head c = let r = c.1 in no_final to_head r.front r.head_text r.rest c.0.head r.framing (let e : [] ≡ r.front ++ r.head_text ++ r.rest = r.is in sym (again r.front r.head_text r.rest e)) r.is_final

-- nothing is seen in nothing
nothing_seen : (to_head : Bool) (interims : List Head) (head : Option Head) (octets : List ℕ) → Seen [] to_head interims head octets → (interims ≡ []) × (head ≡ None)
nothing_seen to_head interims None octets seen =
    let s = seen.0 in (no_interims interims (subst (λ (x : List ℕ). Joined Interim x interims) (empty_front s.front s.rest s.is) s.are_interims), refl)
nothing_seen to_head interims (Some head) octets seen = absurd (no_final to_head seen.front seen.head_text seen.rest head seen.framing (sym (again seen.front seen.head_text seen.rest seen.is)) seen.is_final)

-- Nothing is on offer: no head.
abbrev pub OffersNothing : Delivery → Type 0
OffersNothing delivery = (delivery.interims ≡ []) × (delivery.head ≡ None)

pub nothing_begun : (passing : Passing) (ended to_head : Bool) (delivery : Delivery) → IsBegun passing [] ended to_head delivery → OffersNothing delivery
nothing_begun passing ended to_head delivery b =
    let none = nothing_seen to_head b.interims b.head b.octets b.seen in
    (ap (λ (d : Delivery). d.interims) b.says ∙ shown_interims passing ∙ none.0, ap (λ (d : Delivery). d.head) b.says ∙ shown_head passing none.1)
  where
    shown_interims : (p : Passing) → (shown p b.interims b.head b.octets).interims ≡ b.interims
    shown_interims Whole = refl
    shown_interims Streaming = refl

    shown_head : (p : Passing) → b.head ≡ None → (shown p b.interims b.head b.octets).head ≡ None
    shown_head Whole e = refl
    shown_head Streaming e = e

pub nothing_offered : (ended to_head : Bool) (delivery : Delivery) → IsAnswered [] ended to_head delivery → OffersNothing delivery
nothing_offered ended to_head delivery a = absurd (nothing_complete ended to_head (a.response, a.is_whole))

-- nothing of it can go
pub nothing_goes : (t : List Entry) (stream : ℕ) (read offered : Delivery) → OffersNothing offered → CanGo t stream read offered → ⊥
nothing_goes t stream read offered none (inl next) = let e : [] ≡ read.interims ++ next.head ∷ next.more = sym none.0 ∙ next.is in behind read.interims e
  where
    behind : (heads : List Head) → [] ≡ heads ++ next.head ∷ next.more → ⊥
    behind [] e = cc
    behind (h ∷ heads) e = cc
nothing_goes t stream read offered none (inr (inl next)) = let e : ◌≡◌ {A = Option Head} None (Some next.head) = sym none.1 ∙ next.is in cc
nothing_goes t stream read offered none (inr (inr (inl next))) = let e : ◌≡◌ {A = Option Head} None (Some next.behind.head) = sym none.1 ∙ next.behind.is_offered in cc
nothing_goes t stream read offered none (inr (inr (inr next))) = let e : ◌≡◌ {A = Option Head} None (Some next.0.behind.head) = sym none.1 ∙ next.0.behind.is_offered in cc

-- ---- the items of a stream that nothing came on

-- No entry brings the stream an item.
abbrev pub BringNone : ℕ → List Entry → Type 0
BringNone stream [] = Unit {0}
BringNone stream (e ∷ t) = (items_of stream t e ≡ []) × BringNone stream t

kept_empty : (over : Bool) (xs ys : List Item) → xs ≡ [] → ys ≡ [] → (if over then xs else xs ++ ys) ≡ []
kept_empty true xs ys p q = p
kept_empty false xs ys p q = ap (λ (l : List Item). l ++ ys) p ∙ q

pub no_items : (known : Known) (stream : ℕ) (t : List Entry) → BringNone stream t → (course known stream t).items ≡ []
no_items known stream [] b = refl
no_items known stream (e ∷ t) b =
    let before = course known stream t in
    kept_empty _ before.items (items_of stream t e) (no_items known stream t b.1) b.0
