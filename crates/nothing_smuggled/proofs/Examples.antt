-- A tape on which a request is sent twice smuggles something, be it on two connections or behind itself on one.
use Rattle.std.proofs.Common.{◌≡◌, ℕ, true, false, codes, ◌==◌, if◌then◌else◌, List, [], ◌∷◌, ◌++◌, length, length-append, ◌+◌, refl, sym, ap, ◌∙◌, subst, inl, inr, arith}
use Rattle.std.proofs.lemmas.Bool.Decides.{eqb_tells}
use Rattle.model.specs.Messages.{Request, Item}
use Rattle.model.specs.Messages.Item.{Block}
use Rattle.model.specs.Http1.{H1Open, H1Requests, forward}
use Rattle.model.specs.Http2.{H2Request}
use Rattle.model.specs.Logs.Act.{Open, ToUp}
use Rattle.model.specs.Tapes.{Entry, came}
use Rattle.model.specs.Tapes.Entry.{Came, Did}
use Rattle.model.specs.Available.{items_on}
use Rattle.model.proofs.FirstLog.{head, text, tape, settings_came, headers_came, request, reads, nothing_begins_none}
use Rattle.model.proofs.Http1Readings.{one_list}
use Rattle.model.proofs.Http1Texts.{kept_get_open}
use Rattle.nothing_smuggled.specs.Smuggling.{Asked, Means, AllMean, AreApart, forwarded, IsNone, ShareNone, IsSentAsked, SmugglesNothing}

-- ---- only the stream 1 means a request

none_without : (own more : List Item) (r : Request) → [] ≡ own ++ more → H2Request own r → ⊥
none_without [] more r e h = h.has_head
none_without (item ∷ own) more r e h = absurd (let no : [] ≡ item ∷ (own ++ more) = e in cc)

none_else : (stream : ℕ) → (1 == stream) ≡ false → items_on stream (came tape) ≡ []
none_else stream e = elim (0 == stream) as (λ b. ([] ++ (if b then [] else [])) ++ (if 1 == stream then Block head true ∷ [] else []) ≡ []) [
  | true ↦ ap (λ b. if b then Block head true ∷ [] else []) e
  | false ↦ ap (λ b. if b then Block head true ∷ [] else []) e
]

is_first : (t : List Entry) (a : Asked) → came t ≡ came tape → Means t a → a.stream ≡ 1
is_first t a same m = elim (eqb_tells 1 a.stream) [
  | inl x ↦ sym x.1
  | inr x ↦ absurd (none_without m.own m.more a.request (sym (none_else a.stream x.0) ∙ ap (λ c. items_on a.stream c) (sym same) ∙ m.is) m.reads)
]

-- ---- what is asked where requests are read

record IsAsked (t : List Entry) (asked : List Asked) : Type 0 where
  first : Asked
  earlier : List Asked
  is : asked ≡ first ∷ earlier
  on : first.stream ≡ 1

some_asked : (t : List Entry) (asked : List Asked) (requests : List Request) (r : Request) → came t ≡ came tape → AllMean t asked → forwarded asked ≡ requests ++ r ∷ [] → IsAsked t asked
some_asked t [] requests r same m is = absurd (let none : 0 ≡ length requests + 1 = ap length is ∙ length-append requests (r ∷ []) in omega (arith, none))
some_asked t (a ∷ asked) requests r same m is = record { first = a; earlier = asked; is = refl; on = is_first t a same m.0 }

-- ---- the request goes out on a second connection too

abbrev sent_on_two : List Entry
sent_on_two = Did (ToUp 2 text) ∷ Did (Open 2 0) ∷ tape

one_read : H1Requests text (forward request ∷ []) []
one_read = record { front = text; is = refl; are_requests = reads; no_more = nothing_begins_none }

asked_once : (asked : List Asked) → IsSentAsked sent_on_two text asked → IsAsked sent_on_two asked
asked_once asked s = some_asked sent_on_two asked [] (forward request) refl s.mean (one_list text (forwarded asked) (forward request ∷ []) s.rest [] s.reads one_read).0

shared : (a b : List Asked) → IsAsked sent_on_two a → IsAsked sent_on_two b → ShareNone a b → ⊥
shared a b x y s =
    let none = (subst (λ l. ShareNone l b) x.is s).0 in
    (subst (λ l. IsNone x.first.stream l) y.is none).0 (x.on ∙ sym y.on)

pub on_two_connections : SmugglesNothing sent_on_two → ⊥
on_two_connections h = shared (h.asked 1) (h.asked 2) (asked_once (h.asked 1) (h.sent 1)) (asked_once (h.asked 2) (h.sent 2)) (h.share_none 1 2 (λ same. omega (arith, same)))

-- ---- the request goes out twice on one connection that is kept

abbrev kept : List ℕ
kept = codes "GET / HTTP/1.1\r\nhost: a\r\nvia: 2.0 h2gw\r\n\r\n"

-- the tape before its request goes out
abbrev came_alone : List Entry
came_alone = Came headers_came ∷ Came settings_came ∷ []

abbrev sent_twice : List Entry
sent_twice = Did (ToUp 1 (kept ++ kept)) ∷ Did (Open 1 0) ∷ came_alone

stays_open : H1Open kept (forward request)
stays_open = kept_get_open (codes "GET") (codes "/") (codes "a") refl refl refl

two_read : H1Requests (kept ++ kept) (forward request ∷ forward request ∷ []) []
two_read = record { front = kept ++ kept; is = refl; are_requests = (kept, kept, refl, stays_open, stays_open.reads); no_more = nothing_begins_none }

same_stream : (t : List Entry) (asked : List Asked) (r s : Request) → came t ≡ came tape → AllMean t asked → AreApart asked → forwarded asked ≡ r ∷ s ∷ [] → ⊥
same_stream t [] r s same m a is = cc
same_stream t (x ∷ []) r s same m a is = cc
same_stream t (x ∷ y ∷ asked) r s same m a is = a.0.0 (is_first t x same m.0 ∙ sym (is_first t y same m.1.0))

pub twice_on_one_connection : SmugglesNothing sent_twice → ⊥
twice_on_one_connection h =
    let s = h.sent 1 in
    same_stream sent_twice (h.asked 1) (forward request) (forward request) refl s.mean s.apart (one_list (kept ++ kept) (forwarded (h.asked 1)) (forward request ∷ forward request ∷ []) s.rest [] s.reads two_read).0
