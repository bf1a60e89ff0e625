-- A front of a text of requests reads as the first of them, and a rest that begins none.
use Rattle.std.proofs.Common.{◌≡◌, ℕ, ◌⊎◌, List, [], ◌∷◌, ◌++◌, refl, sym, ap, ◌∙◌, append_assoc, inl, inr}
use Rattle.std.proofs.lemmas.List.{append-nil}
use Rattle.model.specs.Messages.{Request}
use Rattle.model.specs.Http1.{H1Request, H1Requests, AreRequests, BeginsNoRequest, forward}
use Rattle.model.proofs.Http1Runs.{same_rest}
use Rattle.model.proofs.Http1Readings.{one_request}
use Rattle.model.proofs.FirstLog.{nothing_begins_none}
use Rattle.nothing_smuggled.specs.Smuggling.{Asked, forwarded}

-- ---- where two texts part

-- The one goes on to the other.
record GoesOn (a b x y : List ℕ) : Type 0 where
  pub more : List ℕ
  pub is : b ≡ a ++ more
  pub rest : x ≡ more ++ y

parted : (a b x y : List ℕ) → a ++ x ≡ b ++ y → GoesOn a b x y ⊎ GoesOn b a y x
parted [] b x y e = inl (record { more = b; is = refl; rest = e })
parted (octet ∷ a) [] x y e = inr (record { more = octet ∷ a; is = refl; rest = sym e })
parted (octet ∷ a) (other ∷ b) x y e = by (parted a b x y (let rest : a ++ x ≡ b ++ y = cc in rest))
  where
    same : octet ≡ other
    same = cc

    by : GoesOn a b x y ⊎ GoesOn b a y x → GoesOn (octet ∷ a) (other ∷ b) x y ⊎ GoesOn (other ∷ b) (octet ∷ a) y x
    by (inl g) = inl (record { more = g.more; is = ap (λ l. other ∷ l) g.is ∙ ap (λ o. o ∷ a ++ g.more) (sym same); rest = g.rest })
    by (inr g) = inr (record { more = g.more; is = ap (λ l. octet ∷ l) g.is ∙ ap (λ o. o ∷ b ++ g.more) same; rest = g.rest })

-- ---- the last of requests

record EndsWith (text : List ℕ) (requests : List Request) (request : Request) : Type 0 where
  pub front : List ℕ
  pub last : List ℕ
  pub is : text ≡ front ++ last
  pub before : AreRequests front requests
  pub reads : H1Request last request

last_of : (text : List ℕ) (requests : List Request) (request : Request) → AreRequests text (requests ++ request ∷ []) → EndsWith text requests request
last_of text [] request p = record { front = []; last = text; is = refl; before = refl; reads = p }
last_of text (r ∷ []) request p = record { front = p.0; last = p.1; is = p.2; before = p.3.reads; reads = p.4 }
last_of text (r ∷ s ∷ requests) request p =
    let more = last_of p.1 (s ∷ requests) request p.4 in record {
      front = p.0 ++ more.front;
      last = more.last;
      is = p.2 ∙ ap (λ l. p.0 ++ l) more.is ∙ sym (append_assoc p.0 more.front more.last);
      before = (p.0, more.front, refl, p.3, more.before);
      reads = more.reads;
    }

-- ---- what begins no request

front_begins_none : (text front more : List ℕ) → BeginsNoRequest text → text ≡ front ++ more → BeginsNoRequest front
front_begins_none text front more none is first rest request reads e =
    none first (rest ++ more) request reads (is ∙ ap (λ l. l ++ more) e ∙ append_assoc first rest more)

-- a request's text, but for its end
cut_begins_none : (last front : List ℕ) (octet : ℕ) (more : List ℕ) (request : Request) → H1Request last request → last ≡ front ++ octet ∷ more → BeginsNoRequest front
cut_begins_none last front octet more request reads is first rest other begins e =
    let all : last ++ [] ≡ first ++ (rest ++ octet ∷ more) = append-nil last ∙ is ∙ ap (λ l. l ++ octet ∷ more) e ∙ append_assoc first rest (octet ∷ more) in
    let same = one_request last first [] (rest ++ octet ∷ more) request other reads begins all in
    none rest (same_rest last first [] (rest ++ octet ∷ more) same.0 all)
  where
    none : (l : List ℕ) → [] ≡ l ++ octet ∷ more → ⊥
    none [] clash = cc
    none (o ∷ l) clash = cc

-- ---- fronts

-- These are the first of them, the newest first, and the text reads as these and a rest that begins none.
pub record ReadsAsFirst (asked : List Asked) (text : List ℕ) : Type 0 where
  pub later : List Asked
  pub first : List Asked
  pub are : asked ≡ later ++ first
  pub rest : List ℕ
  pub reads : H1Requests text (forwarded first) rest

-- by where a text ends: within the last request, before it, or behind it
by_parts : (a : Asked) (asked : List Asked) (front rest text more : List ℕ) → AreRequests front (forwarded (a ∷ asked)) → BeginsNoRequest rest
    → (end : EndsWith front (forwarded asked) (forward a.request)) → ((cut : List ℕ) → end.front ≡ text ++ cut → ReadsAsFirst asked text)
    → GoesOn front text rest more ⊎ GoesOn text front more rest → ReadsAsFirst (a ∷ asked) text
by_parts a asked front rest text more p none end before = by
  where
    all : GoesOn front text rest more → ReadsAsFirst (a ∷ asked) text
    all g = record {
      later = [];
      first = a ∷ asked;
      are = refl;
      rest = g.more;
      reads = record { front = front; is = g.is; are_requests = p; no_more = front_begins_none rest g.more more none g.rest };
    }

    earlier : ReadsAsFirst asked text → ReadsAsFirst (a ∷ asked) text
    earlier r = record { later = a ∷ r.later; first = r.first; are = ap (λ l. a ∷ l) r.are; rest = r.rest; reads = r.reads }

    within : (octet : ℕ) (cut : List ℕ) → GoesOn end.front text end.last (octet ∷ cut) ⊎ GoesOn text end.front (octet ∷ cut) end.last → ReadsAsFirst (a ∷ asked) text
    within octet cut (inl g) = record {
      later = a ∷ [];
      first = asked;
      are = refl;
      rest = g.more;
      reads = record { front = end.front; is = g.is; are_requests = end.before; no_more = cut_begins_none end.last g.more octet cut (forward a.request) end.reads g.rest };
    }
    within octet cut (inr g) = earlier (before g.more g.is)

    short : (cut : List ℕ) → front ≡ text ++ cut → more ≡ cut ++ rest → ReadsAsFirst (a ∷ asked) text
    short [] is on = all (record { more = []; is = sym (append-nil text) ∙ sym is ∙ sym (append-nil front); rest = sym on })
    short (octet ∷ cut) is on = within octet cut (parted end.front text end.last (octet ∷ cut) (sym end.is ∙ is))

    by : GoesOn front text rest more ⊎ GoesOn text front more rest → ReadsAsFirst (a ∷ asked) text
    by (inl g) = all g
    by (inr g) = short g.more g.is g.rest

pub front_reads : (asked : List Asked) (front rest text more : List ℕ) → AreRequests front (forwarded asked) → BeginsNoRequest rest → front ++ rest ≡ text ++ more → ReadsAsFirst asked text
front_reads [] front rest text more p none e = record {
  later = [];
  first = [];
  are = refl;
  rest = text;
  reads = record { front = []; is = refl; are_requests = refl; no_more = front_begins_none rest text more none (ap (λ l. l ++ rest) (sym p) ∙ e) };
}
front_reads (a ∷ asked) front rest text more p none e =
    let end = last_of front (forwarded asked) (forward a.request) p in
    let earlier = λ (cut : List ℕ) (is : end.front ≡ text ++ cut). front_reads asked end.front [] text cut end.before nothing_begins_none (append-nil end.front ∙ is) in
    by_parts a asked front rest text more p none end earlier (parted front text rest more e)
