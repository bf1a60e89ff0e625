-- No request's text begins another's, so what was sent on a connection is one list of requests.
use Rattle.std.proofs.Common.{◌≡◌, ℕ, true, List, [], ◌∷◌, ◌++◌, refl, sym, ap, ◌∙◌, subst, append_assoc, inl, inr}
use Rattle.std.specs.Prelude.{codes, ◌&&◌}
use Rattle.std.proofs.lemmas.Bool.{and_parts, or_cases}
use Rattle.std.proofs.lemmas.Slice.Eq.{bytes_eq-Decides}
use Rattle.std.specs.List.{list_all}
use Rattle.std.proofs.lemmas.List.{append_cancel_right, append-nil}
use Rattle.model.specs.Octets.{begins_with, is_token_octet, is_visible, Joined}
use Rattle.model.specs.Messages.{Field, Request}
use Rattle.model.specs.Http1.{crlf, Line, values_of, without, framing_names, Framed, Head, is_target, H1Head, H1Request, AreRequests, H1Requests, BeginsNoRequest}
use Rattle.model.proofs.Http1Runs.{same_rest, run_of_some, one_run, IsPrefixFree, one_joined}
use Rattle.model.proofs.Http1Lines.{one_line, end_begins_none}
use Rattle.model.proofs.Http1Bodies.{one_framed, cons-append, nil-append}

-- a head's text, cut where its parts end
head_regrouped : (method target lines x : List ℕ)
    → (method ++ codes " " ++ target ++ codes " HTTP/1.1" ++ crlf ++ lines ++ crlf) ++ x ≡ method ++ 32 ∷ (target ++ 32 ∷ (codes "HTTP/1.1" ++ (crlf ++ (lines ++ 13 ∷ (10 ∷ x)))))
head_regrouped method target lines x = simp (append_assoc, cons-append, nil-append)

-- the octets of a target are visible
pub target_is_visible : (target : List ℕ) → is_target target ≡ true → list_all is_visible target ≡ true
target_is_visible target p = elim (or_cases (list_all is_visible target && begins_with 47 target) _ p) [
  | inl e ↦ (and_parts (list_all is_visible target) _ e).0
  | inr e ↦ subst (λ (text : List ℕ). list_all is_visible text ≡ true) (sym ((bytes_eq-Decides target (codes "*")).0 e)) refl
]

head_same : (h k : Head) → h.method ≡ k.method → h.target ≡ k.target → h.fields ≡ k.fields → h ≡ k
head_same h k m t f = λ i. record { method = m i; target = t i; fields = f i }

pub one_head : IsPrefixFree H1Head
one_head a b x y h k p q e =
    let whole : h.method ++ 32 ∷ (h.target ++ 32 ∷ (codes "HTTP/1.1" ++ (crlf ++ (p.lines ++ 13 ∷ (10 ∷ x))))) ≡ k.method ++ 32 ∷ (k.target ++ 32 ∷ (codes "HTTP/1.1" ++ (crlf ++ (q.lines ++ 13 ∷ (10 ∷ y))))) =
    sym (head_regrouped h.method h.target p.lines x) ∙ ap (λ (o : List ℕ). o ++ x) (sym p.is) ∙ e ∙ ap (λ (o : List ℕ). o ++ y) q.is ∙ head_regrouped k.method k.target q.lines y in
    let methods = one_run is_token_octet h.method k.method 32 32 _ _ (run_of_some is_token_octet h.method p.method) (run_of_some is_token_octet k.method q.method) refl refl whole in
    let behind_method : h.target ++ 32 ∷ (codes "HTTP/1.1" ++ (crlf ++ (p.lines ++ 13 ∷ (10 ∷ x)))) ≡ k.target ++ 32 ∷ (codes "HTTP/1.1" ++ (crlf ++ (q.lines ++ 13 ∷ (10 ∷ y)))) = cc (methods.1) in
    let targets = one_run is_visible h.target k.target 32 32 _ _ (target_is_visible h.target p.target) (target_is_visible k.target q.target) refl refl behind_method in
    let behind_target : p.lines ++ 13 ∷ (10 ∷ x) ≡ q.lines ++ 13 ∷ (10 ∷ y) = cc (targets.1) in
    let lines = one_joined Line one_line p.lines q.lines _ _ h.fields k.fields p.are_lines q.are_lines (end_begins_none _) (end_begins_none _) behind_target in
    let behind_lines = same_rest p.lines q.lines _ _ lines.0 behind_target in
    let rests : x ≡ y = cc (behind_lines) in
    (append_cancel_right a b x (e ∙ ap (λ (o : List ℕ). b ++ o) (sym rests)), head_same h k methods.0 targets.0 lines.1)

pub request_same : (r s : Request) → r.method ≡ s.method → r.target ≡ s.target → r.authority ≡ s.authority → r.fields ≡ s.fields → r.body ≡ s.body → r.trailers ≡ s.trailers → r ≡ s
request_same r s m t a f b l = λ i. record { method = m i; target = t i; authority = a i; fields = f i; body = b i; trailers = l i }

-- a body's framing by a head's lines
abbrev pub FramedBy : Head → List ℕ → List ℕ → List Field → Type 0
FramedBy head content body trailers = Framed (values_of (codes "content-length") head.fields) (values_of (codes "transfer-encoding") head.fields) content body trailers

pub one_request : IsPrefixFree H1Request
one_request a b x y r s p q e =
    let whole : p.head_text ++ (p.content ++ x) ≡ q.head_text ++ (q.content ++ y) =
    sym (append_assoc p.head_text p.content x) ∙ ap (λ (o : List ℕ). o ++ x) (sym p.is) ∙ e ∙ ap (λ (o : List ℕ). o ++ y) q.is ∙ append_assoc q.head_text q.content y in
    let heads = one_head p.head_text q.head_text _ _ p.head q.head p.has_head q.has_head whole in
    let behind : p.content ++ x ≡ q.content ++ y = same_rest p.head_text q.head_text _ _ heads.0 whole in
    let bodies = one_framed _ _ p.content q.content x y r.body s.body r.trailers s.trailers p.body (subst (λ (head : Head). FramedBy head q.content s.body s.trailers) (sym heads.1) q.body) behind in
    let rests : x ≡ y = same_rest p.content q.content x y bodies.0 behind in
    let hosts : r.authority ∷ [] ≡ s.authority ∷ [] = sym p.authority ∙ ap (λ (head : Head). values_of (codes "host") head.fields) heads.1 ∙ q.authority in
    let methods : r.method ≡ s.method = p.method ∙ ap (λ (head : Head). head.method) heads.1 ∙ sym q.method in
    let targets : r.target ≡ s.target = p.target ∙ ap (λ (head : Head). head.target) heads.1 ∙ sym q.target in
    let authorities : r.authority ≡ s.authority = cc in
    let fields : r.fields ≡ s.fields = p.fields ∙ ap (λ (head : Head). without framing_names head.fields) heads.1 ∙ sym q.fields in
    (append_cancel_right a b x (e ∙ ap (λ (o : List ℕ). b ++ o) (sym rests)), request_same r s methods targets authorities fields bodies.1 bodies.2)

-- a text's head is known, and its lines frame no body: no beginning of the text is a request
pub not_framed : (text rest : List ℕ) (head : Head) → H1Head text head → ((content body : List ℕ) (trailers : List Field) → FramedBy head content body trailers → ⊥) → BeginsNoRequest (text ++ rest)
not_framed text rest head p none front more request q e =
    let whole : text ++ rest ≡ q.head_text ++ (q.content ++ more) = e ∙ ap (λ (o : List ℕ). o ++ more) q.is ∙ append_assoc q.head_text q.content more in
    let heads = one_head text q.head_text _ _ head q.head p q.has_head whole in
    none q.content request.body request.trailers (subst (λ (h : Head). FramedBy h q.content request.body request.trailers) (sym heads.1) q.body)

-- a text's head is known, and hasn't one host: no beginning of the text is a request
pub not_for_one_host : (text rest : List ℕ) (head : Head) → H1Head text head → ((authority : List ℕ) → values_of (codes "host") head.fields ≡ authority ∷ [] → ⊥) → BeginsNoRequest (text ++ rest)
not_for_one_host text rest head p none front more request q e =
    let whole : text ++ rest ≡ q.head_text ++ (q.content ++ more) = e ∙ ap (λ (o : List ℕ). o ++ more) q.is ∙ append_assoc q.head_text q.content more in
    let heads = one_head text q.head_text _ _ head q.head p q.has_head whole in
    none request.authority (subst (λ (h : Head). values_of (codes "host") h.fields ≡ request.authority ∷ []) (sym heads.1) q.authority)

-- requests that stand one behind another are joined
pub joined_requests : (text : List ℕ) (requests : List Request) → AreRequests text requests → Joined H1Request text requests
joined_requests text [] p = p
joined_requests text (request ∷ []) p = (text, [], p, sym (append-nil text), refl)
joined_requests text (request ∷ next ∷ requests) p = (p.0, p.1, p.3.reads, p.2, joined_requests p.1 (next ∷ requests) p.4)

pub one_list : (text : List ℕ) (rs ss : List Request) (rest other : List ℕ) → H1Requests text rs rest → H1Requests text ss other → (rs ≡ ss) × (rest ≡ other)
one_list text rs ss rest other p q =
    let whole : p.front ++ rest ≡ q.front ++ other = sym p.is ∙ q.is in
    let fronts = one_joined H1Request one_request p.front q.front rest other rs ss (joined_requests p.front rs p.are_requests) (joined_requests q.front ss q.are_requests) p.no_more q.no_more whole in
    (fronts.1, same_rest p.front q.front rest other fronts.0 whole)
