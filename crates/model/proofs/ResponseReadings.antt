-- A text has at most one whole response.
use Rattle.std.proofs.Common.{◌≡◌, ℕ, Bool, List, sym, ◌∙◌, subst}
use Rattle.model.specs.ResponseHeads.{Framing}
use Rattle.model.specs.Responses.{Response, H1Response, HasBody}
use Rattle.model.proofs.ResponseHeadReadings.{one_front}
use Rattle.model.proofs.ResponseBodies.{one_body}

response_same : (r s : Response) → r.interims ≡ s.interims → r.head ≡ s.head → r.body ≡ s.body → r.trailers ≡ s.trailers → r ≡ s
response_same r s a b c d = λ i. record { interims = a i; head = b i; body = c i; trailers = d i }

pub one_response : (text : List ℕ) (ended to_head : Bool) (r s : Response) → H1Response text ended to_head r → H1Response text ended to_head s → r ≡ s
one_response text ended to_head r s p q =
    let same = one_front to_head p.front q.front p.head_text q.head_text p.rest q.rest r.interims s.interims r.head s.head p.framing q.framing
    p.are_interims q.are_interims p.is_final q.is_final (sym p.is ∙ q.is) in
    let framed : HasBody p.framing ended q.rest r.body r.trailers = subst (λ (t : List ℕ). HasBody p.framing ended t r.body r.trailers) same.final.rest p.body in
    let other : HasBody p.framing ended q.rest s.body s.trailers = subst (λ (f : Framing). HasBody f ended q.rest s.body s.trailers) (sym same.final.framing) q.body in
    let bodies = one_body p.framing ended q.rest r.body s.body r.trailers s.trailers framed other in
    response_same r s same.interims same.final.head bodies.0 bodies.1
