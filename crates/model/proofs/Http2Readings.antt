-- A stream's items mean one request.
use Rattle.std.proofs.Common.{◌≡◌, List, [], ◌∷◌, sym, ap, ◌∙◌}
use Rattle.model.specs.Messages.{Field, Request, Item}
use Rattle.model.specs.Messages.Item.{Block, Content}
use Rattle.model.specs.Http2.{HasHead, H2Request, body_of, trailers_of, request_of}

pub one_block : (items : List Item) (head other : List Field) → HasHead items head → HasHead items other → head ≡ other
one_block [] head other p q = absurd p
one_block (Block fields ends ∷ items) head other p q = sym p ∙ q
one_block (Content octets ends ∷ items) head other p q = absurd p

pub one_meaning : (items : List Item) (r s : Request) → H2Request items r → H2Request items s → r ≡ s
one_meaning items r s p q =
    p.is ∙ ap (λ (head : List Field). request_of head (body_of items) (trailers_of items)) (one_block items p.head q.head p.has_head q.has_head) ∙ sym q.is
