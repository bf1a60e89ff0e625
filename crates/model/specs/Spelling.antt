-- How a request is spelled where it is sent on: in one way, of all those that a server reads as it.
use Rattle.std.specs.Prelude.{◌≡◌, ℕ, Bool, true, not, List, [], ◌∷◌, ◌++◌}
use Rattle.std.specs.List.{concat, list_all}
use Rattle.model.specs.Octets.{IsFront, is_empty}
use Rattle.model.specs.Messages.{Field, Request, Item}
use Rattle.model.specs.Messages.Item.{Block}
use Rattle.model.specs.Http1.{H1Request}
use Rattle.model.specs.Http1Text.{framing_of, head_text, content_of}
use Rattle.model.specs.Http2.{HasLength, declared_length, request_of}

-- The text of a whole request with this head, which ended its stream or didn't: the head, with one line that says how the body is framed,
-- or none, and a body of the declared length, or in chunks.
pub record IsSpelling (keep : Bool) (head : List Field) (ended : Bool) (text : List ℕ) : Type 0 where
  pub pieces : List (List ℕ)
  pub trailers : List Field
  pub are_full : list_all (λ piece. not (is_empty piece)) pieces ≡ true
  pub has_length : HasLength (declared_length head) (concat pieces)
  pub is : text ≡ head_text keep (request_of head [] []) (framing_of (declared_length head) ended)
      ++ content_of (declared_length head) ended pieces trailers

-- What was sent of the request that these items begin with is spelled so, as far as it goes; and if it reads as a request, it goes to
-- the end.
pub record IsSpelled (keep : Bool) (items : List Item) (text : List ℕ) : Type 0 where
  pub head : List Field
  pub ended : Bool
  pub more : List Item
  pub is : items ≡ Block head ended ∷ more
  pub whole : List ℕ
  pub spelling : IsSpelling keep head ended whole
  pub front : IsFront text whole
  pub to_the_end : (request : Request) → H1Request text request → text ≡ whole
