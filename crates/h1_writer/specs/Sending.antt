-- The text of a request as it is sent, piece by piece.
use Rattle.std.specs.Prelude.{◌≡◌, not, ℕ, ◌+◌, ◌<◌, ◌≤◌, Bool, true, false, List, [], ◌∷◌, ◌++◌, length, Option, Some, None}
use Rattle.std.specs.List.{concat, flat_map, list_all}
use Rattle.model.specs.Octets.{IsFront, IsStrictFront, is_empty}
use Rattle.model.specs.Http1.{H1Kept, forward}
use Rattle.model.specs.Messages.{Field}
use Rattle.model.specs.Http1Text.{framing_of, head_text, chunk_text, content_of}
use Rattle.model.specs.Http2.{HasLength}
use Rattle.request_rules.specs.Heads.{HeadParts, request_with}

-- What a request's text still waits for.
pub data Stage : Type 0 where
  -- nothing: it is whole
  Whole : Stage
  -- so many octets of the declared body
  Counting : (left : ℕ) → Stage
  -- the end; this octet, its last, is held back
  Holding : (octet : ℕ) → Stage
  -- chunks and the end
  Chunking : Stage

-- how many octets are held back of a text at a stage
abbrev pub held_back : Stage → ℕ
held_back (Holding octet) = 1
held_back stage = 0

-- the most octets of the line of a chunk's size: sixteen digits, and the end of the line
abbrev pub most_line : ℕ
most_line = 18

-- the text of a head that ended its stream or didn't, on a connection that is kept or isn't
abbrev pub head_of : Bool → HeadParts → Bool → List ℕ
head_of keep parts ended = head_text keep (request_with parts [] []) (framing_of parts.length ended)

-- The whole text was sent, for a body of these pieces, and these trailers.
pub record SentWhole (keep : Bool) (parts : HeadParts) (ended : Bool) (text : List ℕ) (pieces : List (List ℕ)) (trailers : List Field) : Type 0 where
  pub none_ended : ended ≡ true → (pieces ≡ []) × (trailers ≡ [])
  pub full : list_all (λ piece. not (is_empty piece)) pieces ≡ true
  pub has_length : HasLength parts.length (concat pieces)
  pub is : text ≡ head_of keep parts ended ++ content_of parts.length ended pieces trailers

-- The head was sent and these pieces, and so many octets of the declared body are still to come.
pub record SentCounting (keep : Bool) (parts : HeadParts) (ended : Bool) (text : List ℕ) (pieces : List (List ℕ)) (left : ℕ) : Type 0 where
  pub not_ended : ended ≡ false
  pub full : list_all (λ piece. not (is_empty piece)) pieces ≡ true
  pub declared : parts.length ≡ Some (length (concat pieces) + left)
  pub more : 0 < left
  pub is : text ≡ head_of keep parts false ++ concat pieces

-- The whole text but its last octet was sent.
pub record SentHolding (keep : Bool) (parts : HeadParts) (ended : Bool) (text : List ℕ) (pieces : List (List ℕ)) (octet : ℕ) : Type 0 where
  pub not_ended : ended ≡ false
  pub full : list_all (λ piece. not (is_empty piece)) pieces ≡ true
  pub declared : parts.length ≡ Some (length (concat pieces))
  pub is : text ++ octet ∷ [] ≡ head_of keep parts false ++ concat pieces

-- The head was sent and these pieces as chunks.
pub record SentChunking (keep : Bool) (parts : HeadParts) (ended : Bool) (text : List ℕ) (pieces : List (List ℕ)) : Type 0 where
  pub not_ended : ended ≡ false
  pub full : list_all (λ piece. not (is_empty piece)) pieces ≡ true
  pub undeclared : parts.length ≡ None
  pub is : text ≡ head_of keep parts false ++ flat_map chunk_text pieces

-- This text was sent for a head, which ended its stream or didn't, the pieces of its body that came, and its trailers. These are written
-- with the last of the text, so that one which isn't whole has none, whatever they will be.
abbrev pub Sending : Bool → HeadParts → Bool → List ℕ → List (List ℕ) → List Field → Stage → Type 0
Sending keep parts ended text pieces trailers Whole = SentWhole keep parts ended text pieces trailers
Sending keep parts ended text pieces trailers (Counting left) = SentCounting keep parts ended text pieces left
Sending keep parts ended text pieces trailers (Holding octet) = SentHolding keep parts ended text pieces octet
Sending keep parts ended text pieces trailers Chunking = SentChunking keep parts ended text pieces

-- This text of a head is sent, and then that is waited for.
abbrev pub Begins : Option ℕ → Bool → List ℕ → List ℕ → Stage → Type 0
Begins declared ended head text Whole = (ended ≡ true) × (text ≡ head)
Begins declared ended head text (Counting left) = (ended ≡ false) × (declared ≡ Some left) × (0 < left) × (text ≡ head)
Begins declared ended head text (Holding octet) = (ended ≡ false) × (declared ≡ Some 0) × (head ≡ text ++ octet ∷ [])
Begins declared ended head text Chunking = (ended ≡ false) × (declared ≡ None) × (text ≡ head)

-- so many octets of the body may be pushed
abbrev pub MayPush : Stage → ℕ → Type 0
MayPush Whole count = ⊥
MayPush (Counting left) count = count ≤ left
MayPush (Holding octet) count = count ≡ 0
MayPush Chunking count = Unit {0}

-- the most octets that are written for octets of the body, at a stage: those of a chunk, or these themselves
abbrev pub most_pushed : Stage → List ℕ → ℕ
most_pushed Chunking octets = length (chunk_text octets)
most_pushed stage octets = length octets

-- the text may be ended
abbrev pub MayFinish : Stage → Type 0
MayFinish Whole = ⊥
MayFinish (Counting left) = ⊥
MayFinish (Holding octet) = Unit {0}
MayFinish Chunking = Unit {0}

-- octets as pieces: none makes no piece
abbrev pub piece_of : List ℕ → List (List ℕ)
piece_of [] = []
piece_of (octet ∷ octets) = (octet ∷ octets) ∷ []

-- Whatever was sent and pushed before a call, with what it writes and is given, octets and trailers, it is so again.
abbrev pub Continues : Stage → List ℕ → List ℕ → List Field → Stage → Type 0
Continues old written octets trailers new =
    (keep : Bool) (parts : HeadParts) (ended : Bool) (text : List ℕ) (pieces : List (List ℕ))
    → Sending keep parts ended text pieces [] old → Sending keep parts ended (text ++ written) (pieces ++ piece_of octets) trailers new

-- A text goes on to a whole one, which reads as the forwarded request with this body and these trailers: it is a strict front of it.
pub record GoesOnTo (keep : Bool) (parts : HeadParts) (text body : List ℕ) (trailers : List Field) : Type 0 where
  pub whole : List ℕ
  pub reads : H1Kept keep whole (forward (request_with parts body trailers))
  pub is_front : IsStrictFront text whole

-- with so many octets more, the pieces are at most as long as declared
abbrev pub HasRoom : Option ℕ → List (List ℕ) → ℕ → Type 0
HasRoom None pieces count = Unit {0}
HasRoom (Some declared) pieces count = length (concat pieces) + count ≤ declared

-- what follows a head holds all octets that came: as they are where a length is declared, else in chunks
abbrev pub HoldsAll : Option ℕ → List (List ℕ) → List ℕ → Type 0
HoldsAll (Some declared) pieces content = content ≡ concat pieces
HoldsAll None pieces content = IsFront (flat_map chunk_text pieces) content

-- Nothing is missing, or one octet where as many came as were declared.
abbrev pub MissesLast : Option ℕ → List (List ℕ) → List ℕ → Type 0
MissesLast declared pieces [] = Unit {0}
MissesLast declared pieces (_ ∷ []) = declared ≡ Some (length (concat pieces))
MissesLast declared pieces (_ ∷ _ ∷ _) = ⊥

-- With what is missing, an octet at most and that the last of a declared length, a text is its whole head and all octets that came.
pub record LacksAtMostOne (keep : Bool) (parts : HeadParts) (ended : Bool) (text : List ℕ) (pieces : List (List ℕ)) : Type 0 where
  pub missing : List ℕ
  pub is_last : MissesLast parts.length pieces missing
  pub content : List ℕ
  pub is : text ++ missing ≡ head_of keep parts ended ++ content
  pub holds_all : HoldsAll parts.length pieces content
