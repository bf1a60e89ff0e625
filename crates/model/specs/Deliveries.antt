-- What a client reads of one stream (RFC 9113, section 8.1): heads, a body and trailers, by the items that the gateway's frames bring
-- it, the oldest first.
use Rattle.std.specs.Prelude.{◌≡◌, ◌≢◌, ℕ, ◌<◌, ◌≤◌, true, false, List, [], ◌∷◌, ◌++◌, length, codes, Option, Some, None}
use Rattle.std.specs.List.{list_all}
use Rattle.std.specs.Str.Parse.{digits_value}
use Rattle.model.specs.Octets.{IsFront, is_digit}
use Rattle.model.specs.Messages.{Field, Item}
use Rattle.model.specs.Messages.Item.{Block, Content}
use Rattle.model.specs.Http2.{pseudo_fields}
use Rattle.model.specs.ResponseHeads.{Head}

-- How a response ends: its trailers, perhaps none, once it is whole; nothing while more of it may come.
abbrev pub End : Type 0
End = Option (List Field)

-- What has come of a response: its interim heads, its head once that is there, octets of its body, and how it ended, if it did.
pub record Delivery : Type 0 where
  pub interims : List Head
  pub head : Option Head
  pub body : List ℕ
  pub ends : End

-- nothing has come yet
abbrev pub nothing : Delivery
nothing = record { interims = []; head = None; body = []; ends = None }

-- The field section of a response's head (section 8.3.2): the status in three digits, which is its one pseudo-field, and
-- behind it the fields.
pub record IsSection (fields : List Field) (head : Head) : Type 0 where
  pub digits : List ℕ
  pub is : fields ≡ record { name = codes ":status"; value = digits } ∷ head.fields
  pub three : length digits ≡ 3
  pub are_digits : list_all is_digit digits ≡ true
  pub status : head.status ≡ digits_value 10 digits
  pub no_other : pseudo_fields head.fields ≡ []

-- the head that a field section says
abbrev pub head_said : List Field → Head
head_said [] = record { status = 0; fields = [] }
head_said (status ∷ fields) = record { status = digits_value 10 status.value; fields = fields }

-- the heads that items say, in their order
abbrev pub heads_in : List Item → List Head
heads_in [] = []
heads_in (Block fields ends ∷ items) = head_said fields ∷ heads_in items
heads_in (Content octets ends ∷ items) = heads_in items

-- The items are interim heads, one after another; none of them ends the stream (section 8.1).
abbrev pub AreInterims : List Item → List Head → Type 0
AreInterims [] [] = Unit {0}
AreInterims (Block fields false ∷ items) (head ∷ heads) = IsSection fields head × (head.status < 200) × AreInterims items heads
AreInterims _ _ = ⊥

-- The items are a body's octets, in parts; the stream ends with the last part, or behind it with a block of trailers, or hasn't ended.
abbrev pub AreContents : List Item → List ℕ → End → Type 0
AreContents [] body ends = (body ≡ []) × (ends ≡ None)
AreContents (Content octets true ∷ items) body ends = (items ≡ []) × (body ≡ octets) × (ends ≡ Some [])
AreContents (Content octets false ∷ items) body ends = (rest : List ℕ) × (body ≡ octets ++ rest) × AreContents items rest ends
AreContents (Block fields true ∷ items) body ends = (items ≡ []) × (body ≡ []) × (ends ≡ Some fields) × (fields ≢ []) × (pseudo_fields fields ≡ [])
AreContents (Block fields false ∷ items) body ends = ⊥

-- The items are a final head, and the body and trailers behind it where the head doesn't end the stream.
abbrev pub IsAnswer : List Item → Head → List ℕ → End → Type 0
IsAnswer (Block fields true ∷ items) head body ends = IsSection fields head × (200 ≤ head.status) × (items ≡ []) × (body ≡ []) × (ends ≡ Some [])
IsAnswer (Block fields false ∷ items) head body ends = IsSection fields head × (200 ≤ head.status) × AreContents items body ends
IsAnswer _ head body ends = ⊥

-- The items are a final head and what stands behind it, or there is none yet.
abbrev pub IsAnsweredBy : List Item → Option Head → List ℕ → End → Type 0
IsAnsweredBy items None body ends = (items ≡ []) × (body ≡ []) × (ends ≡ None)
IsAnsweredBy items (Some head) body ends = IsAnswer items head body ends

-- A client that was brought these items has read this of a response, and nothing else.
pub record ReadsAs (items : List Item) (delivery : Delivery) : Type 0 where
  pub interim_items : List Item
  pub rest : List Item
  pub is : items ≡ interim_items ++ rest
  pub interims : AreInterims interim_items delivery.interims
  pub answer : IsAnsweredBy rest delivery.head delivery.body delivery.ends

-- A response begins with these parts, and where they have its end they are all of it.
pub record IsPartBehind (part all : Delivery) (head : Head) : Type 0 where
  pub interims : part.interims ≡ all.interims
  pub head_is : all.head ≡ Some head
  pub body : IsFront part.body all.body
  pub ended : (trailers : List Field) → part.ends ≡ Some trailers → (all.ends ≡ Some trailers) × (part.body ≡ all.body)

-- no more than interim heads of a response
pub record IsPartBefore (part all : Delivery) : Type 0 where
  pub more : List Head
  pub interims : all.interims ≡ part.interims ++ more
  pub no_body : part.body ≡ []
  pub not_ended : part.ends ≡ None

-- The part, whose head is this one if it has one, is a front of a response.
abbrev pub IsPart : Option Head → Delivery → Delivery → Type 0
IsPart None part all = IsPartBefore part all
IsPart (Some head) part all = IsPartBehind part all head

-- What has come is a front of a response.
abbrev pub IsPartOf : Delivery → Delivery → Type 0
IsPartOf part all = IsPart part.head part all
