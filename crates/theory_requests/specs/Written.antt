-- The text that was written for the items of a stream, and the heads of which one may be.
use Rattle.std.specs.Prelude.{◌≡◌, ℕ, Bool, true, false, List, [], ◌∷◌}
use Rattle.std.specs.List.{concat, list_any, list_all}
use Rattle.model.specs.Messages.{Field, Item, ends_with}
use Rattle.model.specs.Messages.Item.{Block, Content}
use Rattle.model.specs.Http2.{WellFormedHead, HasLength, is_connect, declared_length, body_of, first_block, passed_trailers, AreContents, EndsWithLast}
use Rattle.model.specs.Setup.{Setup}
use Rattle.model.specs.Causes.{is_routed}
use Rattle.request_rules.specs.Heads.{parts_of}
use Rattle.h1_writer.specs.Sending.{Stage, Sending}
use Rattle.h1_writer.specs.Sending.Stage.{Whole}

-- the item is octets of the body
abbrev pub is_content : Item → Bool
is_content (Content octets ends) = true
is_content (Block fields ends) = false

-- the octets of the body that an item brings
abbrev pub octets_of : Item → List ℕ
octets_of (Content octets ends) = octets
octets_of (Block fields ends) = []

-- the trailers that an item brings, as far as they are passed on
abbrev pub trailers_in : Item → List Field
trailers_in (Content octets ends) = []
trailers_in (Block fields ends) = passed_trailers fields

-- This text was written for the items, for a connection that is kept or isn't, and that is waited for: it is whole just where they come
-- to the stream's end.
pub record IsWritten (keep : Bool) (items : List Item) (text : List ℕ) (stage : Stage) : Type 0 where
  pub head : List Field
  pub ended : Bool
  pub more : List Item
  pub pieces : List (List ℕ)
  pub is : items ≡ Block head ended ∷ more
  pub well_formed : WellFormedHead head
  pub no_connect : is_connect head ≡ false
  pub sending : Sending keep (parts_of head) ended text pieces (passed_trailers (first_block more)) stage
  pub body : concat pieces ≡ body_of more
  pub contents : AreContents more
  pub ends : stage ≡ Whole → EndsWithLast items
  pub plain : (stage ≡ Whole → ⊥) → list_all is_content more ≡ true
  pub goes_on : (stage ≡ Whole → ⊥) → list_any ends_with items ≡ false

-- This text was written for the head of these items, which go on, and that is waited for; these octets of their body weren't written yet.
pub record IsAwaited (keep : Bool) (items : List Item) (text : List ℕ) (stage : Stage) (body : List ℕ) : Type 0 where
  pub head : List Field
  pub more : List Item
  pub is : items ≡ Block head false ∷ more
  pub well_formed : WellFormedHead head
  pub no_connect : is_connect head ≡ false
  pub sending : Sending keep (parts_of head) false text [] [] stage
  pub part : stage ≡ Whole → ⊥
  pub body_is : body ≡ body_of more
  pub plain : list_all is_content more ≡ true
  pub goes_on : list_any ends_with items ≡ false

-- A head that is taken: well-formed, no tunnel, with a route, and of no body where it ends the stream.
pub record IsTaken (setup : Setup) (head : List Field) (ends : Bool) : Type 0 where
  pub well_formed : WellFormedHead head
  pub no_connect : is_connect head ≡ false
  pub routed : is_routed setup.routes head ≡ true
  pub no_body : ends ≡ true → HasLength (declared_length head) []
