-- What is meant by a request, whichever version of HTTP it is read by (RFC 9110).
use Rattle.std.specs.Prelude.{ℕ, Bool, List}

-- A field line: its name, in lower case where it is a meaning, and its value.
pub record Field : Type 0 where
  pub name : List ℕ
  pub value : List ℕ

-- A request: the target is the path with its query; the fields are those of the message beside the ones that the other
-- parts of the meaning hold; trailers are the fields that stand behind its body.
pub record Request : Type 0 where
  pub method : List ℕ
  pub target : List ℕ
  pub authority : List ℕ
  pub fields : List Field
  pub body : List ℕ
  pub trailers : List Field

-- What a stream of HTTP/2 carries, in its order (RFC 9113, section 8.1): the fields of a header block, or octets of the
-- body without padding, each with whether it ends the stream.
pub data Item : Type 0 where
  Block : (fields : List Field) → (ends : Bool) → Item
  Content : (octets : List ℕ) → (ends : Bool) → Item

-- whether an item ends the stream
abbrev pub ends_with : Item → Bool
ends_with (Block fields ends) = ends
ends_with (Content octets ends) = ends
