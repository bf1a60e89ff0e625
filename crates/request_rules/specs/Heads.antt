-- What a checked head says.
use Rattle.std.specs.Prelude.{◌≡◌, ℕ, false, List, Option}
use Rattle.model.specs.Messages.{Field, Request}
use Rattle.model.specs.Http2.{method_of, path_of, authority_of, fields_of, declared_length, trailers_beside, is_connect, WellFormedHead}

-- the parts of a head that a request is made of, and the length that it declares
pub record HeadParts : Type 0 where
  pub method : List ℕ
  pub path : List ℕ
  pub authority : List ℕ
  pub fields : List Field
  pub length : Option ℕ

-- the parts of these fields
abbrev pub parts_of : List Field → HeadParts
parts_of head = record {
  method = method_of head;
  path = path_of head;
  authority = authority_of head;
  fields = fields_of head;
  length = declared_length head;
}

-- These are the parts of a well-formed head that isn't CONNECT's.
pub record IsRequestHead (parts : HeadParts) : Type 0 where
  pub head : List Field
  pub well_formed : WellFormedHead head
  pub no_connect : is_connect head ≡ false
  pub is : parts ≡ parts_of head

-- the request of a head's parts, a body, and trailers that are passed on, which stand beside no declared length
abbrev pub request_with : HeadParts → List ℕ → List Field → Request
request_with parts body trailers = record {
  method = parts.method;
  target = parts.path;
  authority = parts.authority;
  fields = parts.fields;
  body = body;
  trailers = trailers_beside parts.length trailers;
}
