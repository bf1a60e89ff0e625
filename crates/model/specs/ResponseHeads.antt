-- Heads of responses, as a client of an HTTP/1.1 server reads them (RFC 9112, sections 2 to 6). How a head is spelled says
-- the grammar of httparse (this project's profile); here stands what it means, and which heads are taken.
use Rattle.std.specs.Prelude.{◌≡◌, ℕ, ◌<◌, ◌≤◌, Bool, true, ◌&&◌, ◌||◌, ◌==◌, nat_le, nat_lt, if◌then◌else◌, List, []}
use Rattle.std.specs.Prelude.{◌∷◌, ◌++◌, length, map, Option, Some, None, codes, bytes_eq}
use Rattle.std.specs.List.{list_all, flat_map}
use Rattle.std.specs.Str.Parse.{digits_value}
use Rattle.httparse.specs.Grammar as grammar
use Rattle.httparse.specs.Grammar.{ReadsResponse, status_code, field_value, trim_ows}
use Rattle.model.specs.Limits.{longest_section, most_fields}
use Rattle.model.specs.Octets.{some_of, is_digit, is_value_octet, lower}
use Rattle.model.specs.Messages.{Field}
use Rattle.model.specs.Http1.{values_of, without}
use Rattle.model.specs.Http2.{connection_names, names_not_in_trailers}

-- A head as it is passed back: its status, and its fields with names in lower case.
pub record Head : Type 0 where
  pub status : ℕ
  pub fields : List Field

-- A line's field: the name in lower case, the value without the spaces and tabs at its ends (RFC 9112, section 5).
abbrev pub meant : grammar.Field → Field
meant line = record { name = lower line.name; value = field_value line }

-- each octet of each value may stand in one (RFC 9110, section 5.5)
abbrev pub values_hold : List grammar.Field → Bool
values_hold lines = list_all (λ line. list_all is_value_octet (field_value line)) lines

-- The text is a whole head that is taken: not too long, not too many fields, a status of 100 or more, and no change of
-- protocols, which the gateway never asks for (RFC 9110, section 15.2.2).
pub record IsTaken (text : List ℕ) (spelled : grammar.ResponseHead) : Type 0 where
  pub reads : ReadsResponse text spelled []
  pub is_short : length text ≤ longest_section
  pub has_few : length spelled.fields ≤ most_fields
  pub values : values_hold spelled.fields ≡ true
  pub has_class : 100 ≤ status_code spelled
  pub no_upgrade : status_code spelled ≡ 101 → ⊥

-- the octet before the first of these texts
abbrev pub longer : ℕ → List (List ℕ) → List (List ℕ)
longer octet [] = (octet ∷ []) ∷ []
longer octet (text ∷ texts) = (octet ∷ text) ∷ texts

-- a text cut at each octet of a kind
abbrev pub cut_at : ℕ → List ℕ → List (List ℕ)
cut_at mark [] = [] ∷ []
cut_at mark (octet ∷ octets) = if octet == mark then [] ∷ cut_at mark octets else longer octet (cut_at mark octets)

-- the names in a value of Connection, between commas, without case (RFC 9110, section 7.6.1)
abbrev pub names_in : List ℕ → List (List ℕ)
names_in value = map (λ part. lower (trim_ows part)) (cut_at 44 value)

-- the names that the fields Connection name
abbrev pub named_by_connection : List Field → List (List ℕ)
named_by_connection fields = flat_map names_in (values_of (codes "connection") fields)

-- the fields without all of a name but the first
abbrev pub with_one : List ℕ → List Field → List Field
with_one name [] = []
with_one name (field ∷ fields) = if bytes_eq field.name name then field ∷ without (name ∷ []) fields else field ∷ with_one name fields

-- The status alone says that there is no body: an interim head, or 204 (RFC 9110, section 15.3.5).
abbrev pub never_has_body : ℕ → Bool
never_has_body status = nat_lt status 200 || status == 204

-- The fields without what framing leaves no meaning: where there is never a body, all that frames one; else a repeated
-- length (RFC 9112, sections 6.1 to 6.3).
abbrev pub without_framing : ℕ → List Field → List Field
without_framing status fields =
    if never_has_body status then without (codes "content-length" ∷ codes "transfer-encoding" ∷ []) fields else with_one (codes "content-length") fields

-- The names of fields that are a connection's, and in no response: those that aren't in a request either, and te, which may be (RFC
-- 9113, section 8.2.2).
abbrev pub names_of_connection : List (List ℕ)
names_of_connection = codes "te" ∷ connection_names

-- The fields that are passed back: all but those of the connection, and those that Connection names (RFC 9110, section
-- 7.6.1).
abbrev pub passed : List Field → List Field → List Field
passed all fields = without (names_of_connection ++ named_by_connection all) fields

-- The trailers that are passed back, where the Connection of the head named these: none of the names that no trailers pass on, none of
-- the connection, and none that the trailers' own Connection names.
abbrev pub trailers_passed : List (List ℕ) → List grammar.Field → List Field
trailers_passed named lines =
    let fields = map meant lines in without (names_not_in_trailers ++ names_of_connection ++ named ++ named_by_connection fields) fields

-- what a head says, as it is passed back
abbrev pub head_of : grammar.ResponseHead → Head
head_of spelled =
    let fields = map meant spelled.fields in
    record { status = status_code spelled; fields = passed fields (without_framing (status_code spelled) fields) }

-- How a body ends (RFC 9112, section 6.3).
pub data Framing : Type 0 where
  -- there is none
  Bodiless : Framing
  -- with the last of its chunks, and trailers, of which those aren't passed back that the head's Connection named
  Chunks : (named : List (List ℕ)) → Framing
  -- behind so many octets
  Sized : (count : ℕ) → Framing
  -- where the server ends the connection
  UntilEnd : Framing

-- a length of 1 to 18 digits (this project's profile)
abbrev pub is_length : List ℕ → Bool
is_length text = some_of is_digit text && nat_le (length text) 18

-- What the lines content-length and transfer-encoding say, where Connection named these, by the minor version (RFC 9112, sections 6.1
-- to 6.3): neither, and the body goes on until the end; one coding, which is chunked, and not in HTTP/1.0; or lengths that are
-- all the same. Any other lot of lines says nothing, and the head is refused.
abbrev pub framed_by : List (List ℕ) → ℕ → List (List ℕ) → List (List ℕ) → Option Framing
framed_by named minor [] [] = Some UntilEnd
framed_by named minor [] (coding ∷ []) = if minor == 1 && bytes_eq (lower coding) (codes "chunked") then Some (Chunks named) else None
framed_by named minor (digits ∷ others) [] = if is_length digits && list_all (bytes_eq digits) others then Some (Sized (digits_value 10 digits)) else None
framed_by named minor _ _ = None

-- a body that may not be there has no end to be found
abbrev pub unless_bodiless : Bool → Option Framing → Option Framing
unless_bodiless bodiless None = None
unless_bodiless bodiless (Some framing) = if bodiless then Some Bodiless else Some framing

-- How a body is framed by the minor version, the status and the fields of its head: a 204 has none, and a head that answers HEAD and
-- a 304 have none if their lines are as a body's would be (RFC 9112, section 6.3).
abbrev pub framing_for : Bool → ℕ → ℕ → List Field → Option Framing
framing_for to_head minor status fields =
    if status == 204
    then Some Bodiless
    else (unless_bodiless (to_head || status == 304) (framed_by (named_by_connection fields) minor (values_of (codes "content-length") fields)
    (values_of (codes "transfer-encoding") fields)))

-- how the body of a final head is framed
abbrev pub framing_of : Bool → grammar.ResponseHead → Option Framing
framing_of to_head spelled = framing_for to_head spelled.minor (status_code spelled) (map meant spelled.fields)

-- The text is an interim head (RFC 9110, section 15.2).
pub record Interim (text : List ℕ) (head : Head) : Type 0 where
  pub spelled : grammar.ResponseHead
  pub taken : IsTaken text spelled
  pub is_interim : status_code spelled < 200
  pub says : head ≡ head_of spelled

-- The text is a final head, whose body is framed in this way.
pub record Final (to_head : Bool) (text : List ℕ) (head : Head) (framing : Framing) : Type 0 where
  pub spelled : grammar.ResponseHead
  pub taken : IsTaken text spelled
  pub is_final : 200 ≤ status_code spelled
  pub framed : framing_of to_head spelled ≡ Some framing
  pub says : head ≡ head_of spelled
