-- Why the gateway answers a request itself, and with what (this project's profile; statuses from RFC 9110, section 15).
use Rattle.std.specs.Prelude.{ℕ, Bool, true, false, not, ◌&&◌, ◌||◌, ◌==◌, nat_lt, if◌then◌else◌, List, [], ◌∷◌, codes, bytes_eq, Option, Some, None}
use Rattle.std.specs.List.{list_any}
use Rattle.model.specs.Limits.{largest_fields}
use Rattle.model.specs.Octets.{is_empty, lower}
use Rattle.model.specs.Messages.{Field}
use Rattle.model.specs.Frames.{enhance_your_calm, internal_error}
use Rattle.model.specs.Tables.{total_size}
use Rattle.model.specs.Http2.{is_connect, declared_length, authority_of, path_of}
use Rattle.model.specs.ResponseHeads.{Head}
use Rattle.model.specs.Deliveries.{Delivery}
use Rattle.model.specs.Setup.{Setup, Route}

pub data Cause : Type 0 where
  -- the fields of a head or of trailers are too large
  LargeFields : Cause
  -- a tunnel is asked for, which isn't offered
  Tunnel : Cause
  -- something is expected, which isn't offered
  Expects : Cause
  -- the body is, or is to be, longer than the gateway takes
  LargeBody : Cause
  -- no route matches
  NoRoute : Cause
  -- the upstream failed, or answered what is no response
  BadAnswer : Cause

abbrev pub status_of : Cause → ℕ
status_of LargeFields = 431
status_of Tunnel = 501
status_of Expects = 417
status_of LargeBody = 413
status_of NoRoute = 404
status_of BadAnswer = 502

-- the head of the reply, which has no body
abbrev pub reply_head : Cause → Head
reply_head cause = record { status = status_of cause; fields = record { name = codes "content-length"; value = codes "0" } ∷ [] }

-- the whole reply, behind interim heads that were sent
abbrev pub reply : List Head → Cause → Delivery
reply interims cause = record { interims = interims; head = Some (reply_head cause); body = []; ends = Some [] }

-- The code of the reset that stands for the reply, where the final head of a response is already out. The other causes come
-- with a request's head, before any response.
abbrev pub reset_code : Cause → Option ℕ
reset_code LargeFields = Some enhance_your_calm
reset_code LargeBody = Some enhance_your_calm
reset_code BadAnswer = Some internal_error
reset_code _ = None

abbrev pub are_large : List Field → Bool
are_large fields = nat_lt largest_fields (total_size fields)

-- a front of a text
abbrev pub is_front_of : List ℕ → List ℕ → Bool
is_front_of [] text = true
is_front_of (octet ∷ octets) [] = false
is_front_of (octet ∷ octets) (first ∷ rest) = octet == first && is_front_of octets rest

-- the route matches, as `Matches` says it
abbrev pub is_match : List ℕ → List ℕ → Route → Bool
is_match authority path route =
    (is_empty route.authority || bytes_eq (lower route.authority) (lower authority))
    && (is_front_of route.path path || bytes_eq path (codes "*") && bytes_eq route.path (codes "/"))

abbrev pub is_routed : List Route → List Field → Bool
is_routed routes head = list_any (is_match (authority_of head) (path_of head)) routes

abbrev pub has_field : List ℕ → List Field → Bool
has_field name fields = list_any (λ field. bytes_eq field.name name) fields

-- more than so many octets are declared
abbrev pub declares_past : ℕ → Option ℕ → Bool
declares_past most None = false
declares_past most (Some declared) = nat_lt most declared

abbrev pub cause_if : Bool → Cause → Option Cause
cause_if holds cause = if holds then Some cause else None

-- the first of these that is there
abbrev pub first_cause : List (Option Cause) → Option Cause
first_cause [] = None
first_cause (None ∷ later) = first_cause later
first_cause (Some cause ∷ later) = Some cause

-- why a request is answered at its head
abbrev pub cause_of_head : Setup → List Field → Option Cause
cause_of_head setup head =
    first_cause (
    cause_if (are_large head) LargeFields
    ∷ cause_if (is_connect head) Tunnel
    ∷ cause_if (has_field (codes "expect") head) Expects
    ∷ cause_if (declares_past setup.max_body (declared_length head)) LargeBody
    ∷ cause_if (not (is_routed setup.routes head)) NoRoute
    ∷ []
    )
