-- What the first header block of a stream comes to, and how a later one is read.
use Rattle.std.specs.Prelude.{◌≡◌, ℕ, Bool, true, false, List, [], ◌∷◌, codes, Option, Some, None}
use Rattle.model.specs.Messages.{Field}
use Rattle.model.specs.Http2.{HasLength, authority_of, path_of, declared_length, is_connect}
use Rattle.model.specs.Tapes.Note.{Fields}
use Rattle.model.specs.Malformed.{Carried, carried_by}
use Rattle.model.specs.ErrorTable.{is_bad_block}
use Rattle.model.specs.Setup.{Setup, IsFirstMatch}
use Rattle.model.specs.Causes as local_replies
use Rattle.model.specs.Causes.{has_field, declares_past, cause_if, cause_of_head}
use Rattle.request_rules.specs.Heads.{HeadParts, parts_of, IsRequestHead}
use Rattle.local_replies.specs.Views.{cause_of}
use Rattle.local_replies.specs.declared.opening.Opening.{Opening}
use Rattle.local_replies.specs.declared.opening.Opening.TheVariants as opening

-- these fields are malformed as a head, that is with nothing of their stream before them
abbrev pub is_bad_head : List Field → Bool → Bool
is_bad_head fields ended = is_bad_block (carried_by [] false) ended (Fields fields)

-- why a head that isn't too large is answered whatever the routes are: each cause, where it is one
abbrev pub causes_without_routes : ℕ → List Field → List (Option local_replies.Cause)
causes_without_routes most head =
    cause_if (is_connect head) local_replies.Cause.Tunnel
    ∷ cause_if (has_field (codes "expect") head) local_replies.Cause.Expects
    ∷ cause_if (declares_past most (declared_length head)) local_replies.Cause.LargeBody
    ∷ []

-- The gateway answers a head itself, and this length is declared by it.
pub record IsAnswered (setup : Setup) (fields : List Field) (cause : local_replies.Cause) (length : Option ℕ) : Type 0 where
  pub because : cause_of_head setup fields ≡ Some cause
  pub declares : length ≡ declared_length fields

-- A head goes on: these are its parts, and it takes the first route that matches. Where it ends its stream, it declares no body.
pub record GoesOn (setup : Setup) (fields : List Field) (ended : Bool) (head : HeadParts) (route : ℕ) : Type 0 where
  pub no_cause : cause_of_head setup fields ≡ None
  pub parts : head ≡ parts_of fields
  pub request : IsRequestHead head
  pub no_body : ended ≡ true → HasLength head.length []
  pub by_route : IsFirstMatch setup.routes (authority_of fields) (path_of fields) route

-- what a head comes to, which ends its stream or doesn't
abbrev pub ComesTo : Setup → List Field → Bool → Opening → Type 0
ComesTo setup fields ended opening.Malformed = is_bad_head fields ended ≡ true
ComesTo setup fields ended (opening.Answered cause length) = (is_bad_head fields ended ≡ false) × IsAnswered setup fields (cause_of cause) length
ComesTo setup fields ended (opening.Forwarded head route) = (is_bad_head fields ended ≡ false) × GoesOn setup fields ended head route

-- a stream whose head came and declared this, and so many octets of its body; it waits for a reply of the gateway's own or doesn't
abbrev pub behind_head : Option ℕ → ℕ → Bool → Carried
behind_head declared octets waits = record { begun = true; declared = declared; octets = octets; waits = waits }
