-- Which fields of a head are sent on, and which of trailers.
use Rattle.std.specs.Prelude.{Bool, not, ◌&&◌, [], ◌∷◌, codes, bytes_eq}
use Rattle.std.specs.List.{list_any}
use Rattle.model.specs.Messages.{Field}
use Rattle.model.specs.Http2.{names_not_in_trailers, is_pseudo, is_cookie, is_empty_cookie}

-- a field that a request has beside its other parts: no pseudo-field, none of these names, no empty cookie
abbrev pub is_sent : Field → Bool
is_sent field =
    not (is_pseudo field) && not (list_any (bytes_eq field.name) (codes "host" ∷ codes "te" ∷ codes "content-length" ∷ []))
    && not (is_empty_cookie field)

-- such a field that is a cookie
abbrev pub is_full_cookie : Field → Bool
is_full_cookie field = is_sent field && is_cookie field

-- such a field that is none
abbrev pub is_plain : Field → Bool
is_plain field = is_sent field && not (is_cookie field)

-- a field of trailers that is passed on
abbrev pub is_passed : Field → Bool
is_passed field = not (list_any (bytes_eq field.name) names_not_in_trailers)
